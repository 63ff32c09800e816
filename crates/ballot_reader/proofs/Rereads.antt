-- What is spelled is read.
use Rattle.std.proofs.Common.{◌≡◌, ◌<◌, ◌≤◌, ◌+◌, ◌∷◌, [], ◌++◌, ◌∙◌, ◌&&◌, ◌||◌, ◌==◌, ℕ, zero, suc, true, false, not, cond, List, Some, None, Ok, Err, length, map, take, get_or, decimal, codes, refl, sym, ap, arith, lt-ltb, length-append, append_assoc}
use Rattle.std.specs.Prelude.{All, IsTrue, filter, if◌then◌else◌, option_map, option_and_then, nat_le, nat_lt}
use Rattle.std.specs.List.{list_all, range_with_len}
use Rattle.std.proofs.lemmas.Bool.{and_parts, and_from, not-true}
use Rattle.std.proofs.lemmas.Cmp.{nat_list_eq_equiv}
use Rattle.std.proofs.lemmas.Fmt.{digits_decimal, decimal_nonempty, digits_value-decimal, length-decimal-le}
use Rattle.std.proofs.lemmas.List.{append-nil}
use Rattle.std.proofs.lemmas.List.Elements.{All-head, All-tail}
use Rattle.std.proofs.lemmas.List.Sums.{position_or_len_is}
use Rattle.csv_rows.specs.Numbers.{number_of}
use Rattle.csv_rows.specs.Rows.{Fields}
use Rattle.csv_rows.proofs.Numbers.{is_number-from, own}
use Rattle.irv_base.specs.Candidates.{is_in, is_distinct}
use Rattle.irv_base.specs.Names.{Id, is_name, is_same, is_among, all_differ, candidate_named}
use Rattle.irv_base.specs.Records.{firsts}
use Rattle.irv_base.specs.declared.limits.TheConstants.{FEWEST_CANDIDATES, MOST_CANDIDATES, MOST_NUMBER_DIGITS, MOST_RECORDS}
use Rattle.ballots.specs.Ballots.{BallotFile}
use Rattle.ballots.specs.Grammar.{Ballot, Contest, all_of, ballot_for, ballot_ids, ballot_in, ballots_after, ballots_behind, ballots_in, contest_named, contest_of, contest_with, file_of, has_audited_size, is_marked, listed, names_of, number_up_to, ranking_of, then_on}
use Rattle.file_fault.specs.Refusals.{and_then, refused}
use Rattle.ballot_reader.specs.Laws.{WhatIsSpelledIsRead, ballot_records, id_of}
use Rattle.ballots.specs.declared.fault.BRule.TheVariants.{B2, B3, B4}
use Rattle.ballots.specs.declared.limits.TheConstants.{MOST_CONTESTS, MOST_LISTED}
use Rattle.ballot_reader.proofs.Adding.{Meets, ids-own, ranked}
use Rattle.ballot_ids.proofs.Differing.{differ-split, or-false}

same-itself : (a : Id) → is_same a a ≡ true
same-itself a = nat_list_eq_equiv.refl a

le-nat_le : (a b : ℕ) → a ≤ b → nat_le a b ≡ true
le-nat_le a b h = grind arith

-- ---- different places of a list of ids that differ have different ids

among-at : (ids : List Id) (id : Id) (i : ℕ) → is_among ids id ≡ false → i < length ids → is_same (get_or ids i []) id ≡ false
among-at [] id i h l = absurd (omega arith)
among-at (a ∷ ids) id zero h l = (or-false (is_same a id) (is_among ids id) h).0
among-at (a ∷ ids) id (suc i) h l = among-at ids id i (or-false (is_same a id) (is_among ids id) h).1 (omega arith)

differ-at : (ids : List Id) (k i : ℕ) → all_differ ids ≡ true → k < i → i < length ids → is_same (get_or ids k []) (get_or ids i []) ≡ false
differ-at [] k i h l m = absurd (omega arith)
differ-at (a ∷ ids) k zero h l m = absurd (omega arith)
differ-at (a ∷ ids) zero (suc i) h l m =
    let (out, apart) = and_parts (not (is_among ids a)) (all_differ ids) h in
    nat_list_eq_equiv.symm a (get_or ids i []) ∙ among-at ids a i (not-true (is_among ids a) out) (omega arith)
differ-at (a ∷ ids) (suc k) (suc i) h l m =
    differ-at ids k i (and_parts (not (is_among ids a)) (all_differ ids) h).1 (omega arith) (omega arith)

candidate-of_id : (candidates : List Id) (c : ℕ) → all_differ candidates ≡ true → c < length candidates →
    candidate_named candidates (id_of candidates c) ≡ Some c
candidate-of_id candidates c differ l =
    let first = position_or_len_is (λ candidate. is_same candidate (id_of candidates c)) candidates c [] (omega arith)
    (λ k m. differ-at candidates k c differ m l) (λ m. same-itself (id_of candidates c)) in
    ap (λ n. cond (nat_lt n (length candidates)) (Some n) None) first ∙ ap (λ b. cond b (Some c) None) (lt-ltb c (length candidates) l)

-- ---- a ranking

numbers-read : (candidates : List Id) (ranking : List ℕ) → all_differ candidates ≡ true → All (λ c. c < length candidates) ranking
    → all_of (candidate_named candidates) (map (id_of candidates) ranking) ≡ Some ranking
numbers-read candidates [] differ h = refl
numbers-read candidates (c ∷ ranking) differ h =
    ap (λ o. option_and_then (λ d. option_map (λ ds. d ∷ ds) (all_of (candidate_named candidates) (map (id_of candidates) ranking))) o)
    (candidate-of_id candidates c differ (All-head (λ d. d < length candidates) c ranking h))
    ∙ ap (λ o. option_map (λ ds. c ∷ ds) o) (numbers-read candidates ranking differ (All-tail (λ d. d < length candidates) c ranking h))

named-at : (ids : List Id) (i : ℕ) → list_all is_name ids ≡ true → i < length ids → is_name (get_or ids i []) ≡ true
named-at [] i h l = absurd (omega arith)
named-at (a ∷ ids) zero h l = (and_parts (is_name a) (list_all is_name ids) h).0
named-at (a ∷ ids) (suc i) h l = named-at ids i (and_parts (is_name a) (list_all is_name ids) h).1 (omega arith)

name-marked : (id : Id) → is_name id ≡ true → is_marked id ≡ true
name-marked [] h = absurd cc
name-marked (b ∷ id) h = refl

all-marked : (candidates : List Id) (ranking : List ℕ) → list_all is_name candidates ≡ true → All (λ c. c < length candidates) ranking
    → filter is_marked (map (id_of candidates) ranking) ≡ map (id_of candidates) ranking
all-marked candidates [] named h = refl
all-marked candidates (c ∷ ranking) named h =
    let marked = name-marked (id_of candidates c) (named-at candidates c named (All-head (λ d. d < length candidates) c ranking h)) in
    let rest = filter is_marked (map (id_of candidates) ranking) in
    ap (λ b. if b then id_of candidates c ∷ rest else rest) marked
    ∙ ap (λ ids. id_of candidates c ∷ ids) (all-marked candidates ranking named (All-tail (λ d. d < length candidates) c ranking h))

filter-absent : (cs : List ℕ) (c : ℕ) → is_in cs c ≡ false → filter (λ d. not (d == c)) cs ≡ cs
filter-absent [] c h = refl
filter-absent (x ∷ cs) c h =
    let (first, rest) = or-false (x == c) (is_in cs c) h in
    ap (λ b. if not b then x ∷ filter (λ d. not (d == c)) cs else filter (λ d. not (d == c)) cs) first ∙ ap (λ ds. x ∷ ds) (filter-absent cs c rest)

firsts-same : (cs : List ℕ) → is_distinct cs ≡ true → firsts cs ≡ cs
firsts-same [] h = refl
firsts-same (c ∷ cs) h =
    let (out, rest) = and_parts (not (is_in cs c)) (is_distinct cs) h in
    ap (λ ds. c ∷ filter (λ d. not (d == c)) ds) (firsts-same cs rest) ∙ ap (λ ds. c ∷ ds) (filter-absent cs c (not-true (is_in cs c) out))

ranking-read : (candidates : List Id) (ranking : List ℕ) → list_all is_name candidates ≡ true → all_differ candidates ≡ true →
    All (λ c. c < length candidates) ranking → is_distinct ranking ≡ true
    → ranking_of candidates (map (id_of candidates) ranking) ≡ Some ranking
ranking-read candidates ranking named differ below once =
    ap (λ ids. option_map firsts (all_of (candidate_named candidates) ids)) (all-marked candidates ranking named below)
    ∙ ap (option_map firsts) (numbers-read candidates ranking differ below) ∙ ap Some (firsts-same ranking once)

-- ---- the contest

number-read : (k : ℕ) → k ≤ MOST_LISTED → number_of (decimal k) ≡ Some k
number-read k most = rw digits (ap Some (digits_value-decimal own k (omega (arith, most)))) where
  digits : Rattle.csv_rows.proofs.Numbers.is_number (decimal k) ≡ true
  digits =
      is_number-from (decimal k) (digits_decimal own k (omega (arith, most))) (omega (arith, decimal_nonempty k (omega (arith, most))))
      (omega (arith, length-decimal-le MOST_NUMBER_DIGITS k (omega arith) (omega (arith, most)) (omega (arith, most))))

count-read : (most k : ℕ) → 1 ≤ k → k ≤ most → most ≤ MOST_LISTED → number_up_to most (decimal k) ≡ Some k
count-read most k some few small =
    ap (option_and_then (λ n. if nat_le 1 n && nat_le n most then Some n else None)) (number-read k (omega (arith, few, small)))
    ∙ ap (λ b. if b then Some k else None) (and_from (nat_le 1 k) (nat_le k most) (le-nat_le 1 k some) (le-nat_le k most few))

take-whole : (ids : List Id) → take (length ids) ids ≡ ids
take-whole [] = refl
take-whole (id ∷ ids) = ap (λ more. id ∷ more) (take-whole ids)

contest-read : (id : Id) (candidates : List Id) → is_name id ≡ true → list_all is_name candidates ≡ true → all_differ candidates ≡ true →
    1 ≤ length candidates → length candidates ≤ MOST_LISTED
    → contest_of [] 2 (codes "Contest" ∷ id ∷ decimal (length candidates) ∷ candidates) ≡ Ok (record { at = 2; id = id; candidates = candidates })
contest-read id candidates name named differ some few =
    let n = length candidates in
    ap (λ b. if not b || false then Err B2 else contest_with 2 id (listed (number_up_to MOST_LISTED (decimal (length candidates))) candidates))
    (same-itself (codes "Contest"))
    ∙ ap (λ o. contest_with 2 id (listed o candidates)) (count-read MOST_LISTED (length candidates) some few (omega arith))
    ∙ ap (λ b. contest_with 2 id (if b then Some (take (length candidates) candidates) else None))
    (le-nat_le (length candidates) (length candidates) (omega arith))
    ∙ ap (λ ids. contest_with 2 id (Some ids)) (take-whole candidates)
    ∙ ap (λ b. if b then contest_named 2 id (names_of candidates) else Err B4) name
    ∙ ap (λ b. contest_named 2 id (if b then Some candidates else None)) (and_from (list_all is_name candidates) (all_differ candidates) named differ)

-- ---- the ballots

abbrev numbered_from : ℕ → Id → List Id → List (List ℕ) → List Ballot
numbered_from at contest [] rankings = []
numbered_from at contest (id ∷ ids) [] = []
numbered_from at contest (id ∷ ids) (ranking ∷ rankings) = record { at = at; contest = contest; id = id; ranking = ranking } ∷
    numbered_from (at + 1) contest ids rankings

ballot-follows : (contest : Contest) (earlier : List Ballot) (at : ℕ) (id : Id) (preferences : Fields) → is_name id ≡ true
    → ballot_in (contest ∷ []) earlier at (contest.id ∷ id ∷ preferences) ≡ ballot_for earlier at id preferences (Some contest)
ballot-follows contest earlier at id preferences name =
    ap (λ b. if b then ballot_for earlier at id preferences (cond (is_same contest.id contest.id) (Some contest) None) else Err B4) name
    ∙ ap (λ b. ballot_for earlier at id preferences (cond b (Some contest) None)) (same-itself contest.id)

ballots-read : (contest : Contest) (earlier : List Ballot) (at : ℕ) (ids : List Id) (rankings : List (List ℕ)) → list_all is_name contest.candidates ≡ true →
    all_differ contest.candidates ≡ true
    → length ids ≡ length rankings → length earlier + length ids ≤ MOST_RECORDS → list_all is_name ids ≡ true →
    all_differ (ballot_ids contest.id earlier ++ ids) ≡ true
    → All (λ ranking. All (λ c. c < length contest.candidates) ranking) rankings → All (λ ranking. IsTrue (is_distinct ranking)) rankings
    → ballots_after (contest ∷ []) earlier at (ballot_records contest.id contest.candidates ids rankings)
    ≡ Ok (earlier ++ numbered_from at contest.id ids rankings)
ballots-read contest earlier at [] rankings named differ same few ids_named ids_differ below once = ap Ok (sym (append-nil earlier))
ballots-read contest earlier at (id ∷ ids) [] named differ same few ids_named ids_differ below once = absurd (omega (arith, same))
ballots-read contest earlier at (id ∷ ids) (ranking ∷ rankings) named differ same few ids_named ids_differ below once =
    let (name, names) = and_parts (is_name id) (list_all is_name ids) ids_named in
    let preferences = map (id_of contest.candidates) ranking in
    let ballot : Ballot = record { at = at; contest = contest.id; id = id; ranking = ranking } in
    let new = differ-split (ballot_ids contest.id earlier) id ids ids_differ in
    let read = ranking-read contest.candidates ranking named differ (All-head (λ r. All (λ c. c < length contest.candidates) r) ranking rankings below)
    (All-head (λ r. IsTrue (is_distinct r)) ranking rankings once) in
    let meets : Meets (contest ∷ []) earlier at (contest.id ∷ id ∷ preferences) 0 id preferences contest =
    record { room = omega (arith, few); follows = ballot-follows contest earlier at id preferences name; there = refl } in
    let judged = ranked (contest ∷ []) earlier at (contest.id ∷ id ∷ preferences) 0 id preferences contest meets new (Some ranking) read in
    let more = ap (λ xs. xs ++ ids) (ids-own contest.id earlier ballot (same-itself contest.id)) ∙ append_assoc (ballot_ids contest.id earlier) (id ∷ []) ids in
    let rest = ballot_records contest.id contest.candidates ids rankings in
    ap (λ o. and_then at o (λ (b : Ballot). ballots_after (contest ∷ []) (earlier ++ b ∷ []) (at + 1) rest)) judged
    ∙ ballots-read contest (earlier ++ ballot ∷ []) (at + 1) ids rankings named differ (omega (arith, same))
    (omega (arith, few, length-append earlier (ballot ∷ []))) names (ap all_differ more ∙ ids_differ)
    (All-tail (λ r. All (λ c. c < length contest.candidates) r) ranking rankings below) (All-tail (λ r. IsTrue (is_distinct r)) ranking rankings once)
    ∙ ap Ok (append_assoc earlier (ballot ∷ []) (numbered_from (at + 1) contest.id ids rankings))

-- ---- what the ballots are

all-own : (at : ℕ) (contest : Id) (ids : List Id) (rankings : List (List ℕ)) → ballots_in contest (numbered_from at contest ids rankings)
    ≡ numbered_from at contest ids rankings
all-own at contest [] rankings = refl
all-own at contest (id ∷ ids) [] = refl
all-own at contest (id ∷ ids) (ranking ∷ rankings) =
    let b : Ballot = record { at = at; contest = contest; id = id; ranking = ranking } in
    let rest = ballots_in contest (numbered_from (at + 1) contest ids rankings) in
    ap (λ t. if t then b ∷ rest else rest) (same-itself contest) ∙ ap (λ bs. b ∷ bs) (all-own (at + 1) contest ids rankings)

own-ids : (at : ℕ) (contest : Id) (ids : List Id) (rankings : List (List ℕ)) → length ids ≡ length rankings →
    map (λ (b : Ballot). b.id) (numbered_from at contest ids rankings) ≡ ids
own-ids at contest [] rankings l = refl
own-ids at contest (id ∷ ids) [] l = absurd (omega (arith, l))
own-ids at contest (id ∷ ids) (ranking ∷ rankings) l = ap (λ xs. id ∷ xs) (own-ids (at + 1) contest ids rankings (omega (arith, l)))

own-places : (at : ℕ) (contest : Id) (ids : List Id) (rankings : List (List ℕ)) → length ids ≡ length rankings →
    map (λ (b : Ballot). b.at) (numbered_from at contest ids rankings) ≡ range_with_len at (length ids)
own-places at contest [] rankings l = refl
own-places at contest (id ∷ ids) [] l = absurd (omega (arith, l))
own-places at contest (id ∷ ids) (ranking ∷ rankings) l = ap (λ xs. at ∷ xs) (own-places (at + 1) contest ids rankings (omega (arith, l)))

own-rankings : (at : ℕ) (contest : Id) (ids : List Id) (rankings : List (List ℕ)) → length ids ≡ length rankings →
    map (λ (b : Ballot). b.ranking) (numbered_from at contest ids rankings) ≡ rankings
own-rankings at contest [] [] l = refl
own-rankings at contest [] (ranking ∷ rankings) l = absurd (omega (arith, l))
own-rankings at contest (id ∷ ids) [] l = absurd (omega (arith, l))
own-rankings at contest (id ∷ ids) (ranking ∷ rankings) l = ap (λ xs. ranking ∷ xs) (own-rankings (at + 1) contest ids rankings (omega (arith, l)))

file-read : (file : BallotFile) (contest : Contest) → contest.id ≡ file.contest → contest.candidates ≡ file.candidates →
    length file.ids ≡ length file.rankings → file.places ≡ range_with_len 3 (length file.ids)
    → file_of contest (numbered_from 3 contest.id file.ids file.rankings) ≡ file
file-read file contest e f l p =
    let own = all-own 3 contest.id file.ids file.rankings in
    rw (
      own,
      own-ids 3 contest.id file.ids file.rankings l,
      own-places 3 contest.id file.ids file.rankings l,
      own-rankings 3 contest.id file.ids file.rankings l,
      e,
      f,
      sym p,
    ) refl

pub what_is_spelled : WhatIsSpelledIsRead
what_is_spelled file s =
    let candidates = s.sound.candidates in
    let ballots = s.sound.ballots in
    let contest : Contest = record { at = 2; id = file.contest; candidates = file.candidates } in
    let rows = ballot_records file.contest file.candidates file.ids file.rankings in
    let size : has_audited_size file.candidates ≡ true = and_from (nat_le FEWEST_CANDIDATES (length file.candidates))
    (nat_le (length file.candidates) MOST_CANDIDATES) (le-nat_le FEWEST_CANDIDATES (length file.candidates) candidates.fewest)
    (le-nat_le (length file.candidates) MOST_CANDIDATES candidates.most) in
    let read = contest-read file.contest file.candidates s.contest_named s.candidates_named candidates.differ (omega (arith, candidates.fewest))
    (omega (arith, candidates.most)) in
    let all = ballots-read contest [] 3 file.ids file.rankings s.candidates_named candidates.differ ballots.an_id_each
    (omega (arith, ballots.most, ballots.an_id_each)) s.ids_named ballots.differ ballots.below ballots.distinct in
    ap (λ n. ballots_behind n None ((codes "Contest" ∷ file.contest ∷ decimal (length file.candidates) ∷ file.candidates) ∷ rows))
    (count-read MOST_CONTESTS 1 (omega arith) (omega arith) (omega arith))
    ∙ ap (λ o. then_on (and_then 2 o (λ (c : Contest). Ok (c ∷ [])))
    (Rattle.ballot_reader.proofs.Behind.after_contests None 1 ((codes "Contest" ∷ file.contest ∷ decimal (length file.candidates) ∷ file.candidates) ∷ rows)))
    read
    ∙ ap (λ b. then_on (if b then Ok contest else refused B3 2) (λ audited. then_on (ballots_after (contest ∷ []) [] 3 rows) (λ bs. Ok (file_of audited bs))))
    size
    ∙ ap (λ o. then_on o (λ bs. Ok (file_of contest bs))) all
    ∙ ap Ok (file-read file contest refl refl ballots.an_id_each s.in_order)
