-- What is read from a ballot file: the number of candidates and records, and that the ids keep their rule.
use Rattle.std.proofs.Common.{◌≡◌, ℕ, zero, suc, ◌<◌, ◌≤◌, ◌+◌, ◌++◌, Bool, true, false, not, ◌||◌, nat_le, nat_lt, List, [], ◌∷◌, length, map, drop, inl, inr, Option, None, Some, Result, Ok, Err, if◌then◌else◌, refl, ap, subst, arith, leb-true, ltb-true, length-append, codes}
use Rattle.std.specs.List.{list_all, list_any}
use Rattle.std.proofs.lemmas.Bool.{and_parts}
use Rattle.std.proofs.lemmas.List.{length-map}
use Rattle.std.proofs.lemmas.List.Sums.{count_by-le-length, length-filter}
use Rattle.irv_base.specs.Names.{Id, is_name, is_same, all_differ}
use Rattle.irv_base.specs.declared.limits.TheConstants.{FEWEST_CANDIDATES, MOST_CANDIDATES, MOST_RECORDS}
use Rattle.irv_base.proofs.Members.{Member, here, member-append_cases, member_cases, member_nil, from_find}
use Rattle.csv_rows.specs.Rows.{Fields}
use Rattle.csv_rows.specs.Fields.{numbered_records}
use Rattle.ballots.specs.Ballots.{BallotFile}
use Rattle.ballots.specs.declared.fault.BRule.{BRule}
use Rattle.ballots.specs.declared.fault.BRule.TheVariants.{B2, B3, B4, B10}
use Rattle.ballots.specs.declared.limits.TheConstants.{MOST_LISTED}
use Rattle.ballots.specs.Grammar.{Contest, Ballot, then_on, are_names, has_id, listed, number_up_to, contest_named, contest_with, contest_of, contests_in, asked_for, has_audited_size, audited_contest, ballots_in, ballot_in, ballots_after, contest_count, ballots_behind, ballots_from, ballots_of}
use Rattle.file_fault.specs.Refusals.{and_then, Refusal, refused}
use Rattle.contest_search.specs.Contest.{candidate_count}

pub record IsFit (ballots : BallotFile) : Type 0 where
  pub fewest : 1 < candidate_count ballots
  pub most : candidate_count ballots ≤ MOST_CANDIDATES
  pub contest : is_name ballots.contest ≡ true
  pub candidates : list_all is_name ballots.candidates ≡ true
  pub differ : all_differ ballots.candidates ≡ true
  pub few : length ballots.rankings ≤ MOST_RECORDS

then_on-ok : {A B : Type 0} (r : Result A (Refusal BRule)) (more : A → Result B (Refusal BRule)) (v : B) → then_on r more ≡ Ok v → (x : A) × (r ≡ Ok x) × (more x ≡ Ok v)
then_on-ok (Ok x) more v e = (x, refl, e)
then_on-ok (Err refusal) more v e = cc

abbrev ok : {A : Type 0} → A → Result A (Refusal BRule)
ok x = Ok x

ok_is : {A : Type 0} {x y : A} → ok x ≡ ok y → x ≡ y
ok_is e = cc

-- ---- contests

record IsNamed (contest : Contest) : Type 0 where
  pub id : is_name contest.id ≡ true
  pub candidates : are_names contest.candidates ≡ true

with-named : (at : ℕ) (id : Id) (o : Option (List Id)) (contest : Contest) → contest_with at id o ≡ Ok contest → IsNamed contest
with-named at id None contest h = absurd cc
with-named at id (Some ids) contest h = by (is_name id) refl (are_names ids) refl h where
  by : (b : Bool) → is_name id ≡ b → (d : Bool) → are_names ids ≡ d → (if b then contest_named at id (if d then Some ids else None) else Err B4) ≡ Ok contest →
      IsNamed contest
  by false e d f g = absurd cc
  by true e false f g = absurd cc
  by true e true f g =
      let s : record { at = at; id = id; candidates = ids } ≡ contest = cc in
      subst IsNamed s (record { id = e; candidates = f })

named : (earlier : List Contest) (at : ℕ) (row : Fields) (contest : Contest) → contest_of earlier at row ≡ Ok contest → IsNamed contest
named earlier at [] contest h = absurd cc
named earlier at (word ∷ []) contest h = absurd cc
named earlier at (word ∷ id ∷ []) contest h = absurd cc
named earlier at (word ∷ id ∷ number ∷ ids) contest h = by (not (is_same word (codes "Contest")) || list_any (has_id id) earlier) h where
  by : (b : Bool) → (if b then Err B2 else contest_with at id (listed (number_up_to MOST_LISTED number) ids)) ≡ Ok contest → IsNamed contest
  by true g = absurd cc
  by false g = with-named at id (listed (number_up_to MOST_LISTED number) ids) contest g

abbrev AllNamed : List Contest → Type 0
AllNamed contests = (c : Contest) → Member c contests → IsNamed c

one-more : (earlier : List Contest) (contest : Contest) → AllNamed earlier → IsNamed contest → AllNamed (earlier ++ contest ∷ [])
one-more earlier contest h last c m =
    elim (member-append_cases earlier (contest ∷ []) m) [
      | inl k ↦ h c k
      | inr k ↦ elim (member_cases k) [ inl same ↦ subst IsNamed same last | inr none ↦ absurd (member_nil none) ]
    ]

all-named : (n : ℕ) (earlier : List Contest) (at : ℕ) (rows : List Fields) (contests : List Contest) → contests_in n earlier at rows ≡ Ok contests →
    AllNamed earlier → AllNamed contests
all-named zero earlier at rows contests e h = subst AllNamed (ok_is e) h
all-named (suc n) earlier at [] contests e h = absurd cc
all-named (suc n) earlier at (row ∷ rows) contests e h =
    by (contest_of earlier at row) refl e (λ contest g named. all-named n (earlier ++ contest ∷ []) (at + 1) rows contests g named) where
      by : (judged : Result Contest BRule) → contest_of earlier at row ≡ judged →
          and_then at judged (λ contest. contests_in n (earlier ++ contest ∷ []) (at + 1) rows) ≡ Ok contests →
          ((contest : Contest) → contests_in n (earlier ++ contest ∷ []) (at + 1) rows ≡ Ok contests → AllNamed (earlier ++ contest ∷ []) → AllNamed contests) →
          AllNamed contests
      by (Err rule) f g more = absurd cc
      by (Ok contest) f g more = more contest g (one-more earlier contest h (named earlier at row contest f))

chosen-named : (asked : Option Id) (contests : List Contest) (audited : Contest) → asked_for contests asked ≡ Some audited → AllNamed contests → IsNamed audited
chosen-named (Some id) contests audited e h = h audited (from_find (has_id id) audited contests e).0
chosen-named None [] audited e h = absurd cc
chosen-named None (c ∷ []) audited e h = let same : c ≡ audited = cc in subst IsNamed same (h c here)
chosen-named None (c ∷ d ∷ rest) audited e h = absurd cc

sized-some : (o : Option Contest) (audited : Contest) → audited_contest o ≡ Ok audited → (o ≡ Some audited) × (has_audited_size audited.candidates ≡ true)
sized-some None audited e = absurd cc
sized-some (Some contest) audited e = by (has_audited_size contest.candidates) refl e where
  by : (b : Bool) → has_audited_size contest.candidates ≡ b → (if b then Ok contest else refused B3 contest.at) ≡ Ok audited →
      (Some contest ≡ Some audited) × (has_audited_size audited.candidates ≡ true)
  by true t e = (ap Some (ok_is e), subst (λ (c : Contest). has_audited_size c.candidates ≡ true) (ok_is e) t)
  by false t e = absurd cc

-- ---- ballots

few-read : (contests : List Contest) (earlier : List Ballot) (at : ℕ) (rows : List Fields) (ballots : List Ballot) → ballots_after contests earlier at rows
    ≡ Ok ballots → length earlier ≤ MOST_RECORDS → length ballots ≤ MOST_RECORDS
few-read contests earlier at [] ballots e l = subst (λ (read : List Ballot). length read ≤ MOST_RECORDS) (ok_is e) l
few-read contests earlier at (row ∷ rows) ballots e l =
    by (nat_lt (length earlier) MOST_RECORDS) refl e (λ ballot g few. few-read contests (earlier ++ ballot ∷ []) (at + 1) rows ballots g few) where
      next : length earlier < MOST_RECORDS → (judged : Result Ballot BRule) →
          and_then at judged (λ ballot. ballots_after contests (earlier ++ ballot ∷ []) (at + 1) rows) ≡ Ok ballots →
          ((ballot : Ballot) → ballots_after contests (earlier ++ ballot ∷ []) (at + 1) rows ≡ Ok ballots → length (earlier ++ ballot ∷ []) ≤ MOST_RECORDS →
          length ballots ≤ MOST_RECORDS) → length ballots ≤ MOST_RECORDS
      next less (Err rule) g more = absurd cc
      next less (Ok ballot) g more =
          let one = length-append earlier (ballot ∷ []) in
          more ballot g (omega (arith, less, one))

      by : (b : Bool) → nat_lt (length earlier) MOST_RECORDS ≡ b →
          and_then at (if b then ballot_in contests earlier at row else Err B10) (λ ballot. ballots_after contests (earlier ++ ballot ∷ []) (at + 1) rows)
          ≡ Ok ballots →
          ((ballot : Ballot) → ballots_after contests (earlier ++ ballot ∷ []) (at + 1) rows ≡ Ok ballots → length (earlier ++ ballot ∷ []) ≤ MOST_RECORDS →
          length ballots ≤ MOST_RECORDS) → length ballots ≤ MOST_RECORDS
      by false t g more = absurd cc
      by true t g more = next (ltb-true (length earlier) MOST_RECORDS t) (ballot_in contests earlier at row) g more

few-rankings : (id : Id) (ballots : List Ballot) → length ballots ≤ MOST_RECORDS →
    length (map (λ (b : Ballot). b.ranking) (ballots_in id ballots)) ≤ MOST_RECORDS
few-rankings id ballots l =
    let own = ballots_in id ballots in
    let mapped = length-map own (λ (b : Ballot). b.ranking) in
    let filtered = length-filter (λ (b : Ballot). is_same b.contest id) ballots in
    let counted = count_by-le-length (λ (b : Ballot). is_same b.contest id) ballots in
    omega (arith, l, mapped, filtered, counted)

-- ---- the file

behind : (count : Option ℕ) (asked : Option Id) (rows : List Fields) (ballots : BallotFile) → ballots_behind count asked rows ≡ Ok ballots → IsFit ballots
behind None asked rows ballots e = absurd cc
behind (Some n) asked rows ballots e =
    let (contests, is, rest) = then_on-ok (contests_in n [] 2 rows) _ ballots e in
    let (audited, right, last) = then_on-ok (audited_contest (asked_for contests asked)) _ ballots rest in
    let (all, read, file) = then_on-ok (ballots_after contests [] (2 + n) (drop n rows)) _ ballots last in
    let (chosen, size) = sized-some (asked_for contests asked) audited right in
    let (fewest, most) = and_parts (nat_le FEWEST_CANDIDATES (length audited.candidates)) (nat_le (length audited.candidates) MOST_CANDIDATES) size in
    let ids = chosen-named asked contests audited chosen (all-named n [] 2 rows contests is (λ c none. absurd (member_nil none))) in
    let (names, differ) = and_parts (list_all is_name audited.candidates) (all_differ audited.candidates) ids.candidates in
    let two = leb-true FEWEST_CANDIDATES (length audited.candidates) fewest in
    subst IsFit (ok_is file) (record {
      fewest = omega (arith, two);
      most = leb-true (length audited.candidates) MOST_CANDIDATES most;
      contest = ids.id;
      candidates = names;
      differ = differ;
      few = few-rankings audited.id all (few-read contests [] (2 + n) (drop n rows) all read (omega arith));
    })

pub ballots_fit : (bytes : List ℕ) (asked : Option Id) (ballots : BallotFile) → ballots_of bytes asked ≡ Ok ballots → IsFit ballots
ballots_fit bytes asked ballots e = by_records (numbered_records bytes) e where
  by_records : (rows : List Fields) → ballots_from asked rows ≡ Ok ballots → IsFit ballots
  by_records [] e = absurd cc
  by_records (first ∷ rows) e = behind (contest_count first) asked rows ballots e
