-- Ballots that are read on their own are the same as those that are read after others.
use Rattle.std.proofs.Common.{◌≡◌, ◌<◌, ◌≤◌, ◌+◌, ◌∙◌, ◌++◌, ◌∷◌, ◌||◌, ◌&&◌, ◌==◌, [], ℕ, zero, suc, Bool, true, false, not, List, Option, Some, None, Result, Ok, Err, length, map, nat_le, refl, sym, ap, ap₂, arith, append_assoc, length-append, leb-true}
use Rattle.std.specs.Prelude.{nat_lt, if◌then◌else◌}
use Rattle.std.specs.Cmp.Lexicographic.{bytes_decides}
use Rattle.std.specs.List.{list_all, slice_get}
use Rattle.std.proofs.lemmas.Bool.{and_from, and_parts, false≢true}
use Rattle.std.proofs.lemmas.List.{append-nil, map-append}
use Rattle.std.proofs.lemmas.List.Elements.{filter-append}
use Rattle.std.proofs.lemmas.List.Folds.{list_any-append}
use Rattle.csv_rows.specs.Rows.{Fields}
use Rattle.file_fault.specs.Refusals.{Refusal, and_then}
use Rattle.irv_base.specs.Names.{Id, comma, double_quote, has_name_length, is_among, is_name, is_name_byte, is_same, space, tilde, touches_space}
use Rattle.irv_base.specs.declared.limits.TheConstants.{MOST_RECORDS}
use Rattle.ballots.specs.Grammar.{Ballot, Contest, ballot_for, ballot_ids, ballot_in, ballot_of, ballot_with, ballots_after, ballots_in, contest_with_id, has_id, ranking_of}
use Rattle.ballot_ids.specs.Ids.{AreBytes}
use Rattle.ballot_reader.specs.Kept.{rankings_in}
use Rattle.ballots.specs.declared.fault.BRule.{BRule}
use Rattle.ballots.specs.declared.fault.BRule.TheVariants.{B4, B9, B10}
use Rattle.ballot_reader.proofs.Adding.{ids-own, same-refl}
use Rattle.ballot_reader.proofs.Beginning.{ballots-length}

-- ---- the same ballots in other records

abbrev pub moved_to : ℕ → Ballot → Ballot
moved_to at b = record { at = at; contest = b.contest; id = b.id; ranking = b.ranking }

-- in the records from number at on
abbrev pub moved : ℕ → List Ballot → List Ballot
moved at [] = []
moved at (b ∷ bs) = moved_to at b ∷ moved (at + 1) bs

moved-push : (at : ℕ) (bs : List Ballot) (b : Ballot) → moved at (bs ++ b ∷ []) ≡ moved at bs ++ moved_to (at + length bs) b ∷ []
moved-push at [] b = let e : at ≡ at + 0 = omega arith in ap (λ n. moved_to n b ∷ []) e
moved-push at (a ∷ bs) b =
    let e : (at + 1) + length bs ≡ at + suc (length bs) = omega arith in
    ap (λ more. moved_to at a ∷ more) (moved-push (at + 1) bs b ∙ ap (λ n. moved (at + 1) bs ++ moved_to n b ∷ []) e)

pub length-moved : (at : ℕ) (bs : List Ballot) → length (moved at bs) ≡ length bs
length-moved at [] = refl
length-moved at (b ∷ bs) = ap suc (length-moved (at + 1) bs)

-- what doesn't depend on the record of a ballot stays as it was
moved-in : {X : Type 0} (f : Ballot → X) → ((at : ℕ) (b : Ballot) → f (moved_to at b) ≡ f b) → (id : Id) (at : ℕ) (bs : List Ballot) →
    map f (ballots_in id (moved at bs)) ≡ map f (ballots_in id bs)
moved-in f same id at [] = refl
moved-in {X} f same id at (b ∷ bs) = by (is_same b.contest id) (moved-in f same id (at + 1) bs) where
  by : (own : Bool) → map f (ballots_in id (moved (at + 1) bs)) ≡ map f (ballots_in id bs) →
      map f (if own then moved_to at b ∷ ballots_in id (moved (at + 1) bs) else ballots_in id (moved (at + 1) bs))
      ≡ map f (if own then b ∷ ballots_in id bs else ballots_in id bs)
  by true more = ap₂ (λ (x : X) (xs : List X). x ∷ xs) (same at b) more
  by false more = more

ids-moved : (id : Id) (at : ℕ) (bs : List Ballot) → ballot_ids id (moved at bs) ≡ ballot_ids id bs
ids-moved = moved-in (λ (b : Ballot). b.id) (λ at b. refl)

rankings-moved : (id : Id) (at : ℕ) (bs : List Ballot) → rankings_in id (moved at bs) ≡ rankings_in id bs
rankings-moved = moved-in (λ (b : Ballot). b.ranking) (λ at b. refl)

ids-append : (id : Id) (xs ys : List Ballot) → ballot_ids id (xs ++ ys) ≡ ballot_ids id xs ++ ballot_ids id ys
ids-append id xs ys =
    ap (map (λ (b : Ballot). b.id)) (filter-append (λ (b : Ballot). is_same b.contest id) xs ys)
    ∙ map-append (λ (b : Ballot). b.id) (ballots_in id xs) (ballots_in id ys)

pub ids-behind : (id : Id) (xs : List Ballot) (at : ℕ) (ys : List Ballot) → ballot_ids id (xs ++ moved at ys) ≡ ballot_ids id xs ++ ballot_ids id ys
ids-behind id xs at ys = ids-append id xs (moved at ys) ∙ ap (λ (ids : List Id). ballot_ids id xs ++ ids) (ids-moved id at ys)

pub rankings-behind : (id : Id) (xs : List Ballot) (at : ℕ) (ys : List Ballot) →
    rankings_in id (xs ++ moved at ys) ≡ rankings_in id xs ++ rankings_in id ys
rankings-behind id xs at ys =
    ap (map (λ (b : Ballot). b.ranking)) (filter-append (λ (b : Ballot). is_same b.contest id) xs (moved at ys))
    ∙ map-append (λ (b : Ballot). b.ranking) (ballots_in id xs) (ballots_in id (moved at ys))
    ∙ ap (λ (rankings : List (List ℕ)). rankings_in id xs ++ rankings) (rankings-moved id at ys)

-- ---- ids are bytes

less : (a b : ℕ) → a < b → nat_lt a b ≡ true
less a b h = grind arith

small : (b : ℕ) → is_name_byte b ≡ true → nat_lt b 256 ≡ true
small b h =
    let within = (and_parts (nat_le space b && nat_le b tilde) (not (b == double_quote))
    (and_parts (nat_le space b && nat_le b tilde && not (b == double_quote)) (not (b == comma)) h).0).0 in
    less b 256 (omega (arith, leb-true b tilde (and_parts (nat_le space b) (nat_le b tilde) within).1))

all-small : (bytes : List ℕ) → list_all is_name_byte bytes ≡ true → AreBytes bytes
all-small [] h = refl
all-small (b ∷ bytes) h =
    let (one, all) = and_parts (is_name_byte b) (list_all is_name_byte bytes) h in
    and_from (nat_lt b 256) (list_all (λ x. nat_lt x 256) bytes) (small b one) (all-small bytes all)

named-bytes : (id : Id) → is_name id ≡ true → AreBytes id
named-bytes id h = all-small id (and_parts (has_name_length id && not (touches_space id)) (list_all is_name_byte id) h).1

-- ---- a ballot that is read

-- Its contest is listed, and its id is new there. It can also be read after other ballots, if its id is new among them.
record IsReadAs (contests : List Contest) (own : List Ballot) (row : Fields) (b : Ballot) : Type 0 where
  place : ℕ
  contest : Contest
  there : slice_get contests place ≡ Some contest
  of : b.contest ≡ contest.id
  bytes : AreBytes b.id
  fresh : is_among (ballot_ids b.contest own) b.id ≡ false
  behind : (others : List Ballot) (at : ℕ) → length others < MOST_RECORDS → is_among (ballot_ids b.contest others) b.id ≡ false →
      ballot_of contests others at row ≡ Ok (moved_to at b)

found-at : (contests : List Contest) (of : Id) (contest : Contest) → contest_with_id contests of ≡ Some contest →
    (place : ℕ) × (slice_get contests place ≡ Some contest)
found-at [] of contest h = absurd cc
found-at (c ∷ contests) of contest h = by (has_id of c) h (found-at contests of contest) where
  by : (t : Bool) → (if t then Some c else contest_with_id contests of) ≡ Some contest →
      (contest_with_id contests of ≡ Some contest → (place : ℕ) × (slice_get contests place ≡ Some contest)) →
      (place : ℕ) × (slice_get (c ∷ contests) place ≡ Some contest)
  by true g more = (zero, g)
  by false g more = let (place, there) = more g in (suc place, there)

abbrev ballot_at : ℕ → Id → Id → List ℕ → Ballot
ballot_at at contest id ranking = record { at = at; contest = contest; id = id; ranking = ranking }

abbrev read_at : ℕ → Ballot → Result Ballot BRule
read_at at x = Ok (moved_to at x)

abbrev unless_met : Bool → Result Ballot BRule → Result Ballot BRule
unless_met met said = if met then Err B9 else said

-- what is known once the id and the contest are found
record IsJudgedAs (own : List Ballot) (id : Id) (preferences : Fields) (contest : Contest) (b : Ballot) : Type 0 where
  of : b.contest ≡ contest.id
  own_id : b.id ≡ id
  fresh : is_among (ballot_ids b.contest own) b.id ≡ false
  behind : (others : List Ballot) (at : ℕ) → is_among (ballot_ids b.contest others) b.id ≡ false →
      ballot_for others at id preferences (Some contest) ≡ Ok (moved_to at b)

judged-as : (own : List Ballot) (m : ℕ) (id : Id) (preferences : Fields) (contest : Contest) (b : Ballot) →
    ballot_for own m id preferences (Some contest) ≡ Ok b → IsJudgedAs own id preferences contest b
judged-as own m id preferences contest b h = by (is_among (ballot_ids contest.id own) id) (ranking_of contest.candidates preferences) refl refl h where
  by : (met : Bool) (o : Option (List ℕ)) → is_among (ballot_ids contest.id own) id ≡ met → ranking_of contest.candidates preferences ≡ o →
      unless_met met (ballot_with m contest.id id o) ≡ Ok b → IsJudgedAs own id preferences contest b
  by true o among ranked g = absurd cc
  by false None among ranked g = absurd cc
  by false (Some ranking) among ranked g =
      let same : ballot_at m contest.id id ranking ≡ b = cc in
      let own_id : b.id ≡ id = ap (λ (x : Ballot). x.id) (sym same) in
      let of : b.contest ≡ contest.id = ap (λ (x : Ballot). x.contest) (sym same) in
      record {
        of = of;
        own_id = own_id;
        fresh = ap (λ (x : Ballot). is_among (ballot_ids x.contest own) x.id) (sym same) ∙ among;
        behind = λ others at new.
            let none : is_among (ballot_ids contest.id others) id ≡ false =
            ap (λ (x : Ballot). is_among (ballot_ids x.contest others) x.id) same ∙ new in
            ap (λ met. unless_met met (ballot_with at contest.id id (ranking_of contest.candidates preferences))) none
            ∙ ap (ballot_with at contest.id id) ranked ∙ ap (read_at at) same;
      }

read-in : (contests : List Contest) (own : List Ballot) (m : ℕ) (row : Fields) (b : Ballot) → ballot_in contests own m row ≡ Ok b →
    ((others : List Ballot) (at : ℕ) → length others < MOST_RECORDS → ballot_of contests others at row ≡ ballot_in contests others at row) →
    IsReadAs contests own row b
read-in contests own m [] b h room = absurd cc
read-in contests own m (of ∷ []) b h room = absurd cc
read-in contests own m (of ∷ id ∷ preferences) b h room = by (is_name id) (contest_with_id contests of) refl refl h where
  by : (valid : Bool) (found : Option Contest) → is_name id ≡ valid → contest_with_id contests of ≡ found →
      (if valid then ballot_for own m id preferences found else Err B4) ≡ Ok b → IsReadAs contests own (of ∷ id ∷ preferences) b
  by false found valid found-is g = absurd cc
  by true None valid found-is g = absurd cc
  by true (Some contest) valid found-is g =
      let judged = judged-as own m id preferences contest b g in
      let (place, there) = found-at contests of contest found-is in
      record {
        place = place;
        contest = contest;
        there = there;
        of = judged.of;
        bytes = named-bytes b.id (ap is_name judged.own_id ∙ valid);
        fresh = judged.fresh;
        behind = λ others at few new.
            room others at few
            ∙ ap (λ t. if t then ballot_for others at id preferences (contest_with_id contests of) else Err B4) valid
            ∙ ap (ballot_for others at id preferences) found-is ∙ judged.behind others at new;
      }

read-as : (contests : List Contest) (own : List Ballot) (m : ℕ) (row : Fields) (b : Ballot) → ballot_of contests own m row ≡ Ok b → IsReadAs contests own row b
read-as contests own m row b h = read-in contests own m row b (by (nat_lt (length own) MOST_RECORDS) h)
    (λ others at few. ap (λ t. if t then ballot_in contests others at row else Err B10) (less (length others) MOST_RECORDS few))
  where
    by : (t : Bool) → (if t then ballot_in contests own m row else Err B10) ≡ Ok b → ballot_in contests own m row ≡ Ok b
    by true g = g
    by false g = absurd cc

-- ---- all of them

abbrev ballots-on : List Contest → List Ballot → ℕ → List Fields → Ballot → Result (List Ballot) (Refusal BRule)
ballots-on contests earlier at rows ballot = ballots_after contests (earlier ++ ballot ∷ []) (at + 1) rows

-- later ballots come after them
begins : (contests : List Contest) (own all : List Ballot) (m : ℕ) (rows : List Fields) → ballots_after contests own m rows ≡ Ok all →
    (rest : List Ballot) × (all ≡ own ++ rest)
begins contests own all m [] h =
    let same : own ≡ all = cc in
    ([], sym same ∙ sym (append-nil own))
begins contests own all m (row ∷ rows) h =
    by (ballot_of contests own m row) h (λ b. begins contests (own ++ b ∷ []) all (m + 1) rows) where
      by : (o : Result Ballot BRule) → and_then m o (ballots-on contests own m rows) ≡ Ok all →
          ((b : Ballot) → ballots-on contests own m rows b ≡ Ok all → (rest : List Ballot) × (all ≡ (own ++ b ∷ []) ++ rest)) →
          (rest : List Ballot) × (all ≡ own ++ rest)
      by (Ok b) g more = let (rest, e) = more b g in (b ∷ rest, e ∙ append_assoc own (b ∷ []) rest)
      by (Err rule) g more = absurd cc

-- for each contest that is listed, no id is met in both
abbrev pub AreOthers : List Contest → List Ballot → List Ballot → Type 0
AreOthers contests xs ys =
    (place : ℕ) (contest : Contest) → slice_get contests place ≡ Some contest → (id : Id) → AreBytes id →
    is_among (ballot_ids contest.id ys) id ≡ true → is_among (ballot_ids contest.id xs) id ≡ false

none-of : (a b : Bool) → a ≡ false → b ≡ false → (a || b) ≡ false
none-of false b h g = g
none-of true b h g = h

or-true : (a b c : Bool) → b ≡ true → ((a || b) || c) ≡ true
or-true true b c h = refl
or-true false true c h = refl
or-true false false c h = absurd (false≢true h)

-- a ballot is among the ballots that begin with it and those before it
met-among : (own : List Ballot) (b : Ballot) (rest all : List Ballot) → all ≡ (own ++ b ∷ []) ++ rest → is_among (ballot_ids b.contest all) b.id ≡ true
met-among own b rest all e =
    let same = λ (other : Id). is_same other b.id in
    let ids : ballot_ids b.contest all ≡ (ballot_ids b.contest own ++ b.id ∷ []) ++ ballot_ids b.contest rest =
    ap (ballot_ids b.contest) e ∙ ids-append b.contest (own ++ b ∷ []) rest
    ∙ ap (λ (l : List Id). l ++ ballot_ids b.contest rest) (ids-own b.contest own b (same-refl b.contest)) in
    ap (λ (l : List Id). is_among l b.id) ids
    ∙ list_any-append same (ballot_ids b.contest own ++ b.id ∷ []) (ballot_ids b.contest rest)
    ∙ ap (λ t. t || is_among (ballot_ids b.contest rest) b.id) (list_any-append same (ballot_ids b.contest own) (b.id ∷ []))
    ∙ or-true (is_among (ballot_ids b.contest own) b.id) (is_same b.id b.id || false) (is_among (ballot_ids b.contest rest) b.id)
    (ap (λ t. t || false) (same-refl b.id))

abbrev read_all : List Ballot → ℕ → List Ballot → Result (List Ballot) (Refusal BRule)
read_all before first bs = Ok (before ++ moved first bs)

read-behind : (contests : List Contest) (xs own all : List Ballot) (first m at : ℕ) (rows : List Fields) → ballots_after contests own m rows ≡ Ok all →
    at ≡ first + length own → AreOthers contests xs all → length xs + length all ≤ MOST_RECORDS →
    ballots_after contests (xs ++ moved first own) at rows ≡ Ok (xs ++ moved first all)
read-behind contests xs own all first m at [] h there others few =
    let same : own ≡ all = cc in
    ap (read_all xs first) same
read-behind contests xs own all first m at (row ∷ rows) h there others few =
    by (ballot_of contests own m row) refl h (λ b g place. read-behind contests xs (own ++ b ∷ []) all first (m + 1) (at + 1) rows g place others few) where
      by : (o : Result Ballot BRule) → ballot_of contests own m row ≡ o → and_then m o (ballots-on contests own m rows) ≡ Ok all →
          ((b : Ballot) → ballots-on contests own m rows b ≡ Ok all → at + 1 ≡ first + length (own ++ b ∷ []) →
          ballots_after contests (xs ++ moved first (own ++ b ∷ [])) (at + 1) rows ≡ Ok (xs ++ moved first all)) →
          ballots_after contests (xs ++ moved first own) at (row ∷ rows) ≡ Ok (xs ++ moved first all)
      by (Err rule) is g more = absurd cc
      by (Ok b) is g more =
          let read = read-as contests own m row b is in
          let (rest, begun) = begins contests (own ++ b ∷ []) all (m + 1) rows g in
          let before = xs ++ moved first own in
          let absent : is_among (ballot_ids b.contest xs) b.id ≡ false =
          ap (λ (id : Id). is_among (ballot_ids id xs) b.id) read.of
          ∙ others read.place read.contest read.there b.id read.bytes
          (ap (λ (id : Id). is_among (ballot_ids id all) b.id) (sym read.of) ∙ met-among own b rest all begun) in
          let new : is_among (ballot_ids b.contest before) b.id ≡ false =
          ap (λ (l : List Id). is_among l b.id) (ids-behind b.contest xs first own)
          ∙ list_any-append (λ (other : Id). is_same other b.id) (ballot_ids b.contest xs) (ballot_ids b.contest own)
          ∙ none-of (is_among (ballot_ids b.contest xs) b.id) (is_among (ballot_ids b.contest own) b.id) absent read.fresh in
          let room : length before < MOST_RECORDS = omega (
            arith,
            few,
            length-append xs (moved first own),
            length-moved first own,
            ballots-length contests (own ++ b ∷ []) all (m + 1) rows g,
            length-append own (b ∷ []),
          ) in
          let next : at + 1 ≡ first + length (own ++ b ∷ []) = omega (arith, there, length-append own (b ∷ [])) in
          ap (λ (o : Result Ballot BRule). and_then at o (ballots-on contests before at rows)) (read.behind before at room new)
          ∙ ap (λ (bs : List Ballot). ballots_after contests bs (at + 1) rows) (append_assoc xs (moved first own) (moved_to at b ∷ [])
          ∙ ap (λ (bs : List Ballot). xs ++ bs) (ap (λ n. moved first own ++ moved_to n b ∷ []) there ∙ sym (moved-push first own b)))
          ∙ more b g next

pub read-alone : (contests : List Contest) (xs ys : List Ballot) (m at : ℕ) (rows : List Fields) → ballots_after contests [] m rows ≡ Ok ys →
    AreOthers contests xs ys → length xs + length ys ≤ MOST_RECORDS → ballots_after contests xs at rows ≡ Ok (xs ++ moved at ys)
read-alone contests xs ys m at rows h others few =
    ap (λ (bs : List Ballot). ballots_after contests bs at rows) (sym (append-nil xs))
    ∙ read-behind contests xs [] ys at m at rows h (omega arith) others few

-- ---- their ids are bytes

abbrev pub are_bytes : List Ballot → Bool
are_bytes ballots = list_all (λ (b : Ballot). list_all (λ x. nat_lt x 256) b.id) ballots

bytes-push : (bs : List Ballot) (b : Ballot) → are_bytes bs ≡ true → AreBytes b.id → are_bytes (bs ++ b ∷ []) ≡ true
bytes-push [] b h one = and_from (list_all (λ x. nat_lt x 256) b.id) true one refl
bytes-push (a ∷ bs) b h one =
    let (first, rest) = and_parts (list_all (λ x. nat_lt x 256) a.id) (are_bytes bs) h in
    and_from (list_all (λ x. nat_lt x 256) a.id) (are_bytes (bs ++ b ∷ [])) first (bytes-push bs b rest one)

pub read-bytes : (contests : List Contest) (own all : List Ballot) (m : ℕ) (rows : List Fields) → ballots_after contests own m rows ≡ Ok all →
    are_bytes own ≡ true → are_bytes all ≡ true
read-bytes contests own all m [] h own-bytes =
    let same : own ≡ all = cc in
    ap are_bytes (sym same) ∙ own-bytes
read-bytes contests own all m (row ∷ rows) h own-bytes =
    by (ballot_of contests own m row) refl h (λ b. read-bytes contests (own ++ b ∷ []) all (m + 1) rows) where
      by : (o : Result Ballot BRule) → ballot_of contests own m row ≡ o → and_then m o (ballots-on contests own m rows) ≡ Ok all →
          ((b : Ballot) → ballots-on contests own m rows b ≡ Ok all → are_bytes (own ++ b ∷ []) ≡ true → are_bytes all ≡ true) → are_bytes all ≡ true
      by (Ok b) is g more = more b g (bytes-push own b own-bytes (read-as contests own m row b is).bytes)
      by (Err rule) is g more = absurd cc

-- so are the ids of a contest
pub among-bytes : (contest id : Id) (bs : List Ballot) → are_bytes bs ≡ true → is_among (ballot_ids contest bs) id ≡ true → AreBytes id
among-bytes contest id [] h among = absurd cc
among-bytes contest id (b ∷ bs) h among =
    let (one, rest) = and_parts (list_all (λ x. nat_lt x 256) b.id) (are_bytes bs) h in
    by (is_same b.contest contest) one (among-bytes contest id bs rest) among where
      by : (own : Bool) → AreBytes b.id → (is_among (ballot_ids contest bs) id ≡ true → AreBytes id) →
          is_among (map (λ (x : Ballot). x.id) (if own then b ∷ ballots_in contest bs else ballots_in contest bs)) id ≡ true → AreBytes id
      by false one more g = more g
      by true one more g = which (is_same b.id id) refl g where
        which : (same : Bool) → is_same b.id id ≡ same → (same || is_among (ballot_ids contest bs) id) ≡ true → AreBytes id
        which true same e = ap (list_all (λ x. nat_lt x 256)) (sym ((bytes_decides b.id id).0 same)) ∙ one
        which false same e = more e
