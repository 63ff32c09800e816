-- A file that is read for all its contests is never refused by the rule about the contest that was asked for.
use Rattle.std.proofs.Common.{◌≡◌, ◌+◌, ◌++◌, ◌∷◌, ◌||◌, [], ℕ, zero, suc, Bool, true, false, not, List, Option, Some, None, Result, Ok, Err, ap, drop, codes}
use Rattle.std.specs.Prelude.{if◌then◌else◌, find, map, nat_lt, length}
use Rattle.std.specs.List.{list_any}
use Rattle.csv_rows.specs.Fields.{numbered_records}
use Rattle.csv_rows.specs.Rows.{Fields}
use Rattle.irv_base.specs.Names.{Id, is_among, is_name, is_same}
use Rattle.irv_base.specs.declared.limits.TheConstants.{MOST_RECORDS}
use Rattle.ballots.specs.Grammar.{Ballot, Contest, all_audited, ballot_for, ballot_ids, ballot_in, ballot_of, ballot_with, ballots_after, contest_count, contest_named, contest_of, contest_with, contest_with_id, contests_behind, contests_from, contests_in, file_of, has_audited_size, has_id, listed, names_of, number_up_to, ranking_of, then_on, unless_unsized}
use Rattle.file_fault.specs.Refusals.{and_then, Refusal, refused}
use Rattle.ballot_reader.specs.Laws.{NoneIsMissed}
use Rattle.ballots.specs.declared.fault.BRule.{BRule}
use Rattle.ballots.specs.declared.fault.BRule.TheVariants.{B1, B2, B3, B4, B5, B9, B10}
use Rattle.ballots.specs.declared.limits.TheConstants.{MOST_LISTED}

same-rule : {A : Type 0} (rule other : BRule) (at place : ℕ) → refused {A = A} rule at ≡ refused other place → rule ≡ other
same-rule rule other at place h =
    let e : record { rule = rule; at = at } ≡ record { rule = other; at = place } = cc in
    ap (λ (r : Refusal BRule). r.rule) e

-- ---- a contest's record

named : (at : ℕ) (id : Id) (o : Option (List Id)) → contest_named at id o ≡ Err B5 → ⊥
named at id None h = absurd cc
named at id (Some candidates) h = absurd cc

with-list : (at : ℕ) (id : Id) (o : Option (List Id)) → contest_with at id o ≡ Err B5 → ⊥
with-list at id None h = absurd cc
with-list at id (Some ids) h = by (is_name id) h where
  by : (b : Bool) → (if b then contest_named at id (names_of ids) else Err B4) ≡ Err B5 → ⊥
  by true g = named at id (names_of ids) g
  by false g = absurd cc

one-contest : (earlier : List Contest) (at : ℕ) (row : Fields) → contest_of earlier at row ≡ Err B5 → ⊥
one-contest earlier at [] h = absurd cc
one-contest earlier at (word ∷ []) h = absurd cc
one-contest earlier at (word ∷ id ∷ []) h = absurd cc
one-contest earlier at (word ∷ id ∷ number ∷ ids) h = by (not (is_same word (codes "Contest")) || list_any (has_id id) earlier) h where
  by : (b : Bool) → (if b then Err B2 else contest_with at id (listed (number_up_to MOST_LISTED number) ids)) ≡ Err B5 → ⊥
  by true g = absurd cc
  by false g = with-list at id (listed (number_up_to MOST_LISTED number) ids) g

all-contests : (n : ℕ) (earlier : List Contest) (at : ℕ) (rows : List Fields) (place : ℕ) → contests_in n earlier at rows ≡ refused B5 place → ⊥
all-contests zero earlier at rows place h = absurd cc
all-contests (suc n) earlier at [] place h = absurd (let e = same-rule B2 B5 at place h in cc)
all-contests (suc n) earlier at (row ∷ rows) place h =
    by (contest_of earlier at row) (one-contest earlier at row) h (λ contest. all-contests n (earlier ++ contest ∷ []) (at + 1) rows place)
  where
    by : (o : Result Contest BRule) → (o ≡ Err B5 → ⊥) →
        and_then at o (λ (c : Contest). contests_in n (earlier ++ c ∷ []) (at + 1) rows) ≡ refused B5 place →
        ((contest : Contest) → contests_in n (earlier ++ contest ∷ []) (at + 1) rows ≡ refused B5 place → ⊥) → ⊥
    by (Err rule) other g more = other (ap Err (same-rule rule B5 at place g))
    by (Ok contest) other g more = more contest g

-- ---- a ballot's record

ranked : (at : ℕ) (contest id : Id) (o : Option (List ℕ)) → ballot_with at contest id o ≡ Err B5 → ⊥
ranked at contest id None h = absurd cc
ranked at contest id (Some ranking) h = absurd cc

of-contest : (earlier : List Ballot) (at : ℕ) (id : Id) (preferences : Fields) (o : Option Contest) → ballot_for earlier at id preferences o ≡ Err B5 → ⊥
of-contest earlier at id preferences None h = absurd cc
of-contest earlier at id preferences (Some contest) h = by (is_among (ballot_ids contest.id earlier) id) h where
  by : (b : Bool) → (if b then Err B9 else ballot_with at contest.id id (ranking_of contest.candidates preferences)) ≡ Err B5 → ⊥
  by true g = absurd cc
  by false g = ranked at contest.id id (ranking_of contest.candidates preferences) g

in-contests : (contests : List Contest) (earlier : List Ballot) (at : ℕ) (row : Fields) → ballot_in contests earlier at row ≡ Err B5 → ⊥
in-contests contests earlier at [] h = absurd cc
in-contests contests earlier at (of ∷ []) h = absurd cc
in-contests contests earlier at (of ∷ id ∷ preferences) h = by (is_name id) h where
  by : (b : Bool) → (if b then ballot_for earlier at id preferences (contest_with_id contests of) else Err B4) ≡ Err B5 → ⊥
  by true g = of-contest earlier at id preferences (contest_with_id contests of) g
  by false g = absurd cc

one-ballot : (contests : List Contest) (earlier : List Ballot) (at : ℕ) (row : Fields) → ballot_of contests earlier at row ≡ Err B5 → ⊥
one-ballot contests earlier at row h = by (nat_lt (length earlier) MOST_RECORDS) h where
  by : (b : Bool) → (if b then ballot_in contests earlier at row else Err B10) ≡ Err B5 → ⊥
  by true g = in-contests contests earlier at row g
  by false g = absurd cc

all-ballots : (contests : List Contest) (earlier : List Ballot) (at : ℕ) (rows : List Fields) (place : ℕ) →
    ballots_after contests earlier at rows ≡ refused B5 place → ⊥
all-ballots contests earlier at [] place h = absurd cc
all-ballots contests earlier at (row ∷ rows) place h =
    by (ballot_of contests earlier at row) (one-ballot contests earlier at row) h
    (λ ballot. all-ballots contests (earlier ++ ballot ∷ []) (at + 1) rows place)
  where
    by : (o : Result Ballot BRule) → (o ≡ Err B5 → ⊥) →
        and_then at o (λ (b : Ballot). ballots_after contests (earlier ++ b ∷ []) (at + 1) rows) ≡ refused B5 place →
        ((ballot : Ballot) → ballots_after contests (earlier ++ ballot ∷ []) (at + 1) rows ≡ refused B5 place → ⊥) → ⊥
    by (Err rule) other g more = other (ap Err (same-rule rule B5 at place g))
    by (Ok ballot) other g more = more ballot g

-- ---- the file

sized : (contests : List Contest) (o : Option Contest) (place : ℕ) → unless_unsized contests o ≡ refused B5 place → ⊥
sized contests None place h = absurd cc
sized contests (Some contest) place h = absurd (let e = same-rule B3 B5 contest.at place h in cc)

behind : (o : Option ℕ) (rows : List Fields) (place : ℕ) → contests_behind o rows ≡ refused B5 place → ⊥
behind None rows place h = absurd (let e = same-rule B1 B5 1 place h in cc)
behind (Some n) rows place h = by (contests_in n [] 2 rows) (all-contests n [] 2 rows place) h where
  last : (contests audited : List Contest) (o : Result (List Ballot) (Refusal BRule)) → (o ≡ refused B5 place → ⊥) →
      then_on o (λ bs. Ok (map (λ (c : Contest). file_of c bs) audited)) ≡ refused B5 place → ⊥
  last contests audited (Err refusal) other g = other cc
  last contests audited (Ok bs) other g = absurd cc

  next : (contests : List Contest) (o : Result (List Contest) (Refusal BRule)) → (o ≡ refused B5 place → ⊥) →
      then_on o (λ audited. then_on (ballots_after contests [] (2 + n) (drop n rows)) (λ bs. Ok (map (λ (c : Contest). file_of c bs) audited)))
      ≡ refused B5 place → ⊥
  next contests (Err refusal) other g = other cc
  next contests (Ok audited) other g =
      last contests audited (ballots_after contests [] (2 + n) (drop n rows)) (all-ballots contests [] (2 + n) (drop n rows) place) g

  by : (o : Result (List Contest) (Refusal BRule)) → (o ≡ refused B5 place → ⊥) →
      then_on o (λ contests. then_on (all_audited contests) (λ audited. then_on (ballots_after contests [] (2 + n) (drop n rows))
      (λ bs. Ok (map (λ (c : Contest). file_of c bs) audited)))) ≡ refused B5 place → ⊥
  by (Err refusal) other g = other cc
  by (Ok contests) other g =
      next contests (all_audited contests)
      (sized contests (find (λ (c : Contest). not (has_audited_size c.candidates)) contests) place) g

pub none_is_missed : NoneIsMissed
none_is_missed bytes at h = by (numbered_records bytes) h where
  by : (rows : List Fields) → contests_from rows ≡ refused B5 at → ⊥
  by [] g = absurd (let e = same-rule B1 B5 1 at g in cc)
  by (first ∷ rows) g = behind (contest_count first) rows at g
