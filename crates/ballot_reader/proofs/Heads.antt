-- The head of a ballot's record.
use Rattle.std.proofs.Common.{◌≡◌, ◌∙◌, ◌∷◌, ℕ, true, List, Option, Some, None, Err, sym, ap}
use Rattle.std.specs.Prelude.{IfSome, IfNone, position, if◌then◌else◌}
use Rattle.std.specs.List.{slice_get}
use Rattle.csv_rows.specs.Rows.{Fields}
use Rattle.irv_base.specs.Names.{Id, is_name}
use Rattle.ballots.specs.Grammar.{Ballot, Contest, ballot_for, ballot_in, contest_with_id, has_id}
use Rattle.ballots.specs.declared.fault.BRule.TheVariants.{B4, B7}
use Rattle.irv_base.proofs.Positions.{found_at, found_none}

named : (contests : List Contest) (earlier : List Ballot) (at : ℕ) (row : Fields) (of id : Id) (preferences : Fields) → row ≡ of ∷ id ∷ preferences →
    is_name id ≡ true
    → ballot_in contests earlier at row ≡ ballot_for earlier at id preferences (contest_with_id contests of)
named contests earlier at row of id preferences e valid =
    ap (ballot_in contests earlier at) e ∙ ap (λ b. if b then ballot_for earlier at id preferences (contest_with_id contests of) else Err B4) valid

pub head-follows : (contests : List Contest) (row : Fields) (of id name : Id) (preferences : Fields) (k : ℕ) → row ≡ of ∷ id ∷ preferences → name ≡ id →
    is_name id ≡ true
    → position (has_id of) contests ≡ Some k → (earlier : List Ballot) → (at : ℕ) → ballot_in contests earlier at row
    ≡ ballot_for earlier at name preferences (slice_get contests k)
head-follows contests row of id name preferences k e same valid there earlier at =
    named contests earlier at row of id preferences e valid ∙ ap (ballot_for earlier at id preferences) (found_at (has_id of) contests k there)
    ∙ ap (λ i. ballot_for earlier at i preferences (slice_get contests k)) (sym same)

pub head-elsewhere : (contests : List Contest) (row : Fields) (of id : Id) (preferences : Fields) → row ≡ of ∷ id ∷ preferences → is_name id ≡ true
    → position (has_id of) contests ≡ None → (earlier : List Ballot) → (at : ℕ) → ballot_in contests earlier at row ≡ Err B7
head-elsewhere contests row of id preferences e valid none earlier at =
    named contests earlier at row of id preferences e valid ∙ ap (ballot_for earlier at id preferences) (found_none (has_id of) contests none)

pub asked-place : (contests : List Contest) (id : Id) (o : Option ℕ) → o ≡ position (has_id id) contests →
    IfSome o (λ k. contest_with_id contests id ≡ slice_get contests k)
asked-place contests id None e = tt
asked-place contests id (Some k) e = found_at (has_id id) contests k (sym e)

pub asked-none : (contests : List Contest) (id : Id) (o : Option ℕ) → o ≡ position (has_id id) contests → IfNone o (contest_with_id contests id ≡ None)
asked-none contests id None e = found_none (has_id id) contests (sym e)
asked-none contests id (Some k) e = tt
