-- A fault of the desk ends a call, however many files it reads.
use Rattle.std.proofs.Common.{◌≡◌, inl, inr, ⊎_elim, ℕ, ◌<◌, subst, ◌∙◌, arith}
use Rattle.cli_base.specs.Ends.{Writing, IsWritten}
use Rattle.cli_base.specs.Faults.{IsFaultTold}
use Rattle.cli_base.specs.Outcome.{Outcome}
use Rattle.cli_base.specs.Statuses.{IsUndone}

-- a reading that succeeded, with status 0 so far, saw no fault
unfailed : {a b : ℕ} → IsFaultTold a b 0 → b ≡ a
unfailed {a} {b} told =
    let none : a < b → ⊥ = λ rose. omega (arith, told.rise_stops rose) in
    let never_fewer = told.never_fewer in omega (arith, none, never_fewer)

-- what comes after it
pub told_on : {a b c status : ℕ} → IsFaultTold a b 0 → IsFaultTold b c status → IsFaultTold a c status
told_on {a} {b} {c} {status} first rest = subst (λ x. IsFaultTold x c status) (unfailed first) rest

-- the whole call, whose outcome is written completely or in part
pub read_told : {a b status : ℕ} {out err : Writing} (due : Outcome) → IsFaultTold a b due.status → IsWritten due status out err → a < b → IsUndone status
read_told due told (inl whole) rose = ⊎_elim (λ seven. inl (whole.ends ∙ seven)) (λ nine. inr (inr (whole.ends ∙ nine))) (told.rise_stops rose)
read_told due told (inr cut) rose = inr (inl cut.ends)
