-- What stops a call at a file.
use Rattle.std.proofs.Common.{◌≡◌, ◌⊎◌, ℕ, ◌<◌, List, Option, None, Some, IfSome, nat_le, length, Bool, true, false, if◌then◌else◌, refl, sym, ap, arith, inl, inr, leb-true, ◌∙◌}
use Rattle.desk.specs.Desk.{File, held_bytes}
use Rattle.cli_base.specs.Outcome.{Outcome, read_fault, out_of_memory, too_long}
use Rattle.cli_base.specs.Script.{Bytes, TooLong, Fault, AsTold, ByDesk, MayStop, reading_of, limit}
use Rattle.cli_base.specs.Due.{IsOrMemory}

longer : (held : Option (List ℕ)) (bytes : List ℕ) → held ≡ Some bytes → limit < length bytes → TooLong ≡ reading_of held
longer held bytes e l = sym (ap reading_of e ∙ by_length (nat_le (length bytes) limit) refl) where
  by_length : (b : Bool) → nat_le (length bytes) limit ≡ b → (if b then Bytes bytes else TooLong) ≡ TooLong
  by_length true h = let le = leb-true (length bytes) limit h in absurd (omega arith)
  by_length false h = refl

told_longer : (held : Option (List File)) (name : List ℕ) →
    IfSome held (λ files. (bytes : List ℕ) × (held_bytes name files ≡ Some bytes) × (limit < length bytes)) → AsTold held name TooLong
told_longer None name h = λ e. cc
told_longer (Some files) name (bytes, e, l) = longer (held_bytes name files) bytes e l

pub too_long_stops : (held : Option (List File)) (failed : Type 0) (name : List ℕ) (due : Outcome) →
    IfSome held (λ files. (bytes : List ℕ) × (held_bytes name files ≡ Some bytes) × (limit < length bytes)) →
    IsOrMemory (too_long name) due → MayStop (ByDesk held failed) name due ⊎ (due ≡ out_of_memory)
too_long_stops held failed name due h (inl e) = inl (TooLong, inl (told_longer held name h), ap Some (sym e))
too_long_stops held failed name due h (inr memory) = inr memory

pub fault_stops : (held : Option (List File)) (failed : Type 0) (name : List ℕ) (due : Outcome) → failed →
    IsOrMemory (read_fault name) due → MayStop (ByDesk held failed) name due ⊎ (due ≡ out_of_memory)
fault_stops held failed name due f (inl e) = inl (Fault, inr (refl, f), ap Some (sym e))
fault_stops held failed name due f (inr memory) = inr memory
