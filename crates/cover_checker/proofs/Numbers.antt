-- The same value is under each number.
use Rattle.std.proofs.Common.{◌≡◌, inl, inr, ℕ, cond, Bool, true, false, List, length, get_or, replicate, refl, ap, subst, sym, ◌<◌, ◌≤◌, ◌∙◌}
use Rattle.std.proofs.lemmas.Bool.{cases_lt}
use Rattle.std.proofs.lemmas.List.{get_or-replicate, get_or_past, length-replicate}

everywhere : {T : Type 0} (k i : ℕ) (x : T) → get_or (replicate k x) i x ≡ x
everywhere k i x = elim (cases_lt i k) [
  | inl below ↦ get_or-replicate k i x x below
  | inr le ↦ get_or_past (replicate k x) i x (subst (λ m. m ≤ i) (sym (length-replicate k x)) le)
]

pub all-under : {T : Type 0} (near : List T) (b : Bool) (number : ℕ) (none : T) → near ≡ replicate (length near) none →
    cond b (get_or near number none) none ≡ none
all-under near true number none e = ap (λ xs. get_or xs number none) e ∙ everywhere (length near) number none
all-under near false number none e = refl
