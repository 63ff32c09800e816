-- The suffixes come in order, read backwards.
use Rattle.std.proofs.Common.{◌≡◌, ℕ, ◌<◌, false, true, List, [], ◌∷◌}
use Rattle.std.proofs.lemmas.Bool.{false_from_ne_true}
use Rattle.assertions.specs.Lists.{stands_before}
use Rattle.assertions.specs.Suffixes.{suffixes_ending}
use Rattle.assertions.proofs.Backwards.{stands_before-not_both}
use Rattle.assertions.proofs.Enumerated.{ends_longer}
use Rattle.assertions.proofs.Firsts.{IsBefore, across-endings}
use Rattle.irv_base.proofs.Members.{Member}

pub before-not_self : (p : List ℕ) → stands_before p p ≡ false
before-not_self p = false_from_ne_true (stands_before p p) (λ r. stands_before-not_both p p r r)

pub before-not_after : (p q : List ℕ) → stands_before p q ≡ true → stands_before q p ≡ false
before-not_after p q h = false_from_ne_true (stands_before q p) (λ r. stands_before-not_both p q h r)

pub pieces-across : (n k c d : ℕ) (x y : List ℕ) → c < d → Member x (suffixes_ending n k (c ∷ [])) → Member y (suffixes_ending n k (d ∷ [])) → IsBefore x y
pieces-across n k c d x y l a b = across-endings x y [] c d l (ends_longer n k (c ∷ []) x a) (ends_longer n k (d ∷ []) y b)
