-- The last comma of a draw's text separates the seed from the number.
use Rattle.std.proofs.Common.{◌≡◌, ℕ, List, [], ◌∷◌, ◌++◌, decimal, refl, subst, arith}
use Rattle.std.specs.Str.Parse.{AllDigits}
use Rattle.std.proofs.lemmas.Fmt.{decimal_injective, decimal_is_IsNumeral}
use Rattle.sampler.specs.Draws.{comma}
use Rattle.sampler.specs.Laws.{TextTellsDraw}

no_comma : (before digits : List ℕ) → AllDigits 10 (before ++ comma ∷ digits) → ⊥
no_comma [] digits h = omega (arith, h.0)
no_comma (b ∷ before) digits h = no_comma before digits h.1

parted : (before other digits others : List ℕ) → AllDigits 10 digits → AllDigits 10 others → before ++ comma ∷ digits ≡ other ++ comma ∷ others →
    (before ≡ other) × (digits ≡ others)
parted [] [] digits others d d' e = (refl, cc)
parted [] (c ∷ other) digits others d d' e = absurd (no_comma other others (let tail : digits ≡ other ++ comma ∷ others = cc in subst (AllDigits 10) tail d))
parted (b ∷ before) [] digits others d d' e =
    absurd (no_comma before digits (let tail : others ≡ before ++ comma ∷ digits = cc in subst (AllDigits 10) tail d'))
parted (b ∷ before) (c ∷ other) digits others d d' e =
    let tail : before ++ comma ∷ digits ≡ other ++ comma ∷ others = cc in
    let (same, number) = parted before other digits others d d' tail in (cc, number)

pub text-tells-draw : TextTellsDraw
text-tells-draw seed other k k' l l' e =
    let (same, digits) = parted seed other (decimal k) (decimal k') (decimal_is_IsNumeral k l).0.1 (decimal_is_IsNumeral k' l').0.1 e in
    (same, decimal_injective k k' l l' digits)
