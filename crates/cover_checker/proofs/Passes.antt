-- What newly refutes a set with one more candidate, by the index of a list.
use Rattle.std.proofs.Common.{◌≡◌, ℕ, ◌+◌, ◌^◌, Bool, true, false, not, List, refl, sym, ap, arith, ◌∙◌}
use Rattle.std.specs.List.{list_any}
use Rattle.irv_base.specs.Candidates.{has, is_in, set_of}
use Rattle.irv_base.specs.Suffixes.{is_suffix}
use Rattle.irv_base.proofs.Suffixes.{suffix-has}
use Rattle.assertions.specs.declared.assertion.Assertion.{Assertion}
use Rattle.assertions.specs.declared.assertion.Assertion.TheVariants.{Neb, Nen}
use Rattle.assertions.specs.Steps.{more, is_anew}
use Rattle.set_walk.specs.Walks.{passes}
use Rattle.cover_checker.specs.Indexed.{is_new}
use Rattle.cover_checker.proofs.New.{any-same}

anew-is : (a : Assertion) (set c : ℕ) → is_new a c (more set c) ≡ is_anew a set c
anew-is (Neb w l) set c = refl
anew-is (Nen w l rest) set c = refl

pub passes-is : (list : List Assertion) (set c with_c : ℕ) → with_c ≡ set + 2 ^ c → not (list_any (λ a. is_new a c with_c) list) ≡ passes list set c
passes-is list set c with_c e =
    let same : with_c ≡ more set c = omega (arith, e) in
    ap (λ s. not (list_any (λ a. is_new a c s) list)) same
    ∙ ap not (any-same (λ a. is_new a c (more set c)) (λ a. is_anew a set c) list (λ a m. anew-is a set c))

-- by an index, an assertion newly refutes a suffix with c in front; otherwise the step passes
pub goes-is : (n : ℕ) (list : List Assertion) (t : List ℕ) (c set with_c : ℕ) (any : Bool) → is_suffix n t ≡ true → is_in t c ≡ false → set ≡ set_of t →
    (has set c ≡ false → with_c ≡ set + 2 ^ c) → any ≡ list_any (λ a. is_new a c with_c) list → passes list (set_of t) c ≡ not any
goes-is n list t c set with_c any proper out same number e =
    let free : has set c ≡ false = ap (λ s. has s c) same ∙ suffix-has n t c proper ∙ out in
    ap (λ s. passes list s c) (sym same) ∙ sym (passes-is list set c with_c (number free)) ∙ ap not (sym e)
