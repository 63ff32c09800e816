-- The parts of suffixes.
use Rattle.std.proofs.Common.{◌≡◌, ℕ, zero, suc, ◌+◌, ◌-◌, ◌<◌, ◌≤◌, ◌^◌, true, false, List, [], ◌∷◌, ◌++◌, length, drop, get_or, All, sym, ap, subst, arith, length-append, ◌∙◌}
use Rattle.std.proofs.lemmas.List.{drop_more, get_or_append_left}
use Rattle.std.proofs.lemmas.List.Sums.{sum_by-cons}
use Rattle.irv_base.specs.Candidates.{is_in, has, set_of}
use Rattle.irv_base.specs.Suffixes.{is_suffix}
use Rattle.irv_base.proofs.Members.{Member, here, there, in-from_member}
use Rattle.irv_base.proofs.Distinct.{below-from_test}
pub use Rattle.irv_base.proofs.Suffixes.{suffix_more, suffix-distinct, suffix-below, suffix-head, suffix-rest, suffix-short, suffix-has, suffix-set}

pub suffix-drop : (n k : ℕ) (t : List ℕ) → is_suffix n t ≡ true → is_suffix n (drop k t) ≡ true
suffix-drop n zero t h = h
suffix-drop n (suc k) [] h = h
suffix-drop n (suc k) (c ∷ t) h = suffix-drop n k t (suffix-rest n c t h)

at-member : (xs : List ℕ) (i d : ℕ) → i < length xs → Member (get_or xs i d) xs
at-member [] i d l = absurd (omega arith)
at-member (x ∷ xs) zero d l = here
at-member (x ∷ xs) (suc i) d l = there (at-member xs i d (omega arith))

pub suffix-all : (n : ℕ) (t : List ℕ) → is_suffix n t ≡ true → All (λ c. c < n) t
suffix-all n t h k d l = below-from_test n t (suffix-below n t h) (get_or t k d) (at-member t k d l)

-- the set of a suffix has the suffix's candidates
pub suffix-small : (n m set : ℕ) (t : List ℕ) → n ≡ m → is_suffix n t ≡ true → set ≡ set_of t → set < 2 ^ m
suffix-small n m set t same h is = subst (λ k. set < 2 ^ k) same (subst (λ x. x < 2 ^ n) (sym is) (suffix-set n t h))

-- the set of the suffix with one more candidate in front
pub set-more : (n c set wider : ℕ) (t : List ℕ) → is_suffix n t ≡ true → is_in t c ≡ false → set ≡ set_of t →
    (has set c ≡ false → wider ≡ set + 2 ^ c) → wider ≡ set_of (c ∷ t)
set-more n c set wider t h out is more =
    let none : has set c ≡ false = ap (λ s. has s c) is ∙ suffix-has n t c h ∙ out in
    omega (arith, more none, is, sum_by-cons (λ d. 2 ^ d) c t)

pub suffix-member : (n x set : ℕ) (t : List ℕ) → is_suffix n t ≡ true → set ≡ set_of t → Member x t → has set x ≡ true
suffix-member n x set t h same m = ap (λ s. has s x) same ∙ suffix-has n t x h ∙ in-from_member m

pub suffix-members : (n c set : ℕ) (t : List ℕ) → is_suffix n (c ∷ t) ≡ true → set ≡ set_of (c ∷ t) → All (λ l. has set l ≡ true) t
suffix-members n c set t h same k d l = suffix-member n (get_or t k d) set (c ∷ t) h same (there (at-member t k d l))

-- the candidate before a place is neither at it nor after it
pub before-out : (n at c : ℕ) (list : List ℕ) → is_suffix n list ≡ true → 0 < at → at ≤ length list → c ≡ get_or list (at - 1) c →
    is_in (drop at list) c ≡ false
before-out n at c list h some within e =
    let lt : at - 1 < length list = omega arith in
    let next : at - 1 + 1 ≡ at = omega arith in
    let split : drop (at - 1) list ≡ c ∷ drop at list = drop_more list (at - 1) c lt ∙ ap (λ x. x ∷ drop (at - 1 + 1) list) (sym e)
    ∙ ap (λ k. c ∷ drop k list) next in
    (suffix-head n c (drop at list) (ap (is_suffix n) (sym split) ∙ suffix-drop n (at - 1) list h)).1

-- the same, if more candidates come after the list
pub before-front : (n at c : ℕ) (list behind : List ℕ) → is_suffix n (list ++ behind) ≡ true → 0 < at → at ≤ length list → c ≡ get_or list (at - 1) c →
    (c < n) × (is_in (drop at (list ++ behind)) c ≡ false) × (c ∷ drop at (list ++ behind) ≡ drop (at - 1) (list ++ behind))
before-front n at c list behind h some within e =
    let lt : at - 1 < length list = omega arith in
    let within' : at ≤ length (list ++ behind) = omega (arith, length-append list behind) in
    let lt' : at - 1 < length (list ++ behind) = omega (arith, length-append list behind) in
    let next : at - 1 + 1 ≡ at = omega arith in
    let e' : c ≡ get_or (list ++ behind) (at - 1) c = e ∙ sym (get_or_append_left list behind c (at - 1) lt) in
    let split : drop (at - 1) (list ++ behind) ≡ c ∷ drop at (list ++ behind) = drop_more (list ++ behind) (at - 1) c lt'
    ∙ ap (λ x. x ∷ drop (at - 1 + 1) (list ++ behind)) (sym e') ∙ ap (λ k. c ∷ drop k (list ++ behind)) next in
    let parts = suffix-head n c (drop at (list ++ behind)) (ap (is_suffix n) (sym split) ∙ suffix-drop n (at - 1) (list ++ behind) h) in
    (parts.0, parts.1, sym split)
