-- The set of a suffix, built candidate by candidate.
use Rattle.std.proofs.Common.{◌≡◌, ℕ, ◌+◌, ◌^◌, ◌<◌, true, false, List, [], ◌∷◌, ◌++◌, length, get_or, take, drop, sym, ap, subst, take-append-drop, ◌∙◌}
use Rattle.std.proofs.lemmas.List.{take_more, drop_more}
use Rattle.std.proofs.lemmas.List.Sums.{sum_by_push}
use Rattle.irv_base.specs.Candidates.{set_of, has, is_distinct}
use Rattle.irv_base.proofs.Members.{out-from_none}
use Rattle.irv_base.proofs.Distinct.{Distinct, distinct-split, distinct-from_test}
use Rattle.irv_base.proofs.Sets.{has-set_of}

pub set_of-next : (xs : List ℕ) (i x set next : ℕ) → is_distinct xs ≡ true → i < length xs → x ≡ get_or xs i x → set ≡ set_of (take i xs) →
    (has set x ≡ false → next ≡ set + 2 ^ x) → next ≡ set_of (take (i + 1) xs)
set_of-next xs i x set next d l at so_far add =
    let split : xs ≡ take i xs ++ x ∷ drop (i + 1) xs = sym (take-append-drop i xs)
    ∙ ap (λ r. take i xs ++ r) (drop_more xs i x l ∙ ap (λ y. y ∷ drop (i + 1) xs) (sym at)) in
    let (apart, out) = distinct-split (take i xs) x (drop (i + 1) xs) (subst Distinct split (distinct-from_test xs d)) in
    let absent : has set x ≡ false = ap (λ s. has s x) so_far ∙ has-set_of (take i xs) x apart ∙ out-from_none x (take i xs) out in
    add absent ∙ ap (λ s. s + 2 ^ x) so_far ∙ sym (sum_by_push (λ c. 2 ^ c) (take i xs) x) ∙ ap (λ y. set_of (take i xs ++ y ∷ [])) at
    ∙ sym (ap set_of (take_more xs i x l))
