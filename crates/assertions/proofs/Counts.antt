-- What the cover count counts.
use Rattle.std.proofs.Common.{◌≡◌, ℕ, ◌<◌, Bool, nat_lt, List, length, filter, reverse, ap, sym, true, lt-ltb, ltb-true, Contains, AllPairs, ◌↔◌, ◌∙◌}
use Rattle.std.proofs.lemmas.List.Sums.{length-filter}
use Rattle.irv_base.specs.Orders.{Elects}
use Rattle.irv_base.proofs.Members.{Member, contains-from_member, from_filter, member-filter, member-from_contains}
use Rattle.assertions.specs.Certificate.{cover_count}
use Rattle.assertions.specs.Suffixes.{is_suffix, parts_ending}
use Rattle.assertions.proofs.Backwards.{stands_before-not_both}
use Rattle.assertions.proofs.Firsts.{IsBefore}
use Rattle.assertions.proofs.Listings.{parts_ending_are, parts_rise}
use Rattle.assertions.proofs.Sorted.{sorted-filter, sorted-from_pairs, sorted-same}

pub cover_count_is : (n c margin : ℕ) (low : List ℕ → ℕ) (below : List (List ℕ)) → c < n → AllPairs IsBefore below →
    ((s : List ℕ) → (Contains below s ↔ ((is_suffix n s ≡ true) × Elects s c × (length s < n) × (low s < margin)))) →
    cover_count n low margin c ≡ length below
cover_count_is n c margin low below inside rise are =
    let test : List ℕ → Bool = λ s. nat_lt (low s) margin in
    let parts : List (List ℕ) = parts_ending n c in
    let same : filter test parts ≡ below =
    sorted-same IsBefore (λ x y. stands_before-not_both (reverse x) (reverse y)) (filter test parts) below
    (sorted-filter IsBefore test (sorted-from_pairs IsBefore parts (parts_rise n c))) (sorted-from_pairs IsBefore below rise) listed counted in
    sym (length-filter test parts) ∙ ap length same
  where
    listed : (s : List ℕ) → Member s (filter (λ s. nat_lt (low s) margin) (parts_ending n c)) → Member s below
    listed s m =
        let (part, lt) = from_filter (λ s. nat_lt (low s) margin) (parts_ending n c) m in
        let (proper, elects, short) = (parts_ending_are n c s inside).0 (contains-from_member part) in
        member-from_contains s below ((are s).1 (proper, elects, short, ltb-true (low s) margin lt))

    counted : (s : List ℕ) → Member s below → Member s (filter (λ s. nat_lt (low s) margin) (parts_ending n c))
    counted s m =
        let (proper, elects, short, lt) = (are s).0 (contains-from_member m) in
        member-filter (λ s. nat_lt (low s) margin) (parts_ending n c)
        (member-from_contains s (parts_ending n c) ((parts_ending_are n c s inside).1 (proper, elects, short)))
        (lt-ltb (low s) margin lt)
