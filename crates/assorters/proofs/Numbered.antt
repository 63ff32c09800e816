-- The discrepancies of the cards by their numbers.
use Rattle.std.proofs.Common.{◌≡◌, ℕ, zero, suc, ◌-◌, ◌<◌, ◌≤◌, List, [], ◌∷◌, map, length, get_or, All, refl, sym, ◌∙◌, ap, arith}
use Rattle.std.specs.List.{range_with_len}
use Rattle.std.proofs.lemmas.List.{same_lists}
use Rattle.std.proofs.lemmas.List.FromFn.{length-map-range_with_len, get_or-map-range_with_len}
use Rattle.std.proofs.lemmas.List.Elements.{All-nil, All-cons}
use Rattle.manifest.specs.declared.recorded.Recorded.{Recorded}
use Rattle.manifest.specs.declared.recorded.Recorded.TheVariants.{Without}
use Rattle.assorters.specs.declared.seen.Seen.{Seen}
use Rattle.assorters.specs.declared.seen.Seen.TheVariants.{Missing}
use Rattle.assorters.specs.Cards.{IsAssorter, discrepancy, discrepancies, discrepancy_of}
use Rattle.assorters.specs.Laws.{DiscrepanciesLaw}
use Rattle.assorters.proofs.Comparison.{seen-within}

module _ (value : List ℕ → ℕ) where
  pub discrepancy-within : IsAssorter value → (r : Recorded) (s : Seen) → discrepancy value r s ≤ 4
  discrepancy-within is r s = let most = seen-within value is s in omega arith

  length-discrepancies : (recorded : List Recorded) (seen : List Seen) → length seen ≡ length recorded →
      length (discrepancies value recorded seen) ≡ length recorded
  length-discrepancies [] [] long = refl
  length-discrepancies [] (s ∷ seen) long = absurd (omega arith)
  length-discrepancies (r ∷ recorded) [] long = absurd (omega arith)
  length-discrepancies (r ∷ recorded) (s ∷ seen) long = ap suc (length-discrepancies recorded seen (omega arith))

  discrepancies-at : (recorded : List Recorded) (seen : List Seen) → length seen ≡ length recorded → (k d : ℕ) → k < length recorded →
      get_or (discrepancies value recorded seen) k d ≡ discrepancy value (get_or recorded k Without) (get_or seen k Missing)
  discrepancies-at [] seen long k d below = absurd (omega arith)
  discrepancies-at (r ∷ recorded) [] long k d below = absurd (omega arith)
  discrepancies-at (r ∷ recorded) (s ∷ seen) long zero d below = refl
  discrepancies-at (r ∷ recorded) (s ∷ seen) long (suc k) d below = discrepancies-at recorded seen (omega arith) k d (omega arith)

  pub numbered : (recorded : List Recorded) (seen : List Seen) → length seen ≡ length recorded →
      map (discrepancy_of value recorded seen) (range_with_len 1 (length recorded)) ≡ discrepancies value recorded seen
  numbered recorded seen long =
      same_lists (map (discrepancy_of value recorded seen) (range_with_len 1 (length recorded))) (discrepancies value recorded seen)
      (length-map-range_with_len (discrepancy_of value recorded seen) 1 (length recorded) ∙ sym (length-discrepancies recorded seen long))
      (λ k d below.
      let within : k < length recorded = rw (length-map-range_with_len (discrepancy_of value recorded seen) 1 (length recorded)) at below in
      let back : suc k - 1 ≡ k = omega arith in
      get_or-map-range_with_len (discrepancy_of value recorded seen) 1 (length recorded) k (suc k) d within (omega arith)
      ∙ ap (λ i. discrepancy value (get_or recorded i Without) (get_or seen i Missing)) back
      ∙ sym (discrepancies-at recorded seen long k d within))

  pub discrepancies-within : IsAssorter value → (recorded : List Recorded) (seen : List Seen) → All (λ d. d ≤ 4) (discrepancies value recorded seen)
  discrepancies-within is [] seen = All-nil (λ d. d ≤ 4)
  discrepancies-within is (r ∷ recorded) [] = All-nil (λ d. d ≤ 4)
  discrepancies-within is (r ∷ recorded) (s ∷ seen) =
      All-cons (λ d. d ≤ 4) (discrepancy value r s) (discrepancies value recorded seen) (discrepancy-within is r s) (discrepancies-within is recorded seen)

pub discrepancies_law : DiscrepanciesLaw
discrepancies_law value recorded seen is long = (numbered value recorded seen long, discrepancies-within value is recorded seen)
