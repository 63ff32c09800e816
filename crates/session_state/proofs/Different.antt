-- There are at most as many different lists that pass a test as there are lists in total that pass it.
use Rattle.std.proofs.Common.{◌≡◌, ◌≢◌, suc, ◌≤◌, Bool, true, List, [], ◌∷◌, length, filter, count_by, AllPairs, sym, arith}
use Rattle.std.proofs.lemmas.List.Sums.{length-filter}
use Rattle.irv_base.proofs.Distinct.{Distinct, none, more, distinct-le}
use Rattle.irv_base.proofs.Members.{Member, contains-from_member, member-filter}

module _ {X : Type 0} where
  apart : (xs : List X) → AllPairs (λ a b. a ≢ b) xs → Distinct xs
  apart [] differ = none
  apart (x ∷ xs) differ =
      more
      (λ m. let (k, within, at) = contains-from_member m in differ 0 (suc k) x (omega arith) (omega arith) (sym at))
      (apart xs (λ i j d before within. differ (suc i) (suc j) d (omega arith) (omega arith)))

  pub different-counted : (p : X → Bool) (xs ys : List X) → AllPairs (λ a b. a ≢ b) xs → ((z : X) → Member z xs → Member z ys × (p z ≡ true)) →
      length xs ≤ count_by p ys
  different-counted p xs ys differ h =
      rw (← length-filter p ys)
      (distinct-le xs (filter p ys) (apart xs differ) (λ z m. let (among, passes) = h z m in member-filter p ys among passes))
