-- Records with the same bag have the same low for each suffix, and so the same best margin.
use Rattle.std.proofs.Common.{◌≡◌, ℕ, ◌-◌, Bool, true, nat_lt, ◌&&◌, cond, List, [], ◌∷◌, map, filter, refl, sym, ap, ap₂, ◌∙◌}
use Rattle.std.proofs.Math.Path.{fun_ext}
use Rattle.irv_base.proofs.Members.{Member, here, there, from_filter}
use Rattle.assertions.specs.declared.assertion.Assertion.{Assertion}
use Rattle.assertions.specs.declared.assertion.Assertion.TheVariants.{Neb, Nen}
use Rattle.assertions.specs.Assertions.{assertions, is_proper, is_true, true_margin, votes_for, votes_against}
use Rattle.assertions.specs.Refutation.{refutes}
use Rattle.assertions.specs.Hardness.{greatest, low, true_refuters}
use Rattle.assertions.proofs.Listed.{assertion-proper}
use Rattle.assertions.proofs.Proper.{pair_facts, nen_facts}
use Rattle.set_tallies.specs.Bags.{Kept, IsOf}

filter-same : {X : Type 0} (p q : X → Bool) (xs : List X) → ((x : X) → Member x xs → p x ≡ q x) → filter p xs ≡ filter q xs
filter-same p q [] h = refl
filter-same p q (x ∷ xs) h = ap (λ b. cond b (x ∷ filter p xs) (filter p xs)) (h x here)
    ∙ ap (λ r. cond (q x) (x ∷ r) r) (filter-same p q xs (λ y m. h y (there m)))

map-same : {X Y : Type 0} (f g : X → Y) (xs : List X) → ((x : X) → Member x xs → f x ≡ g x) → map f xs ≡ map g xs
map-same f g [] h = refl
map-same f g (x ∷ xs) h = ap₂ (λ y ys. y ∷ ys) (h x here) (map-same f g xs (λ y m. h y (there m)))

module _ (bag : Kept) (records others : List (List ℕ)) (a : IsOf bag records) (b : IsOf bag others) where
  for-same : (x : Assertion) → is_proper bag.n x ≡ true → votes_for records x ≡ votes_for others x
  for-same (Neb w l) h = let p = pair_facts bag.n w l h in sym (a.firsts w p.winner) ∙ b.firsts w p.winner
  for-same (Nen w l rest) h = let p = nen_facts bag.n w l rest h in sym (a.tallies rest w p.small p.pair.winner p.has_winner)
      ∙ b.tallies rest w p.small p.pair.winner p.has_winner

  against-same : (x : Assertion) → is_proper bag.n x ≡ true → votes_against records x ≡ votes_against others x
  against-same (Neb w l) h = let p = pair_facts bag.n w l h in sym (a.ahead l w p.loser p.winner) ∙ b.ahead l w p.loser p.winner
  against-same (Nen w l rest) h = let p = nen_facts bag.n w l rest h in sym (a.tallies rest l p.small p.pair.loser p.has_loser)
      ∙ b.tallies rest l p.small p.pair.loser p.has_loser

  refuters-same : (s : List ℕ) → true_refuters bag.n records s ≡ true_refuters bag.n others s
  refuters-same s =
      filter-same (λ x. refutes x s && is_true records x) (λ x. refutes x s && is_true others x) (assertions bag.n)
      (λ x m. let h = assertion-proper bag.n x m in ap₂ (λ u v. refutes x s && nat_lt u v) (against-same x h) (for-same x h))

  low-same : (s : List ℕ) → low bag.n records s ≡ low bag.n others s
  low-same s =
      ap greatest
      (map-same (true_margin records) (true_margin others) (true_refuters bag.n records s) (λ x m.
      let h = assertion-proper bag.n x (from_filter (λ x. refutes x s && is_true records x) (assertions bag.n) m).0 in
      ap₂ (λ u v. u - v) (for-same x h) (against-same x h))
      ∙ ap (map (true_margin others)) (refuters-same s))

  pub lows-same : low bag.n records ≡ low bag.n others
  lows-same = fun_ext low-same
