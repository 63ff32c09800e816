-- Children that are left out because they aren't below the bound: what happens to the others is what happens to all.
use Rattle.std.proofs.Common.{◌≡◌, ◌+◌, ◌≤◌, ◌<◌, ℕ, nat_lt, Bool, true, false, cond, inl, inr, List, [], ◌∷◌, filter, count_by, All, Contains, Option, None, Some, IfSome, subst, lt-ltb, arith}
use Rattle.std.proofs.lemmas.Bool.{cases_lt}
use Rattle.std.proofs.lemmas.List.Elements.{All-weaker}
use Rattle.std.proofs.lemmas.List.Sums.{sum_by-cons}
use Rattle.irv_base.proofs.Members.{member-filter, from_filter, member-from_contains, contains-from_member}
use Rattle.suffix_tree.specs.declared.scored.Scored.{Scored}
use Rattle.bound_search.specs.Fronts.{Frontier}
use Rattle.bound_search.specs.Sifted.{IsPlaced, IsOpenChild, IsFoundChild, IsPut}

fewer : {X : Type 0} (p q : X → Bool) (xs : List X) → count_by p (filter q xs) ≤ count_by p xs
fewer p q [] = omega arith
fewer {X} p q (x ∷ xs) = go (q x) (fewer p q xs) where
  first : count_by p (x ∷ xs) ≡ cond (p x) 1 0 + count_by p xs
  first = sum_by-cons (λ y. cond (p y) 1 0) x xs

  go : (b : Bool) → count_by p (filter q xs) ≤ count_by p xs → count_by p (cond b (x ∷ filter q xs) (filter q xs)) ≤ count_by p (x ∷ xs)
  go true ih =
      let kept : count_by p (x ∷ filter q xs) ≡ cond (p x) 1 0 + count_by p (filter q xs) = sum_by-cons (λ y. cond (p y) 1 0) x (filter q xs) in
      omega (arith, first, kept, ih)
  go false ih = omega (arith, first, ih)

module _ (all : List Scored) (bound : ℕ) where
  abbrev below : List Scored
  below = filter (λ s. nat_lt s.low bound) all

  among : (x : Scored) → Contains below x → Contains all x
  among x h = contains-from_member (from_filter (λ (s : Scored). nat_lt s.low bound) all (member-from_contains x below h)).0

  open_one : (x : Scored) → IsOpenChild below bound x → IsOpenChild all bound x
  open_one x h = record { one = among x h.one; below = h.below; part = h.part }

  found_one : (found : Option Scored) → IfSome found (IsFoundChild below bound) → IfSome found (IsFoundChild all bound)
  found_one None h = tt
  found_one (Some x) h = record { one = among x h.one; below = h.below; whole = h.whole }

  placed : (fresh : List Scored) (found : Option Scored) → ((x : Scored) → Contains below x → IsPlaced bound fresh found x) →
      (x : Scored) → Contains all x → IsPlaced bound fresh found x
  placed fresh found h x m = elim (cases_lt x.low bound) [
    | inl l ↦ h x (contains-from_member (member-filter (λ (s : Scored). nat_lt s.low bound) all (member-from_contains x all m) (lt-ltb x.low bound l)))
    | inr le ↦ inl le
  ]

pub put-all : (all children : List Scored) (old new : Frontier) (found : Option Scored) → children ≡ filter (λ s. nat_lt s.low old.bound) all →
    IsPut children old new found → IsPut all old new found
put-all all children old new found e put' =
    let put : IsPut (filter (λ s. nat_lt s.low old.bound) all) old new found = subst (λ xs. IsPut xs old new found) e put' in
    record {
      fresh = put.fresh;
      replaced = put.replaced;
      placed = placed all old.bound put.fresh found put.placed;
      stays = All-weaker (IsOpenChild (below all old.bound) old.bound) (IsOpenChild all old.bound) (open_one all old.bound) put.fresh put.stays;
      counts = λ p. omega (arith, put.counts p, fewer p (λ (s : Scored). nat_lt s.low old.bound) all);
      found_one = found_one all old.bound found put.found_one;
      piece = put.piece;
      bound = put.bound;
      expanded = put.expanded;
      least = put.least;
    }
