-- Scored suffixes in the order in which they are searched.
use Rattle.std.proofs.Common.{◌≡◌, ◌⊎◌, inl, inr, ◌<◌, reverse, refl, sym, false, true, ◌∙◌}
use Rattle.std.specs.declared.cmp.Ordering.{Ordering}
use Rattle.std.specs.declared.cmp.Ordering.TheVariants.{Less, Equal, Greater}
use Rattle.std.specs.Cmp.Lexicographic.{slice_cmp}
use Rattle.std.specs.Ordering.{is_lt, nat_cmp, ordering_then}
use Rattle.std.proofs.lemmas.Cmp.{ranked}
use Rattle.assertions.specs.Suffixes.{comes_before}
use Rattle.assertions.proofs.Ords.{is_lt-keys}
use Rattle.suffix_tree.specs.declared.scored.Scored.{Scored}
use Rattle.suffix_tree.specs.Scores.{search_cmp}

not_less : (o p : Ordering) → is_lt (ordering_then o p) ≡ false → is_lt o ≡ false
not_less Less p h = h
not_less Equal p h = refl
not_less Greater p h = refl

-- a suffix that isn't searched before another has a greater low, or the same low and doesn't come before it when both are read
-- backwards
pub not_sooner : (x y : Scored) → is_lt (search_cmp y x) ≡ false → (x.low < y.low) ⊎ ((x.low ≡ y.low) × (comes_before y.tail.list x.tail.list ≡ false))
not_sooner x y h = go (nat_cmp y.low x.low) refl h where
  rest : Ordering
  rest = slice_cmp nat_cmp (reverse y.tail.list) (reverse x.tail.list)

  go : (o : Ordering) → nat_cmp y.low x.low ≡ o → is_lt (search_cmp y x) ≡ false →
      (x.low < y.low) ⊎ ((x.low ≡ y.low) × (comes_before y.tail.list x.tail.list ≡ false))
  go Less e h = let e' : is_lt (search_cmp y x) ≡ true = rw e refl in cc
  go Equal e h =
      let later : is_lt rest ≡ false = not_less rest _ (rw e at h) in
      inr (sym (ranked y.low x.low Equal (sym e)), sym (is_lt-keys (reverse y.tail.list) (reverse x.tail.list)) ∙ later)
  go Greater e h = inl (ranked y.low x.low Greater (sym e))
