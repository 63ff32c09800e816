use Rattle.std.proofs.Common.{◌++◌, ap, ◌∙◌}
use Rattle.std.proofs.lemmas.List.Sorted.{IsPermutation-trans}
use Rattle.fewest_search.proofs.sparing.in_turn.Goals as goal

pub returns : goal.returns
returns c = record {
  later = c.reverse.new.self.items;
  joined = c.in_ok-extend_from_slice.ensures.items ∙ ap (λ later. c.args.nens.items ++ later) c.as_slice.ensures.value;
  same = IsPermutation-trans c.args.nebs.items c.sort_by_key.new.self.items c.reverse.new.self.items c.sort_by_key.ensures.permutation
      c.reverse.ensures.permutation;
}
