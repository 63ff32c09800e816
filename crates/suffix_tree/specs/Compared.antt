-- The order in which scored suffixes are searched is total.
use Rattle.std.specs.Prelude.{reverse}
use Rattle.std.specs.Cmp.{IsTotalOrder, back_total, on_total, then_total, nat_cmp_total}
use Rattle.std.specs.Cmp.Lexicographic.{nat_list_cmp_total, options_total}
use Rattle.assertions.proofs.Ords.{cmp_total}
use Rattle.suffix_tree.specs.declared.scored.Scored.{Scored}
use Rattle.suffix_tree.specs.Scores.{first_is_greatest}

pub search_total : IsTotalOrder first_is_greatest
search_total =
    back_total
    (then_total (on_total (λ (s : Scored). s.low) nat_cmp_total)
    (then_total (on_total (λ (s : Scored). reverse s.tail.list) nat_list_cmp_total)
    (then_total (on_total (λ (s : Scored). s.tail.n) nat_cmp_total)
    (on_total (λ (s : Scored). s.by) (options_total cmp_total)))))
