use Rattle.std.proofs.Common.{ℕ, length, ap, ◌∙◌}
use Rattle.std.proofs.lemmas.List.{length-replicate}
use Rattle.set_tallies.specs.Sums.{column, apart}
use Rattle.set_tallies.proofs.Columns.{cells, zeros-apart}
use Rattle.set_tallies.proofs.table.zeros.Goals as goal

pub returns-clause-long : goal.returns-clause-long
returns-clause-long c =
    let items = c.in_ok-vec.ensures.items_if_clones_equal (λ y same. same) in
    let nought : ℕ = 0 in
    ap length items ∙ length-replicate _ nought ∙ cells c.args.n c.args.n c.requires c.requires

pub returns-clause-zeros : goal.returns-clause-zeros
returns-clause-zeros c = λ s d l.
    let items = c.in_ok-vec.ensures.items_if_clones_equal (λ y same. same) in
    ap (λ t. apart s (column c.args.n c.args.n t d)) items ∙ zeros-apart c.args.n c.args.n s d _ (cells c.args.n c.args.n c.requires c.requires) l
