use Rattle.std.proofs.Common.{sym, subst, ◌∙◌}
use Rattle.set_tallies.specs.Befores.{SayTheSame}
use Rattle.set_tallies.proofs.Runs.{sorted-same}
use Rattle.set_tallies.proofs.count.joined.Goals as goal

pub returns : goal.returns
returns c =
    subst (SayTheSame c.args.entries.items) (sym (c.in_ok-joined.ensures ∙ c.deref-2.ensures.value))
    (sorted-same c.args.entries.items _ c.deref.result.now c.in_ok-runs.runs.items c.sort_unstable_by_key.ensures.permutation c.deref.ensures.value
    c.in_ok-runs.ensures)
