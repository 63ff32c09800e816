use Rattle.std.proofs.Common.{ap, ◌∙◌}
use Rattle.std.specs.List.{list_any}
use Rattle.cover_checker.specs.Indexed.{is_new}
use Rattle.trimmer.specs.Remaining.{assertions_in}
use Rattle.trimmer.proofs.remaining.Remaining.is_any_new.Goals as goal

pub returns : goal.returns
returns c =
    c.is_any_new.ensures _ c.self.invariant.0.index
    ∙ ap (λ left. list_any (λ a. is_new a c.args.first c.args.set) (assertions_in left)) c.self.view_is
