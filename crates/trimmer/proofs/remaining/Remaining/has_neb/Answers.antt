use Rattle.std.proofs.Common.{ap, ◌∙◌}
use Rattle.std.specs.List.{list_any}
use Rattle.cover_checker.specs.Indexed.{is_neb}
use Rattle.trimmer.specs.Remaining.{assertions_in}
use Rattle.trimmer.proofs.remaining.Remaining.has_neb.Goals as goal

pub returns : goal.returns
returns c =
    c.has_neb.ensures _ c.self.invariant.0
    ∙ ap (λ left. list_any (is_neb c.args.w c.args.l) (assertions_in left)) c.self.view_is
