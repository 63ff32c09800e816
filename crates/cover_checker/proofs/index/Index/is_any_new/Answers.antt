use Rattle.std.proofs.Common.{ap, ◌∙◌}
use Rattle.std.specs.List.{list_any}
use Rattle.cover_checker.specs.Indexed.{is_new}
use Rattle.cover_checker.proofs.index.Index.is_any_new.Goals as goal

pub returns : goal.returns
returns c =
    c.is_any_new.ensures _ c.self.invariant ∙ ap (λ list. list_any (λ a. is_new a c.args.first c.args.set) list) c.self.view_is
