use Rattle.std.proofs.Common.{rules, ◌∙◌}
use Rattle.std.proofs.lemmas.Iterator.Consumers.{YieldsList-from_first, YieldsList-from_filter, count_from_yields_List}
use borrow.Author.Tests.{tests}
use Rattle.command_line.specs.Pieces.{gives, value_in}
use Rattle.command_line.specs.Views.{piece}
use Rattle.command_line.proofs.Kept.{length-kept}
use Rattle.command_line.proofs.line.times_given.Goals as goal

pub returns : goal.returns
returns c =
    count_from_yields_List c.filter.result c.count.result c.count.ensures.ran
    (YieldsList-from_filter _ (gives c.args.option) (YieldsList-from_first piece (λ pieces. pieces) c.args.pieces (cc)) c.filter.ensures.closure
    (λ x b q k. search (rules, tests)))
    ∙ length-kept (value_in c.args.option) c.args.pieces
