use Rattle.std.proofs.Common.{rules, ◌∙◌}
use Rattle.std.proofs.lemmas.Iterator.Consumers.{YieldsList-from_first, YieldsList-from_filter, count_from_yields_List}
use borrow.Author.Tests.{tests}
use Rattle.command_line.specs.Pieces.{is_file, file_in}
use Rattle.command_line.specs.Views.{piece}
use Rattle.command_line.proofs.Kept.{length-kept}
use Rattle.command_line.proofs.line.file_count.Goals as goal

pub returns : goal.returns
returns c =
    count_from_yields_List c.filter.result c.count.result c.count.ensures.ran
    (YieldsList-from_filter _ is_file (YieldsList-from_first piece (λ pieces. pieces) c.args.pieces (cc)) c.filter.ensures.closure
    (λ x b q k. search (rules, tests)))
    ∙ length-kept file_in c.args.pieces
