use Rattle.std.proofs.Common.{rules}
use Rattle.std.proofs.lemmas.Iterator.Consumers.{YieldsList-from_first}
use Rattle.std.proofs.lemmas.Iterator.Search.{all_from_yields_List}
use borrow.Author.Tests.{tests}
use Rattle.command_line.specs.Pieces.{fits}
use Rattle.command_line.specs.Views.{piece}
use Rattle.command_line.proofs.line.all_fit.Goals as goal

pub returns : goal.returns
returns c =
    all_from_yields_List fits _ _ _ c.all.ensures.ran (YieldsList-from_first piece (λ pieces. pieces) c.args.pieces (cc)) (λ x b q k. search (rules, tests))
