use Rattle.std.proofs.Common.{◌≡◌, ◌∙◌, length, arith, false, ap}
use Rattle.std.specs.List.{list_any, position_or_len}
use Rattle.std.proofs.lemmas.Str.Pattern.{split_once_first}
use Rattle.command_line.specs.Pieces.{is_equals, named}
use Rattle.command_line.proofs.Places.{none_passes}
use Rattle.command_line.proofs.pieces.long_sort.Goals as goal

pub returns-in-None : goal.returns-in-None
returns-in-None c =
    let long = c.args.long.now in
    let cases = split_once_first 61 long c.split_once.result c.split_once.ensures.cases (omega arith) in
    let place : position_or_len is_equals long ≡ length long = rw c.in-None.is at cases in
    let none : list_any is_equals long ≡ false = none_passes is_equals long place in
    rw none (c.named.ensures ∙ ap named c.option_named-in-None.ensures)
