use Rattle.std.proofs.Common.{◌∙◌, sym}
use Rattle.irv_base.specs.Names.{is_name_byte}
use Rattle.ballot_ids.proofs.Halves.{all-by-last}
use Rattle.ballot_ids.proofs.name_test.are_name_bytes_by_8.Goals as goal

pub returns-then-are_name_bytes_8 : goal.returns-then-are_name_bytes_8
returns-then-are_name_bytes_8 c =
    c.are_name_bytes_8-then-are_name_bytes_8.ensures
    ∙ all-by-last is_name_byte 8 c.args.bytes.now c.requires.fewest c.requires.most (sym c.are_name_bytes_8.ensures ∙ c.if-are_name_bytes_8.true)
