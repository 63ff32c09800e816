use Rattle.std.proofs.Common.{rules}
use Rattle.command_line.proofs.Digits.{parsed}
use Rattle.command_line.proofs.value.number.Goals as goal

pub unwrap-requires : goal.unwrap-requires
unwrap-requires c = rw (parsed c.args.text.now c.parse.result c.parse.ensures.value.0 (search rules)) (search rules)
