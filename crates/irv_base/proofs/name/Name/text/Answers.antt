use Rattle.std.proofs.Common.{sym, subst}
use Rattle.std.specs.Str.{IsUtf8}
use Rattle.irv_base.proofs.NameText.{IsUtf8-name}
use Rattle.irv_base.proofs.name.Name.text.Goals as goal

pub from_utf8_unchecked-requires : goal.from_utf8_unchecked-requires
from_utf8_unchecked-requires c = subst IsUtf8 (sym c.bytes.ensures.same) (IsUtf8-name c.args.self.now c.bytes.ensures.valid)
