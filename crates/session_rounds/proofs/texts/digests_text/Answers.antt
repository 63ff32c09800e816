use Rattle.std.proofs.Common.{rules, append_assoc}
use Rattle.session_rounds.proofs.texts.digests_text.Goals as goal

pub returns : goal.returns
returns c = search (rules, append_assoc)
