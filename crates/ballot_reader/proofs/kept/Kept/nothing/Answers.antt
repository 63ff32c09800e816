use Rattle.std.proofs.Common.{refl}
use Rattle.ballot_reader.proofs.Ended.{kept-none}
use Rattle.ballot_reader.proofs.kept.Kept.nothing.Goals as goal

pub returns : goal.returns
returns c = kept-none c.args.contests.now c.args.wanted _ c.in_ok-nothing_noted.ensures.number c.in_ok-nothing_noted.ensures.empty c.in_ok-no_parts.ensures refl
