use Rattle.std.specs.Prelude.{Option}
use Rattle.ballot_reader.specs.Kept.{KeptPart}
use Rattle.ballot_reader.specs.Parts.{IsPutBehind}
use Rattle.ballot_reader.proofs.PutBehind.{SoFarTogether}
use Rattle.ballot_reader.proofs.kept_parts.put_all.Given as goal

abbrev pub invariant-loop-place : goal.invariant-loop-place
invariant-loop-place l = SoFarTogether (Option KeptPart) IsPutBehind l.fn.parts.items l.others l.parts.items l.place
