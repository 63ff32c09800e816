use Rattle.claims_file.proofs.Sound.{claims-sound, each-sound}
use Rattle.claims_file.proofs.read.read_claims.Goals as goal

pub returns-in-Some-clause-sound : goal.returns-in-Some-clause-sound
returns-in-Some-clause-sound c = claims-sound c.args.names.now c.args.contest.now c.args.bytes.now c.in-Some.claims c.in-Some.ensures

pub returns-in-None-clause-sound : goal.returns-in-None-clause-sound
returns-in-None-clause-sound c = each-sound c.args.names.now c.args.contest.now c.args.bytes.now c.read_tree.result c.read_tree.ensures.read
