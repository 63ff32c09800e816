use Rattle.ballot_laws.proofs.Manifests.{bytes_spell_batches, first_broken_rule_refuses_manifest}
use Rattle.ballot_laws.proofs.laws.manifest_bytes.Goals as goal

pub returns-clause-spelled : goal.returns-clause-spelled
returns-clause-spelled c = bytes_spell_batches

pub returns-clause-refused : goal.returns-clause-refused
returns-clause-refused c = first_broken_rule_refuses_manifest
