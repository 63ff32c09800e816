use Rattle.manifest.proofs.CardIds.{no_underscore, no_batch, no_number}
use Rattle.manifest.proofs.manifest.card_named.Goals as goal

pub returns-in_default-clause-none : goal.returns-in_default-clause-none
returns-in_default-clause-none c = no_underscore c.args.id.now c.in_default.ensures.none

pub returns-in_default-batch_id-clause-none : goal.returns-in_default-batch_id-clause-none
returns-in_default-batch_id-clause-none c = no_batch c.args.id.now c.in-Some.batch.now c.in-Some.number.now c.in-Some.ensures.parts c.in-Some.ensures.last
    c.in_default-batch_id.ensures.none

pub returns-in_default-card_number-clause-none : goal.returns-in_default-card_number-clause-none
returns-in_default-card_number-clause-none c = no_number c.args.id.now c.in-Some.batch.now c.in-Some.number.now c.in-Some.ensures.parts c.in-Some.ensures.last
    c.in_default-card_number.ensures.none
