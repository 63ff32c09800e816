use Rattle.std.proofs.Common.{◌<◌, Ok, Err, length, ap, subst, sym}
use Rattle.cover_checker.specs.declared.cover.CoverFault.TheVariants.{Spent}
use Rattle.adoption.specs.Answers.{IsFault}
use Rattle.adopt_command.specs.Named.{IsAmong}
use Rattle.adopt_command.proofs.Adopts.{names}
use Rattle.adopt_command.proofs.adopt.of_claims.Goals as goal

pub adoption_answer-requires-clause-among : goal.adoption_answer-requires-clause-among
adoption_answer-requires-clause-among g c =
    subst (λ n. IsAmong n c.in-Ok.adoption) (ap length (sym c.candidates.ensures.same))
    (names c.args.budget c.args.votes.now c.args.claims.now (Ok c.in-Ok.adoption) c.requires c.in-Ok.ensures.adopted)

pub candidate_spent-requires : goal.candidate_spent-requires
candidate_spent-requires g c =
    subst (λ n. c.in-Spent.last < n) (ap length (sym c.candidates-in-Spent.ensures.same))
    (names c.args.budget c.args.votes.now c.args.claims.now (Err (Spent c.in-Spent.last)) c.requires
    (subst (IsFault c.args.budget c.args.votes.now c.args.claims.now) c.in-Spent.is c.in-Err.ensures.fault))
