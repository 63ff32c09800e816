use Rattle.budget.specs.declared.budget.Budget.TheVariants.{Nodes}
use Rattle.contest_search.proofs.FoundThere.{found_of}
use Rattle.contest_set.proofs.one.audit_one.Goals as goal

pub audited-requires-clause-found : goal.audited-requires-clause-found
audited-requires-clause-found g c =
    found_of c.args.ballots.now (Nodes c.args.terms.now.nodes) c.in_ok-file.field-0 _ c.in_ok-votes.votes c.in-Certificate.is c.in_ok-votes.ensures c.in_ok-file.ensures

pub returns-in-Tie : goal.returns-in-Tie
returns-in-Tie g c =
    found_of c.args.ballots.now (Nodes c.args.terms.now.nodes) c.in_ok-file.field-0 _ c.in_ok-votes.votes c.in-Tie.is c.in_ok-votes.ensures c.in_ok-file.ensures

pub returns-in-Spent : goal.returns-in-Spent
returns-in-Spent g c =
    found_of c.args.ballots.now (Nodes c.args.terms.now.nodes) c.in_ok-file.field-0 _ c.in_ok-votes.votes c.in-Spent.is c.in_ok-votes.ensures c.in_ok-file.ensures
