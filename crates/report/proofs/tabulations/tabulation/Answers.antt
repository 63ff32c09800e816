use Rattle.std.proofs.Common.{◌≡◌, ◌<◌, All, ap, length, subst, sym}
use Rattle.irv_tabulator.specs.Rounds.{count_in}
use Rattle.report.proofs.Lines.{rounds-few, rounds-wide, winner-below}
use Rattle.report.proofs.tabulations.tabulation.Goals as goal

pub rounds_text-requires-clause-fewer : goal.rounds_text-requires-clause-fewer
rounds_text-requires-clause-fewer c =
    subst (λ rounds. length rounds < length c.args.t.now.order) (sym c.deref.ensures.value)
    (rounds-few (length c.args.votes.now.candidates) c.args.votes.now.rankings c.args.t.now c.requires)

pub rounds_text-requires-clause-tallied : goal.rounds_text-requires-clause-tallied
rounds_text-requires-clause-tallied c =
    subst (λ rounds. All (λ round. length (count_in round).votes ≡ length c.candidates-names.result.now) rounds) (sym c.deref.ensures.value)
    (subst (λ n. All (λ round. length (count_in round).votes ≡ n) c.args.t.now.rounds.items) (ap length (sym c.candidates-names.ensures.same))
    (rounds-wide (length c.args.votes.now.candidates) c.args.votes.now.rankings c.args.t.now c.requires))

pub id_of-requires : goal.id_of-requires
id_of-requires c =
    subst (λ n. c.args.t.now.winner < n) (ap length (sym c.candidates-names.ensures.same))
    (winner-below (length c.args.votes.now.candidates) c.args.votes.now.rankings c.args.t.now c.requires)
