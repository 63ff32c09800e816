use Rattle.std.proofs.Common.{◌≡◌, drop}
use Rattle.contest_set.specs.Refusals.{first_without_card_of_all}
use Rattle.contest_set.proofs.all.see_cards.Given as goal

abbrev pub invariant-loop-ballots : goal.invariant-loop-ballots
invariant-loop-ballots l = first_without_card_of_all l.m l.list ≡ first_without_card_of_all l.m (drop l.ballots-index l.list)
