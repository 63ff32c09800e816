-- The end of a contest can be printed.
use Rattle.std.proofs.Common.{◌≡◌, ◌∙◌, ℕ, List, [], ◌∷◌, length, map, None, suc, refl, sym, ap, arith}
use Rattle.std.specs.Prelude.{zip}
use Rattle.std.specs.List.{AllZip}
use Rattle.std.proofs.lemmas.List.{length-map}
use Rattle.ballots.specs.Ballots.{BallotFile}
use Rattle.assertion_file.specs.Content.{Content}
use Rattle.manifest.specs.Cards.{Batches}
use Rattle.seen_file.specs.Seen.{Entry}
use Rattle.km_risk.specs.declared.draws.Counts.{Counts}
use Rattle.contest_set.specs.Ends.{AreEnds, EndsAs, IsAudited, round_over}
use Rattle.contest_set.specs.declared.end.ContestEnd.{ContestEnd}
use Rattle.contest_set.specs.declared.end.ContestEnd.TheVariants.{Tied, Spent, Audited}
use Rattle.contest_set.specs.declared.terms.SharedTerms.{SharedTerms}
use Rattle.contests_command.specs.Table.{CanBeTold}

module _ (batches : Batches) (terms : SharedTerms) where
  can-tell : (ballots : BallotFile) (seen : List Entry) (end : ContestEnd) → EndsAs batches terms ballots seen end → CanBeTold ballots end
  can-tell ballots seen (Tied round tied tally) is = tt
  can-tell ballots seen (Spent last order margin) is = (is.named.candidate, is.alternative.0)
  can-tell ballots seen (Audited file counts risks signed) is = (
    ap length is.counts_are ∙ length-map _ _ ∙ length-map file.claims _,
    ap length is.risks_are ∙ length-map _ _ ∙ length-map file.claims _,
  )

  pub can_tell_all : (list : List BallotFile) (seen : List (List Entry)) (ends : List ContestEnd) → length seen ≡ length list →
      AreEnds batches terms list seen ends → AllZip CanBeTold list ends
  can_tell_all [] [] [] same are = are
  can_tell_all [] [] (end ∷ ends) same are = are
  can_tell_all [] (entries ∷ seen) ends same are = absurd (omega (arith, same))
  can_tell_all (ballots ∷ list) [] ends same are = absurd (omega (arith, same))
  can_tell_all (ballots ∷ list) (entries ∷ seen) [] same are = are
  can_tell_all (ballots ∷ list) (entries ∷ seen) (end ∷ ends) same are =
      (can-tell ballots entries end are.0, can_tell_all list seen ends (omega (arith, same)) are.1)
