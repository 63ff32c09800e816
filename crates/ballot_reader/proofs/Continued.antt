-- Ballots after those that were read, and then others after these.
use Rattle.std.proofs.Common.{◌≡◌, ◌+◌, ◌∙◌, ◌++◌, ℕ, List, length, ap, arith}
use Rattle.csv_rows.specs.Rows.{Fields}
use Rattle.file_fault.specs.declared.fault.Fault.{Fault}
use Rattle.ballots.specs.Grammar.{Ballot, Contest, ballots_after}
use Rattle.ballot_reader.specs.Kept.{IsKeptUpTo, KeptBallots}
use Rattle.ballot_reader.specs.Parts.{ComeBehind, IsRefusedBehind}
use Rattle.ballots.specs.declared.fault.BRule.{BRule}
use Rattle.ballot_reader.specs.declared.wanted.Wanted.{Wanted}
use Rattle.ballot_reader.proofs.Behind.{same-refusal}
use Rattle.ballot_reader.proofs.Beginning.{ballots-append, ballots-length, refused-append}

module _ (contests : List Contest) (wanted : Wanted) (first : ℕ) (rows more : List Fields) (old : KeptBallots) where
  -- a refusal remains, whatever follows
  pub refused-in-front : (fault : Fault BRule) → IsRefusedBehind contests wanted first rows old fault →
      IsRefusedBehind contests wanted first (rows ++ more) old fault
  refused-in-front fault refused = λ earlier up_to. refused-append contests earlier first rows more fault (refused earlier up_to)

  module _ (next : ℕ) (mid : KeptBallots) (front : ComeBehind contests wanted first rows old next mid) where
    goes-on : (earlier : List Ballot) (up_to : IsKeptUpTo contests wanted earlier first old) →
        ballots_after contests earlier first (rows ++ more) ≡ ballots_after contests (front earlier up_to).0 next more
    goes-on earlier up_to =
        let (ballots, read, reached) = front earlier up_to in
        let there : first + length rows ≡ next =
        omega (arith, up_to.numbered, reached.numbered, ballots-length contests earlier ballots first rows read) in
        ballots-append contests earlier ballots first rows more read ∙ ap (λ n. ballots_after contests ballots n more) there

    pub come-on : (last : ℕ) (new : KeptBallots) → ComeBehind contests wanted next more mid last new →
        ComeBehind contests wanted first (rows ++ more) old last new
    come-on last new behind = λ earlier up_to.
        let (ballots, read, reached) = front earlier up_to in
        let (all, more_read, end) = behind ballots reached in
        (all, goes-on earlier up_to ∙ more_read, end)

    pub refused-behind : (fault : Fault BRule) → IsRefusedBehind contests wanted next more mid fault →
        IsRefusedBehind contests wanted first (rows ++ more) old fault
    refused-behind fault refused = λ earlier up_to.
        let (ballots, read, reached) = front earlier up_to in
        same-refusal _ _ fault (goes-on earlier up_to) (refused ballots reached)
