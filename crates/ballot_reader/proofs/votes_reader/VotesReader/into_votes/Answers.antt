use Rattle.std.proofs.Common.{◌≡◌, ◌∙◌, ◌++◌, ℕ, List, Option, refl, sym, ap, subst}
use Rattle.std.proofs.lemmas.Result.{IfErr-weaker, IfOk-weaker}
use Rattle.std.specs.Prelude.{option_copied}
use Rattle.csv_rows.specs.Fields.{numbered, numbered_records, without_mark}
use Rattle.csv_rows.specs.Rows.{Fields, records_of}
use Rattle.file_fault.specs.Refusals.{Refuses}
use Rattle.irv_base.specs.Names.{Id}
use Rattle.ballots.specs.Grammar.{ballots_from, ballots_of}
use Rattle.ballot_reader.specs.Stages.{HasReached, HasTaken, VotesSoFar}
use Rattle.ballot_reader.proofs.Behind.{same-refusal}
use Rattle.ballot_reader.proofs.Staged.{has-read, refused-whole}
use Rattle.ballot_reader.proofs.votes_reader.VotesReader.into_votes.Goals as goal

pub returns-in-Refused-clause-refused : goal.returns-in-Refused-clause-refused
returns-in-Refused-clause-refused g c = λ bytes taken.
    subst (λ (a : Option Id). Refuses (ballots_of bytes a) c.in-Refused.fault) c.read_waiting.ensures.asked
    (refused-whole c.read_waiting.new.self bytes c.in-Refused.fault (sym (ap (λ (r : VotesSoFar). r.stage) c.self.view_is) ∙ c.in-Refused.is)
    (c.read_waiting.ensures.taken bytes taken))

pub returns : goal.returns
returns g c =
    let stage = c.self.inside.stage in
    let asked = option_copied c.as_ref.result in
    let left = c.of-records.result.left in
    let last : left ≡ numbered_records c.in_ok-text.text.items =
    c.of-records.ensures ∙ ap (λ text. numbered (records_of text)) (c.without_mark.ensures ∙ ap without_mark c.deref.ensures.value) in
    let same : c.args.self.asked ≡ asked = sym c.read_waiting.ensures.asked ∙ sym (ap (λ (r : VotesSoFar). r.asked) c.self.view_is) ∙ sym c.as_ref.ensures.value in
    let read : (bytes : List ℕ) → HasTaken c.args.self bytes →
    (rows : List Fields) × HasReached asked rows stage × (ballots_of bytes c.args.self.asked ≡ ballots_from asked (rows ++ left)) =
    λ bytes taken.
    let (rows, behind, reached) =
    has-read (record { asked = c.self.inside.asked; holds = c.self.inside.holds; at_hand = c.self.inside.pieces; stage = stage }) bytes stage refl c.in_default.not-Refused
    (subst (λ (r : VotesSoFar). HasTaken r bytes) (sym c.self.view_is) (c.read_waiting.ensures.taken bytes taken)) in (
      rows,
      subst (λ a. HasReached a rows stage) (sym c.as_ref.ensures.value) reached,
      ap (ballots_of bytes) same
          ∙ ap (ballots_from asked) (c.in_ok-text.ensures bytes rows behind ∙ ap (λ (l : List Fields). rows ++ l) (sym last)),
    ) in
    record {
      read = IfOk-weaker c.votes.result _ _ (λ votes said bytes taken.
          let (rows, reached, from) = read bytes taken in
          let (file, is, votes_are) = said rows reached in
          (file, from ∙ is, votes_are)) c.votes.ensures.read;
      refused = IfErr-weaker c.votes.result _ _ (λ fault said bytes taken.
          let (rows, reached, from) = read bytes taken in
          same-refusal _ _ fault from (said rows reached)) c.votes.ensures.refused;
    }
