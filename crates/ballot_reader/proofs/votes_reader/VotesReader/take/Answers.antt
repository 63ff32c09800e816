use Rattle.std.proofs.Common.{◌∙◌, ◌++◌, refl, sym, ap, subst}
use Rattle.std.specs.Prelude.{option_copied}
use Rattle.csv_rows.specs.Fields.{numbered_records}
use Rattle.ballot_reader.specs.Stages.{HasReached, HasTaken, HoldsLittle, VotesSoFar}
use Rattle.ballot_reader.proofs.Staged.{at_hand-more, has-read, passed-all, reached-here, refused-more}
use Rattle.ballot_reader.proofs.votes_reader.VotesReader.take.Goals as goal

pub returns-in-Refused-clause-taken : goal.returns-in-Refused-clause-taken
returns-in-Refused-clause-taken g c = λ bytes taken.
    refused-more c.args.self.now bytes c.args.piece.now c.in-Refused.field-0
    (sym (ap (λ (r : VotesSoFar). r.stage) c.self.view_is) ∙ c.in-Refused.is) taken

pub returns-then-step : goal.returns-then-step
returns-then-step g c = record {
  asked = ap (λ (r : VotesSoFar). r.asked) c.self.view_is;
  holds = ap (λ (r : VotesSoFar). r.holds) c.self.view_is;
  taken = λ bytes before.
      let asked = c.self.inside.asked in
      let holds = c.self.inside.holds in
      let piece = c.args.piece.now in
      let lines = c.take.new.self.lines in
      let stage = c.self.inside.stage in
      let taken = at_hand-more asked holds c.self.inside.pieces c.take.new.self bytes piece stage c.in_ok-take.ensures
      (subst (λ (r : VotesSoFar). HasTaken r bytes) (sym c.self.view_is) before) in
      let (rows, behind, reached) = has-read (record { asked = asked; holds = holds; at_hand = c.take.new.self; stage = stage }) (bytes ++ piece) stage refl
      c.in_default.not-Refused taken in
      let there = subst (λ a. HasReached a (rows ++ numbered_records lines) c.in_ok-step.step.stage) c.as_ref-asked.ensures.value
      (c.in_ok-step.ensures.read c.if-step.true rows
      (subst (λ a. HasReached a rows c.replace-stage.result) (sym c.as_ref-asked.ensures.value)
      (subst (HasReached asked rows) (sym c.replace-stage.ensures.value) reached))) in
      reached-here asked holds c.pass.new.self (bytes ++ piece) (rows ++ numbered_records lines) c.in_ok-step.step.stage
      (c.pass.ensures.passed (bytes ++ piece) rows behind) there;
  passed = passed-all (record { asked = c.self.inside.asked; holds = c.self.inside.holds; at_hand = c.pass.new.self; stage = c.in_ok-step.step.stage })
      c.pass.ensures.short;
  going = λ short. sym (ap (λ (r : VotesSoFar). r.stage) c.self.view_is) ∙ sym c.replace-stage.ensures.value ∙ c.in_ok-step.ensures.going short;
  failed = tt;
  refused = λ fault is. absurd (c.in_default.not-Refused fault (ap (λ (r : VotesSoFar). r.stage) c.self.view_is ∙ is));
}

pub returns-else-step : goal.returns-else-step
returns-else-step g c = record {
  asked = ap (λ (r : VotesSoFar). r.asked) c.self.view_is;
  holds = ap (λ (r : VotesSoFar). r.holds) c.self.view_is;
  taken = λ bytes before.
      let asked = c.self.inside.asked in
      let holds = c.self.inside.holds in
      let taken = at_hand-more asked holds c.self.inside.pieces c.take.new.self bytes c.args.piece.now c.self.inside.stage c.in_ok-take.ensures
      (subst (λ (r : VotesSoFar). HasTaken r bytes) (sym c.self.view_is) before) in
      subst (λ s. HasTaken (record { asked = asked; holds = holds; at_hand = c.take.new.self; stage = s }) (bytes ++ c.args.piece.now))
      (sym (c.in_ok-step.ensures.unread c.if-step.false ∙ c.replace-stage.ensures.value)) taken;
  passed =
      let holds = c.self.inside.holds in
      let lines = c.take.new.self.lines in
      subst (λ asked. HoldsLittle asked holds lines c.in_ok-step.step.stage) c.as_ref-asked.ensures.value
      (subst (HoldsLittle (option_copied c.as_ref-asked.result) holds lines) (sym (c.in_ok-step.ensures.unread c.if-step.false))
      (c.in_ok-step.ensures.held c.if-step.false));
  going = λ short. sym (ap (λ (r : VotesSoFar). r.stage) c.self.view_is) ∙ sym c.replace-stage.ensures.value ∙ c.in_ok-step.ensures.going short;
  failed = tt;
  refused = λ fault is. absurd (c.in_default.not-Refused fault (ap (λ (r : VotesSoFar). r.stage) c.self.view_is ∙ is));
}
