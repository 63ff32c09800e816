use Rattle.std.proofs.Common.{◌&&◌, map, sym, ap, ap₂, ◌∙◌}
use Rattle.std.specs.List.{list_all}
use Rattle.session_file.specs.Sound.{are_margins, is_round, rises_above}
use Rattle.session_file.proofs.Kept.{sound-tested}
use Rattle.session_file.proofs.read.sound_session.Goals as goal

pub new-session-requires : goal.new-session-requires
new-session-requires c =
    let terms = c.args.heading.now.terms in
    sound-tested _ (sym c.are_limits.ensures ∙ c.if-not-are_limits.false)
    (ap (are_margins terms.cards) (sym c.as_slice.ensures.value) ∙ sym c.are_margins.ensures ∙ c.if-not-are_margins.false)
    (ap₂ (λ margins rounds. rises_above 0 (map (λ round. round.draws) rounds) && list_all (is_round terms.cards terms.gamma margins) rounds)
    (sym c.as_slice-2.ensures.value) (sym c.as_slice-3.ensures.value)
    ∙ sym c.are_rounds.ensures ∙ c.if-not-are_rounds.false)
