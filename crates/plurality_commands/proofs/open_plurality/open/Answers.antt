use Rattle.std.proofs.Common.{◌≤◌, All, length, sym, subst, ◌∙◌}
use Rattle.manifest.specs.Cards.{cards_of}
use Rattle.plurality.proofs.Margins.{some_margin}
use Rattle.plurality_commands.proofs.Counted.{margins_within}
use Rattle.plurality_commands.proofs.open_plurality.open.Goals as goal

pub begin_plain-requires-clause-some : goal.begin_plain-requires-clause-some
begin_plain-requires-clause-some c =
    let ballots = c.args.ballots.now in
    let same = c.in_ok-margins.ensures.items_if_clones_equal (λ x y is. is) ∙ c.margins.ensures in
    subst (λ margins. 1 ≤ length margins) (sym same)
    (some_margin (length ballots.candidates) ballots.rankings c.args.plural.now c.requires.counted c.candidates-candidates.ensures.fewest)

pub begin_plain-requires-clause-margins : goal.begin_plain-requires-clause-margins
begin_plain-requires-clause-margins c =
    let batches = c.args.manifest.now in
    let same = c.in_ok-margins.ensures.items_if_clones_equal (λ x y is. is) ∙ c.margins.ensures in
    let within = margins_within batches c.args.ballots.now c.args.plural.now c.requires.counted c.ids-ids.ensures.differ c.ids-ids.ensures.one_each
    c.requires.linked in
    subst (λ cards. All (λ margin. (1 ≤ margin) × (margin ≤ cards)) c.in_ok-margins.margins.items) (sym c.cards.ensures.all)
    (subst (λ margins. All (λ margin. (1 ≤ margin) × (margin ≤ length (cards_of batches))) margins) (sym same) within)
