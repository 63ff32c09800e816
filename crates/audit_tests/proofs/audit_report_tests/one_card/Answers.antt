use Rattle.audit_tests.proofs.OneCard.{one_card_sound}
use Rattle.audit_tests.proofs.audit_report_tests.one_card.Goals as goal

pub new-requires-2 : goal.new-requires-2
new-requires-2 c =
    rw (c.in_ok-margins.ensures.items, c.in_ok-rounds.ensures.items, c.new.ensures, c.in_ok-counts.ensures.items, c.in_ok-risks.ensures.items) (one_card_sound c.args.contest c.args.seed _)
