use Rattle.session_file.proofs.OneCard.{one_card_is_sound}
use Rattle.file_tests.proofs.session_file_tests.session.Goals as goal

pub new-requires : goal.new-requires
new-requires c =
    one_card_is_sound c.args.contest c.args.seed c.digests.result c.in_ok-margins.margins.items c.in_ok-rounds.rounds.items c.in_ok-margins.ensures.items c.in_ok-rounds.ensures
