use Rattle.std.proofs.Common.{refl}
use Rattle.std.proofs.lemmas.Result.{on_ok_weaker}
use Rattle.assertion_file.specs.Text.{neb_others}
use Rattle.assertion_file.proofs.Sent.{with_draws_sent}
use Rattle.assertion_file.proofs.print.send_neb.Goals as goal

pub returns : goal.returns
returns g c =
    on_ok_weaker c.end_map.result (λ ended.
    with_draws_sent c.args.draws (neb_others c.args.winner.now c.args.loser.now c.args.margin) _ _ _ _ _ _ c.with_draws.ensures c.in_ok-begin_map.ensures
    c.in_ok-send_draws.ensures
    (_, c.in_ok-send_text.ensures, (_, c.in_ok-send_text-2.ensures, (_, c.in_ok-send_number.ensures, (_, c.in_ok-send_text-3.ensures, refl))))
    ended) c.end_map.ensures
