use Rattle.std.proofs.Common.{refl}
use Rattle.std.proofs.lemmas.Result.{on_ok_weaker}
use Rattle.assertion_file.proofs.Sent.{object_is_sent}
use Rattle.claims_file.specs.Text.{neb_members}
use Rattle.claims_file.proofs.print.send_neb.Goals as goal

pub returns : goal.returns
returns g c =
    on_ok_weaker c.end_map.result (λ ended.
    object_is_sent (neb_members c.args.winner.now c.args.loser.now) 3 _ _ _ _ refl c.in_ok-begin_map.ensures
    (_, c.in_ok-send_text.ensures, (_, c.in_ok-send_text-2.ensures, (_, c.in_ok-send_text-3.ensures, refl)))
    ended) c.end_map.ensures
