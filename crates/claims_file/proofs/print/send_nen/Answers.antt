use Rattle.std.proofs.Common.{refl}
use Rattle.std.proofs.lemmas.Result.{on_ok_weaker}
use Rattle.assertion_file.specs.Ids.{ids_in}
use Rattle.assertion_file.specs.Text.{ids_value}
use Rattle.assertion_file.proofs.Sent.{object_is_sent}
use Rattle.claims_file.specs.Text.{nen_members}
use Rattle.claims_file.proofs.print.send_nen.Goals as goal

pub returns : goal.returns
returns g c =
    let rest = ids_value (ids_in c.args.names.now c.args.rest) in
    on_ok_weaker c.end_map.result (λ ended.
    object_is_sent (nen_members c.args.winner.now c.args.loser.now rest) 4 _ _ _ _ refl c.in_ok-begin_map.ensures (
      _,
      c.in_ok-send_text.ensures,
      (
        _,
        c.in_ok-send_text-2.ensures,
        (_, (_, c.in_ok-key.ensures, c.in_ok-send_set.ensures), (_, c.in_ok-send_text-3.ensures, refl)),
      ),
    )
    ended) c.end_map.ensures
