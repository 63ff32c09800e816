use Rattle.std.proofs.Common.{◌<◌, length, All, refl, sym, ap, subst}
use Rattle.std.proofs.lemmas.Result.{on_ok_weaker}
use Rattle.assertion_file.specs.Ids.{ids_of}
use Rattle.assertion_file.specs.Text.{ids_value}
use Rattle.assertion_file.proofs.Orders.{All-order}
use Rattle.assertion_file.proofs.Sent.{sends-same}
use Rattle.assertion_file.proofs.print.send_order_if.Goals as goal

pub send_order-requires : goal.send_order-requires
send_order-requires g c =
    let is = rw c.in-Some.is at c.requires in
    let below = All-order (length c.args.names.now) c.in-Some.order.now is in
    subst (λ cs. All (λ d. d < length c.args.names.now) cs) (sym c.candidates.ensures.same) below

pub returns-in_ok-key-in-Some : goal.returns-in_ok-key-in-Some
returns-in_ok-key-in-Some g c =
    rw c.in-Some.is
    (on_ok_weaker c.send_order.result (λ sent. (
      _,
      (_, c.in_ok-key-in-Some.ensures, sends-same _ _ (ap (λ cs. ids_value (ids_of c.args.names.now cs)) c.candidates.ensures.same) sent),
      refl,
    )) c.send_order.ensures)
