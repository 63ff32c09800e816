use Rattle.std.proofs.Common.{◌≡◌, true, ◌++◌, codes, length, map, ap, refl, ap₂, subst, sym, ◌∙◌}
use Rattle.std.proofs.lemmas.Result.{on_ok_weaker}
use Rattle.serde_json.specs.Data.{string}
use Rattle.irv_base.specs.Orders.{is_order}
use Rattle.std.specs.Prelude.{option_map, IfSome}
use Rattle.std.specs.List.{list_all}
use Rattle.irv_base.specs.Names.{is_name}
use Rattle.assertion_file.specs.Content.{HasNames, Plan}
use Rattle.assertion_file.specs.Ids.{id_of}
use Rattle.assertion_file.specs.Text.{array_of, claim_value, file_members, file_value, ids_value, told_of, version_of, whole_number}
use Rattle.assertion_file.specs.Sent.{SendsNamed}
use Rattle.assertion_file.proofs.Files.{contest_members, last_members, limit_members, list_members, margin_members}
use Rattle.assertion_file.proofs.Sent.{each-append, members_same, object_is_sent, order_same, sends-same, sends-same-member}
use Rattle.assertion_file.proofs.print.FileFormSerialize.serialize.Goals as goal

pub send_order_if-requires : goal.send_order_if-requires
send_order_if-requires g c =
    subst (λ ids. IfSome c.order-order.result (λ order. is_order (length ids) order.now ≡ true)) (sym c.candidates-names.ensures.same) c.order-order.ensures.order

pub returns : goal.returns
unfolding file_value
returns g c =
    let file = c.args.self.now.0.now in
    let names = c.candidates-names.ensures.same in
    let plan = c.plan-plan.ensures.same in
    let claims = ap₂ (λ ids told. array_of (map (claim_value ids) told)) names (ap₂ told_of plan c.claims.ensures.same) in
    let contest = c.text.ensures.same ∙ c.contest.ensures in
    let order = c.order-order.ensures.same in
    let winner = c.id_of.ensures ∙ ap₂ id_of names c.winner.ensures.same in
    let version = c.version_of.ensures ∙ ap₂ version_of order plan in
    let cards = c.numbers_of-cards.ensures.cards ∙ ap (option_map (λ (p : Plan). p.cards)) plan in
    let gamma = c.numbers_of-cards.ensures.gamma ∙ ap (option_map (λ (p : Plan). p.gamma)) plan in
    let limit = c.numbers_of-cards.ensures.limit ∙ ap (option_map (λ (p : Plan). p.limit)) plan in
    let ids : HasNames file = record {
      contest = subst (λ id. is_name id ≡ true) c.contest.ensures c.text.ensures.valid;
      candidates = subst (λ ids. list_all is_name ids ≡ true) names c.in_ok-send_candidates.ensures.valid;
    } in
    on_ok_weaker c.end_map.result (λ ended. (
      object_is_sent (file_members file) _ _ _ _ _ (c.member_count.ensures file (sym order) (sym plan)) c.in_ok-begin_map.ensures
          (each-append SendsNamed (list_members file ++ contest_members file ++ limit_members file ++ margin_members file) (last_members file) _ _ _
          (each-append SendsNamed (list_members file ++ contest_members file ++ limit_members file) (margin_members file) _ _ _
          (each-append SendsNamed (list_members file ++ contest_members file) (limit_members file) _ _ _
          (each-append SendsNamed (list_members file) (contest_members file) _ _ _ (
            _,
            (_, c.in_ok-key.ensures, sends-same _ _ claims c.in_ok-send_claims.ensures),
            (
              _,
              (_, c.in_ok-key-2.ensures, sends-same _ _ (ap ids_value names) c.in_ok-send_candidates.ensures.value),
              members_same (codes "cards") _ _ cards c.in_ok-send_number_if.ensures,
            ),
          ) (
            _,
            sends-same-member _ _ _ (ap string contest) c.in_ok-send_text.ensures,
            members_same (codes "gamma") _ _ gamma c.in_ok-send_number_if-2.ensures,
          ))
          (members_same (codes "limit") _ _ limit c.in_ok-send_number_if-3.ensures)) (
            _,
            sends-same-member _ _ _ (ap whole_number c.margin.ensures.same) c.in_ok-send_number.ensures,
            order_same _ _ names order c.in_ok-send_order_if.ensures,
          )) (
            _,
            sends-same-member _ _ _ (ap whole_number c.records.ensures.same) c.in_ok-send_number-2.ensures,
            (
              _,
              sends-same-member _ _ _ (ap whole_number version) c.in_ok-send_number-3.ensures,
              (_, sends-same-member _ _ _ (ap string winner) c.in_ok-send_text-2.ensures, refl),
            ),
          )) ended,
      c.plan-plan.ensures.file,
      ids,
    )) c.end_map.ensures
