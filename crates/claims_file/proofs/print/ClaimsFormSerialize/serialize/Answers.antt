use Rattle.std.proofs.Common.{map, ap, refl, ◌∙◌}
use Rattle.std.proofs.lemmas.Result.{on_ok_weaker}
use Rattle.serde_json.specs.Data.{string}
use Rattle.assertion_file.specs.Ids.{id_of}
use Rattle.assertion_file.specs.Text.{array_of}
use Rattle.assertion_file.proofs.Sent.{object_is_sent, sends-same, sends-same-member}
use Rattle.claims_file.specs.Claimed.{Claimed}
use Rattle.claims_file.specs.Text.{assertion_value, claims_members, claims_value}
use Rattle.claims_file.proofs.print.ClaimsFormSerialize.serialize.Goals as goal

pub returns : goal.returns
unfolding claims_value
returns g c =
    let form = c.args.self.now in
    let contest = c.text.ensures.same in
    let list = c.deref.ensures.value ∙ ap (λ (claims : Claimed). claims.assertions) c.claims.view_is in
    let assertions = ap (λ list. array_of (map (assertion_value form.names.now) list)) list in
    let winner = c.id_of.ensures ∙ ap (λ (claims : Claimed). id_of form.names.now claims.winner) c.claims.view_is in
    on_ok_weaker c.end_map.result (λ ended. (
      object_is_sent (claims_members form.contest.now form.names.now form.claims.now) 4 _ _ _ _ refl c.in_ok-begin_map.ensures (
        _,
        (_, c.in_ok-key.ensures, sends-same _ _ assertions c.in_ok-send_assertions.ensures),
        (
          _,
          (_, c.in_ok-key-2.ensures, c.in_ok-send_candidates.ensures.value),
          (
            _,
            sends-same-member _ _ _ (ap string contest) c.in_ok-send_text.ensures,
            (_, sends-same-member _ _ _ (ap string winner) c.in_ok-send_text-2.ensures, refl),
          ),
        ),
      ) ended,
      c.text.ensures.valid,
      c.in_ok-send_candidates.ensures.valid,
    )) c.end_map.ensures
