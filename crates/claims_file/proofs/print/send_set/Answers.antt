use Rattle.std.proofs.Common.{◌≡◌, ◌+◌, [], Some, arith, length, subst, sym, ap, ◌∙◌}
use Rattle.std.proofs.lemmas.List.{get_or_default}
use Rattle.std.proofs.lemmas.Result.{on_ok_weaker}
use Rattle.serde.specs.Event.{Logs, WritesEach, seq_begins, text}
use Rattle.assertion_file.specs.Ids.{id_of}
use Rattle.assertion_file.proofs.Sent.{SendsId, ids_are_sent}
use Rattle.assertion_file.proofs.Sets.{members_below, members-within, sent-member, sent-other}
use Rattle.claims_file.proofs.print.send_set.Goals as goal
use Rattle.claims_file.proofs.print.send_set.Goals.{then-has+in_ok-str, else-has}

pub loop-c-preserved : goal.loop-c-preserved
loop-c-preserved g c =
    let ids = c.args.names.now in
    let set = c.args.set in
    let at = c.loop-c.c in
    let first = g.S.Serializer.written c.begin_seq.new.self in
    elim c.if-has.branch [
      | then-has+in_ok-str w ↦
          let is : w.text.result.now ≡ id_of ids at =
          w.text.ensures.same ∙ c.index-names-c.is ∙ get_or_default ids at c.index-names-c.result [] c.loop-c-test.true in
          let sent : SendsId ids at (g.S.Serializer.written c.loop-c.out) (g.S.Serializer.written w.str.new.self) =
          subst (λ id. Logs (g.S.Serializer.written c.loop-c.out) (g.S.Serializer.written w.str.new.self) (text id)) is w.in_ok-str.ensures in
          subst (λ out. WritesEach (SendsId ids) (members_below set (at + 1)) first (g.S.Serializer.written out)) (sym w.out-is)
          (sent-member ids set at _ _ _ (sym c.has.ensures ∙ w.if-has.true) c.loop-c.invariant sent)
      | else-has w ↦
          subst (λ out. WritesEach (SendsId ids) (members_below set (at + 1)) first (g.S.Serializer.written out)) (sym w.out-is)
          (sent-other ids set at _ _ (sym c.has.ensures ∙ w.if-has.false) c.loop-c.invariant)
    ]

pub returns : goal.returns
returns g c =
    let ids = c.args.names.now in
    let set = c.args.set in
    let first = g.S.Serializer.written c.begin_seq.new.self in
    let last = g.S.Serializer.written c.loop-c.out in
    let whole : c.loop-c.c ≡ length ids = omega (arith, c.loop-c-test.false, c.loop-c.auto.c-end) in
    let count : c.len.result ≡ length (members_below set (length ids)) =
    c.len.ensures ∙ ap length (members-within set (length ids) c.requires.small c.requires.few) in
    let begun = subst (λ n. Logs (g.S.Serializer.written c.args.out.now) first (seq_begins (Some n))) count c.in_ok-begin_seq.ensures in
    let each = subst (λ n. WritesEach (SendsId ids) (members_below set n) first last) whole c.loop-c.invariant in
    on_ok_weaker c.end_seq.result (λ ended. ids_are_sent ids (members_below set (length ids)) _ _ (first, last, begun, each, ended)) c.end_seq.ensures
