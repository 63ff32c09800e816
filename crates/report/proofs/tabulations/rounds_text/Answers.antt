use Rattle.std.proofs.Common.{◌≡◌, ◌+◌, ◌<◌, ◌++◌, ap, arith, drop, get_or, length, string_bytes, ◌∙◌}
use Rattle.assertion_file.proofs.Orders.{All-order}
use Rattle.irv_tabulator.specs.Rounds.{count_in, counts_in}
use Rattle.report.specs.Tabulations.{round_text, rounds_text}
use Rattle.report.proofs.Lines.{all_told, rounds_more, take-rest}
use Rattle.report.proofs.tabulations.rounds_text.Goals as goal

pub round_text-requires-clause-named : goal.round_text-requires-clause-named
round_text-requires-clause-named c =
    let i = c.loop-i.i in
    let place : i < length c.args.order.now = omega (arith, c.loop-i-test.true, c.requires.fewer) in
    let at : get_or c.args.order.now i c.index-places-i.result < length c.args.order.now =
    All-order (length c.args.order.now) c.args.order.now c.candidates-places.ensures.order i c.index-places-i.result place in
    let is : c.index-places-i.result ≡ get_or c.args.order.now i c.index-places-i.result = c.index-places-i.is
    ∙ ap (λ cs. get_or cs i c.index-places-i.result) c.candidates-places.ensures.same in
    omega (arith, at, is, c.requires.named)

pub loop-i-preserved : goal.loop-i-preserved
loop-i-preserved c =
    let i = c.loop-i.i in
    let names = c.args.names.now in
    let places = c.candidates-places.result.now in
    let rounds = c.args.rounds.now in
    let place : i < length places = omega (arith, c.loop-i-test.true, c.requires.fewer, ap length c.candidates-places.ensures.same) in
    ap (λ t. t ++ rounds_text names (i + 1 + 1) (drop (i + 1) places) (drop (i + 1) (counts_in rounds)))
    (c.in_ok-push_str.ensures.bytes ∙ ap (λ t. string_bytes c.loop-i.text ++ t) c.as_str.ensures.value)
    ∙ rounds_more names i places rounds c.index-places-i.result c.index-rounds-i.result (string_bytes c.loop-i.text) (string_bytes c.in_ok-lines.lines)
    (rounds_text names 1 places (counts_in rounds))
    place c.loop-i-test.true c.index-places-i.is c.index-rounds-i.is
    (c.in_ok-lines.ensures ∙ ap (λ cs. round_text names (i + 1) cs c.index-places-i.result (count_in c.index-rounds-i.result)) (take-rest i places))
    c.loop-i.invariant

pub returns : goal.returns
returns c =
    let names = c.args.names.now in
    let places = c.candidates-places.result.now in
    let rounds = c.args.rounds.now in
    all_told names c.loop-i.i places rounds (string_bytes c.loop-i.text) (rounds_text names 1 places (counts_in rounds))
    (omega (arith, c.loop-i-test.false, c.loop-i.auto.i-end)) c.loop-i.invariant
    ∙ ap (λ cs. rounds_text names 1 cs (counts_in rounds)) c.candidates-places.ensures.same
