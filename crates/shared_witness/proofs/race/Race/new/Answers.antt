use Rattle.std.proofs.Common.{◌≡◌, ◌+◌, ◌-◌, ℕ, [], ◌∷◌, ◌++◌, replicate, ap, ◌∙◌, arith}
use Rattle.std.proofs.lemmas.List.{replicate_more}
use Rattle.atomic_table.specs.Seated.{TableId}
use Rattle.atomic_table.specs.Table.{Me}
use Rattle.shared_witness.specs.declared.view.View.{View}
use Rattle.shared_witness.specs.View.{new_view, view_after_split}
use Rattle.shared_witness.specs.Race.{Seated}
use Rattle.shared_witness.proofs.race.Race.new.Goals as goal

pub loop-i-preserved : goal.loop-i-preserved
loop-i-preserved c =
    let i : ℕ = c.loop-i._i in
    let id = c.in_ok-words.words.shared.table_id in
    let seat : TableId → Seated = λ z. record { race = z; view = new_view 1 } in
    let left : c.args.workers + 1 - i - 1 ≡ c.args.workers + 1 - (i + 1) = omega arith in
    let one : i - 1 + 1 ≡ i + 1 - 1 = omega arith in
    let is = c.split_off.ensures.seat ∙ ap seat c.loop-i.invariant.same_table in
    record {
      rest_is = c.split_off.ensures.view ∙ ap (λ (me : Me ℕ View). (view_after_split me.0, me.1)) c.loop-i.invariant.rest_is ∙ ap (λ n. (new_view n, [])) left;
      same_table = c.split_off.ensures.table ∙ c.loop-i.invariant.same_table;
      seats_are = c.in_ok-push.ensures.items ∙ ap (λ ss. ss ++ c.split_off.result ∷ []) c.loop-i.invariant.seats_are
          ∙ ap (λ s. replicate (i - 1) (seat id) ++ s ∷ []) is ∙ replicate_more (i - 1) (seat id)
          ∙ ap (λ n. replicate n (seat id)) one;
    }

pub returns-clause-seats : goal.returns-clause-seats
returns-clause-seats c =
    let i : ℕ = c.loop-i._i in
    let id = c.in_ok-words.words.shared.table_id in
    let seat : TableId → Seated = λ z. record { race = z; view = new_view 1 } in
    let all : i - 1 + 1 ≡ c.args.workers = omega arith in
    let is = c.last_seat.ensures ∙ ap seat c.loop-i.invariant.same_table in
    c.in_ok-push-2.ensures.items ∙ ap (λ ss. ss ++ c.last_seat.result ∷ []) c.loop-i.invariant.seats_are ∙ ap (λ s. replicate (i - 1) (seat id) ++ s ∷ []) is
    ∙ replicate_more (i - 1) (seat id) ∙ ap (λ n. replicate n (seat id)) all
