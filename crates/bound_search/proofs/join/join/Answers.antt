use Rattle.std.proofs.Common.{◌≡◌, ◌≤◌, ◌++◌, ◌∷◌, [], ℕ, List, length, sym, ap, subst, append_assoc, ◌∙◌}
use Rattle.std.specs.Vec.Iter.{into_iter_items}
use Rattle.std.proofs.lemmas.List.{map_push, length-map}
use Rattle.std.proofs.lemmas.List.Elements.{All-same}
use Rattle.std.proofs.lemmas.Result.{IfOk-at_ok}
use Rattle.shared_witness.specs.Race.{Seated}
use Rattle.shared_witness.proofs.Lists.{All-middle}
use Rattle.bound_search.specs.Reached.{IsWorkerEnd}
use Rattle.bound_search.specs.Team.{WorkerRan, IsJoined, HasFewEnds, first_of}
use Rattle.bound_search.specs.declared.ends.PieceEnd.{PieceEnd}
use Rattle.bound_search.specs.declared.ends.WorkerEnd.{WorkerEnd}
use Rattle.bound_search.specs.declared.team.Worker.{Worker}
use Rattle.bound_search.specs.declared.limits.TheConstants.{MOST_PIECES}
use Rattle.bound_search.proofs.Joining.{join_more, worker_at}
use Rattle.bound_search.proofs.join.join.Goals as goal

pub report_of-requires : goal.report_of-requires
report_of-requires c =
    let inv = c.loop-worker.invariant in
    let worker = c.in-Some.worker in
    let rest = into_iter_items c.next.new.self in
    let whole = inv.whole ∙ ap (λ (ws : List Worker). c.loop-worker.yielded ++ ws) c.in-Some.ensures.steps.0 in
    let has = All-middle HasFewEnds c.loop-worker.yielded worker rest (All-same HasFewEnds _ _ (sym whole) c.requires.few) in
    record { few = IfOk-at_ok (λ (e : WorkerEnd). length e.ends.items ≤ MOST_PIECES) c.in_ok-end.was has }

pub loop-worker-preserved : goal.loop-worker-preserved
loop-worker-preserved c =
    let inv = c.loop-worker.invariant in
    let worker = c.in-Some.worker in
    let rest = into_iter_items c.next.new.self in
    let whole = inv.whole ∙ ap (λ (ws : List Worker). c.loop-worker.yielded ++ ws) c.in-Some.ensures.steps.0 in
    let seats = c.in_ok-push-2.ensures.items in
    record {
      whole = whole ∙ sym (append_assoc c.loop-worker.yielded (worker ∷ []) rest);
      made = seats ∙ ap (λ (ss : List Seated). ss ++ worker.seat ∷ []) inv.made ∙ sym (map_push (λ (w : Worker). w.seat) c.loop-worker.yielded worker);
      joined = λ bag nodes tails race all.
          let so_far : IsJoined bag nodes tails race c.args.start
          (record {
            seats = c.loop-worker.seats;
            ends = c.loop-worker.ends;
            reports = c.loop-worker.reports;
            best = c.loop-worker.best;
            spent = c.loop-worker.spent;
          }) = inv.joined bag nodes tails race all in
          let number : length c.loop-worker.yielded ≡ length c.loop-worker.reports.items =
          sym (so_far.count ∙ ap length inv.made ∙ length-map c.loop-worker.yielded (λ (w : Worker). w.seat)) in
          let ran : WorkerRan bag nodes tails race (length c.loop-worker.reports.items) worker =
          subst (λ k. WorkerRan bag nodes tails race k worker) number
          (worker_at bag nodes tails race c.args.team.items c.loop-worker.yielded rest worker whole all) in
          let end = IfOk-at_ok (IsWorkerEnd bag race.terms.first nodes (length c.loop-worker.reports.items) tails worker.seat.view) c.in_ok-end.was ran.end in
          join_more bag nodes tails race c.args.start worker c.in_ok-end.end _ _ c.report_of.result so_far ran end seats
          (c.in_ok-extend_from_slice.ensures.items ∙ ap (λ (ps : List PieceEnd). c.loop-worker.ends.items ++ ps) c.deref-in-loop-worker.ensures.value)
          c.in_ok-push.ensures.items c.report_of.ensures.pieces c.report_of.ensures.expanded c.report_of.ensures.looks c.better-best.ensures.margin
          c.better-best.ensures.one (c.first_of-spent.ensures ∙ ap (λ (xs : List ℕ). first_of c.loop-worker.spent xs) c.deref.ensures.value);
    }
