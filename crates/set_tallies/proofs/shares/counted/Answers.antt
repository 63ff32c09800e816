use Rattle.std.proofs.Common.{◌≡◌, ◌+◌, ◌*◌, ◌∷◌, ◌++◌, [], ℕ, List, Result, Vec, Global, length, take, refl, sym, ap, subst, append_assoc, arith, ◌∙◌}
use Rattle.std.specs.Vec.Iter.{into_iter_items}
use Rattle.std.specs.Fork.{slice_chunk}
use Rattle.std.proofs.lemmas.List.{length-take, append-nil, nil_from_length, length_push}
use Rattle.std.proofs.lemmas.Result.{IfOk-at_ok}
use Rattle.irv_base.specs.declared.memory.Memory.{Memory}
use Rattle.set_tallies.specs.Sums.{IsCountOf}
use Rattle.set_tallies.proofs.Sharing.{both-fit, both-counted, none-counted, share-at, all-counted, one-chunk-more}
use Rattle.set_tallies.proofs.Tables.{all-written}
use Rattle.set_tallies.proofs.shares.counted.Goals as goal
use Rattle.set_tallies.proofs.shares.counted.Goals.{In_ok-share}

pub loop-share-init : goal.loop-share-init
loop-share-init g c = record {
  whole = refl;
  counted = none-counted c.args.n c.share_size-size.result c.args.rankings.now c.in_ok-table.table.items c.in_ok-table.ensures.long c.in_ok-table.ensures.zeros;
}

-- the shares that were added, and those still to come
shares-are : (g : _) (c : In_ok-share g) → c.in_ok-shares.shares.items ≡ c.loop-share.yielded ++ c.in-Some.share ∷ into_iter_items c.next.new.self
shares-are g c =
    sym c.into_iter-share-iterator.ensures.into_iter_gives.0 ∙ c.loop-share.invariant.whole
    ∙ ap (λ (rs : List (Result (Vec ℕ Global) Memory)). c.loop-share.yielded ++ rs) c.in-Some.ensures.steps.0

-- the current share
share-is : (g : _) (c : In_ok-share g) → IsCountOf c.args.n (slice_chunk c.args.rankings.now c.share_size-size.result (length c.loop-share.yielded))
    c.in_ok-share.field-0.items
share-is g c =
    IfOk-at_ok (λ table. IsCountOf c.args.n (slice_chunk c.args.rankings.now c.share_size-size.result (length c.loop-share.yielded)) table.items)
    c.in_ok-share.was
    (share-at c.args.n c.share_size-size.result c.args.rankings.now c.in_ok-shares.shares.items c.loop-share.yielded (into_iter_items c.next.new.self)
    c.in-Some.share (shares-are g c) c.in_ok-shares.ensures)

pub add_table-requires-clause-same : goal.add_table-requires-clause-same
add_table-requires-clause-same g c =
    ap length c.deref_mut.ensures.value ∙ c.loop-share.invariant.counted.long
    ∙ sym (ap length c.deref.ensures.value ∙ (share-is g (goal.at.add_table-requires-clause-same g c).In_ok-share).long)

pub add_table-requires-clause-fit : goal.add_table-requires-clause-fit
add_table-requires-clause-fit g c = λ i l.
    let rankings = c.args.rankings.now in
    let k = length c.loop-share.yielded in
    let size = c.share_size-size.result in
    let was : IsCountOf c.args.n (take (k * size) rankings) c.deref_mut.result.now =
    subst (IsCountOf c.args.n (take (k * size) rankings)) (sym c.deref_mut.ensures.value) c.loop-share.invariant.counted in
    let own : IsCountOf c.args.n (slice_chunk rankings size k) c.deref.result.now =
    subst (IsCountOf c.args.n (slice_chunk rankings size k)) (sym c.deref.ensures.value)
    (share-is g (goal.at.add_table-requires-clause-fit g c).In_ok-share) in
    omega (
      arith,
      both-fit c.args.n (take (k * size) rankings) (slice_chunk rankings size k) c.deref_mut.result.now c.deref.result.now was own i l,
      ap length (one-chunk-more rankings size k (k + 1) refl),
      length-take ((k + 1) * size) rankings,
      c.requires.most,
    )

pub loop-share-preserved : goal.loop-share-preserved
loop-share-preserved g c =
    let rankings = c.args.rankings.now in
    let yielded = c.loop-share.yielded in
    let k = length yielded in
    let more = length (yielded ++ c.in-Some.share ∷ []) in
    let size = c.share_size-size.result in
    let table = c.loop-share.table in
    let new = c.add_table.new.table in
    let was : IsCountOf c.args.n (take (k * size) rankings) c.deref_mut.result.now =
    subst (IsCountOf c.args.n (take (k * size) rankings)) (sym c.deref_mut.ensures.value) c.loop-share.invariant.counted in
    let own : IsCountOf c.args.n (slice_chunk rankings size k) c.deref.result.now =
    subst (IsCountOf c.args.n (slice_chunk rankings size k)) (sym c.deref.ensures.value) (share-is g (goal.at.loop-share-preserved g c).In_ok-share) in
    let both = subst (IsCountOf c.args.n (take (k * size) rankings ++ slice_chunk rankings size k)) (sym c.add_table.ensures)
    (both-counted c.args.n (take (k * size) rankings) (slice_chunk rankings size k) c.deref_mut.result.now c.deref.result.now was own) in
    let long : length new ≡ table.len = both.long ∙ sym c.loop-share.invariant.counted.long ∙ sym table.ok.0 in
    record {
      whole = c.into_iter-share-iterator.ensures.into_iter_gives.0 ∙ shares-are g (goal.at.loop-share-preserved g c).In_ok-share
          ∙ sym (append_assoc yielded (c.in-Some.share ∷ []) (into_iter_items c.next.new.self));
      counted = subst (IsCountOf c.args.n (take (more * size) rankings)) (sym (all-written table.len new table.items long))
          (subst (λ rs. IsCountOf c.args.n rs new) (one-chunk-more rankings size k more (length_push yielded c.in-Some.share)) both);
    }

pub returns : goal.returns
returns g c =
    let none : into_iter_items c.loop-share.share-iterator ≡ [] =
    nil_from_length (into_iter_items c.loop-share.share-iterator) (omega (arith, c.in-None.ensures.steps.0)) in
    let all : c.in_ok-shares.shares.items ≡ c.loop-share.yielded =
    sym c.into_iter-share-iterator.ensures.into_iter_gives.0 ∙ c.loop-share.invariant.whole
    ∙ ap (λ (rs : List (Result (Vec ℕ Global) Memory)). c.loop-share.yielded ++ rs) none ∙ append-nil c.loop-share.yielded in
    all-counted c.args.n c.share_size-size.result c.args.rankings.now c.in_ok-shares.shares.items c.loop-share.yielded c.loop-share.table.items all
    c.in_ok-shares.ensures c.loop-share.invariant.counted
