use Rattle.std.proofs.Common.{◌==◌, ◌≡◌, ◌+◌, ◌-◌, ◌<◌, ◌^◌, ◌++◌, ◌∷◌, [], length, sum, take, filter, slice_index, set, refl, sym, ap, subst, arith, ◌∙◌}
use Rattle.std.proofs.lemmas.List.{append-nil, length-set}
use Rattle.irv_base.specs.Candidates.{members, set_of}
use Rattle.irv_base.specs.Orders.{is_order}
use Rattle.irv_base.specs.Tabulation.{is_tabulated}
use Rattle.set_tallies.specs.Bags.{IsOf, tallies}
use Rattle.irv_tabulator.proofs.Progress.{Shape, Rounds, IsRest, IsWithout, members-rest, set-below, first-shape, first-rounds, shape-more, rounds-more, remaining, take-long, place-more, place-last, last-one, not-refused}
use Rattle.irv_tabulator.specs.Rounds.{Count, counts_in, rounds_of}
use Rattle.irv_tabulator.proofs.Counts.{IsCounted, Noted, first-noted, noted-counted}
use Rattle.irv_tabulator.proofs.Leasts.{Round, tied-of, loser}
use Rattle.irv_tabulator.proofs.rounds.tabulate.Goals as goal

pub loop-round-init : goal.loop-round-init
loop-round-init c = record {
  same = refl;
  wide = refl;
  shape = first-shape c.candidates-n.result c.all_of-remaining.result c.all_of-remaining.ensures;
  rounds = λ records h. first-rounds records c.all_of-remaining.result;
  noted = λ records h. subst (λ items. Noted c.candidates-n.result records [] c.all_of-remaining.result (counts_in items)) (sym c.new-rounds.ensures.items)
      (first-noted c.candidates-n.result records c.all_of-remaining.result);
}

pub tally-requires : goal.tally-requires
tally-requires c =
    let now : c.candidates-n.result ≡ c.loop-round.tallies.bag.n = c.candidates-n.ensures.same ∙ sym (ap (λ t. t.bag.n) c.loop-round.invariant.same) in
    subst (λ k. c.loop-round.remaining < 2 ^ k) now (set-below c.candidates-n.result c.loop-round.remaining c.candidates-n.ensures.room
    c.loop-round.invariant.shape.below)

pub lowest-loser-requires-clause-some : goal.lowest-loser-requires-clause-some
lowest-loser-requires-clause-some c =
    let done = take (c.loop-round.round - 1) c.loop-round.places in
    let left : length done + length (members c.loop-round.remaining) ≡ c.candidates-n.result =
    remaining c.candidates-n.result done c.loop-round.remaining c.candidates-n.ensures.room c.loop-round.invariant.shape in
    let long : length done ≡ c.loop-round.round - 1 = take-long (c.loop-round.round - 1) c.loop-round.places
    (omega (arith, c.loop-round.invariant.wide, c.loop-round-test.true, c.candidates-n.ensures.room)) in
    let some : 0 < length (members c.loop-round.remaining) = omega (arith, left, long, c.loop-round-test.true) in
    some

pub loop-round-preserved : goal.loop-round-preserved
loop-round-preserved c =
    let n = c.candidates-n.result in
    let done = take (c.loop-round.round - 1) c.loop-round.places in
    let shape = c.loop-round.invariant.shape in
    let less = c.without-remaining.result in
    let w : IsWithout c.loop-round.remaining c.lowest-loser.result less =
    record { was = c.lowest-loser.ensures.remains; others = c.without-remaining.ensures } in
    let e : take (c.loop-round.round + 1 - 1) (set c.loop-round.places (c.loop-round.round - 1) c.loser.inside.0) ≡ done ++ c.lowest-loser.result ∷ [] =
    place-more c.loop-round.places c.loop-round.round c.loser.inside.0 (omega (arith, c.loop-round.auto.round))
    (omega (arith, c.loop-round-test.true, c.candidates-n.ensures.room)) c.loop-round.invariant.wide
    ∙ ap (λ x. done ++ x ∷ []) c.loser.view_is in
    record {
      same = c.in_ok-row.ensures.same ∙ c.loop-round.invariant.same;
      wide = length-set c.loop-round.places (c.loop-round.round - 1) c.loser.inside.0 ∙ c.loop-round.invariant.wide;
      shape = subst (λ d. Shape n d less) (sym e) (shape-more n done c.loop-round.remaining c.lowest-loser.result less w shape);
      rounds = λ records h.
          let own : IsOf c.loop-round.tallies.bag records = subst (λ t. IsOf t.bag records) (sym c.loop-round.invariant.same) h in
          let now : c.loop-round.tallies.bag.n ≡ n = ap (λ t. t.bag.n) c.loop-round.invariant.same ∙ sym c.candidates-n.ensures.same in
          let r : Round n records c.as_slice-counts.result.now c.loop-round.remaining c.lowest-loser.result = record {
            tallied = c.as_slice-counts.ensures.value ∙ c.in_ok-row.ensures.tallies records own ∙ ap (λ k. tallies records k c.loop-round.remaining) now;
            rest = members-rest n c.loop-round.remaining c.candidates-n.ensures.room shape.below;
            below = shape.below;
            remains = c.lowest-loser.ensures.remains;
            first = c.lowest-loser.ensures.first;
          } in
          subst (λ d. Rounds records d less) (sym e)
          (rounds-more records done c.loop-round.remaining c.lowest-loser.result less w
          (loser n records c.as_slice-counts.result.now c.loop-round.remaining c.lowest-loser.result r less w)
          (c.loop-round.invariant.rounds records h));
      noted = λ records h.
          let own : IsOf c.loop-round.tallies.bag records = subst (λ t. IsOf t.bag records) (sym c.loop-round.invariant.same) h in
          let now : c.loop-round.tallies.bag.n ≡ n = ap (λ t. t.bag.n) c.loop-round.invariant.same ∙ sym c.candidates-n.ensures.same in
          let r : Round n records c.as_slice-counts.result.now c.loop-round.remaining c.lowest-loser.result = record {
            tallied = c.as_slice-counts.ensures.value ∙ c.in_ok-row.ensures.tallies records own ∙ ap (λ k. tallies records k c.loop-round.remaining) now;
            rest = members-rest n c.loop-round.remaining c.candidates-n.ensures.room shape.below;
            below = shape.below;
            remains = c.lowest-loser.ensures.remains;
            first = c.lowest-loser.ensures.first;
          } in
          let count : Count = record { votes = c.in_ok-row.row.items; exhausted = c.uncounted-exhausted.result; tied = c.sharing-tied.result } in
          let counted : IsCounted n records c.loop-round.remaining count = record {
            all = c.records-records.result;
            every = c.records-records.ensures.same records h;
            below = shape.below;
            tallied = c.in_ok-row.ensures.tallies records own ∙ ap (λ k. tallies records k c.loop-round.remaining) now;
            left = c.uncounted-exhausted.ensures ∙ ap (λ row. c.records-records.result - sum row) c.as_slice-counts.ensures.value;
            shared = λ rest is. tied-of n records c.as_slice-counts.result.now c.loop-round.remaining c.lowest-loser.result r c.sharing-tied.result rest is
                (c.sharing-tied.ensures ∙ ap (λ v. set_of (filter (λ d. slice_index c.as_slice-counts.result.now d == v) (members c.loop-round.remaining)))
                c.votes.ensures);
          } in
          subst (λ d. Noted n records d less (counts_in c.note.new.rounds.items)) (sym e)
          (subst (λ counts. Noted n records (done ++ c.lowest-loser.result ∷ []) less counts) (sym c.in_ok-note.ensures)
          (noted-counted n records done c.loop-round.remaining c.lowest-loser.result less (counts_in c.loop-round.rounds.items) count counted w
          (c.loop-round.invariant.noted records h)));
    }

pub nth-winner-requires : goal.nth-winner-requires
nth-winner-requires c =
    let done = take (c.loop-round.round - 1) c.loop-round.places in
    let last : c.loop-round.round ≡ c.candidates-n.result = omega (
      arith,
      c.loop-round-test.false,
      c.loop-round.auto.round-end,
      c.candidates-n.ensures.fewest,
    ) in
    let left : length done + length (members c.loop-round.remaining) ≡ c.candidates-n.result =
    remaining c.candidates-n.result done c.loop-round.remaining c.candidates-n.ensures.room c.loop-round.invariant.shape in
    let long : length done ≡ c.loop-round.round - 1 = take-long (c.loop-round.round - 1) c.loop-round.places
    (omega (arith, c.loop-round.invariant.wide, last, c.candidates-n.ensures.room)) in
    let some : 0 < length (members c.loop-round.remaining) = omega (arith, left, long, last, c.candidates-n.ensures.fewest) in
    some

pub unreachable-requires : goal.unreachable-requires
unreachable-requires c =
    let n = c.candidates-n.result in
    let done = take (c.loop-round.round - 1) c.loop-round.places in
    let last : c.loop-round.round ≡ n = omega (arith, c.loop-round-test.false, c.loop-round.auto.round-end, c.candidates-n.ensures.fewest) in
    let long : length done ≡ c.loop-round.round - 1 = take-long (c.loop-round.round - 1) c.loop-round.places
    (omega (arith, c.loop-round.invariant.wide, last, c.candidates-n.ensures.room)) in
    let one : IsRest c.loop-round.remaining (c.nth-winner.result ∷ []) =
    last-one n done c.loop-round.remaining c.nth-winner.result c.candidates-n.ensures.room c.loop-round.invariant.shape
    (omega (arith, long, last, c.candidates-n.ensures.fewest)) c.nth-winner.ensures in
    let e : take n (set c.loop-round.places (n - 1) c.winner.inside.0) ≡ done ++ c.nth-winner.result ∷ [] =
    place-last c.loop-round.places n c.winner.inside.0 (omega (arith, c.candidates-n.ensures.fewest)) c.candidates-n.ensures.room c.loop-round.invariant.wide
    ∙ ap (λ k. take (k - 1) c.loop-round.places ++ c.winner.inside.0 ∷ []) (sym last) ∙ ap (λ x. done ++ x ∷ []) c.winner.view_is in
    not-refused n (take n (set c.loop-round.places (n - 1) c.winner.inside.0)) c.in-Err.field-0 (ap (is_order n) e
    ∙ c.loop-round.invariant.shape.order (c.nth-winner.result ∷ []) one) c.in-Err.ensures.refused

pub returns-clause-tabulated : goal.returns-clause-tabulated
returns-clause-tabulated c = λ records h.
    let n = c.candidates-n.result in
    let done = take (c.loop-round.round - 1) c.loop-round.places in
    let last : c.loop-round.round ≡ n = omega (arith, c.loop-round-test.false, c.loop-round.auto.round-end, c.candidates-n.ensures.fewest) in
    let long : length done ≡ c.loop-round.round - 1 = take-long (c.loop-round.round - 1) c.loop-round.places
    (omega (arith, c.loop-round.invariant.wide, last, c.candidates-n.ensures.room)) in
    let one : IsRest c.loop-round.remaining (c.nth-winner.result ∷ []) =
    last-one n done c.loop-round.remaining c.nth-winner.result c.candidates-n.ensures.room c.loop-round.invariant.shape
    (omega (arith, long, last, c.candidates-n.ensures.fewest)) c.nth-winner.ensures in
    let e : take n (set c.loop-round.places (n - 1) c.winner.inside.0) ≡ done ++ c.nth-winner.result ∷ [] =
    place-last c.loop-round.places n c.winner.inside.0 (omega (arith, c.candidates-n.ensures.fewest)) c.candidates-n.ensures.room c.loop-round.invariant.wide
    ∙ ap (λ k. take (k - 1) c.loop-round.places ++ c.winner.inside.0 ∷ []) (sym last) ∙ ap (λ x. done ++ x ∷ []) c.winner.view_is in
    let whole : c.in-Ok.order ≡ done ++ c.nth-winner.result ∷ [] = c.in-Ok.ensures.order ∙ e in
    record {
      order = ap (is_order c.args.tallies.now.bag.n) whole ∙ ap (λ k. is_order k (done ++ c.nth-winner.result ∷ [])) (sym c.candidates-n.ensures.same)
          ∙ c.loop-round.invariant.shape.order (c.nth-winner.result ∷ []) one;
      tabulated = ap (is_tabulated records) whole ∙ c.loop-round.invariant.rounds records h (c.nth-winner.result ∷ []) one refl;
      winner = (done, whole);
      rounds =
          sym (ap (λ k. rounds_of k records c.in-Ok.order) (sym c.candidates-n.ensures.same)
          ∙ ap (rounds_of n records) whole
          ∙ c.loop-round.invariant.noted records h c.nth-winner.result [] one
          ∙ append-nil (counts_in c.loop-round.rounds.items));
    }
