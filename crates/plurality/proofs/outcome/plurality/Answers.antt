use Rattle.std.proofs.Common.{◌∙◌, ◌<◌, ◌≤◌, ◌-◌, Ok, fold, length, map, max, get_or, slice_index, ap, arith, subst, sym}
use Rattle.std.proofs.lemmas.List.{get_or_default}
use Rattle.irv_base.proofs.Members.{Member, member-from_contains}
use Rattle.plurality.specs.Plural.{outcome_of}
use Rattle.plurality.proofs.Outcomes.{loser-below, none-above, row-long, those-differ, tie-of, winner-below, won-of}
use Rattle.plurality.proofs.outcome.plurality.Goals as goal

pub with_number-requires : goal.with_number-requires
with_number-requires c =
    let long = row-long _ c.rankings.result.now c.deref-2.result.now (c.deref-2.ensures.value ∙ c.in_ok-firsts.ensures) in
    let n = ap length c.candidates.ensures.same in
    omega (arith, c.candidates.ensures.most)

pub set_of-tied-requires : goal.set_of-tied-requires
set_of-tied-requires c =
    those-differ (length c.candidates.result.now) c.rankings.result.now c.deref-2.result.now c.greatest-tally.result c.deref-then-len-ne1.result.now (record {
      row_is = c.deref-2.ensures.value ∙ c.in_ok-firsts.ensures;
      most = c.greatest-tally.ensures ∙ ap (fold max 0) (c.deref.ensures.value ∙ sym c.deref-2.ensures.value);
      those_are = c.deref-then-len-ne1.ensures.value ∙ c.in_ok-leaders.ensures;
    })

pub returns-then-len-ne1-clause-refused : goal.returns-then-len-ne1-clause-refused
returns-then-len-ne1-clause-refused c =
    (λ i. outcome_of (length (sym c.candidates.ensures.same i)) (sym c.rankings.ensures.same i))
    ∙ tie-of (length c.candidates.result.now) c.rankings.result.now c.deref-2.result.now c.greatest-tally.result c.deref-then-len-ne1.result.now (record {
      row_is = c.deref-2.ensures.value ∙ c.in_ok-firsts.ensures;
      most = c.greatest-tally.ensures ∙ ap (fold max 0) (c.deref.ensures.value ∙ sym c.deref-2.ensures.value);
      those_are = c.deref-then-len-ne1.ensures.value ∙ c.in_ok-leaders.ensures;
    }) c.set_of-tied.result c.set_of-tied.ensures (λ one. c.if-len-ne1.true (c.len.ensures ∙ sym c.deref-then-len-ne1.ensures.len ∙ one))

pub margins-requires-clause-winner : goal.margins-requires-clause-winner
margins-requires-clause-winner c =
    let below = winner-below (length c.candidates.result.now) c.rankings.result.now c.deref-2.result.now c.greatest-tally.result c.in_ok-leaders.leaders.items (record {
      row_is = c.deref-2.ensures.value ∙ c.in_ok-firsts.ensures;
      most = c.greatest-tally.ensures ∙ ap (fold max 0) (c.deref.ensures.value ∙ sym c.deref-2.ensures.value);
      those_are = c.in_ok-leaders.ensures;
    }) c.index-winner.result.now (omega (arith, c.in_ok-leaders.leaders.ok, c.len.ensures, c.if-len-ne1.false)) c.index-winner.ensures in
    let long = row-long _ c.rankings.result.now c.deref-3.result.now (c.deref-3.ensures.value ∙ c.in_ok-firsts.ensures) in
    omega arith

pub margins-requires-clause-losers : goal.margins-requires-clause-losers
margins-requires-clause-losers c = λ k d below.
    let xs = c.deref-4.result.now in
    let long = row-long _ c.rankings.result.now c.deref-3.result.now (c.deref-3.ensures.value ∙ c.in_ok-firsts.ensures) in
    let at = member-from_contains (get_or xs k d) xs (k, below, get_or_default xs k (get_or xs k d) d below) in
    let few = loser-below _ c.index-winner.result.now (get_or xs k d)
    (subst (Member (get_or xs k d)) (c.deref-4.ensures.value ∙ c.in_ok-losers.ensures) at) in
    omega arith

pub margins-requires-clause-most : goal.margins-requires-clause-most
margins-requires-clause-most c = λ k d below.
    let same = c.deref-2.ensures.value ∙ sym c.deref-3.ensures.value in
    let most = none-above (length c.candidates.result.now) c.rankings.result.now c.deref-2.result.now c.greatest-tally.result c.in_ok-leaders.leaders.items (record {
      row_is = c.deref-2.ensures.value ∙ c.in_ok-firsts.ensures;
      most = c.greatest-tally.ensures ∙ ap (fold max 0) (c.deref.ensures.value ∙ sym c.deref-2.ensures.value);
      those_are = c.in_ok-leaders.ensures;
    }) c.index-winner.result.now (omega (arith, c.in_ok-leaders.leaders.ok, c.len.ensures, c.if-len-ne1.false)) c.index-winner.ensures k d (subst (λ row. k < length row) (sym same) below) in
    subst (λ row. get_or row k d ≤ slice_index row c.index-winner.result.now) same most

pub returns-clause-outcome : goal.returns-clause-outcome
returns-clause-outcome c =
    (λ i. outcome_of (length (sym c.candidates.ensures.same i)) (sym c.rankings.ensures.same i))
    ∙ won-of (length c.candidates.result.now) c.rankings.result.now c.deref-2.result.now c.greatest-tally.result c.in_ok-leaders.leaders.items (record {
      row_is = c.deref-2.ensures.value ∙ c.in_ok-firsts.ensures;
      most = c.greatest-tally.ensures ∙ ap (fold max 0) (c.deref.ensures.value ∙ sym c.deref-2.ensures.value);
      those_are = c.in_ok-leaders.ensures;
    }) c.index-winner.result.now (omega (arith, c.in_ok-leaders.leaders.ok, c.len.ensures, c.if-len-ne1.false)) c.index-winner.ensures
    c.in_ok-losers.losers.items c.in_ok-margins.margins.items c.in_ok-losers.ensures
    (let same = c.deref-3.ensures.value ∙ sym c.deref-2.ensures.value in
    let losers = c.deref-4.ensures.value in
    let w = c.index-winner.result.now in
    c.in_ok-margins.ensures ∙ λ i. map (λ loser. slice_index (same i) w - slice_index (same i) loser) (losers i))
    ∙ ap Ok (sym c.new.ensures)
