use Rattle.std.proofs.Common.{◌≡◌, ◌∷◌, ℕ, List, Some, true, ap, sym, subst, subst₂, ◌∙◌}
use Rattle.assertions.specs.Scores.{Score}
use Rattle.assertions.specs.Suffixes.{is_suffix}
use Rattle.set_tallies.specs.Bags.{AreFilledFrom}
use Rattle.set_tallies.proofs.Filled.{has-tallies}
use Rattle.suffix_tree.specs.Offers.{with_nens, below}
use Rattle.suffix_tree.specs.Scores.{IsScoredBelow}
use Rattle.suffix_tree.proofs.Tails.{suffix_more, suffix-small, set-more}
use Rattle.suffix_tree.specs.Suffixes.{with_front}
use Rattle.suffix_tree.proofs.Limited.{scored-from_parent, scored_as, child-found, child-left_out}
use Rattle.suffix_tree.proofs.below.child_below.Goals as goal
use Rattle.suffix_tree.proofs.below.child_below.Goals.{in-Some, in-None+in_ok-row-in-None}

pub row-requires : goal.row-requires
row-requires c =
    let t = c.args.parent.now.tail in
    let set = set-more t.n c.args.c c.set.result c.with-set.result t.list c.list-behind.ensures.suffix c.requires.other c.set.ensures c.with-set.ensures.number in
    let longer : is_suffix t.n (c.args.c ∷ t.list) ≡ true = suffix_more t.n c.args.c t.list c.requires.below c.requires.other c.list-behind.ensures.suffix in
    suffix-small t.n c.args.tallies.now.bag.n c.with-set.result (c.args.c ∷ t.list) c.requires.contest longer set

pub tally-requires : goal.tally-requires
tally-requires c =
    let t = c.args.parent.now.tail in
    let set = set-more t.n c.args.c c.set.result c.with-set.result t.list c.list-behind.ensures.suffix c.requires.other c.set.ensures c.with-set.ensures.number in
    let longer : is_suffix t.n (c.args.c ∷ t.list) ≡ true = suffix_more t.n c.args.c t.list c.requires.below c.requires.other c.list-behind.ensures.suffix in
    suffix-small t.n c.args.tallies.now.bag.n c.with-set.result (c.args.c ∷ t.list) c.requires.contest longer set

pub returns-in-Some-below-clause-found : goal.returns-in-Some-below-clause-found
returns-in-Some-below-clause-found c =
    let t = c.args.parent.now.tail in
    let d = c.args.c in
    let set = c.with-set.result in
    let with_nebs = c.offer_nebs-with_nebs.result in
    let scored = scored-from_parent c.args.tallies.now.bag c.ahead.result.now c.args.parent.now d c.set.result set with_nebs c.requires.below c.requires.other
    c.requires.contest c.requires.scored c.list-behind.ensures.suffix c.set.ensures c.with-set.ensures.number
    (subst (AreFilledFrom c.args.tallies.now.bag) (sym c.ahead.ensures.same) c.ahead.ensures.own) c.offer_nebs-with_nebs.ensures in
    let same = λ (row : List ℕ). ap (λ xs. below c.args.limit (with_nens row d set with_nebs xs)) c.list-behind.ensures.same in
    let s = c.in-Some-below.score in
    let found : IsScoredBelow c.args.tallies.now.bag c.args.limit (with_front t d) (Some (scored_as (with_front t d) s)) =
    elim c.match-row.branch [
      | in-Some w ↦
          let row = w.in-Some.row.now in
          child-found c.args.tallies.now.bag c.args.limit t d (with_nens row d set with_nebs t.list)
          (λ records h. scored records h row (w.in-Some.ensures.tallies records h)) c.match-row.below
          (w.below-is ∙ w.offer_nens_below-below.ensures ∙ same row) s c.in-Some-below.is
      | in-None+in_ok-row-in-None w ↦
          let row = w.deref.result.now in
          child-found c.args.tallies.now.bag c.args.limit t d (with_nens row d set with_nebs t.list)
          (λ records h. scored records h row (has-tallies records c.args.tallies.now.bag.n set row
          (w.deref.ensures.value ∙ w.in_ok-row-in-None.ensures.tallies records h))) c.match-row.below
          (w.below-is ∙ w.offer_nens_below-below-in-None.ensures ∙ same row) s c.in-Some-below.is
    ] in
    subst₂ (λ tail (score : Score). IsScoredBelow c.args.tallies.now.bag c.args.limit (with_front t d) (Some (record { tail = tail; low = score.low; by = score.by })))
    (sym c.front.ensures) (sym c.score.view_is) found

pub returns-in-None-below-clause-found : goal.returns-in-None-below-clause-found
returns-in-None-below-clause-found c =
    let t = c.args.parent.now.tail in
    let d = c.args.c in
    let set = c.with-set.result in
    let with_nebs = c.offer_nebs-with_nebs.result in
    let scored = scored-from_parent c.args.tallies.now.bag c.ahead.result.now c.args.parent.now d c.set.result set with_nebs c.requires.below c.requires.other
    c.requires.contest c.requires.scored c.list-behind.ensures.suffix c.set.ensures c.with-set.ensures.number
    (subst (AreFilledFrom c.args.tallies.now.bag) (sym c.ahead.ensures.same) c.ahead.ensures.own) c.offer_nebs-with_nebs.ensures in
    let same = λ (row : List ℕ). ap (λ xs. below c.args.limit (with_nens row d set with_nebs xs)) c.list-behind.ensures.same in
    elim c.match-row.branch [
      | in-Some w ↦
          let row = w.in-Some.row.now in
          child-left_out c.args.tallies.now.bag c.args.limit t d (with_nens row d set with_nebs t.list)
          (λ records h. scored records h row (w.in-Some.ensures.tallies records h)) c.match-row.below
          (w.below-is ∙ w.offer_nens_below-below.ensures ∙ same row) c.in-None-below.is
      | in-None+in_ok-row-in-None w ↦
          let row = w.deref.result.now in
          child-left_out c.args.tallies.now.bag c.args.limit t d (with_nens row d set with_nebs t.list)
          (λ records h. scored records h row (has-tallies records c.args.tallies.now.bag.n set row
          (w.deref.ensures.value ∙ w.in_ok-row-in-None.ensures.tallies records h))) c.match-row.below
          (w.below-is ∙ w.offer_nens_below-below-in-None.ensures ∙ same row) c.in-None-below.is
    ]
