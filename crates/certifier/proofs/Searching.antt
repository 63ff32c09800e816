-- The two searches over the alternative winners, by the results of the walks of single candidates.
use Rattle.std.proofs.Common.{◌≡◌, ◌≢◌, ℕ, zero, suc, ◌+◌, ◌-◌, ◌<◌, ◌≤◌, ◌⊎◌, Bool, inl, inr, List, [], ◌∷◌, length, find, Option, Some, None, Result, Ok, Err, refl, sym, ap, subst, arith, ltb-true, ◌∙◌}
use Rattle.std.proofs.lemmas.Bool.{cases_eq}
use Rattle.irv_base.proofs.Members.{Member, from_find, member-flat_map}
use Rattle.assertions.specs.Suffixes.{alternative_orders, orders_ending}
use Rattle.assertions.specs.Hardness.{low}
use Rattle.assertions.specs.Certificate.{certificate_order, cover_count, order_count}
use Rattle.assertions.proofs.Alternatives as alternatives
use Rattle.suffix_walk.specs.Kept.{all_ending}
use Rattle.suffix_walk.specs.Walks.{walked}
use Rattle.suffix_walk.specs.Search.{first_over, first_within}
use Rattle.suffix_walk.specs.declared.walk.Stop.{Stop}
use Rattle.suffix_walk.specs.declared.walk.Stop.TheVariants as stopped
use Rattle.suffix_walk.proofs.Counts.{Ran, ran}
use Rattle.suffix_walk.proofs.Scans.{scan_from, scan-start, scan-winner, scan-other, scan-end, find-whole}
use Rattle.certifier.specs.declared.gather.Task.{Task}
use Rattle.certifier.specs.Walks.{is_under}
use Rattle.certifier.specs.Certified.{IsWithin, IsSpent}
use Rattle.certifier.specs.OneCandidate.{IsTask, cover_walk, order_walk, IsGone}
use Rattle.certifier.proofs.Budgets.{none-over, first-over, earlier-within, other-member, reached, spent_is, order_is, covers_are, orders_are}

-- a scan continues to a candidate if the walks of all candidates before it are gone through
module _ (n nodes : ℕ) (kept : List ℕ → Bool) (winner : ℕ) where
  pub scan-passed : (c : ℕ) → c ≤ n → ((d : ℕ) → d < c → d ≢ winner → IsGone (walked n nodes kept 0 (all_ending n (d ∷ [])))) →
      scan_from n nodes kept winner 0 ≡ scan_from n nodes kept winner c
  scan-passed zero le gone = refl
  scan-passed (suc c) le gone =
      scan-passed c (omega arith) (λ d l. gone d (omega arith)) ∙ step (cases_eq c winner)
      ∙ ap (scan_from n nodes kept winner) (let e : c + 1 ≡ suc c = omega arith in e)
    where
      step : (c ≡ winner) ⊎ (c ≢ winner) → scan_from n nodes kept winner c ≡ scan_from n nodes kept winner (c + 1)
      step (inl same) = scan-winner n nodes kept winner c (omega arith) same
      step (inr other) = let (count, e) = gone c (omega arith) other in scan-other n nodes kept winner c (Ok count) (omega arith) other (sym e)

module _ (n : ℕ) (records : List (List ℕ)) (task : Task) where
  -- the two tests, their counts, and the two searches: the whole, and from a candidate on
  abbrev under_best : List ℕ → Bool
  under_best = is_under n records task.best

  abbrev to_best : List ℕ → Bool
  to_best = is_under n records (task.best + 1)

  abbrev covers_of : ℕ → ℕ
  covers_of = cover_count n (low n records) task.best

  abbrev orders_of : List ℕ → ℕ → ℕ
  orders_of order = order_count n (low n records) task.best order

  abbrev searched_covers : Result (Option (List ℕ)) ℕ
  searched_covers = first_within n task.winner task.nodes under_best

  abbrev searched_orders : Result (Option (List ℕ)) ℕ
  searched_orders = first_within n task.winner task.nodes to_best

  abbrev covers_from : ℕ → Result (Option (List ℕ)) ℕ
  covers_from c = scan_from n task.nodes under_best task.winner c

  abbrev orders_from : ℕ → Result (Option (List ℕ)) ℕ
  orders_from c = scan_from n task.nodes to_best task.winner c

  -- the walks of all alternative winners before c are gone through
  abbrev pub AreGone : (ℕ → Result ℕ Stop) → ℕ → Type 0
  AreGone walk c = (d : ℕ) → d < c → d ≢ task.winner → IsGone (walk d)

  abbrev pub IsOrderSoFar : Option (List ℕ) → ℕ → Type 0
  IsOrderSoFar None c = orders_from c ≡ searched_orders
  IsOrderSoFar (Some order) c = searched_orders ≡ Ok (Some order)

  pub covers-passed : (c : ℕ) → 0 < n → c ≤ n → AreGone (cover_walk n records task) c → covers_from c ≡ searched_covers
  covers-passed c some le gone = sym (scan-passed n task.nodes under_best task.winner c le gone) ∙ scan-start n task.nodes under_best task.winner some

  pub orders-passed : (c : ℕ) → 0 < n → c ≤ n → AreGone (order_walk n records task) c → IsOrderSoFar None c
  orders-passed c some le gone = sym (scan-passed n task.nodes to_best task.winner c le gone) ∙ scan-start n task.nodes to_best task.winner some

  pub orders-found : (c d : ℕ) (order : List ℕ) → 0 < n → c < n → c ≢ task.winner → AreGone (order_walk n records task) c →
      order_walk n records task c ≡ Err (stopped.Found order) → IsOrderSoFar (Some order) d
  orders-found c d order some l ne gone e =
      sym (orders-passed c some (omega arith) gone) ∙ scan-other n task.nodes to_best task.winner c (Err (stopped.Found order)) l ne (sym e)

  -- ---- the answer
  module _ (is : IsTask n records task) (two : 1 < n) where
    -- the walk for the assertions finds no order, since none is below the best margin
    pub cover-finds_none : (c : ℕ) (order : List ℕ) → c < n → c ≢ task.winner → cover_walk n records task c ≡ Err (stopped.Found order) → ⊥
    cover-finds_none c order l ne e =
        let run : Ran n task.nodes under_best 0 (all_ending n (c ∷ [])) (Err (stopped.Found order)) =
        subst (Ran n task.nodes under_best 0 (all_ending n (c ∷ []))) e (ran n task.nodes under_best 0 (all_ending n (c ∷ [])) (omega arith)) in
        let long : n - 1 + length (c ∷ []) ≡ n = omega arith in
        let it : find under_best (orders_ending n (n - 1) (c ∷ [])) ≡ Some order = find-whole n under_best (n - 1) (c ∷ []) long ∙ run.0 in
        let (m, under) = from_find under_best order (orders_ending n (n - 1) (c ∷ [])) it in
        let inside : Member order (alternative_orders n task.winner) =
        member-flat_map (λ d. orders_ending n (n - 1) (d ∷ [])) (other-member n task.winner 0 (λ d. 0) c l ne) m in
        let le : task.best ≤ low n records order = reached n task.winner task.nodes records task.best is.best order inside in
        let lt : low n records order < task.best = ltb-true (low n records order) task.best under in
        absurd (omega arith)

    abbrev Ordered : Type 0
    Ordered = (order : List ℕ) × (certificate_order n task.winner (low n records) task.best ≡ Some order)

    ordered : Ordered
    ordered =
        let (order, h, k, e) = alternatives.order_is n task.winner (low n records) is.winner two in
        (order, ap (λ b. certificate_order n task.winner (low n records) b) is.best ∙ h)

    covers-within : (c : ℕ) → covers_from c ≡ searched_covers → (d : ℕ) → d < n → d < c → d ≢ task.winner → covers_of d ≤ task.nodes
    covers-within c h = earlier-within n task.nodes under_best task.winner c covers_of None (h ∙ covers_are n task.winner task.nodes records task.best is.best)

    orders-within : (order : List ℕ) → certificate_order n task.winner (low n records) task.best ≡ Some order → (c : ℕ) (o : Option (List ℕ)) →
        IsOrderSoFar o c → (d : ℕ) → d < n → d < c → d ≢ task.winner → orders_of order d ≤ task.nodes
    orders-within order e c None h = earlier-within n task.nodes to_best task.winner c (orders_of order) (Some order) (h
        ∙ orders_are n task.winner task.nodes records task.best is.best order e)
    orders-within order e c (Some other) h = λ d k l ne.
        none-over n task.winner task.nodes (orders_of order)
        (order_is (first_over n task.winner task.nodes (orders_of order)) (Some order) (Some other)
        (sym (orders_are n task.winner task.nodes records task.best is.best order e) ∙ h)).0 d k ne

    -- the walk for the assertions is over the budget
    pub cover-spent : (c : ℕ) (o : Option (List ℕ)) → c < n → c ≢ task.winner → AreGone (cover_walk n records task) c → IsOrderSoFar o c →
        cover_walk n records task c ≡ Err stopped.Spent →
        IsSpent n records task.winner task.best task.nodes c
    cover-spent c o l ne gone so_far e =
        let (order, known) = ordered in
        let spent : searched_covers ≡ Err c = sym (covers-passed c (omega arith) (omega arith) gone)
        ∙ scan-other n task.nodes under_best task.winner c (Err stopped.Spent) l ne (sym e) in
        let first = first-over n task.winner task.nodes covers_of c
        (spent_is (first_over n task.winner task.nodes covers_of) None c (sym (covers_are n task.winner task.nodes records task.best is.best) ∙ spent)) in
        record {
          order = order;
          order_is = known;
          below = l;
          alternative = ne;
          over = inl first.over;
          least = λ d k other. (first.least d k other, orders-within order known c o so_far d (omega arith) k other);
        }

    -- the walk for the order is
    pub order-spent : (c : ℕ) → c < n → c ≢ task.winner → AreGone (cover_walk n records task) c → AreGone (order_walk n records task) c →
        order_walk n records task c ≡ Err stopped.Spent →
        IsSpent n records task.winner task.best task.nodes c
    order-spent c l ne covers gone e =
        let (order, known) = ordered in
        let spent : searched_orders ≡ Err c = sym (orders-passed c (omega arith) (omega arith) gone)
        ∙ scan-other n task.nodes to_best task.winner c (Err stopped.Spent) l ne (sym e) in
        let first = first-over n task.winner task.nodes (orders_of order) c
        (spent_is (first_over n task.winner task.nodes (orders_of order)) (Some order) c
        (sym (orders_are n task.winner task.nodes records task.best is.best order known) ∙ spent)) in
        record {
          order = order;
          order_is = known;
          below = l;
          alternative = ne;
          over = inr first.over;
          least = λ d k other. (covers-within c (covers-passed c (omega arith) (omega arith) covers) d (omega arith) k other, first.least d k other);
        }

    -- ---- no walk is
    pub record IsOrdered (o : Option (List ℕ)) : Type 0 where
      pub order : List ℕ
      pub found_is : o ≡ Some order
      pub order_is : certificate_order n task.winner (low n records) task.best ≡ Some order
      pub within : (c : ℕ) → c < n → c ≢ task.winner → IsWithin n (low n records) task.best order task.nodes c

    pub found-all : (o : Option (List ℕ)) → AreGone (cover_walk n records task) n → IsOrderSoFar o n → IsOrdered o
    found-all o gone so_far =
        let (order, e) = ordered in
        let (known, is_it) = ends order e o so_far in
        record {
          order = order;
          found_is = is_it;
          order_is = e;
          within = λ d k ne. (none-over n task.winner task.nodes covers_of covers d k ne, none-over n task.winner task.nodes (orders_of order) known d k ne);
        }
      where
        covers : first_over n task.winner task.nodes covers_of ≡ None
        covers =
            (order_is (first_over n task.winner task.nodes covers_of) None None
            (sym (covers_are n task.winner task.nodes records task.best is.best) ∙ sym (covers-passed n (omega arith) (omega arith) gone)
            ∙ scan-end n task.nodes under_best task.winner n (omega arith))).0

        ends : (order : List ℕ) → certificate_order n task.winner (low n records) task.best ≡ Some order → (p : Option (List ℕ)) → IsOrderSoFar p n →
            (first_over n task.winner task.nodes (orders_of order) ≡ None) × (p ≡ Some order)
        ends order e None k =
            let (a, b) = order_is (first_over n task.winner task.nodes (orders_of order)) (Some order) None
            (sym (orders_are n task.winner task.nodes records task.best is.best order e) ∙ sym k
            ∙ scan-end n task.nodes to_best task.winner n (omega arith)) in
            cc
        ends order e (Some other) k =
            let (a, b) = order_is (first_over n task.winner task.nodes (orders_of order)) (Some order) (Some other)
            (sym (orders_are n task.winner task.nodes records task.best is.best order e) ∙ k) in
            (a, sym b)
