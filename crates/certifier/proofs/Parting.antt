-- The part of some candidates: with one more, of two parts, and of all candidates.
use Rattle.std.proofs.Common.{◌≡◌, ◌≢◌, ℕ, ◌<◌, ◌≤◌, ◌⊎◌, Bool, true, false, cond, nat_lt, inl, inr, List, [], ◌∷◌, Option, Some, None, Ok, Err, refl, sym, ap, subst, arith, ltb-true, ltb-false, ◌∙◌}
use Rattle.std.specs.Option.{MatchOption}
use Rattle.std.proofs.lemmas.Bool.{cases_lt}
use Rattle.assertions.specs.Scores.{score_of}
use Rattle.suffix_walk.specs.Kept.{all_ending}
use Rattle.certifier.specs.declared.gather.Task.{Task}
use Rattle.certifier.specs.declared.part.OrderEnd.{OrderEnd}
use Rattle.certifier.specs.declared.part.Part.{Part}
use Rattle.certifier.specs.declared.walk.WalkEnd.{WalkEnd}
use Rattle.certifier.specs.declared.walk.WalkEnd.TheVariants.{Counted, Found}
use Rattle.certifier.specs.Gathered.{gathered, with_all}
use Rattle.certifier.specs.Walks.{IsWalk, OnCounted, ends_in}
use Rattle.certifier.specs.Certified.{IsSpent}
use Rattle.certifier.specs.OneCandidate.{IsTask, cover_walk, order_walk, IsGone, stop_of, IsNextEnd, IsNextWithin, IsNextOver, IsNext}
use Rattle.certifier.specs.Parts.{IsOwn, AreClaims, IsOver, IsEndOf, IsPart, in_either, is_any, IsBefore, candidate_of, order_of, spent_by, spent_at, lesser, first_end}
use Rattle.certifier.proofs.Agreement.{order}
use Rattle.certifier.proofs.Claiming.{left_or, right_or, from_or, claims-none, claims-same, claims-more, claims-join}
use Rattle.certifier.proofs.Searching.{AreGone, IsOrderSoFar, IsOrdered, orders-passed, orders-found, cover-finds_none, cover-spent, order-spent, found-all}

-- ---- before the lesser is before both
before-lesser : (a b : Option ℕ) (c : ℕ) → IsBefore c (lesser a b) → IsBefore c a × IsBefore c b
before-lesser None b c h = (tt, h)
before-lesser (Some a) None c h = (h, tt)
before-lesser (Some a) (Some b) c h = go (nat_lt b a) refl h where
  go : (t : Bool) → nat_lt b a ≡ t → IsBefore c (cond t (Some b) (Some a)) → (c < a) × (c < b)
  go true e h = let l : b < a = ltb-true b a e in (omega arith, h)
  go false e h = let l : a ≤ b = ltb-false b a e in (h, omega arith)

before-first : (a b : Option OrderEnd) (c : ℕ) → IsBefore c (candidate_of (first_end a b)) → IsBefore c (candidate_of a) × IsBefore c (candidate_of b)
before-first None b c h = (tt, h)
before-first (Some a) None c h = (h, tt)
before-first (Some a) (Some b) c h = go (nat_lt b.last a.last) refl h where
  go : (t : Bool) → nat_lt b.last a.last ≡ t → IsBefore c (candidate_of (cond t (Some b) (Some a))) → (c < a.last) × (c < b.last)
  go true e h = let l : b.last < a.last = ltb-true b.last a.last e in (omega arith, h)
  go false e h = let l : a.last ≤ b.last = ltb-false b.last a.last e in (h, omega arith)

lesser-of : (P : ℕ → Type 0) (a b : Option ℕ) → MatchOption a (Unit {0}) P → MatchOption b (Unit {0}) P → MatchOption (lesser a b) (Unit {0}) P
lesser-of P None b h k = k
lesser-of P (Some a) None h k = h
lesser-of P (Some a) (Some b) h k = go (nat_lt b a) where
  go : (t : Bool) → MatchOption (cond t (Some b) (Some a)) (Unit {0}) P
  go true = k
  go false = h

first-of : (P : OrderEnd → Type 0) (a b : Option OrderEnd) → MatchOption a (Unit {0}) P → MatchOption b (Unit {0}) P → MatchOption (first_end a b) (Unit {0}) P
first-of P None b h k = k
first-of P (Some a) None h k = h
first-of P (Some a) (Some b) h k = go (nat_lt b.last a.last) where
  go : (t : Bool) → MatchOption (cond t (Some b) (Some a)) (Unit {0}) P
  go true = k
  go false = h

lesser-none : (a b : Option ℕ) → lesser a b ≡ None → (a ≡ None) × (b ≡ None)
lesser-none None b e = (refl, e)
lesser-none (Some a) None e = cc
lesser-none (Some a) (Some b) e = go (nat_lt b a) e where
  go : (t : Bool) → cond t (Some b) (Some a) ≡ None → (Some a ≡ None) × (Some b ≡ None)
  go true e = cc
  go false e = cc

module _ (n : ℕ) (records : List (List ℕ)) (task : Task) where
  over-more : (own its : ℕ → Bool) → ((c : ℕ) → IsOwn n records task own c → IsOwn n records task its c) → (o : Option ℕ) →
      MatchOption o (Unit {0}) (IsOver n records task own) → MatchOption o (Unit {0}) (IsOver n records task its)
  over-more own its there None h = tt
  over-more own its there (Some c) h = record { candidate = there c h.candidate; walk = h.walk }

  end-more : (own its : ℕ → Bool) → ((c : ℕ) → IsOwn n records task own c → IsOwn n records task its c) → (o : Option OrderEnd) →
      MatchOption o (Unit {0}) (IsEndOf n records task own) → MatchOption o (Unit {0}) (IsEndOf n records task its)
  end-more own its there None h = tt
  end-more own its there (Some e) h = record { candidate = there e.last h.candidate; walk = h.walk }

  -- ---- no candidate yet
  pub part-none : (own : ℕ → Bool) (p : Part) → ((c : ℕ) → IsOwn n records task own c → ⊥) → p.claims ≡ [] → p.over ≡ None → p.end ≡ None →
      IsPart n records task own p
  part-none own p nobody empty over end = record {
    covers = λ c o b. absurd (nobody c o);
    over = subst (λ o. MatchOption o (Unit {0}) (IsOver n records task own)) (sym over) tt;
    orders = λ c o b b'. absurd (nobody c o);
    end = subst (λ o. MatchOption o (Unit {0}) (IsEndOf n records task own)) (sym end) tt;
    claims = λ e. claims-none n records task own p.claims nobody empty;
  }

  -- ---- the same candidates, as far as it was looked
  pub part-same : (own its : ℕ → Bool) (p : Part) → ((c : ℕ) → IsOwn n records task its c → IsBefore c p.over → IsOwn n records task own c) →
      ((c : ℕ) → IsOwn n records task own c → IsOwn n records task its c) →
      IsPart n records task own p → IsPart n records task its p
  part-same own its p back there h = record {
    covers = λ c o b. h.covers c (back c o b) b;
    over = over-more own its there p.over h.over;
    orders = λ c o b b'. h.orders c (back c o b) b b';
    end = end-more own its there p.end h.end;
    claims = λ e. claims-same n records task own its p.claims there (λ c o. back c o (subst (IsBefore c) (sym e) tt)) (h.claims e);
  }

  -- ---- two parts
  module _ (own its : ℕ → Bool) where
    left : (c : ℕ) → IsOwn n records task own c → IsOwn n records task (in_either own its) c
    left c o = record { below = o.below; alternative = o.alternative; meant = left_or (own c) (its c) o.meant }

    right : (c : ℕ) → IsOwn n records task its c → IsOwn n records task (in_either own its) c
    right c o = record { below = o.below; alternative = o.alternative; meant = right_or (own c) (its c) o.meant }

    either : (c : ℕ) → IsOwn n records task (in_either own its) c → IsOwn n records task own c ⊎ IsOwn n records task its c
    either c o = elim (from_or (own c) (its c) o.meant) [
      | inl m ↦ inl (record { below = o.below; alternative = o.alternative; meant = m })
      | inr m ↦ inr (record { below = o.below; alternative = o.alternative; meant = m })
    ]

    pub part-join : (a b j : Part) → j.over ≡ lesser a.over b.over → j.end ≡ first_end a.end b.end →
        j.claims ≡ with_all order a.claims b.claims →
        IsPart n records task own a → IsPart n records task its b → IsPart n records task (in_either own its) j
    part-join a b j over end claims h k = record {
      covers = λ c o before.
          let (x, y) = before-lesser a.over b.over c (subst (IsBefore c) over before) in
          elim (either c o) [ inl m ↦ h.covers c m x | inr m ↦ k.covers c m y ];
      over = subst (λ o. MatchOption o (Unit {0}) (IsOver n records task (in_either own its))) (sym over)
          (lesser-of (IsOver n records task (in_either own its)) a.over b.over (over-more own (in_either own its) left a.over h.over)
          (over-more its (in_either own its) right b.over k.over));
      orders = λ c o before early.
          let (x, y) = before-lesser a.over b.over c (subst (IsBefore c) over before) in
          let (u, v) = before-first a.end b.end c (subst (λ e. IsBefore c (candidate_of e)) end early) in
          elim (either c o) [ inl m ↦ h.orders c m x u | inr m ↦ k.orders c m y v ];
      end = subst (λ o. MatchOption o (Unit {0}) (IsEndOf n records task (in_either own its))) (sym end)
          (first-of (IsEndOf n records task (in_either own its)) a.end b.end (end-more own (in_either own its) left a.end h.end)
          (end-more its (in_either own its) right b.end k.end));
      claims = λ none.
          let (x, y) = lesser-none a.over b.over (sym over ∙ none) in
          claims-join n records task own its a.claims b.claims j.claims (h.claims x) (k.claims y) claims;
    }

  -- ---- one more candidate, after these
  module _ (is : IsTask n records task) (two : 1 < n) (own its : ℕ → Bool) (last : ℕ) (p q : Part) (mine : IsOwn n records task its last)
      (there : (c : ℕ) → IsOwn n records task own c → IsOwn n records task its c) (back : (c : ℕ) → IsOwn n records task its c →
      IsOwn n records task own c ⊎ (c ≡ last))
      (behind : (c : ℕ) → IsOwn n records task own c → c < last) (none : p.over ≡ None) (h : IsPart n records task own p) where
    open_before : (c : ℕ) → IsBefore c p.over
    open_before c = subst (IsBefore c) (sym none) tt

    next_end_is : (a b : Option OrderEnd) → MatchOption a (Unit {0}) (IsEndOf n records task own) → IsNextEnd last a b (order_walk n records task last) →
        MatchOption b (Unit {0}) (IsEndOf n records task its)
    next_end_is (Some a) b k e = subst (λ o. MatchOption o (Unit {0}) (IsEndOf n records task its)) (sym e) (end-more own its there (Some a) k)
    next_end_is None None k e = tt
    next_end_is None (Some b) k (same, e) = record {
      candidate = subst (IsOwn n records task its) (sym same) mine;
      walk = ap (order_walk n records task) same
          ∙ e;
    }

    next_orders : (a b : Option OrderEnd) → MatchOption a (Unit {0}) (IsEndOf n records task own) → IsNextEnd last a b (order_walk n records task last) →
        ((c : ℕ) → IsOwn n records task own c → IsBefore c (candidate_of a) → IsGone (order_walk n records task c)) →
        (c : ℕ) → IsOwn n records task its c → IsBefore c (candidate_of b) → IsGone (order_walk n records task c)
    next_orders (Some a) b of e k c o early =
        let early' : c < a.last = subst (λ x. IsBefore c (candidate_of x)) e early in
        let low : a.last < last = behind a.last of.candidate in
        elim (back c o) [ inl m ↦ k c m early' | inr same ↦ absurd (omega arith) ]
    next_orders None None of e k c o early = elim (back c o) [ inl m ↦ k c m tt | inr same ↦ subst (λ d. IsGone (order_walk n records task d)) (sym same) e ]
    next_orders None (Some b) of (at, e) k c o early =
        elim (back c o) [ inl m ↦ k c m tt | inr same ↦ absurd (let l : c < b.last = early in omega (arith, l, same, at)) ]

    next_covers : (w : WalkEnd) → IsWalk last (Ok w) (cover_walk n records task last) → (c : ℕ) → IsOwn n records task its c →
        IsGone (cover_walk n records task c)
    next_covers (Counted count) e c o =
        elim (back c o) [ inl m ↦ h.covers c m (open_before c) | inr same ↦ subst (λ d. IsGone (cover_walk n records task d)) (sym same) (count, e) ]
    next_covers (Found order) e c o = absurd (cover-finds_none n records task is two last order mine.below mine.alternative e)

    next_claims : (w : WalkEnd) → IsWalk last (Ok w) (cover_walk n records task last) →
        OnCounted w (q.claims ≡ gathered order (score_of n records) p.claims (ends_in n records task.best (all_ending n (last ∷ [])))) →
        AreClaims n records task its q.claims
    next_claims (Counted count) e put = claims-more n records task own its last p.claims q.claims mine there back (h.claims none) put
    next_claims (Found order) e put = absurd (cover-finds_none n records task is two last order mine.below mine.alternative e)

    next_within : q.over ≡ None → IsNextWithin n records task last p q → IsPart n records task its q
    next_within unspent x =
        let (w, e, put) = x.covered in
        record {
          covers = λ c o b. next_covers w e c o;
          over = subst (λ o. MatchOption o (Unit {0}) (IsOver n records task its)) (sym unspent) tt;
          orders = λ c o b early. next_orders p.end q.end h.end x.end (λ d m early'. h.orders d m (open_before d) early') c o early;
          end = next_end_is p.end q.end h.end x.end;
          claims = λ e'. next_claims w e put;
        }

    next_over : (over : ℕ) → q.over ≡ Some over → IsNextOver n records task last p q over → IsPart n records task its q
    next_over over spent x =
        let before : (c : ℕ) → IsOwn n records task its c → IsBefore c q.over → IsOwn n records task own c =
        (λ c o b. let l : c < over = subst (IsBefore c) spent b in let same = x.candidate in elim (back c o) [ inl m ↦ m | inr at ↦ absurd (omega arith) ]) in
        record {
          covers = λ c o b. h.covers c (before c o b) (open_before c);
          over = subst (λ o. MatchOption o (Unit {0}) (IsOver n records task its)) (sym spent)
              (record { candidate = subst (IsOwn n records task its) (sym x.candidate) mine; walk = ap (cover_walk n records task) x.candidate ∙ x.covered });
          orders = λ c o b early. h.orders c (before c o b) (open_before c) (subst (λ e. IsBefore c (candidate_of e)) x.end early);
          end = subst (λ o. MatchOption o (Unit {0}) (IsEndOf n records task its)) (sym x.end) (end-more own its there p.end h.end);
          claims = λ e. absurd (none_some over (sym spent ∙ e));
        }
      where
        none_some : (c : ℕ) → Some c ≡ None → ⊥
        none_some c e = cc

    pub part-next : IsNext n records task last p q → IsPart n records task its q
    part-next x = go q.over refl x where
      go : (o : Option ℕ) → q.over ≡ o → MatchOption o (IsNextWithin n records task last p q) (IsNextOver n records task last p q) → IsPart n records task its q
      go None e y = next_within e y
      go (Some c) e y = next_over c e y

  -- ---- all candidates
  module _ (is : IsTask n records task) (two : 1 < n) (p : Part) (h : IsPart n records task is_any p) where
    own_of : (c : ℕ) → c < n → c ≢ task.winner → IsOwn n records task is_any c
    own_of c l ne = record { below = l; alternative = ne; meant = refl }

    covers_to : (c : ℕ) → c ≤ n → ((d : ℕ) → d < c → IsBefore d p.over) → AreGone n records task (cover_walk n records task) c
    covers_to c le before d l ne = h.covers d (own_of d (omega arith) ne) (before d l)

    orders_to : (c : ℕ) → c ≤ n → ((d : ℕ) → d < c → IsBefore d p.over) → ((d : ℕ) → d < c → IsBefore d (candidate_of p.end)) →
        AreGone n records task (order_walk n records task) c
    orders_to c le before early d l ne = h.orders d (own_of d (omega arith) ne) (before d l) (early d l)

    abbrev Spent : ℕ → Type 0
    Spent = IsSpent n records task.winner task.best task.nodes

    -- how far the search got, if a walk for the assertions is over the budget
    module _ (c : ℕ) (over : p.over ≡ Some c) (at : IsOver n records task is_any c) where
      before_over : (d : ℕ) → d < c → IsBefore d p.over
      before_over d l = subst (IsBefore d) (sym over) l

      covers_before : AreGone n records task (cover_walk n records task) c
      covers_before = covers_to c (let l = at.candidate.below in omega (arith, l)) before_over

      -- no order comes before it
      over_first : ((d : ℕ) → d < c → IsBefore d (candidate_of p.end)) → Spent c
      over_first early =
          let low = at.candidate.below in
          cover-spent n records task is two c None low at.candidate.alternative covers_before
          (orders-passed n records task c (omega (arith, two)) (omega (arith, low)) (orders_to c (omega (arith, low)) before_over early)) at.walk

      -- an order does
      over_later : (e : OrderEnd) (order : List ℕ) → p.end ≡ Some e → e.last < c → IsEndOf n records task is_any e → e.order ≡ Some order → Spent c
      over_later e order end l of found =
          let low = at.candidate.below in
          let gone = orders_to e.last (omega (arith, low, l)) (λ d k. before_over d (omega arith))
          (λ d k. subst (λ x. IsBefore d (candidate_of x)) (sym end) k) in
          cover-spent n records task is two c (Some order) low at.candidate.alternative covers_before
          (orders-found n records task e.last c order (omega (arith, two)) of.candidate.below of.candidate.alternative gone (of.walk
          ∙ ap (λ o. Err (stop_of o)) found)) at.walk

    -- a walk for the order is over the budget, and no walk for the assertions before it
    order_over : (e : OrderEnd) → p.end ≡ Some e → IsEndOf n records task is_any e → e.order ≡ None → ((d : ℕ) → d < e.last → IsBefore d p.over) → Spent e.last
    order_over e end of none before =
        let low = of.candidate.below in
        order-spent n records task is two e.last low of.candidate.alternative (covers_to e.last (omega (arith, low)) before)
        (orders_to e.last (omega (arith, low)) before (λ d l. subst (λ x. IsBefore d (candidate_of x)) (sym end) l)) (of.walk ∙ ap (λ o. Err (stop_of o)) none)

    pub part-spent : (last : ℕ) → lesser p.over (spent_at p.end) ≡ Some last → Spent last
    part-spent last known = go p.over p.end refl refl h.over h.end known where
      some : (a b : ℕ) → Some a ≡ Some b → a ≡ b
      some a b e = cc

      go : (o : Option ℕ) (e : Option OrderEnd) → p.over ≡ o → p.end ≡ e → MatchOption o (Unit {0}) (IsOver n records task is_any) →
          MatchOption e (Unit {0}) (IsEndOf n records task is_any) → lesser o (spent_at e) ≡ Some last → Spent last
      go None None over end at of k = cc
      go None (Some e) over end at of k = deep e.order refl k where
        deep : (o : Option (List ℕ)) → e.order ≡ o → lesser None (spent_by e.last o) ≡ Some last → Spent last
        deep None none k = subst Spent (some e.last last k) (order_over e end of none (λ d l. subst (IsBefore d) (sym over) tt))
        deep (Some order) found k = cc
      go (Some c) None over end at of k = subst Spent (some c last k) (over_first c over at (λ d l. subst (λ x. IsBefore d (candidate_of x)) (sym end) tt))
      go (Some c) (Some e) over end at of k = deep e.order refl k where
        not_before : c ≤ e.last → Spent c
        not_before le = over_first c over at (λ d l. subst (λ x. IsBefore d (candidate_of x)) (sym end) (omega arith))

        deep : (o : Option (List ℕ)) → e.order ≡ o → lesser (Some c) (spent_by e.last o) ≡ Some last → Spent last
        deep None none k = which (nat_lt e.last c) refl k where
          which : (t : Bool) → nat_lt e.last c ≡ t → cond t (Some e.last) (Some c) ≡ Some last → Spent last
          which true b k = let l : e.last < c = ltb-true e.last c b in
              subst Spent (some e.last last k) (order_over e end of none (λ d m. subst (IsBefore d) (sym over) (omega arith)))
          which false b k = subst Spent (some c last k) (not_before (ltb-false e.last c b))
        deep (Some order) found k =
            subst Spent (some c last k)
            (elim (cases_lt e.last c) [ inl l ↦ over_later c over at e order end l of found | inr le ↦ not_before le ])

    pub part-whole : lesser p.over (spent_at p.end) ≡ None → IsOrdered n records task is two (order_of p.end) × (p.over ≡ None)
    part-whole known =
        let (over, spent) = lesser-none p.over (spent_at p.end) known in
        let before : (d : ℕ) → IsBefore d p.over = (λ d. subst (IsBefore d) (sym over) tt) in
        (found-all n records task is two (order_of p.end) (covers_to n (omega arith) (λ d l. before d)) (go p.end refl h.end spent before), over)
      where
        go : (e : Option OrderEnd) → p.end ≡ e → MatchOption e (Unit {0}) (IsEndOf n records task is_any) → spent_at e ≡ None →
            ((d : ℕ) → IsBefore d p.over) → IsOrderSoFar n records task (order_of e) n
        go None end of s before = orders-passed n records task n (omega (arith, two)) (omega arith)
            (orders_to n (omega arith) (λ d l. before d) (λ d l. subst (λ x. IsBefore d (candidate_of x)) (sym end) tt))
        go (Some e) end of s before = deep e.order refl s where
          deep : (o : Option (List ℕ)) → e.order ≡ o → spent_by e.last o ≡ None → IsOrderSoFar n records task o n
          deep None none s = cc
          deep (Some order) found s =
              let low = of.candidate.below in
              orders-found n records task e.last n order (omega (arith, two)) low of.candidate.alternative
              (orders_to e.last (omega (arith, low)) (λ d l. before d) (λ d l. subst (λ x. IsBefore d (candidate_of x)) (sym end) l))
              (of.walk ∙ ap (λ o. Err (stop_of o)) found)
