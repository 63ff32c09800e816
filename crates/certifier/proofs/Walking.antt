-- A walk at a suffix, and how it continues from one child to the next.
use Rattle.std.proofs.Common.{◌≡◌, ℕ, ◌+◌, ◌-◌, ◌<◌, ◌≤◌, ◌==◌, true, false, Bool, List, [], ◌∷◌, length, count_by, if◌then◌else◌, Some, None, Contains, IfOk, Result, Ok, Err, refl, sym, ap, subst, arith, le-ltb, lt-ltb, ltb-true, ◌∙◌}
use Rattle.irv_base.specs.Candidates.{is_in, set_of}
use Rattle.irv_base.proofs.Members.{Member, contains-from_member, member-from_contains, member_nil}
use Rattle.assertions.specs.declared.assertion.Assertion.{Assertion}
use Rattle.assertions.specs.contracts.assertion.AssertionOrd.TheImpl.{ghosts}
use Rattle.irv_base.specs.Suffixes.{is_suffix}
use Rattle.assertions.specs.Hardness.{low, refuter}
use Rattle.assertions.specs.Scores.{score_of}
use Rattle.set_tallies.specs.Bags.{Kept, IsOf}
use Rattle.suffix_tree.specs.declared.scored.Scored.{Scored}
use Rattle.suffix_tree.specs.Suffixes.{with_front, whole}
use Rattle.suffix_tree.specs.Scores.{IsScoredOver}
use Rattle.irv_base.proofs.Suffixes.{suffix_more, suffix-short}
use Rattle.suffix_tree.proofs.Children.{score-from}
use Rattle.suffix_walk.specs.Kept.{is_parent_kept, all_ending}
use Rattle.suffix_walk.specs.Walks.{walked}
use Rattle.suffix_walk.specs.declared.walk.Stop.TheVariants as stopped
use Rattle.suffix_walk.proofs.Runs.{from_whole, short-from_none, below_from, below_from-start, below_from-passes, below_from-goes, below_from-end, walked-dropped, walked-found, walked-spent, walked-enters, rest, rest-start, rest-passes, rest-goes, rest-stops, rest-end}
use Rattle.suffix_walk.proofs.Through.{from_walked, walked-through}
use Rattle.certifier.specs.Gathered.{with_score, gathered}
use Rattle.certifier.specs.Counts.{count_of}
use Rattle.certifier.specs.Walks.{is_under, CanWalk, walk_of, walked_on, IsWalk, OnCounted, ends_in, kept_ends, HasGathered}
use Rattle.certifier.specs.Known.{IsOfSet, IsThrough, IsKnown, AreKnown}
use Rattle.certifier.specs.declared.counts.Counts.{Counts}
use Rattle.certifier.specs.declared.walk.Reach.{Reach}
use Rattle.certifier.specs.declared.walk.WalkEnd.{WalkEnd}
use Rattle.certifier.specs.declared.walk.WalkEnd.TheVariants.{Counted, Found}
use Rattle.certifier.specs.declared.fault.CertFault.{CertFault}
use Rattle.certifier.specs.declared.fault.CertFault.TheVariants.{Spent, Memory}
use Rattle.certifier.proofs.Ends.{grows, kept-here, kept-none, kept-enters, kept-append}
use Rattle.certifier.proofs.Knowing.{known-gathers, known-stays, keys-there, known-notes}

-- ---- what a walk keeps, at a suffix whose low is known
module _ (n : ℕ) (records : List (List ℕ)) (limit : ℕ) where
  under-shrinks : (c : ℕ) (s : List ℕ) → is_suffix n (c ∷ s) ≡ true → is_under n records limit (c ∷ s) ≡ true → is_under n records limit s ≡ true
  under-shrinks c s proper h =
      let g : low n records s ≤ low n records (c ∷ s) = grows n records limit c s proper in
      let l : low n records (c ∷ s) < limit = ltb-true (low n records (c ∷ s)) limit h in
      lt-ltb (low n records s) limit (omega arith)

  from_under : (x : ℕ) (s : List ℕ) → x ≡ low n records s → x < limit → is_under n records limit s ≡ true
  from_under x s e lt = lt-ltb (low n records s) limit (omega arith)

  not-under : (x : ℕ) (s : List ℕ) → x ≡ low n records s → limit ≤ x → is_under n records limit s ≡ false
  not-under x s e le = le-ltb (low n records s) limit (omega arith)

-- ---- if it ends at once
module _ (bag : Kept) (reach : Reach) (s : Scored) (count : ℕ) (ready : CanWalk bag reach.limit s) where
  pub dropped : reach.limit ≤ s.low → (records : List (List ℕ)) → IsOf bag records → IsWalk reach.last (Ok (Counted count)) (walk_of reach s records count)
  dropped le records h =
      walked-dropped s.tail.n reach.nodes (is_under s.tail.n records reach.limit) (under-shrinks s.tail.n records reach.limit) count s.tail.list ready.proper
      (not-under s.tail.n records reach.limit s.low s.tail.list (ready.scored records h).low_is le)

  pub gathered-dropped : (entries : List (Assertion × ℕ)) → reach.limit ≤ s.low →
      HasGathered bag reach s entries (if reach.keeps then with_score ghosts.cmp entries (record { low = s.low; by = s.by }) else entries)
  gathered-dropped entries le records h =
      let scored = ready.scored records h in
      ap (λ score. if reach.keeps then with_score ghosts.cmp entries score else entries) (score-from records s scored)
      ∙ sym (kept-here s.tail.n records reach.limit ghosts.cmp (score_of s.tail.n records) entries reach.keeps s.low s.tail.list scored.low_is ready.some
      ready.proper (ready.parent records h) le)

  pub found : s.low < reach.limit → (order : List ℕ) → whole s.tail ≡ Some order → (records : List (List ℕ)) → IsOf bag records →
      IsWalk reach.last (Ok (Found order)) (walk_of reach s records count)
  found lt order w records h =
      let it = from_whole s.tail.n s.tail.list order w in
      walked-found s.tail.n reach.nodes (is_under s.tail.n records reach.limit) count s.tail.list
      (from_under s.tail.n records reach.limit s.low s.tail.list (ready.scored records h).low_is lt) it.long
      ∙ ap (λ t. Err (stopped.Found t)) it.same

  pub spent : s.low < reach.limit → whole s.tail ≡ None → reach.nodes ≤ count → (records : List (List ℕ)) → IsOf bag records →
      IsWalk reach.last (Err (Spent reach.last)) (walk_of reach s records count)
  spent lt w le records h = (
    refl,
    walked-spent s.tail.n reach.nodes (is_under s.tail.n records reach.limit) count s.tail.list
        (from_under s.tail.n records reach.limit s.low s.tail.list (ready.scored records h).low_is lt) (short-from_none s.tail.n s.tail.list ready.proper w) le,
  )

-- if the claims are as they were, the walk may end in any way
pub where-counted : (r : Result WalkEnd CertFault) (Fact : Type 0) → Fact → IfOk r (λ walk. OnCounted walk Fact)
where-counted (Ok (Counted count)) Fact fact = fact
where-counted (Ok (Found order)) Fact fact = tt
where-counted (Err fault) Fact fact = tt

-- ---- what is known there
module _ (bag : Kept) (reach : Reach) (s : Scored) (ready : CanWalk bag reach.limit s) (counts : Counts) (entries : List (Assertion × ℕ))
    (known : AreKnown bag reach.limit reach.keeps counts entries) where
  known-here : (records : List (List ℕ)) → IsOf bag records → IsKnown s.tail.n records reach.limit reach.keeps counts entries
  known-here records h = subst (λ m. IsKnown m records reach.limit reach.keeps counts entries) (sym ready.contest) (known records h)

  pub known-put : (next : List (Assertion × ℕ)) → HasGathered bag reach s entries next → AreKnown bag reach.limit reach.keeps counts next
  known-put next put records h =
      subst (λ m. IsKnown m records reach.limit reach.keeps counts next) ready.contest
      (known-gathers s.tail.n records reach.limit reach.keeps counts entries (known-here records h)
      (kept_ends reach.keeps s.tail.n records reach.limit (all_ending s.tail.n s.tail.list)) next (put records h))

  module _ (lt : s.low < reach.limit) where
    of-set : (records : List (List ℕ)) → IsOf bag records → IsOfSet s.tail.n records reach.limit (set_of s.tail.list) s.tail.list
    of-set records h = record {
      proper = ready.proper;
      some = ready.some;
      under = from_under s.tail.n records reach.limit s.low s.tail.list (ready.scored records h).low_is lt;
      set_is = refl;
    }

    -- a set with a count: the walk would add it, and would put in nothing new
    module _ (number : ℕ) (noted : count_of counts (set_of s.tail.list) ≡ Some number) where
      through : (records : List (List ℕ)) → (h : IsOf bag records) →
          IsThrough s.tail.n records reach.limit reach.keeps (known-here records h).keys number s.tail.list
      through records h = (known-here records h).through (set_of s.tail.list) number s.tail.list noted (of-set records h)

      pub walk-passed : (count : ℕ) → count ≤ reach.nodes → (records : List (List ℕ)) → IsOf bag records →
          walk_of reach s records count ≡ walked_on reach.nodes count number
      walk-passed count le records h =
          let it = through records h in
          walked-through s.tail.n reach.nodes (is_under s.tail.n records reach.limit) count (all_ending s.tail.n s.tail.list)
          (λ x m u. it.parts x (contains-from_member m) u) le
          ∙ ap (walked_on reach.nodes count) it.count_is

      pub gathered-passed : HasGathered bag reach s entries entries
      gathered-passed records h =
          known-stays s.tail.n records reach.limit reach.keeps counts entries (known-here records h)
          (kept_ends reach.keeps s.tail.n records reach.limit (all_ending s.tail.n s.tail.list)) (there reach.keeps refl)
        where
          there : (keeps : Bool) → reach.keeps ≡ keeps → (x : List ℕ) (a : Assertion) →
              Member x (kept_ends keeps s.tail.n records reach.limit (all_ending s.tail.n s.tail.list)) → refuter s.tail.n records x ≡ Some a →
              Contains (known-here records h).keys a
          there true on x a m r = (through records h).refuters on x a (contains-from_member m) r
          there false on x a m r = absurd (member_nil m)

    -- the set that was gone through
    pub known-noted : (count seen : ℕ) (counts' next' : Counts) (next : List (Assertion × ℕ)) →
        ((records : List (List ℕ)) → IsOf bag records → IsWalk reach.last (Ok (Counted seen)) (walk_of reach s records count)) →
        HasGathered bag reach s entries next → AreKnown bag reach.limit reach.keeps counts' next →
        ((other : ℕ) → count_of next' other ≡ (if set_of s.tail.list == other then Some (seen - count) else count_of counts' other)) →
        AreKnown bag reach.limit reach.keeps next' next
    known-noted count seen counts' next' next walk put after noted records h =
        subst (λ m. IsKnown m records reach.limit reach.keeps next' next) ready.contest
        (known-notes s.tail.n records reach.limit reach.keeps counts' next' next (set_of s.tail.list) (seen - count) s.tail.list here noted (of-set records h)
        (record {
          count_is = let sum = passed.1 in omega (arith, sum);
          parts = λ x m u. passed.0 x (member-from_contains x (all_ending s.tail.n s.tail.list) m) u;
          refuters = λ on x a m r.
              keys-there s.tail.n records reach.limit reach.keeps counts entries (known-here records h)
              (kept_ends reach.keeps s.tail.n records reach.limit (all_ending s.tail.n s.tail.list)) next (put records h) here.keys here.marked x a
              (rw on (member-from_contains x (ends_in s.tail.n records reach.limit (all_ending s.tail.n s.tail.list)) m)) r;
        }))
      where
        here : IsKnown s.tail.n records reach.limit reach.keeps counts' next
        here = subst (λ m. IsKnown m records reach.limit reach.keeps counts' next) (sym ready.contest) (after records h)

        passed : ((x : List ℕ) → Member x (all_ending s.tail.n s.tail.list) → is_under s.tail.n records reach.limit x ≡ true → length x < s.tail.n)
            × (seen ≡ count + count_by (is_under s.tail.n records reach.limit) (all_ending s.tail.n s.tail.list))
        passed = from_walked s.tail.n reach.nodes (is_under s.tail.n records reach.limit) count (all_ending s.tail.n s.tail.list) seen (walk records h)

-- ---- a child of the suffix
module _ (bag : Kept) (limit : ℕ) (s x : Scored) (c : ℕ) (ready : CanWalk bag limit s) (lt : s.low < limit) (below : c < s.tail.n)
    (out : is_in s.tail.list c ≡ false) (tail : x.tail ≡ with_front s.tail c) where
  pub child-ready : IsScoredOver bag x → CanWalk bag limit x
  child-ready scored = record {
    contest = ap (λ t. t.n) tail ∙ ready.contest;
    proper = subst (λ t. is_suffix t.n t.list ≡ true) (sym tail) (suffix_more s.tail.n c s.tail.list below out ready.proper);
    some = subst (λ t. 0 < length t.list) (sym tail) (omega arith);
    scored = scored;
    parent = λ records h. subst (λ t. is_parent_kept (is_under t.n records limit) t.list ≡ true) (sym tail) (kept records h s.tail.list refl ready.some);
  }
    where
      kept : (records : List (List ℕ)) → IsOf bag records → (t : List ℕ) → t ≡ s.tail.list → 0 < length t →
          is_parent_kept (is_under s.tail.n records limit) (c ∷ t) ≡ true
      kept records h [] same some = absurd (omega arith)
      kept records h (d ∷ t) same some = from_under s.tail.n records limit s.low (d ∷ t) ((ready.scored records h).low_is
          ∙ ap (low s.tail.n records) (sym same)) lt

  -- a longer suffix has fewer candidates left
  pub fewer-left : CanWalk bag limit x → x.tail.n - length x.tail.list < s.tail.n - length s.tail.list
  fewer-left r =
      let short : length x.tail.list ≤ x.tail.n = suffix-short x.tail.n x.tail.list r.proper in
      let n : x.tail.n ≡ s.tail.n = ap (λ t. t.n) tail in
      let long : length x.tail.list ≡ length (c ∷ s.tail.list) = ap (λ t. length t.list) tail in
      omega arith

-- ---- how it continues: what is left of it, from a candidate in front on, is the whole of it
pub record IsGoing (bag : Kept) (reach : Reach) (s : Scored) (count : ℕ) (before : List (Assertion × ℕ)) (c seen : ℕ) (entries : List (Assertion × ℕ)) : Type
    0 where
  pub walk : (records : List (List ℕ)) → IsOf bag records → rest s.tail.n reach.nodes (is_under s.tail.n records reach.limit) seen s.tail.list c
      ≡ walk_of reach s records count
  pub claims : (records : List (List ℕ)) → IsOf bag records →
      gathered ghosts.cmp (score_of s.tail.n records) entries (kept_ends reach.keeps s.tail.n records reach.limit (below_from s.tail.n s.tail.list c))
      ≡ gathered ghosts.cmp (score_of s.tail.n records) before (kept_ends reach.keeps s.tail.n records reach.limit (all_ending s.tail.n s.tail.list))

module _ (bag : Kept) (reach : Reach) (s : Scored) (count : ℕ) (before : List (Assertion × ℕ)) where
  pub going-starts : CanWalk bag reach.limit s → s.low < reach.limit → whole s.tail ≡ None → count < reach.nodes →
      IsGoing bag reach s count before 0 (count + 1) before
  going-starts ready lt w room =
      let short : length s.tail.list < s.tail.n = short-from_none s.tail.n s.tail.list ready.proper w in
      record {
        walk = λ records h.
            rest-start s.tail.n reach.nodes (is_under s.tail.n records reach.limit) (count + 1) s.tail.list
            ∙ sym (walked-enters s.tail.n reach.nodes (is_under s.tail.n records reach.limit) count s.tail.list
            (from_under s.tail.n records reach.limit s.low s.tail.list (ready.scored records h).low_is lt) short room);
        claims = λ records h.
            ap (λ xs. gathered ghosts.cmp (score_of s.tail.n records) before (kept_ends reach.keeps s.tail.n records reach.limit xs)) (below_from-start s.tail.n s.tail.list)
            ∙ sym (kept-enters s.tail.n records reach.limit ghosts.cmp (score_of s.tail.n records) before reach.keeps s.low s.tail.list
            (ready.scored records h).low_is lt short);
      }

  module _ (c seen : ℕ) (entries : List (Assertion × ℕ)) (going : IsGoing bag reach s count before c seen entries) where
    pub going-ends : s.tail.n ≤ c → (records : List (List ℕ)) → IsOf bag records → IsWalk reach.last (Ok (Counted seen)) (walk_of reach s records count)
    going-ends le records h = sym (going.walk records h) ∙ rest-end s.tail.n reach.nodes (is_under s.tail.n records reach.limit) seen s.tail.list c le

    pub gathered-ends : s.tail.n ≤ c → HasGathered bag reach s before entries
    gathered-ends le records h =
        sym (kept-none s.tail.n records reach.limit ghosts.cmp (score_of s.tail.n records) entries reach.keeps)
        ∙ ap (λ xs. gathered ghosts.cmp (score_of s.tail.n records) entries (kept_ends reach.keeps s.tail.n records reach.limit xs))
        (sym (below_from-end s.tail.n s.tail.list c le)) ∙ going.claims records h

    module _ (below : c < s.tail.n) where
      pub going-passes : is_in s.tail.list c ≡ true → IsGoing bag reach s count before (c + 1) seen entries
      going-passes inside = record {
        walk = λ records h. sym (rest-passes s.tail.n reach.nodes (is_under s.tail.n records reach.limit) seen s.tail.list c below inside)
            ∙ going.walk records h;
        claims = λ records h.
            ap (λ xs. gathered ghosts.cmp (score_of s.tail.n records) entries (kept_ends reach.keeps s.tail.n records reach.limit xs))
            (sym (below_from-passes s.tail.n s.tail.list c below inside)) ∙ going.claims records h;
      }

      -- what a walk answers for a child
      module _ (out : is_in s.tail.list c ≡ false) (x : Scored) (tail : x.tail ≡ with_front s.tail c) where
        at-child : (records : List (List ℕ)) → walk_of reach x records seen ≡ walked s.tail.n reach.nodes (is_under s.tail.n records reach.limit) seen
            (all_ending s.tail.n (c ∷ s.tail.list))
        at-child records = ap (λ t. walked t.n reach.nodes (is_under t.n records reach.limit) seen (all_ending t.n t.list)) tail

        pub going-goes : (more : ℕ) (entries' : List (Assertion × ℕ)) →
            ((records : List (List ℕ)) → IsOf bag records → IsWalk reach.last (Ok (Counted more)) (walk_of reach x records seen)) →
            HasGathered bag reach x entries entries' → IsGoing bag reach s count before (c + 1) more entries'
        going-goes more entries' told put = record {
          walk = λ records h.
              sym (rest-goes s.tail.n reach.nodes (is_under s.tail.n records reach.limit) seen more s.tail.list c below out (sym (at-child records)
              ∙ told records h)) ∙ going.walk records h;
          claims = λ records h.
              let n = s.tail.n in
              let here : entries' ≡ gathered ghosts.cmp (score_of s.tail.n records) entries
              (kept_ends reach.keeps s.tail.n records reach.limit (all_ending s.tail.n (c ∷ s.tail.list))) =
              put records h ∙ ap (λ t. gathered ghosts.cmp (score_of t.n records) entries (kept_ends reach.keeps t.n records reach.limit (all_ending t.n t.list))) tail in
              ap (λ es. gathered ghosts.cmp (score_of n records) es (kept_ends reach.keeps n records reach.limit (below_from n s.tail.list (c + 1)))) here
              ∙ sym (kept-append n records reach.limit ghosts.cmp (score_of n records) entries reach.keeps (all_ending n (c ∷ s.tail.list))
              (below_from n s.tail.list (c + 1)))
              ∙ ap (λ xs. gathered ghosts.cmp (score_of n records) entries (kept_ends reach.keeps n records reach.limit xs)) (sym (below_from-goes n s.tail.list c below out))
              ∙ going.claims records h;
        }

        pub going-finds : (order : List ℕ) → ((records : List (List ℕ)) → IsOf bag records →
            IsWalk reach.last (Ok (Found order)) (walk_of reach x records seen)) →
            (records : List (List ℕ)) → IsOf bag records → IsWalk reach.last (Ok (Found order)) (walk_of reach s records count)
        going-finds order told records h =
            sym (going.walk records h) ∙ rest-stops s.tail.n reach.nodes (is_under s.tail.n records reach.limit) seen (stopped.Found order) s.tail.list c
            below out (sym (at-child records) ∙ told records h)

        pub going-fails : (fault : CertFault) → ((records : List (List ℕ)) → IsOf bag records → IsWalk reach.last (Err fault) (walk_of reach x records seen)) →
            (records : List (List ℕ)) → IsOf bag records → IsWalk reach.last (Err fault) (walk_of reach s records count)
        going-fails (Spent d) told records h = (
          (told records h).0,
          sym (going.walk records h) ∙ rest-stops s.tail.n reach.nodes (is_under s.tail.n records reach.limit) seen stopped.Spent s.tail.list c below out
              (sym (at-child records) ∙ (told records h).1),
        )
        going-fails Memory told records h = tt
