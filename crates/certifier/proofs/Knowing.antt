-- What is known about sets, as walks continue.
use Rattle.std.proofs.Common.{◌≡◌, ℕ, ◌+◌, ◌<◌, ◌==◌, Bool, true, false, inl, inr, List, [], ◌∷◌, map, count_by, if◌then◌else◌, Some, None, Contains, refl, sym, ap, subst, eq-eqb, ne_eqb, ◌∙◌}
use Rattle.std.proofs.lemmas.Bool.{cases_eq}
use Rattle.irv_base.proofs.Members.{Member, member-map, from_map, member-filter, from_filter, contains-from_member, member-from_contains}
use Rattle.assertions.specs.declared.assertion.Assertion.{Assertion}
use Rattle.assertions.specs.Hardness.{low, refuter}
use Rattle.assertions.specs.Certificate.{is_end}
use Rattle.assertions.specs.Scores.{score_of}
use Rattle.assertions.proofs.Sorted.{none, sorted-get, sorted-from_pairs}
use Rattle.assertions.proofs.FixedOrders.{Before}
use Rattle.set_tallies.specs.Bags.{Kept}
use Rattle.suffix_walk.specs.Kept.{all_ending}
use Rattle.suffix_walk.proofs.Counts.{count-cons}
use Rattle.certifier.specs.Counts.{count_of}
use Rattle.certifier.specs.Gathered.{gathered}
use Rattle.certifier.specs.Walks.{is_under, ends_in}
use Rattle.certifier.specs.Known.{IsOfSet, IsThrough, IsKnown, HasKnown}
use Rattle.certifier.specs.declared.gather.Known.{Known}
use Rattle.certifier.specs.declared.gather.Task.{Task}
use Rattle.certifier.specs.declared.part.Part.{Part}
use Rattle.certifier.specs.declared.counts.Counts.{Counts}
use Rattle.certifier.proofs.Agreement.{order, marked, keys_of, keys-sorted, keys-keep, keys-member, keys-stay, gathered-marked, marked-one}
use Rattle.certifier.proofs.Alike.{Sight, end_refuter, sight, same-sights}

module _ (n : ℕ) (records : List (List ℕ)) (limit : ℕ) where
  -- ---- what holds for one suffix of a set holds for each
  count-sights : (xs : List (List ℕ)) → count_by (is_under n records limit) xs ≡ count_by (λ (x : Sight). x.under) (map (sight n records limit) xs)
  count-sights [] = refl
  count-sights (x ∷ xs) =
      count-cons (is_under n records limit) x xs
      ∙ ap (λ k. (if is_under n records limit x then 1 else 0) + k) (count-sights xs)
      ∙ sym (count-cons (λ (z : Sight). z.under) (sight n records limit x) (map (sight n records limit) xs))

  from_end_refuter : (x : List ℕ) (a : Assertion) → end_refuter n records limit x ≡ Some a →
      (is_end (low n records) limit x ≡ true) × (refuter n records x ≡ Some a)
  from_end_refuter x a e = go (is_end (low n records) limit x) refl e where
    go : (b : Bool) → is_end (low n records) limit x ≡ b → (if b then refuter n records x else None) ≡ Some a →
        (is_end (low n records) limit x ≡ true) × (refuter n records x ≡ Some a)
    go true known e = (known, e)
    go false known e = cc

  module _ (keeps : Bool) where
    pub through-same : (keys : List Assertion) (count set : ℕ) (s t : List ℕ) → IsOfSet n records limit set s → IsOfSet n records limit set t →
        IsThrough n records limit keeps keys count s → IsThrough n records limit keeps keys count t
    through-same keys count set s t of of' h = record {
      count_is = count-sights (all_ending n t) ∙ ap (count_by (λ (x : Sight). x.under)) (sym same) ∙ sym (count-sights (all_ending n s)) ∙ h.count_is;
      parts = λ x m under.
          let (y, inside, e) = matching x (member-from_contains x (all_ending n t) m) in
          subst (λ k. k < n) (ap (λ z. z.long) e) (h.parts y (contains-from_member inside) (ap (λ z. z.under) e ∙ under));
      refuters = λ on x a m r.
          let (inside, end) = from_filter (is_end (low n records) limit) (all_ending n t) (member-from_contains x (ends_in n records limit (all_ending n t)) m) in
          let (y, k, e) = matching x inside in
          let mine : end_refuter n records limit x ≡ Some a = rw end r in
          let (end', r') = from_end_refuter y a (ap (λ z. z.refuter) e ∙ mine) in
          h.refuters on y a (contains-from_member (member-filter (is_end (low n records) limit) (all_ending n s) k end')) r';
    }
      where
        same : map (sight n records limit) (all_ending n s) ≡ map (sight n records limit) (all_ending n t)
        same = same-sights n records limit set s t of of'

        matching : (x : List ℕ) → Member x (all_ending n t) → (y : List ℕ) × Member y (all_ending n s) × (sight n records limit y ≡ sight n records limit x)
        matching x m =
            from_map (sight n records limit) (sight n records limit x) (all_ending n s)
            (subst (Member (sight n records limit x)) (sym same) (member-map (sight n records limit) m))

    -- ---- nothing is known yet
    pub known-none : (counts : Counts) → ((set : ℕ) → count_of counts set ≡ None) → IsKnown n records limit keeps counts []
    known-none counts empty = record {
      keys = [];
      marked = refl;
      rising = sorted-get Before [] none;
      through = λ set count s k of. let never : None ≡ Some count = sym (empty set) ∙ k in cc;
    }

    -- ---- refuters are put in
    module _ (counts : Counts) (entries : List (Assertion × ℕ)) (h : IsKnown n records limit keeps counts entries) (xs : List (List ℕ)) where
      gathered-keys : gathered order (score_of n records) entries xs ≡ map (marked n records) (keys_of (refuter n records) h.keys xs)
      gathered-keys = ap (λ es. gathered order (score_of n records) es xs) h.marked ∙ gathered-marked n records h.keys xs

      pub known-gathers : (next : List (Assertion × ℕ)) → next ≡ gathered order (score_of n records) entries xs → IsKnown n records limit keeps counts next
      known-gathers next e = record {
        keys = keys_of (refuter n records) h.keys xs;
        marked = e ∙ gathered-keys;
        rising = sorted-get Before (keys_of (refuter n records) h.keys xs)
            (keys-sorted (refuter n records) h.keys xs (sorted-from_pairs Before h.keys h.rising));
        through = λ set count s k of.
            let g = h.through set count s k of in
            record {
              count_is = g.count_is;
              parts = g.parts;
              refuters = λ on x a m r.
                  contains-from_member (keys-keep (refuter n records) h.keys xs a (member-from_contains a h.keys (g.refuters on x a m r)));
            };
      }

      -- all of them are there
      pub known-stays : ((x : List ℕ) (a : Assertion) → Member x xs → refuter n records x ≡ Some a → Contains h.keys a) →
          entries ≡ gathered order (score_of n records) entries xs
      known-stays there =
          h.marked
          ∙ ap (map (marked n records))
          (sym (keys-stay (refuter n records) h.keys xs (sorted-from_pairs Before h.keys h.rising)
          (λ x a m r. member-from_contains a h.keys (there x a m r))))
          ∙ sym gathered-keys

      -- they are all there then
      pub keys-there : (next : List (Assertion × ℕ)) → next ≡ gathered order (score_of n records) entries xs → (keys : List Assertion) →
          next ≡ map (marked n records) keys → (x : List ℕ) (a : Assertion) → Member x xs → refuter n records x ≡ Some a → Contains keys a
      keys-there next e keys is x a m r =
          contains-from_member
          (subst (Member a) (sym (marked-one n records keys (keys_of (refuter n records) h.keys xs) (sym is ∙ e ∙ gathered-keys)))
          (keys-member (refuter n records) h.keys xs x a m r))

    -- ---- a set that was gone through is noted
    pub known-notes : (counts next : Counts) (entries : List (Assertion × ℕ)) (set count : ℕ) (s : List ℕ) →
        (h : IsKnown n records limit keeps counts entries) →
        ((other : ℕ) → count_of next other ≡ (if set == other then Some count else count_of counts other)) → IsOfSet n records limit set s →
        IsThrough n records limit keeps h.keys count s → IsKnown n records limit keeps next entries
    known-notes counts next entries set count s h noted of through = record {
      keys = h.keys;
      marked = h.marked;
      rising = h.rising;
      through = λ other k t known of'.
          elim (cases_eq set other) [
            | inl e ↦
                let yes : (if set == other then Some count else count_of counts other) ≡ Some count = rw (eq-eqb set other e) refl in
                let is : Some count ≡ Some k = sym yes ∙ sym (noted other) ∙ known in
                let same : count ≡ k = cc in
                subst (λ z. IsThrough n records limit keeps h.keys z t) same
                (through-same h.keys count set s t of (subst (λ z. IsOfSet n records limit z t) (sym e) of') through)
            | inr ne ↦
                let no : (if set == other then Some count else count_of counts other) ≡ count_of counts other = rw (ne_eqb set other ne) refl in
                let is : count_of counts other ≡ Some k = sym no ∙ sym (noted other) ∙ known in
                h.through other k t is of'
          ];
    }

-- a worker begins
pub known-starts : (bag : Kept) (task : Task) (part : Part) (known : Known) → part.claims ≡ [] → ((set : ℕ) → count_of known.covers set ≡ None) →
    ((set : ℕ) → count_of known.orders set ≡ None) → HasKnown bag task part known
known-starts bag task part known empty covers orders = record {
  covers = λ on records h. subst (IsKnown bag.n records task.best true known.covers) (sym empty) (known-none bag.n records task.best true known.covers covers);
  orders = λ on records h. known-none bag.n records (task.best + 1) false known.orders orders;
}
