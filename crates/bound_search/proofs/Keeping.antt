-- The invariant of a front, as suffixes are expanded, orders are taken, and bounds are lowered.
use Rattle.std.proofs.Common.{◌≡◌, ◌⊎◌, inl, inr, ℕ, ◌+◌, ◌<◌, ◌≤◌, Bool, true, false, ◌==◌, List, [], ◌∷◌, ◌++◌, map, length, count_by, All, Contains, Option, Some, None, IfSome, get_or, slice_get, min, refl, sym, ap, subst, arith, le_trans, length-append, eq-eqb, ◌∙◌}
use Rattle.std.specs.BinaryHeap.{IsUpperBound}
use Rattle.std.specs.List.Sorted.{IsPermutation}
use Rattle.std.proofs.lemmas.Bool.{eqb-false, cases_lt}
use Rattle.std.proofs.lemmas.List.Sorted.{All-permutation, Contains-permutation, IsPermutation-sym, length_permutation, sum_by_popped, sum_by-IsPermutation}
use Rattle.std.proofs.lemmas.List.Sums.{sum_by-append, count_by-le-length}
use Rattle.std.proofs.lemmas.List.Elements.{All-cons, All-nil, All-tail, All-weaker, All-append, All-contains, Contains-append_left, Contains-append_right, Contains-append_cases}
use Rattle.irv_base.specs.Orders.{EndsIn}
use Rattle.irv_base.proofs.Members.{contains-from_member, member-from_contains, member-map}
use Rattle.assertions.specs.Suffixes.{is_suffix, comes_before}
use Rattle.assertions.specs.Hardness.{low}
use Rattle.set_tallies.specs.Bags.{Kept, IsOf}
use Rattle.suffix_tree.specs.Suffixes.{Suffix, children}
use Rattle.suffix_tree.specs.Scores.{IsScoredOver, first_is_greatest}
use Rattle.suffix_tree.proofs.Compared.{not_sooner}
use Rattle.suffix_tree.specs.declared.scored.Scored.{Scored}
use Rattle.suffix_tree.proofs.Tails.{suffix_more, suffix-short}
use Rattle.irv_base.specs.Names.{is_same}
use Rattle.bound_search.specs.Places.{EndsInOne, ends_in}
use Rattle.bound_search.specs.Fronts.{Frontier, IsPart, IsOpen, IsAfter, IsFirstOf, IsFront, IsFound}
use Rattle.bound_search.specs.Sifted.{IsPlaced, IsFoundWithin, IsOpenChild, IsFoundChild, IsPut, IsNewlyFound, IsExpanded, IsFirst, least_after}
use Rattle.bound_search.proofs.Endings.{bit, grows, low_in, whole_ends, whole_is_order, ends_more, child-of, child-at, places_of_children}
use Rattle.bound_search.proofs.Sifting.{one_contained, only_contained, all_from_contained}

-- ---- an open suffix
pub open_low : (bag : Kept) (piece : List ℕ) (o : Scored) → IsOpen bag piece o → (records : List (List ℕ)) → IsOf bag records →
    o.low ≡ low bag.n records o.tail.list
open_low bag piece o h records of = (h.scored records of).low_is ∙ ap (λ n. low n records o.tail.list) h.contest

pub open_found : (bag : Kept) (piece : List ℕ) (o : Scored) → IsOpen bag piece o → length o.tail.list ≡ bag.n → IsFound bag piece o.tail.list o.low
open_found bag piece o h long = record {
  whole = whole_is_order bag.n o.tail.list h.proper long;
  inside = h.inside;
  hardness = λ records of. sym (open_low bag piece o h records of);
}

pub ends_in_itself : (open_ones : List Scored) (o : Scored) → Contains open_ones o → EndsInOne open_ones o.tail.list
ends_in_itself open_ones o h = (o, h, ([], refl))

-- ---- one suffix is removed from a front
module _ (bag : Kept) (done : List (List ℕ)) (f : Frontier) (t : Scored) (rest : List Scored) (k : IsAfter bag done f)
    (taken : IsPermutation f.suffixes (t ∷ rest)) where
  top_contained : Contains f.suffixes t
  top_contained = Contains-permutation (t ∷ rest) f.suffixes t (IsPermutation-sym f.suffixes (t ∷ rest) taken)
      (Contains-append_left (t ∷ []) rest t (one_contained t))

  pub top_open : IsOpen bag f.piece.list t
  top_open = All-contains (IsOpen bag f.piece.list) f.suffixes t k.each top_contained

  -- an open suffix is in the rest, or is the one removed
  open_cases : (o : Scored) → Contains f.suffixes o → Contains rest o ⊎ (t ≡ o)
  open_cases o h =
      elim (Contains-append_cases (t ∷ []) rest o (Contains-permutation f.suffixes (t ∷ rest) o taken h)) [
        | inl a ↦ inr (only_contained o t a)
        | inr b ↦ inl b
      ]

  rest_all : (P : Scored → Type 0) → All P f.suffixes → All P rest
  rest_all P h = All-tail P t rest (All-permutation P f.suffixes (t ∷ rest) taken h)

  rest_open : (o : Scored) → Contains rest o → Contains f.suffixes o
  rest_open o h = Contains-permutation (t ∷ rest) f.suffixes o (IsPermutation-sym f.suffixes (t ∷ rest) taken) (Contains-append_right (t ∷ []) rest o h)

  rest_from_open : All (λ o. EndsInOne f.suffixes o.tail.list) rest
  rest_from_open = all_from_contained (λ o. EndsInOne f.suffixes o.tail.list) rest (λ o h. ends_in_itself f.suffixes o (rest_open o h))

  -- ---- it is expanded
  module _ (short : length t.tail.list < bag.n) (fresh new cs : List Scored) (found : Option Scored) (joined : IsPermutation (rest ++ fresh) new)
      (are : map (λ s. s.tail) cs ≡ children t.tail) (scored : All (IsScoredOver bag) cs) (each : (x : Scored) → Contains cs x → IsPlaced f.bound fresh found x)
      (stays : All (IsOpenChild cs f.bound) fresh) (few : (p : Scored → Bool) → count_by p fresh ≤ count_by p cs) where
    new_once : (s : List ℕ) → count_by (is_same s) (done ++ t.tail.list ∷ []) + count_by (λ o. ends_in s o.tail.list) new ≤ 1
    new_once s =
        let done_more : count_by (is_same s) (done ++ t.tail.list ∷ []) ≡ count_by (is_same s) done + count_by (is_same s) (t.tail.list ∷ []) =
        sum_by-append (λ d. bit (is_same s d)) done (t.tail.list ∷ []) in
        let one : count_by (is_same s) (t.tail.list ∷ []) ≡ bit (is_same s t.tail.list) = omega arith in
        let gone : count_by (λ o. ends_in s o.tail.list) rest + bit (ends_in s t.tail.list) ≡ count_by (λ o. ends_in s o.tail.list) f.suffixes =
        sum_by_popped (λ o. bit (ends_in s o.tail.list)) t f.suffixes rest taken in
        let all : count_by (λ o. ends_in s o.tail.list) new ≡ count_by (λ o. ends_in s o.tail.list) (rest ++ fresh) =
        sum_by-IsPermutation (λ o. bit (ends_in s o.tail.list)) (rest ++ fresh) new joined in
        let split : count_by (λ o. ends_in s o.tail.list) (rest ++ fresh) ≡ count_by (λ o. ends_in s o.tail.list) rest
        + count_by (λ o. ends_in s o.tail.list) fresh = sum_by-append (λ o. bit (ends_in s o.tail.list)) rest fresh in
        let place = places_of_children s t.tail cs are in
        omega (arith, done_more, one, gone, all, split, place, few (λ o. ends_in s o.tail.list), k.once s)

    child_open : (x : Scored) → Contains cs x → IsOpen bag f.piece.list x
    child_open x h =
        let (c, below, out, e) = child-of t.tail cs x are h in
        let list : x.tail.list ≡ c ∷ t.tail.list = ap (λ s. s.list) e in
        record {
          contest = ap (λ s. s.n) e ∙ top_open.contest;
          proper = ap (is_suffix bag.n) list ∙ suffix_more bag.n c t.tail.list (subst (λ n. c < n) top_open.contest below) out top_open.proper;
          inside = subst (λ y. EndsIn y f.piece.list) (sym list) (ends_more c t.tail.list f.piece.list top_open.inside);
          scored = All-contains (IsScoredOver bag) cs x scored h;
        }

    child_from : (x : Scored) → Contains cs x → EndsInOne f.suffixes x.tail.list
    child_from x h =
        let (c, below, out, e) = child-of t.tail cs x are h in
        (t, top_contained, (c ∷ [], ap (λ s. s.list) e))

    fresh_all : (P : Scored → Type 0) → ((x : Scored) → Contains cs x → P x) → All P fresh
    fresh_all P h = All-weaker (IsOpenChild cs f.bound) P (λ x o. h x o.one) fresh stays

    all_new : (P : Scored → Type 0) → All P rest → All P fresh → All P new
    all_new P a b = All-permutation P (rest ++ fresh) new joined (All-append P rest fresh a b)

    new_open : All (IsOpen bag f.piece.list) new
    new_open = all_new (IsOpen bag f.piece.list) (rest_all (IsOpen bag f.piece.list) k.each) (fresh_all (IsOpen bag f.piece.list) child_open)

    pub new_from_open : All (λ o. EndsInOne f.suffixes o.tail.list) new
    new_from_open = all_new (λ o. EndsInOne f.suffixes o.tail.list) rest_from_open (fresh_all (λ o. EndsInOne f.suffixes o.tail.list) child_from)

    -- no whole order is open
    new_parts : All (λ o. length o.tail.list ≡ bag.n → ⊥) new
    new_parts =
        all_new (λ o. length o.tail.list ≡ bag.n → ⊥)
        (all_from_contained (λ o. length o.tail.list ≡ bag.n → ⊥) rest (λ o h whole.
        let alone : f.suffixes ≡ o ∷ [] = k.alone o (rest_open o h) whole in
        let same : o ≡ t = only_contained t o (subst (λ x. Contains x t) alone top_contained) in
        omega (arith, short, whole, ap (λ (x : Scored). length x.tail.list) same)))
        (All-weaker (IsOpenChild cs f.bound) (λ o. length o.tail.list ≡ bag.n → ⊥) (λ x o whole. o.part (whole ∙ sym (child_open x o.one).contest)) fresh stays)

    in_new : (x : Scored) → Contains rest x ⊎ Contains fresh x → Contains new x
    in_new x h = Contains-permutation (rest ++ fresh) new x joined
        (elim h [ inl a ↦ Contains-append_left rest fresh x a | inr b ↦ Contains-append_right rest fresh x b ])

    new_covers : (least : ℕ) → least ≤ f.least → ((m : ℕ) → IsFoundWithin found m → least ≤ m) → (records : List (List ℕ)) → IsOf bag records →
        (s : List ℕ) → is_suffix bag.n s ≡ true → EndsIn s f.piece.list → low bag.n records s < f.bound → low bag.n records s < least →
        Contains (done ++ t.tail.list ∷ []) s ⊎ EndsInOne new s
    new_covers least less within records of s h inside l m =
        elim (k.covers records of s h inside l (omega (arith, m, less))) [
          | inl d ↦ inl (Contains-append_left done (t.tail.list ∷ []) s d)
          | inr (o, there', ends) ↦ elim (open_cases o there') [
            | inl r ↦ inr (o, in_new o (inl r), ends)
            | inr same ↦ in_top (subst (λ (x : Scored). EndsIn s x.tail.list) (sym same) ends)
          ]
        ]
      where
        placed : (x : Scored) → Contains cs x → EndsIn s x.tail.list → IsPlaced f.bound fresh found x → Contains (done ++ t.tail.list ∷ []) s ⊎ EndsInOne new s
        placed x one ends p =
            let le : low bag.n records x.tail.list ≤ low bag.n records s = low_in bag.n records s x.tail.list h ends in
            let e : x.low ≡ low bag.n records x.tail.list = open_low bag f.piece.list x (child_open x one) records of in
            elim p [
              | inl pruned ↦ absurd (omega (arith, le, e, pruned, l))
              | inr q ↦ elim q [
                | inl stay ↦ inr (x, in_new x (inr stay), ends)
                | inr better ↦ let g = within x.low better in absurd (omega (arith, le, e, g, m))
              ]
            ]

        in_top : EndsIn s t.tail.list → Contains (done ++ t.tail.list ∷ []) s ⊎ EndsInOne new s
        in_top ends =
            elim (grows bag.n s t.tail.list h ends) [
              | inl same ↦ inl (Contains-append_right done (t.tail.list ∷ []) s (subst (Contains (t.tail.list ∷ [])) (sym same) (one_contained t.tail.list)))
              | inr (c, below, out, ends') ↦
                  let (x, one, e) = child-at c t.tail cs are (subst (λ n. c < n) (sym top_open.contest) below) out in
                  placed x one (subst (EndsIn s) (sym (ap (λ (s : Suffix). s.list) e)) ends') (each x one)
            ]

    pub after_put : (f' : Frontier) → f'.suffixes ≡ new → f'.piece ≡ f.piece → f'.bound ≡ f.bound → f'.expanded ≡ f.expanded + 1 →
        f'.least ≤ f.least → ((m : ℕ) → IsFoundWithin found m → f'.least ≤ m) → IsAfter bag (done ++ t.tail.list ∷ []) f'
    after_put f' items piece bound expanded less within =
        let list : f'.piece.list ≡ f.piece.list = ap (λ (s : Suffix). s.list) piece in
        record {
          contest = ap (λ (s : Suffix). s.n) piece ∙ k.contest;
          count = omega (arith, length-append done (t.tail.list ∷ []), k.count, expanded);
          parts = subst (λ p. All (IsPart bag.n p) (done ++ t.tail.list ∷ [])) (sym list)
              (All-append (IsPart bag.n f.piece.list) done (t.tail.list ∷ []) k.parts
              (All-cons (IsPart bag.n f.piece.list) t.tail.list [] (record { proper = top_open.proper; inside = top_open.inside; short = short })
              (All-nil (IsPart bag.n f.piece.list))));
          each = subst (λ p. All (IsOpen bag p) f'.suffixes) (sym list) (subst (All (IsOpen bag f.piece.list)) (sym items) new_open);
          alone = λ o h whole. absurd (All-contains (λ o. length o.tail.list ≡ bag.n → ⊥) new o new_parts (subst (λ x. Contains x o) items h) whole);
          covers = λ records of s h inside l m.
              subst (λ x. Contains (done ++ t.tail.list ∷ []) s ⊎ EndsInOne x s) (sym items)
              (new_covers f'.least less within records of s h (subst (EndsIn s) list inside) (omega (arith, l, bound)) m);
          once = λ s. subst (λ x. count_by (is_same s) (done ++ t.tail.list ∷ []) + count_by (λ o. ends_in s o.tail.list) x ≤ 1) (sym items) (new_once s);
        }

    pub put_found : (o : Scored) → IsFoundChild cs f.bound o → ((length o.tail.list == o.tail.n) ≡ true) × IsFound bag f.piece.list o.tail.list o.low ×
        EndsInOne f.suffixes o.tail.list × (o.low < f.bound)
    put_found o h =
        let s = child_open o h.one in
        (eq-eqb (length o.tail.list) o.tail.n h.whole, open_found bag f.piece.list o s (h.whole ∙ s.contest), child_from o h.one, h.below)

  -- ---- or it is a whole order
  no_more : length t.tail.list ≡ bag.n → (o : Scored) → Contains rest o → ⊥
  no_more whole o h =
      let alone : f.suffixes ≡ t ∷ [] = k.alone t top_contained whole in
      let same : length (t ∷ rest) ≡ length f.suffixes = length_permutation f.suffixes (t ∷ rest) taken in
      let some : 0 < length rest = le_trans (omega arith) h.1 in
      omega (arith, same, ap length alone, some)

  pub after_taken : (f' : Frontier) → length t.tail.list ≡ bag.n → f'.suffixes ≡ rest → f'.piece ≡ f.piece → f'.bound ≡ f.bound → f'.expanded ≡ f.expanded →
      f'.least ≡ min f.least t.low → IsAfter bag done f'
  after_taken f' whole items piece bound expanded least =
      let list : f'.piece.list ≡ f.piece.list = ap (λ (s : Suffix). s.list) piece in
      record {
        contest = ap (λ (s : Suffix). s.n) piece ∙ k.contest;
        count = k.count ∙ sym expanded;
        parts = subst (λ p. All (IsPart bag.n p) done) (sym list) k.parts;
        each = subst (λ p. All (IsOpen bag p) f'.suffixes) (sym list)
            (subst (All (IsOpen bag f.piece.list)) (sym items) (rest_all (IsOpen bag f.piece.list) k.each));
        alone = λ o h long. absurd (no_more whole o (subst (λ x. Contains x o) items h));
        covers = λ records of s h inside l m. elim (k.covers records of s h (subst (EndsIn s) list inside) (omega (arith, l, bound))
            (omega (arith, m, least))) [
              | inl d ↦ inl d
              | inr (o, there', ends) ↦ elim (open_cases o there') [
                | inl r ↦ absurd (no_more whole o r)
                | inr same ↦
                    let e : s ≡ t.tail.list = whole_ends bag.n s t.tail.list h (subst (λ (x : Scored). EndsIn s x.tail.list) (sym same) ends) whole in
                    absurd (omega (arith, m, least, open_low bag f.piece.list t top_open records of, ap (low bag.n records) e))
              ]
            ];
        once = λ s.
            let gone : count_by (λ o. ends_in s o.tail.list) rest + bit (ends_in s t.tail.list) ≡ count_by (λ o. ends_in s o.tail.list) f.suffixes =
            sum_by_popped (λ o. bit (ends_in s o.tail.list)) t f.suffixes rest taken in
            omega (arith, gone, k.once s, ap (count_by (λ (o : Scored). ends_in s o.tail.list)) items);
      }

  pub taken_from_open : (f' : Frontier) → f'.suffixes ≡ rest → All (λ o. EndsInOne f.suffixes o.tail.list) f'.suffixes
  taken_from_open f' items = subst (All (λ o. EndsInOne f.suffixes o.tail.list)) (sym items) rest_from_open

-- ---- a lower bound
pub after_lower : (bag : Kept) (done : List (List ℕ)) (f : Frontier) (bound : ℕ) → IsAfter bag done f → bound ≤ f.bound →
    IsAfter bag done (record f { bound = bound })
after_lower bag done f bound k le = record {
  contest = k.contest;
  count = k.count;
  parts = k.parts;
  each = k.each;
  alone = k.alone;
  covers = λ records of s h inside l m. k.covers records of s h inside (omega (arith, l, le)) m;
  once = k.once;
}

-- ---- the start
pub after_start : (bag : Kept) (f : Frontier) (start : Scored) → IsOpen bag start.tail.list start → f.piece ≡ start.tail → f.suffixes ≡ start ∷ [] →
    f.expanded ≡ 0 → IsAfter bag [] f
after_start bag f start scored piece items none =
    let list : f.piece.list ≡ start.tail.list = ap (λ (s : Suffix). s.list) piece in
    record {
      contest = ap (λ (s : Suffix). s.n) piece ∙ scored.contest;
      count = sym none;
      parts = All-nil (IsPart bag.n f.piece.list);
      each = subst (All (IsOpen bag f.piece.list)) (sym items)
          (All-cons (IsOpen bag f.piece.list) start [] (subst (λ p. IsOpen bag p start) (sym list) scored) (All-nil (IsOpen bag f.piece.list)));
      alone = λ o h long. items ∙ ap (λ x. x ∷ []) (only_contained o start (subst (λ x. Contains x o) items h));
      covers = λ records of s h inside l m. inr (start, subst (λ x. Contains x start) (sym items) (one_contained start), subst (EndsIn s) list inside);
      once = λ s. omega (arith, count_by-le-length (λ (o : Scored). ends_in s o.tail.list) f.suffixes, ap length items);
    }

pub front_start : (bag : Kept) (f : Frontier) (start : Scored) → start.tail.n ≡ bag.n → is_suffix start.tail.n start.tail.list ≡ true →
    IsScoredOver bag start → f.piece ≡ start.tail → f.suffixes ≡ start ∷ [] → f.expanded ≡ 0 →
    IsFront bag f
front_start bag f start number proper scored piece items none =
    let opened : IsOpen bag start.tail.list start = record {
      contest = number;
      proper = subst (λ n. is_suffix n start.tail.list ≡ true) number proper;
      inside = ([], refl);
      scored = scored;
    } in
    ([], after_start bag f start opened piece items none)

-- ---- a put, as the code gives it
least_after-le : (m : ℕ) (found : Option Scored) → least_after m found ≤ m
least_after-le m None = omega arith
least_after-le m (Some o) = omega arith

least_after-within : (m : ℕ) (found : Option Scored) (x : ℕ) → IsFoundWithin found x → least_after m found ≤ x
least_after-within m None x h = absurd h
least_after-within m (Some o) x h = omega arith

pub first_is : (whole : Bool) (bound : ℕ) (o : Option Scored) (t : Scored) → o ≡ Some t → IsFirst whole bound o →
    (t.low < bound) × ((length t.tail.list == t.tail.n) ≡ whole)
first_is whole bound None t e h = absurd h
first_is whole bound (Some u) t e h = let same : u ≡ t = cc in subst (λ (x : Scored). (x.low < bound) × ((length x.tail.list == x.tail.n) ≡ whole)) same h

pub first_contained : (xs : List Scored) (t : Scored) → slice_get xs 0 ≡ Some t → Contains xs t
first_contained [] t e = cc
first_contained (x ∷ xs) t e = (0, omega arith, (let same : x ≡ t = cc in same))

some_same : (o : Option Scored) (a b : Scored) → o ≡ Some a → o ≡ Some b → a ≡ b
some_same o a b e e' = cc

-- the first element of a heap is the first suffix
pub first_of_heap : (items : List Scored) (x : Scored) → 0 < length items → x ≡ get_or items 0 x → IsUpperBound first_is_greatest x items → IsFirstOf x items
first_of_heap items x some e bound = record { inside = (0, some, sym e); least = go items bound } where
  go : (ys : List Scored) → IsUpperBound first_is_greatest x ys →
      All (λ o. (x.low < o.low) ⊎ ((x.low ≡ o.low) × (comes_before o.tail.list x.tail.list ≡ false))) ys
  go [] h = All-nil (λ (o : Scored). (x.low < o.low) ⊎ ((x.low ≡ o.low) × (comes_before o.tail.list x.tail.list ≡ false)))
  go (y ∷ ys) (h, rest) = All-cons (λ (o : Scored). (x.low < o.low) ⊎ ((x.low ≡ o.low) × (comes_before o.tail.list x.tail.list ≡ false))) y ys
      (not_sooner x y h) (go ys rest)

module _ (bag : Kept) (old new : Frontier) (t : Scored) (cs : List Scored) (found : Option Scored) (first : slice_get old.suffixes 0 ≡ Some t)
    (least : IsFirstOf t old.suffixes) (look : IsFirst false old.bound (slice_get old.suffixes 0))
    (are : map (λ s. s.tail) cs ≡ children t.tail) (scored : All (IsScoredOver bag) cs) (put : IsPut cs old new found) where
  the_top : put.replaced.top ≡ t
  the_top = some_same (slice_get old.suffixes 0) put.replaced.top t put.replaced.first first

  top_below : (put.replaced.top.low < old.bound) × ((length put.replaced.top.tail.list == put.replaced.top.tail.n) ≡ false)
  top_below = first_is false old.bound (slice_get old.suffixes 0) put.replaced.top put.replaced.first look

  top_children : map (λ s. s.tail) cs ≡ children put.replaced.top.tail
  top_children = subst (λ (x : Scored). map (λ s. s.tail) cs ≡ children x.tail) (sym the_top) are

  top_short : (done : List (List ℕ)) → IsAfter bag done old → length put.replaced.top.tail.list < bag.n
  top_short done k =
      let o = top_open bag done old put.replaced.top put.replaced.rest k put.replaced.taken in
      let le : length put.replaced.top.tail.list ≤ bag.n = suffix-short bag.n put.replaced.top.tail.list o.proper in
      let ne = eqb-false (length put.replaced.top.tail.list) put.replaced.top.tail.n top_below.1 in
      elim (cases_lt (length put.replaced.top.tail.list) bag.n) [ inl l ↦ l | inr ge ↦ absurd (ne (omega (arith, le, ge, o.contest))) ]

  newly : (done : List (List ℕ)) → IsAfter bag done old → (o : Option Scored) → found ≡ o → IsNewlyFound bag old new o
  newly done k None e = put.least ∙ ap (least_after old.least) e
  newly done k (Some o) e =
      let one : IsFoundChild cs old.bound o = subst (λ x. IfSome x (IsFoundChild cs old.bound)) e put.found_one in
      let (a, b, c, d) = put_found bag done old put.replaced.top put.replaced.rest k put.replaced.taken (top_short done k) put.fresh new.suffixes cs found
      put.replaced.joined top_children scored put.placed put.stays put.counts o one in
      (a, b, c, d, put.least ∙ ap (least_after old.least) e)

  left_open : All (λ o. Contains put.replaced.rest o ⊎ Contains (children put.replaced.top.tail) o.tail) new.suffixes
  left_open =
      let P : Scored → Type 0 = λ o. Contains put.replaced.rest o ⊎ Contains (children put.replaced.top.tail) o.tail in
      All-permutation P (put.replaced.rest ++ put.fresh) new.suffixes put.replaced.joined
      (All-append P put.replaced.rest put.fresh (all_from_contained P put.replaced.rest (λ o h. inl h))
      (All-weaker (IsOpenChild cs old.bound) P (λ o c. inr (is_child o c.one)) put.fresh put.stays))
    where
      is_child : (o : Scored) → Contains cs o → Contains (children put.replaced.top.tail) o.tail
      is_child o h = subst (λ xs. Contains xs o.tail) top_children (contains-from_member (member-map (λ (x : Scored). x.tail) (member-from_contains o cs h)))

  pub put_expands : (done : List (List ℕ)) → IsAfter bag done old → IsExpanded bag old new found
  put_expands done k = record {
    one = put.replaced.top;
    was_open = first_contained old.suffixes put.replaced.top put.replaced.first;
    below = top_below.0;
    first = subst (λ x. IsFirstOf x old.suffixes) (sym the_top) least;
    replaced = record { rest = put.replaced.rest; taken = put.replaced.taken; left = left_open };
    after = λ done' k'.
        after_put bag done' old put.replaced.top put.replaced.rest k' put.replaced.taken (top_short done' k') put.fresh new.suffixes cs found
        put.replaced.joined top_children scored put.placed put.stays put.counts
        new refl put.piece put.bound put.expanded (omega (arith, put.least, least_after-le old.least found))
        (λ m h. omega (arith, put.least, least_after-within old.least found m h));
    from_open = new_from_open bag done old put.replaced.top put.replaced.rest k put.replaced.taken (top_short done k) put.fresh new.suffixes cs found
        put.replaced.joined top_children scored put.placed put.stays put.counts;
    piece = put.piece;
    bound = put.bound;
    expanded = put.expanded;
    newly = newly done k found refl;
  }
