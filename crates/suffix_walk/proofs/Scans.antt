-- A scan of the alternative winners gives the answer that a search must give.
use Rattle.std.proofs.Common.{◌≡◌, ℕ, zero, suc, ◌+◌, ◌-◌, ◌<◌, ◌≤◌, Bool, true, false, cond, not, ◌&&◌, ◌==◌, nat_lt, inl, inr, List, [], ◌∷◌, ◌++◌, length, filter, flat_map, find, count_by, reverse, if◌then◌else◌, Option, Some, None, Result, Ok, Err, refl, sym, ap, subst, arith, lt-ltb, le-ltb, ne_eqb, eq-eqb, eqb-true, ◌∙◌}
use Rattle.std.specs.List.{range_with_len}
use Rattle.std.specs.Option.{option_or}
use Rattle.std.proofs.lemmas.List.Folds.{find-append}
use Rattle.std.proofs.lemmas.Bool.{both_ways, cases_Bool, and_right, not_from_true, not_from_false}
use Rattle.irv_base.specs.Candidates.{candidates, is_in, all_but}
use Rattle.assertions.specs.Suffixes.{orders_ending, suffixes_ending}
use Rattle.assertions.specs.Lists.{stands_before}
use Rattle.irv_base.proofs.Members.{Member, here, there, member_nil, member_cases, member-append_right, from_flat_map, from_find}
use Rattle.assertions.proofs.Firsts.{IsBefore}
use Rattle.assertions.proofs.Sorted.{Sorted, none, more, sorted-range, sorted-filter}
use Rattle.assertions.proofs.Enumerated.{suffixes_ending-sorted}
use Rattle.suffix_walk.specs.Kept.{all_ending}
use Rattle.suffix_walk.specs.Walks.{walked}
use Rattle.suffix_walk.specs.Search.{first_kept, is_passed, kept_count, or_spent, stopped_at, first_within}
use Rattle.suffix_walk.specs.declared.walk.Stop.{Stop}
use Rattle.suffix_walk.specs.declared.walk.Stop.TheVariants.{Found, Spent}
use Rattle.suffix_walk.proofs.Before.{before-not_self, before-not_after, pieces-across}
use Rattle.suffix_walk.proofs.Counts.{count-append, count-same, count-none, count-filter, until, until-none, until-some, is_whole, is_part, seen, Ran, ran}

-- ---- what `!=` answers
pub differs : (a b : ℕ) (r : Bool) → r ≡ not (a == b) → r ≡ true → a ≡ b → ⊥
differs a b r h t e = both_ways r (h ∙ not_from_true (a == b) (eq-eqb a b e)) t

pub agrees : (a b : ℕ) (r : Bool) → r ≡ not (a == b) → r ≡ false → a ≡ b
agrees a b r h f = elim (cases_Bool (a == b)) [ inl t ↦ eqb-true a b t | inr o ↦ absurd (both_ways r f (h ∙ not_from_false (a == b) o)) ]

-- ---- whole orders among the suffixes
find-flat_map : {X : Type 0} (p q : X → Bool) (f g : ℕ → List X) (cs : List ℕ) → ((c : ℕ) → find p (f c) ≡ find q (g c)) →
    find p (flat_map f cs) ≡ find q (flat_map g cs)
find-flat_map p q f g [] h = refl
find-flat_map p q f g (c ∷ cs) h =
    find-append p (f c) (flat_map f cs) ∙ ap (λ o. option_or o (find p (flat_map f cs))) (h c) ∙ ap (option_or (find q (g c))) (find-flat_map p q f g cs h)
    ∙ sym (find-append q (g c) (flat_map g cs))

find-skip : {X : Type 0} (q : X → Bool) (x : X) (xs : List X) → q x ≡ false → find q (x ∷ xs) ≡ find q xs
find-skip q x xs h = rw h refl

find-first : {X : Type 0} (q : X → Bool) (x : X) (xs : List X) → q x ≡ true → find q (x ∷ xs) ≡ Some x
find-first q x xs h = rw h refl

pub find-whole : (n : ℕ) (kept : List ℕ → Bool) (k : ℕ) (t : List ℕ) → k + length t ≡ n → find kept (orders_ending n k t)
    ≡ find (is_whole n kept) (suffixes_ending n k t)
find-whole n kept zero t long =
    let whole : nat_lt (length t) n ≡ false = le-ltb (length t) n (omega arith) in
    same (kept t) (nat_lt (length t) n) whole
  where
    same : (a b : Bool) → b ≡ false → cond a (Some t) None ≡ cond (a && not b) (Some t) None
    same true true h = cc
    same true false h = refl
    same false b h = refl
find-whole n kept (suc k) t long =
    let short : nat_lt (length t) n ≡ true = lt-ltb (length t) n (omega arith) in
    let skip : is_whole n kept t ≡ false = and_right (kept t) (not (nat_lt (length t) n)) (not_from_true (nat_lt (length t) n) short) in
    find-flat_map kept (is_whole n kept) (λ c. if is_in t c then [] else orders_ending n k (c ∷ t))
    (λ c. if is_in t c then [] else suffixes_ending n k (c ∷ t)) (candidates n)
    (λ c. elim (cases_Bool (is_in t c)) [ inl in' ↦ rw in' refl | inr out ↦ rw out (find-whole n kept k (c ∷ t) (omega arith)) ])
    ∙ sym (find-skip (is_whole n kept) t (flat_map (λ c. if is_in t c then [] else suffixes_ending n k (c ∷ t)) (candidates n)) skip)

-- ---- what is before the first of a sorted list
sorted-split : (s : List ℕ) (xs rest : List (List ℕ)) → Sorted IsBefore (xs ++ s ∷ rest) → ((x : List ℕ) → Member x xs → IsBefore x s) ×
    ((y : List ℕ) → Member y rest → IsBefore s y)
sorted-split s [] rest (more f r) = (λ x m. absurd (member_nil m), f)
sorted-split s (x ∷ xs) rest (more f r) =
    let (a, b) = sorted-split s xs rest r in
    (λ z m. elim (member_cases m) [ inl e ↦ subst (λ y. IsBefore y s) e (f s (member-append_right xs here)) | inr k ↦ a z k ], b)

module _ (n : ℕ) (kept : List ℕ → Bool) where
  abbrev counts : Option (List ℕ) → List ℕ → Bool
  counts order s = nat_lt (length s) n && (kept s && is_passed order s)

  counts-yes : (order : Option (List ℕ)) (s : List ℕ) → is_passed order s ≡ true → counts order s ≡ is_part n kept s
  counts-yes order s h = go (nat_lt (length s) n) (kept s) (is_passed order s) h where
    go : (a b d : Bool) → d ≡ true → (a && (b && d)) ≡ (a && b)
    go true true d h = h
    go true false d h = refl
    go false b d h = refl

  counts-no : (order : Option (List ℕ)) (s : List ℕ) → is_passed order s ≡ false → counts order s ≡ false
  counts-no order s h = and_right (nat_lt (length s) n) (kept s && is_passed order s) (and_right (kept s) (is_passed order s) h)

  abbrev piece : ℕ → List (List ℕ)
  piece c = suffixes_ending n (n - 1) (c ∷ [])

  kept_count-is : (order : Option (List ℕ)) (c : ℕ) → kept_count n kept order c ≡ count_by (counts order) (piece c)
  kept_count-is order c = count-filter (λ s. kept s && is_passed order s) (λ s. nat_lt (length s) n) (piece c)

  -- the piece that has the order
  count-here : (c : ℕ) (s : List ℕ) → find (is_whole n kept) (piece c) ≡ Some s → kept_count n kept (Some s) c ≡ seen n kept (piece c)
  count-here c s h =
      let (rest, e) = until-some (is_whole n kept) s (piece c) h in
      let (a, b) = sorted-split s (until (is_whole n kept) (piece c)) rest (subst (Sorted IsBefore) e (suffixes_ending-sorted n (n - 1) (c ∷ []))) in
      let before : count_by (counts (Some s)) (until (is_whole n kept) (piece c)) ≡ seen n kept (piece c) =
      count-same (counts (Some s)) (is_part n kept) (until (is_whole n kept) (piece c)) (λ x m. counts-yes (Some s) x (a x m)) in
      let later : count_by (counts (Some s)) (s ∷ rest) ≡ 0 =
      count-none (counts (Some s)) (s ∷ rest) (λ x m. elim (member_cases m) [
        | inl q ↦ counts-no (Some s) x (subst (λ y. stands_before (reverse y) (reverse s) ≡ false) q (before-not_self (reverse s)))
        | inr k ↦ counts-no (Some s) x (before-not_after (reverse s) (reverse x) (b x k))
      ]) in
      kept_count-is (Some s) c ∙ ap (count_by (counts (Some s))) e ∙ count-append (counts (Some s)) (until (is_whole n kept) (piece c)) (s ∷ rest) ∙ omega arith

  -- a piece before it, or if there is none
  count-earlier : (order : Option (List ℕ)) (c : ℕ) → find (is_whole n kept) (piece c) ≡ None → ((x : List ℕ) → Member x (piece c) → is_passed order x ≡ true) →
      kept_count n kept order c ≡ seen n kept (piece c)
  count-earlier order c h before =
      kept_count-is order c ∙ count-same (counts order) (is_part n kept) (piece c) (λ x m. counts-yes order x (before x m))
      ∙ sym (ap (count_by (is_part n kept)) (until-none (is_whole n kept) (piece c) h))

  -- a piece after it
  count-later : (s : List ℕ) (c : ℕ) → ((x : List ℕ) → Member x (piece c) → IsBefore s x) → kept_count n kept (Some s) c ≡ 0
  count-later s c h =
      kept_count-is (Some s) c ∙ count-none (counts (Some s)) (piece c) (λ x m. counts-no (Some s) x (before-not_after (reverse s) (reverse x) (h x m)))

  -- ---- the scan
  abbrev pub chosen : ℕ → Result ℕ Stop → Result (Option (List ℕ)) ℕ → Result (Option (List ℕ)) ℕ
  chosen c (Ok j) rest = rest
  chosen c (Err (Found s)) rest = Ok (Some s)
  chosen c (Err Spent) rest = Err c

module _ (n nodes : ℕ) (kept : List ℕ → Bool) where
  abbrev pub scan : List ℕ → Result (Option (List ℕ)) ℕ
  scan [] = Ok None
  scan (c ∷ cs) = chosen n kept c (walked n nodes kept 0 (all_ending n (c ∷ []))) (scan cs)

  abbrev over : Option (List ℕ) → ℕ → Bool
  over order c = nat_lt nodes (kept_count n kept order c)

  find-none_later : (s : List ℕ) (cs : List ℕ) → ((d : ℕ) → Member d cs → kept_count n kept (Some s) d ≡ 0) → find (over (Some s)) cs ≡ None
  find-none_later s [] h = refl
  find-none_later s (d ∷ cs) h =
      let z : kept_count n kept (Some s) d ≡ 0 = h d here in
      let f : over (Some s) d ≡ false = le-ltb nodes (kept_count n kept (Some s) d) (omega arith) in
      find-skip (over (Some s)) d cs f ∙ find-none_later s cs (λ x m. h x (there m))

  abbrev answer : Option (List ℕ) → List ℕ → Result (Option (List ℕ)) ℕ
  answer order cs = or_spent (find (over order) cs) order

  abbrev order_of : List ℕ → Option (List ℕ)
  order_of cs = find (is_whole n kept) (flat_map (piece n kept) cs)

  order_of-cons : (c : ℕ) (cs : List ℕ) → order_of (c ∷ cs) ≡ option_or (find (is_whole n kept) (piece n kept c)) (order_of cs)
  order_of-cons c cs = find-append (is_whole n kept) (piece n kept c) (flat_map (piece n kept) cs)

  earlier : (c : ℕ) (cs : List ℕ) → ((d : ℕ) → Member d cs → c < d) → (o : Option (List ℕ)) → order_of cs ≡ o → (x : List ℕ) → Member x (piece n kept c) →
      is_passed o x ≡ true
  earlier c cs least None e x m = refl
  earlier c cs least (Some s) e x m =
      let (k, t) = from_find (is_whole n kept) s (flat_map (piece n kept) cs) e in
      let (d, inn, k') = from_flat_map (piece n kept) s cs k in
      pieces-across n (n - 1) c d x s (least d inn) m k'

  scan_is : {cs : List ℕ} → Sorted ◌<◌ cs → scan cs ≡ answer (order_of cs) cs
  scan_is none = refl
  scan_is (more {x = c} {xs = cs} least r) = go (walked n nodes kept 0 (all_ending n (c ∷ []))) (ran n nodes kept 0 (piece n kept c) (omega arith))
      (scan_is r) where
        found : (s : List ℕ) → find (is_whole n kept) (piece n kept c) ≡ Some s → order_of (c ∷ cs) ≡ Some s
        found s h = order_of-cons c cs ∙ ap (λ o. option_or o (order_of cs)) h

        missed : find (is_whole n kept) (piece n kept c) ≡ None → order_of (c ∷ cs) ≡ order_of cs
        missed h = order_of-cons c cs ∙ ap (λ o. option_or o (order_of cs)) h

        -- the count for c, whichever order it is taken to
        counted : (o : Option (List ℕ)) → find (is_whole n kept) (piece n kept c) ≡ o → kept_count n kept (order_of (c ∷ cs)) c ≡ seen n kept (piece n kept c)
        counted None h =
            ap (λ o. kept_count n kept o c) (missed h) ∙ count-earlier n kept (order_of cs) c h (earlier c cs least (order_of cs) refl)
        counted (Some s) h = ap (λ o. kept_count n kept o c) (found s h) ∙ count-here n kept c s h

        go : (w : Result ℕ Stop) → Ran n nodes kept 0 (piece n kept c) w → scan cs ≡ answer (order_of cs) cs →
            chosen n kept c w (scan cs) ≡ answer (order_of (c ∷ cs)) (c ∷ cs)
        go (Ok j) h ih =
            let k : kept_count n kept (order_of (c ∷ cs)) c ≡ seen n kept (piece n kept c) = counted None h.0 in
            let le : 0 + seen n kept (piece n kept c) ≤ nodes = h.1 in
            let f : over (order_of (c ∷ cs)) c ≡ false = le-ltb nodes (kept_count n kept (order_of (c ∷ cs)) c) (omega arith) in
            ih ∙ ap (λ o. answer o cs) (sym (missed h.0)) ∙ ap (λ o. or_spent o (order_of (c ∷ cs))) (sym (find-skip (over (order_of (c ∷ cs))) c cs f))
        go (Err (Found s)) h ih =
            let k : kept_count n kept (order_of (c ∷ cs)) c ≡ seen n kept (piece n kept c) = counted (Some s) h.0 in
            let le : 0 + seen n kept (piece n kept c) ≤ nodes = h.1 in
            let f : over (order_of (c ∷ cs)) c ≡ false = le-ltb nodes (kept_count n kept (order_of (c ∷ cs)) c) (omega arith) in
            let (m, t) = from_find (is_whole n kept) s (piece n kept c) h.0 in
            let z : find (over (Some s)) cs ≡ None =
            find-none_later s cs (λ d q. count-later n kept s d (λ x k. pieces-across n (n - 1) c d s x (least d q) m k)) in
            sym (ap (λ o. or_spent o (order_of (c ∷ cs))) (find-skip (over (order_of (c ∷ cs))) c cs f) ∙ ap (λ o. answer o cs) (found s h.0)
            ∙ ap (λ o. or_spent o (Some s)) z)
        go (Err Spent) h ih =
            let k : kept_count n kept (order_of (c ∷ cs)) c ≡ seen n kept (piece n kept c) = counted (find (is_whole n kept) (piece n kept c)) refl in
            let lt : nodes < 0 + seen n kept (piece n kept c) = h in
            let t : over (order_of (c ∷ cs)) c ≡ true = lt-ltb nodes (kept_count n kept (order_of (c ∷ cs)) c) (omega arith) in
            sym (ap (λ o. or_spent o (order_of (c ∷ cs))) (find-first (over (order_of (c ∷ cs))) c cs t))

  pub scan-first_within : (winner : ℕ) → 0 < n → scan (all_but n winner) ≡ first_within n winner nodes kept
  scan-first_within winner some =
      let same : order_of (all_but n winner) ≡ first_kept n winner kept =
      sym (find-flat_map kept (is_whole n kept) (λ c. orders_ending n (n - 1) (c ∷ [])) (piece n kept) (all_but n winner)
      (λ c. find-whole n kept (n - 1) (c ∷ []) (long c))) in
      scan_is (sorted-filter ◌<◌ (λ c. not (c == winner)) (sorted-range 0 n)) ∙ ap (λ o. answer o (all_but n winner)) same
    where
      long : (c : ℕ) → n - 1 + length (c ∷ []) ≡ n
      long c = omega arith

  -- ---- the loop over the candidates
  abbrev pub scan_from : ℕ → ℕ → Result (Option (List ℕ)) ℕ
  scan_from winner c = scan (filter (λ d. not (d == winner)) (range_with_len c (n - c)))

  pub scan-start : (winner : ℕ) → 0 < n → scan_from winner 0 ≡ first_within n winner nodes kept
  scan-start winner some =
      let e : n - 0 ≡ n = omega arith in
      ap (λ k. scan (filter (λ d. not (d == winner)) (range_with_len 0 k))) e ∙ scan-first_within winner some

  scan-range : (winner c : ℕ) → c < n → scan_from winner c ≡ scan (filter (λ d. not (d == winner)) (c ∷ range_with_len (c + 1) (n - (c + 1))))
  scan-range winner c l =
      let e : n - c ≡ suc (n - (c + 1)) = omega arith in
      ap (λ k. scan (filter (λ d. not (d == winner)) (range_with_len c k))) e

  pub scan-winner : (winner c : ℕ) → c < n → c ≡ winner → scan_from winner c ≡ scan_from winner (c + 1)
  scan-winner winner c l e = scan-range winner c l ∙ (rw (eq-eqb c winner e) refl)

  pub scan-other : (winner c : ℕ) (w : Result ℕ Stop) → c < n → (c ≡ winner → ⊥) → w ≡ walked n nodes kept 0 (all_ending n (c ∷ [])) →
      scan_from winner c ≡ chosen n kept c w (scan_from winner (c + 1))
  scan-other winner c w l ne e = scan-range winner c l ∙ (rw (ne_eqb c winner ne) (ap (λ r. chosen n kept c r (scan_from winner (c + 1))) (sym e)))

  pub scan-end : (winner c : ℕ) → n ≤ c → scan_from winner c ≡ Ok None
  scan-end winner c l =
      let e : n - c ≡ 0 = omega arith in
      ap (λ k. scan (filter (λ d. not (d == winner)) (range_with_len c k))) e

  -- the walk stops
  pub scan-stops : (winner c : ℕ) (stop : Stop) → c < n → (c ≡ winner → ⊥) → Err stop ≡ walked n nodes kept 0 (all_ending n (c ∷ [])) →
      scan_from winner c ≡ stopped_at c stop
  scan-stops winner c (Found order) l ne e = scan-other winner c (Err (Found order)) l ne e
  scan-stops winner c Spent l ne e = scan-other winner c (Err Spent) l ne e
