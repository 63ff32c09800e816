-- The workers that the entries of a `State` show.
use Rattle.std.proofs.Common.{◌≡◌, ◌≢◌, ℕ, zero, suc, ◌+◌, ◌-◌, ◌^◌, ◌<◌, ◌≤◌, Bool, true, false, ◌&&◌, ◌||◌, ◌==◌, cond, List, [], ◌∷◌, ◌++◌, filter, length, get_or, set, slice_get, All, Option, Some, None, refl, sym, ap, ◌∙◌, arith, inl, inr}
use Rattle.std.specs.List.{range_with_len}
use Rattle.std.specs.Option.{option_map, option_map_or, option_and_then}
use Rattle.std.proofs.Math.Nat.{zero-add, add-zero}
use Rattle.std.proofs.Math.Numerals.{add-one}
use Rattle.std.proofs.lemmas.Bool.{cases_Bool, cond_both, eqb-true, eq-eqb, ne_eqb, cond-true, cond-false}
use Rattle.std.proofs.lemmas.List.{get_or-set_same, get_or-set_other}
use Rattle.std.proofs.lemmas.Option.{slice_get_within}
use Rattle.std.proofs.lemmas.List.Elements.{All-head, All-tail, filter-append}
use Rattle.std.proofs.lemmas.List.Folds.{list_any_at}
use Rattle.std.proofs.lemmas.List.FromFn.{get_or-range_with_len, length-range_with_len}
use Rattle.race_core.specs.declared.state.Entry.{Entry}
use Rattle.irv_base.specs.Candidates.{is_in}
use Rattle.race_core.specs.Race.{Worker, Race}
use Rattle.race_core.specs.State.{is_taker, numbered, ready_entry}

-- ---- workers by number

module _ (f : ℕ → Entry → Worker) where
  pub slice_get-numbered : (j : ℕ) (es : List Entry) (i : ℕ) → slice_get (numbered f j es) i ≡ option_map (f (j + i)) (slice_get es i)
  slice_get-numbered j [] i = refl
  slice_get-numbered j (e ∷ es) zero = ap (λ n. Some (f n e)) (sym (add-zero j))
  slice_get-numbered j (e ∷ es) (suc i) = slice_get-numbered (suc j) es i ∙ ap (λ n. option_map (f n) (slice_get es i)) (omega arith)

  module _ (g : ℕ → Entry → Worker) where
    pub numbered_same : (j : ℕ) (es : List Entry) → ((i : ℕ) (e : Entry) → j ≤ i → g i e ≡ f i e) → numbered g j es ≡ numbered f j es
    numbered_same j [] same = refl
    numbered_same j (e ∷ es) same = λ x. same j e (omega arith) x ∷ numbered_same (suc j) es (λ i d h. same i d (omega arith)) x

    pub numbered_set : (j : ℕ) (es : List Entry) (i : ℕ) (e : Entry) (w : Worker) → ((k : ℕ) (d : Entry) → k ≢ j + i → g k d ≡ f k d) → g (j + i) e ≡ w
        → numbered g j (set es i e) ≡ set (numbered f j es) i w
    numbered_set j [] i e w others here = refl
    numbered_set j (d ∷ es) zero e w others here = λ x. (ap (λ n. g n e) (sym (add-zero j)) ∙ here) x ∷
        numbered_same (suc j) es (λ k c h. others k c (λ same. omega (arith, add-zero j))) x
    numbered_set j (d ∷ es) (suc i) e w others here =
        λ x. others j d (λ same. omega arith) x
        ∷ numbered_set (suc j) es i e w (λ k c apart. others k c (λ same. apart (omega arith))) (ap (λ n. g n e) (omega arith) ∙ here) x

-- ---- a worker that may step

choose : {A B : Type 0} (g : A → Option B) (b : Bool) (x : A) → cond b None (g x) ≡ option_and_then g (cond b None (Some x))
choose g true x = refl
choose g false x = refl

pub ready_step : (f : ℕ → Entry → Worker) (es : List Entry) (k : ℕ) (act : Worker → Option Race) → ((e : Entry) → (f k e).looks ≡ e.looks)
    → cond (option_map_or (λ w. w.looks == 2 ^ 64 - 1) (slice_get (numbered f 0 es) k) false) None (option_and_then act (slice_get (numbered f 0 es) k))
    ≡ option_and_then (λ e. act (f k e)) (ready_entry es k)
ready_step f es k act looks = rw (slice_get-numbered f 0 es k, zero-add k) (at (slice_get es k))
  where
    at : (o : Option Entry) → cond (option_map_or (λ w. w.looks == 2 ^ 64 - 1) (option_map (f k) o) false) None (option_and_then act (option_map (f k) o))
        ≡ option_and_then (λ e. act (f k e)) (option_and_then (λ e. cond (e.looks == 2 ^ 64 - 1) None (Some e)) o)
    at None = refl
    at (Some e) = ap (λ n. cond (n == 2 ^ 64 - 1) None (act (f k e))) (looks e) ∙ choose (λ d. act (f k d)) (e.looks == 2 ^ 64 - 1) e

-- an entry that is ready is the worker's, with looks left
pub ready_at : (es : List Entry) (k : ℕ) (e : Entry) → Some e ≡ ready_entry es k → (slice_get es k ≡ Some e) × (e.looks ≢ 2 ^ 64 - 1)
ready_at es k e is = at (slice_get es k) is
  where
    at : (o : Option Entry) → Some e ≡ option_and_then (λ d. cond (d.looks == 2 ^ 64 - 1) None (Some d)) o → (o ≡ Some e) × (e.looks ≢ 2 ^ 64 - 1)
    at None is = cc
    at (Some d) is = elim (cases_Bool (d.looks == 2 ^ 64 - 1)) [
      | inl last ↦ let none : Some e ≡ None = is ∙ cond-true _ None (Some d) last in cc
      | inr more ↦
          let same : Some e ≡ Some d = is ∙ cond-false _ None (Some d) more in
          let equal : e ≡ d = cc in (
            ap Some (sym equal),
            λ last. let again : (d.looks == 2 ^ 64 - 1) ≡ true = eq-eqb d.looks (2 ^ 64 - 1) (ap (λ (x : Entry). x.looks) (sym equal)
                ∙ last) in cc,
          )
    ]

pub ready_within : (es : List Entry) (k : ℕ) (e : Entry) → Some e ≡ ready_entry es k → k < length es
ready_within es k e is = slice_get_within es k e (ready_at es k e is).0

-- ---- lists of pieces

module _ (f : ℕ → Bool) (p : ℕ) where
  kept : (t r : Bool) → (t ≡ true → f p ≡ true) → (t || (f p && r)) ≡ (f p && (t || r))
  kept true r h = rw (h refl)
  kept false r h = refl

  dropped : (t r : Bool) → (t ≡ true → f p ≡ false) → (f p && r) ≡ (f p && (t || r))
  dropped true r h = rw (h refl)
  dropped false r h = refl

  pub is_in-filter : (xs : List ℕ) → is_in (filter f xs) p ≡ (f p && is_in xs p)
  is_in-filter [] = none (f p)
    where
      none : (b : Bool) → false ≡ (b && false)
      none true = refl
      none false = refl
  is_in-filter (x ∷ xs) =
      let others = is_in-filter xs in
      cond_both (f x) (x ∷ filter f xs) (filter f xs) (λ ys. is_in ys p ≡ (f p && is_in (x ∷ xs) p))
      (λ yes. ap (λ b. (x == p) || b) others ∙ kept (x == p) (is_in xs p) (λ same. ap f (sym (eqb-true x p same)) ∙ yes))
      (λ no. others ∙ dropped (x == p) (is_in xs p) (λ same. ap f (sym (eqb-true x p same)) ∙ no))

pub in_range : (n p : ℕ) → p < n → is_in (range_with_len 0 n) p ≡ true
in_range n p below =
    list_any_at (λ q. q == p) (range_with_len 0 n) p 0 (rw (length-range_with_len 0 n) below)
    (eq-eqb _ _ (get_or-range_with_len 0 n p 0 below ∙ zero-add p))

pub past_range : (a n p : ℕ) → a + n ≤ p → is_in (range_with_len a n) p ≡ false
past_range a zero p past = refl
past_range a (suc n) p past = rw (ne_eqb a p (omega arith)) (past_range (a + 1) n p (omega arith))

range_more : (a n : ℕ) → range_with_len a (n + 1) ≡ range_with_len a n ++ (a + n) ∷ []
range_more a zero = λ x. sym (add-zero a) x ∷ []
range_more a (suc n) =
    let next : (a + 1) + n ≡ a + suc n = omega arith in
    let rest = ap (range_with_len (a + 1)) (sym (add-one n)) ∙ range_more (a + 1) n ∙ ap (λ m. range_with_len (a + 1) n ++ m ∷ []) next in
    rw (add-one (suc n)) (ap (λ ys. a ∷ ys) rest)

all_below : (n : ℕ) → All (λ p. p < n) (range_with_len 0 n)
all_below n k d inside = let below : k < n = rw (length-range_with_len 0 n) at inside in rw (get_or-range_with_len 0 n k d below) (omega arith)

filter_same : (f g : ℕ → Bool) (xs : List ℕ) → All (λ x. f x ≡ g x) xs → filter f xs ≡ filter g xs
filter_same f g [] same = refl
filter_same f g (x ∷ xs) same =
    ap (λ b. cond b (x ∷ filter f xs) (filter f xs)) (All-head (λ y. f y ≡ g y) x xs same)
    ∙ ap (λ ys. cond (g x) (x ∷ ys) ys) (filter_same f g xs (All-tail (λ y. f y ≡ g y) x xs same))

-- the piece n was taken by k
module _ (ts : List ℕ) (n k : ℕ) where
  same_taker : (i : ℕ) (xs : List ℕ) → All (λ p. p < n) xs → filter (is_taker (set ts n k) i) xs ≡ filter (is_taker ts i) xs
  same_taker i xs low =
      filter_same (is_taker (set ts n k) i) (is_taker ts i) xs
      (λ j d inside. let below = low j d inside in ap (λ t. t == i) (get_or-set_other ts n (get_or xs j d) k 0 (λ same. omega arith)))

  pub closed_after_take : (i : ℕ) (cs : List ℕ) → All (λ p. p < n) cs → filter (is_taker (set ts n k) i) cs ≡ filter (is_taker ts i) cs
  closed_after_take i cs low = same_taker i cs low

  pub taken_after_take : (i : ℕ) → n < length ts → filter (is_taker (set ts n k) i) (range_with_len 0 (n + 1)) ≡ filter (is_taker ts i) (range_with_len 0 n)
      ++ cond (k == i) (n ∷ []) []
  taken_after_take i inside =
      ap (filter (is_taker (set ts n k) i)) (range_more 0 n ∙ ap (λ m. range_with_len 0 n ++ m ∷ []) (zero-add n))
      ∙ filter-append (is_taker (set ts n k) i) (range_with_len 0 n) (n ∷ [])
      ∙ ap (λ ys. ys ++ cond (get_or (set ts n k) n 0 == i) (n ∷ []) []) (same_taker i (range_with_len 0 n) (all_below n))
      ∙ ap (λ t. filter (is_taker ts i) (range_with_len 0 n) ++ cond (t == i) (n ∷ []) []) (get_or-set_same ts n k 0 inside)

-- a piece was closed
pub closed_after_close : (ts : List ℕ) (cs : List ℕ) (p i : ℕ) → filter (is_taker ts i) (cs ++ p ∷ []) ≡ filter (is_taker ts i) cs
    ++ cond (is_taker ts i p) (p ∷ []) []
closed_after_close ts cs p i = filter-append (is_taker ts i) cs (p ∷ [])
