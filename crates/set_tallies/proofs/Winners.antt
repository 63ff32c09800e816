-- The winners of the true NEBs over a candidate.
use Rattle.std.proofs.Common.{◌≡◌, ℕ, suc, zero, ◌+◌, ◌<◌, ◌≤◌, Bool, true, false, cond, nat_lt, List, [], ◌∷◌, ◌++◌, All, length, map, filter, get_or, count_by, lt-ltb, append-nil, refl, sym, ap, ap₂, subst, arith, ◌∙◌}
use Rattle.std.specs.List.{range_with_len}
use Rattle.std.proofs.lemmas.Bool.{le-ltb}
use Rattle.std.proofs.lemmas.List.{get_or-map}
use Rattle.std.proofs.lemmas.List.Elements.{All-filter, filter-append}
use Rattle.std.proofs.lemmas.List.FromFn.{get_or-range_with_len, length-range_with_len}
use Rattle.irv_base.specs.Candidates.{candidates}
use Rattle.irv_base.specs.Records.{is_first, is_ahead}
use Rattle.irv_base.proofs.Ranges.{candidates-more}
use Rattle.set_tallies.specs.Bags.{Counts, AreOf, winners_in}

-- ---- those among the first candidates
abbrev pub is_winner : List ℕ → List ℕ → ℕ → Bool
is_winner firsts row w = nat_lt (get_or row w 0) (get_or firsts w 0)

abbrev pub winners_below : List ℕ → List ℕ → ℕ → List ℕ
winners_below firsts row k = filter (is_winner firsts row) (candidates k)

more : (firsts row : List ℕ) (w : ℕ) (b : Bool) → is_winner firsts row w ≡ b →
    winners_below firsts row (w + 1) ≡ winners_below firsts row w ++ cond b (w ∷ []) []
more firsts row w b is =
    ap (filter (is_winner firsts row)) (candidates-more w)
    ∙ filter-append (is_winner firsts row) (candidates w) (w ∷ [])
    ∙ ap (λ t. winners_below firsts row w ++ cond t (w ∷ []) []) is

pub winner-taken : (firsts row : List ℕ) (w : ℕ) → get_or row w 0 < get_or firsts w 0 →
    winners_below firsts row (w + 1) ≡ winners_below firsts row w ++ w ∷ []
winner-taken firsts row w l = more firsts row w true (lt-ltb (get_or row w 0) (get_or firsts w 0) l)

pub winner-left : (firsts row : List ℕ) (w : ℕ) → get_or firsts w 0 ≤ get_or row w 0 →
    winners_below firsts row (w + 1) ≡ winners_below firsts row w
winner-left firsts row w l =
    more firsts row w false (le-ltb (get_or row w 0) (get_or firsts w 0) l) ∙ append-nil (winners_below firsts row w)

-- ---- those of one candidate, as the records have it
filter-same : (p q : ℕ → Bool) (a n : ℕ) → ((c : ℕ) → c < a + n → p c ≡ q c) → filter p (range_with_len a n) ≡ filter q (range_with_len a n)
filter-same p q a zero h = refl
filter-same p q a (suc n) h =
    ap₂ (λ b xs. cond b (a ∷ xs) xs) (h a (omega arith)) (filter-same p q (a + 1) n (λ c l. h c (omega arith)))

pub winners-of : (counts : Counts) (records : List (List ℕ)) (l : ℕ) → length counts.firsts ≡ counts.n → AreOf counts records → l < counts.n →
    winners_in counts.firsts (get_or counts.ahead l [])
    ≡ filter (λ w. nat_lt (count_by (λ ranking. is_ahead ranking l w) records) (count_by (λ ranking. is_first ranking w) records)) (candidates counts.n)
winners-of counts records l long h below =
    ap (λ n. filter (is_winner counts.firsts (get_or counts.ahead l [])) (candidates n)) long
    ∙ filter-same (is_winner counts.firsts (get_or counts.ahead l []))
    (λ w. nat_lt (count_by (λ ranking. is_ahead ranking l w) records) (count_by (λ ranking. is_first ranking w) records)) 0 counts.n
    (λ w m. ap₂ nat_lt (h.ahead l w below (omega (arith, m))) (h.firsts w (omega (arith, m))))

-- ---- they are candidates
all-below : (n : ℕ) → All (λ w. w < n) (candidates n)
all-below n k d l =
    let within : k < n = subst (λ m. k < m) (length-range_with_len 0 n) l in
    let at : get_or (candidates n) k d ≡ k = get_or-range_with_len 0 n k d within ∙ omega arith in
    subst (λ x. x < n) (sym at) within

pub winners-below : (n : ℕ) (firsts row : List ℕ) → length firsts ≡ n → All (λ w. w < n) (winners_in firsts row)
winners-below n firsts row long =
    subst (λ m. All (λ w. w < n) (filter (is_winner firsts row) (candidates m))) (sym long)
    (All-filter (is_winner firsts row) (λ w. w < n) (candidates n) (all-below n))

-- ---- the list of one candidate among those of all
pub winners-at : {X : Type 0} (f : X → List ℕ) (winners : List X) (firsts : List ℕ) (ahead : List (List ℕ)) (k : ℕ) (d : X) →
    map f winners ≡ map (winners_in firsts) ahead → k < length winners → k < length ahead → d ≡ get_or winners k d →
    f d ≡ winners_in firsts (get_or ahead k [])
winners-at f winners firsts ahead k d same l m at =
    ap f at ∙ sym (get_or-map f winners k d [] l) ∙ ap (λ xs. get_or xs k []) same ∙ get_or-map (winners_in firsts) ahead k [] [] m
