-- Counts with more draws.
use Rattle.std.proofs.Common.{◌≡◌, ◌∙◌, ℕ, ◌+◌, ◌==◌, ◌<◌, ◌≤◌, All, cond, List, [], ◌∷◌, ◌++◌, count_by, get_or, length, map, take, sym, ap, arith, append_assoc}
use Rattle.std.proofs.lemmas.List.{take_more, map-append, get_or-map, length-map}
use Rattle.std.proofs.lemmas.List.Elements.{All-map}
use Rattle.std.proofs.lemmas.List.Sums.{sum_by-append}
use Rattle.km_risk.specs.declared.draws.Counts.{Counts}
use Rattle.km_risk.specs.Counts.{counts_of, draws_in}
use Rattle.km_risk.proofs.AllCounted.{all_counted}
use Rattle.assorters.specs.Cards.{IsAssorter}
use Rattle.assorters.proofs.Numbered.{discrepancy-within}
use Rattle.audit_session.specs.declared.compared.Drawn.{Drawn}
use Rattle.audit_session.specs.Going.{all_counts, compared, counts_over, value_at}

count-push : (k : ℕ) (ds : List ℕ) (d : ℕ) → count_by (λ x. x == k) (ds ++ d ∷ []) ≡ count_by (λ x. x == k) ds + cond (d == k) 1 0
count-push k ds d = sum_by-append (λ x. cond (x == k) 1 0) ds (d ∷ []) ∙ omega arith

-- one more card is counted
pub over-more : (value : List ℕ → ℕ) (earlier drawn : List Drawn) (i : ℕ) (card : Drawn) → i < length drawn → card ≡ get_or drawn i card →
    map (compared value) (earlier ++ take i drawn) ++ compared value card ∷ [] ≡ map (compared value) (earlier ++ take (i + 1) drawn)
over-more value earlier drawn i card below is =
    sym (map-append (compared value) (earlier ++ take i drawn) (card ∷ []))
    ∙ ap (map (compared value))
    (append_assoc earlier (take i drawn) (card ∷ [])
    ∙ ap (λ t. earlier ++ t) (ap (λ x. take i drawn ++ x ∷ []) is ∙ sym (take_more drawn i card below)))

-- ---- the counts of the claims, in order
pub claim-counts : (values : List (List ℕ → ℕ)) (drawn : List Drawn) (before : List Counts) (j : ℕ) (d : Counts) → j < length values →
    before ≡ all_counts values drawn → get_or before j d ≡ counts_over (value_at values j) drawn
claim-counts values drawn before j d below is =
    ap (λ all. get_or all j d) is ∙ get_or-map (λ value. counts_over value drawn) values j (λ ranking. 0) d below

pub one-claim-more : (values : List (List ℕ → ℕ)) (drawn : List Drawn) (all : List Counts) (j : ℕ) (counts : Counts) → j < length values →
    all ≡ take j (all_counts values drawn) → counts ≡ counts_over (value_at values j) drawn →
    all ++ counts ∷ [] ≡ take (j + 1) (all_counts values drawn)
one-claim-more values drawn all j counts below so-far counts-is =
    let list : List Counts = all_counts values drawn in
    let within : j < length list = rw (length-map values (λ value. counts_over value drawn)) below in
    let here : get_or list j counts ≡ counts =
    get_or-map (λ value. counts_over value drawn) values j (λ ranking. 0) counts below ∙ sym counts-is in
    ap (λ xs. xs ++ counts ∷ []) so-far ∙ ap (λ x. take j list ++ x ∷ []) (sym here) ∙ sym (take_more list j counts within)

-- ---- the counts are over as many draws
over-draws : (value : List ℕ → ℕ) → IsAssorter value → (drawn : List Drawn) → draws_in (counts_over value drawn) ≡ length drawn
over-draws value is drawn =
    all_counted (map (compared value) drawn)
    (All-map (λ d. d ≤ 4) (compared value) drawn (λ k card below.
    discrepancy-within value is (get_or drawn k card).recorded (get_or drawn k card).seen))
    ∙ length-map drawn (compared value)

pub all-draws : (values : List (List ℕ → ℕ)) → All IsAssorter values → (drawn : List Drawn) →
    All (λ counts. draws_in counts ≡ length drawn) (all_counts values drawn)
all-draws values assorters drawn =
    All-map (λ counts. draws_in counts ≡ length drawn) (λ value. counts_over value drawn) values
    (λ k value below. over-draws (get_or values k value) (assorters k value below) drawn)

-- if there are no draws, all counts of each claim are 0
pub none-more : (values : List (List ℕ → ℕ)) (counts : List Counts) (j : ℕ) (none : Counts) → j < length values →
    none ≡ record { n0 = 0; n1 = 0; n2 = 0; n3 = 0; n4 = 0 } → counts ≡ take j (all_counts values []) →
    counts ++ none ∷ [] ≡ take (j + 1) (all_counts values [])
none-more values counts j none below is so-far = one-claim-more values [] counts j none below so-far is
