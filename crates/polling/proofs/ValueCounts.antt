-- The counts of values, one value at a time, and as counts of discrepancies.
use Rattle.std.proofs.Common.{◌≡◌, ◌∙◌, ℕ, ◌+◌, ◌==◌, ◌<◌, ◌≤◌, Bool, true, false, cond, List, [], ◌∷◌, ◌++◌, All, count_by, get_or, length, map, take, refl, sym, ap, eqb-true, arith}
use Rattle.std.proofs.lemmas.List.{get_or-map, length-map, map-append, take_more}
use Rattle.std.proofs.lemmas.List.Elements.{All-head, All-tail}
use Rattle.std.proofs.lemmas.List.Sums.{sum_by-cons}
use Rattle.std.proofs.lemmas.Simd.{map-map}
use Rattle.assertions.specs.declared.assertion.Claim.{Claim}
use Rattle.assertions.specs.Assorter.{assorter_value}
use Rattle.assorters.specs.declared.seen.Seen.{Seen}
use Rattle.audit_session.specs.Going.{seen_card}
use Rattle.km_risk.specs.Counts.{counts_of}
use Rattle.audit_session.specs.declared.seen.SeenCard.{SeenCard}
use Rattle.polling.specs.Polls.{as_counts, counted, poll_counts, polled}

pub polled-more : (value : List ℕ → ℕ) (drawn : List SeenCard) (i : ℕ) (one : SeenCard) → i < length drawn → one ≡ get_or drawn i one →
    map (polled value) (take i drawn) ++ polled value one ∷ [] ≡ map (polled value) (take (i + 1) drawn)
polled-more value drawn i one below is =
    sym (map-append (polled value) (take i drawn) (one ∷ []))
    ∙ ap (map (polled value)) (ap (λ x. take i drawn ++ x ∷ []) is ∙ sym (take_more drawn i one below))

-- ---- values of at most two, counted the same way as discrepancies
other : (s k : ℕ) → s < k → ◌≡◌ {A = ℕ} (cond (s == k) 1 0) 0
other s k less = go (s == k) refl where
  go : (b : Bool) → (s == k) ≡ b → ◌≡◌ {A = ℕ} (cond b 1 0) 0
  go true h = let same = eqb-true s k h in absurd (omega arith)
  go false h = refl

none-above : (k : ℕ) → 3 ≤ k → (ss : List ℕ) → All (λ s. s ≤ 2) ss → count_by (λ x. x == k) ss ≡ 0
none-above k above [] few = refl
none-above k above (s ∷ ss) few =
    let first = All-head (λ s. s ≤ 2) s ss few in
    let rest = none-above k above ss (All-tail (λ s. s ≤ 2) s ss few) in
    sum_by-cons (λ x. cond (x == k) 1 0) s ss ∙ omega (arith, rest, other s k (omega arith))

pub as-discrepancies : (ss : List ℕ) → All (λ s. s ≤ 2) ss → as_counts (counted ss) ≡ counts_of ss
as-discrepancies ss few =
    let n3 = sym (none-above 3 (omega arith) ss few) in
    let n4 = sym (none-above 4 (omega arith) ss few) in
    λ i. record {
      n0 = count_by (λ x. x == 0) ss;
      n1 = count_by (λ x. x == 1) ss;
      n2 = count_by (λ x. x == 2) ss;
      n3 = n3 i;
      n4 = n4 i;
    }

-- ---- one more element in a list of answers
pub one-more : {X Y : Type 0} (f : X → Y) (xs : List X) (all : List Y) (j : ℕ) (d : X) (y : Y) → j < length xs → all ≡ take j (map f xs) →
    y ≡ f (get_or xs j d) → all ++ y ∷ [] ≡ take (j + 1) (map f xs)
one-more f xs all j d y below so-far is =
    let within : j < length (map f xs) = rw (length-map xs f) below in
    ap (λ ys. ys ++ y ∷ []) so-far ∙ ap (λ x. take j (map f xs) ++ x ∷ []) (is ∙ sym (get_or-map f xs j d y below)) ∙ sym (take_more (map f xs) j y within)

-- ---- of each claim of a file
pub over-drawn : (claims : List Claim) (seen : List Seen) (ds : List ℕ) →
    map (λ claim. counted (map (polled (assorter_value claim.assertion)) (map (seen_card seen) ds))) claims
    ≡ map (λ value. poll_counts value seen ds) (map (λ claim. assorter_value claim.assertion) claims)
over-drawn [] seen ds = refl
over-drawn (claim ∷ claims) seen ds =
    let value : List ℕ → ℕ = assorter_value claim.assertion in
    let first = ap counted (map-map (polled value) (seen_card seen) ds) in
    let rest = over-drawn claims seen ds in
    λ i. first i ∷ rest i
