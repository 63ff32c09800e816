-- Sequences of draws and their prefixes: `reach` counts the sequences with a prefix within the limit.
use Rattle.std.proofs.Common.{◌≡◌, ℕ, zero, suc, ◌+◌, ◌*◌, ◌^◌, Bool, true, false, ◌||◌, cond, if◌then◌else◌, List, [], ◌∷◌, ◌++◌, map, length, All, sum_by, count_by, refl, sym, ◌∙◌, ap, arith, append_assoc}
use Rattle.std.proofs.Math.Bool.{or-false}
use Rattle.std.proofs.Math.Nat.{zero-add, pow-zero, pow-succ'}
use Rattle.std.proofs.Math.Path.{fun_ext}
use Rattle.std.specs.List.{flat_map, list_any}
use Rattle.std.proofs.lemmas.List.{length-map, map-append, append-nil}
use Rattle.std.proofs.lemmas.Simd.{map-map}
use Rattle.std.proofs.lemmas.List.Elements.{All-nil, All-cons, All-head, All-tail, All-append, All-map, All-weaker}
use Rattle.std.proofs.lemmas.List.Sums.{sum_by-cons, sum_by-append}
use Rattle.std.proofs.lemmas.List.Folds.{fold-map, flat_map-map}
use Rattle.std.proofs.lemmas.List.Concat.{flat_map-cons, length-flat_map}
use Rattle.km_risk.specs.Factor.{numerator, denominator}
use Rattle.km_risk.specs.Product.{is_within, reach}
use Rattle.km_risk.specs.Reach.{sequences, prefixes}
use Rattle.km_risk.specs.Laws.{SequencesLaw, ProductReachLaw, ReachLaw}

sum_by-flat_map : {X : Type 0} (f : X → ℕ) (g : ℕ → List X) (ds : List ℕ) → sum_by f (flat_map g ds) ≡ sum_by (λ d. sum_by f (g d)) ds
sum_by-flat_map f g [] = refl
sum_by-flat_map f g (d ∷ ds) =
    rw (flat_map-cons g d ds, sum_by-append f (g d) (flat_map g ds), sum_by-flat_map f g ds, sum_by-cons (λ x. sum_by f (g x)) d ds) refl

sum_by-constant : {X : Type 0} (k : ℕ) (xs : List X) → sum_by (λ x. k) xs ≡ length xs * k
sum_by-constant k [] = omega arith
sum_by-constant k (x ∷ xs) = rw (sum_by-cons (λ y. k) x xs, sum_by-constant k xs) (omega arith)

list_any-map : {X Y : Type 0} (p : Y → Bool) (f : X → Y) (xs : List X) → list_any p (map f xs) ≡ list_any (λ x. p (f x)) xs
list_any-map p f [] = refl
list_any-map p f (x ∷ xs) = rw (list_any-map p f xs) refl

-- the count over all sequences that begin with one of the draws
by_first : (q : List ℕ → Bool) (s : List (List ℕ)) (ds : List ℕ) →
    count_by q (flat_map (λ d. map (λ more. d ∷ more) s) ds) ≡ sum_by (λ d. count_by (λ more. q (d ∷ more)) s) ds
by_first q s ds =
    sum_by-flat_map (λ x. cond (q x) 1 0) (λ d. map (λ more. d ∷ more) s) ds
    ∙ ap (λ f. sum_by f ds) (fun_ext (λ d. fold-map (λ a x. a + cond (q x) 1 0) (λ more. d ∷ more) 0 s))

length-sequences : (cards : List ℕ) (n : ℕ) → length (sequences cards n) ≡ length cards ^ n
length-sequences cards zero = sym (pow-zero (length cards))
length-sequences cards (suc n) =
    length-flat_map (λ c. map (λ more. c ∷ more) (sequences cards n)) cards
    ∙ ap (λ f. sum_by f cards) (fun_ext (λ c. length-map (sequences cards n) (λ more. c ∷ more)))
    ∙ sum_by-constant (length (sequences cards n)) cards
    ∙ rw (length-sequences cards n, pow-succ' (length cards) n) refl

map-flat_map : {X Y Z : Type 0} (f : Y → Z) (g : X → List Y) (xs : List X) → map f (flat_map g xs) ≡ flat_map (λ x. map f (g x)) xs
map-flat_map f g [] = refl
map-flat_map f g (x ∷ xs) =
    rw (flat_map-cons g x xs, map-append f (g x) (flat_map g xs), map-flat_map f g xs, flat_map-cons (λ y. map f (g y)) x xs) refl

map-sequences : (f : ℕ → ℕ) (cards : List ℕ) (n : ℕ) → map (λ s. map f s) (sequences cards n) ≡ sequences (map f cards) n
map-sequences f cards zero = refl
map-sequences f cards (suc n) =
    map-flat_map (λ s. map f s) (λ c. map (λ more. c ∷ more) (sequences cards n)) cards
    ∙ ap (λ g. flat_map g cards) (fun_ext (λ c.
    map-map (λ s. map f s) (λ more. c ∷ more) (sequences cards n)
    ∙ sym (map-map (λ more. f c ∷ more) (λ s. map f s) (sequences cards n))
    ∙ ap (λ s. map (λ more. f c ∷ more) s) (map-sequences f cards n)))
    ∙ sym (flat_map-map (λ d. map (λ more. d ∷ more) (sequences (map f cards) n)) f cards)

pub sequences_law : SequencesLaw
sequences_law cards discrepancy n = (length-sequences cards n, map-sequences discrepancy cards n)

-- draws h, or some longer prefix of h and then more, pass
abbrev pub passes : (List ℕ → Bool) → List ℕ → List ℕ → Bool
passes p h [] = p h
passes p h (d ∷ more) = p h || passes p (h ++ d ∷ []) more

passes-prefixes : (p : List ℕ → Bool) (h s : List ℕ) → passes p h s ≡ list_any (λ q. p (h ++ q)) (prefixes s)
passes-prefixes p h [] = rw (append-nil h, or-false (p h)) refl
passes-prefixes p h (d ∷ more) =
    rw (append-nil h, list_any-map (λ q. p (h ++ q)) (λ q. d ∷ q) (prefixes more), passes-prefixes p (h ++ d ∷ []) more)
    (ap (λ f. p h || list_any f (prefixes more)) (fun_ext (λ q. ap p (append_assoc h (d ∷ []) q))))

-- a sequence passes if some prefix does
pub passes-from_none : (p : List ℕ → Bool) (s : List ℕ) → passes p [] s ≡ list_any p (prefixes s)
passes-from_none p s = passes-prefixes p [] s

-- all sequences count, or only those that get there later
split : (b : Bool) (q : ℕ → List ℕ → Bool) (s : List (List ℕ)) (ds : List ℕ) (all : ℕ) (r : ℕ → ℕ) →
    all ≡ length ds * length s → ((d : ℕ) → r d ≡ count_by (q d) s) →
    (if b then all else sum_by r ds) ≡ sum_by (λ d. count_by (λ more. b || q d more) s) ds
split true q s ds all r whole later =
    whole ∙ sym (rw (sum_by-constant {X = List ℕ} 1 s, sum_by-constant (length s * 1) ds) (omega arith))
split false q s ds all r whole later = ap (λ f. sum_by f ds) (fun_ext later)

module _ (over limit : ℕ) (under : ℕ → ℕ) (values : List ℕ) where
  reach-passes : (n : ℕ) (h : List ℕ) →
      reach over under limit values h n ≡ count_by (passes (is_within over under limit) h) (sequences values n)
  reach-passes zero h = sym (zero-add (cond (is_within over under limit h) 1 0))
  reach-passes (suc n) h =
      split (is_within over under limit h) (λ d. passes (is_within over under limit) (h ++ d ∷ [])) (sequences values n) values (length values ^ suc n)
      (λ d. reach over under limit values (h ++ d ∷ []) n)
      (rw (length-sequences values n, pow-succ' (length values) n) refl) (λ d. reach-passes n (h ++ d ∷ []))
      ∙ sym (by_first (passes (is_within over under limit) h) (sequences values n) values)

pub product_reach_law : ProductReachLaw
product_reach_law over limit under values n =
    reach-passes over limit under values n []
    ∙ ap (λ p. count_by p (sequences values n)) (fun_ext (λ s. passes-from_none (is_within over under limit) s))

pub reach_law : ReachLaw
reach_law cards margin gamma limit ds count n =
    product_reach_law (numerator cards margin gamma) limit (denominator cards margin gamma) ds n

All-flat_map : {X Y : Type 0} (P : Y → Type 0) (f : X → List Y) (xs : List X) → All (λ x. All P (f x)) xs → All P (flat_map f xs)
All-flat_map P f [] h = All-nil P
All-flat_map P f (x ∷ xs) h =
    rw (flat_map-cons f x xs)
    (All-append P (f x) (flat_map f xs) (All-head (λ y. All P (f y)) x xs h) (All-flat_map P f xs (All-tail (λ y. All P (f y)) x xs h)))

-- what is true of each draw is true of each draw of each sequence
pub All-sequences : (P : ℕ → Type 0) (ds : List ℕ) → All P ds → (n : ℕ) → All (All P) (sequences ds n)
All-sequences P ds h zero = All-cons (All P) [] [] (All-nil P) (All-nil (All P))
All-sequences P ds h (suc n) =
    All-flat_map (All P) (λ d. map (λ more. d ∷ more) (sequences ds n)) ds
    (All-weaker P (λ d. All (All P) (map (λ more. d ∷ more) (sequences ds n)))
    (λ d here. All-map (All P) (λ more. d ∷ more) (sequences ds n)
    (All-weaker (All P) (λ more. All P (d ∷ more)) (λ more rest. All-cons P d more here rest) (sequences ds n) (All-sequences P ds h n))) ds h)
