-- The rounds so far, and the number of records that each counts.
use Rattle.std.proofs.Common.{◌==◌, ◌≡◌, inl, inr, ℕ, zero, suc, ◌+◌, ◌-◌, ◌<◌, ◌≤◌, Bool, true, false, cond, not, List, [], ◌∷◌, ◌++◌, Option, Some, None, length, map, sum, sum_by, is_some, refl, sym, ap, ap₂, subst, arith, eq-eqb, ne_eqb, append_assoc, ◌∙◌}
use Rattle.std.specs.List.{range_with_len}
use Rattle.std.proofs.lemmas.Bool.{cases_eq}
use Rattle.std.proofs.lemmas.List.Sums.{sum_by-cons}
use Rattle.irv_base.specs.Candidates.{candidates, has, set_of}
use Rattle.irv_base.specs.Records.{top, is_some_of, tally}
use Rattle.irv_base.proofs.Sets.{set_of_is}
use Rattle.set_tallies.specs.Bags.{tallies}
use Rattle.irv_base.specs.Tabulation.{sharing_least}
use Rattle.irv_tabulator.specs.Rounds.{Count, exhausted_of, count_of, rounds_of}
use Rattle.irv_tabulator.proofs.Progress.{IsRest, IsWithout, rest-more}

-- ---- each record is counted once, or exhausted
sum-map : (f : ℕ → ℕ) (xs : List ℕ) → sum (map f xs) ≡ sum_by f xs
sum-map f [] = refl
sum-map f (x ∷ xs) = sum_by-cons (λ y. y) (f x) (map f xs) ∙ ap (λ s. f x + s) (sum-map f xs) ∙ sym (sum_by-cons f x xs)

sum-none : (f : ℕ → ℕ) (xs : List ℕ) → ((x : ℕ) → f x ≡ 0) → sum_by f xs ≡ 0
sum-none f [] h = refl
sum-none f (x ∷ xs) h = let e = sum_by-cons f x xs in let i = sum-none f xs h in let z = h x in omega (arith, e, i, z)

sum-both : (f g h : ℕ → ℕ) (xs : List ℕ) → ((x : ℕ) → f x ≡ g x + h x) → sum_by f xs ≡ sum_by g xs + sum_by h xs
sum-both f g h [] e = refl
sum-both f g h (x ∷ xs) e =
    let a = sum_by-cons f x xs in
    let b = sum_by-cons g x xs in
    let c = sum_by-cons h x xs in
    let i = sum-both f g h xs e in
    let z = e x in
    omega (arith, a, b, c, i, z)

abbrev is-it : ℕ → ℕ → ℕ
is-it d c = cond (d == c) 1 0

none-before : (d a n : ℕ) → d < a → sum_by (is-it d) (range_with_len a n) ≡ 0
none-before d a zero l = refl
none-before d a (suc n) l =
    let e = sum_by-cons (is-it d) a (range_with_len (a + 1) n) in
    let z : is-it d a ≡ 0 = ap (λ b. cond b 1 0) (ne_eqb d a (λ s. absurd (omega (arith, s, l)))) in
    let i = none-before d (a + 1) n (omega arith) in
    omega (arith, e, z, i)

one-in : (d a n : ℕ) → a ≤ d → d < a + n → sum_by (is-it d) (range_with_len a n) ≡ 1
one-in d a zero l m = absurd (omega arith)
one-in d a (suc n) l m =
    let e = sum_by-cons (is-it d) a (range_with_len (a + 1) n) in
    elim (cases_eq d a) [
      | inl s ↦
          let z : is-it d a ≡ 1 = ap (λ b. cond b 1 0) (eq-eqb d a s) in
          let i = none-before d (a + 1) n (omega (arith, s)) in
          omega (arith, e, z, i)
      | inr ne ↦
          let z : is-it d a ≡ 0 = ap (λ b. cond b 1 0) (ne_eqb d a ne) in
          let i = one-in d (a + 1) n (omega (arith, l, ne)) (omega (arith, m)) in
          omega (arith, e, z, i)
    ]

counted-once : (n : ℕ) (o : Option ℕ) → ((c : ℕ) → o ≡ Some c → c < n) → sum_by (λ c. cond (is_some_of o c) 1 0) (candidates n) + cond (not (is_some o)) 1 0 ≡ 1
counted-once n None below = let z = sum-none (λ c. 0) (candidates n) (λ x. refl) in omega (arith, z)
counted-once n (Some d) below = let z = let l = below d refl in one-in d 0 n (omega arith) (omega (arith, l)) in omega (arith, z)

top-in : (set : ℕ) (ranking : List ℕ) (c : ℕ) → top ranking set ≡ Some c → has set c ≡ true
top-in set [] c e = cc
top-in set (d ∷ rest) c e = go (has set d) refl e (top-in set rest c) where
  go : (b : Bool) → has set d ≡ b → cond b (Some d) (top rest set) ≡ Some c → (top rest set ≡ Some c → has set c ≡ true) → has set c ≡ true
  go true h s later = let at : d ≡ c = cc in ap (has set) (sym at) ∙ h
  go false h s later = later s

pub all-counted : (n : ℕ) (records : List (List ℕ)) (set : ℕ) → ((c : ℕ) → has set c ≡ true → c < n) →
    sum (tallies records n set) + exhausted_of records set ≡ length records
all-counted n [] set below = let e = sum-map (tally [] set) (candidates n) in let z = sum-none (tally [] set) (candidates n) (λ x. refl) in omega (arith, e, z)
all-counted n (r ∷ records) set below =
    let here : ℕ → ℕ = λ c. cond (is_some_of (top r set) c) 1 0 in
    let e = sum-map (tally (r ∷ records) set) (candidates n) in
    let e' = sum-map (tally records set) (candidates n) in
    let b = sum-both (tally (r ∷ records) set) here (tally records set) (candidates n)
    (λ c. sum_by-cons (λ ranking. cond (is_some_of (top ranking set) c) 1 0) r records) in
    let x = sum_by-cons (λ ranking. cond (not (is_some (top ranking set))) 1 0) r records in
    let o = counted-once n (top r set) (λ c h. below c (top-in set r c h)) in
    let i = all-counted n records set below in
    omega (arith, e, e', b, x, o, i)

-- ---- the rounds so far
abbrev pub Noted : ℕ → List (List ℕ) → List ℕ → ℕ → List Count → Type 0
Noted n records done set counts = (c : ℕ) (rest : List ℕ) → IsRest set (c ∷ rest) → rounds_of n records (done ++ c ∷ rest) ≡ counts
    ++ rounds_of n records (c ∷ rest)

pub first-noted : (n : ℕ) (records : List (List ℕ)) (set : ℕ) → Noted n records [] set []
first-noted n records set c rest r = refl

-- a round that was counted: the row of its set, what the row leaves of all records, and those who share the set's smallest tally
pub record IsCounted (n : ℕ) (records : List (List ℕ)) (set : ℕ) (count : Count) : Type 0 where
  pub all : ℕ
  pub every : all ≡ length records
  pub below : (c : ℕ) → has set c ≡ true → c < n
  pub tallied : count.votes ≡ tallies records n set
  pub left : count.exhausted ≡ all - sum count.votes
  pub shared : (rest : List ℕ) → IsRest set rest → count.tied ≡ set_of (sharing_least records rest)

abbrev to : List ℕ → ℕ → ℕ → Count
to v e t = record { votes = v; exhausted = e; tied = t }

counted : (n : ℕ) (records : List (List ℕ)) (set : ℕ) (rest : List ℕ) (count : Count) → IsRest set rest → IsCounted n records set count →
    count_of n records rest ≡ count
counted n records set rest count r h =
    let same : set_of rest ≡ set = sym (set_of_is set rest r.apart r.same) in
    let whole = all-counted n records set h.below in
    let sums : sum count.votes ≡ sum (tallies records n set) = ap sum h.tallied in
    let spent : exhausted_of records set ≡ count.exhausted = omega (arith, whole, sums, h.every, h.left) in
    three (ap (tallies records n) same ∙ sym h.tallied) (ap (exhausted_of records) same ∙ spent) (sym (h.shared rest r))
  where
    three : {v v' : List ℕ} {e e' t t' : ℕ} → v ≡ v' → e ≡ e' → t ≡ t' → to v e t ≡ to v' e' t'
    three {v} {v'} {e} {e'} {t} {t'} p q r = ap (λ x. to x e t) p ∙ ap (λ x. to v' x t) q ∙ ap (λ x. to v' e' x) r

pub noted-counted : (n : ℕ) (records : List (List ℕ)) (done : List ℕ) (set c less : ℕ) (counts : List Count) (count : Count) →
    IsCounted n records set count → IsWithout set c less →
    Noted n records done set counts → Noted n records (done ++ c ∷ []) less (counts ++ count ∷ [])
noted-counted n records done set c less counts count k w h d rest r =
    let more = rest-more set c less (d ∷ rest) w r in
    ap (rounds_of n records) (append_assoc done (c ∷ []) (d ∷ rest))
    ∙ h c (d ∷ rest) more
    ∙ ap (λ x. counts ++ x ∷ rounds_of n records (d ∷ rest)) (counted n records set (c ∷ d ∷ rest) count more k)
    ∙ sym (append_assoc counts (count ∷ []) (rounds_of n records (d ∷ rest)))
