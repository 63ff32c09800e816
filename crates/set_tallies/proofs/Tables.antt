-- The numbers of a table: the numbers that ballots add, and the sums.
use Rattle.std.proofs.Common.{◌≡◌, ◌==◌, ℕ, ◌+◌, ◌-◌, ◌*◌, ◌%◌, ◌^◌, ◌<◌, mod-eq_of_lt, bit_and, Bool, true, false, cond, ◌&&◌, ◌||◌, bit_or, eqb-true, not, IsTrue, Some, List, [], ◌∷◌, ◌++◌, length, take, drop, get_or, ◌⊎◌, inl, inr, refl, sym, ap, ap₂, arith, ◌∙◌, eq-eqb}
use Rattle.std.proofs.lemmas.Bool.{cases_Bool, both_ways, eqb-false, and_parts}
use Rattle.std.proofs.lemmas.List.{take_at}
use Rattle.std.proofs.lemmas.List.Sums.{sum_by_more}
use Rattle.std.proofs.lemmas.Nat.{and_comm, and_mask, and_assoc}
use Rattle.irv_base.specs.Candidates.{has, is_in, is_distinct}
use Rattle.irv_base.proofs.Bits.{has-with}
use Rattle.set_tallies.specs.Bags.{misses, missing}
use Rattle.set_tallies.specs.declared.entry.Entry.{Entry}
use Rattle.set_tallies.specs.Befores.{before_after, is_missed, has_missed}
use Rattle.set_tallies.specs.Sums.{column, apart, sums_of}
use Rattle.set_tallies.proofs.Apart.{sum-at}
use Rattle.set_tallies.proofs.Columns.{column-at, column-long}

-- a vector, all of whose numbers were written
pub all-written : (n : ℕ) (new items : List ℕ) → length new ≡ n → take n (new ++ drop (length new) items) ≡ new
all-written n new items long = take_at new (drop (length new) items) n long

-- what the sums give when they are read
pub says-sum : (n : ℕ) (table sums : List ℕ) (s c : ℕ) → s < 2 ^ n → column n n sums c ≡ sums_of (column n n table c) →
    get_or sums (s * n + c) 0 ≡ apart s (column n n table c)
says-sum n table sums s c l made =
    sym (column-at n n sums c s l) ∙ ap (λ xs. get_or xs s 0) made ∙ sum-at (column n n table c) s (omega (arith, l, column-long n n table c))

-- ---- entries

-- only the first n candidates of a set count, if the other set has no others
pub misses-own : (n s other : ℕ) → s < 2 ^ n → misses s (other % 2 ^ n) ≡ misses s other
misses-own n s other small = ap (λ x. x == 0) (
    ap (λ x. bit_and x s) (sym (and_mask other n))
    ∙ and_assoc s other (2 ^ n - 1)
    ∙ ap (bit_and other) (and_comm (2 ^ n - 1) s ∙ and_mask s n ∙ mod-eq_of_lt small))

-- the entries so far, and one more
pub entry-more : (n s c d : ℕ) (entries : List Entry) (i : ℕ) (e : Entry) → s < 2 ^ n → i < length entries → e ≡ get_or entries i e →
    cond (d == c) (missing s (take (i + 1) entries)) 0 ≡ cond (d == c) (missing s (take i entries)) 0 + cond (d == c && misses s (e.before % 2 ^ n)) e.count 0
entry-more n s c d entries i e small l at = go (d == c) where
  more : missing s (take (i + 1) entries) ≡ missing s (take i entries) + cond (misses s (e.before % 2 ^ n)) e.count 0
  more = sum_by_more (λ x. cond (misses s x.before) x.count 0) entries i e l
      ∙ ap (λ x. missing s (take i entries) + cond (misses s x.before) x.count 0) (sym at)
      ∙ ap (λ b. missing s (take i entries) + cond b e.count 0) (sym (misses-own n s e.before small))

  go : (b : Bool) → cond b (missing s (take (i + 1) entries)) 0 ≡ cond b (missing s (take i entries)) 0 + cond (b && misses s (e.before % 2 ^ n)) e.count 0
  go true = more
  go false = refl

-- ---- along a ranking

-- a ballot is still to be counted for c, who is among the rest
abbrev pub left : ℕ → ℕ → List ℕ → ℕ → ℕ
left set seen rest c = cond (has seen c) 0 (cond (is_missed set (before_after seen rest c)) 1 0)

pub left-first : (set : ℕ) (ranking : List ℕ) (c : ℕ) → has 0 c ≡ false → left set 0 ranking c ≡ cond (has_missed set c ranking) 1 0
left-first set ranking c out = ap (λ b. cond b 0 (cond (has_missed set c ranking) 1 0)) out

pub left-none : (set seen c : ℕ) → left set seen [] c ≡ 0
left-none set seen c = go (has seen c) where
  none : ℕ
  none = 0

  go : (b : Bool) → cond b none none ≡ none
  go true = refl
  go false = refl

pub left-next : (set seen d : ℕ) (rest : List ℕ) (c : ℕ) → has seen d ≡ false → left set seen (d ∷ rest) c
    ≡ cond (c == d && misses set seen) 1 0 + left set (bit_or seen (2 ^ d)) rest c
left-next set seen d rest c out = go (has seen c) refl (c == d) refl (d == c) refl where
  after : (b t : Bool) → has seen c ≡ b → (c == d) ≡ t → has (bit_or seen (2 ^ d)) c ≡ (b || t)
  after b t e f = has-with seen d c ∙ ap₂ (λ x y. x || y) e f

  go : (b : Bool) → has seen c ≡ b → (t : Bool) → (c == d) ≡ t → (u : Bool) → (d == c) ≡ u →
      cond b 0 (cond (is_missed set (cond u (Some seen) (before_after (bit_or seen (2 ^ d)) rest c))) 1 0)
      ≡ cond (t && misses set seen) 1 0 + left set (bit_or seen (2 ^ d)) rest c
  go true e true f u g = absurd (both_ways (has seen c) (ap (has seen) (eqb-true c d f) ∙ out) e)
  go true e false f u g = sym (ap (λ x. 0 + cond x 0 (cond (is_missed set (before_after (bit_or seen (2 ^ d)) rest c)) 1 0)) (after true false e f))
  go false e true f true g = sym (ap (λ x. cond (misses set seen) 1 0 + cond x 0 (cond (is_missed set (before_after (bit_or seen (2 ^ d)) rest c)) 1 0))
      (after false true e f) ∙ omega arith)
  go false e true f false g = absurd (eqb-false d c g (sym (eqb-true c d f)))
  go false e false f true g = absurd (eqb-false c d f (sym (eqb-true d c g)))
  go false e false f false g = sym (ap (λ x. 0 + cond x 0 (cond (is_missed set (before_after (bit_or seen (2 ^ d)) rest c)) 1 0)) (after false false e f)
      ∙ omega arith)

-- those of the rest haven't been seen
pub unseen-next : (seen d : ℕ) (rest : List ℕ) → IsTrue (is_distinct (d ∷ rest)) → ((e : ℕ) → is_in (d ∷ rest) e ≡ true → has seen e ≡ false) → (e : ℕ) →
    is_in rest e ≡ true → has (bit_or seen (2 ^ d)) e ≡ false
unseen-next seen d rest apart h e there = has-with seen d e ∙ ap₂ (λ x y. x || y) (h e (either (d == e) there)) (other (cases_Bool (e == d)))
  where
    either : (b : Bool) → is_in rest e ≡ true → (b || is_in rest e) ≡ true
    either true t = refl
    either false t = t

    negated : (b : Bool) → not b ≡ true → b ≡ false
    negated true t = sym t
    negated false t = refl

    other : ((e == d) ≡ true) ⊎ ((e == d) ≡ false) → (e == d) ≡ false
    other (inl t) = absurd (both_ways (is_in rest d) (negated (is_in rest d) (and_parts (not (is_in rest d)) (is_distinct rest) apart).0)
        (ap (is_in rest) (sym (eqb-true e d t)) ∙ there))
    other (inr f) = f

pub unseen-first : (seen d : ℕ) (rest : List ℕ) → ((e : ℕ) → is_in (d ∷ rest) e ≡ true → has seen e ≡ false) → has seen d ≡ false
unseen-first seen d rest h = h d (ap (λ b. b || is_in rest d) (eq-eqb d d refl))
