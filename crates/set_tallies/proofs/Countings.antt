-- A counting with one more ranking or one more candidate.
use Rattle.std.proofs.Common.{◌≡◌, ◌==◌, ℕ, suc, ◌+◌, ◌*◌, ◌^◌, ◌<◌, ◌≤◌, Bool, true, false, cond, ◌&&◌, ◌||◌, bit_or, List, [], ◌∷◌, ◌++◌, Some, length, map, get_or, count_by, refl, sym, ap, subst, arith, eqb-true, pow_pos, append-nil, length-append, ◌∙◌}
use Rattle.std.specs.Prelude.{All}
use Rattle.std.proofs.Math.Pow.{pow-lt}
use Rattle.std.proofs.lemmas.Bool.{both_ways, eqb-false}
use Rattle.std.proofs.lemmas.List.Elements.{All-append, All-pop, All-push, All-nil}
use Rattle.std.proofs.lemmas.List.Sums.{count_by-le-length, sum_by_push}
use Rattle.std.proofs.lemmas.Nat.{or_lt}
use Rattle.irv_base.specs.Candidates.{candidates, is_in}
use Rattle.irv_base.specs.declared.limits.TheConstants.{MOST_RECORDS}
use Rattle.set_tallies.specs.Bags.{misses}
use Rattle.set_tallies.specs.Befores.{before_after, has_missed, is_missed}
use Rattle.set_tallies.specs.Countings.{AreCounted, last_of, lengthened, seen_after}
use Rattle.set_tallies.specs.Sums.{apart, column}
use Rattle.set_tallies.proofs.Sharing.{both-counted}

-- ---- the last ranking
last-after : (ranking : List ℕ) (earlier rest : List (List ℕ)) → last_of (earlier ++ ranking ∷ rest) ≡ last_of (ranking ∷ rest)
last-after ranking [] rest = refl
last-after ranking (x ∷ []) rest = refl
last-after ranking (x ∷ y ∷ earlier) rest = last-after ranking (y ∷ earlier) rest

pub lengthened-last : (earlier : List (List ℕ)) (last : List ℕ) (c : ℕ) → lengthened (earlier ++ last ∷ []) c ≡ earlier ++ (last ++ c ∷ []) ∷ []
lengthened-last [] last c = refl
lengthened-last (x ∷ []) last c = refl
lengthened-last (x ∷ y ∷ earlier) last c = ap (λ rankings. x ∷ rankings) (lengthened-last (y ∷ earlier) last c)

-- ---- the set of its candidates
seen-longer : (seen : ℕ) (ranking : List ℕ) (c : ℕ) → seen_after seen (ranking ++ c ∷ []) ≡ bit_or (seen_after seen ranking) (2 ^ c)
seen-longer seen [] c = refl
seen-longer seen (d ∷ rest) c = seen-longer (bit_or seen (2 ^ d)) rest c

seen-below : (n seen : ℕ) (ranking : List ℕ) → seen < 2 ^ n → All (λ c. c < n) ranking → seen_after seen ranking < 2 ^ n
seen-below n seen [] l below = l
seen-below n seen (d ∷ rest) l below =
    seen-below n (bit_or seen (2 ^ d)) rest (or_lt n seen (2 ^ d) l (pow-lt (below 0 d (omega arith)))) (λ k x m. below (suc k) x (omega (arith, m)))

-- ---- one more candidate
missed-out : (set seen : ℕ) (ranking : List ℕ) (c : ℕ) → is_in ranking c ≡ false → is_missed set (before_after seen ranking c) ≡ false
missed-out set seen [] c out = refl
missed-out set seen (d ∷ rest) c out = go (d == c) out (missed-out set (bit_or seen (2 ^ d)) rest c) where
  go : (b : Bool) → (b || is_in rest c) ≡ false → (is_in rest c ≡ false → is_missed set (before_after (bit_or seen (2 ^ d)) rest c) ≡ false) →
      is_missed set (cond b (Some seen) (before_after (bit_or seen (2 ^ d)) rest c)) ≡ false
  go true e ih = absurd (both_ways true e refl)
  go false e ih = ih e

-- whether a ballot has the candidate d with nobody of the set before it, as a number
abbrev missed : ℕ → ℕ → List ℕ → ℕ → ℕ
missed set seen ranking d = cond (is_missed set (before_after seen ranking d)) 1 0

missed-longer : (set seen : ℕ) (ranking : List ℕ) (c d : ℕ) → is_in ranking c ≡ false →
    missed set seen (ranking ++ c ∷ []) d ≡ missed set seen ranking d + cond (d == c && misses set (seen_after seen ranking)) 1 0
missed-longer set seen [] c d out = go (c == d) refl (d == c) refl where
  go : (b : Bool) → (c == d) ≡ b → (t : Bool) → (d == c) ≡ t →
      cond (is_missed set (cond b (Some seen) (before_after (bit_or seen (2 ^ c)) [] d))) 1 0 ≡ 0 + cond (t && misses set seen) 1 0
  go true e true f = omega arith
  go true e false f = absurd (eqb-false d c f (sym (eqb-true c d e)))
  go false e true f = absurd (eqb-false c d e (sym (eqb-true d c f)))
  go false e false f = omega arith
missed-longer set seen (x ∷ rest) c d out = go (x == d) refl (x == c) refl out (missed-longer set (bit_or seen (2 ^ x)) rest c d) where
  go : (b : Bool) → (x == d) ≡ b → (t : Bool) → (x == c) ≡ t → (t || is_in rest c) ≡ false →
      (is_in rest c ≡ false → missed set (bit_or seen (2 ^ x)) (rest ++ c ∷ []) d
      ≡ missed set (bit_or seen (2 ^ x)) rest d + cond (d == c && misses set (seen_after (bit_or seen (2 ^ x)) rest)) 1 0) →
      cond (is_missed set (cond b (Some seen) (before_after (bit_or seen (2 ^ x)) (rest ++ c ∷ []) d))) 1 0
      ≡ cond (is_missed set (cond b (Some seen) (before_after (bit_or seen (2 ^ x)) rest d))) 1 0
      + cond (d == c && misses set (seen_after (bit_or seen (2 ^ x)) rest)) 1 0
  go b e true f h ih = absurd (both_ways true h refl)
  go false e false f h ih = ih h
  go true e false f h ih =
      let apart : (d == c) ≡ false = ap (λ y. y == c) (sym (eqb-true x d e)) ∙ f in
      let one : ℕ = cond (misses set seen) 1 0 in
      omega (arith, ap (λ b. let more : ℕ = cond (b && misses set (seen_after (bit_or seen (2 ^ x)) rest)) 1 0 in one + more) apart)

-- ---- the invariant of a counting
module _ (n records seen : ℕ) (table : List ℕ) (rankings : List (List ℕ)) (are : AreCounted n records seen table rankings) where
  pub begun : records < MOST_RECORDS → AreCounted n (records + 1) 0 table (rankings ++ [] ∷ [])
  begun few = record {
    few = are.few;
    all = omega (arith, are.all, length-append rankings ([] ∷ []));
    most = omega (arith, few);
    below = All-push (All (λ c. c < n)) rankings [] are.below (All-nil (λ c. c < n));
    last = ap (seen_after 0) (sym (last-after [] rankings []));
    counts = record {
      long = are.counts.long;
      says = λ s c l.
          omega (arith, are.counts.says s c l, sum_by_push (λ ranking. cond (has_missed s c ranking) 1 0) rankings []);
    };
  }

  module _ (earlier : List (List ℕ)) (last : List ℕ) (c : ℕ) (is : rankings ≡ earlier ++ last ∷ []) (out : is_in last c ≡ false) (own : c < n) where
    seen-is : seen ≡ seen_after 0 last
    seen-is = are.last ∙ ap (λ rs. seen_after 0 (last_of rs)) is ∙ ap (seen_after 0) (last-after last earlier [])

    parts : All (All (λ d. d < n)) earlier × All (λ d. d < n) last
    parts = All-pop (All (λ d. d < n)) (earlier ++ last ∷ []) earlier (Some last) refl (subst (All (All (λ d. d < n))) is are.below)

    pub seen-within : seen < 2 ^ n
    seen-within = subst (λ x. x < 2 ^ n) (sym seen-is) (seen-below n 0 last (pow_pos n) parts.1)

    counts-at : (s d : ℕ) → d < n →
        apart s (column n n table d) ≡ count_by (has_missed s d) earlier + missed s 0 last d
    counts-at s d l =
        are.counts.says s d l ∙ ap (count_by (has_missed s d)) is ∙ sum_by_push (λ ranking. cond (has_missed s d ranking) 1 0) earlier last

    pub one-fits : apart 0 (column n n table c) + 1 ≤ MOST_RECORDS
    one-fits =
        omega (
          arith,
          counts-at 0 c own,
          ap (λ b. let more : ℕ = cond b 1 0 in more) (missed-out 0 0 last c out),
          count_by-le-length (has_missed 0 c) earlier,
          ap length is,
          length-append earlier (last ∷ []),
          are.all,
          are.most,
        )

    pub longer : (new : List ℕ) → length new ≡ n * 2 ^ n →
        ((s d : ℕ) → d < n → apart s (column n n new d) ≡ apart s (column n n table d) + cond (d == c && misses s seen) 1 0) →
        AreCounted n records (bit_or seen (2 ^ c)) new (lengthened rankings c)
    longer new long more = subst (AreCounted n records (bit_or seen (2 ^ c)) new) (sym (ap (λ rs. lengthened rs c) is ∙ lengthened-last earlier last c)) (record {
      few = are.few;
      all = omega (arith, are.all, ap length is, length-append earlier (last ∷ []), length-append earlier ((last ++ c ∷ []) ∷ []));
      most = are.most;
      below = All-push (All (λ d. d < n)) earlier (last ++ c ∷ []) parts.0 (All-push (λ d. d < n) last c parts.1 own);
      last = ap (λ x. bit_or x (2 ^ c)) seen-is ∙ sym (seen-longer 0 last c) ∙ ap (seen_after 0) (sym (last-after (last ++ c ∷ []) earlier []));
      counts = record {
        long = long;
        says = λ s d l.
            omega (
              arith,
              more s d l,
              counts-at s d l,
              missed-longer s 0 last c d out,
              ap (λ x. let one : ℕ = cond (d == c && misses s x) 1 0 in one) seen-is,
              sum_by_push (λ ranking. cond (has_missed s d ranking) 1 0) earlier (last ++ c ∷ []),
            );
      };
    })

-- ---- other rankings after them
pub last-none : (own its : List (List ℕ)) → length its ≡ 0 → last_of (own ++ its) ≡ last_of own
last-none own [] none = ap last_of (append-nil own)
last-none own (ranking ∷ rest) none = absurd (omega arith)

pub last-some : (own its : List (List ℕ)) → (length its ≡ 0 → ⊥) → last_of (own ++ its) ≡ last_of its
last-some own [] some = absurd (some refl)
last-some own (ranking ∷ rest) some = last-after ranking own rest

pub appended : (n records seen others other : ℕ) (table its : List ℕ) (rankings behind : List (List ℕ)) → AreCounted n records seen table rankings →
    AreCounted n others other its behind → (last : ℕ) → last ≡ seen_after 0 (last_of (rankings ++ behind)) → records + others ≤ MOST_RECORDS →
    AreCounted n (records + others) last (map (λ i. get_or table i 0 + get_or its i 0) (candidates (length table))) (rankings ++ behind)
appended n records seen others other table its rankings behind are they last is fit = record {
  few = are.few;
  all = omega (arith, are.all, they.all, length-append rankings behind);
  most = fit;
  below = All-append (All (λ c. c < n)) rankings behind are.below they.below;
  last = is;
  counts = both-counted n rankings behind table its are.counts they.counts;
}
