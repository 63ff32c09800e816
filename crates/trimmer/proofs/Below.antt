-- What ends in a suffix and, like it, isn't refuted.
use Rattle.std.proofs.Common.{◌≡◌, inl, inr, ℕ, zero, suc, ◌-◌, ◌<◌, Bool, true, false, not, ◌&&◌, ◌||◌, ◌==◌, if◌then◌else◌, List, [], ◌∷◌, length, drop, get_or, Option, Some, refl, sym, ap, ap₂, arith, eqb-true, ◌∙◌}
use Rattle.std.specs.List.{list_any}
use Rattle.std.proofs.lemmas.Bool.{cases_Bool, cases_eq, both_ways, false_from_ne_true, not-true, or_cases, and_right, or_right, or_left}
use Rattle.irv_base.specs.Candidates.{candidates, is_in, has, members, set_of}
use Rattle.irv_base.specs.Suffixes.{is_suffix}
use Rattle.irv_base.specs.declared.limits.TheConstants.{ROOM}
use Rattle.irv_base.proofs.Members.{Member, member_cases, member_nil, from_flat_map, from_candidates, from_filter, from_list_any, list_any-member, member-filter}
use Rattle.irv_base.proofs.Suffixes.{suffix_more, suffix-distinct, suffix-head, suffix-rest, suffix-has}
use Rattle.assertions.specs.declared.assertion.Assertion.{Assertion}
use Rattle.assertions.specs.declared.assertion.Assertion.TheVariants.{Neb, Nen}
use Rattle.assertions.specs.Refutation.{refutes}
use Rattle.assertions.specs.Suffixes.{suffixes_ending}
use Rattle.assertions.proofs.Parts.{refutes_more}
use Rattle.suffix_walk.specs.Kept.{all_ending}
use Rattle.cover_checker.specs.Covers.{stands}
use Rattle.cover_checker.specs.Shorter.{stands-shrinks}
use Rattle.cover_checker.specs.Indexed.{is_new}
use Rattle.cover_checker.proofs.New.{new_is}
use Rattle.trimmer.specs.Opened.{is_open, opens, is_past}

-- what fails of a suffix, and then of each with one more candidate, fails of all that end in it
pub none_below : (n : ℕ) (test : List ℕ → Bool) → ((c : ℕ) (t : List ℕ) → is_suffix n (c ∷ t) ≡ true → test t ≡ false → test (c ∷ t) ≡ false) →
    (k : ℕ) (t : List ℕ) → is_suffix n t ≡ true → test t ≡ false → (s : List ℕ) → Member s (suffixes_ending n k t) → test s ≡ false
none_below n test step zero t h f s m = elim (member_cases m) [ inl e ↦ ap test (sym e) ∙ f | inr r ↦ absurd (member_nil r) ]
none_below n test step (suc k) t h f s m =
    elim (member_cases m) [
      | inl e ↦ ap test (sym e) ∙ f
      | inr r ↦
          let (c, inn, k') = from_flat_map (λ c. if is_in t c then [] else suffixes_ending n k (c ∷ t)) s (candidates n) r in
          elim (cases_Bool (is_in t c)) [
            | inl in' ↦ absurd (member_nil (rw in' at k'))
            | inr out ↦
                let m' : Member s (suffixes_ending n k (c ∷ t)) = rw out at k' in
                let h' = suffix_more n c t (from_candidates inn) out h in
                none_below n test step k (c ∷ t) h' (step c t h' f) s m'
          ]
    ]

-- ---- what the others refute
pub others-none : (n : ℕ) (others : List Assertion) (claim : Option Assertion) (t : List ℕ) → is_suffix n t ≡ true → stands others t ≡ false →
    (s : List ℕ) → Member s (all_ending n t) → opens others claim s ≡ false
others-none n others claim t h f s m =
    let gone : stands others s ≡ false = none_below n (stands others) (λ c u proper g. false_from_ne_true (stands others (c ∷ u)) (λ r.
    both_ways (stands others u) g (stands-shrinks n others c u proper r))) (n - length t) t h f s m in
    ap (λ b. b && is_open claim s) gone

-- ---- what a claim is past of
or-parts : (a b : Bool) → (a || b) ≡ false → (a ≡ false) × (b ≡ false)
or-parts true b h = cc
or-parts false b h = (refl, h)

and-false : (a b : Bool) → (a ≡ true → b ≡ false) → (a && b) ≡ false
and-false true b h = h refl
and-false false b h = refl

-- the set of a suffix has what that of its parent has
has-more : (n c d : ℕ) (t : List ℕ) → is_suffix n (c ∷ t) ≡ true → has (set_of t) d ≡ true → has (set_of (c ∷ t)) d ≡ true
has-more n c d t proper h =
    suffix-has n (c ∷ t) d proper ∙ or_right (c == d) (is_in t d) (sym (suffix-has n t d (suffix-rest n c t proper)) ∙ h)

module _ (n : ℕ) (a : Assertion) where
  -- it doesn't refute the suffix, and nothing that ends in it
  abbrev may_refute : List ℕ → Bool
  may_refute t = refutes a t || not (is_past a (set_of t))

past-stays : (n : ℕ) (a : Assertion) (c : ℕ) (t : List ℕ) → is_suffix n (c ∷ t) ≡ true → is_past a (set_of t) ≡ true → is_past a (set_of (c ∷ t)) ≡ true
past-stays n (Neb w l) c t proper h = has-more n c w t proper h
past-stays n (Nen w l rest) c t proper h =
    let more = set_of (c ∷ t) in
    elim (or_cases (has (set_of t) w) (list_any (λ d. not (has rest d)) (members (set_of t))) h) [
      | inl x ↦ or_left (has more w) (list_any (λ d. not (has rest d)) (members more)) (has-more n c w t proper x)
      | inr y ↦
          let (d, m, out) = from_list_any (λ d. not (has rest d)) (members (set_of t)) y in
          let (below, inside) = from_filter (has (set_of t)) (candidates ROOM) m in
          or_right (has more w) (list_any (λ d. not (has rest d)) (members more))
          (list_any-member (λ d. not (has rest d)) (member-filter (has more) (candidates ROOM) below (has-more n c d t proper inside)) out)
    ]

past-new : (n : ℕ) (a : Assertion) (c : ℕ) (t : List ℕ) → is_suffix n (c ∷ t) ≡ true → is_past a (set_of t) ≡ true → is_new a c (set_of (c ∷ t)) ≡ false
past-new n (Neb w l) c t proper h = and-false (l == c) (not (has (set_of (c ∷ t)) w)) (λ e.
    Rattle.std.proofs.lemmas.Bool.not_from_true (has (set_of (c ∷ t)) w) (has-more n c w t proper h))
past-new n (Nen w l rest) c t proper h = and-false (w == c) (set_of (c ∷ t) == rest) (λ e.
    false_from_ne_true (set_of (c ∷ t) == rest) (λ same. elim (or_cases (has (set_of t) w) (list_any (λ d. not (has rest d)) (members (set_of t))) h) [
      | inl x ↦
          let here : w ≡ c = eqb-true w c e in
          let out : is_in t c ≡ false = (suffix-head n c t proper).1 in
          both_ways (is_in t c) out (ap (is_in t) (sym here) ∙ sym (suffix-has n t w (suffix-rest n c t proper)) ∙ x)
      | inr y ↦
          let (d, m, out) = from_list_any (λ d. not (has rest d)) (members (set_of t)) y in
          let (below, inside) = from_filter (has (set_of t)) (candidates ROOM) m in
          both_ways (has rest d) (not-true (has rest d) out)
          (ap (λ s. has s d) (sym (eqb-true (set_of (c ∷ t)) rest same)) ∙ has-more n c d t proper inside)
    ]))

pub past-none : (n : ℕ) (others : List Assertion) (a : Assertion) (t : List ℕ) → is_suffix n t ≡ true → refutes a t ≡ false → is_past a (set_of t) ≡ true →
    (s : List ℕ) → Member s (all_ending n t) → opens others (Some a) s ≡ false
past-none n others a t h f past s m =
    let start : may_refute n a t ≡ false = ap₂ (λ x y. x || not y) f past in
    let gone : may_refute n a s ≡ false = none_below n (may_refute n a) (λ c u proper g.
    let p = or-parts (refutes a u) (not (is_past a (set_of u))) g in
    let was : is_past a (set_of u) ≡ true = still (is_past a (set_of u)) p.1 in
    let fresh : refutes a (c ∷ u) ≡ false = new_is a c u (suffix-distinct n (c ∷ u) proper) p.0 ∙ past-new n a c u proper was in
    ap₂ (λ x y. x || not y) fresh (past-stays n a c u proper was)) (n - length t) t h start s m in
    and_right (stands others s) (refutes a s) (or-parts (refutes a s) (not (is_past a (set_of s))) gone).0
  where
    still : (b : Bool) → not b ≡ false → b ≡ true
    still true h = refl
    still false h = cc

-- ---- one step of a suffix
pub open-step : (n : ℕ) (a : Assertion) (s : List ℕ) → is_suffix n s ≡ true → 0 < length s → (refutes a (drop 1 s) || is_new a (get_or s 0 0) (set_of s))
    ≡ refutes a s
open-step n a [] proper some = absurd (omega arith)
open-step n a (c ∷ t) proper some = go (refutes a t) refl where
  go : (b : Bool) → refutes a t ≡ b → (b || is_new a c (set_of (c ∷ t))) ≡ refutes a (c ∷ t)
  go true e = sym (refutes_more a c t e (suffix-head n c t proper).1)
  go false e = sym (new_is a c t (suffix-distinct n (c ∷ t) proper) e)
