-- The refuter of a suffix is the first assertion, in the fixed order, that gives it its low.
use Rattle.std.proofs.Common.{List, None, Some, ap, arith, eq-eqb, inl, inr, lt-ltb, sym, true, ℕ, ◌&&◌, ◌-◌, ◌<◌, ◌==◌, ◌∙◌, ◌≡◌, ◌⊎◌}
use Rattle.std.proofs.lemmas.Bool.{cases_lt}
use Rattle.assertions.specs.Assertions.{is_true, true_margin, votes_against, votes_for}
use Rattle.assertions.specs.Hardness.{IsRefuter, low, refuter}
use Rattle.assertions.specs.Refutation.{refutes}
use Rattle.assertions.specs.declared.assertion.Assertion.{Assertion}
use Rattle.assertions.proofs.FixedOrders.{Before, before-not_both, sorted-assertions}
use Rattle.assertions.proofs.Lows.{Gives, from_refuter, gives-member, positive, refuter_is}
use Rattle.assertions.proofs.Sorted.{find-first, sorted-filter}

pub refuter-first : (n : ℕ) (records : List (List ℕ)) (t : List ℕ) (a : Assertion) → refuter n records t ≡ Some a → IsRefuter n records t a
refuter-first n records t a h =
    let g : Gives n records t a = from_refuter n records t a h in
    record {
      proper = g.proper;
      holds = g.true_of;
      refuting = g.refuting;
      reached = g.reached;
      first = λ b proper r e.
          let gives : Gives n records t b = record { proper = proper; refuting = r; true_of = above b e (positive n records t a g); reached = e } in
          find-first Before (λ a. true_margin records a == low n records t) a b
          (sorted-filter Before (λ a. refutes a t && is_true records a) (sorted-assertions n)) h
          (gives-member n records t b gives) (eq-eqb (true_margin records b) (low n records t) e);
    }
  where
    above : (b : Assertion) → true_margin records b ≡ low n records t → 0 < low n records t → is_true records b ≡ true
    above b e lt =
        let margin : votes_for records b - votes_against records b ≡ low n records t = e in
        lt-ltb (votes_against records b) (votes_for records b) (omega arith)

pub refuter-only : (n : ℕ) (records : List (List ℕ)) (t : List ℕ) (a : Assertion) → IsRefuter n records t a → refuter n records t ≡ Some a
refuter-only n records t a r =
    let g : Gives n records t a = record { proper = r.proper; refuting = r.refuting; true_of = r.holds; reached = r.reached } in
    let (b, e) = refuter_is n records t (positive n records t a g) in
    let s : IsRefuter n records t b = refuter-first n records t b e in
    e ∙ ap Some (one_first a b (r.first b s.proper s.refuting s.reached) (s.first a r.proper r.refuting r.reached))
  where
    one_first : (a b : Assertion) → (b ≡ a) ⊎ Before a b → (a ≡ b) ⊎ Before b a → b ≡ a
    one_first a b (inl e) h = e
    one_first a b (inr x) (inl e) = sym e
    one_first a b (inr x) (inr y) = absurd (before-not_both a b x y)

pub refuter_or_none : (n : ℕ) (records : List (List ℕ)) (t : List ℕ) → refuter n records t ≡ None → low n records t ≡ 0
refuter_or_none n records t h =
    elim (cases_lt 0 (low n records t)) [
      | inl lt ↦ let (a, e) = refuter_is n records t lt in let never : None ≡ Some a = sym h ∙ e in cc
      | inr z ↦ omega arith
    ]
