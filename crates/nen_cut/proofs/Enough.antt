-- The assertions that are true with at least the floor.
use Rattle.std.proofs.Common.{◌≡◌, ℕ, ◌<◌, ◌≤◌, ◌≢◌, max, true, false, ◌&&◌, nat_le, if◌then◌else◌, inl, inr, List, Some, None, is_some, sym, ap, ◌∙◌, arith, ltb-true, leb-true, lt-ltb, le-leb}
use Rattle.std.proofs.lemmas.Bool.{and_parts, and_from, cases_Bool, false_from_ne_true}
use Rattle.assertions.specs.declared.assertion.Assertion.{Assertion}
use Rattle.assertions.specs.declared.assertion.Assertion.TheVariants.{Neb}
use Rattle.assertions.proofs.Proper.{pair_facts, pair_test}
use Rattle.nen_cut.specs.Floors.{margin_of}
use Rattle.assertions.specs.Assertions.{is_proper, is_true, true_margin, votes_for, votes_against}
use Rattle.fewest.specs.Nens.{is_enough}

pub record IsEnough (n : ℕ) (records : List (List ℕ)) (floor : ℕ) (a : Assertion) : Type 0 where
  pub proper : is_proper n a ≡ true
  pub some : 0 < true_margin records a
  pub reaches : floor ≤ true_margin records a

pub enough-facts : (n : ℕ) (records : List (List ℕ)) (floor : ℕ) (a : Assertion) → is_enough n records floor a ≡ true → IsEnough n records floor a
enough-facts n records floor a h =
    let (proper, rest) = and_parts (is_proper n a) (is_true records a && nat_le floor (true_margin records a)) h in
    let (is, reaches) = and_parts (is_true records a) (nat_le floor (true_margin records a)) rest in
    let l = ltb-true (votes_against records a) (votes_for records a) is in
    record { proper = proper; some = omega (arith, l); reaches = leb-true floor (true_margin records a) reaches }

pub enough-test : (n : ℕ) (records : List (List ℕ)) (floor : ℕ) (a : Assertion) → IsEnough n records floor a → is_enough n records floor a ≡ true
enough-test n records floor a h =
    let some = h.some in
    and_from (is_proper n a) (is_true records a && nat_le floor (true_margin records a)) h.proper
    (and_from (is_true records a) (nat_le floor (true_margin records a))
    (lt-ltb (votes_against records a) (votes_for records a) (omega (arith, some))) (le-leb floor (true_margin records a) h.reaches))

-- an assertion that isn't of the floor
pub not-enough : (n : ℕ) (records : List (List ℕ)) (floor : ℕ) (a : Assertion) → true_margin records a < max floor 1 → is_enough n records floor a ≡ false
not-enough n records floor a few =
    false_from_ne_true (is_enough n records floor a) (λ t.
    let e = enough-facts n records floor a t in
    let some = e.some in
    let reaches = e.reaches in
    omega (arith, few, some, reaches))

pub neb-enough : (n w l : ℕ) (records : List (List ℕ)) (floor : ℕ) → w < n → l < n → w ≢ l → max floor 1 ≤ true_margin records (Neb w l) →
    is_enough n records floor (Neb w l) ≡ true
neb-enough n w l records floor a b differ reaches =
    enough-test n records floor (Neb w l)
    (record {
      proper = pair_test n w l (record { winner = a; loser = b; differ = differ });
      some = omega (arith, reaches);
      reaches = omega (arith, reaches);
    })

pub neb-same : (n w l : ℕ) (records : List (List ℕ)) (floor : ℕ) → w ≡ l → is_enough n records floor (Neb w l) ≡ false
neb-same n w l records floor same =
    false_from_ne_true (is_enough n records floor (Neb w l)) (λ t.
    (pair_facts n w l (enough-facts n records floor (Neb w l) t).proper).differ same)

module _ (n : ℕ) (records : List (List ℕ)) (floor : ℕ) (a : Assertion) where
  pub margin-some : is_enough n records floor a ≡ true → margin_of n records floor a ≡ Some (true_margin records a)
  margin-some t = ap (λ b. if b then Some (true_margin records a) else None) t

  pub margin-none : is_enough n records floor a ≡ false → margin_of n records floor a ≡ None
  margin-none f = ap (λ b. if b then Some (true_margin records a) else None) f

  pub margin-test : is_some (margin_of n records floor a) ≡ is_enough n records floor a
  margin-test =
      elim (cases_Bool (is_enough n records floor a)) [
        | inl t ↦ ap is_some (margin-some t) ∙ sym t
        | inr f ↦ ap is_some (margin-none f) ∙ sym f
      ]

  pub margin-facts : (m : ℕ) → margin_of n records floor a ≡ Some m → (is_enough n records floor a ≡ true) × (m ≡ true_margin records a)
  margin-facts m e =
      elim (cases_Bool (is_enough n records floor a)) [
        | inl t ↦ let f = margin-some t in (t, (cc))
        | inr f ↦ let g = margin-none f in absurd (cc)
      ]

  pub margin-lacks : margin_of n records floor a ≡ None → is_enough n records floor a ≡ false
  margin-lacks e =
      elim (cases_Bool (is_enough n records floor a)) [
        | inl t ↦ let f = margin-some t in absurd (cc)
        | inr f ↦ f
      ]
