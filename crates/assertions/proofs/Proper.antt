-- What it means for an assertion to be proper.
use Rattle.std.proofs.Common.{lt-ltb, ltb-true, nat_lt, ne_eqb, not, true, ℕ, ◌&&◌, ◌<◌, ◌==◌, ◌^◌, ◌≡◌}
use Rattle.std.proofs.lemmas.Bool.{and_from, and_parts, eqb-false, not-true, not_from_false}
use Rattle.irv_base.specs.Candidates.{has}
use Rattle.assertions.specs.Assertions.{is_pair, is_proper}
use Rattle.assertions.specs.declared.assertion.Assertion.TheVariants.{Nen}

pub record IsPair (n w l : ℕ) : Type 0 where
  pub winner : w < n
  pub loser : l < n
  pub differ : w ≡ l → ⊥

pub pair_facts : (n w l : ℕ) → is_pair n w l ≡ true → IsPair n w l
pair_facts n w l h =
    let (both, ne) = and_parts (nat_lt w n && nat_lt l n) (not (w == l)) h in
    let (a, b) = and_parts (nat_lt w n) (nat_lt l n) both in
    record { winner = ltb-true w n a; loser = ltb-true l n b; differ = eqb-false w l (not-true (w == l) ne) }

pub pair_test : (n w l : ℕ) → IsPair n w l → is_pair n w l ≡ true
pair_test n w l p =
    and_from (nat_lt w n && nat_lt l n) (not (w == l)) (and_from (nat_lt w n) (nat_lt l n) (lt-ltb w n p.winner) (lt-ltb l n p.loser))
    (not_from_false (w == l) (ne_eqb w l p.differ))

pub record IsNen (n w l rest : ℕ) : Type 0 where
  pub pair : IsPair n w l
  pub small : rest < 2 ^ n
  pub has_winner : has rest w ≡ true
  pub has_loser : has rest l ≡ true

pub nen_facts : (n w l rest : ℕ) → is_proper n (Nen w l rest) ≡ true → IsNen n w l rest
nen_facts n w l rest h =
    let (h', hl) = and_parts (is_pair n w l && nat_lt rest (2 ^ n) && has rest w) (has rest l) h in
    let (h'', hw) = and_parts (is_pair n w l && nat_lt rest (2 ^ n)) (has rest w) h' in
    let (pair, small) = and_parts (is_pair n w l) (nat_lt rest (2 ^ n)) h'' in
    record { pair = pair_facts n w l pair; small = ltb-true rest (2 ^ n) small; has_winner = hw; has_loser = hl }

pub nen_test : (n w l rest : ℕ) → IsNen n w l rest → is_proper n (Nen w l rest) ≡ true
nen_test n w l rest p =
    and_from (is_pair n w l && nat_lt rest (2 ^ n) && has rest w) (has rest l)
    (and_from (is_pair n w l && nat_lt rest (2 ^ n)) (has rest w)
    (and_from (is_pair n w l) (nat_lt rest (2 ^ n)) (pair_test n w l p.pair) (lt-ltb rest (2 ^ n) p.small)) p.has_winner)
    p.has_loser
