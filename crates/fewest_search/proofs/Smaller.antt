-- At a smaller margin, more assertions are enough, and the NEBs let no more sets stand.
use Rattle.std.proofs.Common.{◌≡◌, ℕ, ◌<◌, ◌≤◌, true, not, ◌&&◌, nat_le, List, arith, le-leb}
use Rattle.std.proofs.lemmas.Bool.{and_parts, and_from, both_ways, false_from_ne_true, not-true, not_from_false}
use Rattle.irv_base.specs.Candidates.{candidates, has}
use Rattle.irv_base.proofs.Members.{from_list_all, from_list_any, list_all-each, list_any-member}
use Rattle.assertions.specs.declared.assertion.Assertion.{Assertion}
use Rattle.assertions.specs.declared.assertion.Assertion.TheVariants.{Neb}
use Rattle.assertions.specs.Assertions.{is_proper, is_true, true_margin}
use Rattle.assertions.specs.Certificate.{certificate_assertions}
use Rattle.assertions.specs.Steps.{more}
use Rattle.assertions.proofs.Certificates.{certificate_covers, certificate_is_proper, certificate_is_true, certificate-le}
use Rattle.fewest.specs.Flows.{is_barred}
use Rattle.fewest.specs.Nens.{is_enough}
use Rattle.nen_cut.specs.Floors.{sets_beside, IsUncovered}
use Rattle.nen_cut.proofs.Enough.{enough-facts, enough-test}
use Rattle.set_search.specs.Sets.{best_of}
use Rattle.fewest_search.proofs.Needing.{standing-more}

module _ (n : ℕ) (records : List (List ℕ)) (least best : ℕ) (le : least ≤ best) where
  enough-less : (a : Assertion) → is_enough n records best a ≡ true → is_enough n records least a ≡ true
  enough-less a h =
      let e = enough-facts n records best a h in
      let reaches = e.reaches in
      enough-test n records least a (record { proper = e.proper; some = e.some; reaches = omega (arith, le, reaches) })

  barred-less : (set c : ℕ) → is_barred n records best set c ≡ true → is_barred n records least set c ≡ true
  barred-less set c b =
      let (w, m, t) = from_list_any (λ w. is_enough n records best (Neb w c) && not (has (more set c) w)) (candidates n) b in
      let (enough, out) = and_parts (is_enough n records best (Neb w c)) (not (has (more set c) w)) t in
      list_any-member (λ w. is_enough n records least (Neb w c) && not (has (more set c) w)) {x = w} m
      (and_from (is_enough n records least (Neb w c)) (not (has (more set c) w)) (enough-less (Neb w c) enough) out)

  -- the NEBs let no more sets stand
  pub beside-less : (winner : ℕ) → sets_beside n records winner least ≤ sets_beside n records winner best
  beside-less winner =
      standing-more n winner (λ set c. not (is_barred n records least set c)) (λ set c. not (is_barred n records best set c)) (λ set c t.
      not_from_false (is_barred n records best set c) (false_from_ne_true (is_barred n records best set c) (λ b.
      both_ways (is_barred n records least set c) (not-true (is_barred n records least set c) t) (barred-less set c b))))

-- the certificate is complete up to the best margin
pub never-uncovered : (n winner : ℕ) (records : List (List ℕ)) (least : ℕ) → least ≤ best_of n records winner → 0 < best_of n records winner →
    IsUncovered n winner records least → ⊥
never-uncovered n winner records least le some none =
    let best = best_of n records winner in
    let list = certificate_assertions n records winner in
    none list (record {
      enough = list_all-each (is_enough n records least) list (λ a m.
          enough-less n records least best le a
          (and_from (is_proper n a) (is_true records a && nat_le best (true_margin records a))
          (from_list_all (is_proper n) m (certificate_is_proper n winner records))
          (and_from (is_true records a) (nat_le best (true_margin records a)) (from_list_all (is_true records) m (certificate_is_true n winner records))
          (le-leb best (true_margin records a) (certificate-le n winner records a m)))));
      covering = certificate_covers n winner records some;
    })
