-- The steps of an adoption.
use Rattle.std.proofs.Common.{◌≡◌, ◌∙◌, ℕ, ◌==◌, ◌<◌, Bool, true, false, not, inl, inr, List, map, find, None, Result, Err, All, refl, sym, ap, ap₂, subst, arith, eq-eqb, lt-ltb}
use Rattle.std.specs.Prelude.{IsTrue}
use Rattle.std.specs.List.{list_all}
use Rattle.std.proofs.lemmas.Bool.{cases_lt}
use Rattle.irv_base.proofs.Members.{from_list_all, list_all-each, member-map}
use Rattle.assertions.specs.declared.assertion.Assertion.{Assertion}
use Rattle.assertions.specs.declared.assertion.Claim.{Claim}
use Rattle.assertions.specs.Assertions.{is_proper, is_true, true_margin, votes_against, votes_for}
use Rattle.assertions.specs.Certificate.{claim_of}
use Rattle.budget.specs.declared.budget.Budget.{Budget}
use Rattle.cover_checker.specs.Covers.{covered_is}
use Rattle.cover_checker.specs.declared.cover.Verdict.{Verdict}
use Rattle.cover_checker.specs.declared.cover.CoverFault.{CoverFault}
use Rattle.cover_checker.specs.declared.cover.CoverFault.TheVariants.{Memory}
use Rattle.adoption.specs.Adopted.{each_once, has_margin}
use Rattle.adoption.proofs.Adopting.{none-untrue, once-all}

true-of : (records : List (List ℕ)) (a : Assertion) → has_margin (claim_of records a) ≡ true → is_true records a ≡ true
true-of records a h = elim (cases_lt (votes_against records a) (votes_for records a)) [
  | inl less ↦ lt-ltb (votes_against records a) (votes_for records a) less
  | inr more ↦
      let none : true_margin records a ≡ 0 = omega (arith, more) in
      let bad : not true ≡ true = ap not (sym (eq-eqb (true_margin records a) 0 none)) ∙ h in
      absurd cc
]

-- if each claim has a margin, no claim is found to be untrue
pub none-found : (n : ℕ) (records : List (List ℕ)) (list : List Assertion) (claims : List Claim) → All (λ a. IsTrue (is_proper n a)) list →
    claims ≡ map (claim_of records) (each_once n list) → list_all has_margin claims ≡ true → find (λ a. not (is_true records a)) list ≡ None
none-found n records list claims proper same all =
    let each : list_all has_margin (map (claim_of records) (each_once n list)) ≡ true = ap (list_all has_margin) (sym same) ∙ all in
    let hold = list_all-each (is_true records) (each_once n list)
    (λ a m. true-of records a (from_list_all has_margin (member-map (claim_of records) m) each)) in
    none-untrue records list (once-all n list (is_true records) proper hold)

pub same-claims : (n m : ℕ) (records : List (List ℕ)) (assertions other list : List Assertion) (claims weighed : List Claim) → m ≡ n →
    list ≡ each_once n assertions → other ≡ assertions → weighed ≡ map (claim_of records) list → claims ≡ weighed →
    claims ≡ map (claim_of records) (each_once m other)
same-claims n m records assertions other list claims weighed count listed is w c =
    c ∙ w ∙ ap (map (claim_of records)) (listed ∙ ap₂ each_once (sym count) (sym is))

pub same-cover : (n m winner other : ℕ) (list once : List Assertion) (budget : Budget) → m ≡ n → winner ≡ other → list ≡ once →
    covered_is m winner list budget ≡ covered_is n other once budget
same-cover n m winner other list once budget count won listed = λ i. covered_is (count i) (won i) (listed i) budget

abbrev spends : CoverFault → Result Verdict CoverFault
spends fault = Err fault

pub the-fault : (fault : CoverFault) → spends fault ≡ spends Memory → fault ≡ Memory
the-fault fault e = cc
