-- Every file has an answer, and if the budget is enough, one that no budget spoils.
use Rattle.std.proofs.Common.{◌≡◌, ℕ, ◌+◌, ◌<◌, Bool, true, false, if◌then◌else◌, nat_lt, ◌==◌, List, [], ◌∷◌, length, Option, Some, None, Ok, Err, MatchBool, inl, inr, refl, sym, ap, subst, arith, ◌∙◌}
use Rattle.std.specs.Prelude.{option_and_then}
use Rattle.std.proofs.lemmas.Bool.{cases_Bool}
use Rattle.irv_base.specs.Orders.{is_order}
use Rattle.irv_base.specs.Tabulation.{is_tabulated}
use Rattle.irv_base.proofs.Tabulated.{tabulated_exists}
use Rattle.irv_base.proofs.Orders.{last_split, order_facts}
use Rattle.assertions.specs.declared.assertion.Assertion.{Assertion}
use Rattle.assertions.specs.declared.assertion.Claim.{Claim}
use Rattle.assertions.specs.Assertions.{margin}
use Rattle.assertions.specs.Hardness.{low, refuter}
use Rattle.budget.specs.declared.budget.Budget.{Budget}
use Rattle.ballots.specs.Ballots.{BallotFile}
use Rattle.assertion_file.specs.Content.{Content, Plan, IsSound, candidate_count}
use Rattle.cover_checker.specs.Covers.{IsEnough, verdict_on, standing_order}
use Rattle.cover_checker.specs.Findings.{Answer, is_about, assertions_of, has_other_margin, other_margin_from, unless_covered, uncovered, smallest_margin, elects, other_winner, other_margin, other_smallest, elected, elected_by, harder, harder_than, refuted_by, are_same_draws, other_draws_from, other_draws}
use Rattle.cover_checker.specs.Draws.{clean_draws_of}
use Rattle.cover_checker.specs.Checks.{Judges, IsAnswer, checked_is, first_found}
use Rattle.cover_checker.specs.declared.cover.Verdict.{Verdict}
use Rattle.cover_checker.specs.declared.cover.Verdict.TheVariants.{Covered, Stands}
use Rattle.cover_checker.specs.declared.checked.Checked.{Checked}
use Rattle.cover_checker.specs.declared.checked.Checked.TheVariants.{OtherContest, OtherWinner, OtherMargin, NotLeast, NotAlternative, OtherDraws, Accepted}
use Rattle.cover_checker.specs.declared.checked.CheckFault.{CheckFault}
use Rattle.cover_checker.proofs.Answered.{from_answer, judged}
use Rattle.cover_checker.proofs.Same.{from_about}
use Rattle.cover_checker.proofs.Enough.{enough-verdict}

-- ---- there is an answer
module _ (budget : Budget) (ballots : BallotFile) (file : Content) where
  abbrev HasAnswer : Type 0
  HasAnswer = (answer : Answer) × IsAnswer budget ballots file answer

  by_order : is_about ballots file ≡ true → (order : List ℕ) → 0 < length ballots.candidates → is_order (length ballots.candidates) order ≡ true →
      is_tabulated ballots.rankings order ≡ true → HasAnswer
  by_order about [] some whole tab = absurd (omega (arith, some, (order_facts (length ballots.candidates) [] whole).long))
  by_order about (x ∷ xs) some whole tab =
      let (before, winner, e) = last_split x xs in
      let answer = checked_is budget ballots.rankings file winner in (
        answer,
        judged budget ballots file about answer (record {
          winner = winner;
          tabulated = record { order = x ∷ xs; permutation = whole; tabulated = tab; elects = (before, e) };
          answer_is = refl;
        }),
      )

  abbrev elsewhere : Answer
  elsewhere = Ok OtherContest

  by_contest : is_about ballots file ≡ false → HasAnswer
  by_contest f =
      let same : elsewhere ≡ elsewhere = refl in
      (elsewhere, subst (λ b. MatchBool b (Judges budget ballots file elsewhere) (elsewhere ≡ elsewhere)) (sym f) same)

  pub answer_exists : IsSound file → HasAnswer
  answer_exists sound =
      elim (cases_Bool (is_about ballots file)) [
        | inr f ↦ by_contest f
        | inl t ↦
            let same : length file.candidates ≡ length ballots.candidates = ap length (from_about ballots file t).candidates in
            let o = tabulated_exists (length ballots.candidates) ballots.rankings in
            by_order t o.0 (omega (arith, sound.fewest)) o.1 o.2
      ]

-- ---- no other finding is a fault
abbrev pub NeverFails : Option Answer → Type 0
NeverFails found = (fault : CheckFault) → found ≡ Some (Err fault) → ⊥

from_failed : (found : Option Answer) (more : List (Option Answer)) (fault : CheckFault) → NeverFails found →
    first_found (found ∷ more) (Ok Accepted) ≡ Err fault → first_found more (Ok Accepted) ≡ Err fault
from_failed None more fault never h = h
from_failed (Some (Ok checked)) more fault never h = cc
from_failed (Some (Err other)) more fault never h = absurd (never other refl)

unless-never : (b : Bool) (checked : Checked) → NeverFails (if b then None else Some (Ok checked))
unless-never true checked fault h = cc
unless-never false checked fault h = cc

when-never : (b : Bool) (checked : Checked) → NeverFails (if b then Some (Ok checked) else None)
when-never true checked fault h = cc
when-never false checked fault h = cc

found-at : List (List ℕ) → ℕ → Claim → Option Answer
found-at records at claim = Some (Ok (OtherMargin at (margin records claim.assertion)))

pub margins-never : (records : List (List ℕ)) (at : ℕ) (claims : List Claim) → NeverFails (other_margin_from records at claims)
unfolding found-at
margins-never records at [] fault h = cc
margins-never records at (claim ∷ claims) fault h = go (has_other_margin records claim) (margins-never records (at + 1) claims fault) h where
  go : (b : Bool) → (other_margin_from records (at + 1) claims ≡ Some (Err fault) → ⊥) →
      (if b then found-at records at claim else other_margin_from records (at + 1) claims) ≡ Some (Err fault) → ⊥
  go true rest k = cc
  go false rest k = rest k

elected-never : (file : Content) → NeverFails (elected file)
elected-never file = by file.order where
  by : (order : Option (List ℕ)) → NeverFails (option_and_then (elected_by file) order)
  by None fault h = cc
  by (Some order) fault h = when-never (elects order file.winner) NotAlternative fault h

than-never : (records : List (List ℕ)) (file : Content) (order : List ℕ) → NeverFails (harder_than records file order)
than-never records file order fault h = go (nat_lt file.margin (low (candidate_count file) records order))
    (refuter (candidate_count file) records order) h where
      go : (b : Bool) (o : Option Assertion) → (if b then refuted_by (low (candidate_count file) records order) o else None) ≡ Some (Err fault) → ⊥
      go true None k = cc
      go true (Some a) k = cc
      go false o k = cc

harder-never : (records : List (List ℕ)) (file : Content) → NeverFails (harder records file)
harder-never records file = by file.order where
  by : (order : Option (List ℕ)) → NeverFails (option_and_then (harder_than records file) order)
  by None fault h = cc
  by (Some order) fault h = than-never records file order fault h

draws-from-never : (plan : Plan) (at : ℕ) (claims : List Claim) (draws : List (Option ℕ)) → NeverFails (other_draws_from plan at claims draws)
draws-from-never plan at [] draws fault h = cc
draws-from-never plan at (claim ∷ claims) [] fault h = cc
draws-from-never plan at (claim ∷ claims) (d ∷ draws) fault h =
    go (are_same_draws (clean_draws_of plan claim) d) (clean_draws_of plan claim) (draws-from-never plan (at + 1) claims draws fault) h
  where
    go : (b : Bool) (found : Option ℕ) → (other_draws_from plan (at + 1) claims draws ≡ Some (Err fault) → ⊥) →
        (if b then other_draws_from plan (at + 1) claims draws else Some (Ok (OtherDraws at found))) ≡ Some (Err fault) → ⊥
    go true found rest k = rest k
    go false found rest k = cc

draws-never : (file : Content) → NeverFails (other_draws file)
draws-never file = by file.plan where
  by : (plan : Option Plan) → NeverFails (option_and_then (λ plan. other_draws_from plan 1 file.claims plan.draws) plan)
  by None fault h = cc
  by (Some plan) fault h = draws-from-never plan 1 file.claims plan.draws fault h

uncovered-never : (budget : Budget) (file : Content) → IsEnough budget (candidate_count file) file.winner (assertions_of file) →
    NeverFails (uncovered budget file)
uncovered-never budget file enough fault h =
    go (verdict_on (standing_order (candidate_count file) file.winner (assertions_of file)))
    (ap unless_covered (sym (enough-verdict (candidate_count file) file.winner (assertions_of file) budget enough)) ∙ h)
  where
    go : (v : Verdict) → unless_covered (Ok v) ≡ Some (Err fault) → ⊥
    go Covered k = cc
    go (Stands order) k = cc

-- ---- a budget that is enough never runs out
module _ (budget : Budget) (ballots : BallotFile) (file : Content) (fault : CheckFault)
    (enough : IsEnough budget (candidate_count file) file.winner (assertions_of file)) where
  by_winner : (winner : ℕ) → checked_is budget ballots.rankings file winner ≡ Err fault → ⊥
  by_winner winner h =
      let records = ballots.rankings in
      let rest-harder : List (Option Answer) = other_draws file ∷ [] in
      let rest-elected : List (Option Answer) = harder records file ∷ other_draws file ∷ [] in
      let rest-smallest : List (Option Answer) = elected file ∷ harder records file ∷ other_draws file ∷ [] in
      let rest-cover : List (Option Answer) = other_smallest file ∷ elected file ∷ harder records file ∷ other_draws file ∷ [] in
      let rest-margin : List (Option Answer) = uncovered budget file ∷ other_smallest file ∷ elected file ∷ harder records file ∷ other_draws file ∷ [] in
      let rest-winner : List (Option Answer) = other_margin records file ∷ uncovered budget file ∷ other_smallest file ∷ elected file ∷ harder records file ∷
      other_draws file ∷ [] in
      let a = from_failed (other_winner winner file) rest-winner fault (unless-never (file.winner == winner) (OtherWinner winner)) h in
      let b = from_failed (other_margin records file) rest-margin fault (margins-never records 1 file.claims) a in
      let c = from_failed (uncovered budget file) rest-cover fault (uncovered-never budget file enough) b in
      let d = from_failed (other_smallest file) rest-smallest fault
      (unless-never (smallest_margin file == file.margin) (NotLeast (smallest_margin file))) c in
      let e = from_failed (elected file) rest-elected fault (elected-never file) d in
      let f = from_failed (harder records file) rest-harder fault (harder-never records file) e in
      let g : Ok Accepted ≡ Err fault = from_failed (other_draws file) [] fault (draws-never file) f in
      cc

  abbrev failed : Answer
  failed = Err fault

  pub answer_never_fault : IsAnswer budget ballots file (Err fault) → ⊥
  answer_never_fault h =
      elim (cases_Bool (is_about ballots file)) [
        | inr f ↦
            let other : failed ≡ Ok OtherContest = subst (λ b. MatchBool b (Judges budget ballots file failed) (failed ≡ Ok OtherContest)) f h in
            cc
        | inl t ↦ let j = from_answer budget ballots file t (Err fault) h in by_winner j.winner j.answer_is
      ]
