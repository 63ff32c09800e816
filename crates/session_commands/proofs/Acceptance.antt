-- The test of acceptance is the checker's.
use Rattle.std.proofs.Common.{◌≡◌, ◌↔◌, ℕ, zero, suc, ◌-◌, Bool, true, ◌&&◌, if◌then◌else◌, List, [], ◌∷◌, ◌++◌, length, Option, None, Some, is_none, Ok, MatchBool, refl, sym, ap, subst, ◌∙◌, inl, inr, arith, append_assoc, length-append}
use Rattle.std.specs.Prelude.{⊤}
use Rattle.std.specs.List.{list_all}
use Rattle.std.proofs.lemmas.Bool.{and_parts, and_from, cases_Bool}
use Rattle.irv_base.specs.Candidates.{candidates, is_in}
use Rattle.irv_base.specs.Orders.{is_order, EndsIn}
use Rattle.irv_base.specs.Tabulation.{is_tabulated}
use Rattle.irv_base.proofs.Distinct.{Distinct}
use Rattle.irv_base.proofs.Members.{Member, member_cases, member_nil, from_flat_map, from_list_any, list_any-member}
use Rattle.irv_base.proofs.Orders.{order_facts}
use Rattle.assertions.specs.Suffixes.{orders_ending}
use Rattle.assertions.proofs.Endings.{orders_ending-member}
use Rattle.budget.specs.declared.budget.Budget.{Budget}
use Rattle.ballots.specs.Ballots.{BallotFile}
use Rattle.assertion_file.specs.Content.{Content}
use Rattle.cover_checker.specs.Outcomes.{IsWinner}
use Rattle.cover_checker.specs.Findings.{Answer, is_about, other_winner}
use Rattle.cover_checker.specs.Checks.{Judges, IsAnswer, checked_is, findings, first_found}
use Rattle.cover_checker.specs.declared.checked.Checked.TheVariants.{OtherContest, Accepted}
use Rattle.cover_checker.proofs.Answered.{from_answer, judged}
use Rattle.cover_checker.proofs.Nothing.{NeverAccepts, winner-none, winner-never, margins-never, covered-never, smallest-never, elected-never, harder-never, draws-never}
use Rattle.session_commands.specs.Accepted.{is_won, is_accepted}

-- ---- the winner

ends_in : (n k : ℕ) (t order : List ℕ) → Member order (orders_ending n k t) → EndsIn order t
ends_in n zero t order m = elim (member_cases m) [ inl e ↦ ([], sym e) | inr r ↦ absurd (member_nil r) ]
ends_in n (suc k) t order m =
    let (c, inn, k') = from_flat_map (λ c. if is_in t c then [] else orders_ending n k (c ∷ t)) order (candidates n) m in
    elim (cases_Bool (is_in t c)) [
      | inl yes' ↦ absurd (member_nil (rw yes' at k'))
      | inr f ↦
          let m' : Member order (orders_ending n k (c ∷ t)) = rw f at k' in
          let (before, e) = ends_in n k (c ∷ t) order m' in
          (before ++ c ∷ [], e ∙ sym (append_assoc before (c ∷ []) t))
    ]

module _ (ballots : BallotFile) (winner : ℕ) where
  abbrev n : ℕ
  n = length ballots.candidates

  abbrev is_it : List ℕ → Bool
  is_it order = is_order n order && is_tabulated ballots.rankings order

  from_won : is_won ballots winner ≡ true → IsWinner (length ballots.candidates) ballots.rankings winner
  from_won h =
      let (order, m, test) = from_list_any is_it (orders_ending n (n - 1) (winner ∷ [])) h in
      let (permutation, tabulated) = and_parts (is_order n order) (is_tabulated ballots.rankings order) test in
      record { order = order; permutation = permutation; tabulated = tabulated; elects = ends_in n (n - 1) (winner ∷ []) order m }

  won_from : IsWinner (length ballots.candidates) ballots.rankings winner → is_won ballots winner ≡ true
  won_from won =
      let (before, e) = won.elects in
      let facts = order_facts n won.order won.permutation in
      let long : length before ≡ n - 1 = omega (arith, facts.long, ap length e, length-append before (winner ∷ [])) in
      let m = orders_ending-member n (n - 1) before (winner ∷ []) long (subst Distinct e facts.apart) (λ c k. facts.below c (subst (Member c) (sym e) k)) in
      list_any-member is_it {x = won.order} (subst (λ o. Member o (orders_ending n (n - 1) (winner ∷ []))) (sym e) m)
      (and_from (is_order n won.order) (is_tabulated ballots.rankings won.order) won.permutation won.tabulated)

-- ---- what is found

abbrev AllNever : List (Option Answer) → Type 0
AllNever [] = ⊤
AllNever (found ∷ more) = NeverAccepts found × AllNever more

nothing_found : (found : List (Option Answer)) → list_all is_none found ≡ true → first_found found (Ok Accepted) ≡ Ok Accepted
nothing_found [] h = refl
nothing_found (None ∷ more) h = nothing_found more h
nothing_found (Some answer ∷ more) h = absurd cc

all_none : (found : List (Option Answer)) → AllNever found → first_found found (Ok Accepted) ≡ Ok Accepted → list_all is_none found ≡ true
all_none [] never h = refl
all_none (None ∷ more) never h = all_none more never.1 h
all_none (Some answer ∷ more) never h = absurd (never.0 (ap Some h))

never_accept : (budget : Budget) (records : List (List ℕ)) (file : Content) (winner : ℕ) → AllNever (findings budget records file winner)
never_accept budget records file winner = (
  winner-never winner file,
  (
    margins-never records 1 file.claims,
    (covered-never _, (smallest-never file, (elected-never file, (harder-never records file, (draws-never file, tt))))),
  ),
)

same_winner : (budget : Budget) (records : List (List ℕ)) (file : Content) (winner : ℕ) → list_all is_none (findings budget records file winner) ≡ true →
    file.winner ≡ winner
same_winner budget records file winner h =
    winner-none winner file (none_is (other_winner winner file) (and_parts (is_none (other_winner winner file)) _ h).0) where
      none_is : (found : Option Answer) → is_none found ≡ true → found ≡ None
      none_is None h = refl
      none_is (Some answer) h = absurd cc

-- ---- the answer

abbrev yes : Answer
yes = Ok Accepted

yes-isnt-other : yes ≡ Ok OtherContest → ⊥
yes-isnt-other e = cc e

module _ (budget : Budget) (ballots : BallotFile) (file : Content) where
  accepts : is_accepted budget ballots file ≡ true → IsAnswer budget ballots file (Ok Accepted)
  accepts h =
      let (head, none) = and_parts (is_about ballots file && is_won ballots file.winner) _ h in
      let (about, won) = and_parts (is_about ballots file) (is_won ballots file.winner) head in
      judged budget ballots file about (Ok Accepted) (record {
        winner = file.winner;
        tabulated = from_won ballots file.winner won;
        answer_is = nothing_found (findings budget ballots.rankings file file.winner) none;
      })

  by_winner : is_about ballots file ≡ true → (winner : ℕ) → IsWinner (length ballots.candidates) ballots.rankings winner →
      checked_is budget ballots.rankings file winner ≡ Ok Accepted → is_accepted budget ballots file ≡ true
  by_winner about winner won e =
      let none = all_none (findings budget ballots.rankings file winner) (never_accept budget ballots.rankings file winner) e in
      let same : file.winner ≡ winner = same_winner budget ballots.rankings file winner none in
      let own : is_won ballots file.winner ≡ true = subst (λ w. is_won ballots w ≡ true) (sym same) (won_from ballots winner won) in
      let none' : list_all is_none (findings budget ballots.rankings file file.winner)
      ≡ true = subst (λ w. list_all is_none (findings budget ballots.rankings file w) ≡ true) (sym same) none in
      and_from (is_about ballots file && is_won ballots file.winner) _ (and_from (is_about ballots file) (is_won ballots file.winner) about own) none'

  accepted : IsAnswer budget ballots file (Ok Accepted) → is_accepted budget ballots file ≡ true
  accepted h = elim (cases_Bool (is_about ballots file)) [
    | inl t ↦ let j = from_answer budget ballots file t (Ok Accepted) h in by_winner t j.winner j.tabulated j.answer_is
    | inr f ↦
        absurd (yes-isnt-other (subst (λ b. MatchBool b (Judges budget ballots file yes) (yes ≡ Ok OtherContest)) f h))
  ]

  pub decided : (is_accepted budget ballots file ≡ true) ↔ IsAnswer budget ballots file (Ok Accepted)
  decided = (accepts, accepted)
