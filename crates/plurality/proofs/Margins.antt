-- The margins of an outcome. There is one for each loser, from one vote up to the number of records.
use Rattle.std.proofs.Common.{◌≡◌, ◌==◌, inl, inr, ℕ, ◌≤◌, Ok, List, [], ◌∷◌, All, length, sym, subst, arith, eqb-true}
use Rattle.std.proofs.lemmas.Bool.{cases_Bool, eqb-false}
use Rattle.std.proofs.lemmas.List.{length-map}
use Rattle.std.proofs.lemmas.List.Elements.{All-map}
use Rattle.std.proofs.lemmas.List.Sums.{count_by-le-length}
use Rattle.irv_base.specs.Candidates.{all_but}
use Rattle.irv_base.specs.Records.{is_first}
use Rattle.plurality.specs.Plurality.{leaders}
use Rattle.plurality.specs.Plural.{Outcome, margin, outcome_of, won_by}
use Rattle.plurality.proofs.Leads.{all-members, from_rival, rival}
use Rattle.plurality.proofs.Winners.{alone-wins, from_won, some-member}

some-rival : (n winner : ℕ) → 2 ≤ n → 1 ≤ length (all_but n winner)
some-rival n winner two = elim (cases_Bool (winner == 0)) [
  | inl first ↦ let zero = eqb-true winner 0 first in some-member (all_but n winner) 1 (rival n winner 1 (omega arith) (λ e. omega (arith, e, zero)))
  | inr later ↦ let other = eqb-false winner 0 later in some-member (all_but n winner) 0 (rival n winner 0 (omega arith) (λ e. other (sym e)))
]

module _ (n : ℕ) (records : List (List ℕ)) (outcome : Outcome) (is : outcome_of n records ≡ Ok outcome) where
  found : (winner : ℕ) × (leaders n records ≡ winner ∷ []) × (outcome ≡ won_by n records winner)
  found = from_won n records (leaders n records) outcome is

  pub margin_each : length outcome.margins ≡ length outcome.losers
  margin_each =
      let (winner, alone, same) = found in
      subst (λ (o : Outcome). length o.margins ≡ length o.losers) (sym same) (length-map (all_but n winner) (margin n records winner))

  pub some_margin : 2 ≤ n → 1 ≤ length outcome.margins
  some_margin two =
      let (winner, alone, same) = found in
      let long = length-map (all_but n winner) (margin n records winner) in
      let some = some-rival n winner two in
      subst (λ (o : Outcome). 1 ≤ length o.margins) (sym same) (omega (arith, long, some))

  pub margins_fit : All (λ margin. (1 ≤ margin) × (margin ≤ length records)) outcome.margins
  margins_fit =
      let (winner, alone, same) = found in
      let fits : ℕ → Type 0 = λ votes. (1 ≤ votes) × (votes ≤ length records) in
      subst (λ (o : Outcome). All (λ votes. (1 ≤ votes) × (votes ≤ length records)) o.margins) (sym same)
      (All-map fits (margin n records winner) (all_but n winner) (all-members (λ loser. fits (margin n records winner loser)) (all_but n winner) (λ loser m.
      let (below, differs) = from_rival n winner loser m in
      let fewer = alone-wins n records winner alone loser below differs in
      let most = count_by-le-length (λ ranking. is_first ranking winner) records in
      (omega (arith, fewer), omega (arith, most)))))
