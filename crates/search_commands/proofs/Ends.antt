-- A search has an end, and so does a tabulation: a tie exactly if the contest isn't decided.
use Rattle.std.proofs.Common.{◌≡◌, ◌↔◌, ◌⊎◌, inl, inr, ℕ, zero, suc, ◌<◌, ◌≤◌, List, Option, refl, sym, subst, arith}
use Rattle.std.proofs.lemmas.Bool.{cases_eq, cases_lt}
use Rattle.budget.specs.declared.budget.Budget.{Budget}
use Rattle.budget.specs.declared.budget.Budget.TheVariants.{Nodes, Sets}
use Rattle.irv_base.specs.declared.limits.TheConstants.{FEWEST_CANDIDATES}
use Rattle.irv_base.proofs.Ties.{tie_or_none}
use Rattle.irv_base.proofs.Decided.{no_tie_is_decided}
use Rattle.assertions.specs.Hardness.{first_bound, start_order}
use Rattle.assertions.proofs.Alternatives.{order_is}
use Rattle.assertions.proofs.Decided.{decided-positive, positive-decided, decided_exactly}
use Rattle.assertions.proofs.Endings.{alternative_orders_are}
use Rattle.ballots.specs.Ballots.{BallotFile}
use Rattle.assertion_file.specs.Text.{assertion_file_text}
use Rattle.report.specs.Ends.{spent_sets_text, spent_text, tie_text}
use Rattle.report.specs.Tabulations.{tabulation_text}
use Rattle.cli_base.specs.Outcome.{Verdict, Answered, One}
use Rattle.cli_base.specs.declared.outcome.AnswerKind.TheVariants.{Done, Tie, Spent, FullCount}
use Rattle.command.specs.declared.plan_terms.PlanTerms.{PlanTerms}
use Rattle.contest_search.specs.Budget.{certificate_nodes, sets_of, IsInBudget, IsTold}
use Rattle.contest_search.specs.Certificate.{low_of, margin_of}
use Rattle.contest_search.specs.Contest.{candidate_count, IsElected, IsOther, IsUndecided, IsWon}
use Rattle.contest_search.proofs.Certificates.{won-certificate}
use Rattle.contest_search.proofs.Contests.{winner-below, winner-one, winner_exists}
use Rattle.contest_search.proofs.Findings.{best-first}
use Rattle.search_commands.specs.Ends.{HasTie, HasSpent, HasSpentSets}
use Rattle.search_commands.specs.Search.{full_count_text, printed, Finds, HasCertificate, HasFullCount}
use Rattle.search_commands.specs.Tabulate.{HasRounds, HasStopped, Tabulates}

-- ---- the contest

tie_exists : (ballots : BallotFile) (winner : ℕ) → IsWon ballots winner → IsUndecided ballots → (text : List ℕ) × HasTie ballots text
tie_exists ballots winner won undecided =
    let n = candidate_count ballots in
    elim (tie_or_none n ballots.rankings won.order won.permutation won.tabulated) [
      | inl (round, tied, votes, some, first) ↦ (
        tie_text ballots.candidates round tied votes,
        record {
          round = round;
          tied = tied;
          votes = votes;
          is = record { counted = some; first = first; undecided = undecided };
          shown = refl;
        },
      )
      | inr free ↦
          absurd (undecided (winner, no_tie_is_decided n winner ballots.rankings won.order won.permutation won.tabulated won.elects free))
    ]

pub undecided_has_tie : (ballots : BallotFile) → FEWEST_CANDIDATES ≤ candidate_count ballots → IsUndecided ballots →
    (text : List ℕ) × HasTie ballots text
undecided_has_tie ballots fewest undecided =
    let (winner, won) = winner_exists ballots (omega (arith, fewest)) in tie_exists ballots winner won undecided

-- the winner is elected, or there is a tie to report
elected-or_tie : (ballots : BallotFile) (winner : ℕ) → 1 < candidate_count ballots → IsWon ballots winner →
    IsElected ballots winner ⊎ ((text : List ℕ) × HasTie ballots text)
elected-or_tie ballots winner two won =
    let n = candidate_count ballots in
    let exactly = decided_exactly n winner ballots.rankings won.order two won.permutation won.tabulated won.elects in
    elim (cases_lt 0 (margin_of ballots winner)) [
      | inl lt ↦ inl (positive-decided n winner ballots.rankings (winner-below ballots winner won) two (omega (arith, lt)))
      | inr none ↦ inr (tie_exists ballots winner won (λ decided. let some = exactly.0 decided in omega (arith, none, some)))
    ]

-- ---- the smallest candidate for whom the nodes don't suffice
module _ (nodes : ℕ) (ballots : BallotFile) (winner : ℕ) where
  record IsLeastOver (last : ℕ) : Type 0 where
    named : IsOther ballots winner last
    above : nodes < certificate_nodes ballots winner last
    least : (c : ℕ) → IsOther ballots winner c → c < last → certificate_nodes ballots winner c ≤ nodes

  abbrev SufficeBelow : ℕ → Type 0
  SufficeBelow k = (c : ℕ) → IsOther ballots winner c → c < k → certificate_nodes ballots winner c ≤ nodes

  and_at : (k : ℕ) → SufficeBelow k → (IsOther ballots winner k → certificate_nodes ballots winner k ≤ nodes) → SufficeBelow (suc k)
  and_at k all at c other lt = elim (cases_lt c k) [
    | inl before ↦ all c other before
    | inr ge ↦
        let same : k ≡ c = omega (arith, lt, ge) in
        subst (λ x. certificate_nodes ballots winner x ≤ nodes) same (at (subst (IsOther ballots winner) (sym same) other))
  ]

  least_over : (k : ℕ) → k ≤ candidate_count ballots → ((last : ℕ) × IsLeastOver last) ⊎ SufficeBelow k
  least_over zero le = inr (λ c other lt. absurd (omega (arith, lt)))
  least_over (suc k) le = elim (least_over k (omega (arith, le))) [
    | inl over ↦ inl over
    | inr all ↦ elim (cases_eq k winner) [
      | inl e ↦ inr (and_at k all (λ other. absurd (other.other e)))
      | inr ne ↦ elim (cases_lt nodes (certificate_nodes ballots winner k)) [
        | inl above ↦ inl (k, record { named = record { candidate = omega (arith, le); other = ne }; above = above; least = all })
        | inr within ↦ inr (and_at k all (λ other. within))
      ]
    ]
  ]

  -- a certificate that runs out of budget there
  spent-there : (last : ℕ) → 1 < candidate_count ballots → IsWon ballots winner → IsElected ballots winner → IsLeastOver last →
      (text : List ℕ) × HasSpent (Nodes nodes) ballots text
  spent-there last two won elected over =
      let n = candidate_count ballots in
      let below = winner-below ballots winner won in
      let (order, printed, among, hard) = order_is n winner (low_of ballots) below two in
      let margin = margin_of ballots winner in
      let some : 1 ≤ margin = decided-positive n winner ballots.rankings below two elected in (
        spent_text ballots.candidates last order margin,
        record {
          last = last;
          order = order;
          margin = margin;
          is = record {
            winner = winner;
            won = won;
            named = over.named;
            cause = inr (record { above = over.above; least = over.least; best = refl });
            alternative = (alternative_orders_are n winner order).0 among;
            hardness = sym hard;
            within = best-first n winner ballots.rankings won.order two won.permutation won.elects;
            some = some;
          };
          shown = refl;
        },
      )

-- ---- the order that a search starts with
first-hard : (ballots : BallotFile) (winner : ℕ) (won : IsWon ballots winner) → 1 < candidate_count ballots → IsElected ballots winner →
    1 ≤ first_bound (candidate_count ballots) ballots.rankings won.order
first-hard ballots winner won two elected =
    let n = candidate_count ballots in
    let some : 1 ≤ margin_of ballots winner = decided-positive n winner ballots.rankings (winner-below ballots winner won) two elected in
    let first = best-first n winner ballots.rankings won.order two won.permutation won.elects in
    omega (arith, some, first)

told_within : (budget : Budget) (ballots : BallotFile) (winner : ℕ) → IsWon ballots winner → IsInBudget ballots winner budget → IsTold budget ballots
told_within (Nodes nodes) ballots winner won within = tt
told_within (Sets sets) ballots winner won within = record { winner = winner; won = won; within = λ some. within }

-- ---- a search
module _ (floor : ℕ) (plan : Option PlanTerms) (ballots : BallotFile) where
  abbrev Ends : Budget → Type 0
  Ends budget = (verdict : Verdict) × Finds budget floor plan ballots verdict

  abbrev EndsUnspent : Budget → Type 0
  EndsUnspent budget = (verdict : Verdict) × Finds budget floor plan ballots verdict × (One (HasSpent budget ballots) Spent verdict → ⊥)

  tied : (budget : Budget) → (text : List ℕ) × HasTie ballots text → IsTold budget ballots → EndsUnspent budget
  tied budget (text, tie) told = (Answered Tie text, inr (inl (text, (tie, told), refl)), λ spent. cc spent.2)

  -- within the budget
  told : (budget : Budget) (winner : ℕ) → 1 < candidate_count ballots → IsWon ballots winner → IsElected ballots winner → IsInBudget ballots winner budget →
      EndsUnspent budget
  told budget winner two won elected within =
      let (file, is) = won-certificate ballots winner won elected two in
      let within : IsInBudget ballots is.winner budget =
      subst (λ w. IsInBudget ballots w budget) (winner-one ballots winner is.winner won is.won) within in
      elim (cases_lt file.margin floor) [
        | inl lt ↦
            let text = full_count_text file floor in
            let has : HasFullCount budget floor ballots text = record { file = file; is = is; within = within; floor = lt; shown = refl } in
            (Answered FullCount text, inr (inr (inr (text, has, refl))), λ spent. cc spent.2)
        | inr ge ↦
            let text = assertion_file_text (printed plan file) in
            let has : HasCertificate budget floor plan ballots text = record { file = file; is = is; within = within; floor = ge; shown = refl } in
            (Answered Done text, inl (text, has, refl), λ spent. cc spent.2)
      ]

  by-nodes : (nodes winner : ℕ) → 1 < candidate_count ballots → IsWon ballots winner → Ends (Nodes nodes)
  by-nodes nodes winner two won = elim (elected-or_tie ballots winner two won) [
    | inl elected ↦ elim (least_over nodes ballots winner (candidate_count ballots) (omega arith)) [
      | inl (last, over) ↦
          let (text, spent) = spent-there nodes ballots winner last two won elected over in (Answered Spent text, inr (inr (inl (text, spent, refl))))
      | inr all ↦
          let end = told (Nodes nodes) winner two won elected (λ c other. all c other other.candidate) in (end.0, end.1)
    ]
    | inr tie ↦ let end = tied (Nodes nodes) tie tt in (end.0, end.1)
  ]

  -- the search needs more sets
  by-sets-above : (sets winner : ℕ) → 1 < candidate_count ballots → (won : IsWon ballots winner) → sets < sets_of ballots winner → Ends (Sets sets)
  by-sets-above sets winner two won above = elim (cases_lt 0 (first_bound (candidate_count ballots) ballots.rankings won.order)) [
    | inl some ↦
        let margin = first_bound (candidate_count ballots) ballots.rankings won.order in
        let text = spent_sets_text ballots.candidates sets (start_order won.order) margin in
        let spent : HasSpentSets sets ballots text = record {
          order = start_order won.order;
          margin = margin;
          is = record { winner = winner; won = won; above = above; start = refl; hardness = refl; some = omega (arith, some) };
          shown = refl;
        } in
        (Answered Spent text, inr (inr (inl (text, spent, refl))))
    | inr none ↦ elim (elected-or_tie ballots winner two won) [
      | inl elected ↦ let hard = first-hard ballots winner won two elected in absurd (omega (arith, none, hard))
      | inr tie ↦
          let end = tied (Sets sets) tie (record { winner = winner; won = won; within = λ some. absurd (omega (arith, none, some)) }) in
          (end.0, end.1)
    ]
  ]

  -- the budget suffices
  within-end : (budget : Budget) (winner : ℕ) → 1 < candidate_count ballots → IsWon ballots winner → IsInBudget ballots winner budget → EndsUnspent budget
  within-end budget winner two won within = elim (elected-or_tie ballots winner two won) [
    | inl elected ↦ told budget winner two won elected within
    | inr tie ↦ tied budget tie (told_within budget ballots winner won within)
  ]

  by-budget : (budget : Budget) (winner : ℕ) → 1 < candidate_count ballots → IsWon ballots winner → Ends budget
  by-budget (Nodes nodes) winner two won = by-nodes nodes winner two won
  by-budget (Sets sets) winner two won = elim (cases_lt sets (sets_of ballots winner)) [
    | inl above ↦ by-sets-above sets winner two won above
    | inr within ↦ let end = within-end (Sets sets) winner two won within in (end.0, end.1)
  ]

module _ (budget : Budget) (floor : ℕ) (plan : Option PlanTerms) (ballots : BallotFile) where
  pub end_exists : FEWEST_CANDIDATES ≤ candidate_count ballots → (verdict : Verdict) × Finds budget floor plan ballots verdict
  end_exists fewest =
      let two : 1 < candidate_count ballots = omega (arith, fewest) in
      let (winner, won) = winner_exists ballots two in
      by-budget floor plan ballots budget winner two won

  pub unspent_end_exists : (winner : ℕ) → FEWEST_CANDIDATES ≤ candidate_count ballots → IsWon ballots winner → IsInBudget ballots winner budget →
      (verdict : Verdict) × Finds budget floor plan ballots verdict × (One (HasSpent budget ballots) Spent verdict → ⊥)
  unspent_end_exists winner fewest won within = within-end floor plan ballots budget winner (omega (arith, fewest)) won within

  pub tie_iff_undecided : (verdict : Verdict) → Finds budget floor plan ballots verdict → (One (HasSpent budget ballots) Spent verdict → ⊥) →
      (One (HasTie ballots) Tie verdict ↔ IsUndecided ballots)
  tie_iff_undecided verdict found unspent = (λ tie. tie.1.is.undecided, λ undecided. by found undecided) where
    by : Finds budget floor plan ballots verdict → IsUndecided ballots → One (HasTie ballots) Tie verdict
    by (inl (text, has, e)) undecided = absurd (undecided (has.is.winner, has.is.decided))
    by (inr (inl (text, (tie, told), e))) undecided = (text, tie, e)
    by (inr (inr (inl spent))) undecided = absurd (unspent spent)
    by (inr (inr (inr (text, has, e)))) undecided = absurd (undecided (has.is.winner, has.is.decided))

-- ---- a tabulation
module _ (nodes : ℕ) (ballots : BallotFile) where
  pub tabulation_exists : FEWEST_CANDIDATES ≤ candidate_count ballots →
      (verdict : Verdict) × Tabulates nodes ballots verdict × (One (HasStopped nodes ballots) Spent verdict → ⊥)
  tabulation_exists fewest =
      let two : 1 < candidate_count ballots = omega (arith, fewest) in
      let (winner, won) = winner_exists ballots two in
      elim (elected-or_tie ballots winner two won) [
        | inl elected ↦
            let text = tabulation_text ballots won.order winner in
            let has : HasRounds ballots text = record { winner = winner; won = won; decided = elected; shown = refl } in
            (Answered Done text, inl (text, has, refl), λ stopped. cc stopped.2)
        | inr (text, tie) ↦ (Answered Tie text, inr (inl (text, tie, refl)), λ stopped. cc stopped.2)
      ]

  pub no_winner_iff_undecided : (verdict : Verdict) → Tabulates nodes ballots verdict → (One (HasStopped nodes ballots) Spent verdict → ⊥) →
      (One (HasTie ballots) Tie verdict ↔ IsUndecided ballots)
  no_winner_iff_undecided verdict tabulated unstopped = (λ tie. tie.1.is.undecided, λ undecided. by tabulated undecided) where
    by : Tabulates nodes ballots verdict → IsUndecided ballots → One (HasTie ballots) Tie verdict
    by (inl (text, has, e)) undecided = absurd (undecided (has.winner, has.decided))
    by (inr (inl tie)) undecided = tie
    by (inr (inr stopped)) undecided = absurd (unstopped stopped)
