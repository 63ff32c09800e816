-- What a search finds, given what its parts answer.
use Rattle.std.proofs.Common.{◌≡◌, ◌↔◌, inl, inr, ℕ, ◌<◌, ◌≤◌, true, List, length, All, Some, None, refl, sym, ap, subst, arith, ltb-true, ◌∙◌}
use Rattle.std.proofs.lemmas.List.Sums.{count_by-le-length}
use Rattle.budget.specs.declared.budget.Budget.{Budget}
use Rattle.budget.specs.declared.budget.Budget.TheVariants.{Nodes, Sets}
use Rattle.irv_base.specs.Orders.{is_order, Elects}
use Rattle.irv_base.specs.Tabulation.{IsDecided, HasNoTie}
use Rattle.irv_base.proofs.Decided.{no_tie_is_decided}
use Rattle.irv_base.proofs.Ties.{tie_and_none}
use Rattle.irv_base.specs.Records.{is_first, is_some_of, top}
use Rattle.irv_base.proofs.Members.{Member, from_list_all, from_map, member-from_contains}
use Rattle.assertions.specs.declared.assertion.Assertion.{Assertion}
use Rattle.assertions.specs.declared.assertion.Assertion.TheVariants.{Neb, Nen}
use Rattle.assertions.specs.declared.assertion.Claim.{Claim}
use Rattle.assertions.specs.Assertions.{votes_for, votes_against, true_margin, is_proper, is_true}
use Rattle.assertions.specs.Certificate.{certificate_assertions, certificate_claims, certificate_order, order_count, claim_of}
use Rattle.assertions.specs.Hardness.{low, best_margin, start_order, first_bound}
use Rattle.assertions.specs.Suffixes.{IsAlternative, alternative_orders}
use Rattle.assertions.proofs.Alternatives.{best-le, order_is}
use Rattle.assertions.proofs.Certificates.{certificate_is_proper, certificate_is_true, certificate_has_best}
use Rattle.assertions.proofs.Endings.{alternative_orders_are}
use Rattle.assertions.proofs.Listings.{start_is_alternative}
use Rattle.assertions.proofs.Decided.{decided_exactly, positive-decided}
use Rattle.ballots.specs.Ballots.{BallotFile}
use Rattle.assertion_file.specs.Content.{Content, IsMargin, IsSoundClaim}
use Rattle.set_tallies.specs.Bags.{Kept, IsOf}
use Rattle.irv_tabulator.specs.Results.{IsTabulation, IsTieOf}
use Rattle.irv_tabulator.specs.declared.tabulated.FirstTie.{FirstTie}
use Rattle.irv_tabulator.specs.declared.tabulated.Tabulated.{Tabulated}
use Rattle.bound_search.specs.Race.{work_for, IsBest, IsTooMuch}
use Rattle.bound_search.specs.declared.ends.RaceEnd.{RaceEnd}
use Rattle.cover_checker.proofs.Held.{all-from_members}
use Rattle.certifier.specs.Certified.{IsWithin, IsOver, IsCertified, IsSpent as IsOverBudget}
use Rattle.certifier.specs.declared.certificate.Certificate.{Certificate}
use Rattle.set_search.specs.Answers.{IsCertified as AreCertified, IsUndecided as AreUndecided, IsSpent as AreSpent}
use Rattle.contest_search.specs.Budget.{order_count_of, certificate_nodes, IsInBudget, IsTold, IsSpent, IsSpentBySetsIn}
use Rattle.contest_search.specs.Certificate.{low_of, margin_of, order_of, certificate_of}
use Rattle.contest_search.specs.Contest.{candidate_count, IsElected, IsTie, IsUndecided, IsWon}
use Rattle.contest_search.specs.Found.{IsFoundIn, IsCounted, IsBestOf, IsPrintable, content_of}
use Rattle.contest_search.proofs.Contests.{winner-below}

-- ---- the winner

tabulation_of : (ballots : BallotFile) (bag : Kept) (t : Tabulated) → IsCounted ballots bag t → IsTabulation (candidate_count ballots) ballots.rankings t
tabulation_of ballots bag t c = subst (λ n. IsTabulation n ballots.rankings t) c.candidates (c.tabulated ballots.rankings c.records)

abbrev pub won_by : (ballots : BallotFile) (t : Tabulated) → IsTabulation (candidate_count ballots) ballots.rankings t → IsWon ballots t.winner
won_by ballots t is = record { order = t.order; permutation = is.order; tabulated = is.tabulated; elects = is.winner }

best_of : (ballots : BallotFile) (bag : Kept) (t : Tabulated) (end : RaceEnd) → IsCounted ballots bag t → IsBestOf bag t end →
    IsBest (candidate_count ballots) ballots.rankings t.winner end
best_of ballots bag t end c best = subst (λ n. IsBest n ballots.rankings t.winner end) c.candidates (best ballots.rankings c.records)

-- ---- a search that runs out of budget

pub race-spent : (ballots : BallotFile) (t : Tabulated) (nodes last upper : ℕ) (order : List ℕ) → IsTabulation (candidate_count ballots) ballots.rankings t →
    IsTooMuch (candidate_count ballots) ballots.rankings t nodes last upper order → IsSpent nodes ballots last order upper
race-spent ballots t nodes last upper order is much =
    let more : nodes < work_for (candidate_count ballots) ballots.rankings t.order last = much.more in
    record {
      winner = t.winner;
      won = won_by ballots t is;
      named = record { candidate = much.candidate; other = much.other };
      cause = inl (record { above = more });
      alternative = much.alternative;
      hardness = sym much.hardness;
      within = much.reached;
      some = much.some;
    }

-- the start order is one of those that elect another candidate
pub best-first : (n winner : ℕ) (records : List (List ℕ)) (order : List ℕ) → 1 < n → is_order n order ≡ true → Elects order winner →
    best_margin n winner (low n records) ≤ first_bound n records order
best-first n winner records order two o ends =
    best-le n winner (low n records) (start_order order) (member-from_contains (start_order order) (alternative_orders n winner)
    ((alternative_orders_are n winner (start_order order)).1 (start_is_alternative n winner order two o ends)))

over-above : (ballots : BallotFile) (winner nodes last : ℕ) (order : List ℕ) → order_of ballots winner ≡ Some order →
    IsOver (candidate_count ballots) (low_of ballots) (margin_of ballots winner) order nodes last → nodes < certificate_nodes ballots winner last
over-above ballots winner nodes last order is (inl cover) = omega (arith, cover)
over-above ballots winner nodes last order is (inr count) =
    let same : order_count_of ballots (margin_of ballots winner) (order_of ballots winner) last ≡ order_count (candidate_count ballots) (low_of ballots)
    (margin_of ballots winner) order last =
    ap (λ o. order_count_of ballots (margin_of ballots winner) o last) is in
    omega (arith, count, same)

within-budget : (ballots : BallotFile) (winner nodes : ℕ) (order : List ℕ) (c : ℕ) → order_of ballots winner ≡ Some order →
    IsWithin (candidate_count ballots) (low_of ballots) (margin_of ballots winner) order nodes c → certificate_nodes ballots winner c ≤ nodes
within-budget ballots winner nodes order c is (cover, count) =
    let same : order_count_of ballots (margin_of ballots winner) (order_of ballots winner) c ≡ order_count (candidate_count ballots) (low_of ballots)
    (margin_of ballots winner) order c =
    ap (λ o. order_count_of ballots (margin_of ballots winner) o c) is in
    omega (arith, cover, count, same)

pub certificate-spent : (ballots : BallotFile) (t : Tabulated) (end : RaceEnd) (nodes last : ℕ) → 1 < candidate_count ballots →
    IsTabulation (candidate_count ballots) ballots.rankings t → 1 ≤ end.margin →
    IsBest (candidate_count ballots) ballots.rankings t.winner end → IsOverBudget (candidate_count ballots) ballots.rankings t.winner end.margin nodes last →
    IsSpent nodes ballots last end.order end.margin
certificate-spent ballots t end nodes last two is some best spent =
    let n = candidate_count ballots in
    let margin : end.margin ≡ margin_of ballots t.winner = best.best in
    let order : order_of ballots t.winner ≡ Some spent.order = subst
    (λ m. certificate_order n t.winner (low_of ballots) m ≡ Some spent.order) margin spent.order_is in
    let over = over-above ballots t.winner nodes last spent.order order (subst (λ m. IsOver n (low_of ballots) m spent.order nodes last) margin spent.over) in
    let first : margin_of ballots t.winner ≤ first_bound n ballots.rankings t.order = best-first n t.winner ballots.rankings t.order two is.order is.winner in
    record {
      winner = t.winner;
      won = won_by ballots t is;
      named = record { candidate = spent.below; other = spent.alternative };
      cause = inr (record {
        above = over;
        least = λ c other before.
            within-budget ballots t.winner nodes spent.order c order
            (subst (λ m. IsWithin n (low_of ballots) m spent.order nodes c) margin (spent.least c before other.other));
        best = margin;
      });
      alternative = best.alternative;
      hardness = sym best.hardness;
      within = omega (arith, first, margin);
      some = some;
    }

-- ---- a certificate

votes-le : (records : List (List ℕ)) (a : Assertion) → votes_for records a ≤ length records
votes-le records (Neb w l) = count_by-le-length (λ ranking. is_first ranking w) records
votes-le records (Nen w l rest) = count_by-le-length (λ ranking. is_some_of (top ranking rest) w) records

margin-le : (records : List (List ℕ)) (a : Assertion) → true_margin records a ≤ length records
margin-le records a = let le = votes-le records a in omega (arith, le)

pub true-margin : (records : List (List ℕ)) (a : Assertion) → is_true records a ≡ true → IsMargin (length records) (true_margin records a)
true-margin records a holds =
    let more = ltb-true (votes_against records a) (votes_for records a) holds in
    record { some = omega (arith, more); most = margin-le records a }

pub claim-sound : (n winner : ℕ) (records : List (List ℕ)) (claim : Claim) → Member claim (certificate_claims n records winner) →
    IsSoundClaim n (length records) claim
claim-sound n winner records claim m =
    let (a, k, e) = from_map (claim_of records) claim (certificate_assertions n records winner) m in
    subst (IsSoundClaim n (length records)) e (record {
      proper = from_list_all (is_proper n) k (certificate_is_proper n winner records);
      margin = true-margin records a (from_list_all (is_true records) k (certificate_is_true n winner records));
    })

pub best-margin : (n winner : ℕ) (records : List (List ℕ)) → winner < n → 1 < n → 1 ≤ best_margin n winner (low n records) →
    IsMargin (length records) (best_margin n winner (low n records))
best-margin n winner records below two positive =
    let (a, k, e) = certificate_has_best n winner records below two positive in
    let le = margin-le records a in
    record { some = positive; most = omega (arith, le, e) }

-- what the certificate is made of, whichever way it was found
pub record IsWhole (ballots : BallotFile) (winner : ℕ) (x : Certificate) : Type 0 where
  pub some : 1 ≤ margin_of ballots winner
  pub margin : x.margin ≡ margin_of ballots winner
  pub order : order_of ballots winner ≡ Some x.order
  pub claims : x.claims.items ≡ certificate_claims (candidate_count ballots) ballots.rankings winner

module _ (ballots : BallotFile) (t : Tabulated) (x : Certificate) (two : 1 < candidate_count ballots)
    (is : IsTabulation (candidate_count ballots) ballots.rankings t) (c : IsWhole ballots t.winner x) where
  pub printable : IsPrintable ballots t.winner x
  printable =
      let n = candidate_count ballots in
      let records = ballots.rankings in
      let below = winner-below ballots t.winner (won_by ballots t is) in
      let margin : IsMargin (length records) (margin_of ballots t.winner) = best-margin n t.winner records below two c.some in
      let (order, least, among, hard) = order_is n t.winner (low n records) below two in
      let printed : Some order ≡ Some x.order = sym least ∙ c.order in
      let found : order ≡ x.order = cc in
      let alternative : IsAlternative n t.winner order = (alternative_orders_are n t.winner order).0 among in
      record {
        some_records = let some = margin.some in let most = margin.most in omega (arith, some, most);
        candidate = below;
        margin = subst (IsMargin (length records)) (sym c.margin) margin;
        order = subst (λ o. is_order n o ≡ true) found alternative.0;
        claims =
            subst (All (IsSoundClaim n (length records))) (sym c.claims)
            (all-from_members (IsSoundClaim n (length records)) (certificate_claims n records t.winner) (claim-sound n t.winner records));
      }

  pub certified : (budget : Budget) (file : Content) → IsInBudget ballots t.winner budget → file ≡ content_of ballots t.winner x → IsFoundIn budget ballots file
  certified budget file within shown =
      let n = candidate_count ballots in
      record {
        is = record {
          winner = t.winner;
          won = won_by ballots t is;
          decided = positive-decided n t.winner ballots.rankings (winner-below ballots t.winner (won_by ballots t is)) two c.some;
          order = x.order;
          least = c.order;
          is = shown ∙ content_same ballots t.winner x c.margin c.claims;
        };
        within = within;
      }
    where
      content_same : (ballots : BallotFile) (winner : ℕ) (x : Certificate) → x.margin ≡ margin_of ballots winner →
          x.claims.items ≡ certificate_claims (candidate_count ballots) ballots.rankings winner →
          content_of ballots winner x ≡ certificate_of ballots winner x.order
      content_same ballots winner x margin claims = λ i. record {
        contest = ballots.contest;
        candidates = ballots.candidates;
        records = length ballots.rankings;
        winner = winner;
        margin = margin i;
        order = Some x.order;
        claims = claims i;
        plan = None;
      }

-- by nodes: what is certified at the best margin
whole-nodes : (ballots : BallotFile) (winner : ℕ) (end : RaceEnd) (nodes : ℕ) (x : Certificate) → 1 ≤ end.margin → end.margin ≡ margin_of ballots winner →
    IsCertified (candidate_count ballots) ballots.rankings winner end.margin nodes x → IsWhole ballots winner x
whole-nodes ballots winner end nodes x some best c = record {
  some = omega (arith, some, best);
  margin = c.margin ∙ best;
  order = subst (λ m. certificate_order (candidate_count ballots) winner (low_of ballots) m ≡ Some x.order) best c.order;
  claims = c.claims;
}

nodes-within : (ballots : BallotFile) (winner : ℕ) (end : RaceEnd) (nodes : ℕ) (x : Certificate) → end.margin ≡ margin_of ballots winner →
    IsCertified (candidate_count ballots) ballots.rankings winner end.margin nodes x → order_of ballots winner ≡ Some x.order →
    IsInBudget ballots winner (Nodes nodes)
nodes-within ballots winner end nodes x best c least = λ k other.
    within-budget ballots winner nodes x.order k least
    (subst (λ m. IsWithin (candidate_count ballots) (low_of ballots) m x.order nodes k) best (c.within k other.candidate other.other))

-- by sets
whole-sets : (ballots : BallotFile) (winner sets : ℕ) (x : Certificate) → AreCertified (candidate_count ballots) ballots.rankings winner sets x →
    IsWhole ballots winner x
whole-sets ballots winner sets x c = record {
  some = omega (arith, c.some, c.margin);
  margin = c.margin;
  order = c.order;
  claims = c.claims;
}

-- ---- from what the parts answer for whatever records the bag is of

module _ (ballots : BallotFile) (bag : Kept) (t : Tabulated) (counted : IsCounted ballots bag t) where
  pub of_ballots : (P : ℕ → List (List ℕ) → Type 0) → ((records : List (List ℕ)) → IsOf bag records → P bag.n records) →
      P (candidate_count ballots) ballots.rankings
  of_ballots P h = subst (λ n. P n ballots.rankings) counted.candidates (h ballots.rankings counted.records)

  pub tabulated_there : IsTabulation (candidate_count ballots) ballots.rankings t
  tabulated_there = tabulation_of ballots bag t counted

  decided_there : IsDecided (candidate_count ballots) ballots.rankings ↔ (1 ≤ margin_of ballots t.winner)
  decided_there = let is = tabulated_there in
      decided_exactly (candidate_count ballots) t.winner ballots.rankings t.order counted.two is.order is.tabulated is.winner

  -- a margin of 0 shows that the contest isn't decided, and any other margin shows that it is
  pub undecided_at_0 : (end : RaceEnd) → IsBestOf bag t end → end.margin ≡ 0 → IsUndecided ballots
  undecided_at_0 end best zero d =
      let some = decided_there.0 d in
      let same = (best_of ballots bag t end counted best).best in
      omega (arith, some, same, zero)

  pub elected_above_0 : (end : RaceEnd) → IsBestOf bag t end → 1 ≤ end.margin → IsElected ballots t.winner
  elected_above_0 end best some =
      positive-decided (candidate_count ballots) t.winner ballots.rankings (winner-below ballots t.winner (won_by ballots t tabulated_there)) counted.two
      (let same = (best_of ballots bag t end counted best).best in omega (arith, some, same))

  pub race_is_spent : (nodes last upper : ℕ) (order : List ℕ) →
      ((records : List (List ℕ)) → IsOf bag records → IsTooMuch bag.n records t nodes last upper order) → IsSpent nodes ballots last order upper
  race_is_spent nodes last upper order much =
      race-spent ballots t nodes last upper order (tabulation_of ballots bag t counted)
      (of_ballots (λ n records. IsTooMuch n records t nodes last upper order) much)

  pub certificate_is_spent : (end : RaceEnd) (nodes last : ℕ) → 1 ≤ end.margin → IsBestOf bag t end →
      ((records : List (List ℕ)) → IsOf bag records → IsOverBudget bag.n records t.winner end.margin nodes last) →
      IsSpent nodes ballots last end.order end.margin
  certificate_is_spent end nodes last some best spent =
      certificate-spent ballots t end nodes last counted.two (tabulation_of ballots bag t counted) some (best_of ballots bag t end counted best)
      (of_ballots (λ n records. IsOverBudget n records t.winner end.margin nodes last) spent)

  module _ (end : RaceEnd) (nodes : ℕ) (x : Certificate) (some : 1 ≤ end.margin) (best : IsBestOf bag t end)
      (certified_there : (records : List (List ℕ)) → IsOf bag records → IsCertified bag.n records t.winner end.margin nodes x) where
    abbrev here : IsCertified (candidate_count ballots) ballots.rankings t.winner end.margin nodes x
    here = of_ballots (λ n records. IsCertified n records t.winner end.margin nodes x) certified_there

    abbrev its_best : end.margin ≡ margin_of ballots t.winner
    its_best = (best_of ballots bag t end counted best).best

    abbrev whole : IsWhole ballots t.winner x
    whole = whole-nodes ballots t.winner end nodes x some its_best here

    pub is_printable : IsPrintable ballots t.winner x
    is_printable = printable ballots t x counted.two tabulated_there whole

    pub is_found : (file : Content) → file ≡ content_of ballots t.winner x → IsFoundIn (Nodes nodes) ballots file
    is_found file shown =
        certified ballots t x counted.two tabulated_there whole (Nodes nodes) file (nodes-within ballots t.winner end nodes x its_best here whole.order) shown

  -- by sets
  module _ (sets : ℕ) where
    abbrev certified_here : (x : Certificate) → ((records : List (List ℕ)) → IsOf bag records → AreCertified bag.n records t.winner sets x) →
        AreCertified (candidate_count ballots) ballots.rankings t.winner sets x
    certified_here x h = of_ballots (λ n records. AreCertified n records t.winner sets x) h

    pub is_printable_by_sets : (x : Certificate) → ((records : List (List ℕ)) → IsOf bag records → AreCertified bag.n records t.winner sets x) →
        IsPrintable ballots t.winner x
    is_printable_by_sets x h = printable ballots t x counted.two tabulated_there (whole-sets ballots t.winner sets x (certified_here x h))

    pub is_found_by_sets : (x : Certificate) (file : Content) →
        ((records : List (List ℕ)) → IsOf bag records → AreCertified bag.n records t.winner sets x) →
        file ≡ content_of ballots t.winner x → IsFoundIn (Sets sets) ballots file
    is_found_by_sets x file h shown =
        certified ballots t x counted.two tabulated_there (whole-sets ballots t.winner sets x (certified_here x h)) (Sets sets) file (certified_here x h).within shown

    module _ (undecided : (records : List (List ℕ)) → IsOf bag records → AreUndecided bag.n records t sets) where
      abbrev undecided_here : AreUndecided (candidate_count ballots) ballots.rankings t sets
      undecided_here = of_ballots (λ n records. AreUndecided n records t sets) undecided

      pub undecided_by_sets : IsUndecided ballots
      undecided_by_sets d = let some = decided_there.0 d in omega (arith, some, undecided_here.none)

      pub told_by_sets : IsTold (Sets sets) ballots
      told_by_sets = record { winner = t.winner; won = won_by ballots t tabulated_there; within = undecided_here.within }

    pub spent_by_sets : (order : List ℕ) (margin : ℕ) → ((records : List (List ℕ)) → IsOf bag records → AreSpent bag.n records t sets order margin) →
        IsSpentBySetsIn (Sets sets) ballots sets order margin
    spent_by_sets order margin h =
        let s = of_ballots (λ n records. AreSpent n records t sets order margin) h in (
          refl,
          record {
            winner = t.winner;
            won = won_by ballots t tabulated_there;
            above = s.above;
            start = s.start;
            hardness = s.hardness;
            some = s.some;
          },
        )

-- ---- the ties of a tabulation

module _ (ballots : BallotFile) (t : Tabulated) (is : IsTabulation (candidate_count ballots) ballots.rankings t) where
  -- without one the contest is decided
  pub elected_untied : HasNoTie ballots.rankings t.order → IsElected ballots t.winner
  elected_untied free = no_tie_is_decided (candidate_count ballots) t.winner ballots.rankings t.order is.order is.tabulated is.winner free

  pub tied_not_untied : (tie : FirstTie) → IsTieOf (candidate_count ballots) ballots.rankings tie → HasNoTie ballots.rankings t.order → ⊥
  tied_not_untied tie (some, first) free =
      tie_and_none (candidate_count ballots) ballots.rankings t.order is.order is.tabulated (tie.round, tie.tied, tie.tally, some, first) free

pub undecided_tie : (ballots : BallotFile) (tie : FirstTie) → IsTieOf (candidate_count ballots) ballots.rankings tie → IsUndecided ballots →
    IsTie ballots tie.round tie.tied tie.tally
undecided_tie ballots tie (some, first) undecided = record { counted = some; first = first; undecided = undecided }
