-- A file is accepted exactly if it holds, and its margin is then the best.
use Rattle.std.proofs.Common.{◌≡◌, ◌↔◌, ℕ, ◌<◌, ◌≤◌, true, false, ◌==◌, List, [], ◌∷◌, length, map, Option, Some, None, Result, Ok, Err, All, Contains, MatchBool, refl, sym, ap, subst, arith, ◌∙◌, ne_eqb, inl, inr, ◌⊎◌}
use Rattle.std.specs.Prelude.{IfSome}
use Rattle.std.specs.List.{list_any}
use Rattle.std.proofs.lemmas.Bool.{cases_Bool, eqb-false}
use Rattle.std.proofs.lemmas.List.Elements.{All-nil, All-cons, All-contains}
use Rattle.irv_base.specs.Orders.{is_order}
use Rattle.irv_base.specs.Tabulation.{least}
use Rattle.irv_base.proofs.Least.{least-member, least_is}
use Rattle.irv_base.proofs.Members.{Member, here, there, member-map, from_map, contains-from_member, member-from_contains, list_any-member, list_all-each}
use Rattle.irv_base.proofs.Orders.{last_split, order_facts}
use Rattle.assertions.specs.declared.assertion.Assertion.{Assertion}
use Rattle.assertions.specs.declared.assertion.Claim.{Claim}
use Rattle.assertions.specs.Hardness.{low}
use Rattle.assertions.specs.Refutation.{refutes, covers}
use Rattle.assertions.specs.Suffixes.{IsAlternative, alternative_orders}
use Rattle.assertions.proofs.Alternatives.{some_alternative}
use Rattle.assertions.proofs.Elections.{from_covers}
use Rattle.assertions.proofs.Endings.{from_alternative, alternative-member}
use Rattle.budget.specs.declared.budget.Budget.{Budget}
use Rattle.ballots.specs.Ballots.{BallotFile}
use Rattle.assertion_file.specs.Content.{Content, IsSound, candidate_count}
use Rattle.cover_checker.specs.Covers.{covered_is}
use Rattle.cover_checker.specs.Outcomes.{IsWinner}
use Rattle.cover_checker.specs.Findings.{Answer, is_about, assertions_of, unless_covered, uncovered, smallest_margin, elects, other_winner, other_margin, other_smallest, elected, harder, other_draws}
use Rattle.cover_checker.specs.Checks.{Judges, IsAnswer, checked_is, findings, first_found}
use Rattle.cover_checker.specs.Holds.{Holds, IsHardest}
use Rattle.cover_checker.specs.declared.cover.Verdict.{Verdict}
use Rattle.cover_checker.specs.declared.cover.Verdict.TheVariants.{Covered}
use Rattle.cover_checker.specs.declared.cover.CoverFault.{CoverFault}
use Rattle.cover_checker.specs.declared.cover.CoverFault.TheVariants.{Spent as CoverSpent, SpentSets as CoverSpentSets, Memory as CoverMemory}
use Rattle.cover_checker.specs.declared.checked.Checked.{Checked}
use Rattle.cover_checker.specs.declared.checked.Checked.TheVariants.{OtherContest, Accepted}
use Rattle.cover_checker.proofs.Nothing.{NeverAccepts, HasItsMargin, winner-none, none-winner, winner-never, margins-none, none-margins, margins-never, covered-none, covered-never, smallest-none, none-smallest, smallest-never, elects-last, elected-none, none-elected, elected-never, harder-none, none-harder, harder-never, draws-none, none-draws, draws-never}
use Rattle.cover_checker.proofs.Answered.{from_answer, judged}
use Rattle.cover_checker.proofs.OneAnswer.{one_winner, answer_is_one}
use Rattle.cover_checker.proofs.Same.{About, from_about, about-from}
use Rattle.cover_checker.proofs.Verdicts.{covered_iff_covers}

abbrev margin_in : Claim → ℕ
margin_in claim = claim.margin

abbrev pub assertion_in : Claim → Assertion
assertion_in claim = claim.assertion

-- ---- the first finding

-- if a file is accepted, there is no finding
from_accepted : (found : Option Answer) (more : List (Option Answer)) → NeverAccepts found → first_found (found ∷ more) (Ok Accepted) ≡ Ok Accepted →
    (found ≡ None) × (first_found more (Ok Accepted) ≡ Ok Accepted)
from_accepted None more never h = (refl, h)
from_accepted (Some answer) more never h = absurd (never (ap Some h))

passed : (found : Option Answer) (more : List (Option Answer)) → found ≡ None → first_found (found ∷ more) (Ok Accepted) ≡ first_found more (Ok Accepted)
passed found more e = ap (λ found. first_found (found ∷ more) (Ok Accepted)) e

-- ---- the facts of a file that holds, for its records
record Facts (budget : Budget) (records : List (List ℕ)) (file : Content) (winner : ℕ) : Type 0 where
  same : file.winner ≡ winner
  margins : All (HasItsMargin records) file.claims
  covered : covered_is (candidate_count file) file.winner (assertions_of file) budget ≡ Ok Covered
  smallest : smallest_margin file ≡ file.margin
  other : IfSome file.order (λ order. elects order file.winner ≡ false)
  hardest : IfSome file.order (λ order. low (candidate_count file) records order ≤ file.margin)
  draws : other_draws file ≡ None

module _ (budget : Budget) (records : List (List ℕ)) (file : Content) (winner : ℕ) where
  facts-accepted : first_found (findings budget records file winner) (Ok Accepted) ≡ Ok Accepted → Facts budget records file winner
  facts-accepted h =
      let rest-harder : List (Option Answer) = other_draws file ∷ [] in
      let rest-elected : List (Option Answer) = harder records file ∷ other_draws file ∷ [] in
      let rest-smallest : List (Option Answer) = elected file ∷ harder records file ∷ other_draws file ∷ [] in
      let rest-cover : List (Option Answer) = other_smallest file ∷ elected file ∷ harder records file ∷ other_draws file ∷ [] in
      let rest-margin : List (Option Answer) = uncovered budget file ∷ other_smallest file ∷ elected file ∷ harder records file ∷ other_draws file ∷ [] in
      let rest-winner : List (Option Answer) = other_margin records file ∷ uncovered budget file ∷ other_smallest file ∷ elected file ∷ harder records file ∷
      other_draws file ∷ [] in
      let a = from_accepted (other_winner winner file) rest-winner (winner-never winner file) h in
      let b = from_accepted (other_margin records file) rest-margin (margins-never records 1 file.claims) a.1 in
      let c = from_accepted (uncovered budget file) rest-cover (covered-never (covered_is (candidate_count file) file.winner (assertions_of file) budget)) b.1 in
      let d = from_accepted (other_smallest file) rest-smallest (smallest-never file) c.1 in
      let e = from_accepted (elected file) rest-elected (elected-never file) d.1 in
      let f = from_accepted (harder records file) rest-harder (harder-never records file) e.1 in
      let g = from_accepted (other_draws file) [] (draws-never file) f.1 in
      record {
        same = winner-none winner file a.0;
        margins = margins-none records 1 file.claims b.0;
        covered = covered-none (covered_is (candidate_count file) file.winner (assertions_of file) budget) c.0;
        smallest = smallest-none file d.0;
        other = elected-none file e.0;
        hardest = harder-none records file f.0;
        draws = g.0;
      }

  -- what is found when the margins are right
  to_cover : file.winner ≡ winner → All (HasItsMargin records) file.claims →
      first_found (findings budget records file winner) (Ok Accepted)
      ≡ first_found (uncovered budget file ∷ other_smallest file ∷ elected file ∷ harder records file ∷ other_draws file ∷ []) (Ok Accepted)
  to_cover same margins =
      passed (other_winner winner file) (other_margin records file ∷ uncovered budget file ∷ other_smallest file ∷ elected file ∷ harder records file ∷ other_draws file ∷ [])
      (none-winner winner file same)
      ∙ passed (other_margin records file) (uncovered budget file ∷ other_smallest file ∷ elected file ∷ harder records file ∷ other_draws file ∷ [])
      (none-margins records 1 file.claims margins)

  accepted-facts : Facts budget records file winner → first_found (findings budget records file winner) (Ok Accepted) ≡ Ok Accepted
  accepted-facts h =
      to_cover h.same h.margins
      ∙ passed (uncovered budget file) (other_smallest file ∷ elected file ∷ harder records file ∷ other_draws file ∷ []) (ap unless_covered h.covered)
      ∙ passed (other_smallest file) (elected file ∷ harder records file ∷ other_draws file ∷ []) (none-smallest file h.smallest)
      ∙ passed (elected file) (harder records file ∷ other_draws file ∷ []) (none-elected file h.other)
      ∙ passed (harder records file) (other_draws file ∷ []) (none-harder records file h.hardest)
      ∙ passed (other_draws file) [] h.draws

-- ---- lists of claims
pub all-from_members : {X : Type 0} (P : X → Type 0) (xs : List X) → ((x : X) → Member x xs → P x) → All P xs
all-from_members P [] h = All-nil P
all-from_members P (x ∷ xs) h = All-cons P x xs (h x here) (all-from_members P xs (λ y m. h y (there m)))

-- one of the claims refutes the order
pub refuting_claim : (claims : List Claim) (order : List ℕ) (a : Assertion) → Member a (map assertion_in claims) → refutes a order ≡ true →
    (claim : Claim) × Contains claims claim × (refutes claim.assertion order ≡ true)
refuting_claim claims order a m r = let (claim, k, e) = from_map assertion_in a claims m in (claim, contains-from_member k, ap (λ a. refutes a order) e ∙ r)

-- ---- who is last
other-alternative : (n winner : ℕ) (order : List ℕ) → 0 < n → is_order n order ≡ true → elects order winner ≡ false → IsAlternative n winner order
other-alternative n winner [] some h f = absurd (omega (arith, some, (order_facts n [] h).long))
other-alternative n winner (x ∷ xs) some h f =
    let (ys, y, e) = last_split x xs in
    let ne : (y == winner) ≡ false = sym (elects-last ys y winner) ∙ ap (λ order. elects order winner) (sym e) ∙ f in
    (h, (y, eqb-false y winner ne, (ys, e)))

alternative-other : (n winner : ℕ) (order : List ℕ) → IsAlternative n winner order → elects order winner ≡ false
alternative-other n winner order (h, (c, ne, (before, e))) = ap (λ order. elects order winner) e ∙ elects-last before c winner ∙ ne_eqb c winner ne

-- ---- a file that holds
by-order : {P Q : List ℕ → Type 0} (order : Option (List ℕ)) → IfSome order P → ((order : List ℕ) → P order → Q order) → IfSome order Q
by-order None h by = tt
by-order (Some order) h by = by order h

module _ (ballots : BallotFile) (file : Content) where
  -- the claims refute each alternative order
  pub held-covers : Holds ballots file → covers (candidate_count file) file.winner (assertions_of file) ≡ true
  held-covers h =
      list_all-each (λ order. list_any (λ a. refutes a order) (assertions_of file)) (alternative_orders (candidate_count file) file.winner) (λ order m.
      let (claim, k, r) = h.cover order (from_alternative (candidate_count file) file.winner order m) in
      list_any-member (λ a. refutes a order) {x = claim.assertion} (member-map assertion_in (member-from_contains claim file.claims k)) r)

  held-smallest : Holds ballots file → smallest_margin file ≡ file.margin
  held-smallest h =
      let (claim, k, e) = h.reached in
      let m : Member claim.margin (map margin_in file.claims) = member-map margin_in (member-from_contains claim file.claims k) in
      let below : smallest_margin file ≤ claim.margin = least-member claim.margin (map margin_in file.claims) m in
      let above : file.margin ≤ smallest_margin file = at_least (from_map margin_in (smallest_margin file) file.claims (least_is m)) in
      omega (arith, below, above, e)
    where
      at_least : (least : Claim) × Member least file.claims × (least.margin ≡ smallest_margin file) → file.margin ≤ smallest_margin file
      at_least (least, k, e) = subst (λ m. file.margin ≤ m) e
          (All-contains (λ claim. file.margin ≤ claim.margin) file.claims least h.smallest (contains-from_member k))

  held-facts : (budget : Budget) → Holds ballots file → covered_is (candidate_count file) file.winner (assertions_of file) budget ≡ Ok Covered →
      Facts budget ballots.rankings file file.winner
  held-facts budget h covered = record {
    same = refl;
    margins = h.margins;
    covered = covered;
    smallest = held-smallest h;
    other = by-order file.order h.best (λ order best. alternative-other (candidate_count file) file.winner order best.alternative);
    hardest = by-order file.order h.best (λ order best. best.hardest);
    draws = none-draws file h.draws;
  }

  facts-held : (budget : Budget) (winner : ℕ) → IsSound file → About ballots file → IsWinner (candidate_count file) ballots.rankings winner →
      Facts budget ballots.rankings file winner → Holds ballots file
  facts-held budget winner sound about won f =
      let two : 1 < candidate_count file = omega (arith, sound.fewest) in
      let cover : covers (candidate_count file) file.winner (assertions_of file) ≡ true =
      (covered_iff_covers (candidate_count file) file.winner budget (assertions_of file) Covered f.covered).0 refl in
      record {
        contest = about.contest;
        candidates = about.candidates;
        records = about.records;
        winner = subst (λ w. IsWinner (candidate_count file) ballots.rankings w) (sym f.same) won;
        margins = f.margins;
        cover = λ order alternative.
            let (a, m, r) = from_covers (candidate_count file) file.winner (assertions_of file) order cover
            (alternative-member (candidate_count file) file.winner alternative.1.0 order alternative.0 alternative.1.1 alternative.1.2) in
            refuting_claim file.claims order a m r;
        reached = reached two cover (some_alternative (candidate_count file) file.winner sound.winner two);
        smallest = all-from_members (λ claim. file.margin ≤ claim.margin) file.claims (λ claim m.
            let le : smallest_margin file ≤ claim.margin = least-member claim.margin (map margin_in file.claims) (member-map margin_in m) in
            omega (arith, le, f.smallest));
        best = best file.order sound.order f.other f.hardest;
        draws = draws-none file sound.plan f.draws;
      }
    where
      best : (order : Option (List ℕ)) → IfSome order (λ order. is_order (candidate_count file) order ≡ true) →
          IfSome order (λ order. elects order file.winner ≡ false) →
          IfSome order (λ order. low (candidate_count file) ballots.rankings order ≤ file.margin) → IfSome order (IsHardest ballots file)
      best None whole other hardest = tt
      best (Some order) whole other hardest = record {
        alternative = other-alternative (candidate_count file) file.winner order (omega (arith, sound.fewest)) whole other;
        hardest = hardest;
      }

      reached : 1 < candidate_count file → covers (candidate_count file) file.winner (assertions_of file) ≡ true →
          (order : List ℕ) × Member order (alternative_orders (candidate_count file) file.winner) →
          (claim : Claim) × Contains file.claims claim × (claim.margin ≡ file.margin)
      reached two cover (order, m) =
          let (a, k, r) = from_covers (candidate_count file) file.winner (assertions_of file) order cover m in
          let (claim, l, e) = from_map assertion_in a file.claims k in
          let (smallest, q, s) = from_map margin_in (smallest_margin file) file.claims (least_is (member-map margin_in l)) in
          (smallest, contains-from_member q, s ∙ f.smallest)

-- ---- the answer
module _ (budget : Budget) (ballots : BallotFile) (file : Content) where
  pub accepted-held : IsSound file → IsAnswer budget ballots file (Ok Accepted) → Holds ballots file
  accepted-held sound h = go (cases_Bool (is_about ballots file)) where
    by_winner : About ballots file → (winner : ℕ) → IsWinner (length ballots.candidates) ballots.rankings winner →
        checked_is budget ballots.rankings file winner ≡ Ok Accepted → Holds ballots file
    by_winner about winner won e =
        facts-held ballots file budget winner sound about (subst (λ n. IsWinner n ballots.rankings winner) (sym (ap length about.candidates)) won)
        (facts-accepted budget ballots.rankings file winner e)

    other : (answer : Answer) → is_about ballots file ≡ false → IsAnswer budget ballots file answer → answer ≡ Ok OtherContest
    other answer f k = subst (λ b. MatchBool b (Judges budget ballots file answer) (answer ≡ Ok OtherContest)) f k

    go : (is_about ballots file ≡ true) ⊎ (is_about ballots file ≡ false) → Holds ballots file
    go (inl t) = let j = from_answer budget ballots file t (Ok Accepted) h in by_winner (from_about ballots file t) j.winner j.tabulated j.answer_is
    go (inr f) = let e = other (Ok Accepted) f h in cc

  pub held-accepted : Holds ballots file → covered_is (candidate_count file) file.winner (assertions_of file) budget ≡ Ok Covered →
      IsAnswer budget ballots file (Ok Accepted)
  held-accepted h covered =
      let about : About ballots file = record { contest = h.contest; candidates = h.candidates; records = h.records } in
      judged budget ballots file (about-from ballots file about) (Ok Accepted) (record {
        winner = file.winner;
        tabulated = subst (λ n. IsWinner n ballots.rankings file.winner) (ap length h.candidates) h.winner;
        answer_is = accepted-facts budget ballots.rankings file file.winner (held-facts ballots file budget h covered);
      })

  -- if there is an answer, the budget didn't run out
  pub held-covered : (checked : Checked) → Holds ballots file → IsAnswer budget ballots file (Ok checked) →
      covered_is (candidate_count file) file.winner (assertions_of file) budget ≡ Ok Covered
  held-covered checked h answer =
      let about : About ballots file = record { contest = h.contest; candidates = h.candidates; records = h.records } in
      let j = from_answer budget ballots file (about-from ballots file about) (Ok checked) answer in
      by_winner j.winner j.tabulated j.answer_is
    where
      by_cover : (result : Result Verdict CoverFault) → covered_is (candidate_count file) file.winner (assertions_of file) budget ≡ result →
          first_found (unless_covered result ∷ other_smallest file ∷ elected file ∷ harder ballots.rankings file ∷ other_draws file ∷ []) (Ok Accepted) ≡ Ok checked →
          result ≡ Ok Covered
      by_cover (Ok verdict) e found =
          ap Ok ((covered_iff_covers (candidate_count file) file.winner budget (assertions_of file) verdict e).1 (held-covers ballots file h))
      by_cover (Err (CoverSpent last)) e found = cc
      by_cover (Err (CoverSpentSets sets)) e found = cc
      by_cover (Err CoverMemory) e found = cc

      by_winner : (winner : ℕ) → IsWinner (length ballots.candidates) ballots.rankings winner →
          checked_is budget ballots.rankings file winner ≡ Ok checked →
          covered_is (candidate_count file) file.winner (assertions_of file) budget ≡ Ok Covered
      by_winner winner won e =
          let own : IsWinner (length ballots.candidates) ballots.rankings file.winner =
          subst (λ n. IsWinner n ballots.rankings file.winner) (ap length h.candidates) h.winner in
          let same : file.winner ≡ winner = one_winner (length ballots.candidates) ballots.rankings file.winner winner own won in
          by_cover (covered_is (candidate_count file) file.winner (assertions_of file) budget) refl
          (sym (to_cover budget ballots.rankings file winner same h.margins) ∙ e)

  pub accepted_iff_holds : (checked : Checked) → IsSound file → IsAnswer budget ballots file (Ok checked) → ((checked ≡ Accepted) ↔ Holds ballots file)
  accepted_iff_holds checked sound answer = (
    λ e. accepted-held sound (subst (λ c. IsAnswer budget ballots file (Ok c)) e answer),
    λ h. ok-same refl refl (answer_is_one budget ballots file (Ok checked) (Ok Accepted) answer (held-accepted h (held-covered checked h answer))),
  ) where
    ok-same : {a b : Answer} {c d : Checked} → a ≡ Ok c → b ≡ Ok d → a ≡ b → c ≡ d
    ok-same e k h = cc
