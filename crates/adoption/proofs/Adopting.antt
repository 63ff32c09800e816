-- What is adopted, and exactly when.
use Rattle.std.proofs.Common.{◌≡◌, ◌∙◌, ◌↔◌, ℕ, ◌<◌, ◌≤◌, ◌==◌, Bool, true, false, not, List, length, map, Option, None, Some, Ok, All, AllPairs, Contains, refl, sym, ap, subst, arith, eqb-true, eq-eqb}
use Rattle.std.specs.Prelude.{IsTrue, find}
use Rattle.std.specs.List.{list_all, list_any}
use Rattle.std.proofs.lemmas.Bool.{not_from_false, not-false, cases_Bool, both_ways}
use Rattle.std.proofs.lemmas.List.Elements.{All-contains}
use Rattle.irv_base.specs.Orders.{Elects, is_order}
use Rattle.irv_base.specs.Tabulation.{AllElect, is_tabulated}
use Rattle.irv_base.specs.declared.limits.TheConstants.{MOST_RECORDS}
use Rattle.irv_base.proofs.Decided.{one-elected}
use Rattle.irv_base.proofs.Members.{Member, contains-from_member, find-member, from_find, from_list_all, list_all-each, list_any-member, member-from_contains}
use Rattle.irv_base.proofs.Orders.{last_split, order_facts}
use Rattle.irv_base.proofs.Tabulated.{tabulated-possible, tabulated_exists}
use Rattle.assertions.specs.declared.assertion.Assertion.{Assertion}
use Rattle.assertions.specs.declared.assertion.Claim.{Claim}
use Rattle.assertions.specs.Assertions.{is_proper, is_true}
use Rattle.assertions.specs.Certificate.{claim_of}
use Rattle.assertions.specs.FixedOrder.{is_before}
use Rattle.assertions.specs.Laws.{IsProof}
use Rattle.assertions.specs.Refutation.{covers, refutes}
use Rattle.assertions.specs.Suffixes.{IsAlternative, alternative_orders}
use Rattle.assertions.proofs.Alternatives.{some_alternative}
use Rattle.assertions.proofs.Decided.{proof-decided}
use Rattle.assertions.proofs.Elections.{from_covers}
use Rattle.assertions.proofs.Endings.{alternative-member}
use Rattle.budget.specs.declared.budget.Budget.{Budget}
use Rattle.ballots.specs.Ballots.{BallotFile, AreCandidates}
use Rattle.assertion_file.specs.Content.{Content, IsSound}
use Rattle.claims_file.specs.Claimed.{Claimed, AreSound}
use Rattle.cover_checker.specs.Checks.{IsAnswer as IsCheckAnswer}
use Rattle.cover_checker.specs.Covers.{IsEnough, covered_is}
use Rattle.cover_checker.specs.Findings.{assertions_of}
use Rattle.cover_checker.specs.Holds.{Holds}
use Rattle.cover_checker.specs.Outcomes.{IsWinner}
use Rattle.cover_checker.specs.declared.checked.Checked.TheVariants.{Accepted}
use Rattle.cover_checker.specs.declared.cover.Verdict.TheVariants.{Covered}
use Rattle.cover_checker.proofs.Enough.{covered-enough, covers-covered}
use Rattle.cover_checker.proofs.Held.{all-from_members, held-accepted, refuting_claim}
use Rattle.cover_checker.proofs.Verdicts.{covered_iff_covers}
use Rattle.adoption.specs.Adopted.{IsAdopted, adopted_file, each_once, file_with}
use Rattle.adoption.specs.Answers.{IsAnswer, adoption_is}
use Rattle.adoption.specs.declared.adoption.Adoption.TheVariants.{Adopted}
use Rattle.adoption.proofs.Answered.{Passed, is-file, on-cover, passed, winner-below}
use Rattle.adoption.proofs.TrueMargins.{claims-assertions, claims-margins, claims-sound, none-smaller, smallest-claim, smallest-margin}
use Rattle.adoption.proofs.Once.{once-from, once-member, once-rises}

-- ---- lists with the same members

all-once : (n : ℕ) (list : List Assertion) (p : Assertion → Bool) → list_all p list ≡ true → list_all p (each_once n list) ≡ true
all-once n list p h = list_all-each p (each_once n list) (λ a m. from_list_all p (once-from n list a m).0 h)

pub proper-once : (n : ℕ) (list : List Assertion) → list_all (is_proper n) (each_once n list) ≡ true
proper-once n list = list_all-each (is_proper n) (each_once n list) (λ a m. (once-from n list a m).1)

pub once-proper : (n : ℕ) (list : List Assertion) → All (λ a. IsTrue (is_proper n a)) (each_once n list)
once-proper n list = all-from_members (λ a. IsTrue (is_proper n a)) (each_once n list) (λ a m. (once-from n list a m).1)

pub once-all : (n : ℕ) (list : List Assertion) (p : Assertion → Bool) → All (λ a. IsTrue (is_proper n a)) list → list_all p (each_once n list) ≡ true →
    list_all p list ≡ true
once-all n list p proper h =
    list_all-each p list (λ a m. from_list_all p
    (once-member n list a m (All-contains (λ a. IsTrue (is_proper n a)) list a proper (contains-from_member m))) h)

covers-more : (n winner : ℕ) (some others : List Assertion) → ((a : Assertion) → Member a some → Member a others) → covers n winner some ≡ true →
    covers n winner others ≡ true
covers-more n winner some others more h =
    list_all-each (λ order. list_any (λ a. refutes a order) others) (alternative_orders n winner) (λ order m.
    let (a, k, r) = from_covers n winner some order h m in
    list_any-member (λ a. refutes a order) {x = a} (more a k) r)

-- ---- no claim is found to be untrue

pub none-untrue : (records : List (List ℕ)) (list : List Assertion) → list_all (is_true records) list ≡ true → find (λ a. not (is_true records a)) list ≡ None
none-untrue records list h = by (find (λ a. not (is_true records a)) list) refl where
  by : (o : Option Assertion) → find (λ a. not (is_true records a)) list ≡ o → o ≡ None
  by None e = refl
  by (Some a) e =
      let (m, untrue) = from_find (λ a. not (is_true records a)) a list e in
      let t = from_list_all (is_true records) m h in
      let bad : not true ≡ true = ap not (sym t) ∙ untrue in
      absurd cc

pub untrue-none : (records : List (List ℕ)) (list : List Assertion) → find (λ a. not (is_true records a)) list ≡ None → list_all (is_true records) list ≡ true
untrue-none records list e = list_all-each (is_true records) list (λ a m. by a m (is_true records a) refl) where
  by : (a : Assertion) → Member a list → (b : Bool) → is_true records a ≡ b → is_true records a ≡ true
  by a m true t = t
  by a m false f =
      let (found, is) = find-member (λ a. not (is_true records a)) a list m (ap not f) in
      let bad = sym e ∙ is in
      absurd cc

-- ---- the file

module _ (ballots : BallotFile) (claims : Claimed) (sound : AreSound (length ballots.candidates) claims) where
  abbrev n : ℕ
  n = length ballots.candidates

  abbrev once : List Assertion
  once = each_once n claims.assertions

  abbrev file : Content
  file = adopted_file ballots claims

  same-assertions : assertions_of file ≡ once
  same-assertions = claims-assertions ballots.rankings once

  -- a list that refutes all orders of other candidates has an assertion
  some-assertion : AreCandidates ballots.candidates → covers n claims.winner once ≡ true → (a : Assertion) × Member a once
  some-assertion are cover =
      let (order, m) = some_alternative n claims.winner sound.winner (omega (arith, are.fewest)) in
      let (a, k, r) = from_covers n claims.winner once order cover m in
      (a, k)

  module _ (are : AreCandidates ballots.candidates) (hold : list_all (is_true ballots.rankings) claims.assertions ≡ true)
      (cover : covers n claims.winner once ≡ true) where
    holds-once : list_all (is_true ballots.rankings) once ≡ true
    holds-once = all-once n claims.assertions (is_true ballots.rankings) hold

    pub file-sound : length ballots.rankings ≤ MOST_RECORDS → IsSound file
    file-sound most =
        let (a, m) = some-assertion are cover in
        let margin = smallest-margin n ballots.rankings once (proper-once n claims.assertions) holds-once a m in
        record {
          fewest = are.fewest;
          most = are.most;
          differ = are.differ;
          some_records = omega (arith, margin.some, margin.most);
          most_records = most;
          winner = sound.winner;
          order = tt;
          margin = margin;
          claims = claims-sound n ballots.rankings once (proper-once n claims.assertions) holds-once;
          plan = tt;
        }

    pub is_proof : IsProof n claims.winner ballots.rankings claims.assertions
    is_proof = record {
      proper = list_all-each (is_proper n) claims.assertions
          (λ a k. All-contains (λ a. IsTrue (is_proper n a)) claims.assertions a sound.proper (contains-from_member k));
      hold = hold;
      cover = covers-more n claims.winner once claims.assertions (λ a k. (once-from n claims.assertions a k).0) cover;
    }

    pub file-adopted : IsWinner n ballots.rankings claims.winner → IsAdopted ballots claims file
    file-adopted won =
        let (a, m) = some-assertion are cover in
        let proper = proper-once n claims.assertions in
        let (smallest, among, is) = smallest-claim n ballots.rankings once proper holds-once a m in
        record {
          proof = is_proof;
          holds = record {
            contest = refl;
            candidates = refl;
            records = refl;
            winner = won;
            margins = claims-margins n ballots.rankings once proper holds-once;
            cover = λ order alternative.
                let (b, k, r) = from_covers n claims.winner once order cover
                (alternative-member n claims.winner alternative.1.0 order alternative.0 alternative.1.1 alternative.1.2) in
                refuting_claim file.claims order b (subst (Member b) (sym same-assertions) k) r;
            reached = (smallest, contains-from_member among, is);
            smallest = none-smaller n ballots.rankings once proper holds-once;
            best = tt;
            draws = tt;
          };
          winner = refl;
          same = λ b. (
            λ c. contains-from_member (once-from n claims.assertions b (subst (Member b) same-assertions (member-from_contains b (assertions_of file) c))).0,
            λ c. contains-from_member (subst (Member b) (sym same-assertions) (once-member n claims.assertions b (member-from_contains b claims.assertions c)
                (All-contains (λ a. IsTrue (is_proper n a)) claims.assertions b sound.proper c))),
          );
          rise = subst (AllPairs (λ a b. IsTrue (is_before a b))) (sym same-assertions) (once-rises n claims.assertions);
          order = refl;
          plan = refl;
        }

-- ---- the answer

module _ (budget : Budget) (ballots : BallotFile) (claims : Claimed) (are : AreCandidates ballots.candidates)
    (sound : AreSound (length ballots.candidates) claims) where
  abbrev m : ℕ
  m = length ballots.candidates

  record Adopts (file : Content) : Type 0 where
    won : IsWinner m ballots.rankings claims.winner
    hold : list_all (is_true ballots.rankings) claims.assertions ≡ true
    covered : covered_is m claims.winner (each_once m claims.assertions) budget ≡ Ok Covered
    same : adopted_file ballots claims ≡ file

  adopts : (file : Content) → IsAnswer budget ballots claims (Ok (Adopted file)) → Adopts file
  adopts file h =
      let p = passed budget ballots claims h.winner file h.answer_is in record {
        won = subst (IsWinner m ballots.rankings) (sym (eqb-true claims.winner h.winner p.won)) h.tabulated;
        hold = untrue-none ballots.rankings claims.assertions p.none;
        covered = p.covered;
        same = is-file budget ballots claims h.winner file h.answer_is;
      }

  covers-of : (file : Content) → Adopts file → covers m claims.winner (each_once m claims.assertions) ≡ true
  covers-of file h = (covered_iff_covers m claims.winner budget (each_once m claims.assertions) Covered h.covered).0 refl

  pub adopted_is : (file : Content) → IsAnswer budget ballots claims (Ok (Adopted file)) → IsAdopted ballots claims file
  adopted_is file answer =
      let h = adopts file answer in subst (IsAdopted ballots claims) h.same (file-adopted ballots claims sound are h.hold (covers-of file h) h.won)

  pub adopted_sound : length ballots.rankings ≤ MOST_RECORDS → (file : Content) → IsAnswer budget ballots claims (Ok (Adopted file)) → IsSound file
  adopted_sound most file answer =
      let h = adopts file answer in subst IsSound h.same (file-sound ballots claims sound are h.hold (covers-of file h) most)

  pub adopted_is_accepted : (file : Content) → IsAnswer budget ballots claims (Ok (Adopted file)) → IsCheckAnswer budget ballots file (Ok Accepted)
  adopted_is_accepted file answer =
      let h = adopts file answer in
      subst (λ file. IsCheckAnswer budget ballots file (Ok Accepted)) h.same
      (held-accepted budget ballots (adopted_file ballots claims) (file-adopted ballots claims sound are h.hold (covers-of file h) h.won).holds
      (ap (λ list. covered_is m claims.winner list budget) (claims-assertions ballots.rankings (each_once m claims.assertions)) ∙ h.covered))

  abbrev Proves : Type 0
  Proves = IsProof m claims.winner ballots.rankings claims.assertions × IsEnough budget m claims.winner (each_once m claims.assertions)

  proves : (file : Content) → IsAnswer budget ballots claims (Ok (Adopted file)) → Proves
  proves file answer =
      let h = adopts file answer in (
        (adopted_is file answer).proof,
        covered-enough m claims.winner (each_once m claims.assertions) budget h.covered,
      )

  -- the winner that a proof names is the candidate who won
  by_order : AllElect m ballots.rankings claims.winner → (order : List ℕ) → is_order m order ≡ true → is_tabulated ballots.rankings order ≡ true →
      IsWinner m ballots.rankings claims.winner
  by_order all order whole tab =
      record { order = order; permutation = whole; tabulated = tab; elects = all order whole (tabulated-possible ballots.rankings order tab) }

  proved : Proves → (file : Content) × IsAnswer budget ballots claims (Ok (Adopted file))
  proved (proof, enough) =
      let all = proof-decided m claims.winner ballots.rankings sound.winner (omega (arith, are.fewest)) claims.assertions proof in
      let (order, whole, tab) = tabulated_exists m ballots.rankings in
      let cover = covers-more m claims.winner claims.assertions (each_once m claims.assertions)
      (λ a k. once-member m claims.assertions a k (from_list_all (is_proper m) k proof.proper)) proof.cover in
      let covered = covers-covered m claims.winner (each_once m claims.assertions) budget cover enough in (
        adopted_file ballots claims,
        record {
          winner = claims.winner;
          tabulated = by_order all order whole tab;
          answer_is = on-cover budget ballots claims claims.winner (Ok Covered) (eq-eqb claims.winner claims.winner refl)
              (none-untrue ballots.rankings claims.assertions proof.hold) covered;
        },
      )

  pub adopted_exactly : ((file : Content) × IsAnswer budget ballots claims (Ok (Adopted file))) ↔ Proves
  adopted_exactly = (λ h. proves h.0 h.1, proved)
