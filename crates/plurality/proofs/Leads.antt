-- What the values of a claim add up to, and what the outcome of a contest says about first preferences.
use Rattle.std.proofs.Common.{◌≡◌, ◌≢◌, ◌∙◌, ◌==◌, ◌⊎◌, inl, inr, ℕ, ◌+◌, ◌<◌, ◌≤◌, Bool, true, false, not, cond, nat_lt, if◌then◌else◌, List, [], ◌∷◌, All, length, get_or, sum_by, refl, sym, ap, subst, arith, eq-eqb, eqb-true, ltb-true, ne_eqb, true≢false}
use Rattle.std.specs.List.{list_all}
use Rattle.std.proofs.lemmas.Bool.{and_from, cases_Bool, ltb-false}
use Rattle.std.proofs.lemmas.List.{get_or_default}
use Rattle.std.proofs.lemmas.List.Elements.{All-map}
use Rattle.std.proofs.lemmas.List.Sums.{sum_by-cons}
use Rattle.irv_base.specs.Candidates.{all_but, candidates}
use Rattle.irv_base.specs.Records.{is_first}
use Rattle.irv_base.proofs.Members.{Member, here, there, candidate-member, contains-from_member, from_candidates, from_filter, from_list_all, member-filter, member-from_contains, member-map}
use Rattle.assorters.specs.Cards.{IsAssorter}
use Rattle.plurality.specs.Plurality.{WinsPlurality, first_preferences}
use Rattle.plurality.specs.Plural.{Outcome, lead, values_of}
use Rattle.plurality.specs.Laws.{LeadLaw, WinnerIsFirst, WonOrAnother}

-- ---- each ranking is worth 1, and one more or one less if it counts
pub lead_law : LeadLaw
lead_law winner loser [] differ = refl
lead_law winner loser (r ∷ records) differ =
    let rest = lead_law winner loser records differ in
    let one : lead winner loser r + cond (is_first r loser) 1 0 ≡ 1 + cond (is_first r winner) 1 0 =
    each (is_first r winner) (is_first r loser) (apart r) in
    omega (
      arith,
      one,
      rest,
      sum_by-cons (lead winner loser) r records,
      sum_by-cons (λ r. cond (is_first r loser) 1 0) r records,
      sum_by-cons (λ r. cond (is_first r winner) 1 0) r records,
    )
  where
    each : (a b : Bool) → (a ≡ true → b ≡ false) → (if a then 2 else (if b then 0 else 1)) + cond b 1 0 ≡ 1 + cond a 1 0
    each true true h = absurd (true≢false (h refl))
    each true false h = refl
    each false true h = refl
    each false false h = refl

    apart : (r : List ℕ) → is_first r winner ≡ true → is_first r loser ≡ false
    apart [] h = refl
    apart (c ∷ rest) h = ne_eqb c loser (λ e. differ (sym (eqb-true c winner h) ∙ e))

-- a card counts as 2 at most
pub lead-few : (winner loser : ℕ) (ranking : List ℕ) → lead winner loser ranking ≤ 2
lead-few winner loser ranking = few (is_first ranking winner) (is_first ranking loser) where
  few : (p q : Bool) → (if p then 2 else (if q then 0 else 1)) ≤ 2
  few true q = omega arith
  few false true = omega arith
  few false false = omega arith

-- ---- the candidates other than the winner
pub rival : (n winner other : ℕ) → other < n → other ≢ winner → Member other (all_but n winner)
rival n winner other below differs =
    member-filter (λ c. not (c == winner)) (candidates n) (candidate-member other n below) (ap not (ne_eqb other winner differs))

pub from_rival : (n winner other : ℕ) → Member other (all_but n winner) → (other < n) × (other ≢ winner)
from_rival n winner other m =
    let (among, apart) = from_filter (λ c. not (c == winner)) (candidates n) m in
    (from_candidates among, λ e. true≢false (sym apart ∙ ap not (eq-eqb other winner e)))

-- all of a list, by its members
pub all-members : {X : Type 0} (P : X → Type 0) (xs : List X) → ((x : X) → Member x xs → P x) → All P xs
all-members P xs each = λ k d below.
    each (get_or xs k d)
    (member-from_contains (get_or xs k d) xs
    (k, below, get_or_default xs k (get_or xs k d) d below))

pub member-all : {X : Type 0} (P : X → Type 0) (xs : List X) → All P xs → (x : X) → Member x xs → P x
member-all P xs all x m =
    let (k, below, at) = contains-from_member m in
    subst P at (all k x below)

-- ---- the claims are true if the winner has more first preferences
pub winner_is_first : WinnerIsFirst
winner_is_first n outcome records are = (won, true-of) where
  of : ℕ → Type 0
  of loser = length records < sum_by (lead outcome.winner loser) records

  won : All (λ value. length records < sum_by value records) (values_of outcome) → WinsPlurality n records outcome.winner
  won all other below differs =
      let m : Member other outcome.losers = subst (Member other) (sym are) (rival n outcome.winner other below differs) in
      let more = member-all (λ value. length records < sum_by value records) (values_of outcome) all (lead outcome.winner other)
      (member-map (lead outcome.winner) m) in
      let sums = lead_law outcome.winner other records (λ e. differs (sym e)) in
      omega arith

  true-of : WinsPlurality n records outcome.winner → All (λ value. length records < sum_by value records) (values_of outcome)
  true-of wins =
      All-map (λ value. length records < sum_by value records) (lead outcome.winner) outcome.losers
      (all-members of outcome.losers (λ loser m.
      let (below, differs) = from_rival n outcome.winner loser (subst (Member loser) are m) in
      let fewer = wins loser below differs in
      let sums = lead_law outcome.winner loser records (λ e. differs (sym e)) in
      omega arith))

-- ---- the winner has won, or another candidate has as many
some-fails : (p : ℕ → Bool) (xs : List ℕ) → (list_all p xs ≡ true) ⊎ ((x : ℕ) × Member x xs × (p x ≡ false))
some-fails p [] = inl refl
some-fails p (x ∷ xs) = elim (cases_Bool (p x)) [
  | inr not-x ↦ inr (x, here, not-x)
  | inl is-x ↦ elim (some-fails p xs) [
    | inl all ↦ inl (and_from (p x) (list_all p xs) is-x all)
    | inr found ↦ let (y, m, fails) = found in inr (y, there m, fails)
  ]
]

pub won_or_another : WonOrAnother
won_or_another n winner actual =
    let fewer : ℕ → Bool = λ c. nat_lt (first_preferences actual c) (first_preferences actual winner) in
    elim (some-fails fewer (all_but n winner)) [
      | inl all ↦ inl (λ other below differs.
          ltb-true (first_preferences actual other) (first_preferences actual winner)
          (from_list_all fewer (rival n winner other below differs) all))
      | inr found ↦
          let (other, m, fails) = found in
          let (below, differs) = from_rival n winner other m in
          inr (record {
            one_each = refl;
            other = other;
            below = below;
            differs = differs;
            as_many = ltb-false (first_preferences actual other) (first_preferences actual winner) fails;
          })
    ]

-- ---- the claims of an outcome are assorters
pub each-assorter : (outcome : Outcome) → All IsAssorter (values_of outcome)
each-assorter outcome = All-map IsAssorter (lead outcome.winner) outcome.losers (λ k d below. lead-few outcome.winner (get_or outcome.losers k d))
