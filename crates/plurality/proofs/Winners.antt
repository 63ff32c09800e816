-- Who has won, and who shares the greatest number of first preferences.
use Rattle.std.proofs.Common.{◌≡◌, ◌≢◌, ◌∙◌, ◌==◌, inl, inr, ℕ, ◌<◌, ◌≤◌, Err, Ok, List, [], ◌∷◌, length, map, refl, sym, ap, subst, arith, eq-eqb, eqb-true}
use Rattle.std.proofs.lemmas.Bool.{cases_Bool, eqb-false, false≢true}
use Rattle.irv_base.specs.Candidates.{candidates, has, is_in, set_of}
use Rattle.irv_base.proofs.Distinct.{Distinct, distinct-head, distinct-range}
use Rattle.irv_base.proofs.Members.{Member, here, there, candidate-member, from_candidates, from_map, in-from_member, member-filter, member-from_in, member-map, member_at, member_cases, member_nil, out-from_none}
use Rattle.irv_base.proofs.Sets.{has-set_of, set_of_is}
use Rattle.plurality.specs.Plurality.{WinsPlurality, first_preferences, greatest, leaders}
use Rattle.plurality.specs.Plural.{Outcome, Tie, outcome_of, outcome_with, won_by}
use Rattle.plurality.specs.Laws.{TieLaw, WonLaw}
use Rattle.plurality.specs.Ties.{AreTied}
use Rattle.plurality.proofs.Lists.{distinct-filter, max-bounds, max-reached}
use Rattle.plurality.proofs.Outcomes.{leader-below, leader-has}

-- ---- what an outcome says about those who lead
pub from_won : (n : ℕ) (records : List (List ℕ)) (those : List ℕ) (outcome : Outcome) → outcome_with n records those ≡ Ok outcome →
    (winner : ℕ) × (those ≡ winner ∷ []) × (outcome ≡ won_by n records winner)
from_won n records [] outcome is = absurd cc
from_won n records (w ∷ []) outcome is = (w, refl, cc)
from_won n records (a ∷ b ∷ those) outcome is = absurd cc

from_tied : (n : ℕ) (records : List (List ℕ)) (those : List ℕ) (tie : Tie) → 1 ≤ length those → outcome_with n records those ≡ Err tie →
    (one : ℕ) × (other : ℕ) × (rest : List ℕ) × (those ≡ one ∷ other ∷ rest) × (tie ≡ record { tied = set_of those; tally = greatest n records })
from_tied n records [] tie some is = absurd (omega arith)
from_tied n records (w ∷ []) tie some is = absurd cc
from_tied n records (a ∷ b ∷ those) tie some is = (a, b, those, refl, cc)

-- ---- the greatest number
module _ (n : ℕ) (records : List (List ℕ)) where
  abbrev firsts : ℕ → ℕ
  firsts = first_preferences records

  pub at-most : (c : ℕ) → c < n → firsts c ≤ greatest n records
  at-most c below = (max-bounds 0 (map firsts (candidates n))).1 (firsts c) (member-map firsts (candidate-member c n below))

  pub leads : (c : ℕ) → c < n → firsts c ≡ greatest n records → Member c (leaders n records)
  leads c below has' =
      member-filter (λ d. firsts d == greatest n records) (candidates n) (candidate-member c n below) (eq-eqb (firsts c) (greatest n records) has')

  -- somebody has it
  reached : (some : ℕ) → some < n → (c : ℕ) × (c < n) × (firsts c ≡ greatest n records)
  reached some below = elim (max-reached 0 (map firsts (candidates n))) [
    | inl none ↦ let most = at-most some below in (some, below, omega arith)
    | inr m ↦ let (c, among, is) = from_map firsts (greatest n records) (candidates n) m in (c, from_candidates among, is)
  ]

  leaders-apart : Distinct (leaders n records)
  leaders-apart = distinct-filter (λ d. firsts d == greatest n records) (candidates n) (distinct-range 0 n)

  -- ---- a winner is the sole leader
  only : (w : ℕ) (xs : List ℕ) → Distinct xs → Member w xs → ((x : ℕ) → Member x xs → x ≡ w) → xs ≡ w ∷ []
  only w [] d m each = absurd (member_nil m)
  only w (x ∷ []) d m each = ap (λ y. y ∷ []) (each x here)
  only w (x ∷ y ∷ xs) d m each = absurd (distinct-head d (member_at (each y (there here) ∙ sym (each x here))))

  module _ (winner : ℕ) (below : winner < n) (wins : WinsPlurality n records winner) where
    winner-has : firsts winner ≡ greatest n records
    winner-has =
        let (c, under, is) = reached winner below in
        elim (cases_Bool (c == winner)) [
          | inl same ↦ ap firsts (sym (eqb-true c winner same)) ∙ is
          | inr other ↦
              let fewer = wins c under (eqb-false c winner other) in
              let most = at-most winner below in
              absurd (omega arith)
        ]

    leads-alone : leaders n records ≡ winner ∷ []
    leads-alone = only winner (leaders n records) leaders-apart (leads winner below winner-has) (λ c m. elim (cases_Bool (c == winner)) [
      | inl same ↦ eqb-true c winner same
      | inr other ↦
          let fewer = wins c (leader-below n records c m) (eqb-false c winner other) in
          let has' = leader-has n records c m in
          absurd (omega (arith, winner-has))
    ])

  -- ---- a sole leader has more than every other candidate
  pub alone-wins : (winner : ℕ) → leaders n records ≡ winner ∷ [] → WinsPlurality n records winner
  alone-wins winner alone other below differs =
      let has' = leader-has n records winner (subst (Member winner) (sym alone) here) in
      let most = at-most other below in
      let less : firsts other ≢ greatest n records = λ same.
      elim (member_cases (subst (Member other) alone (leads other below same))) [ inl e ↦ differs (sym e) | inr none ↦ member_nil none ] in
      omega arith

pub won_law : WonLaw
won_law n winner records below = (
  λ wins. ap (outcome_with n records) (leads-alone n records winner below wins),
  λ is.
      let (w, alone, same) = from_won n records (leaders n records) (won_by n records winner) is in
      let named : winner ≡ w = ap (λ outcome. outcome.winner) same in
      subst (WinsPlurality n records) (sym named) (alone-wins n records w alone),
)

-- ---- a tie
pub some-member : (xs : List ℕ) (x : ℕ) → Member x xs → 1 ≤ length xs
some-member [] x m = absurd (member_nil m)
some-member (y ∷ xs) x m = omega arith

from_tie : (n : ℕ) (records : List (List ℕ)) (tie : Tie) → 1 ≤ n → outcome_of n records ≡ Err tie → AreTied n records tie
from_tie n records tie some is =
    let (c, under, has') = reached n records 0 (omega arith) in
    let (one, other, rest, those, same) = from_tied n records (leaders n records) tie (some-member (leaders n records) c (leads n records c under has')) is in
    let tally = ap (λ t. t.tally) same in
    let first : Member one (leaders n records) = subst (Member one) (sym those) here in
    let second : Member other (leaders n records) = subst (Member other) (sym those) (there here) in
    let among : (c : ℕ) → has tie.tied c ≡ is_in (leaders n records) c = λ c.
    ap (λ t. has t.tied c) same ∙ has-set_of (leaders n records) c (leaders-apart n records) in
    record {
      most = λ c below. let most = at-most n records c below in omega arith;
      tied_are = λ c. (
        λ there'.
            let m = member-from_in c (leaders n records) (sym (among c) ∙ there') in
            (leader-below n records c m, leader-has n records c m ∙ sym tally),
        λ (below, has''). among c ∙ in-from_member (leads n records c below (has'' ∙ tally)),
      );
      one = one;
      other = other;
      differ = λ e. distinct-head (subst Distinct those (leaders-apart n records)) (member_at (sym e));
      both_below = (leader-below n records one first, leader-below n records other second);
      both_lead = (leader-has n records one first ∙ sym tally, leader-has n records other second ∙ sym tally);
    }

-- if two or more candidates are tied, nobody has won
several-tie : (n : ℕ) (records : List (List ℕ)) (those : List ℕ) (one other : ℕ) → one ≢ other → Member one those → Member other those →
    outcome_with n records those ≡ Err (record { tied = set_of those; tally = greatest n records })
several-tie n records [] one other differ first second = absurd (member_nil first)
several-tie n records (w ∷ []) one other differ first second = absurd (differ (sym (alone first) ∙ alone second))
  where
    alone : {x : ℕ} → Member x (w ∷ []) → w ≡ x
    alone m = elim (member_cases m) [ inl e ↦ e | inr none ↦ absurd (member_nil none) ]
several-tie n records (a ∷ b ∷ those) one other differ first second = refl

to_tie : (n : ℕ) (records : List (List ℕ)) (tie : Tie) → AreTied n records tie → outcome_of n records ≡ Err tie
to_tie n records tie tied =
    let (c, under, has') = reached n records tied.one tied.both_below.0 in
    let most = tied.most c under in
    let least = at-most n records tied.one tied.both_below.0 in
    let lead = tied.both_lead.0 in
    let tally : tie.tally ≡ greatest n records = omega (arith, most, least, lead, has') in
    let those = leaders n records in
    let first = leads n records tied.one tied.both_below.0 (tied.both_lead.0 ∙ tally) in
    let second = leads n records tied.other tied.both_below.1 (tied.both_lead.1 ∙ tally) in
    let set : tie.tied ≡ set_of those = set_of_is tie.tied those (leaders-apart n records) (λ c. elim (cases_Bool (has tie.tied c)) [
      | inl inside ↦ let (below, is) = (tied.tied_are c).0 inside in inside ∙ sym (in-from_member (leads n records c below (is ∙ tally)))
      | inr outside ↦
          outside
          ∙ sym (out-from_none c those (λ m.
          false≢true (sym outside ∙ (tied.tied_are c).1 (leader-below n records c m, leader-has n records c m ∙ sym tally))))
    ]) in
    several-tie n records those tied.one tied.other tied.differ first second
    ∙ λ i. Err (record { tied = sym set i; tally = sym tally i })

pub tie_law : TieLaw
tie_law n records tie some = (from_tie n records tie some, to_tie n records tie)
