-- What the parts of a search for the fewest NENs find.
use Rattle.std.proofs.Common.{◌≡◌, ℕ, ◌≤◌, ◌^◌, Bool, true, false, not, ◌&&◌, ◌==◌, if◌then◌else◌, nat_lt, nat_le, inl, inr, List, [], ◌∷◌, ◌++◌, map, length, All, None, Ok, refl, sym, ap, subst, arith, eq-eqb, eqb-true, ltb-true, ◌∙◌}
use Rattle.std.specs.List.{list_any, range_with_len}
use Rattle.std.proofs.lemmas.Bool.{and_parts, and_from, both_ways, cases_Bool, cases_lt, false_from_ne_true, not-true, not_from_false}
use Rattle.std.proofs.lemmas.List.{map-append}
use Rattle.std.proofs.lemmas.List.Elements.{All-contains}
use Rattle.irv_base.specs.Candidates.{candidates, has, set_of}
use Rattle.irv_base.proofs.Distinct.{distinct-le, distinct-range}
use Rattle.irv_base.proofs.Sames.{distinct-filter}
use Rattle.irv_base.proofs.Members.{Member, candidate-member, contains-from_member, from_list_all, from_list_any, from_map, list_all-each, list_any-member, member-append_cases, member-append_left, member-filter, member-flat_map, member-from_contains, member-map, member_cases}
use Rattle.assertions.specs.declared.assertion.Assertion.{Assertion}
use Rattle.assertions.specs.declared.assertion.Assertion.TheVariants.{Neb}
use Rattle.assertions.specs.declared.assertion.Claim.{Claim}
use Rattle.assertions.specs.Assertions.{assertions, is_proper, is_true, true_margin}
use Rattle.assertions.specs.Certificate.{claim_of}
use Rattle.assertions.specs.Refutation.{covers}
use Rattle.assertions.specs.Steps.{anew, is_anew, more, step}
use Rattle.assertions.proofs.Greatest.{greatest-member}
use Rattle.assertions.proofs.Listed.{assertion-member}
use Rattle.assertions.proofs.Proper.{pair_facts}
use Rattle.fewest.specs.Apart.{HasFewest}
use Rattle.fewest.specs.Flows.{is_barred}
use Rattle.fewest.specs.Nens.{is_nen, is_enough}
use Rattle.nen_cut.specs.Cut.{IsStrongestNen}
use Rattle.nen_cut.specs.Floors.{assertions_in, nebs, nebs_by, sets_beside}
use Rattle.nen_cut.proofs.Enough.{enough-facts}
use Rattle.cover_checker.proofs.Held.{all-from_members}
use Rattle.set_walk.specs.Answers.{first_within}
use Rattle.set_walk.specs.Walks.{is_standing, passes, standing, walks}
use Rattle.set_walk.proofs.Standing.{from_standing}
use Rattle.set_walk.proofs.Counted.{counted_stand}
use Rattle.set_walk.proofs.Enough.{enough}
use Rattle.set_walk.proofs.Orders.{covers_by_sets}
use Rattle.set_search.specs.Answers.{IsFault as IsMarginFault}
use Rattle.set_search.specs.Sets.{best_of, cover_sets, sets_for}
use Rattle.set_search.specs.declared.ends.SetsFault.{SetsFault}
use Rattle.set_search.specs.declared.ends.SetsFault.TheVariants.{Spent, Memory}
use Rattle.irv_tabulator.specs.declared.tabulated.Tabulated.{Tabulated}
use Rattle.fewest_search.specs.Answers.{AreFewest, IsFault}
use Rattle.fewest_search.specs.Needed.{IsOpen, IsNeededWithin, others}
use Rattle.fewest_search.specs.Sets.{beside_best, fewest_sets}
use Rattle.fewest_search.specs.Spared.{AreSpared}
use Rattle.fewest_search.proofs.Fewer.{fewer-nens, one-more-nen}
use Rattle.fewest_search.proofs.Needing.{IsWithin, from-others, standing-more, uncovered-open, walk-covers}

abbrev assertion-of : Claim → Assertion
assertion-of claim = claim.assertion

-- ---- what a NEB bars
module _ (n : ℕ) (records : List (List ℕ)) (floor set c : ℕ) where
  record Bars : Type 0 where
    pub winner : ℕ
    pub enough : is_enough n records floor (Neb winner c) ≡ true
    pub anew : is_anew (Neb winner c) set c ≡ true
    pub listed : Member (Neb winner c) (nebs n records floor)

  bars : is_barred n records floor set c ≡ true → Bars
  bars b =
      let (w, m, t) = from_list_any (λ w. is_enough n records floor (Neb w c) && not (has (more set c) w)) (candidates n) b in
      let (enough, out) = and_parts (is_enough n records floor (Neb w c)) (not (has (more set c) w)) t in
      let below = (pair_facts n w c (enough-facts n records floor (Neb w c) enough).proper).loser in
      record {
        winner = w;
        enough = enough;
        anew = and_from (c == c) (not (has (more set c) w)) (eq-eqb c c refl) out;
        listed = member-flat_map (nebs_by n records floor) m
            (member-filter (is_enough n records floor) (map (Neb w) (candidates n)) (member-map (Neb w) (candidate-member c n below)) enough);
      }

  -- no NEB bars a step that the list lets pass
  pub passes-free : (list : List Assertion) → IsWithin (nebs n records floor) list → passes list set c ≡ true → not (is_barred n records floor set c) ≡ true
  passes-free list within t =
      not_from_false (is_barred n records floor set c) (false_from_ne_true (is_barred n records floor set c) (λ b.
      let h = bars b in
      both_ways (list_any (λ a. is_anew a set c) list) (not-true (list_any (λ a. is_anew a set c) list) t)
      (list_any-member (λ a. is_anew a set c) {x = Neb h.winner c} (within (Neb h.winner c) h.listed) h.anew)))

  -- nor does a NEB bar a step below the floor
  pub below-free : nat_lt (step n records set c) floor ≡ true → not (is_barred n records floor set c) ≡ true
  below-free l =
      not_from_false (is_barred n records floor set c) (false_from_ne_true (is_barred n records floor set c) (λ b.
      let h = bars b in
      let a = Neb h.winner c in
      let e = enough-facts n records floor a h.enough in
      let (_, rest) = and_parts (is_proper n a) (is_true records a && nat_le floor (true_margin records a)) h.enough in
      let (is, _) = and_parts (is_true records a) (nat_le floor (true_margin records a)) rest in
      let m : Member a (anew n records set c) =
      member-filter (λ a. is_anew a set c && is_true records a) (assertions n) (assertion-member n a e.proper)
      (and_from (is_anew a set c) (is_true records a) h.anew is) in
      let le : true_margin records a ≤ step n records set c = greatest-member (member-map (true_margin records) m) in
      let lt = ltb-true (step n records set c) floor l in
      let reaches = e.reaches in
      omega (arith, le, lt, reaches)))

none-below : (x : ℕ) → nat_lt x 0 ≡ false
none-below x = grind arith

-- below the best margin, no more sets are reached than its NEBs let stand
cover-beside : (n winner : ℕ) (records : List (List ℕ)) → cover_sets n records winner ≤ sets_beside n records winner (best_of n records winner)
cover-beside n winner records =
    let best = best_of n records winner in
    standing-more n winner (λ set c. nat_lt (step n records set c) best) (λ set c. not (is_barred n records best set c))
    (λ set c l. below-free n records best set c l)

-- and no sets are reached below a margin of 0
no-walk : (p : ℕ → ℕ → Bool) → ((set c : ℕ) → p set c ≡ false) → (before t : List ℕ) (c : ℕ) → t ≡ before ++ c ∷ [] → walks p t ≡ true → ⊥
no-walk p none [] [] c e w = cc e
no-walk p none (b ∷ before) [] c e w = cc e
no-walk p none before (d ∷ t) c e w = both_ways (p (set_of t) d) (none (set_of t) d) (and_parts (p (set_of t) d) (walks p t) w).0

none-stand : (n winner : ℕ) (p : ℕ → ℕ → Bool) → ((set c : ℕ) → p set c ≡ false) → length (standing n winner p) ≤ 0
none-stand n winner p none =
    distinct-le (standing n winner p) [] (distinct-filter (is_standing n winner p) (range_with_len 0 (2 ^ n)) (distinct-range 0 (2 ^ n))) (λ set m.
    let (t, s) = from_standing n winner p set m in
    absurd (no-walk p none s.is.elects.0 t s.is.elected s.is.elects.1 s.going))

-- above a margin of 0, all sets that the NEBs let stand are needed
if-some : (best beside : ℕ) → 1 ≤ best → (if best == 0 then 0 else beside) ≡ beside
if-some best beside some = by (best == 0) refl where
  by : (b : Bool) → (best == 0) ≡ b → (if b then 0 else beside) ≡ beside
  by true is = let none = eqb-true best 0 is in absurd (omega (arith, some, none))
  by false is = refl

pub beside-all : (n winner : ℕ) (records : List (List ℕ)) → 1 ≤ best_of n records winner →
    beside_best n records winner ≡ sets_beside n records winner (best_of n records winner)
beside-all n winner records some = if-some (best_of n records winner) (sets_beside n records winner (best_of n records winner)) some

cover-best : (n winner : ℕ) (records : List (List ℕ)) → cover_sets n records winner ≤ beside_best n records winner
cover-best n winner records =
    let best = best_of n records winner in
    elim (cases_lt 0 best) [
      | inl some ↦
          let le = cover-beside n winner records in
          let all = beside-all n winner records (omega (arith, some)) in
          omega (arith, le, all)
      | inr none ↦
          let is : best ≡ 0 = omega (arith, none) in
          let le : cover_sets n records winner ≤ 0 =
          none-stand n winner (λ set c. nat_lt (step n records set c) best)
          (λ set c. ap (nat_lt (step n records set c)) is ∙ none-below (step n records set c)) in
          omega (arith, le)
    ]

pub sets-more : (n winner : ℕ) (records : List (List ℕ)) → sets_for n records winner ≤ fewest_sets n records winner
sets-more n winner records = let le = cover-best n winner records in omega (arith, le)

pub fault-more : (n : ℕ) (records : List (List ℕ)) (tab : Tabulated) (sets : ℕ) (fault : SetsFault) → IsMarginFault n records tab sets fault →
    IsFault n records tab sets fault
fault-more n records tab sets (Spent order margin) is =
    let le = sets-more n tab.winner records in
    let above = is.above in
    record { above = omega (arith, le, above); start = is.start; hardness = is.hardness; some = is.some }
fault-more n records tab sets Memory is = tt

-- ---- lists with the fewest NENs
module _ (n winner : ℕ) (records : List (List ℕ)) (floor : ℕ) (list : List Assertion) (has-fewest : HasFewest n winner records floor list) where
  pub each-enough : (a : Assertion) → Member a list → is_enough n records floor a ≡ true
  each-enough a m = from_list_all (is_enough n records floor) m has-fewest.complete.enough

  -- every NEN is needed
  pub nen-needed : (a : Assertion) → Member a list → is_nen a ≡ true → IsOpen n winner (others a list)
  nen-needed a m nen =
      elim (cases_Bool (covers n winner (others a list))) [
        | inr f ↦ uncovered-open n winner (others a list) f
        | inl t ↦
            let le = has-fewest.least (others a list) (record {
              enough = list_all-each (is_enough n records floor) (others a list) (λ b k. each-enough b (from-others a list b k).0);
              covering = t;
            }) in
            let one = one-more-nen a (others a list) nen (λ k. (from-others a list a k).1 refl) in
            let few = fewer-nens (a ∷ others a list) list (λ b k _.
            elim (member_cases k) [ inl s ↦ subst (λ b. Member b list) s m | inr r ↦ (from-others a list b r).0 ]) in
            absurd (omega (arith, le, one, few))
      ]

  -- if some of its assertions still cover and include all NENs, they have equally few
  pub part-fewest : (part : List Assertion) → IsWithin part list → covers n winner part ≡ true → HasFewest n winner records floor part
  part-fewest part within covering = record {
    complete = record { enough = list_all-each (is_enough n records floor) part (λ a m. each-enough a (within a m)); covering = covering };
    least = λ other complete.
        let le = has-fewest.least other complete in
        let few = fewer-nens part list (λ a m _. within a m) in
        omega (arith, le, few);
  }

-- ---- claims
pub claims-assertions : (records : List (List ℕ)) (list : List Assertion) → assertions_in (map (claim_of records) list) ≡ list
claims-assertions records [] = refl
claims-assertions records (a ∷ list) = ap (λ list. a ∷ list) (claims-assertions records list)

module _ (n winner : ℕ) (records : List (List ℕ)) (floor : ℕ) (neb-claims nen-claims : List Claim)
    (are-nebs : neb-claims ≡ map (claim_of records) (nebs n records floor))
    (has-fewest : HasFewest n winner records floor (nebs n records floor ++ assertions_in nen-claims)) where
  abbrev list : List Assertion
  list = nebs n records floor ++ assertions_in nen-claims

  pub joined : assertions_in (neb-claims ++ nen-claims) ≡ list
  joined =
      map-append assertion-of neb-claims nen-claims
      ∙ ap (λ claims. assertions_in claims ++ assertions_in nen-claims) are-nebs
      ∙ ap (λ list. list ++ assertions_in nen-claims) (claims-assertions records (nebs n records floor))

  claim-member : (claim : Claim) → Member claim (neb-claims ++ nen-claims) → Member claim.assertion list
  claim-member claim m = subst (Member claim.assertion) joined (member-map assertion-of m)

  pub all-proper : All (λ (claim : Claim). is_proper n claim.assertion ≡ true) (neb-claims ++ nen-claims)
  all-proper =
      all-from_members (λ (claim : Claim). is_proper n claim.assertion ≡ true) (neb-claims ++ nen-claims) (λ claim m.
      (enough-facts n records floor claim.assertion (each-enough n winner records floor list has-fewest claim.assertion (claim-member claim m))).proper)

  -- they cover within a budget of the sets that the NEBs let stand
  pub all-covered : (sets : ℕ) → sets_beside n records winner floor ≤ sets →
      first_within n winner sets (passes (assertions_in (neb-claims ++ nen-claims))) ≡ Ok None
  all-covered sets within =
      subst (λ list. first_within n winner sets (passes list) ≡ Ok None) (sym joined)
      (let none = (covers_by_sets n winner list).0 has-fewest.complete.covering in
      let few = (counted_stand n winner (passes list)).0 in
      let le = standing-more n winner (passes list) (λ set c. not (is_barred n records floor set c)) (λ set c t.
      passes-free n records floor set c list (λ a m. member-append_left (assertions_in nen-claims) m) t) in
      enough n winner sets (passes list) (omega (arith, within, few, le)) ∙ ap Ok none)

  module _ (strongest : All (IsStrongestNen n records floor) nen-claims) where
    nen-claim : (claim : Claim) → Member claim nen-claims → IsStrongestNen n records floor claim
    nen-claim claim m = All-contains (IsStrongestNen n records floor) nen-claims claim strongest (contains-from_member m)

    measured : (claim : Claim) → Member claim (neb-claims ++ nen-claims) → claim.margin ≡ true_margin records claim.assertion
    measured claim m =
        elim (member-append_cases neb-claims nen-claims m) [
          | inl k ↦
              let (a, _, e) = from_map (claim_of records) claim (nebs n records floor) (subst (Member claim) are-nebs k) in
              sym (ap (λ (claim : Claim). claim.margin) e) ∙ ap (λ (claim : Claim). true_margin records claim.assertion) e
          | inr k ↦
              let (step, cutter) = nen-claim claim k in
              cutter.strongest.measured ∙ ap (true_margin records) (sym cutter.nen)
        ]

    -- the claims that are left have the fewest NENs, and each is needed
    pub spared-fewest : (sets : ℕ) (claims : List Claim) → AreSpared n winner sets neb-claims nen-claims claims → AreFewest n records winner sets floor claims
    spared-fewest sets claims spared =
        let member = λ (claim : Claim) (m : Member claim claims). member-from_contains claim (neb-claims ++ nen-claims) (spared.part claim (contains-from_member m)) in
        let within : IsWithin (assertions_in claims) list = λ a m.
        let (claim, k, e) = from_map assertion-of a claims m in subst (λ a. Member a list) e (claim-member claim (member claim k)) in
        let few = part-fewest n winner records floor list has-fewest (assertions_in claims) within
        (walk-covers n winner (assertions_in claims) sets spared.covered) in
        record {
          measured = all-from_members (λ (claim : Claim). claim.margin ≡ true_margin records claim.assertion) claims (λ claim m.
              measured claim (member claim m));
          rising = spared.rising;
          fewest = few;
          needed = all-from_members (λ (claim : Claim). IsNeededWithin n winner sets (assertions_in claims) claim.assertion) claims (λ claim m.
              elim (spared.needed claim (contains-from_member m)) [
                | inl k ↦
                    let (step, cutter) = nen-claim claim (member-from_contains claim nen-claims k) in
                    inl (nen-needed n winner records floor (assertions_in claims) few claim.assertion (member-map assertion-of m) (ap is_nen cutter.nen))
                | inr few' ↦ few'
              ]);
          covered = spared.covered;
        }
