-- The NENs and the NEBs that are left, in the fixed order.
use Rattle.std.proofs.Common.{◌≡◌, ℕ, ◌≤◌, inl, inr, List, ◌++◌, length, take, All, None, Ok, Contains, sym, ap, subst, arith, ◌∙◌}
use Rattle.std.proofs.Math.Seq.{take-append_seam}
use Rattle.std.proofs.lemmas.List.{length-append}
use Rattle.std.proofs.lemmas.List.Elements.{All-contains}
use Rattle.std.proofs.lemmas.List.Sorted.{Contains-permutation, IsPermutation-sym}
use Rattle.irv_base.proofs.Members.{Member, contains-from_member, from_map, member-append_cases, member-append_left, member-append_right, member-from_contains, member-map}
use Rattle.assertions.specs.declared.assertion.Assertion.{Assertion}
use Rattle.assertions.specs.declared.assertion.Claim.{Claim}
use Rattle.cover_checker.proofs.Held.{all-from_members}
use Rattle.set_walk.specs.Answers.{first_within}
use Rattle.set_walk.specs.Walks.{passes}
use Rattle.nen_cut.specs.Floors.{assertions_in}
use Rattle.fewest_search.specs.InOrder.{AreInOrder}
use Rattle.fewest_search.specs.Needed.{others}
use Rattle.fewest_search.specs.Spared.{AreInTurn, AreLeft, AreSpared}
use Rattle.fewest_search.proofs.Needing.{IsWithin, covered-more, others-part, too_few-part}

abbrev assertion-of : Claim → Assertion
assertion-of claim = claim.assertion

-- if claims are all among others, so are their assertions
within-claims : (part whole : List Claim) → ((claim : Claim) → Member claim part → Member claim whole) → IsWithin (assertions_in part) (assertions_in whole)
within-claims part whole f a m =
    let (claim, k, e) = from_map assertion-of a part m in
    subst (λ a. Member a (assertions_in whole)) e (member-map assertion-of (f claim k))

module _ (nebs nens claims : List Claim) (turn : AreInTurn nebs nens claims) where
  pub turn-front : take (length nens) claims ≡ nens
  turn-front = ap (take (length nens)) turn.joined ∙ take-append_seam nens turn.later

  pub turn-long : length nens ≤ length claims
  turn-long = let long = ap length turn.joined ∙ length-append nens turn.later in omega (arith, long)

  pub from-turn : (claim : Claim) → Member claim claims → Member claim (nebs ++ nens)
  from-turn claim m =
      elim (member-append_cases nens turn.later (subst (Member claim) turn.joined m)) [
        | inl k ↦ member-append_right nebs k
        | inr k ↦ member-append_left nens (member-from_contains claim nebs
            (Contains-permutation turn.later nebs claim (IsPermutation-sym nebs turn.later turn.same) (contains-from_member k)))
      ]

  to-turn : (claim : Claim) → Member claim (nebs ++ nens) → Member claim claims
  to-turn claim m =
      subst (Member claim) (sym turn.joined)
      (elim (member-append_cases nebs nens m) [
        | inl k ↦ member-append_right nens (member-from_contains claim turn.later
            (Contains-permutation nebs turn.later claim turn.same (contains-from_member k)))
        | inr k ↦ member-append_left turn.later k
      ])

  pub turn-all : (P : Claim → Type 0) → All P (nebs ++ nens) → All P claims
  turn-all P all = all-from_members P claims (λ claim m. All-contains P (nebs ++ nens) claim all (contains-from_member (from-turn claim m)))

  module _ (n winner sets : ℕ) where
    pub turn-covered : first_within n winner sets (passes (assertions_in (nebs ++ nens))) ≡ Ok None →
        first_within n winner sets (passes (assertions_in claims)) ≡ Ok None
    turn-covered e =
        covered-more n winner sets (assertions_in (nebs ++ nens)) (assertions_in claims) (within-claims (nebs ++ nens) claims to-turn) e

    pub spared : (left list : List Claim) → AreLeft n winner sets claims (take (length nens) claims) left →
        AreInOrder (left ++ take (length nens) claims) list → AreSpared n winner sets nebs nens list
    spared left list are-left in-order =
        let are = subst (λ stay. AreLeft n winner sets claims stay left) turn-front are-left in
        let order = subst (λ stay. AreInOrder (left ++ stay) list) turn-front in-order in
        let from = λ (claim : Claim) (k : Contains list claim). member-append_cases left nens (member-from_contains claim (left ++ nens) (order.from claim k)) in
        let there : IsWithin (assertions_in (left ++ nens)) (assertions_in list) = λ a m.
        member-from_contains a (assertions_in list) (order.each a (contains-from_member m)) in
        let swapped : IsWithin (assertions_in (nens ++ left)) (assertions_in (left ++ nens)) = within-claims (nens ++ left) (left ++ nens) (λ claim m.
        elim (member-append_cases nens left m) [ inl k ↦ member-append_right left k | inr k ↦ member-append_left nens k ]) in
        let back : IsWithin (assertions_in list) (assertions_in (nens ++ left)) = within-claims list (nens ++ left) (λ claim m.
        elim (from claim (contains-from_member m)) [ inl k ↦ member-append_right nens k | inr k ↦ member-append_left left k ]) in
        record {
          part = λ claim k.
              elim (from claim k) [
                | inl m ↦ contains-from_member (from-turn claim (member-from_contains claim claims (are.part claim (contains-from_member m))))
                | inr m ↦ contains-from_member (member-append_right nebs m)
              ];
          stay = λ a k.
              contains-from_member (there a (within-claims nens (left ++ nens) (λ claim m. member-append_right left m) a (member-from_contains a (assertions_in nens) k)));
          covered = covered-more n winner sets (assertions_in (nens ++ left)) (assertions_in list) (λ a m. there a (swapped a m)) are.covered;
          needed = λ claim k.
              elim (from claim k) [
                | inl m ↦ inr (too_few-part n winner sets (others claim.assertion (assertions_in list)) (others claim.assertion (assertions_in (nens ++ left)))
                    (others-part claim.assertion (assertions_in list) (assertions_in (nens ++ left)) back) (are.needed claim (contains-from_member m)))
                | inr m ↦ inl (contains-from_member m)
              ];
          rising = order.rising;
        }
