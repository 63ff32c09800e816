-- What all claims need.
use Rattle.std.proofs.Common.{◌≡◌, ◌⊎◌, inl, inr, ℕ, ◌≤◌, max, List, [], ◌∷◌, map, fold, get_or, All, Option, Some, None, IfSome, refl, sym, ap, subst, arith, ◌∙◌}
use Rattle.std.specs.Prelude.{IsSomeAnd, MatchOption, Contains}
use Rattle.std.proofs.lemmas.Bool.{cases_lt}
use Rattle.std.proofs.lemmas.List.{get_or_default}
use Rattle.irv_base.proofs.Members.{Member, here, there, contains-from_member, member-from_contains, member-map, from_map, member_cases, member_nil}
use Rattle.assertions.specs.declared.assertion.Claim.{Claim}
use Rattle.km_risk.proofs.CleanDraws.{larger_margin_law}
use Rattle.audit_report.specs.Plan.{all_need, both_need, need_of}
use Rattle.audit_report.specs.Laws.{AllNeedLaw, ClosestClaimLaw}

-- ---- elements

each_member : {X : Type 0} (P : X → Type 0) (xs : List X) → All P xs → (x : X) → Member x xs → P x
each_member P xs all x member = let (k, within, is) = contains-from_member member in subst P is (all k x within)

all_members : {X : Type 0} (P : X → Type 0) (xs : List X) → ((x : X) → Member x xs → P x) → All P xs
all_members P xs each k d within =
    each (get_or xs k d) (member-from_contains (get_or xs k d) xs (k, within, get_or_default xs k (get_or xs k d) d within))

-- ---- the greatest

-- a need is at most another need; a full count is more than any number of draws
abbrev IsWithin : Option ℕ → Option ℕ → Type 0
IsWithin need other = IfSome other (λ n. IsSomeAnd need (λ k. k ≤ n))

takes_in : (need other : Option ℕ) → IsWithin need other → both_need need other ≡ other
takes_in None None within = refl
takes_in None (Some n) within = absurd within
takes_in (Some k) None within = refl
takes_in (Some k) (Some n) within = ap Some (omega (arith, within))

stays_in : (need other : Option ℕ) → IsWithin need other → both_need other need ≡ other
stays_in None None within = refl
stays_in (Some k) None within = refl
stays_in None (Some n) within = absurd within
stays_in (Some k) (Some n) within = ap Some (omega (arith, within))

both_within : (a b top : Option ℕ) → IsWithin a top → IsWithin b top → IsWithin (both_need a b) top
both_within a b None p q = tt
both_within None b (Some n) p q = absurd p
both_within (Some k) None (Some n) p q = absurd q
both_within (Some k) (Some m) (Some n) p q = omega (arith, p, q)

none_within : (top : Option ℕ) → IsWithin (Some 0) top
none_within None = tt
none_within (Some n) = omega arith

stays : (top : Option ℕ) (needs : List (Option ℕ)) → ((need : Option ℕ) → Member need needs → IsWithin need top) → fold both_need top needs ≡ top
stays top [] within = refl
stays top (need ∷ needs) within =
    ap (λ t. fold both_need t needs) (stays_in need top (within need here)) ∙ stays top needs (λ n m. within n (there m))

reaches : (top so_far : Option ℕ) (needs : List (Option ℕ)) → IsWithin so_far top → ((need : Option ℕ) → Member need needs → IsWithin need top) →
    Member top needs →
    fold both_need so_far needs ≡ top
reaches top so_far [] below within member = absurd (member_nil member)
reaches top so_far (need ∷ needs) below within member = elim (member_cases member) [
  | inl is ↦ ap (λ t. fold both_need t needs) (ap (both_need so_far) is ∙ takes_in so_far top below) ∙ stays top needs (λ n m. within n (there m))
  | inr later ↦ reaches top (both_need so_far need) needs (both_within so_far need top below (within need here)) (λ n m. within n (there m)) later
]

pub closest_claim_law : ClosestClaimLaw
closest_claim_law file cards gamma limit closest some lasting among all =
    let need = need_of file cards gamma limit in
    let top = need closest in
    let least : (claim : Claim) → Member claim file.claims → IsWithin (need claim) top = λ claim member.
    let bounds = each_member (λ claim. (closest.margin ≤ claim.margin) × (claim.margin ≤ cards)) file.claims all claim member in
    larger_margin_law cards closest.margin claim.margin gamma limit some bounds.0 bounds.1 lasting in
    reaches top (Some 0) (map need file.claims) (none_within top)
    (λ other member. let (claim, m, is) = from_map need other file.claims member in subst (λ n. IsWithin n top) is (least claim m))
    (member-map need (member-from_contains closest file.claims among))

-- ---- what it is

none_of : (a b : Option ℕ) → both_need a b ≡ None → (a ≡ None) ⊎ (b ≡ None)
none_of None b e = inl refl
none_of (Some k) None e = inr refl
none_of (Some k) (Some m) e = absurd (cc e)

both_of : (a b : Option ℕ) (n : ℕ) → IsSomeAnd (both_need a b) (λ k. k ≤ n) → IsSomeAnd a (λ k. k ≤ n) × IsSomeAnd b (λ k. k ≤ n)
both_of None b n below = absurd below
both_of (Some k) None n below = absurd below
both_of (Some k) (Some m) n below = (omega (arith, below), omega (arith, below))

one_of : (a b : Option ℕ) (n : ℕ) → both_need a b ≡ Some n → (a ≡ Some n) ⊎ (b ≡ Some n)
one_of None b n e = absurd (cc e)
one_of (Some k) None n e = absurd (cc e)
one_of (Some k) (Some m) n e = let is : max k m ≡ n = cc e in elim (larger k m) [
  | inl first ↦ inl (ap Some (sym first ∙ is))
  | inr second ↦ inr (ap Some (sym second ∙ is))
]
  where
    larger : (k m : ℕ) → (max k m ≡ k) ⊎ (max k m ≡ m)
    larger k m = elim (cases_lt m k) [
      | inl less ↦ inl (omega (arith, less))
      | inr most ↦ inr (omega (arith, most))
    ]

-- after so much, and then these
abbrev IsGreatest : Option ℕ → List (Option ℕ) → Option ℕ → Type 0
IsGreatest so_far needs all =
    MatchOption all ((so_far ≡ None) ⊎ Member None needs) (λ most.
    IsSomeAnd so_far (λ n. n ≤ most) × ((need : Option ℕ) → Member need needs → IsSomeAnd need (λ n. n ≤ most))
    × ((so_far ≡ Some most) ⊎ Member (Some most) needs))

greatest-none : (so_far : Option ℕ) → IsGreatest so_far [] so_far
greatest-none None = inl refl
greatest-none (Some n) = (omega arith, (λ need member. absurd (member_nil member)), inl refl)

greatest-more : (so_far need : Option ℕ) (needs : List (Option ℕ)) (all : Option ℕ) → IsGreatest (both_need so_far need) needs all →
    IsGreatest so_far (need ∷ needs) all
greatest-more so_far need needs None (inl e) = elim (none_of so_far need e) [
  | inl first ↦ inl first
  | inr second ↦ inr (subst (λ n. Member None (n ∷ needs)) (sym second) here)
]
greatest-more so_far need needs None (inr member) = inr (there member)
greatest-more so_far need needs (Some most) (below, each, from) =
    let parts = both_of so_far need most below in
    (parts.0, (λ other member. at_most other parts.1 (member_cases member)), reached from)
  where
    at_most : (other : Option ℕ) → IsSomeAnd need (λ n. n ≤ most) → (need ≡ other) ⊎ Member other needs → IsSomeAnd other (λ n. n ≤ most)
    at_most other first (inl is) = subst (λ n. IsSomeAnd n (λ k. k ≤ most)) is first
    at_most other first (inr member) = each other member

    reached : (both_need so_far need ≡ Some most) ⊎ Member (Some most) needs → (so_far ≡ Some most) ⊎ Member (Some most) (need ∷ needs)
    reached (inr member) = inr (there member)
    reached (inl e) = elim (one_of so_far need most e) [
      | inl first ↦ inl first
      | inr second ↦ inr (subst (λ n. Member (Some most) (n ∷ needs)) (sym second) here)
    ]

greatest : (so_far : Option ℕ) (needs : List (Option ℕ)) → IsGreatest so_far needs (fold both_need so_far needs)
greatest so_far [] = greatest-none so_far
greatest so_far (need ∷ needs) = greatest-more so_far need needs (fold both_need (both_need so_far need) needs) (greatest (both_need so_far need) needs)

pub all_need_law : AllNeedLaw
all_need_law needs = by (all_need needs) (greatest (Some 0) needs) where
  by : (all : Option ℕ) → IsGreatest (Some 0) needs all →
      MatchOption all (Contains needs None) (λ most. All (λ need. IsSomeAnd need (λ n. n ≤ most)) needs × ((most ≡ 0) ⊎ Contains needs (Some most)))
  by None (inl e) = absurd (cc e)
  by None (inr member) = contains-from_member member
  by (Some most) (below, each, inl e) = (all_members (λ need. IsSomeAnd need (λ n. n ≤ most)) needs each, inl (cc e))
  by (Some most) (below, each, inr member) = (all_members (λ need. IsSomeAnd need (λ n. n ≤ most)) needs each, inr (contains-from_member member))
