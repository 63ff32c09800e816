-- What is left while the NEBs are tried from last to first.
use Rattle.std.proofs.Common.{◌≡◌, ℕ, zero, suc, ◌+◌, ◌-◌, ◌<◌, inl, inr, List, [], ◌∷◌, ◌++◌, map, length, take, get_or, None, Ok, sym, ap, subst, arith, ◌∙◌}
use Rattle.std.proofs.lemmas.List.{take_all}
use Rattle.irv_base.proofs.Members.{Member, contains-from_member, from_map, here, member-append_cases, member-append_left, member-append_right, member-from_contains, member-map, member_cases, member_nil, there}
use Rattle.assertions.specs.declared.assertion.Assertion.{Assertion}
use Rattle.assertions.specs.declared.assertion.Claim.{Claim}
use Rattle.set_walk.specs.Answers.{first_within}
use Rattle.set_walk.specs.Walks.{passes}
use Rattle.trimmer.specs.Remaining.{Left, assertions_in as assertions_left}
use Rattle.trimmer.specs.Spreading.{AreReached, assertions_with}
use Rattle.trimmer.proofs.Parted.{take-midst}
use Rattle.trimmer.proofs.TrialSteps.{take-before}
use Rattle.nen_cut.specs.Floors.{assertions_in}
use Rattle.fewest_search.specs.Needed.{IsNeededWithin, IsTooFew, others}
use Rattle.fewest_search.specs.Spared.{AreLeft}
use Rattle.fewest_search.proofs.Needing.{IsWithin, from-others, others-part, too_few-part}

abbrev assertion-of : Claim → Assertion
assertion-of claim = claim.assertion

member-get : (claims : List Claim) (i : ℕ) (d : Claim) → i < length claims → Member (get_or claims i d) claims
member-get [] i d l = absurd (omega (arith, l))
member-get (claim ∷ claims) zero d l = here
member-get (claim ∷ claims) (suc i) d l = there (member-get claims i d (omega (arith, l)))

module _ (n winner sets : ℕ) (claims : List Claim) where
  -- the claims at lower indexes haven't been tried
  pub record IsLeftAt (place : ℕ) (left : Left) (reached : List ℕ) : Type 0 where
    pub untried : left.untried ≡ take place claims
    pub are : AreReached n winner sets (assertions_left left) reached
    pub part : (claim : Claim) → Member claim left.kept → Member claim claims
    pub needed : (claim : Claim) → Member claim left.kept → IsNeededWithin n winner sets (assertions_left left) claim.assertion

  pub left-start : (left : Left) (reached : List ℕ) → left ≡ record { untried = claims; kept = [] } → AreReached n winner sets (assertions_left left) reached →
      IsLeftAt (length claims) left reached
  left-start left reached is are = record {
    untried = ap (λ (left : Left). left.untried) is ∙ sym (take_all (length claims) claims (omega arith));
    are = are;
    part = λ claim m. absurd (member_nil (subst (Member claim) (ap (λ (left : Left). left.kept) is) m));
    needed = λ claim m. absurd (member_nil (subst (Member claim) (ap (λ (left : Left). left.kept) is) m));
  }

  -- ---- one trial
  module _ (i : ℕ) (left rest : Left) (reached : List ℕ) (d : Claim) (inside : i < length claims) (its : get_or claims i d ≡ d)
      (at : IsLeftAt (i + 1) left reached) (is : rest ≡ record { untried = take (length left.untried - 1) left.untried; kept = left.kept }) where
    rest-untried : rest.untried ≡ take i claims
    rest-untried = ap (λ (left : Left). left.untried) is ∙ take-before claims i left.untried inside at.untried

    rest-kept : rest.kept ≡ left.kept
    rest-kept = ap (λ (left : Left). left.kept) is

    with-claims : rest.untried ++ d ∷ rest.kept ≡ left.untried ++ left.kept
    with-claims =
        ap (λ untried. untried ++ d ∷ rest.kept) rest-untried ∙ ap (λ kept. take i claims ++ d ∷ kept) rest-kept
        ∙ ap (λ claim. take i claims ++ claim ∷ left.kept) (sym its) ∙ sym (take-midst claims i d left.kept inside)
        ∙ ap (λ untried. untried ++ left.kept) (sym at.untried)

    pub with-same : assertions_with d rest ≡ assertions_left left
    with-same = ap (map assertion-of) with-claims

    pub reached-with : AreReached n winner sets (assertions_with d rest) reached
    reached-with = subst (λ list. AreReached n winner sets list reached) (sym with-same) at.are

    claim-there : Member d claims
    claim-there = subst (λ claim. Member claim claims) its (member-get claims i d inside)

    rest-within : IsWithin (assertions_left rest) (assertions_left left)
    rest-within a m =
        let (claim, k, e) = from_map assertion-of a (rest.untried ++ rest.kept) m in
        let more : Member claim (rest.untried ++ d ∷ rest.kept) =
        elim (member-append_cases rest.untried rest.kept k) [
          | inl l ↦ member-append_left (d ∷ rest.kept) l
          | inr r ↦ member-append_right rest.untried (there r)
        ] in
        subst (λ a. Member a (assertions_left left)) e (member-map assertion-of (subst (Member claim) with-claims more))

    pub left-gone : (next : List ℕ) → AreReached n winner sets (assertions_left rest) next → IsLeftAt i rest next
    left-gone next are = record {
      untried = rest-untried;
      are = are;
      part = λ claim m. at.part claim (subst (Member claim) rest-kept m);
      needed = λ claim m.
          too_few-part n winner sets (others claim.assertion (assertions_left rest)) (others claim.assertion (assertions_left left))
          (others-part claim.assertion (assertions_left rest) (assertions_left left) rest-within) (at.needed claim (subst (Member claim) rest-kept m));
    }

    -- the other assertions than the claim's are among the rest
    others-rest : IsWithin (others d.assertion (assertions_with d rest)) (assertions_left rest)
    others-rest a m =
        let (k, differ) = from-others d.assertion (assertions_with d rest) a m in
        let (claim, l, e) = from_map assertion-of a (rest.untried ++ d ∷ rest.kept) k in
        elim (member-append_cases rest.untried (d ∷ rest.kept) l) [
          | inl r ↦ subst (λ a. Member a (assertions_left rest)) e (member-map assertion-of (member-append_left rest.kept r))
          | inr r ↦ elim (member_cases r) [
            | inl same ↦ absurd (differ (ap assertion-of same ∙ e))
            | inr s ↦ subst (λ a. Member a (assertions_left rest)) e (member-map assertion-of (member-append_right rest.untried s))
          ]
        ]

    pub left-stays : (next : Left) → next ≡ record { untried = rest.untried; kept = d ∷ rest.kept } → IsTooFew n winner sets (assertions_left rest) →
        IsLeftAt i next reached
    left-stays next e few = subst (λ next. IsLeftAt i next reached) (sym e) (record {
      untried = rest-untried;
      are = reached-with;
      part = λ claim m.
          elim (member_cases m) [
            | inl same ↦ subst (λ claim. Member claim claims) same claim-there
            | inr r ↦ at.part claim (subst (Member claim) rest-kept r)
          ];
      needed = λ claim m.
          elim (member_cases m) [
            | inl same ↦ subst (λ (claim : Claim). IsNeededWithin n winner sets (assertions_with d rest) claim.assertion) same
                (too_few-part n winner sets (others d.assertion (assertions_with d rest)) (assertions_left rest) others-rest few)
            | inr r ↦ subst (λ list. IsNeededWithin n winner sets list claim.assertion) (sym with-same) (at.needed claim (subst (Member claim) rest-kept r))
          ];
    })

  pub left-end : (many : ℕ) (left : Left) (reached : List ℕ) → IsLeftAt many left reached → AreLeft n winner sets claims (take many claims) left.kept
  left-end many left reached at =
      let same : assertions_left left ≡ assertions_in (take many claims ++ left.kept) = ap (λ untried. map assertion-of (untried ++ left.kept)) at.untried in
      record {
        part = λ claim m. contains-from_member (at.part claim (member-from_contains claim left.kept m));
        covered = subst (λ list. first_within n winner sets (passes list) ≡ Ok None) same at.are.0;
        needed = λ claim m.
            subst (λ list. IsNeededWithin n winner sets list claim.assertion) same (at.needed claim (member-from_contains claim left.kept m));
      }
