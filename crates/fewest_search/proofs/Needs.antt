-- The laws of the fewest NENs.
use Rattle.std.proofs.Common.{◌≡◌, ◌==◌, ℕ, Bool, true, false, not, if◌then◌else◌, ◌-◌, ◌^◌, ◌<◌, ◌≤◌, inl, inr, List, [], ◌∷◌, ◌++◌, All, Contains, refl, sym, ap, subst, arith, ◌∙◌}
use Rattle.std.proofs.lemmas.List.Elements.{All-contains}
use Rattle.irv_base.proofs.Members.{Member, contains-from_member, from_map, here, list_all-each, member-append_cases, member-append_left, member-append_right, member-from_contains, member-map, member_cases, there}
use Rattle.assertions.specs.declared.assertion.Assertion.{Assertion}
use Rattle.assertions.specs.declared.assertion.Claim.{Claim}
use Rattle.assertions.specs.Assertions.{is_proper, true_margin}
use Rattle.assertions.proofs.Certificates.{none_beats_best}
use Rattle.assertions.proofs.FixedOrders.{Before, before-not_both}
use Rattle.assertions.proofs.Sorted.{Sorted, more, sorted-from_pairs}
use Rattle.fewest.specs.Flows.{is_barred}
use Rattle.nen_cut.specs.Floors.{assertions_in, sets_beside}
use Rattle.nen_cut.proofs.Enough.{IsEnough, enough-facts}
use Rattle.cover_checker.proofs.Held.{all-from_members}
use Rattle.set_walk.proofs.Few.{standing_are_fewer}
use Rattle.set_search.specs.Sets.{best_of}
use Rattle.set_search.proofs.Deciding.{sets_are_few as few_sets}
use Rattle.fewest_search.specs.Answers.{AreFewest}
use Rattle.fewest_search.specs.Gap.{least_margin}
use Rattle.fewest_search.specs.Laws.{AllAreNeeded, BestIsReached, NensAreNeeded, NeverBoth, SetsAreFew}
use Rattle.fewest_search.specs.Needed.{IsNeededWithin, others}
use Rattle.fewest_search.proofs.Findings.{each-enough, nen-needed}
use Rattle.fewest_search.proofs.Needing.{IsWithin, few-open, open-part, others-member}

best-few : (b : Bool) (beside most : ℕ) → beside ≤ most → (if b then 0 else beside) ≤ most
best-few true beside most le = omega arith
best-few false beside most le = le

pub sets_are_few : SetsAreFew
sets_are_few n winner records below two =
    let order = few_sets n winner records below two in
    let beside = standing_are_fewer n winner (λ set c. not (is_barred n records (best_of n records winner) set c)) below two in
    let few = best-few (best_of n records winner == 0) (sets_beside n records winner (best_of n records winner)) (2 ^ n - 3) beside in
    omega (arith, order, few)

pub never_both : NeverBoth
never_both n sets gap margin records tab order found is spent =
    let within = is.within in
    let above = spent.above in
    omega (arith, within, above)

abbrev assertion-of : Claim → Assertion
assertion-of claim = claim.assertion

-- ---- one claim left out
-- in an increasing list, the others come before or after
apart : (before : List Assertion) (a : Assertion) (later : List Assertion) → Sorted Before (before ++ a ∷ later) → (b : Assertion) → Member b (before ++ later) →
    a ≡ b → ⊥
apart [] a later (more first s) b m e =
    let l = subst (Before a) (sym e) (first b m) in before-not_both a a l l
apart (x ∷ before) a later (more first s) b m e =
    elim (member_cases m) [
      | inl same ↦
          let l = first a (member-append_right before here) in
          let l' = subst (λ x. Before x a) (same ∙ sym e) l in
          before-not_both a a l' l'
      | inr r ↦ apart before a later s b r e
    ]

map-append : (before later : List Claim) → assertions_in (before ++ later) ≡ assertions_in before ++ assertions_in later
map-append [] later = refl
map-append (claim ∷ before) later = ap (λ list. claim.assertion ∷ list) (map-append before later)

module _ (claims before : List Claim) (claim : Claim) (later : List Claim) (is : claims ≡ before ++ claim ∷ later)
    (rising : Rattle.fewest_search.specs.InOrder.IsRising claims) where
  abbrev whole : List Assertion
  whole = assertions_in before ++ claim.assertion ∷ assertions_in later

  split : assertions_in claims ≡ whole
  split = ap assertions_in is ∙ map-append before (claim ∷ later)

  sorted : Sorted Before whole
  sorted = subst (Sorted Before) split (sorted-from_pairs Before (assertions_in claims) rising)

  pub left-within : IsWithin (assertions_in (before ++ later)) (others claim.assertion (assertions_in claims))
  left-within b m =
      let k : Member b (assertions_in before ++ assertions_in later) = subst (Member b) (map-append before later) m in
      let there' : Member b whole =
      elim (member-append_cases (assertions_in before) (assertions_in later) k) [
        | inl l ↦ member-append_left (claim.assertion ∷ assertions_in later) l
        | inr r ↦ member-append_right (assertions_in before) (there r)
      ] in
      others-member claim.assertion (assertions_in claims) b (subst (Member b) (sym split) there')
      (apart (assertions_in before) claim.assertion (assertions_in later) sorted b k)

  pub claim-there : Member claim claims
  claim-there = subst (Member claim) (sym is) (member-append_right before here)

pub all_are_needed : AllAreNeeded
all_are_needed n winner sets margin records claims before claim later below two all are is =
    let needed = All-contains (λ (claim : Claim). IsNeededWithin n winner sets (assertions_in claims) claim.assertion) claims claim are.needed
    (contains-from_member (claim-there claims before claim later is are.rising)) in
    open-part n winner (assertions_in (before ++ later)) (others claim.assertion (assertions_in claims))
    (left-within claims before claim later is are.rising)
    (few-open n winner (others claim.assertion (assertions_in claims)) sets below two all needed)

pub nens_are_needed : NensAreNeeded
nens_are_needed n winner sets margin records claims before claim later are is nen =
    open-part n winner (assertions_in (before ++ later)) (others claim.assertion (assertions_in claims))
    (left-within claims before claim later is are.rising)
    (nen-needed n winner records margin (assertions_in claims) are.fewest claim.assertion
    (member-map assertion-of (claim-there claims before claim later is are.rising)) nen)

-- ---- the best margin is reached
module _ (n winner sets least : ℕ) (records : List (List ℕ)) (claims : List Claim) (below : winner < n) (two : 1 < n)
    (are : AreFewest n records winner sets least claims) where
  abbrev list : List Assertion
  list = assertions_in claims

  measured : (claim : Claim) → Member claim claims → claim.margin ≡ true_margin records claim.assertion
  measured claim m = All-contains (λ (claim : Claim). claim.margin ≡ true_margin records claim.assertion) claims claim are.measured (contains-from_member m)

  enough-of : (a : Assertion) → Member a list → IsEnough n records least a
  enough-of a m = enough-facts n records least a (each-enough n winner records least list are.fewest a m)

  pub least-kept : All (λ (claim : Claim). least ≤ claim.margin) claims
  least-kept =
      all-from_members (λ (claim : Claim). least ≤ claim.margin) claims (λ claim m.
      let at = measured claim m in
      let reaches = (enough-of claim.assertion (member-map assertion-of m)).reaches in
      omega (arith, at, reaches))

  pub none-above_best : (claim : Claim) × Contains claims claim × (claim.margin ≤ best_of n records winner)
  none-above_best =
      let (a, k, le) = none_beats_best n winner records list below two (list_all-each (is_proper n) list (λ a m. (enough-of a m).proper))
      are.fewest.complete.covering in
      let (claim, m, e) = from_map assertion-of a claims (member-from_contains a list k) in
      let at = measured claim m in
      let same : true_margin records claim.assertion ≡ true_margin records a = ap (true_margin records) e in
      (claim, contains-from_member m, omega (arith, at, le, same))

-- the smallest margin is the best one, if none may be below it
pub some-at_best : (n winner sets : ℕ) (records : List (List ℕ)) (claims : List Claim) → winner < n → 1 < n →
    AreFewest n records winner sets (best_of n records winner) claims →
    All (λ (claim : Claim). best_of n records winner ≤ claim.margin) claims
    × ((claim : Claim) × Contains claims claim × (claim.margin ≡ best_of n records winner))
some-at_best n winner sets records claims below two are =
    let best = best_of n records winner in
    let all = least-kept n winner sets best records claims below two are in
    let (claim, k, le) = none-above_best n winner sets best records claims below two are in
    let ge = All-contains (λ (claim : Claim). best ≤ claim.margin) claims claim all k in
    (all, (claim, k, omega (arith, le, ge)))

pub best_is_reached : BestIsReached
best_is_reached n winner sets gap records found below two is =
    let best = best_of n records winner in
    let least = least_margin gap best in
    let claims = found.claims.items in
    subst (λ margin. All (λ (claim : Claim). least_margin gap margin ≤ claim.margin) claims
    × ((claim : Claim) × Contains claims claim × (claim.margin ≤ margin))) (sym is.margin)
    (least-kept n winner sets least records claims below two is.claims, none-above_best n winner sets least records claims below two is.claims)
