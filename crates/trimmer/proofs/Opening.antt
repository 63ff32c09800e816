-- What else is reached when an assertion is left out.
use Rattle.std.proofs.Common.{◌≡◌, ◌⊎◌, inl, inr, ℕ, suc, ◌+◌, ◌<◌, ◌≤◌, Bool, true, false, not, ◌||◌, List, [], ◌∷◌, ◌++◌, length, length-append, map, get_or, Contains, refl, sym, ap, subst, arith, ◌∙◌}
use Rattle.std.specs.List.{list_any}
use Rattle.std.proofs.lemmas.Bool.{and_from, and_parts}
use Rattle.std.proofs.lemmas.List.{get_or-append-add, map-append}
use Rattle.std.proofs.lemmas.List.Elements.{Contains-append_left, Contains-append_cases}
use Rattle.irv_base.specs.Candidates.{has, set_of}
use Rattle.irv_base.proofs.Members.{Member, contains-from_member, member-from_contains, member_cases, member_nil}
use Rattle.assertions.specs.declared.assertion.Assertion.{Assertion}
use Rattle.assertions.specs.declared.assertion.Claim.{Claim}
use Rattle.assertions.specs.Steps.{is_anew, more}
use Rattle.set_walk.specs.Walks.{passes, standing, walks}
use Rattle.set_walk.proofs.Standing.{from_standing, standing-member}
use Rattle.cover_checker.proofs.Indexing.{any-parted}
use Rattle.cover_checker.specs.Reaching.{Extends}
use Rattle.trimmer.specs.Remaining.{Left, assertions_in}
use Rattle.trimmer.specs.Spreading.{AreNewClosed, AreOpenedFollowed, AreReached, AreStanding, IsStart, assertions_with}
use Rattle.trimmer.proofs.Lefts.{assertion_in}
use Rattle.trimmer.proofs.Closing.{Closed, closed-reached, reached-closed}

-- ---- steps with an assertion, and without it
module _ (before : List Assertion) (a : Assertion) (after : List Assertion) where
  abbrev with : List Assertion
  with = before ++ a ∷ after

  abbrev others : List Assertion
  others = before ++ after

  parted : (set c : ℕ) → passes with set c ≡ not (is_anew a set c || list_any (λ b. is_anew b set c) others)
  parted set c = ap not (any-parted (λ b. is_anew b set c) before a after)

  pub passes-without : (set c : ℕ) → passes with set c ≡ true → passes others set c ≡ true
  passes-without set c h = go (is_anew a set c) (list_any (λ b. is_anew b set c) others) (sym (parted set c) ∙ h) where
    go : (x y : Bool) → not (x || y) ≡ true → not y ≡ true
    go true y e = cc
    go false y e = e

  pub passes-or-opens : (set c : ℕ) → passes others set c ≡ true → (is_anew a set c ≡ true) ⊎ (passes with set c ≡ true)
  passes-or-opens set c h = go (is_anew a set c) refl where
    go : (x : Bool) → is_anew a set c ≡ x → (is_anew a set c ≡ true) ⊎ (passes with set c ≡ true)
    go true e = inl e
    go false e = inr (parted set c ∙ ap (λ x. not (x || list_any (λ b. is_anew b set c) others)) e ∙ h)

  walks-without : (t : List ℕ) → walks (passes with) t ≡ true → walks (passes others) t ≡ true
  walks-without [] h = h
  walks-without (c ∷ t) h =
      let (p, w) = and_parts (passes with (set_of t) c) (walks (passes with) t) h in
      and_from (passes others (set_of t) c) (walks (passes others) t) (passes-without (set_of t) c p) (walks-without t w)

  pub stands-without : (n winner set : ℕ) → Contains (standing n winner (passes with)) set → Contains (standing n winner (passes others)) set
  stands-without n winner set m =
      let (t, s) = from_standing n winner (passes with) set (member-from_contains set (standing n winner (passes with)) m) in
      contains-from_member (standing-member n winner (passes others) set t
      (record { is = s.is; short = s.short; going = walks-without t s.going; same = s.same }))

-- ---- places
pub place-of : (x : ℕ) (xs : List ℕ) → Member x xs → (i : ℕ) × (i < length xs) × (get_or xs i 0 ≡ x)
place-of x [] m = absurd (member_nil m)
place-of x (y ∷ xs) m = go (member_cases m) (place-of x xs) where
  go : (y ≡ x) ⊎ Member x xs → (Member x xs → (i : ℕ) × (i < length xs) × (get_or xs i 0 ≡ x)) → (i : ℕ) × (i < length (y ∷ xs)) × (get_or (y ∷ xs) i 0 ≡ x)
  go (inl e) ih = (0, omega arith, e)
  go (inr k) ih = let (i, l, e) = ih k in (suc i, omega (arith, l), e)

-- an element that comes after the first sets has an index from there on
later-place : (xs ys : List ℕ) (x : ℕ) → Contains ys x → (i : ℕ) × (length xs ≤ i) × (i < length (xs ++ ys)) × (get_or (xs ++ ys) i 0 ≡ x)
later-place xs ys x m =
    let (i, l, e) = place-of x ys (member-from_contains x ys m) in
    (length xs + i, omega arith, omega (arith, l, length-append xs ys), get_or-append-add xs ys i 0 ∙ e)

-- ---- the sets that are reached without the assertion
module _ (n winner budget : ℕ) (before : List Assertion) (a : Assertion) (after : List Assertion) (old new : List ℕ)
    (were : AreReached n winner budget (before ++ a ∷ after) old) where
  k : Closed n winner (passes (before ++ a ∷ after)) old
  k = reached-closed n winner budget (passes (before ++ a ∷ after)) old were

  pub still-stand : AreStanding n winner (before ++ after) old
  still-stand set m = stands-without before a after n winner set (k.stand set m)

  -- what was reached, what opened, and everything that follows from it
  pub left-reached : AreStanding n winner (before ++ after) new → Extends old new → AreOpenedFollowed n winner a (before ++ after) old new →
      AreNewClosed n (before ++ after) old new → length new ≤ budget → AreReached n winner budget (before ++ after) new
  left-reached stand (more-sets, e) follows closed few =
      closed-reached n winner budget (passes (before ++ after)) new (record { stand = stand; closed = by }) few
    where
      -- from what was reached
      from-old : (set c : ℕ) → IsStart winner old set c → c < n → has set c ≡ false → passes (before ++ after) set c ≡ true → Contains new (more set c)
      from-old set c start below out passing = elim (passes-or-opens before a after set c passing) [
        | inl anew ↦ follows set c start below out anew passing
        | inr passed ↦
            subst (λ xs. Contains xs (more set c)) (sym e) (Contains-append_left old more-sets (more set c) (k.closed set c start below out passed))
      ]

      by : (set c : ℕ) → IsStart winner new set c → c < n → has set c ≡ false → passes (before ++ after) set c ≡ true → Contains new (more set c)
      by set c (inr nobody) below out passing = from-old set c (inr nobody) below out passing
      by set c (inl m) below out passing =
          elim (Contains-append_cases old more-sets set (subst (λ xs. Contains xs set) e m)) [
            | inl was ↦ from-old set c (inl was) below out passing
            | inr later ↦
                let (i, from, inside, at) = later-place old more-sets set later in
                let at' : get_or new i 0 ≡ set = ap (λ xs. get_or xs i 0) e ∙ at in
                let inside' : i < length new = omega (arith, inside, ap length e) in
                subst (λ s. Contains new (more s c)) at'
                (closed i from inside' c below (ap (λ s. has s c) at' ∙ out) (ap (λ s. passes (before ++ after) s c) at' ∙ passing))
          ]

-- ---- with a claim between those that are left
module _ (n winner budget : ℕ) (claim : Claim) (left : Left) (old new : List ℕ) (were : AreReached n winner budget (assertions_with claim left) old) where
  abbrev before : List Assertion
  before = map assertion_in left.untried

  abbrev after : List Assertion
  after = map assertion_in left.kept

  with-claim : AreReached n winner budget (before ++ claim.assertion ∷ after) old
  with-claim = subst (λ list. AreReached n winner budget list old) (map-append assertion_in left.untried (claim ∷ left.kept)) were

  in-left : before ++ after ≡ assertions_in left
  in-left = sym (map-append assertion_in left.untried left.kept)

  pub claim-still-stand : AreStanding n winner (assertions_in left) old
  claim-still-stand =
      subst (λ list. AreStanding n winner list old) in-left
      (still-stand n winner budget before claim.assertion after old new with-claim)

  pub claim-left-reached : AreStanding n winner (assertions_in left) new → Extends old new →
      AreOpenedFollowed n winner claim.assertion (assertions_in left) old new → AreNewClosed n (assertions_in left) old new →
      length new ≤ budget → AreReached n winner budget (assertions_in left) new
  claim-left-reached =
      subst (λ list. AreStanding n winner list new → Extends old new → AreOpenedFollowed n winner claim.assertion list old new →
      AreNewClosed n list old new → length new ≤ budget → AreReached n winner budget list new) in-left
      (left-reached n winner budget before claim.assertion after old new with-claim)
