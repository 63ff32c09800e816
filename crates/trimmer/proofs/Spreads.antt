-- The steps that a spread follows, one by one.
use Rattle.std.proofs.Common.{◌≡◌, ◌≢◌, inl, inr, ℕ, ◌+◌, ◌^◌, ◌<◌, ◌≤◌, Bool, true, false, not, ◌&&◌, ◌||◌, ◌==◌, List, [], ◌∷◌, ◌++◌, length, length-append, get_or, Some, Result, Ok, Err, Contains, refl, sym, ap, ap₂, subst, arith, eq-eqb, eqb-true, ne_eqb, ◌∙◌}
use Rattle.std.specs.List.{list_any, slice_get}
use Rattle.std.specs.Result.{OnOk}
use Rattle.std.proofs.lemmas.Bool.{cases_eq, cases_lt, and_parts, both_ways, not-true}
use Rattle.std.proofs.lemmas.List.{append-nil, get_or-append-add, get_or_append_left}
use Rattle.std.proofs.lemmas.List.Elements.{Contains-append_left, Contains-get_or, Contains-push, Contains-push_cases}
use Rattle.std.proofs.lemmas.Option.{get_or_from_slice_get, slice_get_within}
use Rattle.irv_base.specs.Candidates.{has, is_in, members, set_of}
use Rattle.irv_base.specs.Suffixes.{is_suffix}
use Rattle.irv_base.specs.declared.limits.TheConstants.{ROOM}
use Rattle.irv_base.proofs.Members.{contains-from_member, from_list_any, list_any-member, member-from_contains}
use Rattle.irv_base.proofs.Sets.{has-set_of, set_of-cons, set_of_is}
use Rattle.irv_base.proofs.Suffixes.{suffix-distinct, suffix-has, suffix-rest, suffix_more}
use Rattle.assertions.specs.declared.assertion.Assertion.{Assertion}
use Rattle.assertions.specs.declared.assertion.Assertion.TheVariants.{Neb, Nen}
use Rattle.assertions.specs.Assertions.{is_proper}
use Rattle.assertions.specs.Steps.{is_anew, more}
use Rattle.assertions.proofs.Endings.{one_alone}
use Rattle.assertions.proofs.Proper.{IsNen, nen_facts}
use Rattle.set_walk.specs.Dives.{is_seen}
use Rattle.set_walk.specs.Walks.{passes, standing}
use Rattle.set_walk.proofs.Exact.{Walks}
use Rattle.set_walk.proofs.Orders.{standing_by_sets}
use Rattle.set_walk.proofs.Standing.{from_standing}
use Rattle.cover_checker.specs.Indexed.{is_neb, is_new}
use Rattle.cover_checker.specs.Reaching.{Extends}
use Rattle.cover_checker.proofs.Passes.{passes-is}
use Rattle.cover_checker.proofs.Reaching.{extends-on}
use Rattle.trimmer.specs.Spreading.{AreNewClosed, AreOpenedFollowed, IsClosedAt, IsFollowed, IsHalt, IsSpread, IsStart}
use Rattle.trimmer.specs.declared.spread.Halt.TheVariants.{Stands as HaltStands}
use Rattle.trimmer.proofs.Opening.{place-of}
use Rattle.trimmer.proofs.Standing.{stepped, short-stands, whole-walks, not-longer, set-long}

pub extends-contains : (old new : List ℕ) (set : ℕ) → Extends old new → Contains old set → Contains new set
extends-contains old new set (added, e) m = subst (λ xs. Contains xs set) (sym e) (Contains-append_left old added set m)

pub extends-at : (old new : List ℕ) (i : ℕ) → Extends old new → i < length old → get_or new i 0 ≡ get_or old i 0
extends-at old new i (added, e) l = ap (λ xs. get_or xs i 0) e ∙ get_or_append_left old added 0 i l

pub extends-long : (old new : List ℕ) → Extends old new → length old ≤ length new
extends-long old new (added, e) = omega (arith, ap length e, length-append old added)

-- ---- sets that are reached
pub seen-contains : (sets : List ℕ) (set : ℕ) → is_seen sets set ≡ true → Contains sets set
seen-contains sets set seen =
    let (d, m, e) = from_list_any (λ other. set == other) sets seen in
    subst (Contains sets) (sym (eqb-true set d e)) (contains-from_member m)

pub contains-seen : (sets : List ℕ) (set : ℕ) → Contains sets set → is_seen sets set ≡ true
contains-seen sets set m = list_any-member (λ other. set == other) (member-from_contains set sets m) (eq-eqb set set refl)

pub at-contains : (sets : List ℕ) (i set : ℕ) → slice_get sets i ≡ Some set → Contains sets set
at-contains sets i set at =
    subst (Contains sets) (get_or_from_slice_get sets i set 0 at) (Contains-get_or sets i 0 (slice_get_within sets i set at))

pub at-first : (old new : List ℕ) (i set : ℕ) → Extends old new → i < length old → slice_get new i ≡ Some set → get_or old i 0 ≡ set
at-first old new i set e l at = sym (extends-at old new i e l) ∙ get_or_from_slice_get new i set 0 at

pub both-ok : {T E P Q R : Type 0} (r : Result T E) → (P → Q → R) → OnOk r P → OnOk r Q → OnOk r R
both-ok (Ok x) f p q = f p q
both-ok (Err e) f p q = tt

module _ (n winner budget : ℕ) (list : List Assertion) where
  abbrev pub Spread : List ℕ → List ℕ → Type 0
  Spread old new = IsSpread n winner budget list old new

  pub spread-none : (sets : List ℕ) → Spread sets sets
  spread-none sets = record { were = ([], sym (append-nil sets)); stand = λ h. h; few = λ h. h }

  pub spread-on : (old mid new : List ℕ) → Spread old mid → Spread mid new → Spread old new
  spread-on old mid new a b = record {
    were = extends-on old mid new a.were b.were;
    stand = λ h. b.stand (a.stand h);
    few = λ h. b.few (a.few h);
  }

  pub spread-same : (old new : List ℕ) → new ≡ old → Spread old new
  spread-same old new same = subst (Spread old) (sym same) (spread-none old)

  pub followed-on : (old new : List ℕ) (set c : ℕ) → Spread old new → IsFollowed list old set c → IsFollowed list new set c
  followed-on old new set c s h passing = extends-contains old new (more set c) s.were (h passing)

  -- the steps from a set, by one candidate after another
  pub ahead-on : (old new : List ℕ) (set c : ℕ) → Spread old new → ((d : ℕ) → d < c → has set d ≡ false → IsFollowed list old set d) →
      (has set c ≡ false → IsFollowed list new set c) → (d : ℕ) → d < c + 1 → has set d ≡ false → IsFollowed list new set d
  ahead-on old new set c s before last d below out =
      elim (cases_lt d c) [
        | inl l ↦ followed-on old new set d s (before d l out)
        | inr ge ↦
            let same : c ≡ d = omega (arith, below, ge) in
            subst (IsFollowed list new set) same (last (ap (has set) same ∙ out))
      ]

  -- the steps by one candidate, from one set after another
  pub places-on : (old was now : List ℕ) (c i set : ℕ) → Spread was now → get_or old i 0 ≡ set →
      ((j : ℕ) → j < i → has (get_or old j 0) c ≡ false → IsFollowed list was (get_or old j 0) c) → (has set c ≡ false → IsFollowed list now set c) →
      (j : ℕ) → j < i + 1 → has (get_or old j 0) c ≡ false → IsFollowed list now (get_or old j 0) c
  places-on old was now c i set s at before last j below out =
      elim (cases_lt j i) [
        | inl l ↦ followed-on was now (get_or old j 0) c s (before j l out)
        | inr ge ↦
            let same : i ≡ j = omega (arith, below, ge) in
            let here : set ≡ get_or old j 0 = sym at ∙ ap (λ k. get_or old k 0) same in
            subst (λ s. IsFollowed list now s c) here (last (ap (λ s. has s c) here ∙ out))
      ]

  pub all-followed : (old now : List ℕ) (c i : ℕ) → length old ≤ i → (c ≢ winner → IsFollowed list now 0 c) →
      ((j : ℕ) → j < i → has (get_or old j 0) c ≡ false → IsFollowed list now (get_or old j 0) c) →
      (set : ℕ) → IsStart winner old set c → has set c ≡ false → IsFollowed list now set c
  all-followed old now c i long nobody each set (inr (none, other)) out = subst (λ s. IsFollowed list now s c) (sym none) (nobody other)
  all-followed old now c i long nobody each set (inl there) out =
      let (j, l, at) = place-of set old (member-from_contains set old there) in
      subst (λ s. IsFollowed list now s c) at (each j (omega (arith, l, long)) (ap (λ s. has s c) at ∙ out))

  -- ---- what is new is closed
  pub closed-none : (sets : List ℕ) → AreNewClosed n list sets sets
  closed-none sets i from inside = absurd (omega (arith, from, inside))

  pub closed-on : (old mid new : List ℕ) → Extends mid new → AreNewClosed n list old mid → AreNewClosed n list mid new → AreNewClosed n list old new
  closed-on old mid new e a b i from inside =
      elim (cases_lt i (length mid)) [
        | inl l ↦ λ d below out passing.
            subst (λ s. Contains new (more s d)) (sym (extends-at mid new i e l))
            (extends-contains mid new (more (get_or mid i 0) d) e
            (a i from l d below (ap (λ s. has s d) (sym (extends-at mid new i e l)) ∙ out)
            (ap (λ s. passes list s d) (sym (extends-at mid new i e l)) ∙ passing)))
        | inr ge ↦ b i ge inside
      ]

  -- a set that was appended, and what follows from it
  pub closed-entered : (old new : List ℕ) (set : ℕ) → Extends (old ++ set ∷ []) new → AreNewClosed n list (old ++ set ∷ []) new → IsClosedAt n list new set →
      AreNewClosed n list old new
  closed-entered old new set e later own i from inside =
      let long = length-append old (set ∷ []) in
      elim (cases_lt (length old) i) [
        | inl l ↦ later i (omega (arith, long, l)) inside
        | inr ge ↦
            let here : i ≡ length old + 0 = omega (arith, from, ge) in
            let at : get_or new i 0 ≡ set =
            extends-at (old ++ set ∷ []) new i e (omega (arith, here, long)) ∙ ap (λ k. get_or (old ++ set ∷ []) k 0) here
            ∙ get_or-append-add old (set ∷ []) 0 0 in
            subst (IsClosedAt n list new) (sym at) own
      ]

  -- ---- a step
  module _ (set c with_c : ℕ) (start : IsStart winner (standing n winner (passes list)) set c) (below : c < n) (out : has set c ≡ false)
      (number : has set c ≡ false → with_c ≡ set + 2 ^ c) where
    same : with_c ≡ more set c
    same = let e = number out in omega (arith, e)

    -- a step that an assertion keeps out
    pub kept-out : (sets : List ℕ) (any : Bool) → any ≡ list_any (λ a. is_new a c with_c) list → any ≡ true → IsFollowed list sets set c
    kept-out sets any e kept passing =
        let passes-not : not any ≡ true = ap not e ∙ passes-is list set c with_c (number out) ∙ passing in
        let never : not true ≡ true = ap not (sym kept) ∙ passes-not in cc

    pub passing : (any : Bool) → any ≡ list_any (λ a. is_new a c with_c) list → any ≡ false → passes list set c ≡ true
    passing any e free = sym (passes-is list set c with_c (number out)) ∙ ap not (sym e) ∙ ap not free

    -- a step to a set that was already reached
    pub was-there : (sets : List ℕ) → is_seen sets with_c ≡ true → IsFollowed list sets set c
    was-there sets seen passing =
        subst (Contains sets) same (seen-contains sets with_c seen)

    module _ (room : n ≤ ROOM) (passed : passes list set c ≡ true) where
      step : (tail : List ℕ) × Walks n winner (passes list) (c ∷ tail) × (set_of tail ≡ set)
      step = stepped n winner (passes list) set c start below out passed

      walk : Walks n winner (passes list) (c ∷ step.0)
      walk = step.1

      its-set : set_of (c ∷ step.0) ≡ with_c
      its-set = set_of-cons c step.0 ∙ ap (λ s. 2 ^ c + s) step.2 ∙ sym same

      long : length (members with_c) ≡ length step.0 + 1
      long =
          let e = ap (λ s. length (members s)) (sym its-set) ∙ set-long n (c ∷ step.0) room walk.is.proper in
          omega (arith, e)

      -- a set with one more member
      pub one-longer : length (members with_c) ≡ length (members set) + 1
      one-longer =
          let e = ap (λ s. length (members s)) (sym step.2) ∙ set-long n step.0 room (suffix-rest n c step.0 walk.is.proper) in
          omega (arith, e, long)

      pub as-few : length (members with_c) ≤ n
      as-few = let l = not-longer n winner (passes list) (c ∷ step.0) walk in omega (arith, l, long)

      -- a step to the set of all candidates
      pub comes-to-all : length (members with_c) ≡ n → IsHalt n winner list HaltStands
      comes-to-all whole =
          let (order, e) = whole-walks n winner (passes list) (c ∷ step.0) walk (omega (arith, long, whole)) in
          (order, standing_by_sets n winner list ∙ e)

      -- a step to a smaller set
      pub more-stands : (length (members with_c) ≡ n → ⊥) → Contains (standing n winner (passes list)) with_c
      more-stands part =
          subst (Contains (standing n winner (passes list))) its-set
          (short-stands n winner (passes list) (c ∷ step.0) walk (omega (arith, long, as-few, part)))

      pub comes-to-more : (sets : List ℕ) → (length (members with_c) ≡ n → ⊥) → length sets < budget → Spread sets (sets ++ with_c ∷ [])
      comes-to-more sets part few = record {
        were = (with_c ∷ [], refl);
        stand = λ h other m. elim (Contains-push_cases sets with_c other m) [
          | inl was ↦ h other was
          | inr e ↦ subst (Contains (standing n winner (passes list))) e (more-stands part)
        ];
        few = λ h. omega (arith, few, length-append sets (with_c ∷ []));
      }

    -- when it is there
    pub is-followed : (sets new : List ℕ) → Extends (sets ++ with_c ∷ []) new → IsFollowed list new set c
    is-followed sets new e passing =
        subst (Contains new) same (extends-contains (sets ++ with_c ∷ []) new with_c e (Contains-push sets with_c))

  -- ---- the steps of an assertion that is left out
  -- no steps, for a NEB that is also one of the claims
  pub neb-twice : (w l : ℕ) (old new : List ℕ) → list_any (is_neb w l) list ≡ true → AreOpenedFollowed n winner (Neb w l) list old new
  neb-twice w l old new there set c start below out anew passed =
      let (b, m, e) = from_list_any (is_neb w l) list there in
      absurd (both_ways (list_any (λ a. is_anew a set c) list) (not-true (list_any (λ a. is_anew a set c) list) passed)
      (list_any-member (λ a. is_anew a set c) m (same-anew b e ∙ anew)))
    where
      same-anew : (b : Assertion) → is_neb w l b ≡ true → is_anew b set c ≡ is_anew (Neb w l) set c
      same-anew (Neb v k) e =
          let (p, q) = and_parts (k == l) (v == w) e in
          ap₂ (λ x y. is_anew (Neb x y) set c) (eqb-true v w q) (eqb-true k l p)
      same-anew (Nen v k rest) e = cc

  -- steps with its loser, for any other NEB
  pub opened-by : (w l : ℕ) (old new : List ℕ) →
      ((set : ℕ) → IsStart winner old set l → has set l ≡ false → IsFollowed list new set l) → AreOpenedFollowed n winner (Neb w l) list old new
  opened-by w l old new followed set c start below out anew =
      let same : l ≡ c = eqb-true l c (and_parts (l == c) (not (has (more set c) w)) anew).0 in
      subst (IsFollowed list new set) same (followed set (subst (IsStart winner old set) (sym same) start) (ap (has set) same ∙ out))

  -- steps into its set, for a NEN
  pub opened-into : (w l rest : ℕ) (old new : List ℕ) → is_proper n (Nen w l rest) ≡ true →
      ((behind : ℕ) → Contains old behind → has behind w ≡ false → rest ≡ more behind w → IsFollowed list new behind w) →
      AreOpenedFollowed n winner (Nen w l rest) list old new
  opened-into w l rest old new proper followed set c start below out anew = go start where
    parts : (w ≡ c) × (more set c ≡ rest)
    parts = let (p, q) = and_parts (w == c) (more set c == rest) anew in (eqb-true w c p, eqb-true (more set c) rest q)

    p : IsNen n w l rest
    p = nen_facts n w l rest proper

    go : IsStart winner old set c → IsFollowed list new set c
    go (inl there) =
        subst (IsFollowed list new set) parts.0
        (followed set there (ap (has set) parts.0 ∙ out) (sym parts.1 ∙ ap (more set) (sym parts.0)))
    go (inr (none, other)) = absurd (p.pair.differ (eqb-true w l (both-in (w == l) alone-has))) where
      alone-has : ((w == l) || false) ≡ true
      alone-has =
          sym (has-set_of (w ∷ []) l (one_alone n w p.pair.winner).apart)
          ∙ ap (λ s. has s l) (set_of-cons w [] ∙ ap (more 0) parts.0 ∙ ap (λ s. more s c) (sym none) ∙ parts.1) ∙ p.has_loser

      both-in : (b : Bool) → (b || false) ≡ true → b ≡ true
      both-in true e = refl
      both-in false e = e

  -- the set without the candidate is the one it comes from
  pub behind-is : (set c behind without_c : ℕ) → ((d : ℕ) → has without_c d ≡ (has set d && not (d == c))) → has behind c ≡ false →
      Contains (standing n winner (passes list)) behind → set ≡ more behind c → c < n → without_c ≡ behind
  behind-is set c behind without_c are out there same below =
      let (t, s) = from_standing n winner (passes list) behind (member-from_contains behind (standing n winner (passes list)) there) in
      let d = suffix-distinct n t s.is.proper in
      let free : is_in t c ≡ false = sym (suffix-has n t c s.is.proper) ∙ ap (λ s. has s c) s.same ∙ out in
      let proper : is_suffix n (c ∷ t) ≡ true = suffix_more n c t below free s.is.proper in
      let whole : set ≡ set_of (c ∷ t) = same ∙ ap (λ s. 2 ^ c + s) (sym s.same) ∙ sym (set_of-cons c t) in
      set_of_is without_c t d (λ e.
      are e ∙ ap (λ s. has s e && not (e == c)) whole ∙ ap (λ b. b && not (e == c)) (suffix-has n (c ∷ t) e proper) ∙ taken c e t free)
      ∙ s.same
    where
      taken : (c e : ℕ) (t : List ℕ) → is_in t c ≡ false → (is_in (c ∷ t) e && not (e == c)) ≡ is_in t e
      taken c e t free = elim (cases_eq e c) [
        | inl same ↦
            ap (λ b. is_in (c ∷ t) e && not b) (eq-eqb e c same) ∙ and-none (is_in (c ∷ t) e) ∙ sym (ap (is_in t) same ∙ free)
        | inr other ↦
            ap (λ b. is_in (c ∷ t) e && not b) (ne_eqb e c other) ∙ and-all (is_in (c ∷ t) e)
            ∙ ap (λ b. b || is_in t e) (ne_eqb c e (λ q. other (sym q)))
      ]
        where
          and-none : (b : Bool) → (b && false) ≡ false
          and-none true = refl
          and-none false = refl

          and-all : (b : Bool) → (b && true) ≡ b
          and-all true = refl
          and-all false = refl
