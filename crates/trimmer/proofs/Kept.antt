-- Each claim that is left is needed.
use Rattle.std.proofs.Common.{◌≡◌, ◌≢◌, inl, inr, ℕ, true, false, List, [], ◌∷◌, ◌++◌, map, Option, Some, None, Ok, refl, sym, ap, subst, ◌∙◌, append_assoc}
use Rattle.std.specs.List.{list_any}
use Rattle.std.proofs.lemmas.Bool.{both_ways, false_from_ne_true, not-true, not_from_false}
use Rattle.irv_base.proofs.Members.{Member, there, from_map, member-map, member_at, member_cases, member-append_cases, member-append_left, member-append_right, from_list_any, list_any-member}
use Rattle.budget.specs.declared.budget.Budget.{Budget}
use Rattle.assertions.specs.declared.assertion.Claim.{Claim}
use Rattle.assertions.specs.Refutation.{refutes, covers}
use Rattle.assertions.specs.Suffixes.{IsAlternative}
use Rattle.assertions.proofs.Elections.{from_covers}
use Rattle.assertions.proofs.Endings.{alternative-member}
use Rattle.assertion_file.specs.Content.{Content, candidate_count}
use Rattle.cover_checker.specs.Covers.{stands}
use Rattle.cover_checker.specs.declared.cover.Verdict.TheVariants.{Covered, Stands}
use Rattle.cover_checker.proofs.Verdicts.{covered_iff_covers, stands_is_least}
use Rattle.trimmer.specs.Laws.{IsIrredundant, IsPartOf, nothing, kept, dropped}
use Rattle.trimmer.specs.Trimmed.{covered_by, left_of, margin_left, margin_with, trimmed}
use Rattle.trimmer.proofs.Draws.{plan-stays}
use Rattle.trimmer.proofs.Lefts.{IsTrimmed, assertion_in, fate, from_trimmed}

-- if no claim of a list refutes an order, no claim of a list with fewer of them does
pub stands-fewer : (more fewer : List Claim) (order : List ℕ) → ((claim : Claim) → Member claim fewer → Member claim more) →
    stands (map assertion_in more) order ≡ true → stands (map assertion_in fewer) order ≡ true
stands-fewer more fewer order within h =
    not_from_false (list_any (λ a. refutes a order) (map assertion_in fewer)) (false_from_ne_true (list_any (λ a. refutes a order) (map assertion_in fewer)) (λ any.
    let (a, m, r) = from_list_any (λ a. refutes a order) (map assertion_in fewer) any in
    let (claim, k, e) = from_map assertion_in a fewer m in
    both_ways (list_any (λ a. refutes a order) (map assertion_in more)) (not-true (list_any (λ a. refutes a order) (map assertion_in more)) h)
    (list_any-member (λ a. refutes a order) {x = claim.assertion} (member-map assertion_in (within claim k)) (ap (λ a. refutes a order) e ∙ r))))

-- if an order stands, the list doesn't cover
pub stands-uncovered : (n winner : ℕ) (claims : List Claim) (order : List ℕ) → IsAlternative n winner order → stands (map assertion_in claims) order ≡ true →
    covers n winner (map assertion_in claims) ≡ false
stands-uncovered n winner claims order alternative h = false_from_ne_true (covers n winner (map assertion_in claims)) (λ covering.
    let m = alternative-member n winner alternative.1.0 order alternative.0 alternative.1.1 alternative.1.2 in
    let (a, k, r) = from_covers n winner (map assertion_in claims) order covering m in
    both_ways (list_any (λ a. refutes a order) (map assertion_in claims)) (not-true (list_any (λ a. refutes a order) (map assertion_in claims)) h)
    (list_any-member (λ a. refutes a order) {x = a} k r))

module _ (budget : Budget) (file : Content) where
  -- an alternative order that none of the claims refutes
  abbrev pub Standing : List Claim → Type 0
  Standing claims =
      (order : List ℕ) × IsAlternative (candidate_count file) file.winner order × (stands (map assertion_in claims) order ≡ true)

  standing-fewer : (more fewer : List Claim) → ((claim : Claim) → Member claim fewer → Member claim more) → Standing more → Standing fewer
  standing-fewer more fewer within (order, alternative, h) = (order, alternative, stands-fewer more fewer order within h)

  without-one : (earlier : List Claim) (claim : Claim) (later : List Claim) (other : Claim) → Member other (earlier ++ later) →
      Member other ((earlier ++ claim ∷ []) ++ later)
  without-one earlier claim later other m = elim (member-append_cases earlier later m) [
    | inl k ↦ member-append_left later (member-append_left (claim ∷ []) k)
    | inr k ↦ member-append_right (earlier ++ claim ∷ []) k
  ]

  -- each claim that is left was kept because an order stands without it; with fewer claims, that order still stands
  pub left-needed : (earlier later left : List Claim) → left_of budget file earlier later ≡ Ok left → (before : List Claim) (claim : Claim) (behind : List Claim) →
      left ≡ before ++ claim ∷ behind → Standing (earlier ++ (before ++ behind))
  left-needed earlier [] left e [] claim behind split = let same : [] ≡ left = cc in cc
  left-needed earlier [] left e (other ∷ before) claim behind split = let same : [] ≡ left = cc in cc
  left-needed earlier (first ∷ later) left e before claim behind split =
      let (rest, f, g) = fate budget file earlier first later left e in
      elim g [
        | inl goes ↦
            standing-fewer ((earlier ++ first ∷ []) ++ (before ++ behind)) (earlier ++ (before ++ behind)) (without-one earlier first (before ++ behind))
            (left-needed (earlier ++ first ∷ []) later rest f before claim behind (sym goes.0 ∙ split))
        | inr stays ↦ at_first rest (left-needed (earlier ++ first ∷ []) later rest f) before stays.1.0 stays.1.1 (sym stays.0 ∙ split)
      ]
    where
      at_first : (rest : List Claim) → ((before : List Claim) (claim : Claim) (behind : List Claim) → rest ≡ before ++ claim ∷ behind →
          Standing ((earlier ++ first ∷ []) ++ (before ++ behind))) → (before : List Claim) (order : List ℕ) →
          covered_by budget file (earlier ++ rest) ≡ Ok (Stands order) →
          first ∷ rest ≡ before ++ claim ∷ behind → Standing (earlier ++ (before ++ behind))
      at_first rest f [] order h e =
          let same : rest ≡ behind = cc in
          let least = stands_is_least (candidate_count file) file.winner budget (map assertion_in (earlier ++ rest)) order h in
          (order, least.0, subst (λ rest. stands (map assertion_in (earlier ++ rest)) order ≡ true) same least.1)
      at_first rest f (other ∷ before) order h e =
          let same : rest ≡ before ++ claim ∷ behind = cc in
          let its : first ≡ other = cc in
          subst Standing (append_assoc earlier (first ∷ []) (before ++ behind) ∙ ap (λ c. earlier ++ (c ∷ before ++ behind)) its)
          (f before claim behind same)

  -- ---- trimmed again
  abbrev pub AreNeeded : List Claim → Type 0
  AreNeeded claims = (before : List Claim) (claim : Claim) (behind : List Claim) → claims ≡ before ++ claim ∷ behind →
      covers (candidate_count file) file.winner (map assertion_in (before ++ behind)) ≡ false

  pub needed-stay : (claims : List Claim) → AreNeeded claims → (earlier later left : List Claim) → claims ≡ earlier ++ later →
      left_of budget file earlier later ≡ Ok left → left ≡ later
  needed-stay claims needed earlier [] left split e = cc
  needed-stay claims needed earlier (claim ∷ later) left split e =
      let (rest, f, g) = fate budget file earlier claim later left e in
      let same : rest ≡ later = needed-stay claims needed (earlier ++ claim ∷ []) later rest (split ∙ sym (append_assoc earlier (claim ∷ []) later)) f in
      elim g [
        | inl goes ↦ absurd (both_ways (covers (candidate_count file) file.winner (map assertion_in (earlier ++ later))) (needed earlier claim later split)
            ((covered_iff_covers (candidate_count file) file.winner budget (map assertion_in (earlier ++ later)) Covered
            (ap (λ rest. covered_by budget file (earlier ++ rest)) (sym same) ∙ goes.1)).0 refl))
        | inr stays ↦ stays.0 ∙ ap (λ rest. claim ∷ rest) same
      ]

-- ---- parts
pub part-member : {part whole : List Claim} → IsPartOf part whole → (claim : Claim) → Member claim part → Member claim whole
part-member nothing claim m = m
part-member (kept {x = first} {part} {whole} p) claim m = elim (member_cases m) [
  | inl e ↦ member_at e
  | inr k ↦ there (part-member p claim k)
]
part-member (dropped p) claim m = there (part-member p claim m)

-- a part that isn't the whole lacks a claim
abbrev pub Lacks : List Claim → List Claim → Type 0
Lacks part whole = (before : List Claim) × (claim : Claim) × (behind : List Claim) × (whole ≡ before ++ claim ∷ behind)
    × ((other : Claim) → Member other part → Member other (before ++ behind))

pub part_lacks : {part whole : List Claim} → IsPartOf part whole → part ≢ whole → Lacks part whole
part_lacks nothing ne = absurd (ne refl)
part_lacks (kept {x = first} {part} {whole} p) ne =
    let (before, claim, behind, e, m) = part_lacks p (λ same. ne (ap (λ r. first ∷ r) same)) in (
      first ∷ before,
      claim,
      behind,
      ap (λ r. first ∷ r) e,
      λ other k. elim (member_cases k) [
        | inl same ↦ member_at same
        | inr l ↦ there (m other l)
      ],
    )
part_lacks (dropped {x = first} {part} {whole} p) ne = ([], first, whole, refl, part-member p)

-- ---- the laws
pub trimmed_is_irredundant : (budget : Budget) (file left : Content) → trimmed budget file ≡ Ok left → IsIrredundant left
trimmed_is_irredundant budget file left e before claim behind split =
    let t = from_trimmed budget file left e in
    subst (λ (content : Content). Standing budget content (before ++ behind)) (sym t.same)
    (left-needed budget file [] file.claims left.claims t.claims before claim behind split)

pub no_part_covers : (budget : Budget) (file left : Content) → trimmed budget file ≡ Ok left → (part : List Claim) → IsPartOf part left.claims → part ≢ left.claims →
    covers (candidate_count file) file.winner (map assertion_in part) ≡ false
no_part_covers budget file left e part p ne =
    let (before, claim, behind, split, within) = part_lacks p ne in
    let (order, alternative, h) = standing-fewer budget file (before ++ behind) part within
    (left-needed budget file [] file.claims left.claims (from_trimmed budget file left e).claims before claim behind split) in
    stands-uncovered (candidate_count file) file.winner part order alternative h

-- the margin of a trimmed file stays the same if none of its claims is dropped
margin-stays : (budget : Budget) (file left : Content) → IsTrimmed budget file left → margin_left left left.claims ≡ left.margin
margin-stays budget file left t =
    let order : left.order ≡ file.order = ap (λ (content : Content). content.order) t.same in
    by left.order (t.margin ∙ ap (λ order. margin_with order file.margin left.claims) (sym order))
  where
    by : (order : Option (List ℕ)) → left.margin ≡ margin_with order file.margin left.claims → margin_with order left.margin left.claims ≡ left.margin
    by None e = sym e
    by (Some order) e = refl

pub trimmed_stays : (budget : Budget) (file left again : Content) → trimmed budget file ≡ Ok left → trimmed budget left ≡ Ok again → again ≡ left
trimmed_stays budget file left again e f =
    let t = from_trimmed budget file left e in
    let u = from_trimmed budget left again f in
    let needed : AreNeeded budget left left.claims = (λ before claim behind split.
    let (order, alternative, h) = trimmed_is_irredundant budget file left e before claim behind split in
    stands-uncovered (candidate_count left) left.winner (before ++ behind) order alternative h) in
    let claims : again.claims ≡ left.claims = needed-stay budget left left.claims needed [] left.claims again.claims refl u.claims in
    let whole : left_of budget left [] left.claims ≡ Ok left.claims = u.claims ∙ ap Ok claims in
    let plan : again.plan ≡ left.plan = u.plan ∙ plan-stays budget file left t.claims t.plan whole in
    let margin : margin_left left again.claims ≡ left.margin = ap (margin_left left) claims ∙ margin-stays budget file left t in
    u.same ∙ (λ i. record left { margin = margin i; claims = claims i; plan = plan i })
