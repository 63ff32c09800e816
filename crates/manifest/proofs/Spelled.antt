-- The records of a manifest spell its batches, or one of them breaks a rule first.
use Rattle.std.proofs.Common.{inl, inr, ◌≡◌, ◌∙◌, ◌++◌, ◌∷◌, [], ◌+◌, ◌<◌, ◌≤◌, ◌||◌, ℕ, zero, suc, Bool, true, false, not, List, Option, Some, None, Ok, Err, length, map, take, drop, nat_le, nat_lt, get_or, refl, sym, ap, subst, arith, ltb-true, ltb-false}
use Rattle.std.specs.Prelude.{if◌then◌else◌, codes, option_map}
use Rattle.std.specs.List.{list_all, slice_get, sum}
use Rattle.std.specs.Cmp.Lexicographic.{bytes_decides}
use Rattle.std.proofs.lemmas.Bool.{and_parts, cases_Bool}
use Rattle.std.proofs.lemmas.List.{length-map, map-append}
use Rattle.std.proofs.lemmas.List.Folds.{list_all-append}
use Rattle.std.proofs.lemmas.List.Sums.{sum_by-append}
use Rattle.std.proofs.lemmas.Option.{get_or_from_slice_get, slice_get-map}
use Rattle.ballot_ids.proofs.Differing.{differ-split}
use Rattle.ballot_ids.proofs.IdBytes.{got}
use Rattle.csv_rows.specs.Broken.{IsFirstBroken}
use Rattle.csv_rows.specs.Numbers.{number_of}
use Rattle.csv_rows.specs.Rows.{Fields}
use Rattle.irv_base.specs.Names.{Id, all_differ, is_among, is_same}
use Rattle.manifest.specs.Cards.{AreBatches, Batches, is_batch_id, is_count}
use Rattle.manifest.specs.Manifest.{at_end, batches_after, is_header, manifest_in}
use Rattle.file_fault.specs.Refusals.{Refusal, refused}
use Rattle.manifest.specs.Spelling.{FirstBrokenRuleRefuses, IsRefusedIn, RecordsSpellBatches, Spells, broken_rule, number_or_0, row_cards, row_id}
use Rattle.manifest.specs.declared.fault.MRule.{MRule}
use Rattle.manifest.specs.declared.fault.MRule.TheVariants.{M1, M3, M4, M5, M6}
use Rattle.irv_base.specs.declared.limits.TheConstants.{MOST_CARDS}
use Rattle.manifest.proofs.CardAt.{sum-cons}
use Rattle.manifest.proofs.SoFar.{none_yet}
use Rattle.manifest.proofs.Walked.{AreBroken, AreFine, AreSound, walked}

-- ---- the header

abbrev header_row : Fields
header_row = codes "batch" ∷ codes "cards" ∷ []

header-is : (row : Fields) → is_header row ≡ true → row ≡ header_row
header-is [] h = absurd cc
header-is (a ∷ []) h = absurd cc
header-is (a ∷ b ∷ []) h =
    let (first, second) = and_parts (is_same a (codes "batch")) (is_same b (codes "cards")) h in
    ap (λ x. x ∷ b ∷ []) ((bytes_decides a (codes "batch")).0 first) ∙ ap (λ x. codes "batch" ∷ x ∷ []) ((bytes_decides b (codes "cards")).0 second)
header-is (a ∷ b ∷ c ∷ rest) h = absurd cc

is-header : is_header header_row ≡ true
is-header = rw ((bytes_decides (codes "batch") (codes "batch")).1 refl, (bytes_decides (codes "cards") (codes "cards")).1 refl) refl

-- ---- a record that breaks no rule

record IsSpelled (row : Fields) : Type 0 where
  text : List ℕ
  is : row ≡ row_id row ∷ text ∷ []
  number : number_of text ≡ Some (row_cards row)

spelled : (before : List Fields) (row : Fields) → broken_rule before row ≡ None → IsSpelled row
spelled before [] h = absurd cc
spelled before (id ∷ []) h = absurd cc
spelled before (id ∷ number ∷ []) h =
    record { text = number; is = refl; number = by (not (is_batch_id id) || is_among (map row_id before) id) (number_of number) h } where
      by : (b : Bool) (o : Option ℕ)
          → (if b then Some M4 else (if is_count (number_or_0 o) then (if nat_le (sum (map row_cards before) + number_or_0 o) MOST_CARDS then None else Some M5)
          else Some M3)) ≡ None
          → o ≡ Some (number_or_0 o)
      by true o g = absurd cc
      by false None g = absurd cc
      by false (Some n) g = refl
spelled before (id ∷ number ∷ next ∷ rest) h = absurd cc

-- ---- records that spell sound batches break no rule

same-columns : (rows : List Fields) (ids : List Id) (counts : List ℕ) → length rows ≡ length ids → length counts ≡ length ids
    → ((i : ℕ) → i < length ids → (text : List ℕ) × (slice_get rows i ≡ Some (get_or ids i [] ∷ text ∷ [])) × (number_of text ≡ Some (get_or counts i 0)))
    → (map row_id rows ≡ ids) × (map row_cards rows ≡ counts)
same-columns [] [] [] r c each = (refl, refl)
same-columns [] [] (n ∷ counts) r c each = absurd (omega (arith, c))
same-columns [] (id ∷ ids) counts r c each = absurd (omega (arith, r))
same-columns (row ∷ rows) [] counts r c each = absurd (omega (arith, r))
same-columns (row ∷ rows) (id ∷ ids) [] r c each = absurd (omega (arith, c))
same-columns (row ∷ rows) (id ∷ ids) (n ∷ counts) r c each =
    let (text, there, number) = each 0 (omega arith) in
    let e : row ≡ id ∷ text ∷ [] = cc in
    let (more_ids, more_counts) = same-columns rows ids counts (omega (arith, r)) (omega (arith, c)) (λ i less. each (suc i) (omega (arith, less))) in (
      ap (λ (x : Fields). row_id x ∷ map row_id rows) e ∙ ap (λ xs. id ∷ xs) more_ids,
      ap (λ (x : Fields). row_cards x ∷ map row_cards rows) e ∙ ap (λ o. number_or_0 o ∷ map row_cards rows) number ∙ ap (λ xs. n ∷ xs) more_counts,
    )

less-eq : (a b : ℕ) → a ≤ b → nat_le a b ≡ true
less-eq a b h = grind arith

unbroken : (before : List Fields) (id number : Id) (n : ℕ) (rest : List Fields) → number_of number ≡ Some n → AreSound (before ++ (id ∷ number ∷ []) ∷ rest)
    → broken_rule before (id ∷ number ∷ []) ≡ None
unbroken before id number n rest e h =
    let row : Fields = id ∷ number ∷ [] in
    let ids = map-append row_id before (row ∷ rest) in
    let counts = map-append row_cards before (row ∷ rest) in
    let named = and_parts (list_all is_batch_id (map row_id before)) (list_all is_batch_id (map row_id (row ∷ rest)))
    (sym (list_all-append is_batch_id (map row_id before) (map row_id (row ∷ rest))) ∙ ap (list_all is_batch_id) (sym ids) ∙ h.named) in
    let own = (and_parts (is_batch_id id) (list_all is_batch_id (map row_id rest)) named.1).0 in
    let new = differ-split (map row_id before) id (map row_id rest) (ap all_differ (sym ids) ∙ h.differ) in
    let counted = and_parts (list_all is_count (map row_cards before)) (list_all is_count (map row_cards (row ∷ rest)))
    (sym (list_all-append is_count (map row_cards before) (map row_cards (row ∷ rest))) ∙ ap (list_all is_count) (sym counts) ∙ h.counted) in
    let count : is_count (number_or_0 (number_of number)) ≡ true =
    (and_parts (is_count (number_or_0 (number_of number))) (list_all is_count (map row_cards rest)) counted.1).0 in
    let total : sum (map row_cards (before ++ row ∷ rest)) ≡ sum (map row_cards before) + sum (map row_cards (row ∷ rest)) =
    ap sum counts ∙ sum_by-append (λ x. x) (map row_cards before) (map row_cards (row ∷ rest)) in
    let most = less-eq (sum (map row_cards before) + number_or_0 (number_of number)) MOST_CARDS
    (omega (arith, total, sum-cons (number_or_0 (number_of number)) (map row_cards rest), h.most)) in
    rw (own, new, count, most) refl

split-at : (rows : List Fields) (k : ℕ) (row : Fields) → slice_get rows k ≡ Some row → rows ≡ take k rows ++ row ∷ drop (suc k) rows
split-at [] k row g = absurd cc
split-at (x ∷ rows) zero row g = let e : x ≡ row = cc in ap (λ y. y ∷ rows) e
split-at (x ∷ rows) (suc k) row g = ap (λ xs. x ∷ xs) (split-at rows k row g)

-- ---- both laws

behind_header : (header : Fields) (batches : List Fields) → is_header header ≡ true → manifest_in (header ∷ batches) ≡ batches_after [] [] 2 batches
behind_header header batches t = ap (λ b. if b then batches_after [] [] 2 batches else refused M1 1) t

no_header : (header : Fields) (batches : List Fields) → is_header header ≡ false → manifest_in (header ∷ batches) ≡ refused M1 1
no_header header batches f = ap (λ b. if b then batches_after [] [] 2 batches else refused M1 1) f

abbrev batches-in : List Fields → Batches
batches-in rows = record { ids = map row_id rows; counts = map row_cards rows }

spells-of : (header : Fields) (batches : List Fields) → is_header header ≡ true → AreFine [] batches → 1 ≤ length batches →
    Spells (header ∷ batches) (batches-in batches)
spells-of header batches t f some = record {
  header = ap Some (header-is header t);
  a_row_each = omega (arith, length-map batches row_id);
  each = each;
  some = omega (arith, some, length-map batches row_id);
  sound = f.sound;
} where
  each : (i : ℕ) → i < length (map row_id batches) → (text : List ℕ)
      × (slice_get (header ∷ batches) (i + 1) ≡ Some (get_or (map row_id batches) i [] ∷ text ∷ [])) ×
      (number_of text ≡ Some (get_or (map row_cards batches) i 0))
  each i less =
      let (row, there) = got batches i (omega (arith, less, length-map batches row_id)) in
      let own = spelled (take i batches) row (f.none i row there) in
      let next : i + 1 ≡ suc i = omega arith in
      let id = get_or_from_slice_get (map row_id batches) i (row_id row) [] (slice_get-map row_id batches i ∙ ap (option_map row_id) there) in
      let n = get_or_from_slice_get (map row_cards batches) i (row_cards row) 0 (slice_get-map row_cards batches i ∙ ap (option_map row_cards) there) in (
        own.text,
        ap (slice_get (header ∷ batches)) next ∙ there ∙ ap Some own.is ∙ ap (λ x. Some (x ∷ own.text ∷ [])) (sym id),
        own.number ∙ ap Some (sym n),
      )

some-end : (batches : List Fields) (b : Batches) → at_end (map row_id batches) (map row_cards batches) ≡ Ok b → (1 ≤ length batches) × (batches-in batches ≡ b)
some-end [] b h = absurd cc
some-end (row ∷ batches) b h = (omega arith, cc)

is-spelled : (rows : List Fields) (b : Batches) → manifest_in rows ≡ Ok b → Spells rows b
is-spelled [] b h = absurd cc
is-spelled (header ∷ batches) b h = elim (cases_Bool (is_header header)) [
  | inr f ↦ absurd (let e = sym (no_header header batches f) ∙ h in cc)
  | inl t ↦ elim (walked [] batches none_yet) [
    | inr broken ↦ absurd (let e = sym broken.is ∙ sym (behind_header header batches t) ∙ h in cc)
    | inl fine ↦
        let (some, same) = some-end batches b (sym fine.is ∙ sym (behind_header header batches t) ∙ h) in
        subst (Spells (header ∷ batches)) same (spells-of header batches t fine some)
  ]
]

some-at-end : (ids : List Id) (counts : List ℕ) → 1 ≤ length ids → at_end ids counts ≡ Ok (record { ids = ids; counts = counts })
some-at-end [] counts h = absurd (omega (arith, h))
some-at-end (id ∷ ids) counts h = refl

within : (rows : List Fields) (k : ℕ) (row : Fields) → slice_get rows k ≡ Some row → k < length rows
within [] k row g = absurd cc
within (x ∷ rows) zero row g = omega arith
within (x ∷ rows) (suc k) row g = omega (arith, within rows k row g)

spelled-is : (rows : List Fields) (b : Batches) → Spells rows b → manifest_in rows ≡ Ok b
spelled-is [] b s = absurd (let e = s.header in cc)
spelled-is (header ∷ batches) b s =
    let e : header ≡ header_row = (let g = s.header in cc) in
    let t : is_header header ≡ true = ap is_header e ∙ is-header in
    let later : (i : ℕ) → i < length b.ids → (text : List ℕ) × (slice_get batches i ≡ Some (get_or b.ids i [] ∷ text ∷ [])) ×
    (number_of text ≡ Some (get_or b.counts i 0)) =
    λ i less. (let (text, there, number) = s.each i less in let next : i + 1 ≡ suc i = omega arith in
    (text, sym (ap (slice_get (header ∷ batches)) next) ∙ there, number)) in
    let (ids, counts) = same-columns batches b.ids b.counts (omega (arith, s.a_row_each)) s.sound.a_count_each later in
    let sound : AreSound batches = subst (λ xs. AreBatches xs (map row_cards batches)) (sym ids) (subst (AreBatches b.ids) (sym counts) s.sound) in
    behind_header header batches t ∙ elim (walked [] batches none_yet) [
      | inl fine ↦ fine.is ∙ ap (λ xs. at_end xs (map row_cards batches)) ids ∙ ap (at_end b.ids) counts ∙ some-at-end b.ids b.counts s.some
      | inr broken ↦ absurd (never batches broken sound (λ i less. later i (omega (arith, less, s.a_row_each))))
    ]
  where
    never : (batches : List Fields) (broken : AreBroken [] batches) → AreSound batches
        → ((i : ℕ) → i < length batches → (text : List ℕ) × (slice_get batches i ≡ Some (get_or b.ids i [] ∷ text ∷ [])) ×
        (number_of text ≡ Some (get_or b.counts i 0))) → ⊥
    never batches broken sound each =
        let (text, there, number) = each broken.k (within batches broken.k broken.row broken.there) in
        let id = get_or b.ids broken.k [] in
        let same : broken.row ≡ id ∷ text ∷ [] = (let g = sym broken.there ∙ there in cc) in
        let parts = split-at batches broken.k (id ∷ text ∷ []) there in
        let none = unbroken (take broken.k batches) id text (get_or b.counts broken.k 0) (drop (suc broken.k) batches) number (subst AreSound parts sound) in
        let e = sym (ap (broken_rule (take broken.k batches)) (sym same) ∙ broken.broken) ∙ none in
        cc

pub records_spell_batches : RecordsSpellBatches
records_spell_batches rows b = (is-spelled rows b, spelled-is rows b)

refusal-parts : (rule other : MRule) (at place : ℕ) → refused {A = Batches} rule at ≡ Err (record { rule = other; at = place }) → (other ≡ rule) × (place ≡ at)
refusal-parts rule other at place h =
    let e : record { rule = rule; at = at } ≡ record { rule = other; at = place } = cc in
    (sym (ap (λ (r : Refusal MRule). r.rule) e), sym (ap (λ (r : Refusal MRule). r.at) e))

empty-end : (batches : List Fields) (rule : MRule) (at : ℕ) → at_end (map row_id batches) (map row_cards batches) ≡ Err (record { rule = rule; at = at })
    → (batches ≡ []) × (rule ≡ M6) × (at ≡ 1)
empty-end [] rule at h = let (r, a) = refusal-parts M6 rule 1 at h in (refl, r, a)
empty-end (row ∷ batches) rule at h = absurd cc

first-is : (batches : List Fields) (broken : AreBroken [] batches) (rule : MRule) → rule ≡ broken.rule → IsFirstBroken broken_rule batches broken.k rule
first-is batches broken rule e = record { row = broken.row; there = broken.there; breaks = broken.broken ∙ ap Some (sym e); earlier = broken.earlier }

is-refused : (rows : List Fields) (rule : MRule) (at : ℕ) → manifest_in rows ≡ Err (record { rule = rule; at = at }) → IsRefusedIn rows rule at
is-refused [] rule at h = refusal-parts M1 rule 1 at h
is-refused (header ∷ batches) rule at h = elim (cases_Bool (is_header header)) [
  | inr f ↦ let (r, a) = refusal-parts M1 rule 1 at (sym (no_header header batches f) ∙ h) in inl (f, r, a)
  | inl t ↦ elim (walked [] batches none_yet) [
    | inl fine ↦ let (e, r, a) = empty-end batches rule at (sym fine.is ∙ sym (behind_header header batches t) ∙ h) in inr (inl (t, e, r, a))
    | inr broken ↦
        let (r, a) = refusal-parts broken.rule rule (broken.k + 2) at (sym broken.is ∙ sym (behind_header header batches t) ∙ h) in
        inr (inr (t, broken.k, a, first-is batches broken rule r))
  ]
]

one-first : (batches : List Fields) (broken : AreBroken [] batches) (k : ℕ) (rule : MRule) → IsFirstBroken broken_rule batches k rule →
    (broken.k ≡ k) × (broken.rule ≡ rule)
one-first batches broken k rule first = elim (cases_Bool (nat_lt k broken.k)) [
  | inl less ↦ absurd (let e = sym (broken.earlier k first.row (ltb-true k broken.k less) first.there) ∙ first.breaks in cc)
  | inr more ↦ elim (cases_Bool (nat_lt broken.k k)) [
    | inl less ↦ absurd (let e = sym (first.earlier broken.k broken.row (ltb-true broken.k k less) broken.there) ∙ broken.broken in cc)
    | inr none ↦
        let same : broken.k ≡ k = omega (arith, ltb-false k broken.k more, ltb-false broken.k k none) in
        let rows = sym broken.there ∙ ap (slice_get batches) same ∙ first.there in
        let row : broken.row ≡ first.row = cc in
        let rules = sym broken.broken ∙ ap (λ r. broken_rule (take broken.k batches) r) row ∙ ap (λ j. broken_rule (take j batches) first.row) same
        ∙ first.breaks in
        (same, cc)
  ]
]

refusal-of : (rule other : MRule) (at place : ℕ) → rule ≡ other → at ≡ place → refused {A = Batches} other place ≡ Err (record { rule = rule; at = at })
refusal-of rule other at place r a = ap (λ x. refused x place) (sym r) ∙ ap (refused rule) (sym a)

refused-is : (rows : List Fields) (rule : MRule) (at : ℕ) → IsRefusedIn rows rule at → manifest_in rows ≡ Err (record { rule = rule; at = at })
refused-is [] rule at (r, a) = refusal-of rule M1 at 1 r a
refused-is (header ∷ batches) rule at h = elim h [
  | inl none ↦ no_header header batches none.0 ∙ refusal-of rule M1 at 1 none.1 none.2
  | inr some ↦ elim some [
    | inl empty ↦ behind_header header batches empty.0 ∙ ap (batches_after [] [] 2) empty.1 ∙ refusal-of rule M6 at 1 empty.2 empty.3
    | inr first ↦ behind_header header batches first.0 ∙ elim (walked [] batches none_yet) [
      | inl fine ↦ absurd (let e = sym (fine.none first.1 first.3.row first.3.there) ∙ first.3.breaks in cc)
      | inr broken ↦
          let (place, same) = one-first batches broken first.1 rule first.3 in
          broken.is ∙ refusal-of rule broken.rule at (broken.k + 2) (sym same) (first.2 ∙ ap (λ k. k + 2) (sym place))
    ]
  ]
]

pub first_broken_rule_refuses : FirstBrokenRuleRefuses
first_broken_rule_refuses rows rule at = (is-refused rows rule at, refused-is rows rule at)
