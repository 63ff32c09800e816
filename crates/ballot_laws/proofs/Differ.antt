-- Records whose ids differ, and rules that are passed.
use Rattle.std.proofs.Common.{◌≡◌, ◌∙◌, ◌++◌, ◌∷◌, [], ◌&&◌, ℕ, zero, suc, Bool, true, false, not, List, Some, None, length, map, take, drop, nat_le, refl, sym, ap, append_assoc}
use Rattle.std.specs.Prelude.{if◌then◌else◌, codes, filter}
use Rattle.std.specs.List.{slice_get}
use Rattle.std.proofs.lemmas.Bool.{and_parts, not-true}
use Rattle.std.proofs.lemmas.List.{append-nil, map-append}
use Rattle.std.proofs.lemmas.List.Elements.{filter-append}
use Rattle.csv_rows.specs.Rows.{Fields}
use Rattle.irv_base.specs.Names.{Id, all_differ, is_among, is_same}
use Rattle.ballots.specs.declared.fault.BRule.{BRule}
use Rattle.ballots.specs.declared.fault.BRule.TheVariants.{B2}
use Rattle.ballot_ids.proofs.Differing.{differ-push, differ-split}
use Rattle.ballot_laws.specs.Rows.{contest_id, field}
use Rattle.ballot_laws.specs.Breaking.{AreUnbroken, begins_contest, contest_rule, contest_rules, first_broken}

-- ---- rules that are passed

pub passed : (rule : BRule) (kept : Bool) (rules : List (BRule × Bool)) → first_broken ((rule, kept) ∷ rules) ≡ None →
    (kept ≡ true) × (first_broken rules ≡ None)
passed rule true rules h = (refl, h)
passed rule false rules h = absurd cc

pub passes : (rule : BRule) (kept : Bool) (rules : List (BRule × Bool)) → kept ≡ true → first_broken rules ≡ None → first_broken ((rule, kept) ∷ rules) ≡ None
passes rule kept rules t h = ap (λ b. if b then first_broken rules else Some rule) t ∙ h

-- ---- differing ids among the rows that pass a test

module _ (p : Fields → Bool) (f : Fields → Id) where
  abbrev pub own : List Fields → List Id
  own rows = map f (filter p rows)

  own-append : (before rest : List Fields) → own (before ++ rest) ≡ own before ++ own rest
  own-append before rest = ap (map f) (filter-append p before rest) ∙ map-append f (filter p before) (filter p rest)

  pub differ-behind : (before rest : List Fields) → all_differ (own before) ≡ true
      → ((k : ℕ) (row : Fields) → slice_get rest k ≡ Some row → p row ≡ true → is_among (own (before ++ take k rest)) (f row) ≡ false)
      → all_differ (own (before ++ rest)) ≡ true
  differ-behind before [] d h = ap (λ rows. all_differ (own rows)) (append-nil before) ∙ d
  differ-behind before (row ∷ rest) d h =
      let first : p row ≡ true → is_among (own before) (f row) ≡ false =
      λ t. (ap (λ rows. is_among (own rows) (f row)) (sym (append-nil before)) ∙ h 0 row refl t) in
      let later = differ-behind (before ++ row ∷ []) rest (more (p row) refl first)
      (λ k other g t. ap (λ rows. is_among (own rows) (f other)) (append_assoc before (row ∷ []) (take k rest)) ∙ h (suc k) other g t) in
      ap (λ rows. all_differ (own rows)) (sym (append_assoc before (row ∷ []) rest)) ∙ later
    where
      more : (b : Bool) → p row ≡ b → (p row ≡ true → is_among (own before) (f row) ≡ false) → all_differ (own (before ++ row ∷ [])) ≡ true
      more true t new = ap all_differ (own-append before (row ∷ []) ∙ ap (λ b. own before ++ map f (if b then row ∷ [] else [])) t)
          ∙ differ-push (own before) (f row) d (new t)
      more false e new = ap all_differ (own-append before (row ∷ []) ∙ ap (λ b. own before ++ map f (if b then row ∷ [] else [])) e ∙ append-nil (own before))
          ∙ d

  split-at : (rows : List Fields) (k : ℕ) (row : Fields) → slice_get rows k ≡ Some row → rows ≡ take k rows ++ row ∷ drop (suc k) rows
  split-at [] k row g = absurd cc
  split-at (x ∷ rows) zero row g = let e : x ≡ row = cc in ap (λ y. y ∷ rows) e
  split-at (x ∷ rows) (suc k) row g = ap (λ xs. x ∷ xs) (split-at rows k row g)

  pub differ-before : (rows : List Fields) (k : ℕ) (row : Fields) → all_differ (own rows) ≡ true → slice_get rows k ≡ Some row → p row ≡ true →
      is_among (own (take k rows)) (f row) ≡ false
  differ-before rows k row d g t =
      let rest = drop (suc k) rows in
      let parts = ap own (split-at rows k row g) ∙ own-append (take k rows) (row ∷ rest)
      ∙ ap (λ b. own (take k rows) ++ map f (if b then row ∷ filter p rest else filter p rest)) t in
      differ-split (own (take k rows)) (f row) (own rest) (ap all_differ (sym parts) ∙ d)

-- ---- contests

all-kept : (rows : List Fields) → filter (λ row. true) rows ≡ rows
all-kept [] = refl
all-kept (row ∷ rows) = ap (λ rest. row ∷ rest) (all-kept rows)

pub contest-new : (before : List Fields) (row : Fields) → contest_rule before row ≡ None → is_among (map contest_id before) (contest_id row) ≡ false
contest-new before row h =
    let first = (passed B2 (begins_contest before row) (drop 1 (contest_rules before row)) h).0 in
    not-true (is_among (map contest_id before) (contest_id row))
    (and_parts (nat_le 3 (length row) && is_same (field row 0) (codes "Contest")) (not (is_among (map contest_id before) (contest_id row))) first).1

abbrev all : Fields → Bool
all row = true

pub contests-differ : (rows : List Fields) → AreUnbroken contest_rule rows → all_differ (map contest_id rows) ≡ true
contests-differ rows h =
    ap (λ kept. all_differ (map contest_id kept)) (sym (all-kept rows))
    ∙ differ-behind all contest_id [] rows refl (λ k row g t. ap (λ kept. is_among (map contest_id kept) (contest_id row)) (all-kept (take k rows))
    ∙ contest-new (take k rows) row (h k row g))

pub contest-before : (rows : List Fields) (k : ℕ) (row : Fields) → all_differ (map contest_id rows) ≡ true → slice_get rows k ≡ Some row →
    is_among (map contest_id (take k rows)) (contest_id row) ≡ false
contest-before rows k row d g =
    ap (λ kept. is_among (map contest_id kept) (contest_id row)) (sym (all-kept (take k rows)))
    ∙ differ-before all contest_id rows k row (ap (λ kept. all_differ (map contest_id kept)) (all-kept rows) ∙ d) g refl
