-- Records that are judged in order, each by the records before it.
use Rattle.std.proofs.Common.{◌⊎◌, inl, inr, ◌≡◌, ◌∙◌, ◌++◌, ◌∷◌, [], ◌+◌, ◌<◌, ℕ, zero, suc, List, Option, Some, None, Result, Ok, Err, length, take, refl, sym, ap, arith, length-append, append_assoc, nat_lt, ltb-true, ltb-false}
use Rattle.std.specs.List.{slice_get}
use Rattle.std.proofs.lemmas.List.{append-nil}
use Rattle.std.proofs.lemmas.Bool.{cases_Bool}
use Rattle.csv_rows.specs.Broken.{IsFirstBroken}
use Rattle.csv_rows.specs.Rows.{Fields}
use Rattle.file_fault.specs.Refusals.{and_then, Refusal, refused}
use Rattle.ballots.specs.declared.fault.BRule.{BRule}
use Rattle.ballot_laws.specs.Breaking.{AreUnbroken}

-- what record by record is judged, each by what the ones before it came to
abbrev pub walk : {A : Type 0} → (List A → ℕ → Fields → Result A BRule) → List A → ℕ → List Fields → Result (List A) (Refusal BRule)
walk judge earlier at [] = Ok earlier
walk judge earlier at (row ∷ rows) = and_then at (judge earlier at row) (λ a. walk judge (earlier ++ a ∷ []) (at + 1) rows)

pub and_then-same : {A B : Type 0} (at : ℕ) (r : Result A BRule) (f g : A → Result B (Refusal BRule)) → ((a : A) → f a ≡ g a) → and_then at r f ≡ and_then at r g
and_then-same at (Ok a) f g h = h a
and_then-same at (Err rule) f g h = refl

-- what each record says, where the first record has number at
abbrev pub numbered : {A : Type 0} → (ℕ → Fields → A) → ℕ → List Fields → List A
numbered read at [] = []
numbered read at (row ∷ rows) = read at row ∷ numbered read (at + 1) rows

pub length-numbered : {A : Type 0} (read : ℕ → Fields → A) (at : ℕ) (rows : List Fields) → length (numbered read at rows) ≡ length rows
length-numbered read at [] = refl
length-numbered read at (row ∷ rows) = ap suc (length-numbered read (at + 1) rows)

numbered-push : {A : Type 0} (read : ℕ → Fields → A) (at : ℕ) (rows : List Fields) (row : Fields) →
    numbered read at (rows ++ row ∷ []) ≡ numbered read at rows ++ read (at + length rows) row ∷ []
numbered-push read at [] row = let e : at ≡ at + 0 = omega arith in ap (λ n. read n row ∷ []) e
numbered-push read at (r ∷ rows) row =
    let e : (at + 1) + length rows ≡ at + suc (length rows) = omega arith in
    ap (λ more. read at r ∷ more) (numbered-push read (at + 1) rows row ∙ ap (λ n. numbered read (at + 1) rows ++ read n row ∷ []) e)

abbrev pub as_judged : {A : Type 0} → Option BRule → A → Result A BRule
as_judged None a = Ok a
as_judged (Some rule) a = Err rule

-- the judge says of each record what it says, or the rule that it breaks
abbrev pub Judges : {A : Type 0} → (List A → ℕ → Fields → Result A BRule) → (List Fields → Fields → Option BRule) → (ℕ → Fields → A) → Type 0
Judges judge broken read =
    (first : ℕ) (before : List Fields) (at : ℕ) (row : Fields) → judge (numbered read first before) at row ≡ as_judged (broken before row) (read at row)

pub record AreFine {A : Type 0} (judge : List A → ℕ → Fields → Result A BRule) (broken : List Fields → Fields → Option BRule) (read : ℕ → Fields →
    A) (first : ℕ) (before rest : List Fields) : Type 0 where
  pub none : (j : ℕ) (other : Fields) → slice_get rest j ≡ Some other → broken (before ++ take j rest) other ≡ None
  pub is : walk judge (numbered read first before) (first + length before) rest ≡ Ok (numbered read first (before ++ rest))

pub record AreBroken {A : Type 0} (judge : List A → ℕ → Fields → Result A BRule) (broken : List Fields → Fields → Option BRule) (read : ℕ → Fields →
    A) (first : ℕ) (before rest : List Fields) : Type 0 where
  pub k : ℕ
  pub rule : BRule
  pub row : Fields
  pub there : slice_get rest k ≡ Some row
  pub broken_rule : broken (before ++ take k rest) row ≡ Some rule
  pub earlier : (j : ℕ) (other : Fields) → j < k → slice_get rest j ≡ Some other → broken (before ++ take j rest) other ≡ None
  pub is : walk judge (numbered read first before) (first + length before) rest ≡ refused rule (first + length before + k)

module _ {A : Type 0} (judge : List A → ℕ → Fields → Result A BRule) (broken : List Fields → Fields → Option BRule) (read : ℕ → Fields →
    A) (first : ℕ) (judges : Judges judge broken read) where
  steps : (before : List Fields) (row : Fields) (rest : List Fields) (o : Option BRule) → broken before row ≡ o
      → walk judge (numbered read first before) (first + length before) (row ∷ rest)
      ≡ and_then (first + length before) (as_judged o (read (first + length before) row))
      (λ a. walk judge (numbered read first before ++ a ∷ []) (first + length before + 1) rest)
  steps before row rest o e =
      ap (λ r. and_then (first + length before) r (λ a. walk judge (numbered read first before ++ a ∷ []) (first + length before + 1) rest))
      (judges first before (first + length before) row ∙ ap (λ x. as_judged x (read (first + length before) row)) e)

  onward : (before : List Fields) (row : Fields) (rest : List Fields) → broken before row ≡ None
      → walk judge (numbered read first before) (first + length before) (row ∷ rest) ≡ walk judge (numbered read first (before ++ row ∷ []))
      (first + length (before ++ row ∷ [])) rest
  onward before row rest e =
      steps before row rest None e
      ∙ ap (λ earlier. walk judge earlier (first + length before + 1) rest) (sym (numbered-push read first before row))
      ∙ ap (λ at. walk judge (numbered read first (before ++ row ∷ [])) at rest) (omega (arith, length-append before (row ∷ [])))

  behind : (before : List Fields) (row : Fields) (rest : List Fields) (j : ℕ) (other : Fields) →
      broken ((before ++ row ∷ []) ++ take j rest) other ≡ broken (before ++ row ∷ take j rest) other
  behind before row rest j other = ap (λ b. broken b other) (append_assoc before (row ∷ []) (take j rest))

  at_first : (before : List Fields) (row : Fields) (o : Option BRule) → broken before row ≡ o → broken (before ++ []) row ≡ o
  at_first before row o e = ap (λ b. broken b row) (append-nil before) ∙ e

  first-broken : (before : List Fields) (row : Fields) (rest : List Fields) (rule : BRule) → broken before row ≡ Some rule →
      AreBroken judge broken read first before (row ∷ rest)
  first-broken before row rest rule e = record {
    k = zero;
    rule = rule;
    row = row;
    there = refl;
    broken_rule = at_first before row (Some rule) e;
    earlier = λ j other less there. absurd (omega (arith, less));
    is = steps before row rest (Some rule) e ∙ ap (refused rule) (omega arith);
  }

  fine-more : (before : List Fields) (row : Fields) (rest : List Fields) → broken before row ≡ None →
      AreFine judge broken read first (before ++ row ∷ []) rest → AreFine judge broken read first before (row ∷ rest)
  fine-more before row rest e f = record {
    none = none;
    is = onward before row rest e ∙ f.is
        ∙ ap (λ rows. Ok (numbered read first rows)) (append_assoc before (row ∷ []) rest);
  } where
    none : (j : ℕ) (other : Fields) → slice_get (row ∷ rest) j ≡ Some other → broken (before ++ take j (row ∷ rest)) other ≡ None
    none zero other g = let s : row ≡ other = cc in at_first before other None (ap (broken before) (sym s) ∙ e)
    none (suc j) other g = sym (behind before row rest j other) ∙ f.none j other g

  broken-more : (before : List Fields) (row : Fields) (rest : List Fields) → broken before row ≡ None →
      AreBroken judge broken read first (before ++ row ∷ []) rest → AreBroken judge broken read first before (row ∷ rest)
  broken-more before row rest e f = record {
    k = suc f.k;
    rule = f.rule;
    row = f.row;
    there = f.there;
    broken_rule = sym (behind before row rest f.k f.row) ∙ f.broken_rule;
    earlier = earlier;
    is = onward before row rest e ∙ f.is ∙ ap (refused f.rule) (omega (arith, length-append before (row ∷ [])));
  } where
    earlier : (j : ℕ) (other : Fields) → j < suc f.k → slice_get (row ∷ rest) j ≡ Some other → broken (before ++ take j (row ∷ rest)) other ≡ None
    earlier zero other less g = let s : row ≡ other = cc in at_first before other None (ap (broken before) (sym s) ∙ e)
    earlier (suc j) other less g = sym (behind before row rest j other) ∙ f.earlier j other (omega (arith, less)) g

  pub walked : (before rest : List Fields) → AreFine judge broken read first before rest ⊎ AreBroken judge broken read first before rest
  walked before [] = inl (record { none = λ j other g. absurd cc; is = ap (λ rows. Ok (numbered read first rows)) (sym (append-nil before)) })
  walked before (row ∷ rest) = by (broken before row) refl (walked (before ++ row ∷ []) rest) where
    by : (o : Option BRule) → broken before row ≡ o → AreFine judge broken read first (before ++ row ∷ []) rest
        ⊎ AreBroken judge broken read first (before ++ row ∷ []) rest
        → AreFine judge broken read first before (row ∷ rest) ⊎ AreBroken judge broken read first before (row ∷ rest)
    by (Some rule) e more = inr (first-broken before row rest rule e)
    by None e more = elim more [
      | inl f ↦ inl (fine-more before row rest e f)
      | inr f ↦ inr (broken-more before row rest e f)
    ]

-- ---- all records, from the first one on

-- whether a record breaks a rule, and how the walk ends
module _ {A : Type 0} (judge : List A → ℕ → Fields → Result A BRule) (broken : List Fields → Fields → Option BRule) (read : ℕ → Fields →
    A) (first : ℕ) (judges : Judges judge broken read) (rows : List Fields) where
  begins : first + 0 ≡ first
  begins = omega arith

  from_first : {r : Result (List A) (Refusal BRule)} → walk judge [] (first + 0) rows ≡ r → walk judge [] first rows ≡ r
  from_first h = ap (λ at. walk judge [] at rows) (sym begins) ∙ h

  abbrev pub FirstBroken : Type 0
  FirstBroken = (k : ℕ) × (rule : BRule) × IsFirstBroken broken rows k rule

  as_first : (b : AreBroken judge broken read first [] rows) → IsFirstBroken broken rows b.k b.rule
  as_first b = record { row = b.row; there = b.there; breaks = b.broken_rule; earlier = b.earlier }

  pub decided : AreUnbroken broken rows ⊎ FirstBroken
  decided = elim (walked judge broken read first judges [] rows) [
    | inl f ↦ inl f.none
    | inr b ↦ inr (b.k, b.rule, as_first b)
  ]

  pub walk-fine : AreUnbroken broken rows → walk judge [] first rows ≡ Ok (numbered read first rows)
  walk-fine h = elim (walked judge broken read first judges [] rows) [
    | inl f ↦ from_first f.is
    | inr b ↦ absurd (let e = sym (h b.k b.row b.there) ∙ b.broken_rule in cc)
  ]

  one-first : (b : AreBroken judge broken read first [] rows) (k : ℕ) (rule : BRule) → IsFirstBroken broken rows k rule → (b.k ≡ k) × (b.rule ≡ rule)
  one-first b k rule h = elim (cases_Bool (nat_lt k b.k)) [
    | inl less ↦ absurd (let e = sym (b.earlier k h.row (ltb-true k b.k less) h.there) ∙ h.breaks in cc)
    | inr more ↦ elim (cases_Bool (nat_lt b.k k)) [
      | inl less ↦ absurd (let e = sym (h.earlier b.k b.row (ltb-true b.k k less) b.there) ∙ b.broken_rule in cc)
      | inr none ↦
          let same : b.k ≡ k = omega (arith, ltb-false k b.k more, ltb-false b.k k none) in
          let there = sym b.there ∙ ap (slice_get rows) same ∙ h.there in
          let row : b.row ≡ h.row = cc in
          let rules = sym b.broken_rule ∙ ap (broken (take b.k rows)) row ∙ ap (λ j. broken (take j rows) h.row) same ∙ h.breaks in
          (same, cc)
    ]
  ]

  pub walk-broken : (k : ℕ) (rule : BRule) → IsFirstBroken broken rows k rule → walk judge [] first rows ≡ refused rule (first + k)
  walk-broken k rule h = elim (walked judge broken read first judges [] rows) [
    | inl f ↦ absurd (let e = sym (f.none k h.row h.there) ∙ h.breaks in cc)
    | inr b ↦
        let (place, same) = one-first b k rule h in
        let at : first + 0 + b.k ≡ first + k = omega (arith, place) in
        from_first (b.is ∙ ap (λ x. refused x (first + 0 + b.k)) same ∙ ap (refused rule) at)
  ]
