-- The records of batches, judged one by one given the records before them.
use Rattle.std.proofs.Common.{◌⊎◌, inl, inr, ◌≡◌, ◌∙◌, ◌++◌, ◌∷◌, [], ◌+◌, ◌<◌, ◌||◌, ℕ, zero, suc, Bool, true, false, not, List, Option, Some, None, Result, Ok, Err, length, map, take, nat_le, refl, sym, ap, subst, arith, length-append, append_assoc}
use Rattle.std.specs.Prelude.{if◌then◌else◌}
use Rattle.std.specs.List.{slice_get, sum}
use Rattle.std.proofs.lemmas.List.{append-nil, map-append}
use Rattle.csv_rows.specs.Numbers.{number_of}
use Rattle.csv_rows.specs.Rows.{Fields}
use Rattle.irv_base.specs.Names.{Id, is_among}
use Rattle.manifest.specs.Cards.{AreBatches, Batches, is_batch_id, is_count}
use Rattle.manifest.specs.Manifest.{at_end, batch_of, batch_with, batches_after}
use Rattle.file_fault.specs.Refusals.{and_then, Refusal, refused}
use Rattle.manifest.specs.Spelling.{broken_rule, number_or_0, row_cards, row_id}
use Rattle.manifest.specs.declared.batch.Batch.{Batch}
use Rattle.manifest.specs.declared.fault.MRule.{MRule}
use Rattle.manifest.specs.declared.fault.MRule.TheVariants.{M3, M4, M5}
use Rattle.irv_base.specs.declared.limits.TheConstants.{MOST_CARDS}
use Rattle.manifest.proofs.SoFar.{is_next, one_more}

abbrev as_judged : Option MRule → Id → ℕ → Result Batch MRule
as_judged None id n = Ok (record { id = id; cards = n })
as_judged (Some rule) id n = Err rule

judged : (before : List Fields) (row : Fields) → batch_of (map row_id before) (sum (map row_cards before)) row
    ≡ as_judged (broken_rule before row) (row_id row) (row_cards row)
judged before [] = refl
judged before (id ∷ []) = refl
judged before (id ∷ number ∷ []) = by (not (is_batch_id id) || is_among (map row_id before) id) (number_of number) where
  others : ℕ
  others = sum (map row_cards before)

  counted : (n : ℕ) (c m : Bool) → (if c then (if m then Ok (record { id = id; cards = n }) else Err M5) else Err M3)
      ≡ as_judged (if c then (if m then None else Some M5) else Some M3) id n
  counted n true true = refl
  counted n true false = refl
  counted n false m = refl

  by : (b : Bool) (o : Option ℕ) → (if b then Err M4 else batch_with id others o)
      ≡ as_judged (if b then Some M4 else (if is_count (number_or_0 o) then (if nat_le (others + number_or_0 o) MOST_CARDS then None else Some M5) else Some
      M3)) id (number_or_0 o)
  by true o = refl
  by false None = refl
  by false (Some n) = counted n (is_count n) (nat_le (others + n) MOST_CARDS)
judged before (id ∷ number ∷ next ∷ rest) = refl

abbrev pub AreSound : List Fields → Type 0
AreSound rows = AreBatches (map row_id rows) (map row_cards rows)

abbrev pub after : List Fields → List Fields → Result Batches (Refusal MRule)
after before rest = batches_after (map row_id before) (map row_cards before) (2 + length before) rest

-- none of the rest breaks a rule
pub record AreFine (before rest : List Fields) : Type 0 where
  pub none : (j : ℕ) (other : Fields) → slice_get rest j ≡ Some other → broken_rule (before ++ take j rest) other ≡ None
  pub sound : AreSound (before ++ rest)
  pub is : after before rest ≡ at_end (map row_id (before ++ rest)) (map row_cards (before ++ rest))

-- the record at place k of the rest is the first that breaks a rule
pub record AreBroken (before rest : List Fields) : Type 0 where
  pub k : ℕ
  pub rule : MRule
  pub row : Fields
  pub there : slice_get rest k ≡ Some row
  pub broken : broken_rule (before ++ take k rest) row ≡ Some rule
  pub earlier : (j : ℕ) (other : Fields) → j < k → slice_get rest j ≡ Some other → broken_rule (before ++ take j rest) other ≡ None
  pub is : after before rest ≡ refused rule (k + (2 + length before))

first-broken : (before : List Fields) (row : Fields) (rest : List Fields) (rule : MRule) → broken_rule before row ≡ Some rule → AreBroken before (row ∷ rest)
first-broken before row rest rule e = record {
  k = zero;
  rule = rule;
  row = row;
  there = refl;
  broken = ap (λ b. broken_rule b row) (append-nil before) ∙ e;
  earlier = λ j other less there. absurd (omega (arith, less));
  is = ap (λ o. and_then (2 + length before) o (λ (b : Batch). batches_after (map row_id before ++ b.id ∷ []) (map row_cards before ++ b.cards ∷ [])
      ((2 + length before) + 1) rest))
      (judged before row ∙ ap (λ o. as_judged o (row_id row) (row_cards row)) e)
      ∙ ap (refused rule) (omega arith);
}

-- what comes after a record that breaks no rule
module _ (before : List Fields) (row : Fields) (rest : List Fields) (e : broken_rule before row ≡ None) where
  abbrev own : Batch
  own = record { id = row_id row; cards = row_cards row }

  accepted : batch_of (map row_id before) (sum (map row_cards before)) row ≡ Ok own
  accepted = judged before row ∙ ap (λ o. as_judged o (row_id row) (row_cards row)) e

  steps : after before (row ∷ rest) ≡ after (before ++ row ∷ []) rest
  steps =
      ap (λ o. and_then (2 + length before) o (λ (b : Batch). batches_after (map row_id before ++ b.id ∷ []) (map row_cards before ++ b.cards ∷ [])
      ((2 + length before) + 1) rest)) accepted
      ∙ ap (λ ids. batches_after ids (map row_cards before ++ row_cards row ∷ []) ((2 + length before) + 1) rest) (sym (map-append row_id before (row ∷ [])))
      ∙ ap (λ counts. batches_after (map row_id (before ++ row ∷ [])) counts ((2 + length before) + 1) rest) (sym (map-append row_cards before (row ∷ [])))
      ∙ ap (λ at. batches_after (map row_id (before ++ row ∷ [])) (map row_cards (before ++ row ∷ [])) at rest) (omega (arith, length-append before (row ∷ [])))

  sounder : AreSound before → AreSound (before ++ row ∷ [])
  sounder h =
      let next = one_more (map row_id before) (map row_cards before) own h (is_next (map row_id before) (sum (map row_cards before)) row own accepted) in
      subst (λ ids. AreBatches ids (map row_cards (before ++ row ∷ []))) (sym (map-append row_id before (row ∷ [])))
      (subst (AreBatches (map row_id before ++ row_id row ∷ [])) (sym (map-append row_cards before (row ∷ []))) next)

  behind : (j : ℕ) → (before ++ row ∷ []) ++ take j rest ≡ before ++ row ∷ take j rest
  behind j = append_assoc before (row ∷ []) (take j rest)

  fine-more : AreFine (before ++ row ∷ []) rest → AreFine before (row ∷ rest)
  fine-more f = record {
    none = none;
    sound = subst AreSound (append_assoc before (row ∷ []) rest) f.sound;
    is = steps ∙ f.is ∙ ap (λ rows. at_end (map row_id rows) (map row_cards rows)) (append_assoc before (row ∷ []) rest);
  } where
    none : (j : ℕ) (other : Fields) → slice_get (row ∷ rest) j ≡ Some other → broken_rule (before ++ take j (row ∷ rest)) other ≡ None
    none zero other g =
        let s : row ≡ other = cc in
        ap (λ b. broken_rule b other) (append-nil before) ∙ ap (broken_rule before) (sym s) ∙ e
    none (suc j) other g = ap (λ b. broken_rule b other) (sym (behind j)) ∙ f.none j other g

  broken-more : AreBroken (before ++ row ∷ []) rest → AreBroken before (row ∷ rest)
  broken-more f = record {
    k = suc f.k;
    rule = f.rule;
    row = f.row;
    there = f.there;
    broken = ap (λ b. broken_rule b f.row) (sym (behind f.k)) ∙ f.broken;
    earlier = earlier;
    is = steps ∙ f.is ∙ ap (refused f.rule) (omega (arith, length-append before (row ∷ [])));
  } where
    earlier : (j : ℕ) (other : Fields) → j < suc f.k → slice_get (row ∷ rest) j ≡ Some other → broken_rule (before ++ take j (row ∷ rest)) other ≡ None
    earlier zero other less g =
        let s : row ≡ other = cc in
        ap (λ b. broken_rule b other) (append-nil before) ∙ ap (broken_rule before) (sym s) ∙ e
    earlier (suc j) other less g = ap (λ b. broken_rule b other) (sym (behind j)) ∙ f.earlier j other (omega (arith, less)) g

pub walked : (before rest : List Fields) → AreSound before → AreFine before rest ⊎ AreBroken before rest
walked before [] h = inl (record {
  none = λ j other g. absurd cc;
  sound = subst AreSound (sym (append-nil before)) h;
  is = ap (λ rows. at_end (map row_id rows) (map row_cards rows)) (sym (append-nil before));
})
walked before (row ∷ rest) h = by (broken_rule before row) refl (λ e. walked (before ++ row ∷ []) rest (sounder before row rest e h)) where
  by : (o : Option MRule) → broken_rule before row ≡ o
      → (broken_rule before row ≡ None → AreFine (before ++ row ∷ []) rest ⊎ AreBroken (before ++ row ∷ []) rest)
      → AreFine before (row ∷ rest) ⊎ AreBroken before (row ∷ rest)
  by (Some rule) e more = inr (first-broken before row rest rule e)
  by None e more = elim (more e) [
    | inl f ↦ inl (fine-more before row rest e f)
    | inr f ↦ inr (broken-more before row rest e f)
  ]
