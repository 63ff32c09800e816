-- Batches that are read record by record.
use Rattle.std.proofs.Common.{◌≡◌, ◌∙◌, ◌++◌, ◌∷◌, [], ◌&&◌, ◌||◌, ◌+◌, ◌≤◌, ℕ, Bool, true, false, not, List, Option, Some, None, Ok, Err, length, nat_le, refl, sym, ap, subst, arith, leb-true, length-append}
use Rattle.std.specs.Prelude.{if◌then◌else◌}
use Rattle.std.specs.List.{list_all, sum}
use Rattle.std.proofs.lemmas.Bool.{and_parts, and_from}
use Rattle.std.proofs.lemmas.List.Folds.{list_all-append}
use Rattle.std.proofs.lemmas.List.Sums.{sum_by_push}
use Rattle.irv_base.specs.Names.{Id, is_among}
use Rattle.ballot_ids.proofs.Differing.{differ-push}
use Rattle.csv_rows.specs.Rows.{Fields}
use Rattle.manifest.proofs.CardAt.{sum-cons}
use Rattle.manifest.specs.Cards.{AreBatches, is_batch_id, is_count}
use Rattle.manifest.specs.Firsts.{firsts_from, IsManifest}
use Rattle.csv_rows.specs.Numbers.{number_of}
use Rattle.manifest.specs.Manifest.{at_end, batch_of, batch_with, batches_after}
use Rattle.file_fault.specs.Refusals.{and_then, refused}
use Rattle.manifest.specs.declared.batch.Batch.{Batch}
use Rattle.manifest.specs.declared.fault.MRule.{MRule}
use Rattle.manifest.specs.declared.fault.MRule.TheVariants.{M6}
use Rattle.manifest.specs.declared.limits.TheConstants.{MOST_BATCH_CARDS}
use Rattle.irv_base.specs.declared.limits.TheConstants.{MOST_CARDS}

-- ---- a batch that is accepted

pub record IsNext (ids : List Id) (others : ℕ) (batch : Batch) : Type 0 where
  pub named : is_batch_id batch.id ≡ true
  pub new : is_among ids batch.id ≡ false
  pub counted : is_count batch.cards ≡ true
  pub most : others + batch.cards ≤ MOST_CARDS

next_with : (ids : List Id) (others : ℕ) (id : Id) (o : Option ℕ) (batch : Batch) → is_batch_id id ≡ true → is_among ids id ≡ false →
    batch_with id others o ≡ Ok batch → IsNext ids others batch
next_with ids others id None batch named new h = absurd cc
next_with ids others id (Some n) batch named new h = by (is_count n) (nat_le (others + n) MOST_CARDS) refl refl h where
  by : (c m : Bool) → is_count n ≡ c → nat_le (others + n) MOST_CARDS ≡ m →
      (if c then (if m then Ok (record { id = id; cards = n }) else Err Rattle.manifest.specs.declared.fault.MRule.TheVariants.M5) else Err
      Rattle.manifest.specs.declared.fault.MRule.TheVariants.M3) ≡ Ok batch
      → IsNext ids others batch
  by true true e f g =
      let s : record { id = id; cards = n } ≡ batch = cc in
      subst (IsNext ids others) s (record { named = named; new = new; counted = e; most = leb-true (others + n) MOST_CARDS f })
  by true false e f g = absurd cc
  by false m e f g = absurd cc

pub is_next : (ids : List Id) (others : ℕ) (row : Fields) (batch : Batch) → batch_of ids others row ≡ Ok batch → IsNext ids others batch
is_next ids others [] batch h = absurd cc
is_next ids others (id ∷ []) batch h = absurd cc
is_next ids others (id ∷ number ∷ []) batch h = by (is_batch_id id) (is_among ids id) refl refl h where
  by : (v a : Bool) → is_batch_id id ≡ v → is_among ids id ≡ a →
      (if not v || a then Err Rattle.manifest.specs.declared.fault.MRule.TheVariants.M4 else batch_with id others (number_of number)) ≡ Ok batch →
      IsNext ids others batch
  by false a e f g = absurd cc
  by true true e f g = absurd cc
  by true false e f g = next_with ids others id (number_of number) batch e f g
is_next ids others (id ∷ number ∷ next ∷ rest) batch h = absurd cc

-- ---- the batches so far

sum-push : (counts : List ℕ) (n : ℕ) → sum (counts ++ n ∷ []) ≡ sum counts + n
sum-push counts n = sum_by_push (λ x. x) counts n

pub none_yet : AreBatches [] []
none_yet = record { a_count_each = refl; named = refl; differ = refl; counted = refl; most = omega arith }

pub one_more : (ids : List Id) (counts : List ℕ) (batch : Batch) → AreBatches ids counts → IsNext ids (sum counts) batch →
    AreBatches (ids ++ batch.id ∷ []) (counts ++ batch.cards ∷ [])
one_more ids counts batch so_far next = record {
  a_count_each = length-append counts (batch.cards ∷ []) ∙ ap (λ n. n + 1) so_far.a_count_each ∙ sym (length-append ids (batch.id ∷ []));
  named = list_all-append is_batch_id ids (batch.id ∷ []) ∙ and_from (list_all is_batch_id ids) (is_batch_id batch.id && true) so_far.named
      (and_from (is_batch_id batch.id) true next.named refl);
  differ = differ-push ids batch.id so_far.differ next.new;
  counted = list_all-append is_count counts (batch.cards ∷ [])
      ∙ and_from (list_all is_count counts) (is_count batch.cards && true) so_far.counted (and_from (is_count batch.cards) true next.counted refl);
  most = omega (arith, sum-push counts batch.cards, next.most);
}

pub firsts-push : (a : ℕ) (counts : List ℕ) (n : ℕ) → firsts_from a (counts ++ n ∷ []) ≡ firsts_from a counts ++ (a + sum counts) ∷ []
firsts-push a [] n = ap (λ k. k ∷ []) (omega arith)
firsts-push a (m ∷ counts) n =
    let e : (a + m) + sum counts ≡ a + sum (m ∷ counts) = omega (arith, sum-cons m counts) in
    ap (λ rest. a ∷ rest) (firsts-push (a + m) counts n ∙ ap (λ k. firsts_from (a + m) counts ++ k ∷ []) e)

pub length-le-sum : (counts : List ℕ) → list_all is_count counts ≡ true → length counts ≤ sum counts
length-le-sum [] h = omega arith
length-le-sum (n ∷ counts) h =
    let (one, all) = and_parts (is_count n) (list_all is_count counts) h in
    omega (arith, leb-true 1 n (and_parts (nat_le 1 n) (nat_le n MOST_BATCH_CARDS) one).0, length-le-sum counts all, sum-cons n counts)

-- the records are these batches, followed by those of the rest
pub record BatchesSoFar (rows : List Fields) (ids : List Id) (counts firsts : List ℕ) (cards : ℕ) (rest : List Fields) : Type 0 where
  pub split : batches_after [] [] 2 rows ≡ batches_after ids counts (2 + length counts) rest
  pub batches : AreBatches ids counts
  pub first_each : firsts ≡ firsts_from 1 counts
  pub all : cards ≡ sum counts

pub begins : (rows : List Fields) → BatchesSoFar rows [] [] [] 0 rows
begins rows = record { split = refl; batches = none_yet; first_each = refl; all = refl }

pub goes_on : (rows : List Fields) (ids : List Id) (counts firsts : List ℕ) (cards : ℕ) (row : Fields) (rest : List Fields) (batch : Batch)
    → BatchesSoFar rows ids counts firsts cards (row ∷ rest) → batch_of ids cards row ≡ Ok batch
    → BatchesSoFar rows (ids ++ batch.id ∷ []) (counts ++ batch.cards ∷ []) (firsts ++ (cards + 1) ∷ []) (cards + batch.cards) rest
goes_on rows ids counts firsts cards row rest batch so_far h =
    let judged : batch_of ids (sum counts) row ≡ Ok batch = ap (λ n. batch_of ids n row) (sym so_far.all) ∙ h in
    let next = is_next ids (sum counts) row batch judged in
    let at : (2 + length counts) + 1 ≡ 2 + length (counts ++ batch.cards ∷ []) = omega (arith, length-append counts (batch.cards ∷ [])) in
    record {
      split = so_far.split
          ∙ ap (λ o. and_then (2 + length counts) o (λ (b : Batch). batches_after (ids ++ b.id ∷ []) (counts ++ b.cards ∷ []) ((2 + length counts) + 1) rest))
          judged
          ∙ ap (λ n. batches_after (ids ++ batch.id ∷ []) (counts ++ batch.cards ∷ []) n rest) at;
      batches = one_more ids counts batch so_far.batches next;
      first_each = ap (λ k. firsts ++ k ∷ []) (omega (arith, so_far.all)) ∙ ap (λ fs. fs ++ (1 + sum counts) ∷ []) so_far.first_each
          ∙ sym (firsts-push 1 counts batch.cards);
      all = omega (arith, so_far.all, sum-push counts batch.cards);
    }

pub stops : (rows : List Fields) (ids : List Id) (counts firsts : List ℕ) (cards : ℕ) (row : Fields) (rest : List Fields) (rule : MRule)
    → BatchesSoFar rows ids counts firsts cards (row ∷ rest) → batch_of ids cards row ≡ Err rule → batches_after [] [] 2 rows ≡ refused rule (2 + length counts)
stops rows ids counts firsts cards row rest rule so_far h =
    let judged : batch_of ids (sum counts) row ≡ Err rule = ap (λ n. batch_of ids n row) (sym so_far.all) ∙ h in
    so_far.split ∙ ap (λ o. and_then (2 + length counts) o (λ (b : Batch). batches_after (ids ++ b.id ∷ []) (counts ++ b.cards ∷ []) ((2 + length counts) + 1)
    rest)) judged

end_none : (ids : List Id) (counts : List ℕ) → length ids ≡ 0 → at_end ids counts ≡ refused M6 1
end_none [] counts h = refl
end_none (id ∷ ids) counts h = absurd (omega (arith, h))

end_some : (ids : List Id) (counts : List ℕ) → 1 ≤ length ids → at_end ids counts ≡ Ok (record { ids = ids; counts = counts })
end_some [] counts h = absurd (omega (arith, h))
end_some (id ∷ ids) counts h = refl

pub ends : (rows : List Fields) (ids : List Id) (counts firsts : List ℕ) (cards : ℕ) → BatchesSoFar rows ids counts firsts cards [] → 1 ≤ length counts
    → (batches_after [] [] 2 rows ≡ Ok (record { ids = ids; counts = counts })) × IsManifest ids counts firsts cards
ends rows ids counts firsts cards so_far h =
    let some : 1 ≤ length ids = omega (arith, so_far.batches.a_count_each, h) in
    (so_far.split ∙ end_some ids counts some, record { batches = so_far.batches; first_each = so_far.first_each; all = so_far.all; some = some })
