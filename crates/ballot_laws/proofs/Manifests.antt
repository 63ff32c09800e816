-- A manifest that is written is read back.
use Rattle.std.proofs.Common.{◌≡◌, ◌∙◌, ◌∷◌, [], ◌+◌, ◌≤◌, ◌<◌, ◌&&◌, ℕ, zero, suc, true, List, Some, length, get_or, nat_le, decimal, codes, refl, ap, arith, leb-true}
use Rattle.std.specs.List.{list_all, slice_get}
use Rattle.std.proofs.lemmas.Bool.{and_from, and_parts}
use Rattle.std.proofs.lemmas.Fmt.{decimal_nonempty, digits_decimal, digits_value-decimal, length-decimal-le}
use Rattle.csv_rows.specs.Fields.{numbered_records}
use Rattle.csv_rows.specs.Numbers.{number_of}
use Rattle.csv_rows.specs.Rows.{Fields}
use Rattle.csv_rows.proofs.Numbers.{is_number, is_number-from, own}
use Rattle.irv_base.specs.Names.{Id, is_name}
use Rattle.irv_base.specs.declared.limits.TheConstants.{MOST_NUMBER_DIGITS}
use Rattle.manifest.specs.Cards.{AreBatches, Batches, is_batch_id, is_count}
use Rattle.manifest.specs.Manifest.{manifest_in}
use Rattle.manifest.specs.Spelling.{Spells}
use Rattle.manifest.specs.declared.limits.TheConstants.{MOST_BATCH_BYTES, MOST_BATCH_CARDS}
use Rattle.manifest.proofs.Spelled.{first_broken_rule_refuses, records_spell_batches}
use Rattle.ballot_laws.specs.Bytes.{is_plain, is_plain_record}
use Rattle.ballot_laws.specs.Manifests.{BytesSpellBatches, FirstBrokenRuleRefusesManifest, WrittenManifestIsRead, batch_records, manifest_records}
use Rattle.ballot_laws.proofs.Plain.{plain-name, plain-number, some-fields}
use Rattle.ballot_laws.proofs.Written.{written-ascii, written-back}

pub bytes_spell_batches : BytesSpellBatches
bytes_spell_batches bytes batches = records_spell_batches (numbered_records bytes) batches

pub first_broken_rule_refuses_manifest : FirstBrokenRuleRefusesManifest
first_broken_rule_refuses_manifest bytes rule at = first_broken_rule_refuses (numbered_records bytes) rule at

-- ---- the records of batches spell them

few : (n : ℕ) → is_count n ≡ true → n ≤ MOST_BATCH_CARDS
few n h = leb-true n MOST_BATCH_CARDS (and_parts (nat_le 1 n) (nat_le n MOST_BATCH_CARDS) h).1

number-read : (n : ℕ) → n ≤ MOST_BATCH_CARDS → number_of (decimal n) ≡ Some n
number-read n most = rw digits (ap Some (digits_value-decimal own n (omega (arith, most)))) where
  digits : is_number (decimal n) ≡ true
  digits =
      is_number-from (decimal n) (digits_decimal own n (omega (arith, most))) (omega (arith, decimal_nonempty n (omega (arith, most))))
      (omega (arith, length-decimal-le MOST_NUMBER_DIGITS n (omega arith) (omega (arith, most)) (omega (arith, most))))

a-row-each : (ids : List Id) (counts : List ℕ) → length counts ≡ length ids → length (batch_records ids counts) ≡ length ids
a-row-each [] counts h = refl
a-row-each (id ∷ ids) [] h = absurd (omega (arith, h))
a-row-each (id ∷ ids) (n ∷ counts) h = ap suc (a-row-each ids counts (omega (arith, h)))

record IsRow (row : Fields) (rows : List Fields) (i : ℕ) (id : Id) (n : ℕ) : Type 0 where
  there : slice_get (row ∷ rows) (i + 1) ≡ Some (id ∷ decimal n ∷ [])
  number : number_of (decimal n) ≡ Some n

each-row : (row : Fields) (ids : List Id) (counts : List ℕ) (i : ℕ) → length counts ≡ length ids → list_all is_count counts ≡ true → i < length ids
    → IsRow row (batch_records ids counts) i (get_or ids i []) (get_or counts i 0)
each-row row [] counts i l h less = absurd (omega (arith, less))
each-row row (id ∷ ids) [] i l h less = absurd (omega (arith, l))
each-row row (id ∷ ids) (n ∷ counts) zero l h less =
    record { there = refl; number = number-read n (few n (and_parts (is_count n) (list_all is_count counts) h).0) }
each-row row (id ∷ ids) (n ∷ counts) (suc i) l h less =
    let next : suc i + 1 ≡ suc (i + 1) = omega arith in
    let own_row : Fields = id ∷ decimal n ∷ [] in
    let more = each-row own_row ids counts i (omega (arith, l)) (and_parts (is_count n) (list_all is_count counts) h).1 (omega (arith, less)) in
    record { there = ap (slice_get (row ∷ own_row ∷ batch_records ids counts)) next ∙ more.there; number = more.number }

spells : (batches : Batches) → AreBatches batches.ids batches.counts → 1 ≤ length batches.ids → Spells (manifest_records batches) batches
spells batches sound some = record {
  header = refl;
  a_row_each = omega (arith, a-row-each batches.ids batches.counts sound.a_count_each);
  each = λ i less.
      (let row = each-row (codes "batch" ∷ codes "cards" ∷ []) batches.ids batches.counts i sound.a_count_each sound.counted less in
      (decimal (get_or batches.counts i 0), row.there, row.number));
  some = some;
  sound = sound;
}

-- ---- they are plain

plain-batch : (id : Id) (n : ℕ) → is_batch_id id ≡ true → is_count n ≡ true → is_plain_record (id ∷ decimal n ∷ []) ≡ true
plain-batch id n named counted =
    let name = plain-name id (and_parts (is_name id) (nat_le (length id) MOST_BATCH_BYTES) named).0 in
    some-fields id (decimal n) [] (and_from (is_plain id) (is_plain (decimal n) && true) name
    (and_from (is_plain (decimal n)) true (plain-number n (omega (arith, few n counted))) refl))

plain-batches : (ids : List Id) (counts : List ℕ) → list_all is_batch_id ids ≡ true → list_all is_count counts ≡ true →
    list_all is_plain_record (batch_records ids counts) ≡ true
plain-batches [] counts named counted = refl
plain-batches (id ∷ ids) [] named counted = refl
plain-batches (id ∷ ids) (n ∷ counts) named counted =
    let (own_id, more_ids) = and_parts (is_batch_id id) (list_all is_batch_id ids) named in
    let (own_count, more_counts) = and_parts (is_count n) (list_all is_count counts) counted in
    and_from (is_plain_record (id ∷ decimal n ∷ [])) (list_all is_plain_record (batch_records ids counts)) (plain-batch id n own_id own_count)
    (plain-batches ids counts more_ids more_counts)

pub written_manifest_is_read : WrittenManifestIsRead
written_manifest_is_read batches sound some =
    let rows = manifest_records batches in
    let plain : list_all is_plain_record rows ≡ true = plain-batches batches.ids batches.counts sound.named sound.counted in
    (written-ascii rows plain, ap manifest_in (written-back rows plain) ∙ (records_spell_batches rows batches).1 (spells batches sound some))
