-- The entries so far, and the records that are still to be read.
use Rattle.std.proofs.Common.{◌≡◌, ◌∙◌, ℕ, ◌+◌, ◌≤◌, List, [], ◌∷◌, ◌++◌, Ok, Err, map, length, sym, ap, subst, inl, inr, None, arith, length-append}
use Rattle.std.specs.List.{range_with_len}
use Rattle.std.proofs.lemmas.List.{map-append, length-map}
use Rattle.csv_rows.specs.Rows.{Fields}
use Rattle.irv_base.specs.Names.{Id}
use Rattle.irv_base.proofs.Members.{Member, member-append_cases, member_cases, member_nil, range-member}
use Rattle.irv_base.proofs.Distinct.{Distinct, distinct-push, distinct-le, length-range}
use Rattle.manifest.specs.Cards.{Batches, cards_of}
use Rattle.assorters.specs.declared.seen.Seen.{Seen}
use Rattle.seen_file.specs.Seen.{Entry, seen_in}
use Rattle.seen_file.specs.Reading.{entry_of, read_after}
use Rattle.file_fault.specs.Refusals.{and_then}
use Rattle.seen_file.specs.declared.fault.VRule.{VRule}
use Rattle.seen_file.proofs.Cards.{absent}

pub record SeenSoFar (batches : Batches) (candidates : List Id) (rows : List Fields) (entries : List Entry) (at : ℕ) (left : List Fields) : Type 0 where
  pub rest : read_after (entry_of batches candidates) [] 1 rows ≡ read_after (entry_of batches candidates) entries at left
  pub numbered : at ≡ length entries + 1
  pub apart : Distinct (map (λ entry. entry.0) entries)
  pub within : (card : ℕ) → Member card (map (λ entry. entry.0) entries) → (1 ≤ card) × (card ≤ length (cards_of batches))

-- there are at most as many entries as cards
pub few : (batches : Batches) (candidates : List Id) (rows : List Fields) (entries : List Entry) (at : ℕ) (left : List Fields) →
    SeenSoFar batches candidates rows entries at left → length entries ≤ length (cards_of batches)
few batches candidates rows entries at left so_far =
    let cards : List ℕ = range_with_len 1 (length (cards_of batches)) in
    let fewer = distinct-le (map (λ entry. entry.0) entries) cards so_far.apart
    (λ card m. let h = so_far.within card m in range-member card 1 (length (cards_of batches)) h.0 (omega arith)) in
    omega (arith, fewer, length-range 1 (length (cards_of batches)), length-map entries (λ entry. entry.0))

pub goes_on : (batches : Batches) (candidates : List Id) (rows : List Fields) (entries : List Entry) (at : ℕ) (row : Fields) (left : List Fields) (card : ℕ)
    (seen : Seen) →
    SeenSoFar batches candidates rows entries at (row ∷ left) → entry_of batches candidates entries row ≡ Ok (card, seen) → seen_in entries card ≡ None →
    1 ≤ card → card ≤ length (cards_of batches) → SeenSoFar batches candidates rows (entries ++ (card, seen) ∷ []) (at + 1) left
goes_on batches candidates rows entries at row left card seen so_far is new first last =
    let cards = map-append (λ entry. entry.0) entries ((card, seen) ∷ []) in
    record {
      rest = so_far.rest ∙ ap (λ said. and_then at said (λ entry. read_after (entry_of batches candidates) (entries ++ entry ∷ []) (at + 1) left)) is;
      numbered = omega (arith, so_far.numbered, length-append entries ((card, seen) ∷ []));
      apart = subst Distinct (sym cards) (distinct-push (map (λ entry. entry.0) entries) card so_far.apart (absent entries card new));
      within = λ other m. elim (member-append_cases (map (λ entry. entry.0) entries) (card ∷ []) (subst (Member other) cards m)) [
        | inl earlier ↦ so_far.within other earlier
        | inr last-one ↦ elim (member_cases last-one) [ inl e ↦ (omega (arith, e), omega (arith, e)) | inr r ↦ absurd (member_nil r) ]
      ];
    }

pub refused : (batches : Batches) (candidates : List Id) (rows : List Fields) (entries : List Entry) (at : ℕ) (row : Fields) (left : List Fields)
    (rule : VRule) →
    SeenSoFar batches candidates rows entries at (row ∷ left) → entry_of batches candidates entries row ≡ Err rule →
    read_after (entry_of batches candidates) [] 1 rows ≡ Err (record { rule = rule; at = at })
refused batches candidates rows entries at row left rule so_far is =
    so_far.rest ∙ ap (λ said. and_then at said (λ entry. read_after (entry_of batches candidates) (entries ++ entry ∷ []) (at + 1) left)) is
