-- What a seen file says, or the first rule that it breaks and the record that breaks it.
use Rattle.std.specs.Prelude.{ℕ, ◌+◌, Bool, not, ◌&&◌, ◌||◌, if◌then◌else◌, List, [], ◌∷◌, ◌++◌, Option, Some, None, is_some, option_map, Result, Ok, Err, codes}
use Rattle.std.specs.List.{list_any}
use Rattle.csv_rows.specs.Fields.{numbered_records}
use Rattle.csv_rows.specs.Rows.{Fields}
use Rattle.file_fault.specs.Refusals.{Refusal, and_then}
use Rattle.irv_base.specs.Names.{Id, is_same}
use Rattle.ballots.specs.Grammar.{is_marked, ranking_of}
use Rattle.manifest.specs.Cards.{Batches, cards_of, place_of}
use Rattle.assorters.specs.declared.seen.Seen.{Seen}
use Rattle.assorters.specs.declared.seen.Seen.TheVariants.{Found, Missing}
use Rattle.seen_file.specs.Seen.{Entry, seen_in}
use Rattle.seen_file.specs.declared.fault.VRule.{VRule}
use Rattle.seen_file.specs.declared.fault.VRule.TheVariants.{V1, V2, V3, V5}

-- ---- a record: the id of a card, `ballot` and preferences, or `missing`

abbrev pub is_missing : Id → Bool
is_missing word = is_same word (codes "missing")

-- the word is one of the two, and only blank fields come after `missing`
abbrev pub is_told : Id → Fields → Bool
is_told word rest =
    is_same word (codes "ballot") || (is_missing word && not (list_any is_marked rest))

-- what the record says about the card, if each preference is one of the candidates
abbrev pub seen_of_record : List Id → Id → Fields → Option Seen
seen_of_record candidates word rest =
    if is_missing word then Some Missing else option_map Found (ranking_of candidates rest)

abbrev pub entry_with : ℕ → Option Seen → Result Entry VRule
entry_with card None = Err V5
entry_with card (Some seen) = Ok (card, seen)

-- the number of its card, or the rule that it breaks up to there
abbrev pub placed : Option ℕ → Result ℕ VRule
placed None = Err V2
placed (Some card) = Ok card

abbrev pub card_of : Batches → Id → Id → Fields → Result ℕ VRule
card_of batches id word rest =
    if is_told word rest then placed (place_of (cards_of batches) id) else Err V1

-- what it says about that card, after these entries
abbrev pub entry_of_card : List Id → List Entry → Id → Fields → ℕ → Result Entry VRule
entry_of_card candidates earlier word rest card =
    if is_some (seen_in earlier card) then Err V3
    else entry_with card (seen_of_record candidates word rest)

abbrev pub with_card : {A : Type 0} → Result ℕ VRule → (ℕ → Result A VRule) → Result A VRule
with_card (Ok card) more = more card
with_card (Err rule) more = Err rule

-- the entry of a record, or the first rule that the record breaks
abbrev pub entry_of : Batches → List Id → List Entry → Fields → Result Entry VRule
entry_of batches candidates earlier [] = Err V1
entry_of batches candidates earlier (id ∷ []) = Err V1
entry_of batches candidates earlier (id ∷ word ∷ rest) =
    with_card (card_of batches id word rest) (entry_of_card candidates earlier word rest)

-- ---- the file

-- these entries are followed by the records from number at on, each judged after those before it
abbrev pub read_after : {A : Type 0} → (List A → Fields → Result A VRule) → List A → ℕ →
    List Fields → Result (List A) (Refusal VRule)
read_after judged earlier at [] = Ok earlier
read_after judged earlier at (row ∷ rows) =
    and_then at (judged earlier row)
    (λ entry. read_after judged (earlier ++ entry ∷ []) (at + 1) rows)

-- what these records say is seen
abbrev pub seen_by_records : Batches → List Id → List Fields → Result (List Entry) (Refusal VRule)
seen_by_records batches candidates rows = read_after (entry_of batches candidates) [] 1 rows

abbrev pub seen_of : Batches → List Id → List ℕ → Result (List Entry) (Refusal VRule)
seen_of batches candidates bytes = seen_by_records batches candidates (numbered_records bytes)
