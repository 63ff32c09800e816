-- Why the contests of a file aren't audited.
use Rattle.std.specs.Prelude.{◌≡◌, ◌<◌, ℕ, List, [], ◌∷◌, length, slice_get, slice_index_or, take, Option, Some, None, Result, Ok, Err, ⊤}
use Rattle.std.specs.Option.{option_or}
use Rattle.ballots.specs.Ballots.{BallotFile}
use Rattle.assertion_file.specs.Content.{Content}
use Rattle.manifest.specs.Cards.{Batches}
use Rattle.manifest.specs.Linked.{first_without_card, linked_of}
use Rattle.manifest.specs.declared.link_fault.LinkFault.{LinkFault}
use Rattle.manifest.specs.declared.link_fault.LinkFault.TheVariants.{NoCard as NoCardOf, Memory as MemoryOf}
use Rattle.seen_file.specs.Seen.{Entry}
use Rattle.audit_session.specs.Refusals.{without_record}
use Rattle.audit_session.specs.declared.fault.AdvanceFault.TheVariants.{NoRecord as NoRecordOf}
use Rattle.contest_search.specs.declared.found.Found.TheVariants.{Certificate}
use Rattle.contest_set.specs.Ends.{AreEnds, EndsAs, Finds}
use Rattle.contest_set.specs.declared.end.ContestEnd.{ContestEnd}
use Rattle.contest_set.specs.declared.fault.SetFault.{SetFault}
use Rattle.contest_set.specs.declared.fault.SetFault.TheVariants.{NoCard, NoRecord, Memory}
use Rattle.contest_set.specs.declared.terms.SharedTerms.{SharedTerms}

-- ---- ballots without a card

-- the number of the record of the first ballot without a card, of the first contest that has one
abbrev pub first_without_card_of_all : Batches → List BallotFile → Option ℕ
first_without_card_of_all batches [] = None
first_without_card_of_all batches (ballots ∷ list) =
    option_or (first_without_card batches ballots) (first_without_card_of_all batches list)

abbrev pub as_set_fault : LinkFault → SetFault
as_set_fault (NoCardOf at) = NoCard at
as_set_fault MemoryOf = Memory

-- a ballot has no card, or memory runs out
abbrev pub LacksCard : Option ℕ → SetFault → Type 0
LacksCard first (NoCard at) = first ≡ Some at
LacksCard first (NoRecord contest card k) = ⊥
LacksCard first Memory = ⊤

-- ---- a drawn card without a record

module _ (batches : Batches) (terms : SharedTerms) (ballots : BallotFile)
    (seen : List Entry) where
  -- the contest has a winner, and these are the first draw without a record and its card
  pub record LacksRecord (card k : ℕ) : Type 0 where
    pub file : Content
    pub found : Finds terms ballots (Certificate file)
    pub first : without_record terms.seed (length (linked_of batches ballots)) seen terms.draws
        ≡ Some (NoRecordOf card k)

  -- the contest at this place isn't audited for this reason
  abbrev pub IsOneFault : ℕ → SetFault → Type 0
  IsOneFault place (NoCard at) = ⊥
  IsOneFault place (NoRecord contest card k) = (contest ≡ place) × LacksRecord card k
  IsOneFault place Memory = ⊤

  abbrev pub IsOne : ℕ → Result ContestEnd SetFault → Type 0
  IsOne place (Ok end) = EndsAs batches terms ballots seen end
  IsOne place (Err fault) = IsOneFault place fault

-- ---- all contests

module _ (batches : Batches) (terms : SharedTerms) (list : List BallotFile)
    (seen : List (List Entry)) where
  -- the contest at this place lacks a record, and those before it have their ends
  pub record FirstLacksRecord (contest card k : ℕ) : Type 0 where
    pub ballots : BallotFile
    pub listed : slice_get list contest ≡ Some ballots
    pub entries : List Entry
    pub seen_for_it : slice_get seen contest ≡ Some entries
    pub lacks : LacksRecord batches terms ballots entries card k
    pub earlier : List ContestEnd
    pub ends : AreEnds batches terms (take contest list) (take contest seen) earlier

  -- the contests aren't audited for this reason; memory may always run out
  abbrev pub IsSetFault : SetFault → Type 0
  IsSetFault (NoCard at) = first_without_card_of_all batches list ≡ Some at
  IsSetFault (NoRecord contest card k) =
      (first_without_card_of_all batches list ≡ None) × FirstLacksRecord contest card k
  IsSetFault Memory = ⊤

  -- ---- on the way, if each ballot has a card

  -- for the contest at this place
  abbrev pub HasResult : ℕ → Result ContestEnd SetFault → Type 0
  HasResult place result =
      (ballots : BallotFile) (entries : List Entry) → slice_get list place ≡ Some ballots →
      slice_get seen place ≡ Some entries → IsOne batches terms ballots entries place result

  abbrev pub AreResults : List (Result ContestEnd SetFault) → Type 0
  AreResults results =
      (i : ℕ) (d : Result ContestEnd SetFault) → i < length results →
      HasResult i (slice_index_or results i d)

  -- if no ballot lacks a card
  abbrev pub IsJoinFault : SetFault → Type 0
  IsJoinFault (NoCard at) = ⊥
  IsJoinFault (NoRecord contest card k) = FirstLacksRecord contest card k
  IsJoinFault Memory = ⊤
