-- The block of a contest among others is the same as its block by itself.
use Rattle.std.proofs.Common.{◌≡◌, ◌∙◌, ◌&&◌, ◌++◌, ◌∷◌, [], ℕ, zero, suc, Bool, true, false, cond, List, All, Option, Some, None, Result, Ok, Err, append-nil, refl, sym, ap, subst}
use Rattle.std.specs.List.{slice_get}
use Rattle.std.proofs.lemmas.List.Elements.{All-head}
use Rattle.csv_rows.specs.Fields.{numbered_records}
use Rattle.csv_rows.specs.Rows.{Fields}
use Rattle.desk.specs.Desk.{File}
use Rattle.irv_base.specs.Names.{Id, is_same}
use Rattle.ballots.specs.Ballots.{BallotFile}
use Rattle.ballots.specs.Grammar.{contests_from}
use Rattle.manifest.specs.Cards.{Batches}
use Rattle.manifest.specs.Manifest.{manifest_of}
use Rattle.seen_file.specs.Reading.{card_of, read_after, with_card}
use Rattle.file_fault.specs.Refusals.{Refusal}
use Rattle.seen_file.specs.Seen.{Entry}
use Rattle.seen_file.specs.declared.fault.VRule.{VRule}
use Rattle.contest_set.specs.Ends.{AreEnds, EndsAs}
use Rattle.contest_set.specs.Laws.{records_about}
use Rattle.contest_set.specs.SeenBy.{ContestEntry, contest_entry_of, entry_for, for_each_contest, seen_by_rows}
use Rattle.contest_set.specs.declared.end.ContestEnd.{ContestEnd}
use Rattle.contest_set.specs.declared.end.ContestEnd.TheVariants.{Tied, Spent, Audited}
use Rattle.contest_set.specs.declared.terms.SharedTerms.{SharedTerms}
use Rattle.contest_set.proofs.EndsEach.{one_end}
use Rattle.contest_set.proofs.SeenEach.{seen_alone}
use Rattle.command.specs.declared.contests.ContestsTask.{ContestsTask}
use Rattle.contests_command.specs.Alone.{alone}
use Rattle.contests_command.specs.Contests.{AreContests, IsUnspent, terms_of}
use Rattle.contests_command.specs.Table.{all_signed, block, blocks, contests_table, is_signed, last_line}
use Rattle.contests_command.proofs.Alone.{said_alone}
use Rattle.contests_command.proofs.Moved.{ends_moved, moved}
use Rattle.contests_command.proofs.OneEnd.{same_block, tell_same}
use Rattle.contests_command.proofs.Read.{contests_are}
use Rattle.raire_cli.specs.Contests.{AuditsContests, blocks_of}
use Rattle.call_laws.specs.ContestsAlone.{AreAlone, BlockAlone, HaveSameTerms}
use Rattle.raire_cli.proofs.Said.{only}

-- ---- what is seen for a contest doesn't depend on where its ballots are

module _ (ballots : BallotFile) (places : List ℕ) (batches : Batches) where
  entry-moved : (earlier : List ContestEntry) (word : Id) (rest : Fields) (card : ℕ) (b : Bool) →
      entry_for earlier word rest card (cond b (Some (moved ballots places)) None) ≡ entry_for earlier word rest card (cond b (Some ballots) None)
  entry-moved earlier word rest card true = refl
  entry-moved earlier word rest card false = refl

  row-moved : (earlier : List ContestEntry) (row : Fields) →
      contest_entry_of batches (moved ballots places ∷ []) earlier row ≡ contest_entry_of batches (ballots ∷ []) earlier row
  row-moved earlier [] = refl
  row-moved earlier (id ∷ []) = refl
  row-moved earlier (id ∷ contest ∷ []) = refl
  row-moved earlier (id ∷ contest ∷ word ∷ rest) =
      ap (with_card (card_of batches id word rest)) (λ i card. entry-moved earlier word rest card (is_same ballots.contest contest) i)

  each-moved : (read : Result (List ContestEntry) (Refusal VRule)) → for_each_contest (moved ballots places ∷ []) read ≡ for_each_contest (ballots ∷ []) read
  each-moved (Ok entries) = refl
  each-moved (Err refusal) = refl

  seen-moved : (rows : List Fields) → seen_by_rows batches (moved ballots places ∷ []) rows ≡ seen_by_rows batches (ballots ∷ []) rows
  seen-moved rows =
      (λ i. for_each_contest (moved ballots places ∷ []) (read_after (λ earlier row. row-moved earlier row i) [] 1 rows))
      ∙ each-moved (read_after (contest_entry_of batches (ballots ∷ [])) [] 1 rows)

-- ---- what is printed about a contest doesn't either

block-moved : (limit : ℕ) (ballots : BallotFile) (places : List ℕ) (end : ContestEnd) → block limit (moved ballots places) end ≡ block limit ballots end
block-moved limit ballots places (Tied round tied tally) = refl
block-moved limit ballots places (Spent last order margin) = refl
block-moved limit ballots places (Audited file counts risks signed) = refl

and-true : (b : Bool) → (b && true) ≡ b
and-true true = refl
and-true false = refl

-- the table of one contest
one-block : (limit : ℕ) (ballots : BallotFile) (end : ContestEnd) →
    contests_table limit (ballots ∷ []) (end ∷ []) ≡ block limit ballots end ++ last_line (is_signed end)
one-block limit ballots end = λ i. append-nil (block limit ballots end) i ++ last_line (and-true (is_signed end) i)

-- ---- its end

pub end-of : (batches : Batches) (terms : SharedTerms) (list : List BallotFile) (seen : List (List Entry)) (ends : List ContestEnd) (place : ℕ)
    (ballots : BallotFile) (end : ContestEnd) → AreEnds batches terms list seen ends → slice_get list place ≡ Some ballots → slice_get ends place ≡ Some end →
    (entries : List Entry) × (slice_get seen place ≡ Some entries) × EndsAs batches terms ballots entries end
end-of batches terms [] seen ends place ballots end are g h = absurd (cc g)
end-of batches terms (b ∷ list) [] [] place ballots end are g h = absurd (cc h)
end-of batches terms (b ∷ list) [] (e ∷ ends) place ballots end are g h = absurd are
end-of batches terms (b ∷ list) (s ∷ seen) [] place ballots end are g h = absurd are
end-of batches terms (b ∷ list) (s ∷ seen) (e ∷ ends) zero ballots end are g h =
    let of-b : b ≡ ballots = cc g in
    let of-e : e ≡ end = cc h in
    (s, refl, subst (λ x. EndsAs batches terms x s end) of-b (subst (EndsAs batches terms b s) of-e are.0))
end-of batches terms (b ∷ list) (s ∷ seen) (e ∷ ends) (suc place) ballots end are g h = end-of batches terms list seen ends place ballots end are.1 g h

only-end : (batches : Batches) (terms : SharedTerms) (ballots : BallotFile) (entries : List Entry) (ends : List ContestEnd) →
    AreEnds batches terms (ballots ∷ []) (entries ∷ []) ends → (end : ContestEnd) × (ends ≡ end ∷ []) × EndsAs batches terms ballots entries end
only-end batches terms ballots entries [] are = absurd are
only-end batches terms ballots entries (end ∷ []) are = (end, refl, are.0)
only-end batches terms ballots entries (end ∷ other ∷ ends) are = absurd are.1

same-terms : (task other : ContestsTask) → HaveSameTerms task other → terms_of other ≡ record (terms_of task) { workers = other.workers }
same-terms task other same = λ i. record {
  seed = same.seed i;
  draws = same.draws i;
  limit = same.limit i;
  gamma = same.gamma i;
  workers = other.workers;
  nodes = same.nodes i;
}

pub block_alone : BlockAlone
block_alone words others files more audit single place ballots end listed ended terms alone-there unspent unspent' =
    let task = audit.asks.task in
    let batches = audit.inputs.batches in
    let workers = single.asks.task.workers in
    let rows = numbered_records audit.bytes.cards.ballots in
    let seen-rows = numbered_records audit.bytes.seen in
    let (places, said) = said_alone rows audit.inputs.list place ballots audit.say.ballots listed in
    let there : BallotFile = moved ballots places in
    let list : single.inputs.list ≡ there ∷ [] = only single.say.ballots (ap contests_from alone-there.ballots ∙ said) in
    let cards : single.inputs.batches ≡ batches = only single.say.manifest (ap manifest_of alone-there.manifest ∙ audit.say.manifest) in
    let (entries, seen-at, is) = end-of batches (terms_of task) audit.inputs.list audit.inputs.seen audit.ends place ballots end audit.are listed ended in
    let differ = (contests_are audit.bytes.cards.ballots audit.inputs.list audit.say.ballots).differ in
    let by-itself = seen_alone batches audit.inputs.list seen-rows audit.inputs.seen place ballots entries differ audit.say.seen listed seen-at in
    let seen : single.inputs.seen ≡ entries ∷ [] = only single.say.seen
    ((λ i. seen_by_rows (cards i) (list i) (alone-there.seen i)) ∙ seen-moved ballots places batches (records_about ballots.contest seen-rows) ∙ by-itself) in
    let are : AreEnds batches (record (terms_of task) { workers = workers }) (there ∷ []) (entries ∷ []) single.ends =
    subst (λ (s : List (List Entry)). AreEnds batches (record (terms_of task) { workers = workers }) (there ∷ []) s single.ends) seen
    (subst (λ (l : List BallotFile). AreEnds batches (record (terms_of task) { workers = workers }) l single.inputs.seen single.ends) list
    (subst (λ (t : SharedTerms). AreEnds batches t single.inputs.list single.inputs.seen single.ends) (same-terms task single.asks.task terms)
    (subst (λ (b : Batches). AreEnds b (terms_of single.asks.task) single.inputs.list single.inputs.seen single.ends) cards single.are))) in
    let (last, only-one, its) = only-end batches (record (terms_of task) { workers = workers }) there entries single.ends are in
    let own = ends_moved ballots places batches (terms_of task) workers entries last its in
    let same = one_end batches (terms_of task) ballots entries last end own is in
    let told = tell_same task.limit ballots last end same (All-head IsUnspent last [] (subst (All IsUnspent) only-one unspent')) unspent in
    (λ i. contests_table (terms.limit i) (list i) (only-one i)) ∙ one-block task.limit there last
    ∙ (λ i. (block-moved task.limit ballots places last ∙ same_block task.limit ballots last end told) i ++ last_line (told.signed i))
