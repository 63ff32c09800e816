-- What is seen for each contest is what its own records say.
use Rattle.std.proofs.Common.{◌≡◌, ◌∙◌, ℕ, suc, ◌+◌, ◌++◌, ◌∷◌, [], Bool, true, false, cond, List, Option, Some, None, Result, Ok, Err, map, refl, sym, ap, subst}
use Rattle.std.specs.List.{slice_get}
use Rattle.csv_rows.specs.Rows.{Fields}
use Rattle.irv_base.specs.Names.{Id, is_same}
use Rattle.irv_base.proofs.Members.{from_find}
use Rattle.ballots.specs.Ballots.{BallotFile}
use Rattle.ballot_reader.proofs.Adding.{same-comm, same-refl}
use Rattle.manifest.proofs.Numbers.{same-equal}
use Rattle.manifest.specs.Cards.{Batches}
use Rattle.seen_file.specs.Reading.{card_of, entry_of, entry_of_card, read_after, seen_by_records, with_card}
use Rattle.file_fault.specs.Refusals.{and_then, Refusal}
use Rattle.seen_file.specs.Seen.{Entry}
use Rattle.seen_file.specs.declared.fault.VRule.{VRule}
use Rattle.contest_set.specs.Laws.{SeenAlone, SeenIsEach, is_about, records_about, without_contest}
use Rattle.contest_set.specs.SeenBy.{ContestEntry, contest_entry_of, ballots_for, entries_for, entry_for, for_contest, for_each_contest, seen_for_each}
use Rattle.contest_set.proofs.Named.{named-itself}
use Rattle.contest_set.proofs.Entries.{entries-other, entries-own, seen-at}

then-ok : {A B : Type 0} (r : Result A VRule) (at : ℕ) (more : A → Result B (Refusal VRule)) (v : B) → and_then at r more ≡ Ok v →
    (x : A) × (r ≡ Ok x) × (more x ≡ Ok v)
then-ok (Ok x) at more v e = (x, refl, e)
then-ok (Err rule) at more v e = absurd cc

-- ---- a record that is read

record IsRead (batches : Batches) (list : List BallotFile) (earlier : List ContestEntry) (row : Fields) (one : ContestEntry) : Type 0 where
  pub id : Id
  pub contest : Id
  pub word : Id
  pub rest : Fields
  pub card : ℕ
  pub ballots : BallotFile
  pub row_is : row ≡ id ∷ contest ∷ word ∷ rest
  pub card_is : card_of batches id word rest ≡ Ok card
  pub named : ballots_for list contest ≡ Some ballots
  pub entry_is : entry_of_card ballots.candidates (entries_for ballots.contest earlier) word rest card ≡ Ok one.entry
  pub about : one.contest ≡ ballots.contest

is-read : (batches : Batches) (list : List BallotFile) (earlier : List ContestEntry) (row : Fields) (one : ContestEntry) →
    contest_entry_of batches list earlier row ≡ Ok one → IsRead batches list earlier row one
is-read batches list earlier [] one h = absurd cc
is-read batches list earlier (id ∷ []) one h = absurd cc
is-read batches list earlier (id ∷ contest ∷ []) one h = absurd cc
is-read batches list earlier (id ∷ contest ∷ word ∷ rest) one h = by (card_of batches id word rest) refl h where
  last : (card : ℕ) → card_of batches id word rest ≡ Ok card → (ballots : BallotFile) → ballots_for list contest ≡ Some ballots →
      (r : Result Entry VRule) → entry_of_card ballots.candidates (entries_for ballots.contest earlier) word rest card ≡ r →
      for_contest ballots.contest r ≡ Ok one → IsRead batches list earlier (id ∷ contest ∷ word ∷ rest) one
  last card e ballots n (Err rule) p h = absurd cc
  last card e ballots n (Ok entry) p h =
      let s : record { contest = ballots.contest; entry = entry } ≡ one = cc in
      record {
        id = id;
        contest = contest;
        word = word;
        rest = rest;
        card = card;
        ballots = ballots;
        row_is = refl;
        card_is = e;
        named = n;
        entry_is = p ∙ ap (λ (x : ContestEntry). Ok x.entry) s;
        about = sym (ap (λ (x : ContestEntry). x.contest) s);
      }

  found : (card : ℕ) → card_of batches id word rest ≡ Ok card → (o : Option BallotFile) → ballots_for list contest ≡ o →
      entry_for earlier word rest card o ≡ Ok one → IsRead batches list earlier (id ∷ contest ∷ word ∷ rest) one
  found card e None n h = absurd cc
  found card e (Some ballots) n h =
      last card e ballots n (entry_of_card ballots.candidates (entries_for ballots.contest earlier) word rest card) refl h

  by : (r : Result ℕ VRule) → card_of batches id word rest ≡ r →
      with_card r (λ card. entry_for earlier word rest card (ballots_for list contest)) ≡ Ok one →
      IsRead batches list earlier (id ∷ contest ∷ word ∷ rest) one
  by (Err rule) e h = absurd cc
  by (Ok card) e h = found card e (ballots_for list contest) refl h

has-id : (list : List BallotFile) (id : Id) (ballots : BallotFile) → ballots_for list id ≡ Some ballots → ballots.contest ≡ id
has-id list id ballots h = same-equal ballots.contest id (from_find (λ (b : BallotFile). is_same b.contest id) ballots list h).1

module _ (batches : Batches) (list : List BallotFile) (b : BallotFile) (itself : ballots_for list b.contest ≡ Some b) where
  -- a record about the contest
  own-row : (earlier : List ContestEntry) (row : Fields) (one : ContestEntry) → IsRead batches list earlier row one → is_about b.contest row ≡ true →
      (one.contest ≡ b.contest)
      × ((mine : List ContestEntry) → entries_for b.contest mine ≡ entries_for b.contest earlier →
      (entry_of batches b.candidates (entries_for b.contest mine) (without_contest row) ≡ Ok one.entry)
      × (contest_entry_of batches (b ∷ []) mine row ≡ Ok one))
  own-row earlier row one is t =
      let of : is.contest ≡ b.contest = same-equal is.contest b.contest (sym (ap (is_about b.contest) is.row_is) ∙ t) in
      let both : Some is.ballots ≡ Some b = sym is.named ∙ ap (ballots_for list) of ∙ itself in
      let s : is.ballots ≡ b = cc in
      let about : one.contest ≡ b.contest = is.about ∙ ap (λ (x : BallotFile). x.contest) s in (
        about,
        λ mine same.
            let entry : entry_of_card b.candidates (entries_for b.contest mine) is.word is.rest is.card ≡ Ok one.entry =
            ap (λ entries. entry_of_card b.candidates entries is.word is.rest is.card) same
            ∙ subst (λ (x : BallotFile). entry_of_card x.candidates (entries_for x.contest earlier) is.word is.rest is.card ≡ Ok one.entry) s is.entry_is in
            let again : ballots_for (b ∷ []) is.contest ≡ Some b =
            ap (λ t. cond t (Some b) None) (same-comm b.contest is.contest ∙ sym (ap (is_about b.contest) is.row_is) ∙ t) in
            let whole : record { contest = b.contest; entry = one.entry } ≡ one = λ i. record { contest = (sym about) i; entry = one.entry } in (
              ap (λ r. entry_of batches b.candidates (entries_for b.contest mine) (without_contest r)) is.row_is
                  ∙ ap (λ r. with_card r (entry_of_card b.candidates (entries_for b.contest mine) is.word is.rest)) is.card_is ∙ entry,
              ap (contest_entry_of batches (b ∷ []) mine) is.row_is
                  ∙ ap (λ r. with_card r (λ card. entry_for mine is.word is.rest card (ballots_for (b ∷ []) is.contest))) is.card_is
                  ∙ ap (entry_for mine is.word is.rest is.card) again ∙ ap (for_contest b.contest) entry ∙ ap Ok whole,
            ),
      )

  -- a record about another contest
  other-row : (earlier : List ContestEntry) (row : Fields) (one : ContestEntry) → IsRead batches list earlier row one → is_about b.contest row ≡ false →
      is_same one.contest b.contest ≡ false
  other-row earlier row one is f =
      ap (λ id. is_same id b.contest) (is.about ∙ has-id list is.contest is.ballots is.named) ∙ sym (ap (is_about b.contest) is.row_is) ∙ f

  own : (rows : List Fields) (earlier : List ContestEntry) (at own_at : ℕ) (all : List ContestEntry) →
      read_after (contest_entry_of batches list) earlier at rows ≡ Ok all →
      read_after (entry_of batches b.candidates) (entries_for b.contest earlier) own_at (map without_contest (records_about b.contest rows))
      ≡ Ok (entries_for b.contest all)
  own [] earlier at own_at all e = let s : earlier ≡ all = cc in ap (λ x. Ok (entries_for b.contest x)) s
  own (row ∷ rows) earlier at own_at all e =
      let (one, judged, rest) = then-ok (contest_entry_of batches list earlier row) at _ all e in
      by one (is-read batches list earlier row one judged) (is_about b.contest row) refl
      (λ next. own rows (earlier ++ one ∷ []) (at + 1) next all rest)
    where
      left : List Fields
      left = map without_contest (records_about b.contest rows)

      by : (one : ContestEntry) → IsRead batches list earlier row one → (t : Bool) → is_about b.contest row ≡ t →
          ((next : ℕ) → read_after (entry_of batches b.candidates) (entries_for b.contest (earlier ++ one ∷ [])) next left ≡ Ok (entries_for b.contest all)) →
          read_after (entry_of batches b.candidates) (entries_for b.contest earlier) own_at
          (map without_contest (cond (is_about b.contest row) (row ∷ records_about b.contest rows) (records_about b.contest rows)))
          ≡ Ok (entries_for b.contest all)
      by one is true t more =
          let (about, same) = own-row earlier row one is t in
          let (entry, alone) = same earlier refl in
          ap (λ t. read_after (entry_of batches b.candidates) (entries_for b.contest earlier) own_at
          (map without_contest (cond t (row ∷ records_about b.contest rows) (records_about b.contest rows)))) t
          ∙ ap (λ r. and_then own_at r (λ entry. read_after (entry_of batches b.candidates) (entries_for b.contest earlier ++ entry ∷ []) (own_at + 1) left)) entry
          ∙ ap (λ entries. read_after (entry_of batches b.candidates) entries (own_at + 1) left)
          (sym (entries-own b.contest earlier one (ap (λ id. is_same id b.contest) about ∙ same-refl b.contest)))
          ∙ more (own_at + 1)
      by one is false f more =
          ap (λ t. read_after (entry_of batches b.candidates) (entries_for b.contest earlier) own_at
          (map without_contest (cond t (row ∷ records_about b.contest rows) (records_about b.contest rows)))) f
          ∙ ap (λ entries. read_after (entry_of batches b.candidates) entries own_at left)
          (sym (entries-other b.contest earlier one (other-row earlier row one is f)))
          ∙ more own_at

  -- what is read of the records about it, without the other contests
  record IsReadAlone (mine : List ContestEntry) (at : ℕ) (rows : List Fields) (all : List ContestEntry) : Type 0 where
    pub last : List ContestEntry
    pub read : read_after (contest_entry_of batches (b ∷ [])) mine at (records_about b.contest rows) ≡ Ok last
    pub same : entries_for b.contest last ≡ entries_for b.contest all

  alone : (rows : List Fields) (earlier mine : List ContestEntry) (at own_at : ℕ) (all : List ContestEntry) →
      read_after (contest_entry_of batches list) earlier at rows ≡ Ok all → entries_for b.contest mine ≡ entries_for b.contest earlier →
      IsReadAlone mine own_at rows all
  alone [] earlier mine at own_at all e same = let s : earlier ≡ all = cc in record { last = mine; read = refl; same = same ∙ ap (entries_for b.contest) s }
  alone (row ∷ rows) earlier mine at own_at all e same =
      let (one, judged, rest) = then-ok (contest_entry_of batches list earlier row) at _ all e in
      by one (is-read batches list earlier row one judged) (is_about b.contest row) refl
      (λ more next h. alone rows (earlier ++ one ∷ []) more (at + 1) next all rest h)
    where
      by : (one : ContestEntry) → IsRead batches list earlier row one → (t : Bool) → is_about b.contest row ≡ t →
          ((more : List ContestEntry) (next : ℕ) → entries_for b.contest more ≡ entries_for b.contest (earlier ++ one ∷ []) → IsReadAlone more next rows all) →
          IsReadAlone mine own_at (row ∷ rows) all
      by one is true t more =
          let (about, holds) = own-row earlier row one is t in
          let own_id : is_same one.contest b.contest ≡ true = ap (λ id. is_same id b.contest) about ∙ same-refl b.contest in
          let next = more (mine ++ one ∷ []) (own_at + 1)
          (entries-own b.contest mine one own_id ∙ ap (λ (entries : List Entry). entries ++ one.entry ∷ []) same
          ∙ sym (entries-own b.contest earlier one own_id)) in
          record {
            last = next.last;
            read = ap (λ t. read_after (contest_entry_of batches (b ∷ [])) mine own_at (cond t (row ∷ records_about b.contest rows) (records_about b.contest rows))) t
                ∙ ap (λ r. and_then own_at r (λ entry. read_after (contest_entry_of batches (b ∷ [])) (mine ++ entry ∷ []) (own_at + 1)
                (records_about b.contest rows))) (holds mine same).1
                ∙ next.read;
            same = next.same;
          }
      by one is false f more =
          let next = more mine own_at (same ∙ sym (entries-other b.contest earlier one (other-row earlier row one is f))) in
          record {
            last = next.last;
            read = ap (λ t. read_after (contest_entry_of batches (b ∷ [])) mine own_at (cond t (row ∷ records_about b.contest rows) (records_about b.contest rows))) f
                ∙ next.read;
            same = next.same;
          }

-- ---- the laws

each-read : (list : List BallotFile) (r : Result (List ContestEntry) (Refusal VRule)) (each : List (List Entry)) → for_each_contest list r ≡ Ok each →
    (all : List ContestEntry) × (r ≡ Ok all) × (seen_for_each list all ≡ each)
each-read list (Ok all) each e = (all, refl, cc)
each-read list (Err refusal) each e = absurd cc

pub seen_is_each : SeenIsEach
seen_is_each batches list rows each differ e =
    let (all, read, same) = each-read list (read_after (contest_entry_of batches list) [] 1 rows) each e in
    go list (λ k b at. named-itself list k b differ at) all read ∙ ap (map Ok) same
  where
    go : (some : List BallotFile) → ((k : ℕ) (b : BallotFile) → slice_get some k ≡ Some b → ballots_for list b.contest ≡ Some b) →
        (all : List ContestEntry) → read_after (contest_entry_of batches list) [] 1 rows ≡ Ok all →
        map (λ (ballots : BallotFile). seen_by_records batches ballots.candidates (map without_contest (records_about ballots.contest rows))) some
        ≡ map Ok (seen_for_each some all)
    go [] itself all read = refl
    go (b ∷ some) itself all read =
        ap (λ first. first ∷ map (λ (ballots : BallotFile). seen_by_records batches ballots.candidates
        (map without_contest (records_about ballots.contest rows))) some) (own batches list b (itself 0 b refl) rows [] 1 1 all read)
        ∙ ap (λ (more : List (Result (List Entry) (Refusal VRule))). Ok (entries_for b.contest all) ∷ more) (go some (λ k x at. itself (suc k) x at) all read)

pub seen_alone : SeenAlone
seen_alone batches list rows each place ballots entries differ e at seen =
    let (all, read, same) = each-read list (read_after (contest_entry_of batches list) [] 1 rows) each e in
    let mine = alone batches list ballots (named-itself list place ballots differ at) rows [] [] 1 1 all read refl in
    let both : Some (entries_for ballots.contest all) ≡ Some entries = sym (seen-at list place ballots all at) ∙ ap (λ x. slice_get x place) same ∙ seen in
    let is : entries_for ballots.contest all ≡ entries = cc in
    ap (for_each_contest (ballots ∷ [])) mine.read ∙ ap (λ (x : List Entry). Ok (x ∷ [])) (mine.same ∙ is)
