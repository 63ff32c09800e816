-- What is seen for each contest, after one more entry.
use Rattle.std.proofs.Common.{◌≡◌, ◌∙◌, ℕ, zero, suc, ◌+◌, ◌++◌, ◌∷◌, [], true, false, List, Some, Ok, map, set, refl, sym, ap, replicate, length}
use Rattle.std.specs.Prelude.{if◌then◌else◌, filter}
use Rattle.std.specs.List.{slice_get}
use Rattle.std.proofs.lemmas.List.{append-nil, map-append}
use Rattle.std.proofs.lemmas.List.Elements.{filter-append}
use Rattle.csv_rows.specs.Rows.{Fields}
use Rattle.irv_base.specs.Names.{Id, is_among, is_same, all_differ}
use Rattle.ballots.specs.Ballots.{BallotFile}
use Rattle.ballot_reader.proofs.Adding.{same-comm, same-refl}
use Rattle.ballot_ids.proofs.Differing.{or-false}
use Rattle.manifest.specs.Cards.{Batches}
use Rattle.seen_file.specs.Reading.{read_after}
use Rattle.file_fault.specs.Refusals.{and_then}
use Rattle.seen_file.specs.Seen.{Entry}
use Rattle.contest_set.specs.SeenBy.{ContestEntry, contest_entry_of, contest_ids, entries_for, seen_for_each}
use Rattle.contest_set.proofs.Named.{apart, elsewhere}

-- ---- for one contest

pub entries-own : (id : Id) (entries : List ContestEntry) (one : ContestEntry) → is_same one.contest id ≡ true →
    entries_for id (entries ++ one ∷ []) ≡ entries_for id entries ++ one.entry ∷ []
entries-own id entries one h =
    ap (map (λ (seen : ContestEntry). seen.entry)) (filter-append (λ (seen : ContestEntry). is_same seen.contest id) entries (one ∷ [])
    ∙ ap (λ t. filter (λ (seen : ContestEntry). is_same seen.contest id) entries ++ (if t then one ∷ [] else [])) h)
    ∙ map-append (λ (seen : ContestEntry). seen.entry) (filter (λ (seen : ContestEntry). is_same seen.contest id) entries) (one ∷ [])

pub entries-other : (id : Id) (entries : List ContestEntry) (one : ContestEntry) → is_same one.contest id ≡ false →
    entries_for id (entries ++ one ∷ []) ≡ entries_for id entries
entries-other id entries one h =
    ap (map (λ (seen : ContestEntry). seen.entry)) (filter-append (λ (seen : ContestEntry). is_same seen.contest id) entries (one ∷ [])
    ∙ ap (λ t. filter (λ (seen : ContestEntry). is_same seen.contest id) entries ++ (if t then one ∷ [] else [])) h
    ∙ append-nil (filter (λ (seen : ContestEntry). is_same seen.contest id) entries))

-- ---- for all contests

-- contests that lack the entry's have what they had
each-same : (list : List BallotFile) (entries : List ContestEntry) (one : ContestEntry) → is_among (contest_ids list) one.contest ≡ false →
    seen_for_each list entries ≡ seen_for_each list (entries ++ one ∷ [])
each-same [] entries one h = refl
each-same (b ∷ list) entries one h =
    let (first, rest) = or-false (is_same b.contest one.contest) (is_among (contest_ids list) one.contest) h in
    ap (λ own. own ∷ seen_for_each list entries) (sym (entries-other b.contest entries one (same-comm one.contest b.contest ∙ first)))
    ∙ ap (λ more. entries_for b.contest (entries ++ one ∷ []) ∷ more) (each-same list entries one rest)

pub each-more : (list : List BallotFile) (k : ℕ) (ballots : BallotFile) (entries : List ContestEntry) (entry : Entry) →
    all_differ (contest_ids list) ≡ true → slice_get list k ≡ Some ballots →
    set (seen_for_each list entries) k (entries_for ballots.contest entries ++ entry ∷ [])
    ≡ seen_for_each list (entries ++ record { contest = ballots.contest; entry = entry } ∷ [])
each-more [] k ballots entries entry d g = absurd cc
each-more (b ∷ list) zero ballots entries entry d g =
    let s : b ≡ ballots = cc in
    let one : ContestEntry = record { contest = b.contest; entry = entry } in
    ap (λ (x : BallotFile). (entries_for x.contest entries ++ entry ∷ []) ∷ seen_for_each list entries) (sym s)
    ∙ ap (λ own. own ∷ seen_for_each list entries) (sym (entries-own b.contest entries one (same-refl b.contest)))
    ∙ ap (λ more. entries_for b.contest (entries ++ one ∷ []) ∷ more) (each-same list entries one (apart b list d).0)
    ∙ ap (λ (x : BallotFile). seen_for_each (b ∷ list) (entries ++ record { contest = x.contest; entry = entry } ∷ [])) s
each-more (b ∷ list) (suc k) ballots entries entry d g =
    let one : ContestEntry = record { contest = ballots.contest; entry = entry } in
    let other = elsewhere list b.contest k ballots (apart b list d).0 g in
    ap (λ own. own ∷ set (seen_for_each list entries) k (entries_for ballots.contest entries ++ entry ∷ []))
    (sym (entries-other b.contest entries one other))
    ∙ ap (λ more. entries_for b.contest (entries ++ one ∷ []) ∷ more) (each-more list k ballots entries entry (apart b list d).1 g)

-- nothing is seen for any contest before the first record
pub each-none : (list : List BallotFile) → replicate (length list) [] ≡ seen_for_each list []
each-none [] = refl
each-none (b ∷ list) = ap (λ (rest : List (List Entry)). [] ∷ rest) (each-none list)

-- what is seen for the contest at a place
pub seen-at : (list : List BallotFile) (k : ℕ) (ballots : BallotFile) (entries : List ContestEntry) → slice_get list k ≡ Some ballots →
    slice_get (seen_for_each list entries) k ≡ Some (entries_for ballots.contest entries)
seen-at [] k ballots entries g = absurd cc
seen-at (b ∷ list) zero ballots entries g = let s : b ≡ ballots = cc in ap (λ (x : BallotFile). Some (entries_for x.contest entries)) s
seen-at (b ∷ list) (suc k) ballots entries g = seen-at list k ballots entries g

-- ---- the records so far

-- these entries were read, and the records from number at are left
pub record SeenSoFar (batches : Batches) (list : List BallotFile) (rows : List Fields) (seen : List (List Entry)) (at : ℕ) (left : List Fields) : Type 0 where
  pub entries : List ContestEntry
  pub are : seen ≡ seen_for_each list entries
  pub rest : read_after (contest_entry_of batches list) [] 1 rows ≡ read_after (contest_entry_of batches list) entries at left

pub goes-on : (batches : Batches) (list : List BallotFile) (rows : List Fields) (seen : List (List Entry)) (at : ℕ) (row : Fields) (left : List Fields)
    (so_far : SeenSoFar batches list rows seen at (row ∷ left)) (place : ℕ) (ballots : BallotFile) (entry : Entry) → all_differ (contest_ids list) ≡ true →
    slice_get list place ≡ Some ballots →
    contest_entry_of batches list so_far.entries row ≡ Ok (record { contest = ballots.contest; entry = entry }) →
    SeenSoFar batches list rows (set seen place (entries_for ballots.contest so_far.entries ++ entry ∷ [])) (at + 1) left
goes-on batches list rows seen at row left so_far place ballots entry differ there is = record {
  entries = so_far.entries ++ record { contest = ballots.contest; entry = entry } ∷ [];
  are = ap (λ x. set x place (entries_for ballots.contest so_far.entries ++ entry ∷ [])) so_far.are
      ∙ each-more list place ballots so_far.entries entry differ there;
  rest = so_far.rest
      ∙ ap (λ said. and_then at said (λ one. read_after (contest_entry_of batches list) (so_far.entries ++ one ∷ []) (at + 1) left)) is;
}
