-- Facts about contests that have been read, and about what is seen for them.
use Rattle.std.proofs.Common.{◌≡◌, ◌≤◌, ◌+◌, ◌&&◌, ◌∙◌, ℕ, Bool, true, false, List, [], ◌∷◌, length, map, drop, Option, Some, None, Result, Ok, Err, nat_le, refl, sym, ap, arith, leb-true}
use Rattle.std.specs.Prelude.{find, if◌then◌else◌, not, option_and_then}
use Rattle.std.proofs.lemmas.Bool.{and_parts}
use Rattle.std.proofs.lemmas.List.{length-map}
use Rattle.csv_rows.specs.Fields.{numbered_records}
use Rattle.csv_rows.specs.Numbers.{number_of}
use Rattle.csv_rows.specs.Rows.{Fields}
use Rattle.irv_base.specs.Names.{all_differ}
use Rattle.ballots.specs.Ballots.{BallotFile}
use Rattle.ballots.specs.Grammar.{Ballot, Contest, ballots_after, contest_count, contests_behind, contests_from, contests_in, contests_of, file_of, has_audited_size, then_on, unless_unsized}
use Rattle.ballots.specs.declared.fault.BRule.{BRule}
use Rattle.file_fault.specs.Refusals.{Refusal}
use Rattle.ballot_reader.specs.Kept.{contest_ids as ids_of_contests}
use Rattle.ballots.specs.declared.limits.TheConstants.{MOST_CONTESTS}
use Rattle.ballot_reader.proofs.Behind.{after_all, listed}
use Rattle.ballot_reader.proofs.Contests.{AreListed, all_listed, none_listed}
use Rattle.manifest.specs.Cards.{Batches}
use Rattle.seen_file.specs.Seen.{Entry}
use Rattle.contest_set.specs.SeenBy.{ContestEntry, contest_entry_of, contest_ids, entries_for, for_each_contest, seen_by}
use Rattle.contests_command.specs.Contests.{AreContests}

-- ---- the contests

few-counted : (first : Fields) (n : ℕ) → contest_count first ≡ Some n → n ≤ MOST_CONTESTS
few-counted [] n h = absurd cc
few-counted (number ∷ rest) n h = by (number_of number) h where
  so : (m : ℕ) (b : Bool) → (nat_le 1 m && nat_le m MOST_CONTESTS) ≡ b → (if b then Some m else None) ≡ Some n → n ≤ MOST_CONTESTS
  so m true e g = let s : m ≡ n = cc in omega (arith, leb-true m MOST_CONTESTS (and_parts (nat_le 1 m) (nat_le m MOST_CONTESTS) e).1, s)
  so m false e g = absurd cc

  by : (o : Option ℕ) → option_and_then (λ m. if nat_le 1 m && nat_le m MOST_CONTESTS then Some m else None) o ≡ Some n → n ≤ MOST_CONTESTS
  by None g = absurd cc
  by (Some m) g = so m (nat_le 1 m && nat_le m MOST_CONTESTS) refl g

same-ids : (bs : List Ballot) (contests : List Contest) → contest_ids (map (λ (c : Contest). file_of c bs) contests) ≡ ids_of_contests contests
same-ids bs [] = refl
same-ids bs (c ∷ contests) = ap (λ ids. c.id ∷ ids) (same-ids bs contests)

-- the contests are those that the file lists
as-listed : (n : ℕ) (rows : List Fields) (contests : List Contest) (list : List BallotFile) → after_all n rows contests contests ≡ Ok list →
    (bs : List Ballot) × (list ≡ map (λ (c : Contest). file_of c bs) contests)
as-listed n rows contests list h = by (ballots_after contests [] (2 + n) (drop n rows)) h where
  by : (o : Result (List Ballot) (Refusal BRule)) → then_on o (λ bs. Ok (map (λ (c : Contest). file_of c bs) contests)) ≡ Ok list →
      (bs : List Ballot) × (list ≡ map (λ (c : Contest). file_of c bs) contests)
  by (Ok bs) g = (bs, cc)
  by (Err refusal) g = absurd cc

contests-behind : (n : ℕ) (rows : List Fields) (list : List BallotFile) → n ≤ MOST_CONTESTS → contests_behind (Some n) rows ≡ Ok list → AreContests list
contests-behind n rows list few h = by (contests_in n [] 2 rows) refl h where
  sized : (contests : List Contest) → contests_in n [] 2 rows ≡ Ok contests → (o : Option Contest) →
      then_on (unless_unsized contests o) (after_all n rows contests) ≡ Ok list → AreContests list
  sized contests e None g =
      let (bs, is) = as-listed n rows contests list g in
      let are : AreListed contests (2 + n) = all_listed n [] 2 rows contests none_listed e in
      let long : length list ≡ length contests = ap length is ∙ length-map contests (λ c. file_of c bs) in
      record {
        few = omega (arith, long, are.counted, few);
        differ = ap (λ files. all_differ (contest_ids files)) is ∙ ap all_differ (same-ids bs contests) ∙ are.differ;
      }
  sized contests e (Some c) g = absurd cc

  by : (o : Result (List Contest) (Refusal BRule)) → contests_in n [] 2 rows ≡ o → contests_behind (Some n) rows ≡ Ok list → AreContests list
  by (Err refusal) e g =
      let none = sym (ap (λ r. then_on r (λ contests. then_on (unless_unsized contests (find (λ (c : Contest). not (has_audited_size c.candidates)) contests))
      (after_all n rows contests))) e) ∙ g in
      absurd (cc none)
  by (Ok contests) e g =
      sized contests e (find (λ (c : Contest). not (has_audited_size c.candidates)) contests) (sym (listed n rows contests e) ∙ g)

contests-from : (rows : List Fields) (list : List BallotFile) → contests_from rows ≡ Ok list → AreContests list
contests-from [] list h = absurd cc
contests-from (first ∷ rows) list h = by (contest_count first) refl h where
  by : (o : Option ℕ) → contest_count first ≡ o → contests_behind o rows ≡ Ok list → AreContests list
  by None e g = absurd cc
  by (Some n) e g = contests-behind n rows list (few-counted first n e) g

pub contests_are : (bytes : List ℕ) (list : List BallotFile) → contests_of bytes ≡ Ok list → AreContests list
contests_are bytes list h = contests-from (numbered_records bytes) list h

-- ---- what is seen
