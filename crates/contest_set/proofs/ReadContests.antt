-- The contests that are read of a ballot file have different ids, and aren't too many.
use Rattle.std.proofs.Common.{◌≡◌, ◌∙◌, ℕ, ◌+◌, ◌≤◌, ◌&&◌, Bool, true, false, ◌∷◌, [], List, Option, Some, None, Result, Ok, Err, drop, length, map, nat_le, refl, ap, subst, arith, leb-true}
use Rattle.std.specs.Prelude.{find, if◌then◌else◌, not, option_and_then}
use Rattle.std.proofs.lemmas.Bool.{and_parts}
use Rattle.std.proofs.lemmas.List.{length-map}
use Rattle.csv_rows.specs.Fields.{numbered_records}
use Rattle.csv_rows.specs.Numbers.{number_of}
use Rattle.csv_rows.specs.Rows.{Fields}
use Rattle.irv_base.specs.Names.{all_differ}
use Rattle.ballots.specs.Ballots.{BallotFile}
use Rattle.ballots.specs.Grammar.{Ballot, Contest, all_audited, ballots_after, contest_count, contests_behind, contests_from, contests_in, contests_of, file_of, has_audited_size, then_on, unless_unsized}
use Rattle.ballots.specs.declared.fault.BRule.{BRule}
use Rattle.file_fault.specs.Refusals.{Refusal}
use Rattle.ballot_reader.specs.Kept.{contest_ids as ids_listed}
use Rattle.ballots.specs.declared.limits.TheConstants.{MOST_CONTESTS}
use Rattle.ballot_reader.proofs.Contests.{all_listed, none_listed}
use Rattle.contest_set.specs.SeenBy.{contest_ids}

then-value : {A B : Type 0} (r : Result A (Refusal BRule)) (more : A → Result B (Refusal BRule)) (v : B) → then_on r more ≡ Ok v → (x : A) × (r ≡ Ok x) × (more x ≡ Ok v)
then-value (Ok x) more v e = (x, refl, e)
then-value (Err refusal) more v e = absurd cc

number-few : (most : ℕ) (o : Option ℕ) (n : ℕ) → option_and_then (λ n. if nat_le 1 n && nat_le n most then Some n else None) o ≡ Some n → n ≤ most
number-few most None n h = absurd cc
number-few most (Some m) n h = by (nat_le 1 m && nat_le m most) refl h where
  by : (b : Bool) → (nat_le 1 m && nat_le m most) ≡ b → (if b then Some m else None) ≡ Some n → n ≤ most
  by true t e =
      let s : m ≡ n = cc in
      let few = leb-true m most (and_parts (nat_le 1 m) (nat_le m most) t).1 in
      omega (arith, s, few)
  by false t e = absurd cc

count-few : (first : Fields) (n : ℕ) → contest_count first ≡ Some n → n ≤ MOST_CONTESTS
count-few [] n h = absurd cc
count-few (number ∷ rest) n h = number-few MOST_CONTESTS (number_of number) n h

audited-same : (contests : List Contest) (o : Option Contest) (audited : List Contest) → unless_unsized contests o ≡ Ok audited → contests ≡ audited
audited-same contests None audited e = cc
audited-same contests (Some contest) audited e = absurd cc

same-ids : (contests : List Contest) (ballots : List Ballot) → contest_ids (map (λ contest. file_of contest ballots) contests) ≡ ids_listed contests
same-ids [] ballots = refl
same-ids (c ∷ contests) ballots = ap (λ rest. c.id ∷ rest) (same-ids contests ballots)

pub record AreApart (files : List BallotFile) : Type 0 where
  pub differ : all_differ (contest_ids files) ≡ true
  pub few : length files ≤ MOST_CONTESTS

behind : (o : Option ℕ) (rows : List Fields) (files : List BallotFile) → ((n : ℕ) → o ≡ Some n → n ≤ MOST_CONTESTS) → contests_behind o rows ≡ Ok files →
    AreApart files
behind None rows files few e = absurd cc
behind (Some n) rows files few e =
    let (contests, listed, rest) = then-value (contests_in n [] 2 rows) _ files e in
    let (audited, sized, last) = then-value (all_audited contests) _ files rest in
    let (ballots, read, whole) = then-value (ballots_after contests [] (2 + n) (drop n rows)) _ files last in
    let s : map (λ contest. file_of contest ballots) audited ≡ files = cc in
    let same = audited-same contests (find (λ contest. not (has_audited_size contest.candidates)) contests) audited sized in
    let is : map (λ contest. file_of contest ballots) contests ≡ files = ap (map (λ contest. file_of contest ballots)) same ∙ s in
    let are = all_listed n [] 2 rows contests none_listed listed in
    subst AreApart is (record {
      differ = ap all_differ (same-ids contests ballots) ∙ are.differ;
      few = let most = few n refl in omega (arith, most, are.counted, length-map contests (λ (contest : Contest). file_of contest ballots));
    })

pub contests_apart : (bytes : List ℕ) (files : List BallotFile) → contests_of bytes ≡ Ok files → AreApart files
contests_apart bytes files e = by (numbered_records bytes) e where
  by : (rows : List Fields) → contests_from rows ≡ Ok files → AreApart files
  by [] h = absurd cc
  by (first ∷ rows) h = behind (contest_count first) rows files (count-few first) h
