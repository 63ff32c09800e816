-- The contests are read and then ballots, whatever records follow.
use Rattle.std.proofs.Common.{◌≡◌, ◌+◌, ◌∙◌, ◌++◌, ◌∷◌, [], ℕ, zero, suc, Bool, true, false, List, Option, Some, None, Result, Ok, Err, length, take, drop, refl, sym, ap, arith, append_assoc, length-append, eqb-true}
use Rattle.std.specs.Prelude.{if◌then◌else◌}
use Rattle.std.specs.List.{slice_get}
use Rattle.std.proofs.lemmas.List.{append-nil}
use Rattle.csv_rows.specs.Rows.{Fields}
use Rattle.file_fault.specs.Refusals.{Refusal, Refuses, and_then, refused}
use Rattle.file_fault.specs.declared.fault.Fault.{Fault}
use Rattle.file_fault.specs.declared.fault.Fault.TheVariants.{Refused, Memory}
use Rattle.irv_base.specs.Names.{Id}
use Rattle.ballot_reader.specs.Begun.{BegunFile, IsReadSoFar}
use Rattle.ballots.specs.Grammar.{Ballot, Contest, asked_for, audited_contest, ballot_of, ballots_after, ballots_behind, ballots_from, contest_count, contest_of, contests_in, file_of, has_audited_size, then_on}
use Rattle.ballot_reader.specs.Kept.{IsKeptUpTo, KeptBallots, WantsAudited}
use Rattle.ballots.specs.declared.fault.BRule.{BRule}
use Rattle.ballots.specs.declared.fault.BRule.TheVariants.{B3}
use Rattle.ballot_reader.specs.declared.wanted.Wanted.TheVariants.{VotesOf}
use Rattle.ballot_reader.proofs.Adding.{same_at}
use Rattle.ballot_reader.proofs.Behind.{left, refused-on, same-refusal, with-audited}

-- ---- the contests

abbrev contests-on : ℕ → List Contest → ℕ → List Fields → Contest → Result (List Contest) (Refusal BRule)
contests-on n earlier at rows contest = contests_in n (earlier ++ contest ∷ []) (at + 1) rows

-- their records are read, whatever follows
record AreFirst (n : ℕ) (earlier : List Contest) (at : ℕ) (rows more : List Fields) (contests : List Contest) : Type 0 where
  read : contests_in n earlier at (take n rows ++ more) ≡ Ok contests
  behind : drop n (take n rows ++ more) ≡ more

are-first : (n : ℕ) (earlier : List Contest) (at : ℕ) (rows more : List Fields) (contests : List Contest) → contests_in n earlier at rows ≡ Ok contests →
    AreFirst n earlier at rows more contests
are-first zero earlier at [] more contests h = record { read = h; behind = refl }
are-first zero earlier at (row ∷ rows) more contests h = record { read = h; behind = refl }
are-first (suc n) earlier at [] more contests h = absurd cc
are-first (suc n) earlier at (row ∷ rows) more contests h =
    let those = by (contest_of earlier at row) h (λ contest. are-first n (earlier ++ contest ∷ []) (at + 1) rows more contests) in
    record { read = those.0; behind = those.1 }
  where
    by : (o : Result Contest BRule) → and_then at o (contests-on n earlier at rows) ≡ Ok contests →
        ((contest : Contest) → contests-on n earlier at rows contest ≡ Ok contests → AreFirst n (earlier ++ contest ∷ []) (at + 1) rows more contests) →
        (and_then at o (contests-on n earlier at (take n rows ++ more)) ≡ Ok contests) × (drop n (take n rows ++ more) ≡ more)
    by (Ok contest) g first = ((first contest g).read, (first contest g).behind)
    by (Err rule) g first = absurd cc

-- the file says what the ballots after the contests say
pub says-ballots : (n : ℕ) (asked : Option Id) (first : Fields) (rows : List Fields) (contests : List Contest) (chosen : Contest) → contest_count first ≡ Some n →
    contests_in n [] 2 rows ≡ Ok contests → audited_contest (asked_for contests asked) ≡ Ok chosen → length contests ≡ n → (more : List Fields) →
    ballots_from asked (first ∷ take n rows ++ more) ≡ then_on (ballots_after contests [] (2 + length contests) more) (λ ballots. Ok (file_of chosen ballots))
says-ballots n asked first rows contests chosen count read audited all more =
    let those = are-first n [] 2 rows more contests read in
    ap (λ m. ballots_behind m asked (take n rows ++ more)) count ∙ with-audited n asked (take n rows ++ more) contests chosen those.read audited
    ∙ ap (λ said. then_on said (λ ballots. Ok (file_of chosen ballots))) (left n (take n rows ++ more) more contests all (sym those.behind))

audited-size : (found : Option Contest) (chosen : Contest) → audited_contest found ≡ Ok chosen → has_audited_size chosen.candidates ≡ true
audited-size None chosen h = absurd cc
audited-size (Some contest) chosen h = by (has_audited_size contest.candidates) refl h where
  by : (b : Bool) → has_audited_size contest.candidates ≡ b → (if b then Ok contest else refused B3 contest.at) ≡ Ok chosen →
      has_audited_size chosen.candidates ≡ true
  by true size g = let same : contest ≡ chosen = cc in ap (λ (c : Contest). has_audited_size c.candidates) (sym same) ∙ size
  by false size g = absurd cc

pub wants-audited : (contests : List Contest) (audited : ℕ) (found : Option Contest) (chosen : Contest) → slice_get contests audited ≡ Some chosen →
    audited_contest found ≡ Ok chosen → WantsAudited contests (VotesOf audited)
wants-audited contests audited found chosen there h = λ place contest at own.
    let same : slice_get contests audited ≡ Some contest = ap (slice_get contests) (sym (eqb-true place audited own)) ∙ at in
    ap (λ (c : Contest). has_audited_size c.candidates) (same_at contests audited contest chosen same there) ∙ audited-size found chosen h

-- ---- ballots after the contests

abbrev ballots-on : List Contest → List Ballot → ℕ → List Fields → Ballot → Result (List Ballot) (Refusal BRule)
ballots-on contests earlier at rows ballot = ballots_after contests (earlier ++ ballot ∷ []) (at + 1) rows

-- records that are read, and those that follow
pub ballots-append : (contests : List Contest) (earlier ballots : List Ballot) (at : ℕ) (rows more : List Fields) →
    ballots_after contests earlier at rows ≡ Ok ballots →
    ballots_after contests earlier at (rows ++ more) ≡ ballots_after contests ballots (at + length rows) more
ballots-append contests earlier ballots at [] more h =
    let same : earlier ≡ ballots = cc in
    let there : at ≡ at + 0 = omega arith in
    ap (λ (bs : List Ballot). ballots_after contests bs at more) same ∙ ap (λ n. ballots_after contests ballots n more) there
ballots-append contests earlier ballots at (row ∷ rows) more h =
    by (ballot_of contests earlier at row) h (λ ballot. ballots-append contests (earlier ++ ballot ∷ []) ballots (at + 1) rows more) where
      by : (o : Result Ballot BRule) → and_then at o (ballots-on contests earlier at rows) ≡ Ok ballots →
          ((ballot : Ballot) → ballots-on contests earlier at rows ballot ≡ Ok ballots →
          ballots-on contests earlier at (rows ++ more) ballot ≡ ballots_after contests ballots (at + 1 + length rows) more) →
          and_then at o (ballots-on contests earlier at (rows ++ more)) ≡ ballots_after contests ballots (at + suc (length rows)) more
      by (Ok ballot) g again =
          let there : at + 1 + length rows ≡ at + suc (length rows) = omega arith in
          again ballot g ∙ ap (λ n. ballots_after contests ballots n more) there
      by (Err rule) g again = absurd cc

pub refused-append : (contests : List Contest) (earlier : List Ballot) (at : ℕ) (rows more : List Fields) (fault : Fault BRule) →
    Refuses (ballots_after contests earlier at rows) fault → Refuses (ballots_after contests earlier at (rows ++ more)) fault
refused-append contests earlier at [] more (Refused rule place) h = absurd cc
refused-append contests earlier at [] more Memory h = tt
refused-append contests earlier at (row ∷ rows) more fault h =
    by (ballot_of contests earlier at row) h (λ ballot. refused-append contests (earlier ++ ballot ∷ []) (at + 1) rows more fault) where
      by : (o : Result Ballot BRule) → Refuses (and_then at o (ballots-on contests earlier at rows)) fault →
          ((ballot : Ballot) → Refuses (ballots-on contests earlier at rows ballot) fault → Refuses (ballots-on contests earlier at (rows ++ more) ballot) fault) →
          Refuses (and_then at o (ballots-on contests earlier at (rows ++ more))) fault
      by (Ok ballot) g again = again ballot g
      by (Err rule) g again = g

-- there is a ballot for each record
pub ballots-length : (contests : List Contest) (earlier ballots : List Ballot) (at : ℕ) (rows : List Fields) →
    ballots_after contests earlier at rows ≡ Ok ballots → length ballots ≡ length earlier + length rows
ballots-length contests earlier ballots at [] h =
    let same : earlier ≡ ballots = cc in
    omega (arith, ap length same)
ballots-length contests earlier ballots at (row ∷ rows) h =
    by (ballot_of contests earlier at row) h (λ ballot. ballots-length contests (earlier ++ ballot ∷ []) ballots (at + 1) rows) where
      by : (o : Result Ballot BRule) → and_then at o (ballots-on contests earlier at rows) ≡ Ok ballots →
          ((ballot : Ballot) → ballots-on contests earlier at rows ballot ≡ Ok ballots → length ballots ≡ length (earlier ++ ballot ∷ []) + length rows) →
          length ballots ≡ length earlier + suc (length rows)
      by (Ok ballot) g again = omega (arith, again ballot g, length-append earlier (ballot ∷ []))
      by (Err rule) g again = absurd cc

module _ (asked : Option Id) (rows new : List Fields) (begun : BegunFile) (chosen : Contest) (earlier : List Ballot)
    (is : IsReadSoFar asked rows begun chosen earlier) where
  says-on : (more : List Fields) → ballots_from asked ((rows ++ new) ++ more)
      ≡ then_on (ballots_after begun.contests earlier begun.at (new ++ more)) (λ ballots. Ok (file_of chosen ballots))
  says-on more = ap (ballots_from asked) (append_assoc rows new more) ∙ is.says (new ++ more)

  pub read-on : (ballots : List Ballot) (kept : KeptBallots) (next : ℕ) → ballots_after begun.contests earlier begun.at new ≡ Ok ballots →
      IsKeptUpTo begun.contests (VotesOf begun.audited) ballots next kept →
      IsReadSoFar asked (rows ++ new) (record { contests = begun.contests; audited = begun.audited; kept = kept; at = next }) chosen ballots
  read-on ballots kept next h up_to = record {
    there = is.there;
    up_to = up_to;
    says = λ more.
        let there : begun.at + length new ≡ next =
        omega (arith, is.up_to.numbered, up_to.numbered, ballots-length begun.contests earlier ballots begun.at new h) in
        says-on more
        ∙ ap (λ said. then_on said (λ ballots. Ok (file_of chosen ballots)))
        (ballots-append begun.contests earlier ballots begun.at new more h ∙ ap (λ n. ballots_after begun.contests ballots n more) there);
  }

  pub refused-there : (fault : Fault BRule) → Refuses (ballots_after begun.contests earlier begun.at new) fault → (more : List Fields) →
      Refuses (ballots_from asked ((rows ++ new) ++ more)) fault
  refused-there fault h more =
      same-refusal _ _ fault (says-on more)
      (refused-on (ballots_after begun.contests earlier begun.at (new ++ more)) (λ ballots. Ok (file_of chosen ballots)) fault
      (refused-append begun.contests earlier begun.at new more fault h))

-- nothing follows
pub read-all : (asked : Option Id) (rows : List Fields) (begun : BegunFile) (chosen : Contest) (ballots : List Ballot) →
    IsReadSoFar asked rows begun chosen ballots → ballots_from asked rows ≡ Ok (file_of chosen ballots)
read-all asked rows begun chosen ballots is = ap (ballots_from asked) (sym (append-nil rows)) ∙ is.says []
