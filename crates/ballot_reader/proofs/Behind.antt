-- The ballots after the contests.
use Rattle.std.proofs.Common.{◌≡◌, ◌+◌, ◌∙◌, ◌++◌, ◌∷◌, [], ℕ, List, Option, Some, Result, Ok, length, map, drop, sym, ap}
use Rattle.csv_rows.specs.Rows.{Fields}
use Rattle.irv_base.specs.Names.{Id}
use Rattle.ballots.specs.Ballots.{BallotFile}
use Rattle.file_fault.specs.Refusals.{and_then, Refusal, Refuses}
use Rattle.ballots.specs.Grammar.{Ballot, Contest, all_audited, asked_for, ballot_of, ballots_after, ballots_behind, contests_behind, contests_in, file_of, audited_contest, then_on}
use Rattle.ballot_reader.specs.Kept.{IsKeptUpTo, KeptBallots}
use Rattle.file_fault.specs.declared.fault.Fault.{Fault}
use Rattle.ballots.specs.declared.fault.BRule.{BRule}
use Rattle.file_fault.specs.declared.fault.Fault.TheVariants.{Refused, Memory}
use Rattle.ballot_reader.specs.declared.wanted.Wanted.{Wanted}

-- ---- ballot by ballot

-- the records after these ballots are other ballots, and then those from number at on; this is the data kept for the ballots
pub record BallotsSoFar (contests : List Contest) (wanted : Wanted) (earlier : List Ballot) (first : ℕ) (rows : List Fields) (ballots : List Ballot) (at : ℕ)
    (rest : List Fields) (kept : KeptBallots) : Type 0 where
  pub split : ballots_after contests earlier first rows ≡ ballots_after contests ballots at rest
  pub up_to : IsKeptUpTo contests wanted ballots at kept

pub ballots-more : (contests : List Contest) (earlier : List Ballot) (first : ℕ) (rows : List Fields) (ballots : List Ballot) (at : ℕ) (row : Fields)
    (rest : List Fields) (ballot : Ballot)
    → ballots_after contests earlier first rows ≡ ballots_after contests ballots at (row ∷ rest) → ballot_of contests ballots at row ≡ Ok ballot
    → ballots_after contests earlier first rows ≡ ballots_after contests (ballots ++ ballot ∷ []) (at + 1) rest
ballots-more contests earlier first rows ballots at row rest ballot split h = split
    ∙ ap (λ o. and_then at o (λ (b : Ballot). ballots_after contests (ballots ++ b ∷ []) (at + 1) rest)) h

-- ---- the whole

pub refused-on : {A B : Type 0} (said : Result A (Refusal BRule)) (more : A → Result B (Refusal BRule)) (fault : Fault BRule) → Refuses said fault →
    Refuses (then_on said more) fault
refused-on said more (Refused rule at) h = ap (λ r. then_on r more) h
refused-on said more Memory h = tt

pub same-refusal : {B : Type 0} (said other : Result B (Refusal BRule)) (fault : Fault BRule) → said ≡ other → Refuses other fault → Refuses said fault
same-refusal said other (Refused rule at) e h = e ∙ h
same-refusal said other Memory e h = tt

abbrev pub after_sized : Option Id → ℕ → List Fields → List Contest → Contest → Result BallotFile (Refusal BRule)
after_sized asked n rows contests audited = then_on (ballots_after contests [] (2 + n) (drop n rows)) (λ ballots. Ok (file_of audited ballots))

abbrev pub after_contests : Option Id → ℕ → List Fields → List Contest → Result BallotFile (Refusal BRule)
after_contests asked n rows contests = then_on (audited_contest (asked_for contests asked)) (after_sized asked n rows contests)

pub with-contests : (n : ℕ) (asked : Option Id) (rows : List Fields) (contests : List Contest) → contests_in n [] 2 rows ≡ Ok contests →
    ballots_behind (Some n) asked rows ≡ after_contests asked n rows contests
with-contests n asked rows contests h = ap (λ r. then_on r (after_contests asked n rows)) h

pub with-audited : (n : ℕ) (asked : Option Id) (rows : List Fields) (contests : List Contest) (chosen : Contest) → contests_in n [] 2 rows ≡ Ok contests →
    audited_contest (asked_for contests asked) ≡ Ok chosen
    → ballots_behind (Some n) asked rows ≡ after_sized asked n rows contests chosen
with-audited n asked rows contests chosen h s = with-contests n asked rows contests h ∙ ap (λ r. then_on r (after_sized asked n rows contests)) s

pub left : (n : ℕ) (rows rest : List Fields) (contests : List Contest) → length contests ≡ n → rest ≡ drop n rows →
    ballots_after contests [] (2 + n) (drop n rows) ≡ ballots_after contests [] (2 + length contests) rest
left n rows rest contests l e = ap (λ m. ballots_after contests [] (2 + m) (drop n rows)) (sym l) ∙ ap (ballots_after contests [] (2 + length contests)) (sym e)

pub all-read : (n : ℕ) (asked : Option Id) (rows rest : List Fields) (contests : List Contest) (chosen : Contest) (ballots : List Ballot) →
    contests_in n [] 2 rows ≡ Ok contests
    → audited_contest (asked_for contests asked) ≡ Ok chosen → length contests ≡ n → rest ≡ drop n rows →
    ballots_after contests [] (2 + length contests) rest ≡ Ok ballots
    → ballots_behind (Some n) asked rows ≡ Ok (file_of chosen ballots)
all-read n asked rows rest contests chosen ballots h s l e r =
    with-audited n asked rows contests chosen h s ∙ ap (λ said. then_on said (λ bs. Ok (file_of chosen bs))) (left n rows rest contests l e ∙ r)

-- ---- the whole, for all contests

abbrev pub after_all : ℕ → List Fields → List Contest → List Contest → Result (List BallotFile) (Refusal BRule)
after_all n rows contests audited =
    then_on (ballots_after contests [] (2 + n) (drop n rows)) (λ ballots. Ok (map (λ (c : Contest). file_of c ballots) audited))

abbrev pub after_listed : ℕ → List Fields → List Contest → Result (List BallotFile) (Refusal BRule)
after_listed n rows contests = then_on (all_audited contests) (after_all n rows contests)

pub none-listed : (n : ℕ) (rows : List Fields) (fault : Fault BRule) → Refuses (contests_in n [] 2 rows) fault →
    Refuses (contests_behind (Some n) rows) fault
none-listed n rows fault h = refused-on (contests_in n [] 2 rows) (after_listed n rows) fault h

pub listed : (n : ℕ) (rows : List Fields) (contests : List Contest) → contests_in n [] 2 rows ≡ Ok contests →
    contests_behind (Some n) rows ≡ after_listed n rows contests
listed n rows contests h = ap (λ r. then_on r (after_listed n rows)) h

all-sized : (n : ℕ) (rows : List Fields) (contests : List Contest) → contests_in n [] 2 rows ≡ Ok contests → all_audited contests ≡ Ok contests →
    contests_behind (Some n) rows ≡ after_all n rows contests contests
all-sized n rows contests h s = listed n rows contests h ∙ ap (λ r. then_on r (after_all n rows contests)) s

pub each-read : (n : ℕ) (rows rest : List Fields) (contests : List Contest) (ballots : List Ballot) → contests_in n [] 2 rows ≡ Ok contests →
    all_audited contests ≡ Ok contests → length contests ≡ n → rest ≡ drop n rows → ballots_after contests [] (2 + length contests) rest ≡ Ok ballots →
    contests_behind (Some n) rows ≡ Ok (map (λ (c : Contest). file_of c ballots) contests)
each-read n rows rest contests ballots h s l e r =
    all-sized n rows contests h s ∙ ap (λ said. then_on said (λ bs. Ok (map (λ (c : Contest). file_of c bs) contests))) (left n rows rest contests l e ∙ r)
