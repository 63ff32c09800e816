-- Which record of a ballot file is the first to break a rule, and which rule it breaks. Each rule is stated in terms of records only.
use Rattle.std.specs.Prelude.{◌≡◌, ◌⊎◌, ◌↔◌, ◌<◌, ℕ, ◌+◌, Bool, true, false, not, ◌&&◌, nat_le, nat_lt, if◌then◌else◌, List, [], ◌∷◌, map, take, drop, length, Option, Some, None, Err, codes}
use Rattle.std.specs.List.{list_all, slice_get}
use Rattle.csv_rows.specs.Broken.{IsFirstBroken}
use Rattle.csv_rows.specs.Rows.{Fields}
use Rattle.irv_base.specs.Names.{Id, is_name, is_same, is_among, all_differ}
use Rattle.irv_base.specs.declared.limits.TheConstants.{FEWEST_CANDIDATES, MOST_CANDIDATES, MOST_RECORDS}
use Rattle.ballots.specs.Grammar.{ballots_from}
use Rattle.ballots.specs.declared.fault.BRule.{BRule}
use Rattle.ballots.specs.declared.fault.BRule.TheVariants.{B1, B2, B3, B4, B5, B6, B7, B8, B9, B10}
use Rattle.ballots.specs.declared.limits.TheConstants.{MOST_LISTED}
use Rattle.ballot_laws.specs.Rows.{record_at, field, contest_id, size, candidates_in, candidates_for, ballot_contest, ballot_id, preferences, ballots_for, count, is_counted, contests, ballots, asked_place}

-- ---- a contest's record, after the records of others

-- a contest's record has at least three fields: `Contest`, an id that none of the others has, and one more
abbrev pub begins_contest : List Fields → Fields → Bool
begins_contest before row =
    nat_le 3 (length row) && is_same (field row 0) (codes "Contest")
    && not (is_among (map contest_id before) (contest_id row))

-- a number, and at least that many ids
abbrev pub lists_candidates : Fields → Bool
lists_candidates row =
    nat_le 1 (size row) && nat_le (size row) MOST_LISTED
    && nat_le (size row) (length (drop 3 row))

-- the ids keep the rule of ids, and no candidate is listed twice
abbrev pub names_candidates : Fields → Bool
names_candidates row =
    is_name (contest_id row) && list_all is_name (candidates_in row)
    && all_differ (candidates_in row)

-- the rules in the order in which they are judged, each with whether it is kept
abbrev pub contest_rules : List Fields → Fields → List (BRule × Bool)
contest_rules before row =
    (B2, begins_contest before row)
    ∷ (B3, lists_candidates row)
    ∷ (B4, names_candidates row)
    ∷ []

-- ---- a ballot's record in one of these contests, after the records of other ballots

abbrev pub ballot_rules : List Fields → List Fields → Fields → List (BRule × Bool)
ballot_rules contests before row =
    (B10, nat_lt (length before) MOST_RECORDS)
    ∷ (B6, nat_le 2 (length row))
    ∷ (B4, is_name (ballot_id row))
    ∷ (B7, is_among (map contest_id contests) (ballot_contest row))
    ∷ (B9, not (is_among (map ballot_id (ballots_for (ballot_contest row) before)) (ballot_id row)))
    ∷ (B8, list_all (is_among (candidates_for contests (ballot_contest row))) (preferences row))
    ∷ []

-- ---- the first rule that isn't kept

abbrev pub first_broken : List (BRule × Bool) → Option BRule
first_broken [] = None
first_broken (rule ∷ rules) = if rule.1 then first_broken rules else Some rule.0

abbrev pub contest_rule : List Fields → Fields → Option BRule
contest_rule before row = first_broken (contest_rules before row)

abbrev pub ballot_rule : List Fields → List Fields → Fields → Option BRule
ballot_rule contests before row = first_broken (ballot_rules contests before row)

-- ---- the first record that breaks one

-- no row breaks a rule, given the function that says which rule a row breaks after the rows before it
abbrev pub AreUnbroken : (List Fields → Fields → Option BRule) → List Fields → Type 0
AreUnbroken broken rows =
    (k : ℕ) (row : Fields) → slice_get rows k ≡ Some row → broken (take k rows) row ≡ None

-- ---- the contest that is audited

abbrev pub has_auditable_size : Fields → Bool
has_auditable_size row =
    nat_le FEWEST_CANDIDATES (length (candidates_in row))
    && nat_le (length (candidates_in row)) MOST_CANDIDATES

-- there is no such contest, or the one in that record is too small or too large
abbrev pub choice_refused : List Fields → Option ℕ → Option (BRule × ℕ)
choice_refused rows None = Some (B5, 1)
choice_refused rows (Some own) =
    if has_auditable_size (record_at rows own) then None else Some (B3, own)

-- ---- the file

-- the contests are counted, all there, and break no rule
pub record HasContests (rows : List Fields) : Type 0 where
  pub counted : is_counted rows ≡ true
  pub all_there : length (contests rows) ≡ count rows
  pub unbroken : AreUnbroken contest_rule (contests rows)

-- the first record doesn't give the number of contests
pub record IsUncounted (rows : List Fields) (rule : BRule) (at : ℕ) : Type 0 where
  pub uncounted : is_counted rows ≡ false
  pub rule_is : rule ≡ B1
  pub at_is : at ≡ 1

-- the contests begin at record 2
pub record BreaksContest (rows : List Fields) (rule : BRule) (at : ℕ) : Type 0 where
  pub counted : is_counted rows ≡ true
  pub k : ℕ
  pub first : IsFirstBroken contest_rule (contests rows) k rule
  pub at_is : at ≡ 2 + k

-- the file ends too early; it is refused at the record after its last
pub record LacksContest (rows : List Fields) (rule : BRule) (at : ℕ) : Type 0 where
  pub counted : is_counted rows ≡ true
  pub unbroken : AreUnbroken contest_rule (contests rows)
  pub missing : length (contests rows) < count rows
  pub rule_is : rule ≡ B2
  pub at_is : at ≡ length rows + 1

-- the contest is judged before any ballot
pub record BreaksChoice
    (asked : Option Id) (rows : List Fields) (rule : BRule) (at : ℕ) : Type 0 where
  pub has : HasContests rows
  pub refused : choice_refused rows (asked_place asked (contests rows)) ≡ Some (rule, at)

-- the ballots begin after the contests, and those of every contest are judged
pub record BreaksBallot
    (asked : Option Id) (rows : List Fields) (rule : BRule) (at : ℕ) : Type 0 where
  pub has : HasContests rows
  pub chosen : choice_refused rows (asked_place asked (contests rows)) ≡ None
  pub k : ℕ
  pub first : IsFirstBroken (ballot_rule (contests rows)) (ballots rows) k rule
  pub at_is : at ≡ 2 + count rows + k

abbrev pub IsRefused : Option Id → List Fields → BRule → ℕ → Type 0
IsRefused asked rows rule at =
    IsUncounted rows rule at
    ⊎ BreaksContest rows rule at
    ⊎ LacksContest rows rule at
    ⊎ BreaksChoice asked rows rule at
    ⊎ BreaksBallot asked rows rule at

-- ---- the law

abbrev pub FirstBrokenRuleRefuses : Type 0
FirstBrokenRuleRefuses =
    (asked : Option Id) (rows : List Fields) (rule : BRule) (at : ℕ) →
    (ballots_from asked rows ≡ Err (record { rule = rule; at = at })) ↔ IsRefused asked rows rule at
