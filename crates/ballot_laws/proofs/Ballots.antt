-- What is judged of a ballot's record, and of all of them.
use Rattle.std.proofs.Common.{inl, inr, ◌≡◌, ◌⊎◌, ◌∙◌, ◌++◌, ◌∷◌, [], ◌+◌, ◌&&◌, ℕ, suc, Bool, true, false, not, List, Option, Some, None, Result, Ok, Err, length, map, drop, nat_le, nat_lt, refl, sym, ap, arith}
use Rattle.std.specs.Prelude.{if◌then◌else◌, is_some, option_and_then, option_map}
use Rattle.std.specs.List.{list_all}
use Rattle.csv_rows.specs.Rows.{Fields}
use Rattle.irv_base.specs.Names.{Id, candidate_named, is_among, is_name, is_same}
use Rattle.irv_base.specs.Records.{firsts}
use Rattle.irv_base.specs.declared.limits.TheConstants.{MOST_RECORDS}
use Rattle.irv_base.proofs.Positions.{some_position}
use Rattle.ballots.specs.Grammar.{Ballot, Contest, all_of, ballot_for, ballot_ids, ballot_in, ballot_of, ballot_with, ballots_after, ballots_in, contest_with_id, is_marked, ranking_of}
use Rattle.ballots.specs.declared.fault.BRule.{BRule}
use Rattle.ballots.specs.declared.fault.BRule.TheVariants.{B4, B6, B7, B8, B9, B10}
use Rattle.ballot_laws.specs.Rows.{ballot_contest, ballot_id, ballots_for, candidates_for, contest_id, preferences}
use Rattle.ballot_laws.specs.Breaking.{ballot_rule, first_broken}
use Rattle.ballot_laws.proofs.Heads.{IsFound, IsLost, finds, head_of}
use Rattle.ballot_laws.proofs.Walk.{Judges, and_then-same, as_judged, length-numbered, numbered, walk}

-- ---- a ranking

abbrev pub ranking_or_none : Option (List ℕ) → List ℕ
ranking_or_none None = []
ranking_or_none (Some ranking) = ranking

abbrev pub ranking_in : List Id → Fields → List ℕ
ranking_in candidates row = ranking_or_none (ranking_of candidates (drop 2 row))

pub some-among : (candidates : List Id) (id : Id) → is_some (candidate_named candidates id) ≡ is_among candidates id
some-among candidates id = some_position (λ other. is_same other id) candidates

pub some-all : (candidates ids : List Id) → is_some (all_of (candidate_named candidates) ids) ≡ list_all (is_among candidates) ids
some-all candidates [] = refl
some-all candidates (id ∷ ids) = by (candidate_named candidates id) (all_of (candidate_named candidates) ids)
    ∙ ap (λ b. b && is_some (all_of (candidate_named candidates) ids)) (some-among candidates id)
    ∙ ap (λ b. is_among candidates id && b) (some-all candidates ids) where
      by : (o : Option ℕ) (p : Option (List ℕ)) → is_some (option_and_then (λ y. option_map (λ ys. y ∷ ys) p) o) ≡ (is_some o && is_some p)
      by None p = refl
      by (Some c) None = refl
      by (Some c) (Some cs) = refl

pub some-ranking : (candidates : List Id) (row : Fields) → is_some (ranking_of candidates (drop 2 row)) ≡ list_all (is_among candidates) (preferences row)
some-ranking candidates row = by (all_of (candidate_named candidates) (preferences row)) ∙ some-all candidates (preferences row) where
  by : (o : Option (List ℕ)) → is_some (option_map firsts o) ≡ is_some o
  by None = refl
  by (Some cs) = refl

-- ---- one record

abbrev pub ballot_said : List Fields → ℕ → Fields → Ballot
ballot_said contests at row = record {
  at = at;
  contest = ballot_contest row;
  id = ballot_id row;
  ranking = ranking_in
      (candidates_for contests (ballot_contest row)) row;
}

pub ids-numbered : (contests : List Fields) (id : Id) (first : ℕ) (rows : List Fields) → ballot_ids id (numbered (ballot_said contests) first rows)
    ≡ map ballot_id (ballots_for id rows)
ids-numbered contests id first [] = refl
ids-numbered contests id first (row ∷ rows) = by (is_same (ballot_contest row) id) (ids-numbered contests id (first + 1) rows) where
  more : List Ballot
  more = ballots_in id (numbered (ballot_said contests) (first + 1) rows)

  by : (b : Bool) → map (λ (ballot : Ballot). ballot.id) more ≡ map ballot_id (ballots_for id rows) →
      map (λ (ballot : Ballot). ballot.id) (if b then ballot_said contests first row ∷ more else more)
      ≡ map ballot_id (if b then row ∷ ballots_for id rows else ballots_for id rows)
  by true h = ap (λ ids. ballot_id row ∷ ids) h
  by false h = h

long : (n : ℕ) → nat_le 2 (suc (suc n)) ≡ true
long n = grind arith

module _ (contests : List Fields) (a first : ℕ) (before : List Fields) (at : ℕ) (of id : Id) (more : Fields) where
  abbrev row : Fields
  row = of ∷ id ∷ more

  abbrev said : Ballot
  said = ballot_said contests at row

  abbrev heads : List Contest
  heads = numbered head_of a contests

  abbrev earlier : List Ballot
  earlier = numbered (ballot_said contests) first before

  abbrev candidates : List Id
  candidates = candidates_for contests of

  abbrev last_rule : BRule × Bool
  last_rule = (B8, list_all (is_among candidates) (preferences row))

  ranked : ballot_with at of id (ranking_of candidates more) ≡ as_judged (first_broken (last_rule ∷ [])) said
  ranked = by (ranking_of candidates more) ∙ ap (λ b. as_judged (first_broken ((B8, b) ∷ [])) said) (some-ranking candidates row) where
    by : (o : Option (List ℕ)) → ballot_with at of id o ≡ as_judged (first_broken ((B8, is_some o) ∷ []))
        (record { at = at; contest = of; id = id; ranking = ranking_or_none o })
    by None = refl
    by (Some ranking) = refl

  new : (b : Bool) → (if b then Err B9 else ballot_with at of id (ranking_of candidates more)) ≡ as_judged (first_broken ((B9, not b) ∷ last_rule ∷ [])) said
  new true = refl
  new false = ranked

  abbrev repeated : Bool
  repeated = is_among (map ballot_id (ballots_for of before)) id

  in_contest : IsFound a contests of ⊎ IsLost a contests of → ballot_for earlier at id more (contest_with_id heads of)
      ≡ as_judged (first_broken ((B7, is_among (map contest_id contests) of) ∷ (B9, not repeated) ∷ last_rule ∷ [])) said
  in_contest (inl found) =
      ap (ballot_for earlier at id more) found.is
      ∙ ap (λ ids. if is_among ids id then Err B9 else ballot_with at of id (ranking_of candidates more)) (ids-numbered contests of first before)
      ∙ new repeated
      ∙ ap (λ b. as_judged (first_broken ((B7, b) ∷ (B9, not repeated) ∷ last_rule ∷ [])) said) (sym found.among)
  in_contest (inr lost) =
      ap (ballot_for earlier at id more) lost.is
      ∙ ap (λ b. as_judged (first_broken ((B7, b) ∷ (B9, not repeated) ∷ last_rule ∷ [])) said) (sym lost.among)

  abbrev rules : List (BRule × Bool)
  rules = (B7, is_among (map contest_id contests) of) ∷ (B9, not repeated) ∷ last_rule ∷ []

  with_name : (b : Bool) → (if b then ballot_for earlier at id more (contest_with_id heads of) else Err B4) ≡ as_judged (first_broken ((B4, b) ∷ rules)) said
  with_name true = in_contest (finds a contests of)
  with_name false = refl

  pub judged : ballot_in heads earlier at row ≡ as_judged (first_broken ((B6, nat_le 2 (length row)) ∷ (B4, is_name id) ∷ rules)) said
  judged = with_name (is_name id) ∙ ap (λ b. as_judged (first_broken ((B6, b) ∷ (B4, is_name id) ∷ rules)) said) (sym (long (length more)))

pub judges_ballots : (contests : List Fields) (a : ℕ) → Judges (ballot_of (numbered head_of a contests)) (ballot_rule contests) (ballot_said contests)
judges_ballots contests a first before at row =
    ap (λ n. if nat_lt n MOST_RECORDS then ballot_in heads earlier at row else Err B10) (length-numbered (ballot_said contests) first before)
    ∙ by (nat_lt (length before) MOST_RECORDS)
  where
    heads : List Contest
    heads = numbered head_of a contests

    earlier : List Ballot
    earlier = numbered (ballot_said contests) first before

    rules : Fields → List (BRule × Bool)
    rules row =
        (B6, nat_le 2 (length row))
        ∷ (B4, is_name (ballot_id row))
        ∷ (B7, is_among (map contest_id contests) (ballot_contest row))
        ∷ (B9, not (is_among (map ballot_id (ballots_for (ballot_contest row) before)) (ballot_id row)))
        ∷ (B8, list_all (is_among (candidates_for contests (ballot_contest row))) (preferences row))
        ∷ []

    inside : (row : Fields) → ballot_in heads earlier at row ≡ as_judged (first_broken (rules row)) (ballot_said contests at row)
    inside [] = refl
    inside (of ∷ []) = refl
    inside (of ∷ id ∷ more) = judged contests a first before at of id more

    by : (b : Bool) → (if b then ballot_in heads earlier at row else Err B10) ≡ as_judged (first_broken ((B10, b) ∷ rules row)) (ballot_said contests at row)
    by true = inside row
    by false = refl

-- ---- all of them

pub ballots-walk : (contests : List Contest) (before : List Ballot) (at : ℕ) (rows : List Fields) →
    ballots_after contests before at rows ≡ walk (ballot_of contests) before at rows
ballots-walk contests before at [] = refl
ballots-walk contests before at (row ∷ rows) =
    and_then-same at (ballot_of contests before at row) (λ ballot. ballots_after contests (before ++ ballot ∷ []) (at + 1) rows)
    (λ ballot. walk (ballot_of contests) (before ++ ballot ∷ []) (at + 1) rows)
    (λ ballot. ballots-walk contests (before ++ ballot ∷ []) (at + 1) rows)
