-- The outcome of the reader's grammar, in terms of the records only.
use Rattle.std.proofs.Common.{inl, inr, ◌≡◌, ◌⊎◌, ◌∙◌, ◌∷◌, [], ◌+◌, ◌<◌, ◌≤◌, ◌&&◌, ℕ, Bool, true, false, List, Option, Some, None, Result, Ok, length, map, take, drop, nat_le, nat_lt, refl, sym, ap, arith, lt-ltb, ltb-true, ltb-false}
use Rattle.std.specs.Prelude.{if◌then◌else◌, option_and_then}
use Rattle.std.specs.List.{range_with_len}
use Rattle.std.specs.Cmp.Lexicographic.{bytes_decides}
use Rattle.std.proofs.lemmas.Bool.{cases_Bool}
use Rattle.csv_rows.specs.Broken.{IsFirstBroken}
use Rattle.csv_rows.specs.Numbers.{number_of}
use Rattle.csv_rows.specs.Rows.{Fields}
use Rattle.irv_base.specs.Names.{Id}
use Rattle.ballots.specs.Ballots.{BallotFile}
use Rattle.ballots.specs.Grammar.{Ballot, Contest, asked_for, ballot_of, ballots_after, ballots_behind, ballots_from, ballots_in, contest_count, contest_of, file_of, audited_contest, then_on}
use Rattle.file_fault.specs.Refusals.{Refusal, refused}
use Rattle.ballots.specs.declared.fault.BRule.{BRule}
use Rattle.ballots.specs.declared.fault.BRule.TheVariants.{B1, B2, B3, B5}
use Rattle.ballots.specs.declared.limits.TheConstants.{MOST_CONTESTS}
use Rattle.ballot_laws.specs.Rows.{asked_place, ballot_contest, ballot_id, ballots, candidates_for, candidates_in, contest_id, contests, count, is_counted, places_of, record_at}
use Rattle.manifest.specs.Spelling.{number_or_0}
use Rattle.ballot_laws.specs.Breaking.{AreUnbroken, HasContests, IsRefused, ballot_rule, choice_refused, contest_rule, has_auditable_size}
use Rattle.ballot_laws.proofs.Ballots.{ballot_said, ballots-walk, judges_ballots, ranking_in}
use Rattle.ballot_laws.proofs.Differ.{contests-differ}
use Rattle.ballot_laws.proofs.Heads.{contests-walk, head_of, if_all, judges_contests}
use Rattle.ballot_laws.proofs.Places.{IsAsked, all-taken, ballot-record, ballots-numbered, contest-record, few-taken, map-filter, map-same, map-twice, none-asked, own-candidates, some-asked, votes_in}
use Rattle.ballot_laws.proofs.Walk.{decided, numbered, walk, walk-broken, walk-fine}

-- ---- the number of contests

counted-by : (first : Fields) (rest : List Fields) → contest_count first ≡ (if is_counted (first ∷ rest) then Some (count (first ∷ rest)) else None)
counted-by [] rest = refl
counted-by (number ∷ more) rest = by (number_of number) where
  by : (o : Option ℕ) → option_and_then (λ n. if nat_le 1 n && nat_le n MOST_CONTESTS then Some n else None) o
      ≡ (if nat_le 1 (number_or_0 o) && nat_le (number_or_0 o) MOST_CONTESTS then Some (number_or_0 o) else None)
  by None = refl
  by (Some n) = refl

pub uncounted : (asked : Option Id) (rows : List Fields) → is_counted rows ≡ false → ballots_from asked rows ≡ refused B1 1
uncounted asked [] h = refl
uncounted asked (first ∷ rest) h =
    ap (λ o. ballots_behind o asked rest) (counted-by first rest ∙ ap (λ b. if b then Some (count (first ∷ rest)) else None) h)

counted : (asked : Option Id) (first : Fields) (rest : List Fields) → is_counted (first ∷ rest) ≡ true →
    ballots_from asked (first ∷ rest) ≡ ballots_behind (Some (count (first ∷ rest))) asked rest
counted asked first rest h =
    ap (λ o. ballots_behind o asked rest) (counted-by first rest ∙ ap (λ b. if b then Some (count (first ∷ rest)) else None) h)

-- ---- the contests

abbrev with_contests : Option Id → ℕ → List Fields → List Contest → Result BallotFile (Refusal BRule)
with_contests asked n rest heads =
    then_on (audited_contest (asked_for heads asked)) (λ audited. then_on (ballots_after heads [] (2 + n) (drop n rest)) (λ bs. Ok (file_of audited bs)))

pub contest-broken : (asked : Option Id) (rows : List Fields) (k : ℕ) (rule : BRule) → is_counted rows ≡ true →
    IsFirstBroken contest_rule (contests rows) k rule → ballots_from asked rows ≡ refused rule (2 + k)
contest-broken asked [] k rule c h = absurd cc
contest-broken asked (first ∷ rest) k rule c h =
    let n = count (first ∷ rest) in
    counted asked first rest c
    ∙ ap (λ r. then_on r (with_contests asked n rest))
    (contests-walk n [] 2 rest ∙ ap (λ r. then_on r (if_all n (length (take n rest)) (2 + length (take n rest))))
    (walk-broken contest_of contest_rule head_of 2 judges_contests (take n rest) k rule h))

pub contest-lacking : (asked : Option Id) (rows : List Fields) → is_counted rows ≡ true → AreUnbroken contest_rule (contests rows) →
    length (contests rows) < count rows → ballots_from asked rows ≡ refused B2 (length rows + 1)
contest-lacking asked [] c h less = absurd cc
contest-lacking asked (first ∷ rest) c h less =
    let n = count (first ∷ rest) in
    let there = length (take n rest) in
    let heads = numbered head_of 2 (take n rest) in
    counted asked first rest c
    ∙ ap (λ r. then_on r (with_contests asked n rest))
    (contests-walk n [] 2 rest ∙ ap (λ r. then_on r (if_all n there (2 + there))) (walk-fine contest_of contest_rule head_of 2 judges_contests (take n rest) h)
    ∙ ap (λ b. if b then refused B2 (2 + there) else Ok heads) (lt-ltb there n less))
    ∙ ap (refused B2) (omega (arith, all-taken n rest less))

pub contests-read : (asked : Option Id) (first : Fields) (rest : List Fields) → HasContests (first ∷ rest)
    → ballots_from asked (first ∷ rest) ≡ with_contests asked (count (first ∷ rest)) rest (numbered head_of 2 (contests (first ∷ rest)))
contests-read asked first rest has =
    let n = count (first ∷ rest) in
    let there = length (take n rest) in
    let heads = numbered head_of 2 (take n rest) in
    counted asked first rest has.counted
    ∙ ap (λ r. then_on r (with_contests asked n rest))
    (contests-walk n [] 2 rest ∙ ap (λ r. then_on r (if_all n there (2 + there)))
    (walk-fine contest_of contest_rule head_of 2 judges_contests (take n rest) has.unbroken)
    ∙ ap (λ b. if b then refused B2 (2 + there) else Ok heads) (none-less there n has.all_there))
  where
    none-less : (a n : ℕ) → a ≡ n → nat_lt a n ≡ false
    none-less a n h = grind arith

-- ---- the contest that is audited

pub own-record : (rows : List Fields) (own : ℕ) (asked : Option Id) (a : IsAsked asked (contests rows) own) → record_at rows own ≡ a.row
own-record rows own asked a = ap (record_at rows) a.own_is ∙ contest-record rows a.k a.row a.there

abbrev sized_by : List Fields → Option ℕ → Result Contest (Refusal BRule)
sized_by rows None = refused B5 1
sized_by rows (Some own) = if has_auditable_size (record_at rows own) then Ok (head_of own (record_at rows own)) else refused B3 own

chosen : (asked : Option Id) (rows : List Fields) → audited_contest (asked_for (numbered head_of 2 (contests rows)) asked)
    ≡ sized_by rows (asked_place asked (contests rows))
chosen asked rows = by (asked_place asked (contests rows)) refl where
  by : (o : Option ℕ) → asked_place asked (contests rows) ≡ o → audited_contest (asked_for (numbered head_of 2 (contests rows)) asked) ≡ sized_by rows o
  by None e = ap audited_contest (none-asked asked (contests rows) e)
  by (Some own) e =
      let a = some-asked asked (contests rows) own e in
      ap audited_contest a.found ∙ ap (λ r. if has_auditable_size r then Ok (head_of own r) else refused B3 own) (sym (own-record rows own asked a))

abbrev rule_or : Option (BRule × ℕ) → BRule
rule_or None = B1
rule_or (Some broken) = broken.0

abbrev place_or : Option (BRule × ℕ) → ℕ
place_or None = 0
place_or (Some broken) = broken.1

abbrev size_refused : ℕ → Bool → Option (BRule × ℕ)
size_refused own b = if b then None else Some (B3, own)

not-chosen : (rows : List Fields) (o : Option ℕ) (rule : BRule) (at : ℕ) → choice_refused rows o ≡ Some (rule, at) → sized_by rows o ≡ refused rule at
not-chosen rows None rule at h = ap (λ x. refused x 1) (ap rule_or h) ∙ ap (refused rule) (ap place_or h)
not-chosen rows (Some own) rule at h = by (has_auditable_size (record_at rows own)) h where
  by : (b : Bool) → size_refused own b ≡ Some (rule, at) → (if b then Ok (head_of own (record_at rows own)) else refused B3 own) ≡ refused rule at
  by true g = absurd cc
  by false g = ap (λ x. refused x own) (ap rule_or g) ∙ ap (refused rule) (ap place_or g)

pub record IsChosen (asked : Option Id) (rows : List Fields) (own : ℕ) : Type 0 where
  pub asked_for : asked_place asked (contests rows) ≡ Some own
  pub size : has_auditable_size (record_at rows own) ≡ true

pub some-chosen : (asked : Option Id) (rows : List Fields) → choice_refused rows (asked_place asked (contests rows)) ≡ None →
    (own : ℕ) × IsChosen asked rows own
some-chosen asked rows h = by (asked_place asked (contests rows)) refl h where
  by : (o : Option ℕ) → asked_place asked (contests rows) ≡ o → choice_refused rows o ≡ None → (own : ℕ) × IsChosen asked rows own
  by None e g = absurd cc
  by (Some own) e g = (own, record { asked_for = e; size = true-of (has_auditable_size (record_at rows own)) g }) where
    true-of : (b : Bool) → size_refused own b ≡ None → b ≡ true
    true-of true f = refl
    true-of false f = absurd cc

pub choice-refused : (asked : Option Id) (rows : List Fields) (rule : BRule) (at : ℕ) → HasContests rows →
    choice_refused rows (asked_place asked (contests rows)) ≡ Some (rule, at) → ballots_from asked rows ≡ refused rule at
choice-refused asked [] rule at has h = absurd (let e = has.counted in cc)
choice-refused asked (first ∷ rest) rule at has h =
    let rows = first ∷ rest in
    let heads = numbered head_of 2 (contests rows) in
    contests-read asked first rest has
    ∙ ap (λ r. then_on r (λ audited. then_on (ballots_after heads [] (2 + count rows) (drop (count rows) rest)) (λ bs. Ok (file_of audited bs))))
    (chosen asked rows ∙ not-chosen rows (asked_place asked (contests rows)) rule at h)

-- ---- the ballots

abbrev ballots_said : List Fields → Result (List Ballot) (Refusal BRule)
ballots_said rows = walk (ballot_of (numbered head_of 2 (contests rows))) [] (2 + count rows) (ballots rows)

with-choice : (asked : Option Id) (rows : List Fields) (own : ℕ) → HasContests rows → IsChosen asked rows own
    → ballots_from asked rows ≡ then_on (ballots_said rows) (λ bs. Ok (file_of (head_of own (record_at rows own)) bs))
with-choice asked [] own has c = absurd (let e = has.counted in cc)
with-choice asked (first ∷ rest) own has c =
    let rows = first ∷ rest in
    let heads = numbered head_of 2 (contests rows) in
    let head = head_of own (record_at rows own) in
    contests-read asked first rest has
    ∙ ap (λ r. then_on r (λ audited. then_on (ballots_after heads [] (2 + count rows) (drop (count rows) rest)) (λ bs. Ok (file_of audited bs))))
    (chosen asked rows ∙ ap (sized_by rows) c.asked_for ∙ ap (λ b. if b then Ok head else refused B3 own) c.size)
    ∙ ap (λ r. then_on r (λ bs. Ok (file_of head bs))) (ballots-walk heads [] (2 + count rows) (ballots rows))

pub ballot-broken : (asked : Option Id) (rows : List Fields) (own k : ℕ) (rule : BRule) → HasContests rows → IsChosen asked rows own →
    IsFirstBroken (ballot_rule (contests rows)) (ballots rows) k rule
    → ballots_from asked rows ≡ refused rule (2 + count rows + k)
ballot-broken asked rows own k rule has c h =
    with-choice asked rows own has c
    ∙ ap (λ r. then_on r (λ bs. Ok (file_of (head_of own (record_at rows own)) bs)))
    (walk-broken (ballot_of (numbered head_of 2 (contests rows))) (ballot_rule (contests rows)) (ballot_said (contests rows)) (2 + count rows)
    (judges_ballots (contests rows) 2) (ballots rows) k rule h)

-- ---- the file

abbrev pub file_with : Id → List Id → List Id → List ℕ → List (List ℕ) → BallotFile
file_with contest candidates ids places rankings = record { contest = contest; candidates = candidates; ids = ids; places = places; rankings = rankings }

abbrev pub file_in : List Fields → ℕ → BallotFile
file_in rows own =
    let row = record_at rows own in
    let places = places_of (contest_id row) rows in
    file_with (contest_id row) (candidates_in row) (map (λ at. ballot_id (record_at rows at)) places) places
    (map (λ at. ranking_in (candidates_in row) (record_at rows at)) places)

pub record IsRead (asked : Option Id) (rows : List Fields) (own : ℕ) : Type 0 where
  pub has : HasContests rows
  pub is_chosen : IsChosen asked rows own
  pub unbroken : AreUnbroken (ballot_rule (contests rows)) (ballots rows)

file-is : (asked : Option Id) (rows : List Fields) (own : ℕ) → IsRead asked rows own →
    file_of (head_of own (record_at rows own)) (numbered (ballot_said (contests rows)) (2 + count rows) (ballots rows)) ≡ file_in rows own
file-is asked rows own r = rw (ids, places, rankings) refl where
  row : Fields
  row = record_at rows own

  id : Id
  id = contest_id row

  said : ℕ → Ballot
  said at = ballot_said (contests rows) at (record_at rows at)

  listed : List ℕ
  listed = places_of id rows

  own-ballots : List Ballot
  own-ballots = ballots_in id (numbered (ballot_said (contests rows)) (2 + count rows) (ballots rows))

  are : own-ballots ≡ map said listed
  are = ballots-numbered rows (contests rows) id (2 + count rows) (ballots rows) (ballot-record rows)

  ids : map (λ (b : Ballot). b.id) own-ballots ≡ map (λ at. ballot_id (record_at rows at)) listed
  ids = ap (map (λ (b : Ballot). b.id)) are ∙ map-twice said (λ (b : Ballot). b.id) listed

  places : map (λ (b : Ballot). b.at) own-ballots ≡ listed
  places = ap (map (λ (b : Ballot). b.at)) are ∙ map-twice said (λ (b : Ballot). b.at) listed ∙ map-same listed

  candidates : candidates_for (contests rows) id ≡ candidates_in row
  candidates =
      let a = some-asked asked (contests rows) own r.is_chosen.asked_for in
      let e = own-record rows own asked a in
      ap (λ x. candidates_for (contests rows) (contest_id x)) e
      ∙ own-candidates (contests rows) a.k a.row (contests-differ (contests rows) r.has.unbroken) a.there ∙ ap candidates_in (sym e)

  rankings : map (λ (b : Ballot). b.ranking) own-ballots ≡ map (λ at. ranking_in (candidates_in row) (record_at rows at)) listed
  rankings =
      ap (map (λ (b : Ballot). b.ranking)) are ∙ map-twice said (λ (b : Ballot). b.ranking) listed
      ∙ map-filter (votes_in rows id) (λ at. ranking_in (candidates_for (contests rows) (ballot_contest (record_at rows at))) (record_at rows at))
      (λ at. ranking_in (candidates_in row) (record_at rows at)) (range_with_len (2 + count rows) (length (ballots rows)))
      (λ at t. ap (λ x. ranking_in (candidates_for (contests rows) x) (record_at rows at)) ((bytes_decides (ballot_contest (record_at rows at)) id).0 t)
      ∙ ap (λ cs. ranking_in cs (record_at rows at)) candidates)

pub all-read : (asked : Option Id) (rows : List Fields) (own : ℕ) → IsRead asked rows own → ballots_from asked rows ≡ Ok (file_in rows own)
all-read asked rows own r =
    with-choice asked rows own r.has r.is_chosen
    ∙ ap (λ said. then_on said (λ bs. Ok (file_of (head_of own (record_at rows own)) bs)))
    (walk-fine (ballot_of (numbered head_of 2 (contests rows))) (ballot_rule (contests rows)) (ballot_said (contests rows)) (2 + count rows)
    (judges_ballots (contests rows) 2) (ballots rows) r.unbroken)
    ∙ ap Ok (file-is asked rows own r)

-- ---- each way

pub refused-so : (asked : Option Id) (rows : List Fields) (rule : BRule) (at : ℕ) → IsRefused asked rows rule at → ballots_from asked rows ≡ refused rule at
refused-so asked rows rule at (inl u) = uncounted asked rows u.uncounted ∙ ap (λ x. refused x 1) (sym u.rule_is) ∙ ap (refused rule) (sym u.at_is)
refused-so asked rows rule at (inr (inl b)) = contest-broken asked rows b.k rule b.counted b.first ∙ ap (refused rule) (sym b.at_is)
refused-so asked rows rule at (inr (inr (inl l))) = contest-lacking asked rows l.counted l.unbroken l.missing
    ∙ ap (λ x. refused x (length rows + 1)) (sym l.rule_is) ∙ ap (refused rule) (sym l.at_is)
refused-so asked rows rule at (inr (inr (inr (inl c)))) = choice-refused asked rows rule at c.has c.refused
refused-so asked rows rule at (inr (inr (inr (inr b)))) =
    let (own, c) = some-chosen asked rows b.chosen in
    ballot-broken asked rows own b.k rule b.has c b.first ∙ ap (refused rule) (sym b.at_is)

pub decides : (asked : Option Id) (rows : List Fields) → ((own : ℕ) × IsRead asked rows own) ⊎ ((rule : BRule) × (at : ℕ) × IsRefused asked rows rule at)
decides asked rows = elim (cases_Bool (is_counted rows)) [
  | inr f ↦ inr (B1, 1, inl (record { uncounted = f; rule_is = refl; at_is = refl }))
  | inl t ↦ elim (decided contest_of contest_rule head_of 2 judges_contests (contests rows)) [
    | inr b ↦ inr (b.1, 2 + b.0, inr (inl (record { counted = t; k = b.0; first = b.2; at_is = refl })))
    | inl u ↦ elim (cases_Bool (nat_lt (length (contests rows)) (count rows))) [
      | inl less ↦ inr (
        B2,
        length rows + 1,
        inr (inr (inl (record { counted = t; unbroken = u; missing = ltb-true (length (contests rows)) (count rows) less; rule_is = refl; at_is = refl }))),
      )
      | inr all ↦ chosen-or (record { counted = t; all_there = there (ltb-false (length (contests rows)) (count rows) all); unbroken = u })
          (choice_refused rows (asked_place asked (contests rows))) refl
    ]
  ]
]
  where
    there : (count rows ≤ length (contests rows)) → length (contests rows) ≡ count rows
    there h = omega (arith, h, few-taken (count rows) (drop 1 rows))

    chosen-or : HasContests rows → (o : Option (BRule × ℕ)) → choice_refused rows (asked_place asked (contests rows)) ≡ o
        → ((own : ℕ) × IsRead asked rows own) ⊎ ((rule : BRule) × (at : ℕ) × IsRefused asked rows rule at)
    chosen-or has (Some broken) e = inr (broken.0, broken.1, inr (inr (inr (inl (record { has = has; refused = e })))))
    chosen-or has None e = elim (decided (ballot_of (numbered head_of 2 (contests rows))) (ballot_rule (contests rows)) (ballot_said (contests rows))
        (2 + count rows) (judges_ballots (contests rows) 2) (ballots rows)) [
          | inl u ↦ let (own, c) = some-chosen asked rows e in inl (own, record { has = has; is_chosen = c; unbroken = u })
          | inr b ↦ inr (b.1, 2 + count rows + b.0, inr (inr (inr (inr (record { has = has; chosen = e; k = b.0; first = b.2; at_is = refl })))))
        ]
