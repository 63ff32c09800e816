-- A ballot file without its other contests says the same of the contest that is left.
use Rattle.std.proofs.Common.{◌≡◌, ◌≤◌, ◌<◌, ◌+◌, ◌∙◌, ◌++◌, ◌∷◌, [], ◌||◌, inl, inr, ℕ, zero, suc, Bool, true, false, not, cond, List, Option, Some, None, Result, Ok, Err, length, map, filter, take, drop, nat_lt, refl, sym, ap, subst, arith, append-nil, append_assoc, length-append, codes, ltb-true}
use Rattle.std.specs.Prelude.{find, if◌then◌else◌}
use Rattle.std.specs.List.{list_any, slice_get}
use Rattle.std.proofs.lemmas.Bool.{cases_Bool, false≢true}
use Rattle.std.proofs.lemmas.List.{map-append}
use Rattle.csv_rows.specs.Rows.{Fields}
use Rattle.irv_base.specs.Names.{Id, all_differ, is_among, is_name, is_same}
use Rattle.irv_base.specs.declared.limits.TheConstants.{MOST_RECORDS}
use Rattle.ballots.specs.Ballots.{BallotFile}
use Rattle.ballots.specs.Grammar.{Ballot, Contest, contest_count, contests_behind, contests_from, has_audited_size, then_on, unless_unsized, ballot_for, ballot_ids, ballot_in, ballot_of, ballot_with, ballots_after, ballots_in, contest_named, contest_of, contest_with, contest_with_id, contests_in, file_of, has_id, listed, names_of, number_up_to, ranking_of}
use Rattle.file_fault.specs.Refusals.{and_then, Refusal}
use Rattle.ballots.specs.declared.fault.BRule.{BRule}
use Rattle.ballots.specs.declared.fault.BRule.TheVariants.{B2, B4, B7, B9, B10}
use Rattle.ballots.specs.declared.limits.TheConstants.{MOST_LISTED}
use Rattle.ballot_reader.specs.Kept.{contest_ids as ids_of_contests}
use Rattle.ballot_reader.proofs.Adding.{apart, elsewhere as not-there, ids-other, ids-own, pushed-other, pushed-own, same-comm, same-refl}
use Rattle.ballot_reader.proofs.Behind.{after_all, after_listed, listed as after-contests}
use Rattle.ballot_reader.proofs.Contests.{AreListed, all_listed, none_listed}
use Rattle.ballot_ids.proofs.Differing.{or-false}
use Rattle.manifest.proofs.Numbers.{same-equal}
use Rattle.contests_command.specs.Alone.{SaidAlone, alone, alone_behind, is_ballot_of, lists}

-- ---- the record of a contest

own-id : (at : ℕ) (id : Id) (o : Option (List Id)) (c : Contest) → contest_with at id o ≡ Ok c → c.id ≡ id
own-id at id None c h = absurd cc
own-id at id (Some ids) c h = by (is_name id) (names_of ids) h where
  by : (b : Bool) (o : Option (List Id)) → (if b then contest_named at id o else Err B4) ≡ Ok c → c.id ≡ id
  by false o g = absurd cc
  by true None g = absurd cc
  by true (Some candidates) g = let s : record { at = at; id = id; candidates = candidates } ≡ c = cc in ap (λ (x : Contest). x.id) (sym s)

elsewhere : (at other : ℕ) (id : Id) (o : Option (List Id)) (c : Contest) → contest_with at id o ≡ Ok c →
    contest_with other id o ≡ Ok (record c { at = other })
elsewhere at other id None c h = absurd cc
elsewhere at other id (Some ids) c h = by (is_name id) (names_of ids) h where
  by : (b : Bool) (o : Option (List Id)) → (if b then contest_named at id o else Err B4) ≡ Ok c →
      (if b then contest_named other id o else Err B4) ≡ Ok (record c { at = other })
  by false o g = absurd cc
  by true None g = absurd cc
  by true (Some candidates) g =
      let s : record { at = at; id = id; candidates = candidates } ≡ c = cc in ap (λ (x : Contest). Ok (record x { at = other })) s

-- the facts about a record that is accepted
record IsRead (earlier : List Contest) (row : Fields) (c : Contest) : Type 0 where
  pub named : (id : Id) → lists id row ≡ is_same c.id id
  pub new : list_any (has_id c.id) earlier ≡ false
  pub alone : contest_of [] 2 row ≡ Ok (record c { at = 2 })

is-read : (earlier : List Contest) (at : ℕ) (row : Fields) (c : Contest) → contest_of earlier at row ≡ Ok c → IsRead earlier row c
is-read earlier at [] c h = absurd cc
is-read earlier at (word ∷ []) c h = absurd cc
is-read earlier at (word ∷ id ∷ []) c h = absurd cc
is-read earlier at (word ∷ id ∷ number ∷ ids) c h = by (not (is_same word (codes "Contest")) || list_any (has_id id) earlier) refl h where
  named : Option (List Id)
  named = listed (number_up_to MOST_LISTED number) ids

  by : (b : Bool) → (not (is_same word (codes "Contest")) || list_any (has_id id) earlier) ≡ b →
      (if b then Err B2 else contest_with at id (listed (number_up_to MOST_LISTED number) ids)) ≡ Ok c →
      IsRead earlier (word ∷ id ∷ number ∷ ids) c
  by true e g = absurd cc
  by false e g =
      let (is-word, fresh) = or-false (not (is_same word (codes "Contest"))) (list_any (has_id id) earlier) e in
      let same : c.id ≡ id = own-id at id (listed (number_up_to MOST_LISTED number) ids) c g in
      record {
        named = λ other. ap (λ x. is_same x other) (sym same);
        new = ap (λ x. list_any (has_id x) earlier) same ∙ fresh;
        alone = ap (λ b. if b || false then Err B2 else contest_with 2 id (listed (number_up_to MOST_LISTED number) ids)) is-word
            ∙ elsewhere at 2 id (listed (number_up_to MOST_LISTED number) ids) c g;
      }

-- ---- the records of all contests

any-push : {X : Type 0} (p : X → Bool) (xs : List X) (x : X) → list_any p (xs ++ x ∷ []) ≡ (list_any p xs || p x)
any-push p [] x = by (p x) where
  by : (b : Bool) → (b || false) ≡ (false || b)
  by true = refl
  by false = refl
any-push {X} p (y ∷ xs) x = by (p y) (any-push p xs x) where
  by : (b : Bool) → list_any p (xs ++ x ∷ []) ≡ (list_any p xs || p x) → (b || list_any p (xs ++ x ∷ [])) ≡ ((b || list_any p xs) || p x)
  by true e = refl
  by false e = e

or-true : (a b : Bool) → b ≡ true → (a || b) ≡ true
or-true true b e = refl
or-true false b e = e

none-found : {X : Type 0} (p : X → Bool) (xs : List X) → list_any p xs ≡ false → find p xs ≡ None
none-found p [] h = refl
none-found p (x ∷ xs) h =
    let (first, rest) = or-false (p x) (list_any p xs) h in
    ap (λ b. cond b (Some x) (find p xs)) first ∙ none-found p xs rest

found-first : {X : Type 0} (p : X → Bool) (xs : List X) (x : X) (ys : List X) → list_any p xs ≡ false → p x ≡ true → find p (xs ++ x ∷ ys) ≡ Some x
found-first p [] x ys h t = ap (λ b. cond b (Some x) (find p ys)) t
found-first p (y ∷ xs) x ys h t =
    let (first, rest) = or-false (p y) (list_any p xs) h in
    ap (λ b. cond b (Some y) (find p (xs ++ x ∷ ys))) first ∙ found-first p xs x ys rest t

grown : (n : ℕ) (earlier : List Contest) (at : ℕ) (rows : List Fields) (contests : List Contest) → contests_in n earlier at rows ≡ Ok contests →
    (more : List Contest) × (contests ≡ earlier ++ more)
grown zero earlier at rows contests h = let s : earlier ≡ contests = cc in ([], sym s ∙ sym (append-nil earlier))
grown (suc n) earlier at [] contests h = absurd cc
grown (suc n) earlier at (row ∷ rows) contests h = by (contest_of earlier at row) h (λ c. grown n (earlier ++ c ∷ []) (at + 1) rows contests) where
  by : (o : Result Contest BRule) → and_then at o (λ (c : Contest). contests_in n (earlier ++ c ∷ []) (at + 1) rows) ≡ Ok contests →
      ((c : Contest) → contests_in n (earlier ++ c ∷ []) (at + 1) rows ≡ Ok contests → (more : List Contest) × (contests ≡ (earlier ++ c ∷ []) ++ more)) →
      (more : List Contest) × (contests ≡ earlier ++ more)
  by (Err rule) g next = absurd cc
  by (Ok c) g next = let (more, is) = next c g in (c ∷ more, is ∙ append_assoc earlier (c ∷ []) more)

-- an id that came before isn't listed again
none-listed : (n : ℕ) (earlier : List Contest) (at : ℕ) (rows : List Fields) (contests : List Contest) (id : Id) → list_any (has_id id) earlier ≡ true →
    contests_in n earlier at rows ≡ Ok contests → filter (lists id) (take n rows) ≡ []
none-listed zero earlier at rows contests id stood h = refl
none-listed (suc n) earlier at [] contests id stood h = absurd cc
none-listed (suc n) earlier at (row ∷ rows) contests id stood h =
    by (contest_of earlier at row) refl h (λ c. none-listed n (earlier ++ c ∷ []) (at + 1) rows contests id)
  where
    by : (o : Result Contest BRule) → contest_of earlier at row ≡ o →
        and_then at o (λ (c : Contest). contests_in n (earlier ++ c ∷ []) (at + 1) rows) ≡ Ok contests →
        ((c : Contest) → list_any (has_id id) (earlier ++ c ∷ []) ≡ true → contests_in n (earlier ++ c ∷ []) (at + 1) rows ≡ Ok contests →
        filter (lists id) (take n rows) ≡ []) → filter (lists id) (row ∷ take n rows) ≡ []
    by (Err rule) e g next = absurd cc
    by (Ok c) e g next =
        let is = is-read earlier at row c e in
        elim (cases_Bool (is_same c.id id)) [
          | inl t ↦ absurd (false≢true (sym is.new ∙ ap (λ x. list_any (has_id x) earlier) (same-equal c.id id t) ∙ stood))
          | inr f ↦
              ap (λ b. cond b (row ∷ filter (lists id) (take n rows)) (filter (lists id) (take n rows))) (is.named id ∙ f)
              ∙ next c (any-push (has_id id) earlier c ∙ ap (λ b. b || has_id id c) stood) g
        ]

-- only the contest's own record
record IsListed (n : ℕ) (rows : List Fields) (id : Id) (c : Contest) : Type 0 where
  pub row : Fields
  pub only : filter (lists id) (take n rows) ≡ row ∷ []
  pub alone : contest_of [] 2 row ≡ Ok (record c { at = 2 })

one-listed : (n : ℕ) (earlier : List Contest) (at : ℕ) (rows : List Fields) (contests : List Contest) (id : Id) (c : Contest) →
    list_any (has_id id) earlier ≡ false → contest_with_id contests id ≡ Some c → contests_in n earlier at rows ≡ Ok contests → IsListed n rows id c
one-listed zero earlier at rows contests id c none found h =
    let s : earlier ≡ contests = cc h in
    let no : None ≡ Some c = sym (none-found (has_id id) earlier none) ∙ ap (λ cs. contest_with_id cs id) s ∙ found in
    absurd (cc no)
one-listed (suc n) earlier at [] contests id c none found h = absurd (cc h)
one-listed (suc n) earlier at (row ∷ rows) contests id c none found h =
    by (contest_of earlier at row) refl h (λ d. one-listed n (earlier ++ d ∷ []) (at + 1) rows contests id c)
  where
    by : (o : Result Contest BRule) → contest_of earlier at row ≡ o →
        and_then at o (λ (d : Contest). contests_in n (earlier ++ d ∷ []) (at + 1) rows) ≡ Ok contests →
        ((d : Contest) → list_any (has_id id) (earlier ++ d ∷ []) ≡ false → contest_with_id contests id ≡ Some c →
        contests_in n (earlier ++ d ∷ []) (at + 1) rows ≡ Ok contests → IsListed n rows id c) → IsListed (suc n) (row ∷ rows) id c
    by (Err rule) e g next = absurd (cc g)
    by (Ok d) e g next =
        let is = is-read earlier at row d e in
        elim (cases_Bool (is_same d.id id)) [
          | inl t ↦
              let (more, whole) = grown n (earlier ++ d ∷ []) (at + 1) rows contests g in
              let it : contest_with_id contests id ≡ Some d =
              ap (λ cs. contest_with_id cs id) (whole ∙ append_assoc earlier (d ∷ []) more) ∙ found-first (has_id id) earlier d more none t in
              let both : Some d ≡ Some c = sym it ∙ found in
              let same : d ≡ c = cc both in
              let rest = none-listed n (earlier ++ d ∷ []) (at + 1) rows contests id
              (any-push (has_id id) earlier d ∙ or-true (list_any (has_id id) earlier) (has_id id d) t) g in
              record {
                row = row;
                only = ap (λ b. cond b (row ∷ filter (lists id) (take n rows)) (filter (lists id) (take n rows))) (is.named id ∙ t)
                    ∙ ap (λ rs. row ∷ rs) rest;
                alone = is.alone ∙ ap (λ (x : Contest). Ok (record x { at = 2 })) same;
              }
          | inr f ↦
              let later = next d (any-push (has_id id) earlier d ∙ ap (λ b. b || has_id id d) none ∙ f) found g in
              record {
                row = later.row;
                only = ap (λ b. cond b (row ∷ filter (lists id) (take n rows)) (filter (lists id) (take n rows))) (is.named id ∙ f) ∙ later.only;
                alone = later.alone;
              }
        ]

-- ---- the record of a ballot

-- the facts about a ballot record that is accepted
record IsCast (contests : List Contest) (earlier : List Ballot) (at : ℕ) (row : Fields) (b : Ballot) : Type 0 where
  pub of : Id
  pub id : Id
  pub preferences : Fields
  pub is_row : row ≡ of ∷ id ∷ preferences
  pub room : nat_lt (length earlier) MOST_RECORDS ≡ true
  pub is_named : is_name id ≡ true
  pub contest : Contest
  pub found : contest_with_id contests of ≡ Some contest
  pub fresh : is_among (ballot_ids contest.id earlier) id ≡ false
  pub ranking : List ℕ
  pub ranked : ranking_of contest.candidates preferences ≡ Some ranking
  pub is : b ≡ record { at = at; contest = contest.id; id = id; ranking = ranking }

module _ (contests : List Contest) (earlier : List Ballot) (at : ℕ) (b : Ballot) where
  cast-with : (contest id : Id) (o : Option (List ℕ)) → ballot_with at contest id o ≡ Ok b →
      (ranking : List ℕ) × (o ≡ Some ranking) × (b ≡ record { at = at; contest = contest; id = id; ranking = ranking })
  cast-with contest id None h = absurd (cc h)
  cast-with contest id (Some ranking) h = let s : record { at = at; contest = contest; id = id; ranking = ranking } ≡ b = cc h in (ranking, refl, sym s)

  cast-for : (of id : Id) (preferences : Fields) → nat_lt (length earlier) MOST_RECORDS ≡ true → is_name id ≡ true → (o : Option Contest) →
      contest_with_id contests of ≡ o → ballot_for earlier at id preferences o ≡ Ok b → IsCast contests earlier at (of ∷ id ∷ preferences) b
  cast-for of id preferences room named None e h = absurd (cc h)
  cast-for of id preferences room named (Some contest) e h = by (is_among (ballot_ids contest.id earlier) id) refl h where
    by : (t : Bool) → is_among (ballot_ids contest.id earlier) id ≡ t →
        (if t then Err B9 else ballot_with at contest.id id (ranking_of contest.candidates preferences)) ≡ Ok b →
        IsCast contests earlier at (of ∷ id ∷ preferences) b
    by true f g = absurd (cc g)
    by false f g =
        let (ranking, ranked, is) = cast-with contest.id id (ranking_of contest.candidates preferences) g in
        record {
          of = of;
          id = id;
          preferences = preferences;
          is_row = refl;
          room = room;
          is_named = named;
          contest = contest;
          found = e;
          fresh = f;
          ranking = ranking;
          ranked = ranked;
          is = is;
        }

  cast-in : (row : Fields) → nat_lt (length earlier) MOST_RECORDS ≡ true → ballot_in contests earlier at row ≡ Ok b → IsCast contests earlier at row b
  cast-in [] room h = absurd (cc h)
  cast-in (of ∷ []) room h = absurd (cc h)
  cast-in (of ∷ id ∷ preferences) room h = by (is_name id) refl h where
    by : (t : Bool) → is_name id ≡ t → (if t then ballot_for earlier at id preferences (contest_with_id contests of) else Err B4) ≡ Ok b →
        IsCast contests earlier at (of ∷ id ∷ preferences) b
    by true e g = cast-for of id preferences room e (contest_with_id contests of) refl g
    by false e g = absurd (cc g)

  cast : (row : Fields) → ballot_of contests earlier at row ≡ Ok b → IsCast contests earlier at row b
  cast row h = by (nat_lt (length earlier) MOST_RECORDS) refl h where
    by : (t : Bool) → nat_lt (length earlier) MOST_RECORDS ≡ t → (if t then ballot_in contests earlier at row else Err B10) ≡ Ok b →
        IsCast contests earlier at row b
    by true e g = cast-in row e g
    by false e g = absurd (cc g)

-- what suffices for a ballot record to be accepted
casts : (contests : List Contest) (earlier : List Ballot) (at : ℕ) (of id : Id) (preferences : Fields) (contest : Contest) (ranking : List ℕ) →
    nat_lt (length earlier) MOST_RECORDS ≡ true → is_name id ≡ true → contest_with_id contests of ≡ Some contest →
    is_among (ballot_ids contest.id earlier) id ≡ false → ranking_of contest.candidates preferences ≡ Some ranking →
    ballot_of contests earlier at (of ∷ id ∷ preferences) ≡ Ok (record { at = at; contest = contest.id; id = id; ranking = ranking })
casts contests earlier at of id preferences contest ranking room named found fresh ranked =
    ap (λ t. if t then ballot_in contests earlier at (of ∷ id ∷ preferences) else Err B10) room
    ∙ ap (λ t. if t then ballot_for earlier at id preferences (contest_with_id contests of) else Err B4) named
    ∙ ap (ballot_for earlier at id preferences) found
    ∙ ap (λ t. if t then Err B9 else ballot_with at contest.id id (ranking_of contest.candidates preferences)) fresh
    ∙ ap (ballot_with at contest.id id) ranked

-- ---- the ballots

-- these are the ballots of the contest, with their ids and rankings
record AreOwn (contest : Id) (all mine : List Ballot) : Type 0 where
  pub ids : ballot_ids contest all ≡ map (λ (b : Ballot). b.id) mine
  pub rankings : map (λ (b : Ballot). b.ranking) (ballots_in contest all) ≡ map (λ (b : Ballot). b.ranking) mine
  pub own : ballots_in contest mine ≡ mine
  pub fewer : length mine ≤ length all

less-room : (m n : ℕ) → m ≤ n → nat_lt n MOST_RECORDS ≡ true → nat_lt m MOST_RECORDS ≡ true
less-room m n le room = let less = ltb-true n MOST_RECORDS room in grind (arith, le, less)

module _ (contests : List Contest) (c : Contest) (found : contest_with_id contests c.id ≡ Some c) where
  abbrev only : List Contest
  only = record c { at = 2 } ∷ []

  -- a ballot of the contest
  own-more : (all mine : List Ballot) (b d : Ballot) → AreOwn c.id all mine → b.contest ≡ c.id → d.contest ≡ c.id → b.id ≡ d.id → b.ranking ≡ d.ranking →
      AreOwn c.id (all ++ b ∷ []) (mine ++ d ∷ [])
  own-more all mine b d are of-b of-d ids rankings =
      let here : is_same b.contest c.id ≡ true = ap (λ x. is_same x c.id) of-b ∙ same-refl c.id in
      let there : is_same d.contest c.id ≡ true = ap (λ x. is_same x c.id) of-d ∙ same-refl c.id in
      record {
        ids = ids-own c.id all b here ∙ ap (λ xs. xs ++ b.id ∷ []) are.ids ∙ ap (λ x. map (λ (y : Ballot). y.id) mine ++ x ∷ []) ids
            ∙ sym (map-append (λ (y : Ballot). y.id) mine (d ∷ []));
        rankings = ap (map (λ (y : Ballot). y.ranking)) (pushed-own c.id all b here) ∙ map-append (λ (y : Ballot). y.ranking) (ballots_in c.id all) (b ∷ [])
            ∙ ap (λ xs. xs ++ b.ranking ∷ []) are.rankings ∙ ap (λ x. map (λ (y : Ballot). y.ranking) mine ++ x ∷ []) rankings
            ∙ sym (map-append (λ (y : Ballot). y.ranking) mine (d ∷ []));
        own = pushed-own c.id mine d there ∙ ap (λ xs. xs ++ d ∷ []) are.own;
        fewer = omega (arith, are.fewer, length-append mine (d ∷ []), length-append all (b ∷ []));
      }

  -- a ballot of another contest
  other-more : (all mine : List Ballot) (b : Ballot) → AreOwn c.id all mine → is_same b.contest c.id ≡ false → AreOwn c.id (all ++ b ∷ []) mine
  other-more all mine b are other = record {
    ids = ids-other c.id all b other ∙ are.ids;
    rankings = ap (map (λ (y : Ballot). y.ranking)) (pushed-other c.id all b other) ∙ are.rankings;
    own = are.own;
    fewer = omega (arith, are.fewer, length-append all (b ∷ []));
  }

  -- a contest that is found by an id has it
  found-id : (cs : List Contest) (of : Id) (x : Contest) → contest_with_id cs of ≡ Some x → is_same x.id of ≡ true
  found-id [] of x h = absurd (cc h)
  found-id (d ∷ cs) of x h = by (is_same d.id of) refl h (found-id cs of x) where
    by : (t : Bool) → is_same d.id of ≡ t → cond t (Some d) (contest_with_id cs of) ≡ Some x → (contest_with_id cs of ≡ Some x → is_same x.id of ≡ true) →
        is_same x.id of ≡ true
    by true e g next = let s : d ≡ x = cc g in ap (λ (y : Contest). is_same y.id of) (sym s) ∙ e
    by false e g next = next g

  abbrev Left : List Fields → List Ballot → List Ballot → ℕ → Type 0
  Left rows bs mine place =
      (theirs : List Ballot) × (ballots_after only mine place (filter (is_ballot_of c.id) rows) ≡ Ok theirs) × AreOwn c.id bs theirs

  ballots_alone : (rows : List Fields) (all mine : List Ballot) (at place : ℕ) (bs : List Ballot) → AreOwn c.id all mine →
      ballots_after contests all at rows ≡ Ok bs → Left rows bs mine place
  ballots_alone [] all mine at place bs are h = let s : all ≡ bs = cc h in (mine, refl, subst (λ xs. AreOwn c.id xs mine) s are)
  ballots_alone (row ∷ rows) all mine at place bs are h =
      by (ballot_of contests all at row) refl h (λ b theirs place own. ballots_alone rows (all ++ b ∷ []) theirs (at + 1) place bs own)
    where
      by : (o : Result Ballot BRule) → ballot_of contests all at row ≡ o →
          and_then at o (λ (b : Ballot). ballots_after contests (all ++ b ∷ []) (at + 1) rows) ≡ Ok bs →
          ((b : Ballot) (theirs : List Ballot) (place : ℕ) → AreOwn c.id (all ++ b ∷ []) theirs → ballots_after contests (all ++ b ∷ []) (at + 1) rows ≡ Ok bs →
          Left rows bs theirs place) → Left (row ∷ rows) bs mine place
      by (Err rule) e g next = absurd (cc g)
      by (Ok b) e g next =
          let is = cast contests all at b row e in
          let votes : is_ballot_of c.id row ≡ is_same is.of c.id = ap (is_ballot_of c.id) is.is_row in
          let has : is_same is.contest.id is.of ≡ true = found-id contests is.of is.contest is.found in
          let of-is : is.contest.id ≡ is.of = same-equal is.contest.id is.of has in
          elim (cases_Bool (is_same is.of c.id)) [
            | inl t ↦
                let to : is.of ≡ c.id = same-equal is.of c.id t in
                let both : Some is.contest ≡ Some c = sym is.found ∙ ap (contest_with_id contests) to ∙ found in
                let it : is.contest ≡ c = cc both in
                let d : Ballot = record { at = place; contest = c.id; id = is.id; ranking = is.ranking } in
                let there : contest_with_id only is.of ≡ Some (record c { at = 2 }) =
                ap (λ t. cond t (Some (record c { at = 2 })) None) (ap (is_same c.id) to ∙ same-refl c.id) in
                let fresh : is_among (ballot_ids c.id mine) is.id ≡ false =
                ap (λ (xs : List Ballot). is_among (map (λ (y : Ballot). y.id) xs) is.id) are.own ∙ ap (λ ids. is_among ids is.id) (sym are.ids)
                ∙ ap (λ (x : Contest). is_among (ballot_ids x.id all) is.id) (sym it) ∙ is.fresh in
                let read : ballot_of only mine place row ≡ Ok d =
                ap (ballot_of only mine place) is.is_row
                ∙ casts only mine place is.of is.id is.preferences (record c { at = 2 }) is.ranking (less-room (length mine) (length all) are.fewer is.room)
                is.is_named there fresh (ap (λ (x : Contest). ranking_of x.candidates is.preferences) (sym it) ∙ is.ranked) in
                let own : AreOwn c.id (all ++ b ∷ []) (mine ++ d ∷ []) =
                own-more all mine b d are (ap (λ (x : Ballot). x.contest) is.is ∙ ap (λ (x : Contest). x.id) it) refl (ap (λ (x : Ballot). x.id) is.is)
                (ap (λ (x : Ballot). x.ranking) is.is) in
                let (theirs, rest, are') = next b (mine ++ d ∷ []) (place + 1) own g in (
                  theirs,
                  ap (λ t. ballots_after only mine place (cond t (row ∷ filter (is_ballot_of c.id) rows) (filter (is_ballot_of c.id) rows))) (votes ∙ t)
                      ∙ ap (λ o. and_then place o (λ (x : Ballot). ballots_after only (mine ++ x ∷ []) (place + 1) (filter (is_ballot_of c.id) rows))) read ∙ rest,
                  are',
                )
            | inr f ↦
                let other : is_same b.contest c.id ≡ false =
                ap (λ (x : Ballot). is_same x.contest c.id) is.is ∙ ap (λ x. is_same x c.id) of-is ∙ f in
                let (theirs, rest, are') = next b mine place (other-more all mine b are other) g in (
                  theirs,
                  ap (λ t. ballots_after only mine place (cond t (row ∷ filter (is_ballot_of c.id) rows) (filter (is_ballot_of c.id) rows))) (votes ∙ f) ∙ rest,
                  are',
                )
          ]

-- ---- the file

named-in : (contests : List Contest) (place : ℕ) (c : Contest) → all_differ (ids_of_contests contests) ≡ true → slice_get contests place ≡ Some c →
    contest_with_id contests c.id ≡ Some c
named-in [] place c differ there = absurd (cc there)
named-in (d ∷ contests) zero c differ there =
    let s : d ≡ c = cc there in
    ap (λ b. cond b (Some d) (contest_with_id contests c.id)) (ap (λ (x : Contest). is_same x.id c.id) s ∙ same-refl c.id) ∙ ap Some s
named-in (d ∷ contests) (suc place) c differ there =
    let (new, rest) = apart d contests differ in
    ap (λ b. cond b (Some d) (contest_with_id contests c.id)) (same-comm d.id c.id ∙ not-there contests d.id place c new there)
    ∙ named-in contests place c rest there

abbrev first_unsized : List Contest → Option Contest
first_unsized contests = find (λ (c : Contest). not (has_audited_size c.candidates)) contests

sized-at : (contests : List Contest) (place : ℕ) (c : Contest) → first_unsized contests ≡ None → slice_get contests place ≡ Some c →
    has_audited_size c.candidates ≡ true
sized-at [] place c none there = absurd (cc there)
sized-at (d ∷ contests) place c none there =
    by (has_audited_size d.candidates) refl none place there (λ none place there. sized-at contests place c none there)
  where
    by : (b : Bool) → has_audited_size d.candidates ≡ b → cond (not b) (Some d) (first_unsized contests) ≡ None → (place : ℕ) →
        slice_get (d ∷ contests) place ≡ Some c →
        (first_unsized contests ≡ None → (place : ℕ) → slice_get contests place ≡ Some c → has_audited_size c.candidates ≡ true) →
        has_audited_size c.candidates ≡ true
    by false e none place there next = absurd (cc none)
    by true e none zero there next = let s : d ≡ c = cc there in ap (λ (x : Contest). has_audited_size x.candidates) (sym s) ∙ e
    by true e none (suc place) there next = next none place there

one-counted : contest_count (codes "1" ∷ []) ≡ Some 1
one-counted = refl

nothing-own : (contest : Id) → AreOwn contest [] []
nothing-own contest = record { ids = refl; rankings = refl; own = refl; fewer = omega arith }

module _ (n : ℕ) (rows : List Fields) (contests : List Contest) (bs : List Ballot) (read : contests_in n [] 2 rows ≡ Ok contests)
    (sized : first_unsized contests ≡ None) (cast-all : ballots_after contests [] (2 + n) (drop n rows) ≡ Ok bs) (place : ℕ) (c : Contest)
    (there : slice_get contests place ≡ Some c) where
  left-alone : (places : List ℕ) × (contests_from (alone_behind c.id (Some n) rows) ≡ Ok (record (file_of c bs) { places = places } ∷ []))
  left-alone =
      let are : AreListed contests (2 + n) = all_listed n [] 2 rows contests none_listed read in
      let found = named-in contests place c are.differ there in
      let own = one-listed n [] 2 rows contests c.id c refl found read in
      let (theirs, cast-here, mine) = ballots_alone contests c found (drop n rows) [] [] (2 + n) 3 bs (nothing-own c.id) cast-all in
      let c2 : Contest = record c { at = 2 } in
      let rest : List Fields = filter (is_ballot_of c.id) (drop n rows) in
      let written : alone_behind c.id (Some n) rows ≡ (codes "1" ∷ []) ∷ own.row ∷ rest = ap (λ rs. (codes "1" ∷ []) ∷ (rs ++ rest)) own.only in
      let contest-read : contests_in 1 [] 2 (own.row ∷ rest) ≡ Ok (c2 ∷ []) =
      ap (λ o. and_then 2 o (λ (x : Contest). contests_in 0 ([] ++ x ∷ []) (2 + 1) rest)) own.alone in
      let all-sized : first_unsized (c2 ∷ []) ≡ None =
      ap (λ b. cond (not b) (Some c2) None) (sized-at contests place c sized there) in
      let ids-are : map (λ (b : Ballot). b.id) (ballots_in c.id theirs) ≡ ballot_ids c.id bs =
      ap (map (λ (b : Ballot). b.id)) mine.own ∙ sym mine.ids in
      let rankings-are : map (λ (b : Ballot). b.ranking) (ballots_in c.id theirs) ≡ map (λ (b : Ballot). b.ranking) (ballots_in c.id bs) =
      ap (map (λ (b : Ballot). b.ranking)) mine.own ∙ sym mine.rankings in
      let places : List ℕ = map (λ (b : Ballot). b.at) (ballots_in c.id theirs) in
      let same : file_of c2 theirs ≡ record (file_of c bs) { places = places } =
      λ i. record { contest = c.id; candidates = c.candidates; ids = ids-are i; places = places; rankings = rankings-are i } in (
        places,
        ap contests_from written
            ∙ ap (λ o. contests_behind o (own.row ∷ rest)) one-counted
            ∙ after-contests 1 (own.row ∷ rest) (c2 ∷ []) contest-read
            ∙ ap (λ o. then_on (unless_unsized (c2 ∷ []) o) (after_all 1 (own.row ∷ rest) (c2 ∷ []))) all-sized
            ∙ ap (λ o. then_on o (λ xs. Ok (map (λ (x : Contest). file_of x xs) (c2 ∷ [])))) cast-here
            ∙ ap (λ f. Ok (f ∷ [])) same,
      )

at-map : {X Y : Type 0} (f : X → Y) (xs : List X) (i : ℕ) (y : Y) → slice_get (map f xs) i ≡ Some y → (x : X) × (slice_get xs i ≡ Some x) × (y ≡ f x)
at-map f [] i y h = absurd (cc h)
at-map f (x ∷ xs) zero y h = let s : f x ≡ y = cc h in (x, refl, sym s)
at-map f (x ∷ xs) (suc i) y h = at-map f xs i y h

pub said_alone : SaidAlone
said_alone [] list place ballots h there = absurd (cc h)
said_alone (first ∷ rows) list place ballots h there = by-count (contest_count first) refl h where
  goal : Type 0
  goal = (places : List ℕ) × (contests_from (alone ballots.contest (first ∷ rows)) ≡ Ok (record ballots { places = places } ∷ []))

  whole : (n : ℕ) → contest_count first ≡ Some n → (contests : List Contest) → contests_in n [] 2 rows ≡ Ok contests → first_unsized contests ≡ None →
      (bs : List Ballot) → ballots_after contests [] (2 + n) (drop n rows) ≡ Ok bs → list ≡ map (λ (c : Contest). file_of c bs) contests → goal
  whole n e contests f none bs g is =
      let (c, at, file) = at-map (λ (c : Contest). file_of c bs) contests place ballots (ap (λ xs. slice_get xs place) (sym is) ∙ there) in
      let (places, left) = left-alone n rows contests bs f none g place c at in
      subst (λ (b : BallotFile). (places : List ℕ) × (contests_from (alone b.contest (first ∷ rows)) ≡ Ok (record b { places = places } ∷ []))) (sym file)
      (places, ap (λ o. contests_from (alone_behind c.id o rows)) e ∙ left)

  by-ballots : (n : ℕ) → contest_count first ≡ Some n → (contests : List Contest) → contests_in n [] 2 rows ≡ Ok contests →
      first_unsized contests ≡ None → (o : Result (List Ballot) (Refusal BRule)) → ballots_after contests [] (2 + n) (drop n rows) ≡ o →
      then_on o (λ bs. Ok (map (λ (c : Contest). file_of c bs) contests)) ≡ Ok list → goal
  by-ballots n e contests f none (Err refusal) g h = absurd (cc h)
  by-ballots n e contests f none (Ok bs) g h =
      let s : map (λ (c : Contest). file_of c bs) contests ≡ list = cc h in whole n e contests f none bs g (sym s)

  by-size : (n : ℕ) → contest_count first ≡ Some n → (contests : List Contest) → contests_in n [] 2 rows ≡ Ok contests → (o : Option Contest) →
      first_unsized contests ≡ o → then_on (unless_unsized contests o) (after_all n rows contests) ≡ Ok list → goal
  by-size n e contests f (Some c) none h = absurd (cc h)
  by-size n e contests f None none h = by-ballots n e contests f none (ballots_after contests [] (2 + n) (drop n rows)) refl h

  by-contests : (n : ℕ) → contest_count first ≡ Some n → (o : Result (List Contest) (Refusal BRule)) → contests_in n [] 2 rows ≡ o →
      then_on o (after_listed n rows) ≡ Ok list → goal
  by-contests n e (Err refusal) f h = absurd (cc h)
  by-contests n e (Ok contests) f h = by-size n e contests f (first_unsized contests) refl h

  by-count : (o : Option ℕ) → contest_count first ≡ o → contests_behind o rows ≡ Ok list → goal
  by-count None e h = absurd (cc h)
  by-count (Some n) e h = by-contests n e (contests_in n [] 2 rows) refl h
