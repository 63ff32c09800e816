-- One more ballot.
use Rattle.std.proofs.Common.{◌≡◌, ◌<◌, ◌+◌, ◌∙◌, ◌++◌, ◌∷◌, [], ℕ, zero, suc, true, false, not, List, Option, Some, None, Err, length, map, set, refl, sym, ap, subst, arith, inl, inr, length-append, eqb-true}
use Rattle.std.specs.Prelude.{All, Bool, IfSome, IsTrue, is_some, nat_eq, nat_lt, option_map, if◌then◌else◌}
use Rattle.std.specs.List.{slice_get}
use Rattle.std.specs.Cmp.Lexicographic.{bytes_decides}
use Rattle.std.proofs.lemmas.Bool.{and_parts, cases_Bool, eqb-false, false≢true, not-true}
use Rattle.std.proofs.lemmas.Cmp.{nat_list_eq_equiv}
use Rattle.std.proofs.lemmas.List.{append-nil, map-append}
use Rattle.std.proofs.lemmas.List.Elements.{filter-append, All-push}
use Rattle.csv_rows.specs.Rows.{Fields}
use Rattle.irv_base.specs.Candidates.{is_distinct}
use Rattle.irv_base.specs.Names.{Id, is_among, is_same, all_differ}
use Rattle.irv_base.specs.declared.limits.TheConstants.{MOST_RECORDS}
use Rattle.set_tallies.specs.declared.bag.TheConstants.{ALWAYS_SUMMED}
use Rattle.ballots.specs.Grammar.{Ballot, Contest, ballot_for, ballot_ids, ballot_in, ballot_of, ballot_with, ballots_in, ranking_of}
use Rattle.ballot_reader.specs.Kept.{AllNoted, AreApart, CountsOwn, EachCountsOwn, IsKept, KeepsAudited, KeptBallots, KeptOrigins, KeptPart, WantsAudited, contest_ids, counted_for, is_wanted, keeps_origins, part_of, parts_from, rankings_in, with_ballot, with_origin}
use Rattle.ballot_ids.specs.Noted.{AreNoted}
use Rattle.ballot_ids.specs.declared.noted.Noted.{Noted}
use Rattle.ballots.specs.declared.fault.BRule.TheVariants.{B9, B10}
use Rattle.ballot_reader.specs.declared.wanted.Wanted.{Wanted}
use Rattle.ballot_ids.proofs.Differing.{differ-push, or-false}
use Rattle.ballots.proofs.Firsts.{IsRanking}

-- ---- the ballots of a contest, after one more

pub same-refl : (a : Id) → is_same a a ≡ true
same-refl a = (bytes_decides a a).1 refl

pub same-comm : (a b : Id) → is_same a b ≡ is_same b a
same-comm a b = nat_list_eq_equiv.symm a b

pub pushed-own : (id : Id) (ballots : List Ballot) (b : Ballot) → is_same b.contest id ≡ true →
    ballots_in id (ballots ++ b ∷ []) ≡ ballots_in id ballots ++ b ∷ []
pushed-own id ballots b h = filter-append (λ (x : Ballot). is_same x.contest id) ballots (b ∷ [])
    ∙ ap (λ t. ballots_in id ballots ++ (if t then b ∷ [] else [])) h

pub pushed-other : (id : Id) (ballots : List Ballot) (b : Ballot) → is_same b.contest id ≡ false → ballots_in id (ballots ++ b ∷ []) ≡ ballots_in id ballots
pushed-other id ballots b h =
    filter-append (λ (x : Ballot). is_same x.contest id) ballots (b ∷ []) ∙ ap (λ t. ballots_in id ballots ++ (if t then b ∷ [] else [])) h
    ∙ append-nil (ballots_in id ballots)

pub ids-own : (id : Id) (ballots : List Ballot) (b : Ballot) → is_same b.contest id ≡ true →
    ballot_ids id (ballots ++ b ∷ []) ≡ ballot_ids id ballots ++ b.id ∷ []
ids-own id ballots b h = ap (map (λ (x : Ballot). x.id)) (pushed-own id ballots b h) ∙ map-append (λ (x : Ballot). x.id) (ballots_in id ballots) (b ∷ [])

pub ids-other : (id : Id) (ballots : List Ballot) (b : Ballot) → is_same b.contest id ≡ false → ballot_ids id (ballots ++ b ∷ []) ≡ ballot_ids id ballots
ids-other id ballots b h = ap (map (λ (x : Ballot). x.id)) (pushed-other id ballots b h)

-- ---- contests that differ

-- a contest at a place among contests that lack an id
pub elsewhere : (contests : List Contest) (id : Id) (k : ℕ) (contest : Contest) → is_among (contest_ids contests) id ≡ false →
    slice_get contests k ≡ Some contest → is_same contest.id id ≡ false
elsewhere [] id k contest h g = absurd cc
elsewhere (c ∷ contests) id zero contest h g =
    let e : c ≡ contest = cc in
    ap (λ (x : Contest). is_same x.id id) (sym e) ∙ (or-false (is_same c.id id) (is_among (contest_ids contests) id) h).0
elsewhere (c ∷ contests) id (suc k) contest h g = elsewhere contests id k contest (or-false (is_same c.id id) (is_among (contest_ids contests) id) h).1 g

pub apart : (c : Contest) (contests : List Contest) → all_differ (contest_ids (c ∷ contests)) ≡ true →
    (is_among (contest_ids contests) c.id ≡ false) × (all_differ (contest_ids contests) ≡ true)
apart c contests h =
    let (out, rest) = and_parts (not (is_among (contest_ids contests) c.id)) (all_differ (contest_ids contests)) h in
    (not-true (is_among (contest_ids contests) c.id) out, rest)

pub unlike : (contests : List Contest) (k a : ℕ) (contest chosen : Contest) → all_differ (contest_ids contests) ≡ true → slice_get contests k ≡ Some contest →
    slice_get contests a ≡ Some chosen
    → (k ≡ a → ⊥) → is_same contest.id chosen.id ≡ false
unlike [] k a contest chosen d g h n = absurd cc
unlike (c ∷ contests) zero zero contest chosen d g h n = absurd (n refl)
unlike (c ∷ contests) zero (suc a) contest chosen d g h n =
    let e : c ≡ contest = cc in
    ap (λ (x : Contest). is_same x.id chosen.id) (sym e) ∙ same-comm c.id chosen.id ∙ elsewhere contests c.id a chosen (apart c contests d).0 h
unlike (c ∷ contests) (suc k) zero contest chosen d g h n =
    let e : c ≡ chosen = cc in
    ap (λ (x : Contest). is_same contest.id x.id) (sym e) ∙ elsewhere contests c.id k contest (apart c contests d).0 g
unlike (c ∷ contests) (suc k) (suc a) contest chosen d g h n = unlike contests k a contest chosen (apart c contests d).1 g h (λ e. n (ap suc e))

-- contests other than the ballot's have what they had
met-same : (contests : List Contest) (ballots : List Ballot) (b : Ballot) (noted : List Noted) →
    is_among (contest_ids contests) b.contest ≡ false → AllNoted ballots contests noted → AllNoted (ballots ++ b ∷ []) contests noted
met-same [] ballots b [] h m = m
met-same [] ballots b (n ∷ noted) h m = m
met-same (c ∷ contests) ballots b [] h m = m
met-same (c ∷ contests) ballots b (n ∷ noted) h m =
    let (first, rest) = or-false (is_same c.id b.contest) (is_among (contest_ids contests) b.contest) h in (
      subst (λ ids. AreNoted ids n) (sym (ids-other c.id ballots b (same-comm b.contest c.id ∙ first))) m.0,
      met-same contests ballots b noted rest m.1,
    )

pub met-more : (contests : List Contest) (k : ℕ) (contest : Contest) (ballots : List Ballot) (b : Ballot) (noted : List Noted)
    (met : Noted) → all_differ (contest_ids contests) ≡ true → slice_get contests k ≡ Some contest → b.contest ≡ contest.id →
    AllNoted ballots contests noted → AreNoted (ballot_ids contest.id ballots ++ b.id ∷ []) met →
    AllNoted (ballots ++ b ∷ []) contests (set noted k met)
met-more [] k contest ballots b noted met d g e m new = absurd cc
met-more (c ∷ contests) k contest ballots b [] met d g e m new = absurd m
met-more (c ∷ contests) zero contest ballots b (n ∷ noted) met d g e m new =
    let s : c ≡ contest = cc in
    let of : b.contest ≡ c.id = e ∙ ap (λ (x : Contest). x.id) (sym s) in
    let own = ap (λ (x : Contest). ballot_ids x.id ballots ++ b.id ∷ []) (sym s)
    ∙ sym (ids-own c.id ballots b (ap (λ id. is_same id c.id) of ∙ same-refl c.id)) in (
      subst (λ ids. AreNoted ids met) own new,
      met-same contests ballots b noted (ap (is_among (contest_ids contests)) of ∙ (apart c contests d).0) m.1,
    )
met-more (c ∷ contests) (suc k) contest ballots b (n ∷ noted) met d g e m new =
    let other = ap (λ id. is_same id c.id) e ∙ elsewhere contests c.id k contest (apart c contests d).0 g in (
      subst (λ ids. AreNoted ids n) (sym (ids-other c.id ballots b other)) m.0,
      met-more contests k contest ballots b noted met (apart c contests d).1 g e m.1 new,
    )

-- ---- what is judged of a ballot's record

-- the record names the contest at a place, and these ids came before it in that contest
pub record Meets (contests : List Contest) (ballots : List Ballot) (at : ℕ) (row : Fields) (k : ℕ) (id : Id) (preferences : Fields) (contest : Contest) : Type
    0 where
  pub room : length ballots < MOST_RECORDS
  pub follows : ballot_in contests ballots at row ≡ ballot_for ballots at id preferences (slice_get contests k)
  pub there : slice_get contests k ≡ Some contest

judged : (contests : List Contest) (ballots : List Ballot) (at : ℕ) (row : Fields) (k : ℕ) (id : Id) (preferences : Fields) (contest : Contest) →
    Meets contests ballots at row k id preferences contest
    → ballot_of contests ballots at row ≡ ballot_for ballots at id preferences (Some contest)
judged contests ballots at row k id preferences contest m =
    ap (λ b. if b then ballot_in contests ballots at row else Err B10) (less (length ballots) MOST_RECORDS m.room) ∙ m.follows
    ∙ ap (ballot_for ballots at id preferences) m.there
  where
    less : (a b : ℕ) → a < b → nat_lt a b ≡ true
    less a b h = grind arith

pub again : (contests : List Contest) (ballots : List Ballot) (at : ℕ) (row : Fields) (k : ℕ) (id : Id) (preferences : Fields) (contest : Contest) →
    Meets contests ballots at row k id preferences contest
    → is_among (ballot_ids contest.id ballots) id ≡ true → ballot_of contests ballots at row ≡ Err B9
again contests ballots at row k id preferences contest m h =
    judged contests ballots at row k id preferences contest m
    ∙ ap (λ b. if b then Err B9 else ballot_with at contest.id id (ranking_of contest.candidates preferences)) h

pub ranked : (contests : List Contest) (ballots : List Ballot) (at : ℕ) (row : Fields) (k : ℕ) (id : Id) (preferences : Fields) (contest : Contest) →
    Meets contests ballots at row k id preferences contest
    → is_among (ballot_ids contest.id ballots) id ≡ false → (o : Option (List ℕ)) → ranking_of contest.candidates preferences ≡ o →
    ballot_of contests ballots at row ≡ ballot_with at contest.id id o
ranked contests ballots at row k id preferences contest m h o e =
    judged contests ballots at row k id preferences contest m
    ∙ ap (λ b. if b then Err B9 else ballot_with at contest.id id (ranking_of contest.candidates preferences)) h ∙ ap (ballot_with at contest.id id) e

-- ---- the data kept for it

pub same_some : {X : Type 0} (o : Option X) (x y : X) → o ≡ Some x → o ≡ Some y → x ≡ y
same_some o x y g h = let e = sym g ∙ h in cc

pub same_at : {X : Type 0} (xs : List X) (k : ℕ) (x y : X) → slice_get xs k ≡ Some x → slice_get xs k ≡ Some y → x ≡ y
same_at xs k x y g h = same_some (slice_get xs k) x y g h

abbrev origins_with : List Ballot → KeptOrigins
origins_with own = record { ids = map (λ (x : Ballot). x.id) own; places = map (λ (x : Ballot). x.at) own }

abbrev part_with : Bool → Option ℕ → List Ballot → KeptPart
part_with keeps counted own = record { origins = if keeps then Some (origins_with own) else None; counted = counted; rankings = map (λ (x : Ballot). x.ranking) own }

origins-push : (own : List Ballot) (b : Ballot) → origins_with (own ++ b ∷ []) ≡ with_origin (origins_with own) b.id b.at
origins-push own b =
    ap (λ ids. record { ids = ids; places = map (λ (x : Ballot). x.at) (own ++ b ∷ []) }) (map-append (λ (x : Ballot). x.id) own (b ∷ []))
    ∙ ap (λ ats. record { ids = map (λ (x : Ballot). x.id) own ++ b.id ∷ []; places = ats }) (map-append (λ (x : Ballot). x.at) own (b ∷ []))

part-push : (keeps : Bool) (counted : Option ℕ) (own : List Ballot) (b : Ballot) →
    part_with keeps counted (own ++ b ∷ []) ≡ with_ballot (part_with keeps counted own) b.id b.at b.ranking
part-push true counted own b =
    ap (λ origins. record { origins = Some origins; counted = counted; rankings = map (λ (x : Ballot). x.ranking) (own ++ b ∷ []) }) (origins-push own b)
    ∙ ap (λ rs. record { origins = Some (with_origin (origins_with own) b.id b.at); counted = counted; rankings = rs }) (map-append (λ (x : Ballot). x.ranking) own (b ∷ []))
part-push false counted own b = ap (λ rs. record { origins = None; counted = counted; rankings = rs }) (map-append (λ (x : Ballot). x.ranking) own (b ∷ []))

part-own : (keeps : Bool) (contest : Contest) (ballots : List Ballot) (b : Ballot) → is_same b.contest contest.id ≡ true →
    part_of keeps (ballots ++ b ∷ []) contest ≡ with_ballot (part_of keeps ballots contest) b.id b.at b.ranking
part-own keeps contest ballots b h = ap (part_with keeps (counted_for keeps contest)) (pushed-own contest.id ballots b h)
    ∙ part-push keeps (counted_for keeps contest) (ballots_in contest.id ballots) b

part-other : (keeps : Bool) (contest : Contest) (ballots : List Ballot) (b : Ballot) → is_same b.contest contest.id ≡ false →
    part_of keeps (ballots ++ b ∷ []) contest ≡ part_of keeps ballots contest
part-other keeps contest ballots b h = ap (part_with keeps (counted_for keeps contest)) (pushed-other contest.id ballots b h)

abbrev pub wanted_part : ℕ → Wanted → List Ballot → Contest → Option KeptPart
wanted_part place wanted ballots contest = if is_wanted wanted place then Some (part_of (keeps_origins wanted) ballots contest) else None

more-wanted : (t : Bool) (old new : KeptPart) (id : Id) (at : ℕ) (ranking : List ℕ) → new ≡ with_ballot old id at ranking →
    option_map (λ (p : KeptPart). with_ballot p id at ranking) (if t then Some old else None) ≡ (if t then Some new else None)
more-wanted true old new id at ranking h = ap Some (sym h)
more-wanted false old new id at ranking h = refl

-- contests other than the ballot's keep what they had
parts-same : (place : ℕ) (wanted : Wanted) (contests : List Contest) (ballots : List Ballot) (b : Ballot) →
    is_among (contest_ids contests) b.contest ≡ false → parts_from place wanted ballots contests ≡ parts_from place wanted (ballots ++ b ∷ []) contests
parts-same place wanted [] ballots b h = refl
parts-same place wanted (c ∷ contests) ballots b h =
    let (first, rest) = or-false (is_same c.id b.contest) (is_among (contest_ids contests) b.contest) h in
    ap (λ part. (if is_wanted wanted place then Some part else None) ∷ parts_from (place + 1) wanted ballots contests)
    (sym (part-other (keeps_origins wanted) c ballots b (same-comm b.contest c.id ∙ first)))
    ∙ ap (λ more. wanted_part place wanted (ballots ++ b ∷ []) c ∷ more) (parts-same (place + 1) wanted contests ballots b rest)

parts-more : (place : ℕ) (wanted : Wanted) (contests : List Contest) (k : ℕ) (contest : Contest) (ballots : List Ballot) (b : Ballot) (part : Option KeptPart) →
    all_differ (contest_ids contests) ≡ true → slice_get contests k ≡ Some contest → b.contest ≡ contest.id →
    slice_get (parts_from place wanted ballots contests) k ≡ Some part →
    set (parts_from place wanted ballots contests) k (option_map (λ (p : KeptPart). with_ballot p b.id b.at b.ranking) part)
    ≡ parts_from place wanted (ballots ++ b ∷ []) contests
parts-more place wanted [] k contest ballots b part d g e h = absurd cc
parts-more place wanted (c ∷ contests) zero contest ballots b part d g e h =
    let s : c ≡ contest = cc in
    let stood : wanted_part place wanted ballots c ≡ part = cc in
    let of : b.contest ≡ c.id = e ∙ ap (λ (x : Contest). x.id) (sym s) in
    let own = part-own (keeps_origins wanted) c ballots b (ap (λ id. is_same id c.id) of ∙ same-refl c.id) in
    ap (λ o. option_map (λ (p : KeptPart). with_ballot p b.id b.at b.ranking) o ∷ parts_from (place + 1) wanted ballots contests) (sym stood)
    ∙ ap (λ o. o ∷ parts_from (place + 1) wanted ballots contests)
    (more-wanted (is_wanted wanted place) (part_of (keeps_origins wanted) ballots c) (part_of (keeps_origins wanted) (ballots ++ b ∷ []) c) b.id b.at b.ranking own)
    ∙ ap (λ more. wanted_part place wanted (ballots ++ b ∷ []) c ∷ more)
    (parts-same (place + 1) wanted contests ballots b (ap (is_among (contest_ids contests)) of ∙ (apart c contests d).0))
parts-more place wanted (c ∷ contests) (suc k) contest ballots b part d g e h =
    let other = ap (λ id. is_same id c.id) e ∙ elsewhere contests c.id k contest (apart c contests d).0 g in
    ap (λ p. (if is_wanted wanted place then Some p else None)
    ∷ set (parts_from (place + 1) wanted ballots contests) k (option_map (λ (p : KeptPart). with_ballot p b.id b.at b.ranking) part))
    (sym (part-other (keeps_origins wanted) c ballots b other))
    ∙ ap (λ more. wanted_part place wanted (ballots ++ b ∷ []) c ∷ more)
    (parts-more (place + 1) wanted contests k contest ballots b part (apart c contests d).1 g e h)

apart-own : (contest : Contest) (ballots : List Ballot) (b : Ballot) → is_same b.contest contest.id ≡ true → AreApart ballots contest →
    is_among (ballot_ids contest.id ballots) b.id ≡ false → IsRanking (length contest.candidates) b.ranking → AreApart (ballots ++ b ∷ []) contest
apart-own contest ballots b own h fresh valid =
    let more = ap (λ (p : KeptPart). p.rankings) (part-own true contest ballots b own) in
    let before = rankings_in contest.id ballots in
    record {
      differ = ap all_differ (ids-own contest.id ballots b own) ∙ differ-push (ballot_ids contest.id ballots) b.id h.differ fresh;
      below = subst (All (λ ranking. All (λ c. c < length contest.candidates) ranking)) (sym more)
          (All-push (λ ranking. All (λ c. c < length contest.candidates) ranking) before b.ranking h.below valid.below);
      distinct = subst (All (λ ranking. IsTrue (is_distinct ranking))) (sym more)
          (All-push (λ ranking. IsTrue (is_distinct ranking)) before b.ranking h.distinct valid.distinct);
    }

apart-other : (contest : Contest) (ballots : List Ballot) (b : Ballot) → is_same b.contest contest.id ≡ false → AreApart ballots contest →
    AreApart (ballots ++ b ∷ []) contest
apart-other contest ballots b out h =
    let more = ap (λ (p : KeptPart). p.rankings) (part-other true contest ballots b out) in
    record {
      differ = ap all_differ (ids-other contest.id ballots b out) ∙ h.differ;
      below = subst (All (λ ranking. All (λ c. c < length contest.candidates) ranking)) (sym more) h.below;
      distinct = subst (All (λ ranking. IsTrue (is_distinct ranking))) (sym more) h.distinct;
    }

-- a ballot of the contest at place k, with an id that is new there
pub record IsNew (contests : List Contest) (ballots : List Ballot) (k : ℕ) (contest : Contest) (b : Ballot) : Type 0 where
  pub there : slice_get contests k ≡ Some contest
  pub of : b.contest ≡ contest.id
  pub fresh : is_among (ballot_ids contest.id ballots) b.id ≡ false
  pub valid : IsRanking (length contest.candidates) b.ranking

pub kept-more : (contests : List Contest) (wanted : Wanted) (ballots : List Ballot) (old new : KeptBallots) (k : ℕ) (contest : Contest) (b : Ballot)
    (part : Option KeptPart) (met : Noted)
    → all_differ (contest_ids contests) ≡ true → IsKept contests wanted ballots old → old.count < MOST_RECORDS → IsNew contests ballots k contest b
    → slice_get old.parts k ≡ Some part → new.met ≡ set old.met k met → AreNoted (ballot_ids contest.id ballots ++ b.id ∷ []) met
    → new.parts ≡ set old.parts k (option_map (λ (p : KeptPart). with_ballot p b.id b.at b.ranking) part) → new.count ≡ old.count + 1
    → IsKept contests wanted (ballots ++ b ∷ []) new
kept-more contests wanted ballots old new k contest b part met d kept room is stood e m f h = record {
  noted = subst (AllNoted (ballots ++ b ∷ []) contests) (sym e)
      (met-more contests k contest ballots b old.met met d is.there is.of kept.noted m);
  parted = f ∙ ap (λ xs. set xs k (option_map (λ (p : KeptPart). with_ballot p b.id b.at b.ranking) part)) kept.parted
      ∙ parts-more 0 wanted contests k contest ballots b part d is.there is.of (sym (ap (λ xs. slice_get xs k) kept.parted) ∙ stood);
  counted = omega (arith, h, kept.counted, length-append ballots (b ∷ []));
  most = omega (arith, kept.counted, room, length-append ballots (b ∷ []));
  apart = each;
} where
  each : (place : ℕ) (c : Contest) → slice_get contests place ≡ Some c → AreApart (ballots ++ b ∷ []) c
  each place c g = elim (cases_Bool (nat_eq k place)) [
    | inl t ↦
        let same = same_at contests k contest c is.there (ap (slice_get contests) (eqb-true k place t) ∙ g) in
        subst (AreApart (ballots ++ b ∷ [])) same (apart-own contest ballots b (ap (λ id. is_same id contest.id) is.of ∙ same-refl contest.id)
        (kept.apart k contest is.there) is.fresh is.valid)
    | inr f ↦
        let out = unlike contests k place contest c d is.there g (λ e. eqb-false k place f e) in
        apart-other c ballots b (ap (λ id. is_same id c.id) is.of ∙ out) (kept.apart place c g)
  ]

-- ---- from places to values

-- what is noted of the ids of a contest, at its place
pub met-at : (ballots : List Ballot) (contests : List Contest) (noted : List Noted) (k : ℕ) (contest : Contest) →
    AllNoted ballots contests noted → slice_get contests k ≡ Some contest →
    (met : Noted) × (slice_get noted k ≡ Some met) × AreNoted (ballot_ids contest.id ballots) met
met-at ballots [] noted k contest m g = absurd cc
met-at ballots (c ∷ contests) [] k contest m g = absurd m
met-at ballots (c ∷ contests) (n ∷ noted) zero contest m g =
    let s : c ≡ contest = cc in (n, refl, subst (λ (x : Contest). AreNoted (ballot_ids x.id ballots) n) s m.0)
met-at ballots (c ∷ contests) (n ∷ noted) (suc k) contest m g = met-at ballots contests noted k contest m.1 g

pub length-met : (ballots : List Ballot) (contests : List Contest) (noted : List Noted) → AllNoted ballots contests noted →
    length noted ≡ length contests
length-met ballots [] [] m = refl
length-met ballots [] (n ∷ noted) m = absurd m
length-met ballots (c ∷ contests) [] m = absurd m
length-met ballots (c ∷ contests) (n ∷ noted) m = ap suc (length-met ballots contests noted m.1)

pub not-false : (b : Bool) → not b ≡ false → b ≡ true
not-false true h = refl
not-false false h = absurd (false≢true (sym h))

pub some_of : {X : Type 0} (o : Option X) → is_some o ≡ true → (x : X) × (o ≡ Some x)
some_of None h = absurd cc
some_of (Some x) h = (x, refl)

pub none_of : {X : Type 0} (o : Option X) → is_some o ≡ false → o ≡ None
none_of None h = refl
none_of (Some x) h = absurd cc

pub length-parts : (place : ℕ) (wanted : Wanted) (ballots : List Ballot) (contests : List Contest) →
    length (parts_from place wanted ballots contests) ≡ length contests
length-parts place wanted ballots [] = refl
length-parts place wanted ballots (c ∷ contests) = ap suc (length-parts (place + 1) wanted ballots contests)

pub part-at : (place : ℕ) (wanted : Wanted) (ballots : List Ballot) (contests : List Contest) (k : ℕ) (contest : Contest) →
    slice_get contests k ≡ Some contest →
    slice_get (parts_from place wanted ballots contests) k ≡ Some (wanted_part (place + k) wanted ballots contest)
part-at place wanted ballots [] k contest g = absurd cc
part-at place wanted ballots (c ∷ contests) zero contest g =
    let s : c ≡ contest = cc in
    let e : place ≡ place + 0 = omega arith in
    ap (λ (x : Contest). Some (wanted_part place wanted ballots x)) s ∙ ap (λ at. Some (wanted_part at wanted ballots contest)) e
part-at place wanted ballots (c ∷ contests) (suc k) contest g =
    let e : (place + 1) + k ≡ place + suc k = omega arith in
    part-at (place + 1) wanted ballots contests k contest g ∙ ap (λ at. Some (wanted_part at wanted ballots contest)) e

-- a part is only there if its contest is asked for
pub keeps_audited : (contests : List Contest) (wanted : Wanted) (ballots : List Ballot) (parts : List (Option KeptPart)) → WantsAudited contests wanted →
    parts ≡ parts_from 0 wanted ballots contests → KeepsAudited contests parts
keeps_audited contests wanted ballots parts sized e place contest part there h =
    sized place contest there (by (is_wanted wanted place)
    (let at : 0 + place ≡ place = omega arith in
    sym (ap (λ k. wanted_part k wanted ballots contest) at) ∙ same_at parts place (wanted_part (0 + place) wanted ballots contest) (Some part)
    (ap (λ xs. slice_get xs place) e ∙ part-at 0 wanted ballots contests place contest there) h))
  where
    by : (b : Bool) → (if b then Some (part_of (keeps_origins wanted) ballots contest) else None) ≡ Some part → b ≡ true
    by true g = refl
    by false g = absurd cc

-- a part counts ballots of its own contest
pub own_counted : (keeps : Bool) (contest : Contest) → IfSome (counted_for keeps contest) (λ n. n ≡ length contest.candidates)
own_counted true contest = tt
own_counted false contest = by (nat_lt ALWAYS_SUMMED (length contest.candidates)) where
  by : (b : Bool) → IfSome (if b then None else Some (length contest.candidates)) (λ n. n ≡ length contest.candidates)
  by true = tt
  by false = refl

pub each_counts_own : (contests : List Contest) (wanted : Wanted) (ballots : List Ballot) (parts : List (Option KeptPart)) →
    parts ≡ parts_from 0 wanted ballots contests → EachCountsOwn contests parts
each_counts_own contests wanted ballots parts e place contest part there h =
    by (is_wanted wanted place)
    (let at : 0 + place ≡ place = omega arith in
    sym (ap (λ k. wanted_part k wanted ballots contest) at) ∙ same_at parts place (wanted_part (0 + place) wanted ballots contest) (Some part)
    (ap (λ xs. slice_get xs place) e ∙ part-at 0 wanted ballots contests place contest there) h)
  where
    by : (b : Bool) → (if b then Some (part_of (keeps_origins wanted) ballots contest) else None) ≡ Some part → CountsOwn contest part
    by true g = let same : part_of (keeps_origins wanted) ballots contest ≡ part = cc in subst (CountsOwn contest) same (own_counted (keeps_origins wanted) contest)
    by false g = absurd cc
