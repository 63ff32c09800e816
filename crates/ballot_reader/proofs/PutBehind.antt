-- The data kept for ballots that are read on their own, put after the data kept for others.
use Rattle.std.proofs.Common.{◌≡◌, ◌≢◌, ◌<◌, ◌≤◌, ◌+◌, ◌∙◌, ◌++◌, ◌∷◌, ◌||◌, [], ℕ, zero, suc, Bool, true, false, not, List, Option, Some, None, length, set, refl, sym, ap, ap₂, subst, arith, inl, inr, length-append, length-set}
use Rattle.std.specs.Prelude.{All, IsTrue, if◌then◌else◌}
use Rattle.std.specs.List.{slice_get}
use Rattle.std.proofs.lemmas.Bool.{and_from, and_parts, both_ways, cases_Bool, cases_eq, not-true}
use Rattle.std.proofs.lemmas.List.Elements.{All-append}
use Rattle.std.proofs.lemmas.List.Folds.{list_any-append}
use Rattle.std.proofs.lemmas.Option.{slice_get_within}
use Rattle.csv_rows.specs.Rows.{Fields}
use Rattle.irv_base.specs.Candidates.{is_distinct}
use Rattle.irv_base.specs.Names.{Id, all_differ, is_among, is_same}
use Rattle.irv_base.specs.declared.limits.TheConstants.{MOST_RECORDS}
use Rattle.ballots.specs.Grammar.{Ballot, Contest, ballot_ids}
use Rattle.ballot_reader.specs.Kept.{AllNoted, AreApart, IsKeptUpTo, KeptBallots, KeptPart, counted_for, is_wanted, part_of, parts_from, rankings_in}
use Rattle.ballot_ids.specs.Noted.{AreNoted}
use Rattle.ballot_reader.specs.Parts.{AreJoined, AreMetApart, ArePutBehind, AreTogether, CanJoin, IsReadAlone, IsReadBehind, part_behind}
use Rattle.ballot_ids.specs.declared.noted.Noted.{Noted}
use Rattle.ballot_reader.specs.declared.wanted.Wanted.{Wanted}
use Rattle.ballot_reader.specs.declared.wanted.Wanted.TheVariants.{VotesOf}
use Rattle.ballot_reader.proofs.Adding.{length-met, length-parts, met-at, part-at, same_at, same-refl, wanted_part}
use Rattle.ballot_ids.proofs.Differing.{or-false}
use Rattle.ballot_ids.proofs.IdBytes.{got}
use Rattle.ballot_reader.proofs.Moved.{AreOthers, among-bytes, ids-behind, length-moved, moved, rankings-behind, read-alone, read-bytes}
use Rattle.ballot_ids.proofs.OfBoth.{met-by-one}

-- ---- ids that differ

none-among : (a b : Bool) → a ≡ false → b ≡ false → (a || b) ≡ false
none-among false b h g = g
none-among true b h g = h

differ-append : (own its : List Id) → all_differ own ≡ true → all_differ its ≡ true →
    ((id : Id) → is_among its id ≡ true → is_among own id ≡ false) → all_differ (own ++ its) ≡ true
differ-append [] its h g others = g
differ-append (a ∷ own) its h g others =
    let (out, rest) = and_parts (not (is_among own a)) (all_differ own) h in
    let absent : is_among its a ≡ false = elim (cases_Bool (is_among its a)) [
      | inl among ↦ absurd (both_ways (is_same a a) (or-false (is_same a a) (is_among own a) (others a among)).0 (same-refl a))
      | inr none ↦ none
    ] in
    let none : is_among (own ++ its) a ≡ false =
    list_any-append (λ (other : Id). is_same other a) own its ∙ none-among (is_among own a) (is_among its a) (not-true (is_among own a) out) absent in
    and_from (not (is_among (own ++ its) a)) (all_differ (own ++ its)) (ap not none)
    (differ-append own its rest g (λ id among. (or-false (is_same a id) (is_among own id) (others id among)).1))

-- ---- the ids that were met

-- what the pages show is true of the ids
pub others-apart : (contests : List Contest) (xs ys : List Ballot) (own its : List Noted) → AllNoted xs contests own → AllNoted ys contests its →
    AreMetApart own its → AreOthers contests xs ys
others-apart contests xs ys own its noted more apart = λ place contest there id bytes among.
    let (met, at, are) = met-at xs contests own place contest noted there in
    let (new, new-at, are-new) = met-at ys contests its place contest more there in
    elim (cases_Bool (is_among (ballot_ids contest.id xs) id)) [
      | inl before ↦
          absurd (both_ways (is_among (ballot_ids contest.id ys) id)
          (met-by-one (ballot_ids contest.id xs) (ballot_ids contest.id ys) met new (apart place met new at new-at) are are-new id bytes before) among)
      | inr none ↦ none
    ]

noted-from : (ballots : List Ballot) (contests : List Contest) (all : List Noted) → length all ≡ length contests →
    ((place : ℕ) (contest : Contest) (met : Noted) → slice_get contests place ≡ Some contest → slice_get all place ≡ Some met →
    AreNoted (ballot_ids contest.id ballots) met) → AllNoted ballots contests all
noted-from ballots [] [] l h = tt
noted-from ballots [] (n ∷ all) l h = absurd cc
noted-from ballots (c ∷ contests) [] l h = absurd cc
noted-from ballots (c ∷ contests) (n ∷ all) l h =
    (h 0 c n refl refl, noted-from ballots contests all (omega (arith, l)) (λ place contest met there at. h (suc place) contest met there at))

noted-joined : (contests : List Contest) (xs ys : List Ballot) (from : ℕ) (own its all : List Noted) → AllNoted xs contests own →
    AllNoted ys contests its → AreJoined own its all → AllNoted (xs ++ moved from ys) contests all
noted-joined contests xs ys from own its all noted more joined =
    noted-from (xs ++ moved from ys) contests all (joined.same ∙ length-met xs contests own noted) (λ place contest both there at.
    let (met, met-there, are) = met-at xs contests own place contest noted there in
    let (new, new-there, are-new) = met-at ys contests its place contest more there in
    subst (λ ids. AreNoted ids both) (sym (ids-behind contest.id xs from ys))
    (joined.each place met new both met-there new-there at (ballot_ids contest.id xs) (ballot_ids contest.id ys) are are-new))

-- ---- the parts

parts-are : (place : ℕ) (wanted : Wanted) (ballots : List Ballot) (contests : List Contest) (parts : List (Option KeptPart)) →
    length parts ≡ length contests → ((k : ℕ) (contest : Contest) → slice_get contests k ≡ Some contest →
    slice_get parts k ≡ Some (wanted_part (place + k) wanted ballots contest)) → parts ≡ parts_from place wanted ballots contests
parts-are place wanted ballots [] [] l h = refl
parts-are place wanted ballots [] (p ∷ parts) l h = absurd cc
parts-are place wanted ballots (c ∷ contests) [] l h = absurd cc
parts-are place wanted ballots (c ∷ contests) (p ∷ parts) l h =
    let here : place + 0 ≡ place = omega arith in
    let stood = h 0 c refl in
    let first : p ≡ wanted_part (place + 0) wanted ballots c = cc in
    ap₂ (λ (part : Option KeptPart) (rest : List (Option KeptPart)). part ∷ rest) (first ∙ ap (λ k. wanted_part k wanted ballots c) here)
    (parts-are (place + 1) wanted ballots contests parts (omega (arith, l)) (λ k contest there.
    let e : place + suc k ≡ (place + 1) + k = omega arith in
    h (suc k) contest there ∙ ap (λ at. Some (wanted_part at wanted ballots contest)) e))

-- only the rankings of a contest's ballots are kept
abbrev votes_part : Option ℕ → List (List ℕ) → KeptPart
votes_part counted rankings = record { origins = None; counted = counted; rankings = rankings }

votes-behind : (place audited : ℕ) (contest : Contest) (xs ys : List Ballot) (from : ℕ) →
    part_behind (wanted_part place (VotesOf audited) ys contest) (wanted_part place (VotesOf audited) xs contest)
    ≡ wanted_part place (VotesOf audited) (xs ++ moved from ys) contest
votes-behind place audited contest xs ys from = by (is_wanted (VotesOf audited) place) where
  by : (t : Bool) → part_behind (if t then Some (part_of false ys contest) else None) (if t then Some (part_of false xs contest) else None)
      ≡ (if t then Some (part_of false (xs ++ moved from ys) contest) else None)
  by true = ap (λ (rankings : List (List ℕ)). Some (votes_part (counted_for false contest) rankings)) (sym (rankings-behind contest.id xs from ys))
  by false = refl

parts-behind : (contests : List Contest) (audited : ℕ) (xs ys : List Ballot) (from : ℕ) (own its all : List (Option KeptPart)) →
    own ≡ parts_from 0 (VotesOf audited) xs contests → its ≡ parts_from 0 (VotesOf audited) ys contests → ArePutBehind own its all →
    all ≡ parts_from 0 (VotesOf audited) (xs ++ moved from ys) contests
parts-behind contests audited xs ys from own its all own-is its-is behind =
    parts-are 0 (VotesOf audited) (xs ++ moved from ys) contests all
    (behind.same ∙ ap length own-is ∙ length-parts 0 (VotesOf audited) xs contests) (λ k contest there.
    let before = ap (λ parts. slice_get parts k) own-is ∙ part-at 0 (VotesOf audited) xs contests k contest there in
    let part = ap (λ parts. slice_get parts k) its-is ∙ part-at 0 (VotesOf audited) ys contests k contest there in
    let first = wanted_part (0 + k) (VotesOf audited) xs contest in
    let (both, at) = got all k (omega (arith, behind.same, slice_get_within own k first before)) in
    at ∙ ap Some (behind.each k first (wanted_part (0 + k) (VotesOf audited) ys contest) both before part at
    ∙ votes-behind (0 + k) audited contest xs ys from))

-- ---- all that is kept

apart-behind : (contest : Contest) (xs ys : List Ballot) (from : ℕ) → AreApart xs contest → AreApart ys contest →
    ((id : Id) → is_among (ballot_ids contest.id ys) id ≡ true → is_among (ballot_ids contest.id xs) id ≡ false) →
    AreApart (xs ++ moved from ys) contest
apart-behind contest xs ys from own its others =
    let more = rankings-behind contest.id xs from ys in
    let known = λ (ranking : List ℕ). All (λ c. c < length contest.candidates) ranking in
    let once = λ (ranking : List ℕ). IsTrue (is_distinct ranking) in
    record {
      differ = ap all_differ (ids-behind contest.id xs from ys)
          ∙ differ-append (ballot_ids contest.id xs) (ballot_ids contest.id ys) own.differ its.differ others;
      below = subst (All known) (sym more) (All-append known (rankings_in contest.id xs) (rankings_in contest.id ys) own.below its.below);
      distinct = subst (All once) (sym more) (All-append once (rankings_in contest.id xs) (rankings_in contest.id ys) own.distinct its.distinct);
    }

pub kept-behind : (contests : List Contest) (audited : ℕ) (xs : List Ballot) (at : ℕ) (rows : List Fields) (old its new : KeptBallots) →
    CanJoin old its → AreJoined old.met its.met new.met → ArePutBehind old.parts its.parts new.parts → new.count ≡ old.count + its.count →
    IsKeptUpTo contests (VotesOf audited) xs at old → IsReadAlone contests (VotesOf audited) rows its →
    IsReadBehind contests (VotesOf audited) xs at rows (at + its.count) new
kept-behind contests audited xs at rows old its new can met parts counted before (ys, read, kept) =
    let own = before.is_kept in
    let others = others-apart contests xs ys old.met its.met own.noted kept.noted can.apart in
    let few : length xs + length ys ≤ MOST_RECORDS = omega (arith, can.few, own.counted, kept.counted) in
    let bytes = read-bytes contests [] ys (2 + length contests) rows read refl in
    let long : length (xs ++ moved at ys) ≡ length xs + length ys = omega (arith, length-append xs (moved at ys), length-moved at ys) in (
      xs ++ moved at ys,
      read-alone contests xs ys (2 + length contests) at rows read others few,
      record {
        is_kept = record {
          noted = noted-joined contests xs ys at old.met its.met new.met own.noted kept.noted met;
          parted = parts-behind contests audited xs ys at old.parts its.parts new.parts own.parted kept.parted parts;
          counted = omega (arith, counted, own.counted, kept.counted, long);
          most = omega (arith, few, long);
          apart = λ place contest there. apart-behind contest xs ys at (own.apart place contest there) (kept.apart place contest there)
              (λ id among. others place contest there id (among-bytes contest.id id ys bytes among) among);
        };
        sized = before.sized;
        numbered = omega (arith, before.numbered, kept.counted, long);
      },
    )

-- ---- contest by contest

set-there : {X : Type 0} (xs : List X) (k : ℕ) (x : X) → k < length xs → slice_get (set xs k x) k ≡ Some x
set-there [] k x l = absurd (omega (arith, l))
set-there (a ∷ xs) zero x l = refl
set-there (a ∷ xs) (suc k) x l = set-there xs k x (omega (arith, l))

set-elsewhere : {X : Type 0} (xs : List X) (k i : ℕ) (x : X) → i ≢ k → slice_get (set xs k x) i ≡ slice_get xs i
set-elsewhere [] k i x away = refl
set-elsewhere (a ∷ xs) zero zero x away = absurd (away refl)
set-elsewhere (a ∷ xs) zero (suc i) x away = refl
set-elsewhere (a ∷ xs) (suc k) zero x away = refl
set-elsewhere (a ∷ xs) (suc k) (suc i) x away = set-elsewhere xs k i x (λ e. away (ap suc e))

pub set-same : {X : Type 0} (xs : List X) (k : ℕ) (x : X) → slice_get xs k ≡ Some x → set xs k x ≡ xs
set-same [] k x h = refl
set-same (a ∷ xs) zero x h =
    let same : a ≡ x = cc in
    ap (λ y. y ∷ xs) (sym same)
set-same (a ∷ xs) (suc k) x h = ap (λ ys. a ∷ ys) (set-same xs k x h)

-- the first n are put together, and the others are as they were
pub record SoFarTogether (X : Type 0) (Both : X → X → X → Type 0) (own its all : List X) (n : ℕ) : Type 0 where
  pub same : length all ≡ length own
  pub each : (place : ℕ) (before part both : X) → place < n → slice_get own place ≡ Some before → slice_get its place ≡ Some part →
      slice_get all place ≡ Some both → Both before part both
  pub left : (place : ℕ) → n ≤ place → slice_get all place ≡ slice_get own place

pub together-none : {X : Type 0} (Both : X → X → X → Type 0) (own its : List X) → SoFarTogether X Both own its own 0
together-none Both own its = record {
  same = refl;
  each = λ place before part both less. absurd (omega (arith, less));
  left = λ place more. refl;
}

pub together-more : {X : Type 0} (Both : X → X → X → Type 0) (own its all : List X) (n : ℕ) (before part both : X) →
    SoFarTogether X Both own its all n → slice_get own n ≡ Some before → slice_get its n ≡ Some part → Both before part both →
    SoFarTogether X Both own its (set all n both) (n + 1)
together-more {X} Both own its all n before part both so_far stood there is = record {
  same = length-set all n both ∙ so_far.same;
  each = each;
  left = λ place more. set-elsewhere all n place both (λ e. absurd (omega (arith, e, more))) ∙ so_far.left place (omega (arith, more));
} where
  each : (place : ℕ) (a b c : X) → place < n + 1 → slice_get own place ≡ Some a → slice_get its place ≡ Some b →
      slice_get (set all n both) place ≡ Some c → Both a b c
  each place a b c less g h e = elim (cases_eq place n) [
    | inl here ↦
        let first = same_at own n before a stood (ap (slice_get own) (sym here) ∙ g) in
        let second = same_at its n part b there (ap (slice_get its) (sym here) ∙ h) in
        let within : n < length all = omega (arith, so_far.same, slice_get_within own n before stood) in
        let third = same_at (set all n both) n both c (set-there all n both within) (ap (slice_get (set all n both)) (sym here) ∙ e) in
        subst (λ x. Both x b c) first (subst (λ y. Both before y c) second (subst (Both before part) third is))
    | inr away ↦
        so_far.each place a b c (omega (arith, less, away)) g h (sym (set-elsewhere all n place both away) ∙ e)
  ]

pub together-all : {X : Type 0} (Both : X → X → X → Type 0) (own its all : List X) (n : ℕ) → SoFarTogether X Both own its all n → length own ≤ n →
    AreTogether X Both own its all
together-all Both own its all n so_far l = record {
  same = so_far.same;
  each = λ place before part both g h e.
      so_far.each place before part both (omega (arith, l, slice_get_within own place before g)) g h e;
}
