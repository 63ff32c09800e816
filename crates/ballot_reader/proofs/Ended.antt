-- What is kept at the start, when nothing has been read, and what is kept at the end.
use Rattle.std.proofs.Common.{◌≡◌, ◌≤◌, ◌<◌, ◌+◌, ◌∙◌, ◌++◌, ◌∷◌, [], ℕ, zero, suc, Bool, true, false, not, List, Option, Some, None, Ok, length, take, get_or, refl, sym, ap, arith, inl, inr}
use Rattle.std.specs.Prelude.{All, IsTrue, filter, find, if◌then◌else◌}
use Rattle.std.specs.List.{slice_get}
use Rattle.std.proofs.lemmas.Bool.{cases_Bool}
use Rattle.std.proofs.lemmas.List.{get_or_default, length-map, length-take-le}
use Rattle.std.proofs.lemmas.Option.{slice_get_read}
use Rattle.std.proofs.lemmas.List.Elements.{All-nil}
use Rattle.std.proofs.Math.Seq.{take-suc}
use Rattle.irv_base.specs.Candidates.{is_distinct}
use Rattle.irv_base.specs.Names.{is_same}
use Rattle.ballots.specs.Ballots.{AreBallots}
use Rattle.ballots.specs.Grammar.{Ballot, Contest, ballot_ids, ballots_in, file_of, has_audited_size, unless_unsized}
use Rattle.ballot_reader.specs.Kept.{AllNoted, IsKept, KeptBallots, KeptPart, WantsAudited, empty_part, file_with, is_wanted, keeps_origins, part_of, parts_from, origins_in, rankings_in}
use Rattle.ballot_ids.specs.Noted.{AreNoted}
use Rattle.ballot_ids.specs.declared.noted.Noted.{Noted}
use Rattle.ballot_reader.specs.declared.wanted.Wanted.{Wanted}
use Rattle.ballot_reader.specs.declared.wanted.Wanted.TheVariants.{All as EachContest}
use Rattle.ballot_reader.proofs.Adding.{length-parts, part-at, wanted_part}

met-none : (contests : List Contest) (noted : List Noted) → length noted ≡ length contests → All (AreNoted []) noted →
    AllNoted [] contests noted
met-none [] [] l h = tt
met-none [] (n ∷ noted) l h = absurd cc
met-none (c ∷ contests) [] l h = absurd cc
met-none (c ∷ contests) (n ∷ noted) l h =
    (h 0 n (omega arith), met-none contests noted (omega (arith, l)) (λ k d less. h (suc k) d (omega (arith, less))))

pub kept-none : (contests : List Contest) (wanted : Wanted) (kept : KeptBallots) → length kept.met ≡ length contests →
    All (AreNoted []) kept.met → kept.parts ≡ parts_from 0 wanted [] contests → kept.count ≡ 0 → IsKept contests wanted [] kept
kept-none contests wanted kept l i p c = record {
  noted = met-none contests kept.met l i;
  parted = p;
  counted = c;
  most = omega arith;
  apart = λ place contest there. record {
    differ = refl;
    below = All-nil (λ ranking. All (λ c. c < length contest.candidates) ranking);
    distinct = All-nil (λ ranking. IsTrue (is_distinct ranking));
  };
}

pub parts-push : (place : ℕ) (wanted : Wanted) (contests : List Contest) (contest : Contest) →
    parts_from place wanted [] (contests ++ contest ∷ [])
    ≡ parts_from place wanted [] contests ++ (if is_wanted wanted (place + length contests) then Some (empty_part (keeps_origins wanted) contest) else None) ∷ []
parts-push place wanted [] contest =
    let e : place ≡ place + 0 = omega arith in
    ap (λ k. (if is_wanted wanted k then Some (empty_part (keeps_origins wanted) contest) else None) ∷ []) e
parts-push place wanted (c ∷ contests) contest =
    let e : (place + 1) + length contests ≡ place + suc (length contests) = omega arith in
    ap (λ more. (if is_wanted wanted place then Some (empty_part (keeps_origins wanted) c) else None) ∷ more) (parts-push (place + 1) wanted contests contest
    ∙ ap (λ k. parts_from (place + 1) wanted [] contests ++ (if is_wanted wanted k then Some (empty_part (keeps_origins wanted) contest) else None) ∷ []) e)

pub more-parts : (wanted : Wanted) (contests : List Contest) (k : ℕ) (parts : List (Option KeptPart)) (part : Option KeptPart) → k < length contests →
    parts ≡ parts_from 0 wanted [] (take k contests) →
    ((contest : Contest) → slice_get contests k ≡ Some contest →
    part ≡ (if is_wanted wanted k then Some (empty_part (keeps_origins wanted) contest) else None)) →
    parts ++ part ∷ [] ≡ parts_from 0 wanted [] (take (k + 1) contests)
more-parts wanted contests k parts part less before last =
    let none : Contest = record { at = 0; id = []; candidates = [] } in
    let contest : Contest = get_or contests k none in
    let there : slice_get contests k ≡ Some contest = slice_get_read contests (length contests) k contest refl less (get_or_default contests k none contest less) in
    let taken : 0 + length (take k contests) ≡ k = omega (arith, less, length-take-le k contests (omega (arith, less))) in
    let next : suc k ≡ k + 1 = omega arith in
    ap (λ ps. ps ++ part ∷ []) before
    ∙ ap (λ p. parts_from 0 wanted [] (take k contests) ++ p ∷ []) (last contest there
    ∙ ap (λ i. if is_wanted wanted i then Some (empty_part (keeps_origins wanted) contest) else None) (sym taken))
    ∙ sym (parts-push 0 wanted (take k contests) contest)
    ∙ ap (parts_from 0 wanted []) (sym (take-suc contests k none less) ∙ ap (λ i. take i contests) next)

filter-le : {X : Type 0} (p : X → Bool) (xs : List X) → length (filter p xs) ≤ length xs
filter-le p [] = omega arith
filter-le p (x ∷ xs) = elim (cases_Bool (p x)) [
  | inl t ↦ rw t (omega (arith, filter-le p xs))
  | inr f ↦ rw f (omega (arith, filter-le p xs))
]

pub are_ballots : (contests : List Contest) (wanted : Wanted) (ballots : List Ballot) (kept : KeptBallots) (k : ℕ) (chosen : Contest) →
    IsKept contests wanted ballots kept → slice_get contests k ≡ Some chosen →
    AreBallots (length chosen.candidates) (ballot_ids chosen.id ballots) (origins_in chosen.id ballots).places (rankings_in chosen.id ballots)
are_ballots contests wanted ballots kept k chosen is there =
    let own = ballots_in chosen.id ballots in
    let few = filter-le (λ (b : Ballot). is_same b.contest chosen.id) ballots in
    let r = length-map own (λ (b : Ballot). b.ranking) in
    let apart = is.apart k chosen there in
    record {
      most = omega (arith, r, few, is.most);
      an_id_each = length-map own (λ (b : Ballot). b.id) ∙ sym r;
      a_place_each = length-map own (λ (b : Ballot). b.at) ∙ sym r;
      differ = apart.differ;
      below = apart.below;
      distinct = apart.distinct;
    }

pub within-parts : (parts : List (Option KeptPart)) (contests : List Contest) (wanted : Wanted) (ballots : List Ballot) (k : ℕ) →
    parts ≡ parts_from 0 wanted ballots contests → k < length contests → k < length parts
within-parts parts contests wanted ballots k e l = omega (arith, l, ap length e, length-parts 0 wanted ballots contests)

-- the part of a contest that is asked for
pub own-part : (contests : List Contest) (wanted : Wanted) (k : ℕ) (ballots : List Ballot) (kept : KeptBallots) (contest : Contest) →
    IsKept contests wanted ballots kept → is_wanted wanted k ≡ true → slice_get contests k ≡ Some contest →
    slice_get kept.parts k ≡ Some (Some (part_of (keeps_origins wanted) ballots contest))
own-part contests wanted k ballots kept contest is w there =
    let e : 0 + k ≡ k = omega arith in
    ap (λ ps. slice_get ps k) is.parted ∙ part-at 0 wanted ballots contests k contest there ∙ ap (λ i. Some (wanted_part i wanted ballots contest)) e
    ∙ ap (λ b. Some (if b then Some (part_of (keeps_origins wanted) ballots contest) else None)) w

pub all-wanted : (contests all : List Contest) → unless_unsized all (find (λ (c : Contest). not (has_audited_size c.candidates)) contests) ≡ Ok all →
    WantsAudited contests EachContest
all-wanted [] all h = λ place contest there w. absurd cc
all-wanted (c ∷ contests) all h = by (has_audited_size c.candidates) refl h (all-wanted contests all) where
  by : (b : Bool) → has_audited_size c.candidates ≡ b
      → unless_unsized all (if not b then Some c else find (λ (x : Contest). not (has_audited_size x.candidates)) contests) ≡ Ok all
      → (unless_unsized all (find (λ (x : Contest). not (has_audited_size x.candidates)) contests) ≡ Ok all → WantsAudited contests EachContest)
      → WantsAudited (c ∷ contests) EachContest
  by false e g more = absurd cc
  by true e g more = at where
    at : WantsAudited (c ∷ contests) EachContest
    at zero contest there w = let s : c ≡ contest = cc in ap (λ (x : Contest). has_audited_size x.candidates) (sym s) ∙ e
    at (suc k) contest there w = more g k contest there w

-- the contest with its ballots, if their origins are kept
pub file-is : (contest : Contest) (ballots : List Ballot) (part : KeptPart) → part ≡ part_of true ballots contest →
    file_with contest part ≡ Some (file_of contest ballots)
file-is contest ballots part e = ap (file_with contest) e
