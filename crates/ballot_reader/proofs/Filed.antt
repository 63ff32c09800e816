-- Contests that are taken one by one with the data kept for their ballots.
use Rattle.std.proofs.Common.{true, ◌≡◌, ◌+◌, ◌∙◌, ◌++◌, ◌∷◌, [], ℕ, List, Option, Some, None, length, map, refl, sym, ap, subst, append_assoc}
use Rattle.std.specs.List.{slice_get}
use Rattle.std.proofs.lemmas.List.{append-nil, map-append}
use Rattle.ballots.specs.Ballots.{BallotFile}
use Rattle.ballots.specs.Grammar.{Ballot, Contest, file_of}
use Rattle.ballot_reader.specs.Kept.{IsKept, KeptBallots, KeptPart, file_with, part_of, parts_from}
use Rattle.ballot_reader.specs.declared.wanted.Wanted.TheVariants.{All as EachContest}
use Rattle.ballot_reader.proofs.Ended.{file-is}

-- the contests are those whose files have been made, followed by those that are left, with the data kept for them
pub record FiledSoFar (contests : List Contest) (ballots : List Ballot) (left : List Contest) (parts : List (Option KeptPart))
    (files : List BallotFile) : Type 0 where
  pub earlier : List Contest
  pub split : contests ≡ earlier ++ left
  pub parted : parts ≡ map (λ (c : Contest). Some (part_of true ballots c)) left
  pub filed : files ≡ map (λ (c : Contest). file_of c ballots) earlier

each-part : (place : ℕ) (ballots : List Ballot) (contests : List Contest) →
    parts_from place EachContest ballots contests ≡ map (λ (c : Contest). Some (part_of true ballots c)) contests
each-part place ballots [] = refl
each-part place ballots (c ∷ contests) = ap (λ more. Some (part_of true ballots c) ∷ more) (each-part (place + 1) ballots contests)

pub filed-none : (contests : List Contest) (ballots : List Ballot) (kept : KeptBallots) → IsKept contests EachContest ballots kept →
    FiledSoFar contests ballots contests kept.parts []
filed-none contests ballots kept is =
    record { earlier = []; split = refl; parted = is.parted ∙ each-part 0 ballots contests; filed = refl }

at-seam : {X : Type 0} (xs : List X) (x : X) (ys : List X) → slice_get (xs ++ x ∷ ys) (length xs) ≡ Some x
at-seam [] x ys = refl
at-seam (y ∷ xs) x ys = at-seam xs x ys

-- the next contest is one of the contests, and its part is taken together with it
pub record IsNext (contests : List Contest) (ballots : List Ballot) (contest : Contest) (part : KeptPart) : Type 0 where
  pub place : ℕ
  pub there : slice_get contests place ≡ Some contest
  pub parted : part ≡ part_of true ballots contest

pub next_filed : (contests : List Contest) (ballots : List Ballot) (contest : Contest) (left : List Contest)
    (part : KeptPart) (parts : List (Option KeptPart)) (files : List BallotFile) →
    FiledSoFar contests ballots (contest ∷ left) (Some part ∷ parts) files → IsNext contests ballots contest part
next_filed contests ballots contest left part parts files so_far =
    let p = so_far.parted in
    record {
      place = length so_far.earlier;
      there = ap (λ xs. slice_get xs (length so_far.earlier)) so_far.split ∙ at-seam so_far.earlier contest left;
      parted = cc;
    }

pub filed-more : (contests : List Contest) (ballots : List Ballot) (contest : Contest) (left : List Contest)
    (part : KeptPart) (parts : List (Option KeptPart)) (files : List BallotFile) (file : BallotFile) →
    FiledSoFar contests ballots (contest ∷ left) (Some part ∷ parts) files → file_with contest part ≡ Some file →
    FiledSoFar contests ballots left parts (files ++ file ∷ [])
filed-more contests ballots contest left part parts files file so_far e =
    let next = next_filed contests ballots contest left part parts files so_far in
    let p = so_far.parted in
    let same : file ≡ file_of contest ballots = let is = sym e ∙ file-is contest ballots part next.parted in cc in
    record {
      earlier = so_far.earlier ++ contest ∷ [];
      split = so_far.split ∙ sym (append_assoc so_far.earlier (contest ∷ []) left);
      parted = cc;
      filed = ap (λ fs. fs ++ file ∷ []) so_far.filed ∙ ap (λ f. map (λ (c : Contest). file_of c ballots) so_far.earlier ++ f ∷ []) same
          ∙ sym (map-append (λ (c : Contest). file_of c ballots) so_far.earlier (contest ∷ []));
    }

pub filed-end : (contests : List Contest) (ballots : List Ballot) (parts : List (Option KeptPart)) (files : List BallotFile) →
    FiledSoFar contests ballots [] parts files → files ≡ map (λ (c : Contest). file_of c ballots) contests
filed-end contests ballots parts files so_far =
    so_far.filed ∙ ap (map (λ (c : Contest). file_of c ballots)) (sym (so_far.split ∙ append-nil so_far.earlier))

-- ---- as they are taken

module _ (contests : List Contest) (ballots : List Ballot) (contest : Contest) (before left : List Contest)
    (parts : List (Option KeptPart)) (files : List BallotFile) (so_far : FiledSoFar contests ballots before parts files)
    (first : before ≡ contest ∷ left) where
  -- a contest that is left has a part
  pub part-left : parts ≡ [] → ⊥
  part-left e = let p = sym e ∙ so_far.parted ∙ ap (map (λ (c : Contest). Some (part_of true ballots c))) first in absurd cc

  pub no_part-left : (rest : List (Option KeptPart)) → parts ≡ None ∷ rest → ⊥
  no_part-left rest e = let p = sym e ∙ so_far.parted ∙ ap (map (λ (c : Contest). Some (part_of true ballots c))) first in absurd cc

  module _ (part : KeptPart) (parts-rest : List (Option KeptPart)) (p : parts ≡ Some part ∷ parts-rest) where
    taken : FiledSoFar contests ballots (contest ∷ left) (Some part ∷ parts-rest) files
    taken = subst (λ xs. FiledSoFar contests ballots xs (Some part ∷ parts-rest) files) first
        (subst (λ xs. FiledSoFar contests ballots before xs files) p so_far)

    pub next_taken : IsNext contests ballots contest part
    next_taken = next_filed contests ballots contest left part parts-rest files taken

    pub all_taken : (file : BallotFile) (more : List BallotFile) → more ≡ files ++ file ∷ [] → file_with contest part ≡ Some file →
        FiledSoFar contests ballots left parts-rest more
    all_taken file more e f =
        subst (FiledSoFar contests ballots left parts-rest) (sym e)
        (filed-more contests ballots contest left part parts-rest files file taken f)
