-- A file goes into a taker piece by piece.
use Rattle.std.proofs.Common.{◌≡◌, ◌∙◌, ℕ, ◌+◌, ◌≤◌, List, ◌++◌, length, Option, subst, arith, append_assoc, length-append}
use Rattle.std.specs.Io.KnownBytes.{Consumes}
use Rattle.std.proofs.KnownBytes.{Consumes-trans}
use Rattle.desk.specs.Reading.{TookAll}
use Rattle.desk.specs.Taker.{TookMore}

-- one more piece
pub one_piece_more : {T : Type 0} (sought : T → Option (List ℕ)) (has_taken : T → List ℕ → Type 0) (a b c : T) (whole left rest : Option (List ℕ)) (limit came n : ℕ) (piece : List ℕ)
    → TookAll sought has_taken a b (Consumes whole left) limit came → Consumes left rest piece → length piece ≡ n → came + n ≤ limit
    → TookMore sought has_taken b c piece → TookAll sought has_taken a c (Consumes whole rest) limit (came + n)
one_piece_more sought has_taken a b c whole left rest limit came n piece so_far gives counts fits more = record {
  bytes = so_far.bytes ++ piece;
  these = Consumes-trans whole left rest so_far.bytes piece so_far.these gives;
  short = omega (arith, length-append so_far.bytes piece, so_far.all);
  all = omega (arith, length-append so_far.bytes piece, so_far.all);
  took = record {
    same = more.same ∙ so_far.took.same;
    taken = λ before had. subst (has_taken c) (append_assoc before so_far.bytes piece) (more.taken (before ++ so_far.bytes) (so_far.took.taken before had));
  };
}
