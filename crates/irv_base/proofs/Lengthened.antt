-- Rankings whose last one gets one more candidate.
use Rattle.std.proofs.Common.{◌≡◌, ◌<◌, ◌++◌, ◌∷◌, [], ℕ, false, List, Some, refl, arith, length, length-append}
use Rattle.std.specs.Prelude.{All, IsTrue}
use Rattle.std.proofs.lemmas.List.Elements.{All-pop, All-push}
use Rattle.irv_base.specs.Candidates.{is_in, is_distinct}
use Rattle.irv_base.specs.Places.{AreRankings}
use Rattle.irv_base.specs.declared.limits.TheConstants.{ROOM}
use Rattle.irv_base.proofs.Members.{none-from_out}
use Rattle.irv_base.proofs.Distinct.{distinct-from_test, distinct-push, test-distinct}

all-longer : {X : Type 0} (P : X → Type 0) (earlier : List X) (last longer : X) → All P (earlier ++ last ∷ []) → (P last → P longer) →
    All P (earlier ++ longer ∷ [])
all-longer P earlier last longer all next =
    let (before, at) = All-pop P (earlier ++ last ∷ []) earlier (Some last) refl all in
    All-push P earlier longer before (next at)

pub rankings-longer : (earlier : List (List ℕ)) (last : List ℕ) (c : ℕ) → AreRankings (earlier ++ last ∷ []) → is_in last c ≡ false → c < ROOM →
    AreRankings (earlier ++ (last ++ c ∷ []) ∷ [])
rankings-longer earlier last c are absent below = record {
  below = all-longer (All (λ d. d < ROOM)) earlier last (last ++ c ∷ []) are.below (λ all. All-push (λ d. d < ROOM) last c all below);
  distinct = all-longer (λ ranking. IsTrue (is_distinct ranking)) earlier last (last ++ c ∷ []) are.distinct
      (λ distinct. test-distinct (distinct-push last c (distinct-from_test last distinct) (none-from_out absent)));
}

pub some-length : {X : Type 0} (earlier : List X) (last : X) → 0 < length (earlier ++ last ∷ [])
some-length earlier last = omega (arith, length-append earlier (last ∷ []))
