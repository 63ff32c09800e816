-- A claim in the middle of others.
use Rattle.std.proofs.Common.{◌≡◌, ℕ, ◌+◌, ◌<◌, Bool, true, false, not, ◌&&◌, ◌||◌, List, [], ◌∷◌, ◌++◌, length, map, take, get_or, refl, sym, ap, ◌∙◌, append_assoc}
use Rattle.std.specs.List.{list_any}
use Rattle.std.proofs.lemmas.List.{take_more}
use Rattle.assertions.specs.declared.assertion.Claim.{Claim}
use Rattle.assertions.specs.Refutation.{refutes}
use Rattle.cover_checker.specs.Covers.{stands}
use Rattle.trimmer.proofs.Lefts.{assertion_in}

or-turned : (a b : Bool) → (a || b) ≡ (b || a)
or-turned true true = refl
or-turned true false = refl
or-turned false true = refl
or-turned false false = refl

or-grouped : (a b c : Bool) → (a || (b || c)) ≡ ((a || b) || c)
or-grouped true b c = refl
or-grouped false b c = refl

not-or : (a b : Bool) → not (a || b) ≡ (not a && not b)
not-or true b = refl
not-or false b = refl

any-midst : (test : Claim → Bool) (earlier : List Claim) (claim : Claim) (later : List Claim) → list_any test (earlier ++ claim ∷ later)
    ≡ (list_any test (earlier ++ later) || test claim)
any-midst test [] claim later = or-turned (test claim) (list_any test later)
any-midst test (first ∷ earlier) claim later =
    ap (λ b. test first || b) (any-midst test earlier claim later) ∙ or-grouped (test first) (list_any test (earlier ++ later)) (test claim)

any-map : (s : List ℕ) (claims : List Claim) → list_any (λ a. refutes a s) (map assertion_in claims) ≡ list_any (λ (claim : Claim). refutes claim.assertion s) claims
any-map s [] = refl
any-map s (claim ∷ claims) = ap (λ b. refutes claim.assertion s || b) (any-map s claims)

pub stands-parted : (earlier : List Claim) (claim : Claim) (later : List Claim) (s : List ℕ) → stands (map assertion_in (earlier ++ claim ∷ later)) s
    ≡ (stands (map assertion_in (earlier ++ later)) s && not (refutes claim.assertion s))
stands-parted earlier claim later s =
    ap not (any-map s (earlier ++ claim ∷ later) ∙ any-midst (λ (claim : Claim). refutes claim.assertion s) earlier claim later)
    ∙ not-or (list_any (λ (claim : Claim). refutes claim.assertion s) (earlier ++ later)) (refutes claim.assertion s)
    ∙ ap (λ b. not b && not (refutes claim.assertion s)) (sym (any-map s (earlier ++ later)))

-- the claim at an index, after the earlier ones
pub take-midst : (claims : List Claim) (i : ℕ) (d : Claim) (later : List Claim) → i < length claims → take (i + 1) claims ++ later
    ≡ take i claims ++ get_or claims i d ∷ later
take-midst claims i d later l = ap (λ front. front ++ later) (take_more claims i d l) ∙ append_assoc (take i claims) (get_or claims i d ∷ []) later
