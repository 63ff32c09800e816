-- Values with their margins, in order.
use Rattle.std.proofs.Common.{◌≡◌, ℕ, List, [], ◌∷◌, All, length, map, refl, ap, arith}
use Rattle.std.proofs.lemmas.List.Elements.{All-nil, All-cons, All-head, All-tail}
use Rattle.assertions.specs.declared.assertion.Claim.{Claim}
use Rattle.assertions.specs.Assorter.{assorter_value}
use Rattle.assertions.proofs.Sums.{assorter-is}
use Rattle.assertion_file.specs.Content.{Content as FileContent, margins_of}
use Rattle.assorters.specs.Cards.{IsAssorter}
use Rattle.session_state.specs.Claims.{audited, audited_by, audited_claim, values_of}
use Rattle.session_state.specs.Draws.{Audited}

-- the values and margins of a file are its claims
pub audited-file : (file : FileContent) → audited_by (values_of file) (margins_of file) ≡ audited file
audited-file file = go file.claims where
  go : (claims : List Claim) → audited_by (map (λ claim. assorter_value claim.assertion) claims) (map (λ claim. claim.margin) claims) ≡ map audited_claim claims
  go [] = refl
  go (claim ∷ claims) = ap (λ rest. audited_claim claim ∷ rest) (go claims)

pub file-assorters : (file : FileContent) → All IsAssorter (values_of file)
file-assorters file = go file.claims where
  go : (claims : List Claim) → All IsAssorter (map (λ claim. assorter_value claim.assertion) claims)
  go [] = All-nil IsAssorter
  go (claim ∷ claims) = All-cons IsAssorter (assorter_value claim.assertion) _ (assorter-is claim.assertion) (go claims)

pub same-margins : (values : List (List ℕ → ℕ)) (margins : List ℕ) → length margins ≡ length values →
    map (λ (claim : Audited). claim.margin) (audited_by values margins) ≡ margins
same-margins [] [] same = refl
same-margins [] (m ∷ margins) same = absurd (omega arith)
same-margins (v ∷ values) [] same = absurd (omega arith)
same-margins (v ∷ values) (m ∷ margins) same = ap (λ rest. m ∷ rest) (same-margins values margins (omega arith))

pub same-values : (values : List (List ℕ → ℕ)) (margins : List ℕ) → length margins ≡ length values →
    map (λ (claim : Audited). claim.value) (audited_by values margins) ≡ values
same-values [] [] same = refl
same-values [] (m ∷ margins) same = absurd (omega arith)
same-values (v ∷ values) [] same = absurd (omega arith)
same-values (v ∷ values) (m ∷ margins) same = ap (λ rest. v ∷ rest) (same-values values margins (omega arith))

pub each-assorter : (values : List (List ℕ → ℕ)) (margins : List ℕ) → All IsAssorter values →
    All (λ (claim : Audited). IsAssorter claim.value) (audited_by values margins)
each-assorter [] margins all = All-nil (λ (claim : Audited). IsAssorter claim.value)
each-assorter (v ∷ values) [] all = All-nil (λ (claim : Audited). IsAssorter claim.value)
each-assorter (v ∷ values) (m ∷ margins) all =
    All-cons (λ (claim : Audited). IsAssorter claim.value) (record { value = v; margin = m }) (audited_by values margins)
    (All-head IsAssorter v values all)
    (each-assorter values margins (All-tail IsAssorter v values all))
