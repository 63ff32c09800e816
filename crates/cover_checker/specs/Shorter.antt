-- A suffix that no assertion refutes isn't refuted without its first candidate either. The walk needs this fact about its test.
use Rattle.std.specs.Prelude.{◌≡◌, ℕ, true, not, nat_lt, List, ◌∷◌}
use Rattle.std.specs.List.{list_any, list_all}
use Rattle.std.proofs.lemmas.Bool.{and_parts, both_ways, not-true, not_from_false, false_from_ne_true}
use Rattle.assertions.specs.declared.assertion.Assertion.{Assertion}
use Rattle.irv_base.specs.Suffixes.{is_suffix}
use Rattle.assertions.specs.Refutation.{refutes}
use Rattle.irv_base.specs.Candidates.{is_in, is_distinct}
use Rattle.irv_base.proofs.Members.{from_list_any, list_any-member}
use Rattle.assertions.proofs.Parts.{refutes_more}
use Rattle.cover_checker.specs.Covers.{stands}

pub stands-shrinks : (n : ℕ) (list : List Assertion) (c : ℕ) (suffix : List ℕ) →
    is_suffix n (c ∷ suffix) ≡ true → stands list (c ∷ suffix) ≡ true → stands list suffix ≡ true
stands-shrinks n list c suffix proper h =
    let free = not-true (list_any (λ a. refutes a (c ∷ suffix)) list) h in
    let below = list_all (λ d. nat_lt d n) (c ∷ suffix) in
    let apart = (and_parts (is_distinct (c ∷ suffix)) below proper).0 in
    let out =
    not-true (is_in suffix c) (and_parts (not (is_in suffix c)) (is_distinct suffix) apart).0 in
    not_from_false (list_any (λ a. refutes a suffix) list)
    (false_from_ne_true (list_any (λ a. refutes a suffix) list) (λ any.
    let (a, m, r) = from_list_any (λ a. refutes a suffix) list any in
    both_ways (list_any (λ a. refutes a (c ∷ suffix)) list) free
    (list_any-member (λ a. refutes a (c ∷ suffix)) {x = a} m (refutes_more a c suffix r out))))
