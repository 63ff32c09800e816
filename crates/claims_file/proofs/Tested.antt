-- Claims that pass the tests of a guess, and the claims of an assertion file about the same contest.
use Rattle.std.proofs.Common.{◌≡◌, true, List, [], ◌∷◌, All, ℕ}
use Rattle.std.specs.List.{list_all}
use Rattle.std.specs.Prelude.{IsTrue}
use Rattle.std.proofs.lemmas.Bool.{and_parts}
use Rattle.std.proofs.lemmas.List.Elements.{All-nil, All-cons}
use Rattle.assertions.specs.Assertions.{is_proper}
use Rattle.assertions.specs.declared.assertion.Assertion.{Assertion}

pub proper-tested : (n : ℕ) (assertions : List Assertion) → list_all (is_proper n) assertions ≡ true → All (λ a. IsTrue (is_proper n a)) assertions
proper-tested n [] h = All-nil (λ a. IsTrue (is_proper n a))
proper-tested n (a ∷ assertions) h =
    let parts = and_parts (is_proper n a) (list_all (is_proper n) assertions) h in
    All-cons (λ a. IsTrue (is_proper n a)) a assertions parts.0 (proper-tested n assertions parts.1)
