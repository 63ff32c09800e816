-- What is said about an assertion whose members are there.
use Rattle.std.proofs.Common.{◌≡◌, ℕ, true, false, List, Some, None, Err, refl, ap}
use Rattle.std.specs.Prelude.{ok_or, Result}
use Rattle.serde_json.specs.Data.{Data}
use Rattle.irv_base.specs.Names.{Id, is_among, is_same}
use Rattle.assertions.specs.declared.assertion.Assertion.{Assertion}
use Rattle.assertion_file.specs.Ids.{number_of}
use Rattle.assertion_file.specs.Reading.{judged, judged_assertion, ◌>>=◌}
use Rattle.claims_file.specs.Faults.{as_claims}
use Rattle.claims_file.specs.Reading.{assertion_of, pair_rules}
use Rattle.claims_file.specs.Stated.{Entry, entry_in}
use Rattle.claims_file.specs.declared.fault.CRule.{CRule}
use Rattle.claims_file.specs.declared.fault.CRule.TheVariants.{C2, C4}

-- what is said once the members are there
abbrev pub said_of : List Id → Entry → Result Assertion CRule
said_of ids stated =
    judged (pair_rules ids stated) stated >>= λ entry.
    as_claims (judged_assertion ids (number_of ids entry.winner) (number_of ids entry.loser) entry.rest)

pub without : (ids : List Id) (value : Data) → entry_in value ≡ None → assertion_of ids value ≡ Err C2
unfolding assertion_of
without ids value h = ap (λ o. ok_or o C2 >>= said_of ids) h

pub with : (ids : List Id) (value : Data) (entry : Entry) → entry_in value ≡ Some entry → assertion_of ids value ≡ said_of ids entry
unfolding assertion_of
with ids value entry h = ap (λ o. ok_or o C2 >>= said_of ids) h

pub no_winner : (ids : List Id) (entry : Entry) → is_among ids entry.winner ≡ false → said_of ids entry ≡ Err C4
no_winner ids entry w = rw w refl

pub no_loser : (ids : List Id) (entry : Entry) → is_among ids entry.winner ≡ true → is_among ids entry.loser ≡ false → said_of ids entry ≡ Err C4
no_loser ids entry w l = rw (w, l) refl

pub itself : (ids : List Id) (entry : Entry) → is_among ids entry.winner ≡ true → is_among ids entry.loser ≡ true → is_same entry.winner entry.loser ≡ true →
    said_of ids entry ≡ Err C4
itself ids entry w l same = rw (w, l, same) refl

-- two candidates, by their numbers
pub record Pair (ids : List Id) (entry : Entry) (w l : ℕ) : Type 0 where
  pub winner : is_among ids entry.winner ≡ true
  pub loser : is_among ids entry.loser ≡ true
  pub differ : is_same entry.winner entry.loser ≡ false
  pub w_is : number_of ids entry.winner ≡ w
  pub l_is : number_of ids entry.loser ≡ l

pub judged_pair : (ids : List Id) (entry : Entry) (w l : ℕ) → Pair ids entry w l → said_of ids entry ≡ as_claims (judged_assertion ids w l entry.rest)
judged_pair ids entry w l p = rw (p.winner, p.loser, p.differ, p.w_is, p.l_is) refl
