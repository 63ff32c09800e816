-- What is said about an assertion whose members are there.
use Rattle.std.proofs.Common.{◌≡◌, ◌∙◌, ℕ, Bool, true, false, ◌&&◌, List, [], ◌∷◌, Some, None, Ok, Err, refl, ap}
use Rattle.std.specs.Prelude.{option_map, ok_or}
use Rattle.serde_json.specs.Data.{Data}
use Rattle.assertions.specs.declared.assertion.Assertion.{Assertion}
use Rattle.irv_base.specs.Names.{Id, is_among, is_same}
use Rattle.assertion_file.specs.Ids.{number_of, numbers_of}
use Rattle.assertion_file.specs.Stated.{Entry, entry_in}
use Rattle.assertion_file.specs.Reading.{judged, are_draws, judged_assertion, is_margin, assertion_with, entry_rules, claim_with, claim_of, ◌>>=◌}
use Rattle.assertion_file.specs.declared.members.DrawsMember.{DrawsMember}
use Rattle.assertion_file.specs.declared.fault.FRule.{FRule}
use Rattle.assertion_file.specs.declared.fault.FRule.TheVariants.{F2, F4, F5, F6}
use Rattle.assertion_file.proofs.Judged.{err-more, both-hold}

pub claim-none : (ids : List Id) (records : ℕ) (asked : DrawsMember) (value : Data) → entry_in asked value ≡ None → claim_of ids records asked value ≡ Err F2
unfolding claim_of
claim-none ids records asked value h = ap (λ o. ok_or o F2 >>= λ entry. judged (entry_rules ids records entry) (claim_with ids entry)) h

pub claim-some : (ids : List Id) (records : ℕ) (asked : DrawsMember) (value : Data) (entry : Entry) → entry_in asked value ≡ Some entry →
    claim_of ids records asked value ≡ judged (entry_rules ids records entry) (claim_with ids entry)
unfolding claim_of
claim-some ids records asked value entry h = ap (λ o. ok_or o F2 >>= λ entry. judged (entry_rules ids records entry) (claim_with ids entry)) h

pub no_winner : (ids : List Id) (records : ℕ) (entry : Entry) → is_among ids entry.winner ≡ false →
    judged (entry_rules ids records entry) (claim_with ids entry) ≡ Err F4
no_winner ids records entry w = rw w refl

pub no_loser : (ids : List Id) (records : ℕ) (entry : Entry) → is_among ids entry.winner ≡ true → is_among ids entry.loser ≡ false →
    judged (entry_rules ids records entry) (claim_with ids entry) ≡ Err F4
no_loser ids records entry w l = rw (w, l) refl

pub itself : (ids : List Id) (records : ℕ) (entry : Entry) → is_among ids entry.winner ≡ true → is_among ids entry.loser ≡ true →
    is_same entry.winner entry.loser ≡ true →
    judged (entry_rules ids records entry) (claim_with ids entry) ≡ Err F4
itself ids records entry w l same = rw (w, l, same) refl

-- two candidates, by their numbers
pub record Pair (ids : List Id) (entry : Entry) (w l : ℕ) : Type 0 where
  pub winner : is_among ids entry.winner ≡ true
  pub loser : is_among ids entry.loser ≡ true
  pub differ : is_same entry.winner entry.loser ≡ false
  pub w_is : number_of ids entry.winner ≡ w
  pub l_is : number_of ids entry.loser ≡ l

pub no_assertion : (ids : List Id) (records : ℕ) (entry : Entry) (w l : ℕ) (rule : FRule) → Pair ids entry w l →
    judged_assertion ids w l entry.rest ≡ Err rule → judged (entry_rules ids records entry) (claim_with ids entry) ≡ Err rule
no_assertion ids records entry w l rule p h =
    rw (p.winner, p.loser, p.differ, p.w_is, p.l_is)
    (err-more _ _ F4 F5 ((is_margin records entry.margin, F6) ∷ (are_draws entry.draws, F6) ∷ [])
    _ (record { assertion = assertion_with w l (option_map (numbers_of ids) entry.rest); margin = entry.margin; draws = entry.draws }) rule h)

counts-refused : {A : Type 0} (a b : Bool) (x : A) → (a && b) ≡ false → judged ((a, F6) ∷ (b, F6) ∷ []) x ≡ Err F6
counts-refused true true x h = absurd cc
counts-refused true false x h = refl
counts-refused false b x h = refl

counts-kept : {A : Type 0} (a b : Bool) (x : A) → (a && b) ≡ true → judged ((a, F6) ∷ (b, F6) ∷ []) x ≡ Ok x
counts-kept true true x h = refl
counts-kept true false x h = absurd cc
counts-kept false b x h = absurd cc

pub no_counts : (ids : List Id) (records : ℕ) (entry : Entry) (w l : ℕ) (a : Assertion) → Pair ids entry w l →
    judged_assertion ids w l entry.rest ≡ Ok a → (is_margin records entry.margin && are_draws entry.draws) ≡ false →
    judged (entry_rules ids records entry) (claim_with ids entry) ≡ Err F6
no_counts ids records entry w l a p h m =
    let b = both-hold _ _ F4 F5 _ a h in
    rw (p.winner, p.loser, p.differ, p.w_is, p.l_is, b.first, b.second) (counts-refused (is_margin records entry.margin) (are_draws entry.draws) _ m)

pub a_claim : (ids : List Id) (records : ℕ) (entry : Entry) (w l : ℕ) (a : Assertion) → Pair ids entry w l →
    judged_assertion ids w l entry.rest ≡ Ok a → (is_margin records entry.margin && are_draws entry.draws) ≡ true →
    judged (entry_rules ids records entry) (claim_with ids entry)
    ≡ Ok (record { assertion = a; margin = entry.margin; draws = entry.draws })
a_claim ids records entry w l a p h m =
    let b = both-hold _ _ F4 F5 _ a h in
    rw (p.winner, p.loser, p.differ, p.w_is, p.l_is, b.first, b.second)
    (counts-kept (is_margin records entry.margin) (are_draws entry.draws) _ m
    ∙ ap (λ (b : Assertion). Ok (record { assertion = b; margin = entry.margin; draws = entry.draws })) b.same)
