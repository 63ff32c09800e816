-- What is read of an assertion file obeys the rules of files.
use Rattle.std.proofs.Common.{◌≡◌, ℕ, true, ◌&&◌, List, length, map, All, Option, None, Some, Result, Ok, Err, refl, sym, ap, subst, ◌∙◌}
use Rattle.std.specs.Prelude.{ok_or, nat_le, IfSome}
use Rattle.std.proofs.lemmas.Bool.{and_parts, leb-true}
use Rattle.std.proofs.lemmas.List.{length-map}
use Rattle.std.proofs.lemmas.List.Elements.{All-map}
use Rattle.irv_base.specs.Orders.{is_order}
use Rattle.irv_base.specs.declared.limits.TheConstants.{MOST_CARDS, GREATEST_GAMMA, GREATEST_LIMIT}
use Rattle.assertion_file.specs.declared.claims.Planned.{Planned}
use Rattle.assertion_file.specs.declared.members.Terms.{Terms}
use Rattle.assertion_file.specs.Content.{Content, IsSound, IsSoundClaim, IsSoundPlan, IsDrawCount, HasNames, candidate_count}
use Rattle.assertion_file.specs.Reading.{are_terms, assertion_file_of, claim_in, claims_in, content_of, content_with, plan_with, heading_rules, is_order_if, judged_heading, located, order_numbers, ◌>>=◌}
use Rattle.file_fault.specs.Refusals.{Refusal}
use Rattle.assertion_file.specs.Stated.{Heading, draws_asked, heading_in}
use Rattle.assertion_file.specs.Text.{assertion_file_text, json_of}
use Rattle.assertion_file.specs.declared.fault.FRule.{FRule}
use Rattle.assertion_file.specs.declared.fault.FRule.TheVariants.{F1}
use Rattle.file_fault.specs.declared.fault.Fault.TheVariants.{Refused}
use Rattle.assertion_file.proofs.Headings.{content-kept, content-none, refused_heading, sound}
use Rattle.assertion_file.proofs.Judged.{all-hold}
use Rattle.assertion_file.proofs.Printed.{printed_reads_back}
use Rattle.assertion_file.proofs.SoundClaims.{IsSoundPlanned, claims-sound}

ok_is : {A E : Type 0} {x y : A} (a b : Result A E) → a ≡ Ok x → b ≡ Ok y → a ≡ b → x ≡ y
ok_is a b e k h = cc

-- the heading that obeys the rules is the one that is judged
kept-same : (heading kept : Heading) → judged_heading heading ≡ Ok kept → heading ≡ kept
unfolding judged_heading
kept-same heading kept h = (all-hold (heading_rules heading) heading kept h).1

pub order-is : (n : ℕ) (order : Option (List ℕ)) → is_order_if n order ≡ true → IfSome order (λ order. is_order n order ≡ true)
order-is n None h = tt
order-is n (Some order) h = h

-- ---- claims and their plan

pub sound-claims : (heading : Heading) (claims : List Planned) → All (IsSoundPlanned (length heading.candidates) heading.records) claims →
    All (IsSoundClaim (length heading.candidates) heading.records) (map claim_in claims)
sound-claims heading claims all =
    All-map (IsSoundClaim (length heading.candidates) heading.records) claim_in claims (λ i d within. (all i d within).claim)

pub plan-sound : (n records : ℕ) (terms : Option Terms) (claims : List Planned) → are_terms records terms ≡ true →
    All (IsSoundPlanned n records) claims →
    IfSome (plan_with terms claims) (IsSoundPlan records (length (map claim_in claims)))
plan-sound n records None claims h all = tt
plan-sound n records (Some terms) claims h all =
    let some_cards = nat_le records terms.cards in
    let most_cards = nat_le terms.cards MOST_CARDS in
    let some_gamma = nat_le 1 terms.gamma in
    let most_gamma = nat_le terms.gamma GREATEST_GAMMA in
    let some_limit = nat_le 1 terms.limit in
    let most_limit = nat_le terms.limit GREATEST_LIMIT in
    let a = and_parts (some_cards && most_cards && some_gamma && most_gamma && some_limit) most_limit h in
    let b = and_parts (some_cards && most_cards && some_gamma && most_gamma) some_limit a.0 in
    let c = and_parts (some_cards && most_cards && some_gamma) most_gamma b.0 in
    let d = and_parts (some_cards && most_cards) some_gamma c.0 in
    let e = and_parts some_cards most_cards d.0 in
    record {
      some_cards = leb-true records terms.cards e.0;
      most_cards = leb-true terms.cards MOST_CARDS e.1;
      some_gamma = leb-true 1 terms.gamma d.1;
      most_gamma = leb-true terms.gamma GREATEST_GAMMA c.1;
      some_limit = leb-true 1 terms.limit b.1;
      most_limit = leb-true terms.limit GREATEST_LIMIT a.1;
      each = length-map claims (λ (planned : Planned). planned.draws) ∙ sym (length-map claims claim_in);
      draws = All-map (λ draws. IfSome draws IsDrawCount) (λ (planned : Planned). planned.draws) claims (λ i d within. (all i d within).draws);
    }

abbrev pub Kept : Content → Type 0
Kept file = IsSound file × HasNames file

module _ (value : _) (file : Content) (read : content_of value ≡ Ok file) where
  with_claims : (heading : Heading) → judged_heading heading ≡ Ok heading → (claims : Result (List Planned) (Refusal FRule)) →
      claims_in heading ≡ claims →
      (claims >>= λ claims. Ok (content_with heading claims)) ≡ Ok file → Kept file
  with_claims heading kept (Err refusal) c e = absurd cc
  with_claims heading kept (Ok claims) c e =
      let s = sound heading kept in
      let all = claims-sound heading.candidates heading.records (draws_asked heading.version heading.terms) 1 heading.assertions claims c in
      let same : content_with heading claims ≡ file = cc in
      let rules : IsSound (content_with heading claims) = record {
        fewest = s.fewest;
        most = s.most;
        differ = s.differ;
        some_records = s.some_records;
        most_records = s.most_records;
        winner = s.winner;
        order = order-is (length heading.candidates) (order_numbers heading.candidates heading.order) s.order;
        margin = s.margin;
        claims = sound-claims heading claims all;
        plan = plan-sound (candidate_count (content_with heading claims)) heading.records heading.terms claims s.terms all;
      } in
      subst Kept same (rules, record { contest = s.contest; candidates = s.names })

  with_rules : (heading : Heading) → heading_in value ≡ Some heading → (judged : Result Heading FRule) → judged_heading heading ≡ judged → Kept file
  with_rules heading h (Err rule) k = let refused = sym (refused_heading value heading (Refused rule 0) h (ap (located 0) k)) ∙ read in absurd cc
  with_rules heading h (Ok kept) k =
      let own : judged_heading heading ≡ Ok heading = k ∙ ap Ok (sym (kept-same heading kept k)) in
      with_claims heading own (claims_in heading) refl (sym (content-kept value heading h own) ∙ read)

  with_heading : (heading : Option Heading) → heading_in value ≡ heading → Kept file
  with_heading None h = let refused = sym (content-none value h) ∙ read in absurd cc
  with_heading (Some heading) h = with_rules heading h (judged_heading heading) refl

pub read_keeps : (bytes : List ℕ) (file : Content) → assertion_file_of bytes ≡ Ok file → IsSound file × HasNames file
unfolding assertion_file_of
read_keeps bytes file read = by (json_of bytes) read where
  by : (value : Option _) → (located 0 (ok_or value F1) >>= content_of) ≡ Ok file → Kept file
  by None e = absurd cc
  by (Some value) e = with_heading value file e (heading_in value) refl

pub read_is_sound : (bytes : List ℕ) (file : Content) → assertion_file_of bytes ≡ Ok file → IsSound file
read_is_sound bytes file read = (read_keeps bytes file read).0

pub read_is_printed : (bytes : List ℕ) (file : Content) → assertion_file_of bytes ≡ Ok file → assertion_file_of (assertion_file_text file) ≡ Ok file
read_is_printed bytes file read = let (rules, names) = read_keeps bytes file read in printed_reads_back file rules names
