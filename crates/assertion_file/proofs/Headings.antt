-- What is said about a file whose own members are there.
use Rattle.std.proofs.Common.{◌≡◌, ℕ, ◌<◌, ◌≤◌, ◌&&◌, Bool, true, false, List, [], ◌∷◌, ◌++◌, length, Some, None, Ok, Err, refl, sym, ap, ap₂, subst, ◌∙◌}
use Rattle.std.specs.Prelude.{if◌then◌else◌, map, nat_le, ok_or, unwrap_or, Option, Result}
use Rattle.std.specs.List.{list_all}
use Rattle.std.specs.Str.{IsUtf8, is_utf8}
use Rattle.std.proofs.lemmas.Str.{IsUtf8-from_is_utf8, is_utf8-from_IsUtf8}
use Rattle.std.proofs.lemmas.Bool.{and_parts, leb-true}
use Rattle.serde_json.specs.Data.{Data}
use Rattle.serde_json.specs.Read.{read}
use Rattle.assertions.specs.declared.assertion.Claim.{Claim}
use Rattle.assertion_file.specs.declared.claims.Planned.{Planned}
use Rattle.irv_base.specs.Names.{Id, all_differ, is_among, is_name, is_same}
use Rattle.irv_base.specs.declared.limits.TheConstants.{FEWEST_CANDIDATES, MOST_CANDIDATES, MOST_RECORDS}
use Rattle.assertion_file.specs.Content.{IsMargin, Plan}
use Rattle.file_fault.specs.Refusals.{Refuses}
use Rattle.assertion_file.specs.Ids.{number_of}
use Rattle.assertion_file.specs.Stated.{Heading, heading_in}
use Rattle.assertion_file.specs.Reading.{are_candidates, are_terms, assertion_file_of, claim_in, claims_in, content_of, content_with, plan_with, is_margin, is_record_count, is_order_if, is_version, order_numbers, judged, judged_heading, heading_rules, id_rules, named_rules, order_rules, count_rules, located, ◌>>=◌}
use Rattle.assertion_file.specs.declared.fault.FRule.{FRule}
use Rattle.assertion_file.specs.declared.fault.FRule.TheVariants.{F1, F2, F4, F5, F6}
use Rattle.file_fault.specs.declared.fault.Fault.{Fault}
use Rattle.file_fault.specs.declared.fault.Fault.TheVariants.{Refused, Memory}
use Rattle.irv_base.proofs.Positions.{any-within}
use Rattle.assertion_file.proofs.Judged.{AllHold, all-hold}

pub refuse : {A R : Type 0} (said : Result A R) (rule : R) (fault : Fault R) → said ≡ Err rule → fault ≡ Refused rule 0 → Refuses (located 0 said) fault
refuse said rule fault h e = subst (Refuses (located 0 said)) (sym e) (ap (located 0) h)

-- ---- some rules followed by others

kept-first : {A B : Type 0} (rules more : List (Bool × FRule)) (x : A) (y : B) → judged rules x ≡ Ok x → judged (rules ++ more) y ≡ judged more y
kept-first [] more x y h = refl
kept-first ((true, rule) ∷ rules) more x y h = kept-first rules more x y h
kept-first ((false, rule) ∷ rules) more x y h = absurd cc

refused-first : {A B : Type 0} (rules more : List (Bool × FRule)) (x : A) (y : B) (fault : Fault FRule) → Refuses (located 0 (judged rules x)) fault →
    Refuses (located 0 (judged (rules ++ more) y)) fault
refused-first rules more x y Memory r = tt
refused-first [] more x y (Refused rule at) r = absurd cc
refused-first ((true, broken) ∷ rules) more x y (Refused rule at) r = refused-first rules more x y (Refused rule at) r
refused-first ((false, broken) ∷ rules) more x y (Refused rule at) r = let e : record { rule = broken; at = 0 } ≡ record { rule = rule; at = at } = cc in
    ap Err e

pub ids-refused : (heading : Heading) (fault : Fault FRule) → Refuses (located 0 (judged (id_rules heading) heading)) fault →
    Refuses (located 0 (judged_heading heading)) fault
unfolding judged_heading
ids-refused heading fault r = refused-first (id_rules heading) (named_rules heading ++ order_rules heading ++ count_rules heading) heading heading fault r

-- the contest, the candidates and those who are named obey the rules
pub record HasNamed (heading : Heading) : Type 0 where
  pub ids : judged (id_rules heading) heading ≡ Ok heading
  pub named : judged (named_rules heading) heading ≡ Ok heading

after-ids : (heading : Heading) → judged (id_rules heading) heading ≡ Ok heading →
    judged_heading heading ≡ judged (named_rules heading ++ order_rules heading ++ count_rules heading) heading
unfolding judged_heading
after-ids heading ids = kept-first (id_rules heading) (named_rules heading ++ order_rules heading ++ count_rules heading) heading heading ids

pub named-refused : (heading : Heading) (fault : Fault FRule) → judged (id_rules heading) heading ≡ Ok heading →
    Refuses (located 0 (judged (named_rules heading) heading)) fault →
    Refuses (located 0 (judged_heading heading)) fault
named-refused heading fault ids r =
    subst (λ said. Refuses (located 0 said) fault) (sym (after-ids heading ids))
    (refused-first (named_rules heading) (order_rules heading ++ count_rules heading) heading heading fault r)

after-named : (heading : Heading) → HasNamed heading → judged_heading heading ≡ judged (order_rules heading ++ count_rules heading) heading
after-named heading h = after-ids heading h.ids ∙ kept-first (named_rules heading) (order_rules heading ++ count_rules heading) heading heading h.named

abbrev pub keeps_order : Heading → Bool
keeps_order heading = is_order_if (length heading.candidates) (order_numbers heading.candidates heading.order)

pub same_order : (heading : Heading) (names : List Id) (numbers : Option (List ℕ)) → names ≡ heading.candidates →
    numbers ≡ order_numbers names heading.order →
    keeps_order heading ≡ is_order_if (length names) numbers
same_order heading names numbers same is =
    sym (ap (is_order_if (length names)) is ∙ ap (λ ids. is_order_if (length ids) (order_numbers ids heading.order)) same)

pub no_order : (heading : Heading) → HasNamed heading → keeps_order heading ≡ false →
    judged_heading heading ≡ Err F5
no_order heading h o = after-named heading h ∙ ap (λ b. judged ((b, F5) ∷ count_rules heading) heading) o

abbrev pub has_counts : Heading → Bool
has_counts heading =
    is_record_count heading.records && is_margin heading.records heading.margin && are_terms heading.records heading.terms

pub no_counts : (heading : Heading) → HasNamed heading → keeps_order heading ≡ true →
    has_counts heading ≡ false → judged_heading heading ≡ Err F6
no_counts heading h o c = after-named heading h ∙ ap (λ b. judged ((b, F5) ∷ count_rules heading) heading) o
    ∙ by (is_record_count heading.records) (is_margin heading.records heading.margin) (are_terms heading.records heading.terms) c where
      by : (a b d : Bool) → (a && b && d) ≡ false → judged ((a, F6) ∷ (b, F6) ∷ (d, F6) ∷ []) heading ≡ Err F6
      by true true true c = absurd cc
      by true true false c = refl
      by true false d c = refl
      by false b d c = refl

pub all_kept : (heading : Heading) → HasNamed heading → keeps_order heading ≡ true →
    has_counts heading ≡ true → judged_heading heading ≡ Ok heading
all_kept heading h o c = after-named heading h ∙ ap (λ b. judged ((b, F5) ∷ count_rules heading) heading) o
    ∙ by (is_record_count heading.records) (is_margin heading.records heading.margin) (are_terms heading.records heading.terms) c where
      by : (a b d : Bool) → (a && b && d) ≡ true → judged ((a, F6) ∷ (b, F6) ∷ (d, F6) ∷ []) heading ≡ Ok heading
      by true true true c = refl
      by true true false c = absurd cc
      by true false d c = absurd cc
      by false b d c = absurd cc

-- ---- those who are named

pub no_winner : (heading : Heading) → is_among heading.candidates heading.winner ≡ false → judged (named_rules heading) heading ≡ Err F4
no_winner heading w = rw w refl

pub not_among : (heading : Heading) → is_among heading.candidates heading.winner ≡ true →
    list_all (is_among heading.candidates) (unwrap_or heading.order []) ≡ false → judged (named_rules heading) heading ≡ Err F4
not_among heading w o = rw (w, o) refl

pub all_named : (heading : Heading) → is_among heading.candidates heading.winner ≡ true →
    list_all (is_among heading.candidates) (unwrap_or heading.order []) ≡ true → judged (named_rules heading) heading ≡ Ok heading
all_named heading w o = rw (w, o) refl

-- about the candidates of an order, if it is this one
pub of_order : (heading : Heading) (ids order : List Id) (b : Bool) → ids ≡ heading.candidates → heading.order ≡ Some order →
    list_all (is_among ids) order ≡ b → list_all (is_among heading.candidates) (unwrap_or heading.order []) ≡ b
of_order heading ids order b same is h = ap₂ (λ ids order. list_all (is_among ids) (unwrap_or order [])) (sym same) is ∙ h

-- ---- rule by rule

pub record HasNames (heading : Heading) : Type 0 where
  pub version : is_version heading.version ≡ true
  pub contest : is_name heading.contest ≡ true
  pub candidates : are_candidates heading.candidates ≡ true

pub record HasOrder (heading : Heading) : Type 0 where
  pub names : HasNames heading
  pub winner : is_among heading.candidates heading.winner ≡ true
  pub order : list_all (is_among heading.candidates) (unwrap_or heading.order []) ≡ true

pub kept : (heading : Heading) → HasOrder heading → keeps_order heading ≡ true →
    is_record_count heading.records ≡ true →
    is_margin heading.records heading.margin ≡ true → are_terms heading.records heading.terms ≡ true → judged_heading heading ≡ Ok heading
unfolding judged_heading
kept heading h o r m t = rw (h.names.version, h.names.contest, h.names.candidates, h.winner, h.order, o, r, m, t) refl

-- ---- a heading that obeys the rules

pub margin-is : (records margin : ℕ) → is_margin records margin ≡ true → IsMargin records margin
margin-is records margin h =
    let (some, most) = and_parts (nat_le 1 margin) (nat_le margin records) h in
    record { some = leb-true 1 margin some; most = leb-true margin records most }

pub record Sound (heading : Heading) : Type 0 where
  pub contest : is_name heading.contest ≡ true
  pub names : list_all is_name heading.candidates ≡ true
  pub fewest : FEWEST_CANDIDATES ≤ length heading.candidates
  pub most : length heading.candidates ≤ MOST_CANDIDATES
  pub differ : all_differ heading.candidates ≡ true
  pub winner : number_of heading.candidates heading.winner < length heading.candidates
  pub order : keeps_order heading ≡ true
  pub some_records : 1 ≤ heading.records
  pub most_records : heading.records ≤ MOST_RECORDS
  pub margin : IsMargin heading.records heading.margin
  pub terms : are_terms heading.records heading.terms ≡ true

pub sound : (heading : Heading) → judged_heading heading ≡ Ok heading → Sound heading
unfolding judged_heading
sound heading h =
    let all : AllHold (heading_rules heading) = (all-hold (heading_rules heading) heading heading h).0 in
    let named = all.1 in
    let candidates = named.1.0 in
    let winner = named.1.1.0 in
    let ordered = named.1.1.1.1 in
    let records = ordered.1.0 in
    let ids = heading.candidates in
    let (counted, differ) = and_parts (list_all is_name ids && nat_le FEWEST_CANDIDATES (length ids) && nat_le (length ids) MOST_CANDIDATES) (all_differ ids)
    candidates in
    let (some, most) = and_parts (list_all is_name ids && nat_le FEWEST_CANDIDATES (length ids)) (nat_le (length ids) MOST_CANDIDATES) counted in
    let (names, fewest) = and_parts (list_all is_name ids) (nat_le FEWEST_CANDIDATES (length ids)) some in
    let (one, million) = and_parts (nat_le 1 heading.records) (nat_le heading.records MOST_RECORDS) records in
    record {
      contest = named.0;
      names = names;
      fewest = leb-true FEWEST_CANDIDATES (length ids) fewest;
      most = leb-true (length ids) MOST_CANDIDATES most;
      differ = differ;
      winner = any-within (λ other. is_same other heading.winner) ids winner;
      order = ordered.0;
      some_records = leb-true 1 heading.records one;
      most_records = leb-true heading.records MOST_RECORDS million;
      margin = margin-is heading.records heading.margin ordered.1.1.0;
      terms = ordered.1.1.1.0;
    }

-- ---- the file

pub content-none : (value : Data) → heading_in value ≡ None → content_of value ≡ Err (record { rule = F2; at = 0 })
unfolding content_of
content-none value h =
    ap (λ o. located 0 (ok_or o F2 >>= judged_heading) >>= λ heading. claims_in heading >>= λ claims. Ok
    (content_with heading claims)) h

content-some : (value : Data) (heading : Heading) → heading_in value ≡ Some heading →
    content_of value ≡ (located 0 (judged_heading heading) >>= λ kept. claims_in kept >>= λ claims. Ok
    (content_with kept claims))
unfolding content_of
content-some value heading h =
    ap (λ o. located 0 (ok_or o F2 >>= judged_heading) >>= λ heading. claims_in heading >>= λ claims. Ok
    (content_with heading claims)) h

pub refused_heading : (value : Data) (heading : Heading) (fault : Fault FRule) → heading_in value ≡ Some heading →
    Refuses (located 0 (judged_heading heading)) fault → Refuses (content_of value) fault
refused_heading value heading (Refused rule at) h r =
    content-some value heading h ∙ ap (λ said. said >>= λ kept. claims_in kept >>= λ claims. Ok
    (content_with kept claims)) r
refused_heading value heading Memory h r = tt

pub content-kept : (value : Data) (heading : Heading) → heading_in value ≡ Some heading → judged_heading heading ≡ Ok heading →
    content_of value ≡ (claims_in heading >>= λ claims. Ok (content_with heading claims))
content-kept value heading h k =
    content-some value heading h ∙ ap (λ said. located 0 said >>= λ kept. claims_in kept >>= λ claims. Ok
    (content_with kept claims)) k

pub refused_claims : (value : Data) (heading : Heading) (fault : Fault FRule) → heading_in value ≡ Some heading → judged_heading heading ≡ Ok heading →
    Refuses (claims_in heading) fault → Refuses (content_of value) fault
refused_claims value heading (Refused rule at) h k r = content-kept value heading h k ∙ ap (λ said. said >>= λ claims. Ok (content_with heading claims)) r
refused_claims value heading Memory h k r = tt

pub content-is : (heading : Heading) (planned : List Planned) (contest : Id) (candidates : List Id) (winner : ℕ) (order : Option (List ℕ)) (claims : List Claim)
    (plan : Option Plan) → contest ≡ heading.contest → candidates ≡ heading.candidates →
    winner ≡ number_of heading.candidates heading.winner → order ≡ order_numbers heading.candidates heading.order →
    claims ≡ map claim_in planned → plan ≡ plan_with heading.terms planned →
    record {
      contest = contest;
      candidates = candidates;
      records = heading.records;
      winner = winner;
      margin = heading.margin;
      order = order;
      claims = claims;
      plan = plan;
    }
    ≡ content_with heading planned
content-is heading planned contest candidates winner order claims plan c cs w o cl p =
    λ i. record {
      contest = c i;
      candidates = cs i;
      records = heading.records;
      winner = w i;
      margin = heading.margin;
      order = o i;
      claims = cl i;
      plan = p i;
    }

-- ---- its bytes

pub file-some : (bytes : List ℕ) (value : Data) → IsUtf8 bytes → read bytes ≡ Some value → assertion_file_of bytes ≡ content_of value
unfolding assertion_file_of
file-some bytes value text h = ap₂ (λ b o. located 0 (ok_or (if b then o else None) F1) >>= content_of) (is_utf8-from_IsUtf8 bytes text) h

pub file-none : (bytes : List ℕ) → (IsUtf8 bytes → read bytes ≡ None) → assertion_file_of bytes ≡ Err (record { rule = F1; at = 0 })
unfolding assertion_file_of
file-none bytes h = ap (λ o. located 0 (ok_or o F1) >>= content_of) (by (is_utf8 bytes) refl) where
  by : (b : Bool) → is_utf8 bytes ≡ b → (if b then read bytes else None) ≡ None
  by true e = h (IsUtf8-from_is_utf8 bytes e)
  by false e = refl
