-- An assertion file is a claims file for its own contest.
use Rattle.std.proofs.Common.{◌≡◌, ◌∙◌, ℕ, ◌+◌, ◌<◌, true, List, [], ◌∷◌, length, map, Option, None, Some, Result, Ok, Err, refl, sym, ap, subst, codes, lt-ltb}
use Rattle.std.specs.Prelude.{ok_or, option_and_then}
use Rattle.std.specs.List.{list_all}
use Rattle.std.proofs.lemmas.Bool.{not-true}
use Rattle.std.proofs.lemmas.Cmp.{nat_list_eq_equiv}
use Rattle.std.proofs.lemmas.List.FromFn.{fill_by_all, length-range_with_len}
use Rattle.serde_json.specs.Data.{Data}
use Rattle.irv_base.specs.Candidates.{candidates}
use Rattle.irv_base.specs.Names.{Id, all_differ, is_among, is_same}
use Rattle.irv_base.specs.Orders.{is_order}
use Rattle.irv_base.proofs.Distinct.{distinct-range}
use Rattle.irv_base.proofs.Members.{Member, from_candidates}
use Rattle.irv_base.proofs.Orders.{order_test}
use Rattle.irv_base.proofs.Positions.{any-place}
use Rattle.file_fault.specs.Refusals.{Refusal}
use Rattle.file_fault.specs.declared.fault.Fault.TheVariants.{Refused}
use Rattle.assertions.specs.declared.assertion.Claim.{Claim}
use Rattle.assertion_file.specs.Content.{Content}
use Rattle.assertion_file.specs.Ids.{id_of, ids_of, number_of, numbers_of}
use Rattle.assertion_file.specs.Reading as file
use Rattle.assertion_file.specs.Reading.{assertion_file_of, content_of, content_with, claim_in, judged_assertion, located, ◌>>=◌}
use Rattle.assertion_file.specs.Stated as stated
use Rattle.assertion_file.specs.Stated.{list_in, rest_in, text_in, texts_in}
use Rattle.assertion_file.specs.Text.{json_of}
use Rattle.assertion_file.specs.declared.claims.Planned.{Planned}
use Rattle.assertion_file.specs.declared.members.DrawsMember.{DrawsMember}
use Rattle.assertion_file.specs.declared.fault.FRule.{FRule}
use Rattle.assertion_file.specs.declared.fault.FRule.TheVariants.{F1}
use Rattle.assertion_file.proofs.Entries as entries
use Rattle.assertion_file.proofs.Headings as headings
use Rattle.assertion_file.proofs.Judged.{AllHold, all-hold}
use Rattle.assertion_file.proofs.Ranked.{all-among, numbers-ids}
use Rattle.claims_file.specs.Claimed.{Claimed}
use Rattle.claims_file.specs.Reading.{assertion_of, assertions_from, claims_in, claims_of}
use Rattle.claims_file.specs.Stated.{Entry, entry_in, Heading, heading_in}
use Rattle.claims_file.specs.declared.fault.CRule.TheVariants.{C1}
use Rattle.claims_file.proofs.Entries.{said_of, with}
use Rattle.claims_file.proofs.Headings.{AreNamed, kept, read_claims}

-- ---- the parts of what was looked up

record Parts {A B : Type 0} (o : Option A) (f : A → Option B) (y : B) : Type 0 where
  value : A
  is : o ≡ Some value
  more : f value ≡ Some y

parts : {A B : Type 0} (o : Option A) (f : A → Option B) (y : B) → option_and_then f o ≡ Some y → Parts o f y
parts None f y h = absurd cc
parts (Some x) f y h = record { value = x; is = refl; more = h }

some-one : {A : Type 0} {x y : A} → Some x ≡ Some y → x ≡ y
some-one e = cc

-- ---- the members

pub heading-with : (value : Data) (assertions : List Data) (ids : List Id) (contest winner : Id) → list_in (codes "assertions") value ≡ Some assertions →
    texts_in (codes "candidates") value ≡ Some ids → text_in (codes "contest") value ≡ Some contest → text_in (codes "winner") value ≡ Some winner →
    heading_in value ≡ Some (record { assertions = assertions; candidates = ids; contest = contest; winner = winner })
unfolding heading_in
heading-with value assertions ids contest winner a c n w = rw (a, c, n, w) refl

pub entry-with : (value : Data) (kind winner loser : Id) (rest : Option (List Id)) → text_in (codes "kind") value ≡ Some kind →
    text_in (codes "winner") value ≡ Some winner → text_in (codes "loser") value ≡ Some loser → rest_in kind value ≡ Some rest →
    entry_in value ≡ Some (record { winner = winner; loser = loser; rest = rest })
unfolding entry_in
entry-with value kind winner loser rest k w l r = rw (k, w, l, r) refl

module _ (value : Data) (h : stated.Heading) (is : stated.heading_in value ≡ Some h) where
  abbrev mine : Heading
  mine = record { assertions = h.assertions; candidates = h.candidates; contest = h.contest; winner = h.winner }

  record Members : Type 0 where
    assertions : list_in (codes "assertions") value ≡ Some h.assertions
    candidates : texts_in (codes "candidates") value ≡ Some h.candidates
    contest : text_in (codes "contest") value ≡ Some h.contest
    winner : text_in (codes "winner") value ≡ Some h.winner

  members : Members
  unfolding stated.heading_in
  members =
      let a = parts (list_in (codes "assertions") value) _ h is in
      let b = parts (texts_in (codes "candidates") value) _ h a.more in
      let c = parts (text_in (codes "contest") value) _ h b.more in
      let d = parts (stated.number_in (codes "margin") value) _ h c.more in
      let e = parts (stated.number_in (codes "records") value) _ h d.more in
      let f = parts (stated.number_in (codes "version") value) _ h e.more in
      let g = parts (stated.order_in f.value value) _ h f.more in
      let t = parts (stated.terms_in f.value value) _ h g.more in
      let w = parts (text_in (codes "winner") value) _ h t.more in
      let same : record {
        assertions = a.value;
        candidates = b.value;
        contest = c.value;
        margin = d.value;
        order = g.value;
        records = e.value;
        terms = t.value;
        version = f.value;
        winner = w.value;
      } ≡ h = some-one w.more in
      record {
        assertions = a.is ∙ ap (λ (h : stated.Heading). Some h.assertions) same;
        candidates = b.is ∙ ap (λ (h : stated.Heading). Some h.candidates) same;
        contest = c.is ∙ ap (λ (h : stated.Heading). Some h.contest) same;
        winner = w.is ∙ ap (λ (h : stated.Heading). Some h.winner) same;
      }

  heading-there : heading_in value ≡ Some mine
  heading-there = let m = members in heading-with value h.assertions h.candidates h.contest h.winner m.assertions m.candidates m.contest m.winner

module _ (asked : DrawsMember) (value : Data) (e : stated.Entry) (is : stated.entry_in asked value ≡ Some e) where
  abbrev own : Entry
  own = record { winner = e.winner; loser = e.loser; rest = e.rest }

  entry-there : entry_in value ≡ Some own
  unfolding stated.entry_in
  entry-there =
      let k = parts (text_in (codes "kind") value) _ e is in
      let w = parts (text_in (codes "winner") value) _ e k.more in
      let l = parts (text_in (codes "loser") value) _ e w.more in
      let m = parts (stated.number_in (codes "margin") value) _ e l.more in
      let r = parts (rest_in k.value value) _ e m.more in
      let d = parts (stated.draws_in asked value) _ e r.more in
      let same : record { winner = w.value; loser = l.value; margin = m.value; rest = r.value; draws = d.value } ≡ e = some-one d.more in
      entry-with value k.value w.value l.value r.value k.is w.is l.is r.is
      ∙ ap (λ (e : stated.Entry). Some (record { winner = e.winner; loser = e.loser; rest = e.rest })) same

-- ---- the assertions

entry-said : (ids : List Id) (records : ℕ) (e : stated.Entry) (planned : Planned) →
    file.judged (file.entry_rules ids records e) (file.claim_with ids e) ≡ Ok planned →
    said_of ids (record { winner = e.winner; loser = e.loser; rest = e.rest }) ≡ Ok planned.assertion
entry-said ids records e planned h =
    let held = all-hold (file.entry_rules ids records e) (file.claim_with ids e) planned h in
    let all : AllHold (file.entry_rules ids records e) = held.0 in
    let apart = not-true (is_same e.winner e.loser) all.1.1.0 in
    rw (all.0, all.1.0, apart, all.1.1.1.0, all.1.1.1.1.0) (ap (λ (planned : Planned). Ok planned.assertion) held.1)

claim-said : (ids : List Id) (records : ℕ) (asked : DrawsMember) (value : Data) (planned : Planned) → file.claim_of ids records asked value ≡ Ok planned →
    assertion_of ids value ≡ Ok planned.assertion
claim-said ids records asked value planned h = by (stated.entry_in asked value) refl where
  by : (o : Option stated.Entry) → stated.entry_in asked value ≡ o → assertion_of ids value ≡ Ok planned.assertion
  by None is = let bad = sym (entries.claim-none ids records asked value is) ∙ h in absurd cc
  by (Some e) is =
      with ids value (record { winner = e.winner; loser = e.loser; rest = e.rest }) (entry-there asked value e is)
      ∙ entry-said ids records e planned (sym (entries.claim-some ids records asked value e is) ∙ h)

claims-said : (ids : List Id) (records : ℕ) (asked : DrawsMember) (at : ℕ) (values : List Data) (planned : List Planned) →
    file.claims_from ids records asked at values ≡ Ok planned → assertions_from ids at values ≡ Ok (map (λ (p : Planned). p.assertion) planned)
claims-said ids records asked at [] planned h = let none : [] ≡ planned = cc in ap (λ ps. Ok (map (λ (p : Planned). p.assertion) ps)) none
claims-said ids records asked at (value ∷ values) planned h =
    by (file.claim_of ids records asked value) (file.claims_from ids records asked (at + 1) values) refl h (claims-said ids records asked (at + 1) values)
  where
    by : (r : Result Planned FRule) (o : Result (List Planned) (Refusal FRule)) → file.claim_of ids records asked value ≡ r →
        (located at r >>= λ claim. o >>= λ more. Ok (claim ∷ more)) ≡ Ok planned →
        ((more : List Planned) → o ≡ Ok more → assertions_from ids (at + 1) values ≡ Ok (map (λ (p : Planned). p.assertion) more)) →
        assertions_from ids at (value ∷ values) ≡ Ok (map (λ (p : Planned). p.assertion) planned)
    by (Err rule) o is g ih = absurd cc
    by (Ok claim) (Err refusal) is g ih = absurd cc
    by (Ok claim) (Ok more) is g ih =
        let same : claim ∷ more ≡ planned = cc in
        ap (λ r. located at r >>= λ a. assertions_from ids (at + 1) values >>= λ more. Ok (a ∷ more)) (claim-said ids records asked value claim is)
        ∙ ap (λ r. r >>= λ more. Ok (claim.assertion ∷ more)) (ih more refl)
        ∙ ap (λ ps. Ok (map (λ (p : Planned). p.assertion) ps)) same

-- ---- the heading

ids-are : (ids : List Id) → ids_of ids (candidates (length ids)) ≡ ids
ids-are ids = sym (fill_by_all (id_of ids) ids (length ids) [] refl (λ k below. refl))

below-all : (ids : List Id) (c : ℕ) → Member c (candidates (length ids)) → c < length ids
below-all ids c m = from_candidates m

pub among-own : (ids : List Id) → list_all (is_among ids) ids ≡ true
among-own ids = ap (list_all (is_among ids)) (sym (ids-are ids)) ∙ all-among ids (candidates (length ids)) (below-all ids)

numbers-own : (ids : List Id) → all_differ ids ≡ true → numbers_of ids ids ≡ candidates (length ids)
numbers-own ids differ = ap (numbers_of ids) (sym (ids-are ids)) ∙ numbers-ids ids (candidates (length ids)) differ (below-all ids)

pub order-own : (ids : List Id) → all_differ ids ≡ true → is_order (length ids) (numbers_of ids ids) ≡ true
order-own ids differ =
    ap (is_order (length ids)) (numbers-own ids differ)
    ∙ order_test (length ids) (candidates (length ids)) (length-range_with_len 0 (length ids)) (distinct-range 0 (length ids)) (below-all ids)

abbrev claimed : Content → Claimed
claimed content = record { winner = content.winner; assertions = map (λ (claim : Claim). claim.assertion) content.claims }

assertions-in : (planned : List Planned) → map (λ (claim : Claim). claim.assertion) (map claim_in planned) ≡ map (λ (p : Planned). p.assertion) planned
assertions-in [] = refl
assertions-in (p ∷ planned) = ap (λ more. p.assertion ∷ more) (assertions-in planned)

-- ---- the file

-- the heading that obeys the rules is the one that is judged
kept-same : (h other : stated.Heading) → file.judged_heading h ≡ Ok other → h ≡ other
unfolding file.judged_heading
kept-same h other k = (all-hold (file.heading_rules h) h other k).1

module _ (value : Data) (content : Content) where
  -- the claims of the file's object are those that the file states
  abbrev Said : Type 0
  Said = claims_in content.contest content.candidates value ≡ Ok (claimed content)

  on_claims : (h : stated.Heading) → stated.heading_in value ≡ Some h → file.judged_heading h ≡ Ok h → (planned : List Planned) →
      file.claims_in h ≡ Ok planned → content_with h planned ≡ content → Said
  on_claims h is k planned read same =
      let s = headings.sound h k in
      let ids = h.candidates in
      let named : AreNamed h.contest ids (mine value h is) = record { same = nat_list_eq_equiv.refl h.contest; listed = among-own ids } in
      let among : is_among ids h.winner ≡ true = any-place (λ other. is_same other h.winner) ids ∙ lt-ltb (number_of ids h.winner) (length ids) s.winner in
      subst (λ (content : Content). claims_in content.contest content.candidates value ≡ Ok (claimed content)) same
      (read_claims h.contest ids (mine value h is) value (number_of ids h.winner) (map (λ (claim : Claim). claim.assertion) (map claim_in planned))
      (heading-there value h is) (kept h.contest ids (mine value h is) named (order-own ids s.differ) among) refl
      (claims-said ids h.records (stated.draws_asked h.version h.terms) 1 h.assertions planned read
      ∙ ap Ok (sym (assertions-in planned))))

  on_heading : (h : stated.Heading) → stated.heading_in value ≡ Some h → (r : Result stated.Heading FRule) → file.judged_heading h ≡ r →
      content_of value ≡ Ok content → Said
  on_heading h is (Err rule) k read = let bad = sym (headings.refused_heading value h (Refused rule 0) is (ap (located 0) k)) ∙ read in absurd cc
  on_heading h is (Ok other) k read =
      let own : file.judged_heading h ≡ Ok h = k ∙ ap Ok (sym (kept-same h other k)) in
      by own (file.claims_in h) refl (sym (headings.content-kept value h is own) ∙ read)
    where
      by : file.judged_heading h ≡ Ok h → (r : Result (List Planned) (Refusal FRule)) → file.claims_in h ≡ r →
          (r >>= λ claims. Ok (content_with h claims)) ≡ Ok content → Said
      by own (Err refusal) c g = absurd cc
      by own (Ok planned) c g = let same : content_with h planned ≡ content = cc in on_claims h is own planned c same

  pub in_value : content_of value ≡ Ok content → Said
  in_value read = by (stated.heading_in value) refl where
    by : (o : Option stated.Heading) → stated.heading_in value ≡ o → Said
    by None is = let bad = sym (headings.content-none value is) ∙ read in absurd cc
    by (Some h) is = on_heading h is (file.judged_heading h) refl read

pub file_is_read : (bytes : List ℕ) (content : Content) → assertion_file_of bytes ≡ Ok content →
    claims_of content.contest content.candidates bytes ≡ Ok (claimed content)
unfolding assertion_file_of claims_of
file_is_read bytes content read = by (json_of bytes) read where
  by : (o : Option Data) → (located 0 (ok_or o F1) >>= content_of) ≡ Ok content →
      (located 0 (ok_or o C1) >>= claims_in content.contest content.candidates) ≡ Ok (claimed content)
  by None g = absurd cc
  by (Some value) g = in_value value content g
