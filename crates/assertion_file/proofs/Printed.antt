-- The file's value says what the file says.
use Rattle.std.proofs.Common.{◌≡◌, ℕ, suc, ◌+◌, ◌<◌, ◌≤◌, Bool, true, false, ◌&&◌, List, [], ◌∷◌, length, All, map, filter, Option, Some, None, Ok, refl, sym, ap, subst, ◌∙◌, arith}
use Rattle.std.specs.Prelude.{if◌then◌else◌, is_some, nat_le, option_and_then, option_map, ok_or, codes, unwrap_or, IfSome}
use Rattle.std.specs.List.{list_all}
use Rattle.std.specs.Cmp.Lexicographic.{bytes_decides}
use Rattle.std.proofs.lemmas.Bool.{and_from, le-leb, false_from_ne_true}
use Rattle.serde_json.specs.Data.{Data, string}
use Rattle.serde_json.specs.Find.{get}
use Rattle.serde_json.proofs.OnLiterals.{serde_json_on_literals}
use Rattle.assertions.specs.Assertions.{is_proper}
use Rattle.assertions.specs.declared.assertion.Assertion.{Assertion}
use Rattle.assertions.specs.declared.assertion.Assertion.TheVariants.{Neb, Nen}
use Rattle.assertion_file.specs.declared.members.DrawsMember.{DrawsMember}
use Rattle.assertion_file.specs.declared.members.DrawsMember.TheVariants.{Needed, Unread, Absent}
use Rattle.assertion_file.specs.declared.members.Terms.{Terms}
use Rattle.assertions.proofs.Proper.{pair_facts, nen_facts}
use Rattle.irv_base.specs.Candidates.{candidates, has, is_distinct, is_in, set_of}
use Rattle.irv_base.specs.Names.{Id, all_differ, is_among, is_name, is_same}
use Rattle.irv_base.specs.Orders.{is_order}
use Rattle.irv_base.specs.declared.limits.TheConstants.{FEWEST_CANDIDATES, MOST_CANDIDATES, MOST_RECORDS, MOST_CARDS, MOST_DRAWS, GREATEST_GAMMA, GREATEST_LIMIT}
use Rattle.irv_base.proofs.Orders.{order_facts}
use Rattle.assertion_file.specs.Content.{Content, Plan, IsSound, IsSoundPlan, IsDrawCount, IsMargin, HasNames}
use Rattle.assertion_file.specs.Ids.{id_of, ids_of, ids_in, number_of, numbers_of}
use Rattle.assertion_file.specs.Text.{array_of, assertion_file_text, assertion_value, claim_value, file_value, ids_value, neb_value, nen_value, told_of, version_of, whole_number}
use Rattle.assertion_file.specs.Stated.{Heading, heading_in, order_in, terms_in, terms_of, Entry, draws_asked, draws_in, entry_in, is_text, list, list_in, number, number_in, rest_in, text_in, texts, texts_in, texts_of}
use Rattle.assertion_file.specs.Reading.{are_draws, are_terms, assertion_file_of, assertion_with, claim_of, claims_from, content_of, content_with, is_margin, is_order_if, is_version, is_rest, judged, judged_heading, located, order_numbers, ◌>>=◌}
use Rattle.assertion_file.specs.declared.fault.FRule.TheVariants.{F1, F4, F5}
use Rattle.assertion_file.proofs.Elements.{elements-items_of}
use Rattle.assertion_file.proofs.Entries.{Pair, a_claim, claim-some}
use Rattle.assertion_file.proofs.Files.{text_reads_back}
use Rattle.assertion_file.proofs.Headings.{content-kept, kept}
use Rattle.assertion_file.proofs.Ranked.{among-id, number-id, all-among, numbers-ids, listed}
use Rattle.assertion_file.proofs.Told.{Told, IsSoundTold, has-each, planned_of, same-claims, same-plan, terms_for, told-sound}

-- ---- members of each kind

all-text : (ids : List Id) → list_all is_text (map string ids) ≡ true
all-text [] = refl
all-text (id ∷ ids) = all-text ids

texts-are : (ids : List Id) → texts_of (map string ids) ≡ ids
texts-are [] = refl
texts-are (id ∷ ids) = ap (λ rest. id ∷ rest) (texts-are ids)

texts-value : (ids : List Id) → texts (ids_value ids) ≡ Some ids
texts-value ids =
    ap (λ values. if list_all is_text values then Some (texts_of values) else None) (elements-items_of (map string ids))
    ∙ rw (all-text ids) (ap Some (texts-are ids))

list-value : (values : List Data) → list (array_of values) ≡ Some values
list-value values = ap Some (elements-items_of values)

number-value : (n : ℕ) → n ≤ 4294967295 → number (whole_number n) ≡ Some n
number-value n few = rw (le-leb n 4294967295 few) refl

-- ---- what has these members

heading-from : (value : Data) (assertions : List Data) (ids : List Id) (order : Option (List Id)) (contest winner : Id) (margin records version : ℕ) (terms : Option Terms) →
    list_in (codes "assertions") value ≡ Some assertions → texts_in (codes "candidates") value ≡ Some ids → text_in (codes "contest") value ≡ Some contest →
    number_in (codes "margin") value ≡ Some margin → number_in (codes "records") value ≡ Some records →
    number_in (codes "version") value ≡ Some version → order_in version value ≡ Some order → terms_in version value ≡ Some terms → text_in (codes "winner") value ≡ Some winner →
    heading_in value ≡ Some (record {
      assertions = assertions;
      candidates = ids;
      contest = contest;
      margin = margin;
      order = order;
      records = records;
      terms = terms;
      version = version;
      winner = winner;
    })
unfolding heading_in
heading-from value assertions ids order contest winner margin records version terms a c n m r v o t w = rw (a, c, n, m, r, v, o, t, w) refl

terms-from : (value : Data) (cards gamma limit : ℕ) → number_in (codes "cards") value ≡ Some cards → number_in (codes "gamma") value ≡ Some gamma →
    number_in (codes "limit") value ≡ Some limit →
    terms_of value ≡ Some (record { cards = cards; gamma = gamma; limit = limit })
terms-from value cards gamma limit c g l = rw (c, g, l) refl

entry-from : (asked : DrawsMember) (value : Data) (kind winner loser : Id) (margin : ℕ) (rest : Option (List Id)) (draws : Option ℕ) →
    text_in (codes "kind") value ≡ Some kind → text_in (codes "winner") value ≡ Some winner → text_in (codes "loser") value ≡ Some loser →
    number_in (codes "margin") value ≡ Some margin → rest_in kind value ≡ Some rest → draws_in asked value ≡ Some draws →
    entry_in asked value ≡ Some (record { winner = winner; loser = loser; margin = margin; rest = rest; draws = draws })
unfolding entry_in
entry-from asked value kind winner loser margin rest draws k w l m r d = rw (k, w, l, m, r, d) refl

-- ---- a claim

abbrev pub is_needed : DrawsMember → Bool
is_needed Needed = true
is_needed Unread = false
is_needed Absent = false

-- what is said about draws, as it is read
abbrev is_few : Option (Option ℕ) → Type 0
is_few draws = IfSome (unwrap_or draws None) IsDrawCount

few-draws : (n : ℕ) → IsDrawCount n → n ≤ 4294967295
few-draws n h = let most = h.most in omega (arith, most)

neb-entry : (asked : DrawsMember) (draws : Option (Option ℕ)) (winner loser : Id) (margin : ℕ) → is_some draws ≡ is_needed asked →
    margin ≤ MOST_RECORDS → is_few draws →
    entry_in asked (neb_value draws winner loser margin)
    ≡ Some (record { winner = winner; loser = loser; margin = margin; rest = None; draws = unwrap_or draws None })
unfolding serde_json_on_literals
neb-entry Needed None winner loser margin told few fits = absurd cc
neb-entry Needed (Some None) winner loser margin told few fits =
    entry-from _ (neb_value (Some None) winner loser margin) (codes "NEB") winner loser margin None None refl refl refl
    (number-value margin (omega arith)) refl refl
neb-entry Needed (Some (Some n)) winner loser margin told few fits =
    entry-from _ (neb_value (Some (Some n)) winner loser margin) (codes "NEB") winner loser margin None (Some n) refl refl refl
    (number-value margin (omega arith)) refl
    (ap (option_map Some) (number-value n (few-draws n fits)))
neb-entry Unread None winner loser margin told few fits =
    entry-from _ (neb_value None winner loser margin) (codes "NEB") winner loser margin None None refl refl refl (number-value margin (omega arith)) refl refl
neb-entry Unread (Some draws) winner loser margin told few fits = absurd cc
neb-entry Absent None winner loser margin told few fits =
    entry-from _ (neb_value None winner loser margin) (codes "NEB") winner loser margin None None refl refl refl (number-value margin (omega arith)) refl refl
neb-entry Absent (Some draws) winner loser margin told few fits = absurd cc

nen-entry : (asked : DrawsMember) (draws : Option (Option ℕ)) (winner loser : Id) (names : List Id) (margin : ℕ) → is_some draws ≡ is_needed asked →
    margin ≤ MOST_RECORDS → is_few draws →
    entry_in asked (nen_value draws winner loser (ids_value names) margin)
    ≡ Some (record { winner = winner; loser = loser; margin = margin; rest = Some names; draws = unwrap_or draws None })
unfolding serde_json_on_literals
nen-entry Needed None winner loser names margin told few fits = absurd cc
nen-entry Needed (Some None) winner loser names margin told few fits =
    entry-from _ (nen_value (Some None) winner loser (ids_value names) margin) (codes "NEN") winner loser margin (Some names) None refl refl refl
    (number-value margin (omega arith)) (ap (option_map Some) (texts-value names)) refl
nen-entry Needed (Some (Some n)) winner loser names margin told few fits =
    entry-from _ (nen_value (Some (Some n)) winner loser (ids_value names) margin) (codes "NEN") winner loser margin (Some names) (Some n) refl refl refl
    (number-value margin (omega arith)) (ap (option_map Some) (texts-value names))
    (ap (option_map Some) (number-value n (few-draws n fits)))
nen-entry Unread None winner loser names margin told few fits =
    entry-from _ (nen_value None winner loser (ids_value names) margin) (codes "NEN") winner loser margin (Some names) None refl refl refl
    (number-value margin (omega arith)) (ap (option_map Some) (texts-value names)) refl
nen-entry Unread (Some draws) winner loser names margin told few fits = absurd cc
nen-entry Absent None winner loser names margin told few fits =
    entry-from _ (nen_value None winner loser (ids_value names) margin) (codes "NEN") winner loser margin (Some names) None refl refl refl
    (number-value margin (omega arith)) (ap (option_map Some) (texts-value names)) refl
nen-entry Absent (Some draws) winner loser names margin told few fits = absurd cc

margin-test : (records margin : ℕ) → IsMargin records margin → is_margin records margin ≡ true
margin-test records margin m = and_from (nat_le 1 margin) (nat_le margin records) (le-leb 1 margin m.some) (le-leb margin records m.most)

pair-of : (ids : List Id) (w l margin : ℕ) (rest : Option (List Id)) (draws : Option ℕ) → all_differ ids ≡ true → w < length ids → l < length ids → (w ≡ l → ⊥) →
    Pair ids (record { winner = id_of ids w; loser = id_of ids l; margin = margin; rest = rest; draws = draws }) w l
pair-of ids w l margin rest draws h a b ne = record {
  winner = among-id ids w a;
  loser = among-id ids l b;
  differ = false_from_ne_true (is_same (id_of ids w) (id_of ids l)) (λ same.
      ne (sym (number-id ids w h a) ∙ ap (number_of ids) ((bytes_decides (id_of ids w) (id_of ids l)).0 same) ∙ number-id ids l h b));
  w_is = number-id ids w h a;
  l_is = number-id ids l h b;
}

draws-test : (draws : Option ℕ) → IfSome draws IsDrawCount → are_draws draws ≡ true
draws-test None h = refl
draws-test (Some n) h = and_from (nat_le 1 n) (nat_le n MOST_DRAWS) (le-leb 1 n h.some) (le-leb n MOST_DRAWS h.most)

counts-test : (records margin : ℕ) (draws : Option ℕ) → IsMargin records margin → IfSome draws IsDrawCount →
    (is_margin records margin && are_draws draws) ≡ true
counts-test records margin draws m d = and_from (is_margin records margin) (are_draws draws) (margin-test records margin m) (draws-test draws d)

claim-back : (ids : List Id) (records : ℕ) (asked : DrawsMember) (draws : Option (Option ℕ)) (a : Assertion) (margin : ℕ) →
    is_some draws ≡ is_needed asked → all_differ ids ≡ true → records ≤ MOST_RECORDS →
    is_proper (length ids) a ≡ true → IsMargin records margin → is_few draws →
    claim_of ids records asked (assertion_value ids draws a margin)
    ≡ Ok (record { assertion = a; margin = margin; draws = unwrap_or draws None })
claim-back ids records asked draws (Neb w l) margin told h few proper m fits =
    let p = pair_facts (length ids) w l proper in
    let most = m.most in
    let read = unwrap_or draws None in
    let entry : Entry = record { winner = id_of ids w; loser = id_of ids l; margin = margin; rest = None; draws = read } in
    claim-some ids records asked (neb_value draws (id_of ids w) (id_of ids l) margin) entry
    (neb-entry asked draws (id_of ids w) (id_of ids l) margin told (omega arith) fits)
    ∙ a_claim ids records entry w l (Neb w l) (pair-of ids w l margin None read h p.winner p.loser p.differ) refl (counts-test records margin read m fits)
claim-back ids records asked draws (Nen w l set) margin told h few proper m fits =
    let p = nen_facts (length ids) w l set proper in
    let most = m.most in
    let cs = filter (has set) (candidates (length ids)) in
    let names = ids_in ids set in
    let of = listed (length ids) set p.small in
    let read = unwrap_or draws None in
    let entry : Entry = record { winner = id_of ids w; loser = id_of ids l; margin = margin; rest = Some names; draws = read } in
    claim-some ids records asked (nen_value draws (id_of ids w) (id_of ids l) (ids_value names) margin) entry
    (nen-entry asked draws (id_of ids w) (id_of ids l) names margin told (omega arith) fits)
    ∙ a_claim ids records entry w l (Nen w l set) (pair-of ids w l margin (Some names) read h p.pair.winner p.pair.loser p.pair.differ)
    (nen-back ids w l set cs (all-among ids cs of.below) (numbers-ids ids cs h of.below) of.apart (of.member w p.has_winner) (of.member l p.has_loser) of.same)
    (counts-test records margin read m fits)
  where
    nen-back : (ids : List Id) (w l set : ℕ) (cs : List ℕ) → list_all (is_among ids) (ids_of ids cs) ≡ true → numbers_of ids (ids_of ids cs) ≡ cs →
        is_distinct cs ≡ true →
        is_in cs w ≡ true → is_in cs l ≡ true → set ≡ set_of cs →
        judged ((list_all (is_among ids) (ids_of ids cs), F4) ∷ (is_rest w l (Some (numbers_of ids (ids_of ids cs))), F5) ∷ [])
        (assertion_with w l (Some (numbers_of ids (ids_of ids cs)))) ≡ Ok (Nen w l set)
    nen-back ids w l set cs among numbers apart in_w in_l same = rw (among, numbers, apart, in_w, in_l) (ap (λ s. Ok (Nen w l s)) (sym same))

claims-back : (ids : List Id) (records : ℕ) (asked : DrawsMember) (at : ℕ) (told : List Told) → all_differ ids ≡ true → records ≤ MOST_RECORDS →
    All (IsSoundTold (length ids) records (is_needed asked)) told →
    claims_from ids records asked at (map (claim_value ids) told) ≡ Ok (map planned_of told)
claims-back ids records asked at [] h few sound = refl
claims-back ids records asked at (one ∷ told) h few sound =
    let first = sound 0 one (omega arith) in
    let claim = one.0 in
    ap (λ r. located at r >>= λ c. claims_from ids records asked (at + 1) (map (claim_value ids) told) >>= λ cs. Ok (c ∷ cs))
    (claim-back ids records asked one.1 claim.assertion claim.margin first.flag h few first.claim.proper first.claim.margin first.draws)
    ∙ ap (λ r. r >>= λ cs. Ok (planned_of one ∷ cs)) (claims-back ids records asked (at + 1) told h few (λ i d within. sound (suc i) d (omega arith)))

-- ---- the file

abbrev with_both : Content → Option (List ℕ) → Option Plan → Content
with_both file order plan = record file { order = order; plan = plan }

abbrev heading_for : Content → Heading
heading_for file = record {
  assertions = map (claim_value file.candidates) (told_of file.plan file.claims);
  candidates = file.candidates;
  contest = file.contest;
  margin = file.margin;
  order = option_map (ids_of file.candidates) file.order;
  records = file.records;
  terms = option_map terms_for file.plan;
  version = version_of file.order file.plan;
  winner = id_of file.candidates file.winner;
}

terms-are : (value : Data) (records claims : ℕ) (plan : Plan) → IsSoundPlan records claims plan →
    get (codes "cards") value ≡ Some (whole_number plan.cards) → get (codes "gamma") value ≡ Some (whole_number plan.gamma) →
    get (codes "limit") value ≡ Some (whole_number plan.limit) → option_map Some (terms_of value) ≡ Some (Some (terms_for plan))
terms-are value records claims plan p c g l =
    let cards = p.most_cards in
    let gamma = p.most_gamma in
    let limit = p.most_limit in
    ap (option_map Some) (terms-from value plan.cards plan.gamma plan.limit
    (ap (λ found. option_and_then number found) c ∙ number-value plan.cards (omega arith))
    (ap (λ found. option_and_then number found) g ∙ number-value plan.gamma (omega arith))
    (ap (λ found. option_and_then number found) l ∙ number-value plan.limit (omega arith)))

heading-back : (file : Content) → IsSound file → heading_in (file_value file) ≡ Some (heading_for file)
unfolding file_value serde_json_on_literals
heading-back file s = by file.order file.plan s.plan where
  margin-is : number (whole_number file.margin) ≡ Some file.margin
  margin-is = let most = s.margin.most in let few = s.most_records in number-value file.margin (omega arith)

  records-are : number (whole_number file.records) ≡ Some file.records
  records-are = let few = s.most_records in number-value file.records (omega arith)

  by : (order : Option (List ℕ)) (plan : Option Plan) → IfSome plan (IsSoundPlan file.records (length file.claims)) →
      heading_in (file_value (with_both file order plan)) ≡ Some (heading_for (with_both file order plan))
  by (Some order) None p =
      let ids = file.candidates in
      heading-from (file_value (with_both file (Some order) None)) (map (claim_value ids) (told_of None file.claims)) ids (Some (ids_of ids order)) file.contest
      (id_of ids file.winner) file.margin file.records 1 None
      (list-value (map (claim_value ids) (told_of None file.claims))) (texts-value ids) refl margin-is
      records-are (number-value 1 (omega arith)) (ap (option_map Some) (texts-value (ids_of ids order))) refl refl
  by (Some order) (Some plan) p =
      let ids = file.candidates in
      heading-from (file_value (with_both file (Some order) (Some plan))) (map (claim_value ids) (told_of (Some plan) file.claims)) ids (Some (ids_of ids order))
      file.contest (id_of ids file.winner) file.margin file.records 2 (Some (terms_for plan))
      (list-value (map (claim_value ids) (told_of (Some plan) file.claims))) (texts-value ids) refl margin-is
      records-are (number-value 2 (omega arith)) (ap (option_map Some) (texts-value (ids_of ids order)))
      (terms-are (file_value (with_both file (Some order) (Some plan))) file.records (length file.claims) plan p refl refl refl)
      refl
  by None None p =
      let ids = file.candidates in
      heading-from (file_value (with_both file None None)) (map (claim_value ids) (told_of None file.claims)) ids None file.contest
      (id_of ids file.winner) file.margin file.records 3 None
      (list-value (map (claim_value ids) (told_of None file.claims))) (texts-value ids) refl margin-is
      records-are (number-value 3 (omega arith)) refl refl refl
  by None (Some plan) p =
      let ids = file.candidates in
      heading-from (file_value (with_both file None (Some plan))) (map (claim_value ids) (told_of (Some plan) file.claims)) ids None
      file.contest (id_of ids file.winner) file.margin file.records 3 (Some (terms_for plan))
      (list-value (map (claim_value ids) (told_of (Some plan) file.claims))) (texts-value ids) refl margin-is
      records-are (number-value 3 (omega arith)) refl
      (terms-are (file_value (with_both file None (Some plan))) file.records (length file.claims) plan p refl refl refl)
      refl

-- an order that is printed by ids, as it is read
record OrderBack (ids : List Id) (order : Option (List ℕ)) : Type 0 where
  among : list_all (is_among ids) (unwrap_or (option_map (ids_of ids) order) []) ≡ true
  same : order_numbers ids (option_map (ids_of ids) order) ≡ order
  kept : is_order_if (length ids) (order_numbers ids (option_map (ids_of ids) order)) ≡ true

version-test : (order : Option (List ℕ)) (plan : Option Plan) → is_version (version_of order plan) ≡ true
version-test None plan = refl
version-test (Some order) None = refl
version-test (Some order) (Some plan) = refl

order-test : (ids : List Id) (order : Option (List ℕ)) → all_differ ids ≡ true → IfSome order (λ order. is_order (length ids) order ≡ true) →
    OrderBack ids order
order-test ids None h o = record { among = refl; same = refl; kept = refl }
order-test ids (Some order) h o =
    let facts = order_facts (length ids) order o in
    let same = numbers-ids ids order h facts.below in
    record { among = all-among ids order facts.below; same = ap Some same; kept = ap (is_order (length ids)) same ∙ o }

terms-test : (records claims : ℕ) (plan : Option Plan) → IfSome plan (IsSoundPlan records claims) → are_terms records (option_map terms_for plan) ≡ true
terms-test records claims None s = refl
terms-test records claims (Some plan) s =
    let some_cards = nat_le records plan.cards in
    let most_cards = nat_le plan.cards MOST_CARDS in
    let some_gamma = nat_le 1 plan.gamma in
    let most_gamma = nat_le plan.gamma GREATEST_GAMMA in
    let some_limit = nat_le 1 plan.limit in
    let most_limit = nat_le plan.limit GREATEST_LIMIT in
    and_from (some_cards && most_cards && some_gamma && most_gamma && some_limit) most_limit
    (and_from (some_cards && most_cards && some_gamma && most_gamma) some_limit
    (and_from (some_cards && most_cards && some_gamma) most_gamma
    (and_from (some_cards && most_cards) some_gamma
    (and_from some_cards most_cards (le-leb records plan.cards s.some_cards) (le-leb plan.cards MOST_CARDS s.most_cards))
    (le-leb 1 plan.gamma s.some_gamma))
    (le-leb plan.gamma GREATEST_GAMMA s.most_gamma))
    (le-leb 1 plan.limit s.some_limit))
    (le-leb plan.limit GREATEST_LIMIT s.most_limit)

heading-kept : (file : Content) → IsSound file → HasNames file → judged_heading (heading_for file) ≡ Ok (heading_for file)
heading-kept file s n =
    let ids = file.candidates in
    let back = order-test ids file.order s.differ s.order in
    kept (heading_for file) (record {
      names = record {
        version = version-test file.order file.plan;
        contest = n.contest;
        candidates = and_from (list_all is_name ids && nat_le FEWEST_CANDIDATES (length ids) && nat_le (length ids) MOST_CANDIDATES) (all_differ ids)
            (and_from (list_all is_name ids && nat_le FEWEST_CANDIDATES (length ids)) (nat_le (length ids) MOST_CANDIDATES)
            (and_from (list_all is_name ids) (nat_le FEWEST_CANDIDATES (length ids)) n.candidates (le-leb FEWEST_CANDIDATES (length ids) s.fewest))
            (le-leb (length ids) MOST_CANDIDATES s.most)) s.differ;
      };
      winner = among-id ids file.winner s.winner;
      order = back.among;
    })
    back.kept
    (and_from (nat_le 1 file.records) (nat_le file.records MOST_RECORDS) (le-leb 1 file.records s.some_records)
    (le-leb file.records MOST_RECORDS s.most_records))
    (margin-test file.records file.margin s.margin)
    (terms-test file.records _ file.plan s.plan)

asked-told : (order : Option (List ℕ)) (plan : Option Plan) →
    is_needed (draws_asked (version_of order plan) (option_map terms_for plan)) ≡ is_some plan
asked-told order (Some plan) = refl
asked-told None None = refl
asked-told (Some order) None = refl

pub printed_reads_back : (file : Content) → IsSound file → HasNames file → assertion_file_of (assertion_file_text file) ≡ Ok file
unfolding assertion_file_of
printed_reads_back file s n =
    let ids = file.candidates in
    let told = told_of file.plan file.claims in
    let each = has-each file.records file.plan file.claims s.plan in
    let asked = draws_asked (version_of file.order file.plan) (option_map terms_for file.plan) in
    let winner : number_of ids (id_of ids file.winner) ≡ file.winner = number-id ids file.winner s.differ s.winner in
    let order = (order-test ids file.order s.differ s.order).same in
    let claims = same-claims file.plan file.claims each in
    let plan = same-plan file.plan file.claims each in
    let same : content_with (heading_for file) (map planned_of told) ≡ file =
    λ i. record {
      contest = file.contest;
      candidates = ids;
      records = file.records;
      winner = winner i;
      margin = file.margin;
      order = order i;
      claims = claims i;
      plan = plan i;
    } in
    ap (λ o. located 0 (ok_or o F1) >>= content_of) (text_reads_back file s n)
    ∙ content-kept (file_value file) (heading_for file) (heading-back file s) (heading-kept file s n)
    ∙ ap (λ r. r >>= λ claims. Ok (content_with (heading_for file) claims))
    (claims-back ids file.records asked 1 told s.differ s.most_records
    (subst (λ planned. All (IsSoundTold (length ids) file.records planned) told) (sym (asked-told file.order file.plan))
    (told-sound (length ids) file.records file.plan file.claims s.claims s.plan)))
    ∙ ap Ok same
