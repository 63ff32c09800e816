-- The text of claims reads back as these claims.
use Rattle.std.proofs.Common.{◌≡◌, ℕ, suc, ◌+◌, ◌<◌, true, List, [], ◌∷◌, length, All, map, filter, Some, None, Ok, refl, sym, ap, codes, ◌∙◌, arith}
use Rattle.std.specs.Prelude.{if◌then◌else◌, ok_or, option_map, Option}
use Rattle.std.specs.List.{list_all}
use Rattle.std.specs.Cmp.Lexicographic.{bytes_decides}
use Rattle.std.proofs.lemmas.Bool.{false_from_ne_true}
use Rattle.std.proofs.lemmas.Cmp.{nat_list_eq_equiv}
use Rattle.serde_json.specs.Data.{Data, string}
use Rattle.serde_json.proofs.OnLiterals.{serde_json_on_literals}
use Rattle.irv_base.specs.Candidates.{candidates, has, is_distinct, is_in, set_of}
use Rattle.irv_base.specs.Names.{Id, all_differ, is_among, is_name, is_same}
use Rattle.assertions.specs.Assertions.{is_proper}
use Rattle.assertions.specs.declared.assertion.Assertion.{Assertion}
use Rattle.assertions.specs.declared.assertion.Assertion.TheVariants.{Neb, Nen}
use Rattle.assertions.proofs.Proper.{pair_facts, nen_facts}
use Rattle.assertion_file.specs.Ids.{id_of, ids_of, ids_in, number_of, numbers_of}
use Rattle.assertion_file.specs.Reading.{assertion_with, is_rest, judged, located, ◌>>=◌}
use Rattle.assertion_file.specs.Stated.{is_text, list, texts, texts_of}
use Rattle.assertion_file.specs.Text.{array_of, ids_value}
use Rattle.assertion_file.specs.declared.fault.FRule.TheVariants.{F4, F5}
use Rattle.assertion_file.proofs.Elements.{elements-items_of}
use Rattle.assertion_file.proofs.Ranked.{all-among, among-id, listed, number-id, numbers-ids}
use Rattle.claims_file.specs.Claimed.{AreSound, Claimed}
use Rattle.claims_file.specs.Faults.{as_claims}
use Rattle.claims_file.specs.Reading.{assertion_of, assertions_from, claims_in, claims_of}
use Rattle.claims_file.specs.Stated.{Entry, Heading, heading_in}
use Rattle.claims_file.specs.Text.{assertion_value, claims_text, claims_value, neb_value, nen_value}
use Rattle.claims_file.specs.declared.fault.CRule.TheVariants.{C1}
use Rattle.claims_file.proofs.Entries.{Pair, judged_pair, with}
use Rattle.claims_file.proofs.FromFiles.{among-own, entry-with, heading-with, order-own}
use Rattle.claims_file.proofs.Headings.{AreNamed, kept, read_claims}
use Rattle.claims_file.proofs.Values.{text_reads_back}

-- ---- members of each kind

all-text : (ids : List Id) → list_all is_text (map string ids) ≡ true
all-text [] = refl
all-text (id ∷ ids) = all-text ids

texts-are : (ids : List Id) → texts_of (map string ids) ≡ ids
texts-are [] = refl
texts-are (id ∷ ids) = ap (λ rest. id ∷ rest) (texts-are ids)

texts-value : (ids : List Id) → texts (ids_value ids) ≡ Some ids
texts-value ids =
    ap (λ values. if list_all is_text values then Some (texts_of values) else None) (elements-items_of (map string ids))
    ∙ rw (all-text ids) (ap Some (texts-are ids))

list-value : (values : List Data) → list (array_of values) ≡ Some values
list-value values = ap Some (elements-items_of values)

-- ---- an assertion

abbrev entry_for : Id → Id → Option (List Id) → Entry
entry_for winner loser rest = record { winner = winner; loser = loser; rest = rest }

module _ (ids : List Id) (differ : all_differ ids ≡ true) where
  pair-of : (w l : ℕ) (rest : Option (List Id)) → w < length ids → l < length ids → (w ≡ l → ⊥) →
      Pair ids (entry_for (id_of ids w) (id_of ids l) rest) w l
  pair-of w l rest a b ne = record {
    winner = among-id ids w a;
    loser = among-id ids l b;
    differ = false_from_ne_true (is_same (id_of ids w) (id_of ids l)) (λ same.
        ne (sym (number-id ids w differ a) ∙ ap (number_of ids) ((bytes_decides (id_of ids w) (id_of ids l)).0 same) ∙ number-id ids l differ b));
    w_is = number-id ids w differ a;
    l_is = number-id ids l differ b;
  }

  nen-back : (w l set : ℕ) (cs : List ℕ) → list_all (is_among ids) (ids_of ids cs) ≡ true → numbers_of ids (ids_of ids cs) ≡ cs →
      is_distinct cs ≡ true → is_in cs w ≡ true → is_in cs l ≡ true → set ≡ set_of cs →
      as_claims (judged ((list_all (is_among ids) (ids_of ids cs), F4) ∷ (is_rest w l (Some (numbers_of ids (ids_of ids cs))), F5) ∷ [])
      (assertion_with w l (Some (numbers_of ids (ids_of ids cs))))) ≡ Ok (Nen w l set)
  nen-back w l set cs among numbers apart in_w in_l same = rw (among, numbers, apart, in_w, in_l) (ap (λ s. Ok (Nen w l s)) (sym same))

  assertion-back : (a : Assertion) → is_proper (length ids) a ≡ true → assertion_of ids (assertion_value ids a) ≡ Ok a
  unfolding serde_json_on_literals
  assertion-back (Neb w l) proper =
      let p = pair_facts (length ids) w l proper in
      let value = neb_value (id_of ids w) (id_of ids l) in
      let entry = entry_for (id_of ids w) (id_of ids l) None in
      with ids value entry (entry-with value (codes "NEB") (id_of ids w) (id_of ids l) None refl refl refl refl)
      ∙ judged_pair ids entry w l (pair-of w l None p.winner p.loser p.differ)
  assertion-back (Nen w l set) proper =
      let p = nen_facts (length ids) w l set proper in
      let cs = filter (has set) (candidates (length ids)) in
      let names = ids_in ids set in
      let of = listed (length ids) set p.small in
      let value = nen_value (id_of ids w) (id_of ids l) (ids_value names) in
      let entry = entry_for (id_of ids w) (id_of ids l) (Some names) in
      with ids value entry (entry-with value (codes "NEN") (id_of ids w) (id_of ids l) (Some names) refl refl refl (ap (option_map Some) (texts-value names)))
      ∙ judged_pair ids entry w l (pair-of w l (Some names) p.pair.winner p.pair.loser p.pair.differ)
      ∙ nen-back w l set cs (all-among ids cs of.below) (numbers-ids ids cs differ of.below) of.apart (of.member w p.has_winner) (of.member l p.has_loser) of.same

  assertions-back : (at : ℕ) (assertions : List Assertion) → All (λ a. is_proper (length ids) a ≡ true) assertions →
      assertions_from ids at (map (assertion_value ids) assertions) ≡ Ok assertions
  assertions-back at [] proper = refl
  assertions-back at (a ∷ assertions) proper =
      ap (λ r. located at r >>= λ a. assertions_from ids (at + 1) (map (assertion_value ids) assertions) >>= λ more. Ok (a ∷ more))
      (assertion-back a (proper 0 a (omega arith)))
      ∙ ap (λ r. r >>= λ more. Ok (a ∷ more)) (assertions-back (at + 1) assertions (λ i d within. proper (suc i) d (omega arith)))

-- ---- the file

module _ (contest : Id) (ids : List Id) (claims : Claimed) where
  abbrev heading_for : Heading
  heading_for = record {
    assertions = map (assertion_value ids) claims.assertions;
    candidates = ids;
    contest = contest;
    winner = id_of ids claims.winner;
  }

  heading-back : heading_in (claims_value contest ids claims) ≡ Some heading_for
  unfolding claims_value serde_json_on_literals
  heading-back =
      heading-with (claims_value contest ids claims) (map (assertion_value ids) claims.assertions) ids contest (id_of ids claims.winner)
      (list-value (map (assertion_value ids) claims.assertions)) (texts-value ids) refl refl

  pub printed_reads_back : is_name contest ≡ true → list_all is_name ids ≡ true → all_differ ids ≡ true → AreSound (length ids) claims →
      claims_of contest ids (claims_text contest ids claims) ≡ Ok claims
  unfolding claims_of
  printed_reads_back named names differ sound =
      let own : AreNamed contest ids heading_for = record { same = nat_list_eq_equiv.refl contest; listed = among-own ids } in
      ap (λ o. located 0 (ok_or o C1) >>= claims_in contest ids) (text_reads_back contest ids claims named names)
      ∙ read_claims contest ids heading_for (claims_value contest ids claims) claims.winner claims.assertions heading-back
      (kept contest ids heading_for own (order-own ids differ) (among-id ids claims.winner sound.winner))
      (sym (number-id ids claims.winner differ sound.winner))
      (assertions-back ids differ 1 claims.assertions sound.proper)
