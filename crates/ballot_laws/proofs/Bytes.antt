-- A ballot file that is written is read back.
use Rattle.std.proofs.Common.{◌≡◌, ◌∙◌, ◌∷◌, [], ◌<◌, ◌&&◌, ℕ, zero, suc, true, List, None, length, map, get_or, decimal, codes, refl, ap, arith}
use Rattle.std.specs.Prelude.{All}
use Rattle.std.specs.List.{list_all}
use Rattle.std.proofs.lemmas.Bool.{and_from, and_parts}
use Rattle.std.proofs.lemmas.Fmt.{decimal_digit}
use Rattle.std.proofs.lemmas.List.Elements.{All-head, All-tail}
use Rattle.csv_rows.specs.Rows.{Fields}
use Rattle.csv_rows.proofs.Numbers.{own}
use Rattle.irv_base.specs.Names.{Id, is_name}
use Rattle.ballots.specs.Grammar.{ballots_from}
use Rattle.ballot_reader.specs.Laws.{HasSpelling, ballot_records, id_of, spelling}
use Rattle.ballots.specs.Ballots.{BallotFile}
use Rattle.ballot_reader.proofs.Rereads.{what_is_spelled}
use Rattle.ballot_laws.specs.Bytes.{BytesSpellFile, FirstBrokenRuleRefusesBytes, SpellingIsRead, WrittenIsJudged, is_plain, is_plain_record}
use Rattle.ballot_laws.proofs.Plain.{plain-name, plain-names, plain-number, some-fields}
use Rattle.ballot_laws.proofs.Refused.{first_broken_rule_refuses}
use Rattle.ballot_laws.proofs.Spelled.{records_spell_file}
use Rattle.ballot_laws.proofs.Written.{written-ascii, written-back}
use Rattle.csv_rows.specs.Fields.{numbered_records}

pub bytes_spell_file : BytesSpellFile
bytes_spell_file asked bytes file = records_spell_file asked (numbered_records bytes) file

pub written_is_judged : WrittenIsJudged
written_is_judged asked rows h = ap (ballots_from asked) (written-back rows h)

pub first_broken_rule_refuses_bytes : FirstBrokenRuleRefusesBytes
first_broken_rule_refuses_bytes asked bytes rule at = first_broken_rule_refuses asked (numbered_records bytes) rule at

-- ---- what is spelled is plain

chosen-plain : (candidates : List Id) (ranking : List ℕ) → list_all is_name candidates ≡ true → All (λ c. c < length candidates) ranking →
    list_all is_plain (map (id_of candidates) ranking) ≡ true
chosen-plain candidates [] named h = refl
chosen-plain candidates (c ∷ ranking) named h =
    and_from (is_plain (id_of candidates c)) (list_all is_plain (map (id_of candidates) ranking))
    (plain-name (id_of candidates c) (named-at candidates c named (All-head (λ c. c < length candidates) c ranking h)))
    (chosen-plain candidates ranking named (All-tail (λ c. c < length candidates) c ranking h))
  where
    named-at : (ids : List Id) (i : ℕ) → list_all is_name ids ≡ true → i < length ids → is_name (get_or ids i []) ≡ true
    named-at [] i g l = absurd (omega (arith, l))
    named-at (id ∷ ids) zero g l = (and_parts (is_name id) (list_all is_name ids) g).0
    named-at (id ∷ ids) (suc i) g l = named-at ids i (and_parts (is_name id) (list_all is_name ids) g).1 (omega (arith, l))

ballots-plain : (contest : Id) (candidates ids : List Id) (rankings : List (List ℕ)) → is_name contest ≡ true → list_all is_name candidates ≡ true →
    list_all is_name ids ≡ true
    → All (λ ranking. All (λ c. c < length candidates) ranking) rankings → list_all is_plain_record (ballot_records contest candidates ids rankings) ≡ true
ballots-plain contest candidates [] rankings c named i below = refl
ballots-plain contest candidates (id ∷ ids) [] c named i below = refl
ballots-plain contest candidates (id ∷ ids) (ranking ∷ rankings) c named i below =
    let (own, all) = and_parts (is_name id) (list_all is_name ids) i in
    let choices = map (id_of candidates) ranking in
    let plain = chosen-plain candidates ranking named (All-head (λ r. All (λ c. c < length candidates) r) ranking rankings below) in
    and_from (is_plain_record (contest ∷ id ∷ choices)) (list_all is_plain_record (ballot_records contest candidates ids rankings))
    (some-fields contest id choices (and_from (is_plain contest) (is_plain id && list_all is_plain choices) (plain-name contest c)
    (and_from (is_plain id) (list_all is_plain choices) (plain-name id own) plain)))
    (ballots-plain contest candidates ids rankings c named all (All-tail (λ r. All (λ c. c < length candidates) r) ranking rankings below))

spelling-plain : (file : BallotFile) → HasSpelling file → list_all is_plain_record (spelling file) ≡ true
spelling-plain file h =
    let n = length file.candidates in
    let rows = ballot_records file.contest file.candidates file.ids file.rankings in
    let head : Fields = codes "Contest" ∷ file.contest ∷ decimal n ∷ file.candidates in
    let number = plain-number n (omega (arith, h.sound.candidates.most)) in
    let plain = some-fields (codes "Contest") file.contest (decimal n ∷ file.candidates)
    (and_from (is_plain (codes "Contest")) (is_plain file.contest && (is_plain (decimal n) && list_all is_plain file.candidates)) refl
    (and_from (is_plain file.contest) (is_plain (decimal n) && list_all is_plain file.candidates) (plain-name file.contest h.contest_named)
    (and_from (is_plain (decimal n)) (list_all is_plain file.candidates) number (plain-names file.candidates h.candidates_named)))) in
    let first : is_plain_record (decimal 1 ∷ []) ≡ true = ap (λ t. is_plain_record (t ∷ [])) (decimal_digit 1 (omega arith)) in
    and_from (is_plain_record (decimal 1 ∷ [])) (list_all is_plain_record (head ∷ rows)) first
    (and_from (is_plain_record head) (list_all is_plain_record rows) plain
    (ballots-plain file.contest file.candidates file.ids file.rankings h.contest_named h.candidates_named h.ids_named h.sound.ballots.below))

pub spelling_is_read : SpellingIsRead
spelling_is_read file h =
    let plain = spelling-plain file h in
    (written-ascii (spelling file) plain, ap (ballots_from None) (written-back (spelling file) plain) ∙ what_is_spelled file h)
