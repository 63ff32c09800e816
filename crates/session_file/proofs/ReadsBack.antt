-- A session's value says what the session says.
use Rattle.std.proofs.Common.{inl, inr, ◌≡◌, ℕ, ◌≤◌, List, [], ◌∷◌, length, map, All, Option, Some, refl, ap, ◌∙◌, arith, eq-eqb}
use Rattle.std.specs.Prelude.{codes}
use Rattle.std.specs.Result.{result_ok}
use Rattle.std.specs.Cmp.{booleans_Decides}
use Rattle.std.proofs.lemmas.Bool.{cases_lt, le-leb}
use Rattle.std.proofs.lemmas.List.{get_or_past}
use Rattle.std.proofs.lemmas.List.Elements.{All-head, All-tail}
use Rattle.hex.specs.Hex.{IsBytes}
use Rattle.hex.proofs.HexLemmas.{decode_sized-encode_lower}
use Rattle.serde_json.specs.Data.{Data}
use Rattle.serde_json.specs.Find.{as_bool}
use Rattle.serde_json.proofs.OnLiterals.{serde_json_on_literals}
use Rattle.irv_base.specs.declared.limits.TheConstants.{MOST_DRAWS}
use Rattle.km_risk.specs.Counts.{draws_in}
use Rattle.km_risk.specs.declared.draws.Counts.{Counts}
use Rattle.assertion_file.specs.Stated.{◌>>=◌, list, list_in, member_as, number, number_in, text_in}
use Rattle.assertion_file.specs.Text.{array_of, whole_number}
use Rattle.assertion_file.proofs.Elements.{elements-items_of}
use Rattle.session_state.specs.Content.{Content, IsSound}
use Rattle.session_state.specs.Sessions.{Round, is_signed_off}
use Rattle.session_file.specs.Forms.{HasForms, IsDigest}
use Rattle.session_file.specs.Text.{counts_value, digest_value, round_value, session_text, session_value}
use Rattle.session_file.specs.declared.print.TheConstants.{VERSION}
use Rattle.session_file.proofs.PrintedText.{text_reads_back}
use Rattle.session_file.specs.Reading.{content_of, session_of}
use Rattle.session_file.specs.Stated.{Heading, counts, counts_from, digest, digests_in, each, entry_in, heading_in, risk, round}
use Rattle.session_file.proofs.Contents.{with-rounds}
use Rattle.session_file.proofs.Kept.{kept-sound}
use Rattle.session_file.proofs.Rounds.{a_round}

-- ---- lists

-- what each element is shown as says what the element is
each-back : {A : Type 0} (kind : Data → Option A) (shown : A → Data) (P : A → Type 0) → ((x : A) → P x → kind (shown x) ≡ Some x) → (xs : List A) → All P xs →
    each kind (map shown xs) ≡ Some xs
each-back kind shown P back [] all = refl
each-back kind shown P back (x ∷ xs) all =
    ap (λ o. o >>= λ first. each kind (map shown xs) >>= λ rest. Some (first ∷ rest)) (back x (All-head P x xs all))
    ∙ ap (λ o. o >>= λ rest. Some (x ∷ rest)) (each-back kind shown P back xs (All-tail P x xs all))

list-value : (values : List Data) → list (array_of values) ≡ Some values
list-value values = ap Some (elements-items_of values)

number-value : (n : ℕ) → n ≤ 4294967295 → number (whole_number n) ≡ Some n
number-value n few = rw (le-leb n 4294967295 few) refl

numbers-back : (ns : List ℕ) → All (λ n. n ≤ 4294967295) ns → each number (map whole_number ns) ≡ Some ns
numbers-back = each-back number whole_number (λ n. n ≤ 4294967295) number-value

risks-back : (ns : List ℕ) → each risk (map whole_number ns) ≡ Some ns
risks-back ns = each-back risk whole_number (λ _. Unit {0}) (λ n _. refl) ns (λ k d within. tt)

-- ---- a round

counts-value : (c : Counts) → draws_in c ≤ MOST_DRAWS → counts (counts_value c) ≡ Some c
counts-value c few =
    ap (λ o. o >>= counts_from) (list-value (map whole_number (c.n0 ∷ c.n1 ∷ c.n2 ∷ c.n3 ∷ c.n4 ∷ [])))
    ∙ rw (
      number-value c.n0 (omega arith),
      number-value c.n1 (omega arith),
      number-value c.n2 (omega arith),
      number-value c.n3 (omega arith),
      number-value c.n4 (omega arith),
    ) refl

entry-from : (value : Data) (counts risks : List Data) (draws : ℕ) →
    list_in (codes "counts") value ≡ Some counts → number_in (codes "draws") value ≡ Some draws → list_in (codes "risks") value ≡ Some risks →
    entry_in value ≡ Some (record { counts = counts; draws = draws; risks = risks })
unfolding entry_in
entry-from value counts risks draws c d r = rw (c, d, r) refl

entry-back : (r : Round) → r.draws ≤ MOST_DRAWS → entry_in (round_value r)
    ≡ Some (record { counts = map counts_value r.counts; draws = r.draws; risks = map whole_number r.risks })
unfolding serde_json_on_literals
entry-back r few =
    entry-from (round_value r) (map counts_value r.counts) (map whole_number r.risks) r.draws (list-value (map counts_value r.counts))
    (number-value r.draws (omega arith)) (list-value (map whole_number r.risks))

-- of as many draws, and not too many
record IsPrintable (r : Round) : Type 0 where
  few : r.draws ≤ MOST_DRAWS
  all_draws : All (λ c. draws_in c ≡ r.draws) r.counts

round-back : (r : Round) → IsPrintable r → round (round_value r) ≡ Some r
round-back r h =
    let few = h.few in
    a_round (round_value r) (record { counts = map counts_value r.counts; draws = r.draws; risks = map whole_number r.risks })
    (entry-back r few) r.counts r.risks
    (each-back counts counts_value (λ c. draws_in c ≤ MOST_DRAWS) counts-value r.counts (λ k d within. omega (arith, h.all_draws k d within)))
    (risks-back r.risks)

-- ---- digests

bytes-are : (bytes : List ℕ) → IsDigest bytes → IsBytes bytes
bytes-are bytes h i =
    elim (cases_lt i (length bytes)) [
      | inl within ↦ h.bytes i 0 within
      | inr past ↦ omega (arith, get_or_past bytes i 0 past)
    ]

digest-value : (bytes : List ℕ) → IsDigest bytes → digest (digest_value bytes) ≡ Some bytes
digest-value bytes h = ap result_ok (decode_sized-encode_lower bytes 32 h.long (bytes-are bytes h))

digests-from : (value : Data) (ballots manifest assertions : List ℕ) →
    member_as digest (codes "assertions") value ≡ Some assertions → member_as digest (codes "ballots") value ≡ Some ballots →
    member_as digest (codes "manifest") value ≡ Some manifest →
    digests_in value ≡ Some (record { ballots = ballots; manifest = manifest; assertions = assertions })
unfolding digests_in
digests-from value ballots manifest assertions a b m = rw (a, b, m) refl

-- ---- the session

abbrev heading_for : Content → Heading
heading_for content = record {
  contest = content.contest;
  margins = map whole_number content.session.margins;
  seed = content.seed;
  rounds = map round_value content.session.rounds;
  signed_off = is_signed_off content.session;
  version = VERSION;
  terms = record { cards = content.session.cards; gamma = content.session.gamma; limit = content.session.limit };
  digests = content.digests;
}

heading-from : (value : Data) (h : Heading) →
    text_in (codes "contest") value ≡ Some h.contest → number_in (codes "cards") value ≡ Some h.terms.cards → list_in (codes "margins") value ≡ Some h.margins →
    text_in (codes "seed") value ≡ Some h.seed → number_in (codes "limit") value ≡ Some h.terms.limit → number_in (codes "gamma") value ≡ Some h.terms.gamma →
    digests_in value ≡ Some h.digests → list_in (codes "rounds") value ≡ Some h.rounds → member_as as_bool (codes "signed_off") value ≡ Some h.signed_off →
    number_in (codes "version") value ≡ Some h.version → heading_in value ≡ Some h
unfolding heading_in
heading-from value h n c m s l g d r o v = rw (n, m, s, r, o, v, c, g, l, d) refl

digests-back : (content : Content) → HasForms content → digests_in (session_value content) ≡ Some content.digests
unfolding session_value serde_json_on_literals
digests-back content f =
    let d = content.digests in
    digests-from (session_value content) d.ballots d.manifest d.assertions (digest-value d.assertions f.assertions) (digest-value d.ballots f.ballots)
    (digest-value d.manifest f.manifest)

heading-back : (content : Content) → IsSound content → HasForms content → heading_in (session_value content) ≡ Some (heading_for content)
unfolding session_value serde_json_on_literals
heading-back content s f =
    let session = content.session in
    let cards = s.limits.most_cards in
    let limit = s.limits.most_limit in
    let gamma = s.limits.most_gamma in
    heading-from (session_value content) (heading_for content) refl (number-value session.cards (omega arith))
    (list-value (map whole_number session.margins)) refl
    (number-value session.limit (omega arith)) (number-value session.gamma (omega arith)) (digests-back content f)
    (list-value (map round_value session.rounds)) refl
    (number-value VERSION (omega arith))

pub printed_reads_back : (content : Content) → IsSound content → HasForms content → session_of (session_text content) ≡ Some content
unfolding session_of
printed_reads_back content s f =
    let session = content.session in
    let cards = s.limits.most_cards in
    let margins = numbers-back session.margins (λ k d within. let within_cards = (s.session.margins k d within).1 in omega arith) in
    let rounds = each-back round round_value IsPrintable round-back session.rounds
    (λ k d within. record { few = s.limits.most_draws k d within; all_draws = (s.session.rounds k d within).all_draws }) in
    ap (λ o. o >>= content_of) (text_reads_back content s f)
    ∙ with-rounds (session_value content) (heading_for content) (heading-back content s f) session.margins margins session.rounds rounds
    ∙ kept-sound content (heading_for content) (eq-eqb VERSION VERSION refl) s f ((booleans_Decides (is_signed_off session) (is_signed_off session)).1 refl)
