-- Preferences that name candidates.
use Rattle.std.proofs.Common.{◌≡◌, ◌∙◌, ◌∷◌, [], ◌<◌, ℕ, true, List, Option, Some, None, length, map, refl, sym, ap}
use Rattle.std.specs.Prelude.{All, is_some, option_and_then, option_map}
use Rattle.std.specs.List.{list_all}
use Rattle.std.specs.Cmp.Lexicographic.{bytes_decides}
use Rattle.std.proofs.lemmas.Bool.{and_parts}
use Rattle.std.proofs.lemmas.List.Elements.{All-cons, All-head, All-nil, All-tail}
use Rattle.std.proofs.lemmas.List.Quantifiers.{position-Some}
use Rattle.std.proofs.lemmas.Option.{slice_get-get_or}
use Rattle.csv_rows.specs.Rows.{Fields}
use Rattle.irv_base.specs.Names.{Id, all_differ, candidate_named, is_among, is_same}
use Rattle.irv_base.specs.Records.{firsts}
use Rattle.ballots.specs.Grammar.{all_of}
use Rattle.ballot_reader.specs.Laws.{id_of}
use Rattle.ballot_ids.proofs.Differing.{position-at}
use Rattle.ballot_laws.specs.Rows.{preferences}
use Rattle.ballot_laws.specs.Spelling.{Ranks}
use Rattle.ballot_laws.proofs.Ballots.{ranking_in, ranking_or_none, some-all, some-among}

-- ---- from preferences to candidates

record AreNamed (candidates ids : List Id) : Type 0 where
  choices : List ℕ
  found : all_of (candidate_named candidates) ids ≡ Some choices
  below : All (λ c. c < length candidates) choices
  named : ids ≡ map (id_of candidates) choices

some-choice : (candidates : List Id) (id : Id) → is_among candidates id ≡ true → (c : ℕ) × (candidate_named candidates id ≡ Some c)
some-choice candidates id h = by (candidate_named candidates id) refl (some-among candidates id ∙ h) where
  by : (o : Option ℕ) → candidate_named candidates id ≡ o → is_some o ≡ true → (c : ℕ) × (candidate_named candidates id ≡ Some c)
  by None e g = absurd cc
  by (Some c) e g = (c, e)

are-named : (candidates ids : List Id) → list_all (is_among candidates) ids ≡ true → AreNamed candidates ids
are-named candidates [] h = record { choices = []; found = refl; below = All-nil (λ c. c < length candidates); named = refl }
are-named candidates (id ∷ ids) h =
    let (one, all) = and_parts (is_among candidates id) (list_all (is_among candidates) ids) h in
    let (c, at) = some-choice candidates id one in
    let more = are-named candidates ids all in
    let stands = position-Some (λ other. is_same other id) candidates c [] at in
    record {
      choices = c ∷ more.choices;
      found = ap (λ o. option_and_then (λ d. option_map (λ ds. d ∷ ds) (all_of (candidate_named candidates) ids)) o) at
          ∙ ap (λ o. option_map (λ ds. c ∷ ds) o) more.found;
      below = All-cons (λ d. d < length candidates) c more.choices stands.0 more.below;
      named = ap (λ x. x ∷ ids) (sym ((bytes_decides (id_of candidates c) id).0 stands.1)) ∙ ap (λ xs. id_of candidates c ∷ xs) more.named;
    }

pub ranks-of : (candidates : List Id) (row : Fields) → list_all (is_among candidates) (preferences row) ≡ true →
    Ranks candidates (preferences row) (ranking_in candidates row)
ranks-of candidates row h =
    let are = are-named candidates (preferences row) h in
    record { choices = are.choices; below = are.below; named = are.named; first = ap (λ o. ranking_or_none (option_map firsts o)) are.found }

-- ---- and back

found-all : (candidates : List Id) (choices : List ℕ) → all_differ candidates ≡ true → All (λ c. c < length candidates) choices →
    all_of (candidate_named candidates) (map (id_of candidates) choices) ≡ Some choices
found-all candidates [] differ h = refl
found-all candidates (c ∷ choices) differ h =
    ap (λ o. option_and_then (λ d. option_map (λ ds. d ∷ ds) (all_of (candidate_named candidates) (map (id_of candidates) choices))) o)
    (position-at candidates c (id_of candidates c) differ (slice_get-get_or candidates c [] (All-head (λ d. d < length candidates) c choices h)))
    ∙ ap (λ o. option_map (λ ds. c ∷ ds) o) (found-all candidates choices differ (All-tail (λ d. d < length candidates) c choices h))

pub one-ranking : (candidates : List Id) (row : Fields) (ranking : List ℕ) → all_differ candidates ≡ true → Ranks candidates (preferences row) ranking
    → (list_all (is_among candidates) (preferences row) ≡ true) × (ranking_in candidates row ≡ ranking)
one-ranking candidates row ranking differ r =
    let found = ap (all_of (candidate_named candidates)) r.named ∙ found-all candidates r.choices differ r.below in
    (sym (some-all candidates (preferences row)) ∙ ap is_some found, ap (λ o. ranking_or_none (option_map firsts o)) found ∙ sym r.first)
