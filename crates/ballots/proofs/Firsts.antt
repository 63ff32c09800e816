-- The ranking of preferences has only candidates of the contest, each once.
use Rattle.std.proofs.Common.{◌≡◌, ◌<◌, ◌∙◌, ◌∷◌, [], ◌&&◌, ◌||◌, ◌==◌, not, ℕ, Bool, true, false, List, Option, Some, None, length, refl, ap, inl, inr, subst}
use Rattle.std.specs.Prelude.{All, filter, option_map, option_and_then, if◌then◌else◌}
use Rattle.std.proofs.lemmas.Bool.{and_parts, cases_Bool, not-true}
use Rattle.std.proofs.lemmas.List.Elements.{All-nil, All-cons, All-head, All-tail, All-filter}
use Rattle.std.proofs.lemmas.List.Quantifiers.{position-Some}
use Rattle.csv_rows.specs.Rows.{Fields}
use Rattle.irv_base.specs.Candidates.{is_in, is_distinct}
use Rattle.irv_base.specs.Names.{Id, is_same, candidate_named}
use Rattle.irv_base.specs.Records.{firsts}
use Rattle.ballots.specs.Grammar.{all_of, is_marked, ranking_of}
use Rattle.ballot_ids.proofs.Differing.{or-false}

filter-lacks : (cs : List ℕ) (c : ℕ) → is_in (filter (λ d. not (d == c)) cs) c ≡ false
filter-lacks [] c = refl
filter-lacks (x ∷ cs) c = elim (cases_Bool (x == c)) [
  | inl t ↦ ap (λ b. is_in (if not b then x ∷ filter (λ d. not (d == c)) cs else filter (λ d. not (d == c)) cs) c) t ∙ filter-lacks cs c
  | inr f ↦ ap (λ b. is_in (if not b then x ∷ filter (λ d. not (d == c)) cs else filter (λ d. not (d == c)) cs) c) f
      ∙ ap (λ b. b || is_in (filter (λ d. not (d == c)) cs) c) f ∙ filter-lacks cs c
]

filter-none : (p : ℕ → Bool) (cs : List ℕ) (c : ℕ) → is_in cs c ≡ false → is_in (filter p cs) c ≡ false
filter-none p [] c h = refl
filter-none p (x ∷ cs) c h =
    let (first, rest) = or-false (x == c) (is_in cs c) h in
    elim (cases_Bool (p x)) [
      | inl t ↦ ap (λ b. is_in (if b then x ∷ filter p cs else filter p cs) c) t ∙ ap (λ b. b || is_in (filter p cs) c) first ∙ filter-none p cs c rest
      | inr f ↦ ap (λ b. is_in (if b then x ∷ filter p cs else filter p cs) c) f ∙ filter-none p cs c rest
    ]

distinct-filter : (p : ℕ → Bool) (cs : List ℕ) → is_distinct cs ≡ true → is_distinct (filter p cs) ≡ true
distinct-filter p [] h = refl
distinct-filter p (x ∷ cs) h =
    let (out, rest) = and_parts (not (is_in cs x)) (is_distinct cs) h in
    let lacks = filter-none p cs x (not-true (is_in cs x) out) in
    elim (cases_Bool (p x)) [
      | inl t ↦ ap (λ b. is_distinct (if b then x ∷ filter p cs else filter p cs)) t ∙ ap (λ b. not b && is_distinct (filter p cs)) lacks
          ∙ distinct-filter p cs rest
      | inr f ↦ ap (λ b. is_distinct (if b then x ∷ filter p cs else filter p cs)) f ∙ distinct-filter p cs rest
    ]

firsts-distinct : (cs : List ℕ) → is_distinct (firsts cs) ≡ true
firsts-distinct [] = refl
firsts-distinct (c ∷ cs) =
    ap (λ b. not b && is_distinct (filter (λ d. not (d == c)) (firsts cs))) (filter-lacks (firsts cs) c)
    ∙ distinct-filter (λ d. not (d == c)) (firsts cs) (firsts-distinct cs)

firsts-all : (P : ℕ → Type 0) (cs : List ℕ) → All P cs → All P (firsts cs)
firsts-all P [] h = h
firsts-all P (c ∷ cs) h = All-cons P c (filter (λ d. not (d == c)) (firsts cs)) (All-head P c cs h)
    (All-filter (λ d. not (d == c)) P (firsts cs) (firsts-all P cs (All-tail P c cs h)))

chosen-below : (candidates ids : List Id) (cs : List ℕ) → all_of (candidate_named candidates) ids ≡ Some cs → All (λ c. c < length candidates) cs
chosen-below candidates [] cs h = let e : [] ≡ cs = cc in subst (All (λ c. c < length candidates)) e (All-nil (λ c. c < length candidates))
chosen-below candidates (id ∷ ids) cs h = first (candidate_named candidates id) refl h (chosen-below candidates ids) where
  rest : (c : ℕ) → candidate_named candidates id ≡ Some c → (o : Option (List ℕ)) → all_of (candidate_named candidates) ids ≡ o →
      option_map (λ ds. c ∷ ds) o ≡ Some cs
      → ((ds : List ℕ) → all_of (candidate_named candidates) ids ≡ Some ds → All (λ d. d < length candidates) ds) → All (λ d. d < length candidates) cs
  rest c e None f g ih = absurd cc
  rest c e (Some ds) f g ih =
      let s : c ∷ ds ≡ cs = cc in
      subst (All (λ d. d < length candidates)) s (All-cons (λ d. d < length candidates) c ds
      (position-Some (λ candidate. is_same candidate id) candidates c [] e).0 (ih ds f))

  first : (o : Option ℕ) → candidate_named candidates id ≡ o → option_and_then (λ c. option_map (λ ds. c ∷ ds) (all_of (candidate_named candidates) ids)) o
      ≡ Some cs
      → ((ds : List ℕ) → all_of (candidate_named candidates) ids ≡ Some ds → All (λ d. d < length candidates) ds) → All (λ d. d < length candidates) cs
  first None e g ih = absurd cc
  first (Some c) e g ih = rest c e (all_of (candidate_named candidates) ids) refl g ih

pub record IsRanking (n : ℕ) (ranking : List ℕ) : Type 0 where
  pub below : All (λ c. c < n) ranking
  pub distinct : is_distinct ranking ≡ true

pub is_ranking : (candidates : List Id) (preferences : Fields) (ranking : List ℕ) → ranking_of candidates preferences ≡ Some ranking →
    IsRanking (length candidates) ranking
is_ranking candidates preferences ranking h = by (all_of (candidate_named candidates) (filter is_marked preferences)) refl h where
  by : (o : Option (List ℕ)) → all_of (candidate_named candidates) (filter is_marked preferences) ≡ o → option_map firsts o ≡ Some ranking →
      IsRanking (length candidates) ranking
  by None e g = absurd cc
  by (Some cs) e g =
      let s : firsts cs ≡ ranking = cc in
      subst (IsRanking (length candidates)) s
      (record {
        below = firsts-all (λ c. c < length candidates) cs (chosen-below candidates (filter is_marked preferences) cs e);
        distinct = firsts-distinct
            cs;
      })
