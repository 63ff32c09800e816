-- Preferences that are read one by one.
use Rattle.std.proofs.Common.{◌≡◌, ◌++◌, ◌∷◌, [], ◌∙◌, ◌||◌, ◌==◌, ℕ, true, false, Option, Some, None, List, length, refl, sym, ap, inl, inr, arith}
use Rattle.std.specs.Prelude.{option_map, is_some, filter}
use Rattle.std.proofs.lemmas.Nat.Bits.{bit_at-zero}
use Rattle.std.proofs.lemmas.Bool.{cases_Bool, both_ways, eqb-true, eqb-false}
use Rattle.irv_base.specs.Candidates.{has, is_in}
use Rattle.irv_base.specs.Names.{Id, candidate_named}
use Rattle.irv_base.specs.Records.{firsts}
use Rattle.irv_base.proofs.Firsts.{firsts-again, firsts-more, is_in-push}
use Rattle.ballots.specs.Grammar.{all_of, is_marked, ranking_of}
use Rattle.ballots.proofs.AllOf.{behind, behind-more, behind-none, behind-end}

-- ---- the preferences so far

abbrev pub marked : List Id → List Id
marked preferences = filter is_marked preferences

abbrev pub chosen : List Id → List Id → Option (List ℕ)
chosen candidates preferences = all_of (candidate_named candidates) (marked preferences)

-- the preferences name these candidates, and then those of the rest
abbrev pub ChosenSoFar : List Id → List Id → List ℕ → List Id → Type 0
ChosenSoFar candidates preferences cs rest = chosen candidates preferences ≡ behind cs (chosen candidates rest)

pub some-marked : (field : Id) (rest : List Id) → (length field == 0) ≡ false → marked (field ∷ rest) ≡ field ∷ marked rest
some-marked [] rest h = absurd (eqb-false 0 0 h refl)
some-marked (b ∷ field) rest h = refl

pub chosen-more : (candidates preferences : List Id) (cs : List ℕ) (field : Id) (c : ℕ) (rest : List Id) →
    ChosenSoFar candidates preferences cs (field ∷ rest) → (length field == 0) ≡ false
    → candidate_named candidates field ≡ Some c → ChosenSoFar candidates preferences (cs ++ c ∷ []) rest
chosen-more candidates preferences cs field c rest so_far some e =
    so_far ∙ ap (λ ids. behind cs (all_of (candidate_named candidates) ids)) (some-marked field rest some)
    ∙ behind-more (candidate_named candidates) cs field c (marked rest) e

some_of : {X : Type 0} (o : Option X) → is_some o ≡ true → (x : X) × (o ≡ Some x)
some_of None h = absurd cc
some_of (Some x) h = (x, refl)

pub chosen-known : (candidates preferences : List Id) (cs : List ℕ) (field : Id) (rest : List Id) → ChosenSoFar candidates preferences cs (field ∷ rest) →
    (length field == 0) ≡ false
    → is_some (candidate_named candidates field) ≡ true → (ds : List ℕ) × ChosenSoFar candidates preferences ds rest
chosen-known candidates preferences cs field rest so_far some known =
    let (c, e) = some_of (candidate_named candidates field) known in
    (cs ++ c ∷ [], chosen-more candidates preferences cs field c rest so_far some e)

-- ---- the ranking so far

-- the ranking has the candidates that the preferences name ahead of the rest, each at its first place
abbrev pub RankedSoFar : List Id → List Id → List ℕ → List Id → Type 0
RankedSoFar candidates preferences ranking rest = (cs : List ℕ) × ChosenSoFar candidates preferences cs rest × (ranking ≡ firsts cs)

-- one more candidate is appended, unless it is already there
pub ranked-more : (candidates preferences : List Id) (field : Id) (c : ℕ) (rest : List Id) (old new : List ℕ) →
    RankedSoFar candidates preferences old (field ∷ rest)
    → (length field == 0) ≡ false → candidate_named candidates field ≡ Some c
    → (is_in old c ≡ false → new ≡ old ++ c ∷ []) → (is_in old c ≡ true → new ≡ old) → RankedSoFar candidates preferences new rest
ranked-more candidates preferences field c rest old new (cs, so_far, ranked) some e added kept =
    (cs ++ c ∷ [], chosen-more candidates preferences cs field c rest so_far some e, more)
  where
    more : new ≡ firsts (cs ++ c ∷ [])
    more = elim (cases_Bool (is_in old c)) [
      | inl t ↦ kept t ∙ ranked ∙ sym (firsts-again cs c (ap (λ r. is_in r c) (sym ranked) ∙ t))
      | inr f ↦ added f ∙ ap (λ r. r ++ c ∷ []) ranked ∙ sym (firsts-more cs c (ap (λ r. is_in r c) (sym ranked) ∙ f))
    ]

pub ranked-whole : (candidates preferences : List Id) (ranking : List ℕ) → RankedSoFar candidates preferences ranking [] →
    ranking_of candidates preferences ≡ Some ranking
ranked-whole candidates preferences ranking (cs, so_far, ranked) =
    ap (option_map firsts) (so_far ∙ behind-end (candidate_named candidates) cs) ∙ ap Some (sym ranked)

pub ranked-unknown : (candidates preferences : List Id) (ranking : List ℕ) (field : Id) (rest : List Id) →
    RankedSoFar candidates preferences ranking (field ∷ rest) → (length field == 0) ≡ false → candidate_named candidates field ≡ None →
    ranking_of candidates preferences ≡ None
ranked-unknown candidates preferences ranking field rest (cs, so_far, ranked) some e =
    ap (option_map firsts) (so_far ∙ ap (λ ids. behind cs (all_of (candidate_named candidates) ids)) (some-marked field rest some)
    ∙ behind-none (candidate_named candidates) cs field (marked rest) e)

-- ---- the ranking so far, which is the last of the rankings

has-none : (c : ℕ) → has 0 c ≡ false
has-none c = ap (λ bit. bit == 1) (bit_at-zero c)

pub record IsLast (candidates preferences : List Id) (old new : List (List ℕ)) (seen : ℕ) (rest : List Id) : Type 0 where
  pub ranking : List ℕ
  pub last : new ≡ old ++ ranking ∷ []
  pub ranked : RankedSoFar candidates preferences ranking rest
  pub seen_all : (c : ℕ) → has seen c ≡ is_in ranking c

pub last-none : (candidates preferences : List Id) (old new : List (List ℕ)) → new ≡ old ++ [] ∷ [] → IsLast candidates preferences old new 0 preferences
last-none candidates preferences old new e = record {
  ranking = [];
  last = e;
  ranked = ([], sym (all-behind (chosen candidates preferences)), refl);
  seen_all = has-none;
}
  where
    all-behind : (o : Option (List ℕ)) → behind [] o ≡ o
    all-behind None = refl
    all-behind (Some cs) = refl

-- a blank preference is skipped
pub last-blank : (candidates preferences : List Id) (old new : List (List ℕ)) (seen : ℕ) (field : Id) (rest : List Id) →
    IsLast candidates preferences old new seen (field ∷ rest) → (length field == 0) ≡ true → IsLast candidates preferences old new seen rest
last-blank candidates preferences old new seen [] rest l blank = record {
  ranking = l.ranking;
  last = l.last;
  ranked = l.ranked;
  seen_all = l.seen_all;
}
last-blank candidates preferences old new seen (b ∷ field) rest l blank = absurd (omega (arith, eqb-true (length (b ∷ field)) 0 blank))

-- so is a candidate who was already seen
pub last-again : (candidates preferences : List Id) (old new : List (List ℕ)) (seen : ℕ) (field : Id) (rest : List Id) (c : ℕ) →
    IsLast candidates preferences old new seen (field ∷ rest) → (length field == 0) ≡ false → candidate_named candidates field ≡ Some c →
    has seen c ≡ true → IsLast candidates preferences old new seen rest
last-again candidates preferences old new seen field rest c l some e again = record {
  ranking = l.ranking;
  last = l.last;
  ranked = ranked-more candidates preferences field c rest l.ranking l.ranking l.ranked some e
      (λ absent. absurd (both_ways (has seen c) (l.seen_all c ∙ absent) again)) (λ there. refl);
  seen_all = l.seen_all;
}

-- any other candidate is appended
pub last-more : (candidates preferences : List Id) (old new longer : List (List ℕ)) (seen more : ℕ) (field : Id) (rest : List Id) (c : ℕ) →
    IsLast candidates preferences old new seen (field ∷ rest) → (length field == 0) ≡ false → candidate_named candidates field ≡ Some c →
    has seen c ≡ false →
    ((earlier : List (List ℕ)) (last : List ℕ) → new ≡ earlier ++ last ∷ [] → longer ≡ earlier ++ (last ++ c ∷ []) ∷ []) →
    ((d : ℕ) → has more d ≡ (has seen d || (d == c))) → IsLast candidates preferences old longer more rest
last-more candidates preferences old new longer seen more field rest c l some e fresh put with = record {
  ranking = l.ranking ++ c ∷ [];
  last = put old l.ranking l.last;
  ranked = ranked-more candidates preferences field c rest l.ranking (l.ranking ++ c ∷ []) l.ranked some e
      (λ absent. refl) (λ there. absurd (both_ways (has seen c) fresh (l.seen_all c ∙ there)));
  seen_all = λ d. with d ∙ ap (λ b. b || (d == c)) (l.seen_all d) ∙ sym (is_in-push l.ranking c d);
}
