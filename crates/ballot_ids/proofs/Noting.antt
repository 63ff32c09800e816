-- An id that is noted, on its page or elsewhere.
use Rattle.std.proofs.Common.{◌≡◌, ◌∙◌, ◌++◌, ◌∷◌, ◌||◌, ◌&&◌, [], Bool, true, false, not, List, Option, Some, None, refl, sym, ap, inl, inr}
use Rattle.std.specs.Cmp.Lexicographic.{bytes_decides}
use Rattle.std.proofs.lemmas.Bool.{cases_Bool, false≢true}
use Rattle.std.proofs.lemmas.List.Folds.{list_any-append}
use Rattle.irv_base.specs.Names.{Id, is_among, is_same}
use Rattle.ballot_ids.specs.Ids.{AreBytes, is_elsewhere, is_for_others, is_of, is_on, is_paged, page_at, page_number}
use Rattle.ballot_ids.specs.Noted.{AreNoted}
use Rattle.ballot_ids.specs.declared.noted.Noted.{Noted}
use Rattle.ballot_ids.specs.declared.page.Page.{Page}
use Rattle.ballot_ids.specs.declared.pages.Pages.{Pages}

or-first : (a b c : Bool) → ((a || b) || c) ≡ (a || (b || c))
or-first true b c = refl
or-first false b c = refl

or-second : (a b c : Bool) → (a || (b || c)) ≡ (b || (a || c))
or-second true true c = refl
or-second true false c = refl
or-second false b c = refl

or-last : (a b : Bool) → (a || (b || false)) ≡ (b || a)
or-last true true = refl
or-last true false = refl
or-last false true = refl
or-last false false = refl

among-more : (met : List Id) (id other : Id) → is_among (met ++ id ∷ []) other ≡ (is_same id other || is_among met other)
among-more met id other =
    list_any-append (λ x. is_same x other) met (id ∷ []) ∙ or-last (is_among met other) (is_same id other)

not-on : (page : Option Page) (id : Id) → is_for_others page id ≡ true → is_on page id ≡ false
not-on None id h = refl
not-on (Some page) id h = by (is_of page id) h where
  by : (b : Bool) → not b ≡ true → (b && Rattle.ballot_ids.specs.Ids.has_bit page.bits (Rattle.ballot_ids.specs.Ids.bit_of (Rattle.ballot_ids.specs.Ids.counted id))) ≡ false
  by true g = absurd (false≢true g)
  by false g = refl

pub unpaged : (pages : Pages) (id : Id) → is_elsewhere pages id ≡ true → is_paged pages id ≡ false
unpaged pages id h = not-on (page_at pages (page_number id)) id h

-- an id whose page is for ids like it isn't kept elsewhere
pub here : (met : List Id) (noted : Noted) (after : Pages) (id : Id) → AreNoted met noted
    → ((other : Id) → is_elsewhere noted.pages other ≡ true → is_elsewhere after other ≡ true)
    → is_elsewhere after id ≡ false → is_among noted.elsewhere id ≡ false
here met noted after id h stays own = elim (cases_Bool (is_among noted.elsewhere id)) [
  | inl among ↦ absurd (false≢true (sym own ∙ stays id (h.away id among)))
  | inr none ↦ none
]

-- ---- whether the id is new

pub told : (met : List Id) (noted : Noted) (id : Id) (paged elsewhere : Bool) → AreNoted met noted → AreBytes id → is_paged noted.pages id ≡ paged
    → is_among noted.elsewhere id ≡ elsewhere → is_among met id ≡ (paged || elsewhere)
told met noted id paged elsewhere h bytes p e =
    sym (h.exact id bytes) ∙ ap (λ b. b || is_among noted.elsewhere id) p ∙ ap (λ b. paged || b) e

-- ---- one more

pub paged-more : (met : List Id) (noted after : Noted) (id : Id) → AreNoted met noted → after.elsewhere ≡ noted.elsewhere
    → ((other : Id) → AreBytes other → is_paged after.pages other ≡ (is_same id other || is_paged noted.pages other))
    → ((other : Id) → is_elsewhere noted.pages other ≡ true → is_elsewhere after.pages other ≡ true)
    → AreNoted (met ++ id ∷ []) after
paged-more met noted after id h same marked stays = record {
  exact = λ other bytes.
      ap (λ b. b || is_among after.elsewhere other) (marked other bytes)
      ∙ ap (λ ids. (is_same id other || is_paged noted.pages other) || is_among ids other) same
      ∙ or-first (is_same id other) (is_paged noted.pages other) (is_among noted.elsewhere other)
      ∙ ap (λ b. is_same id other || b) (h.exact other bytes) ∙ sym (among-more met id other);
  away = λ other among. stays other (h.away other (ap (λ ids. is_among ids other) (sym same) ∙ among));
}

or-either : (a b : Bool) → (a || b) ≡ true → a ≡ false → b ≡ true
or-either true b h n = absurd (false≢true (sym n))
or-either false b h n = h

pub elsewhere-more : (met : List Id) (noted after : Noted) (id : Id) → AreNoted met noted
    → ((other : Id) → is_paged after.pages other ≡ is_paged noted.pages other)
    → ((other : Id) → is_among after.elsewhere other ≡ (is_same id other || is_among noted.elsewhere other))
    → ((other : Id) → is_elsewhere noted.pages other ≡ true → is_elsewhere after.pages other ≡ true)
    → is_elsewhere after.pages id ≡ true → AreNoted (met ++ id ∷ []) after
elsewhere-more met noted after id h same put stays own = record {
  exact = λ other bytes.
      ap (λ b. b || is_among after.elsewhere other) (same other)
      ∙ ap (λ b. is_paged noted.pages other || b) (put other)
      ∙ or-second (is_paged noted.pages other) (is_same id other) (is_among noted.elsewhere other)
      ∙ ap (λ b. is_same id other || b) (h.exact other bytes) ∙ sym (among-more met id other);
  away = λ other among. elim (cases_Bool (is_same id other)) [
    | inl is ↦ ap (is_elsewhere after.pages) (sym ((bytes_decides id other).0 is)) ∙ own
    | inr not_it ↦ stays other (h.away other (or-either (is_same id other) (is_among noted.elsewhere other) (sym (put other) ∙ among) not_it))
  ];
}
