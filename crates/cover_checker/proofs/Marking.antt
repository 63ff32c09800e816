-- Sets with marks: adding one, and removing one.
use Rattle.std.proofs.Common.{◌≡◌, inl, inr, ℕ, ◌+◌, ◌-◌, ◌<◌, ◌≤◌, cond, Bool, true, false, ◌||◌, ◌==◌, List, [], ◌∷◌, ◌++◌, length, length-append, take, get_or, refl, sym, ap, ap₂, subst, arith, eq-eqb, eqb-true, ◌∙◌}
use Rattle.std.specs.List.{list_any}
use Rattle.std.proofs.lemmas.Bool.{cases_lt, cases_Bool}
use Rattle.std.proofs.lemmas.List.{take_all, take-append-le, get_or_append_left, get_or-append-add}
use Rattle.std.proofs.lemmas.List.Folds.{list_any-append}
use Rattle.set_walk.specs.Dives.{is_seen}
use Rattle.cover_checker.specs.Marks.{AreMarked, IsEachNew}
use Rattle.cover_checker.specs.Numbered.{under}
use Rattle.cover_checker.specs.declared.numbered.Numbered.{Numbered}
use Rattle.cover_checker.proofs.Indexes.{eq-turned}

module _ (sets : List ℕ) (x : ℕ) where
  abbrev more : List ℕ
  more = sets ++ x ∷ []

  long : length more ≡ length sets + 1
  long = length-append sets (x ∷ [])

  earlier : (i : ℕ) → i < length sets → is_seen (take i more) (get_or more i 0) ≡ is_seen (take i sets) (get_or sets i 0)
  earlier i l = ap₂ is_seen (take-append-le i sets (x ∷ []) (omega (arith, l))) (get_or_append_left sets (x ∷ []) 0 i l)

  last : (i : ℕ) → i ≡ length sets → is_seen (take i more) (get_or more i 0) ≡ is_seen sets x
  last i e =
      let all : take i more ≡ sets = take-append-le i sets (x ∷ []) (omega (arith, e)) ∙ take_all i sets (omega (arith, e)) in
      let same : i ≡ length sets + 0 = omega (arith, e) in
      ap₂ is_seen all (ap (λ k. get_or more k 0) same ∙ get_or-append-add sets (x ∷ []) 0 0)

  pub were-new : IsEachNew more → IsEachNew sets
  were-new h i l = sym (earlier i l) ∙ h i (omega (arith, l, long))

  pub last-new : IsEachNew more → is_seen sets x ≡ false
  last-new h = sym (last (length sets) refl) ∙ h (length sets) (omega (arith, long))

  pub are-new : IsEachNew sets → is_seen sets x ≡ false → IsEachNew more
  are-new h free i l = elim (cases_lt i (length sets)) [
    | inl k ↦ earlier i k ∙ h i k
    | inr k ↦ last i (omega (arith, l, k, long)) ∙ free
  ]

  seen-more : (other : ℕ) → is_seen more other ≡ (is_seen sets other || (x == other))
  seen-more other = list_any-append (λ s. other == s) sets (x ∷ []) ∙ ap (λ b. is_seen sets other || b) (no-more (other == x) ∙ eq-turned other x) where
    no-more : (b : Bool) → (b || false) ≡ b
    no-more true = refl
    no-more false = refl

  one-more : (b s : Bool) → cond b true s ≡ (s || b)
  one-more true true = refl
  one-more true false = refl
  one-more false true = refl
  one-more false false = refl

  one-less : (other : ℕ) → is_seen sets x ≡ false → cond (x == other) false (is_seen more other) ≡ is_seen sets other
  one-less other free = elim (cases_Bool (x == other)) [
    | inl t ↦ ap (λ b. cond b false (is_seen more other)) t ∙ sym (ap (is_seen sets) (sym (eqb-true x other t)) ∙ free)
    | inr f ↦ ap (λ b. cond b false (is_seen more other)) f ∙ seen-more other ∙ ap (λ b. is_seen sets other || b) f ∙ or-none (is_seen sets other)
  ]
    where
      or-none : (b : Bool) → (b || false) ≡ b
      or-none true = refl
      or-none false = refl

  pub marked-more : (old new : Numbered Bool) → new.none ≡ old.none → ((other : ℕ) → under new other ≡ cond (x == other) true (under old other)) →
      is_seen sets x ≡ false → AreMarked sets old → AreMarked more new
  marked-more old new same put free h = record {
    none = same ∙ h.none;
    marked = λ other. put other ∙ ap (cond (x == other) true) (h.marked other) ∙ one-more (x == other) (is_seen sets other) ∙ sym (seen-more other);
    new = are-new h.new free;
  }

  pub marked-less : (old new : Numbered Bool) → new.none ≡ old.none → ((other : ℕ) → under new other ≡ cond (x == other) old.none (under old other)) →
      AreMarked more old → AreMarked sets new
  marked-less old new same put h = record {
    none = same ∙ h.none;
    marked = λ other.
        put other ∙ ap₂ (cond (x == other)) h.none (h.marked other) ∙ one-less other (last-new h.new);
    new = were-new h.new;
  }

pub marked-same : (sets : List ℕ) (old new : Numbered Bool) → new.none ≡ old.none → ((other : ℕ) → under new other ≡ under old other) →
    AreMarked sets old → AreMarked sets new
marked-same sets old new same still h = record { none = same ∙ h.none; marked = λ other. still other ∙ h.marked other; new = h.new }

pub marked-none : (marks : Numbered Bool) → marks.none ≡ false → ((other : ℕ) → under marks other ≡ false) → AreMarked [] marks
marked-none marks none free = record { none = none; marked = free; new = λ i l. absurd (omega (arith, l)) }
