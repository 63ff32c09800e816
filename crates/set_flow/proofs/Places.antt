-- Sets at their places in a list that grows.
use Rattle.std.proofs.Common.{◌≡◌, ◌≢◌, ℕ, suc, ◌<◌, true, false, ◌||◌, ◌==◌, inl, inr, List, [], ◌∷◌, ◌++◌, length, get_or, refl, sym, ap, arith, eq-eqb, eqb-true, length-append, ◌∙◌}
use Rattle.std.proofs.Math.ListN.{get_or-append}
use Rattle.std.proofs.lemmas.Bool.{or_cases, or_left, both_ways}
use Rattle.std.proofs.lemmas.List.{append-nil, append_assoc}
use Rattle.std.proofs.lemmas.List.Folds.{list_any_at, list_any-append}
use Rattle.set_walk.specs.Dives.{is_seen}
use Rattle.set_flow.specs.Seen.{IsLonger}

pub seen-at : (sets : List ℕ) (k s : ℕ) → k < length sets → get_or sets k 0 ≡ s → is_seen sets s ≡ true
seen-at sets k s l e = list_any_at (λ other. s == other) sets k 0 l (eq-eqb s (get_or sets k 0) (sym e))

pub place-of : (sets : List ℕ) (s : ℕ) → is_seen sets s ≡ true → (k : ℕ) × (k < length sets) × (get_or sets k 0 ≡ s)
place-of [] s h = absurd (both_ways false refl h)
place-of (x ∷ sets) s h =
    elim (or_cases (s == x) (is_seen sets s) h) [
      | inl t ↦ (0, omega arith, sym (eqb-true s x t))
      | inr r ↦ let (k, l, e) = place-of sets s r in (suc k, omega (arith, l), e)
    ]

pub unseen : (sets : List ℕ) (k s : ℕ) → k < length sets → is_seen sets s ≡ false → get_or sets k 0 ≢ s
unseen sets k s l f e = both_ways (is_seen sets s) f (seen-at sets k s l e)

pub seen-append : (sets more : List ℕ) (s : ℕ) → is_seen sets s ≡ true → is_seen (sets ++ more) s ≡ true
seen-append sets more s h = list_any-append (λ other. s == other) sets more ∙ or_left (is_seen sets s) (is_seen more s) h

pub seen-push : (sets : List ℕ) (x s : ℕ) → is_seen (sets ++ x ∷ []) s ≡ (is_seen sets s || ((s == x) || false))
seen-push sets x s = list_any-append (λ other. s == other) sets (x ∷ [])

pub longer-same : (sets : List ℕ) → IsLonger sets sets
longer-same sets = ([], sym (append-nil sets))

pub longer-more : (a b c : List ℕ) → IsLonger a b → IsLonger b c → IsLonger a c
longer-more a b c (x, e) (y, f) = (x ++ y, f ∙ ap (λ l. l ++ y) e ∙ append_assoc a x y)

pub longer-seen : (old new : List ℕ) (s : ℕ) → IsLonger old new → is_seen old s ≡ true → is_seen new s ≡ true
longer-seen old new s (x, e) h = ap (λ l. is_seen l s) e ∙ seen-append old x s h

pub longer-at : (old new : List ℕ) (k : ℕ) → IsLonger old new → k < length old → get_or new k 0 ≡ get_or old k 0
longer-at old new k (x, e) l = ap (λ l. get_or l k 0) e ∙ get_or-append old x 0 k l

pub longer-length : (old new : List ℕ) (k : ℕ) → IsLonger old new → k < length old → k < length new
longer-length old new k (x, e) l = let f = ap length e in let g = length-append old x in omega (arith, f, g, l)
