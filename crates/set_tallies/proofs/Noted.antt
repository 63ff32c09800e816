-- Entries, as rankings are noted in those of each candidate, and as they are joined.
use Rattle.std.proofs.Common.{◌≡◌, ◌==◌, ℕ, ◌+◌, ◌<◌, ◌≤◌, Bool, true, cond, ◌&&◌, inl, inr, List, [], ◌∷◌, ◌++◌, All, length, map, set, take, replicate, get_or, count_by, refl, sym, ap, ap₂, subst, arith, eqb-true, length-append, ◌∙◌}
use Rattle.std.proofs.Math.Seq.{get_or-append_seam}
use Rattle.std.proofs.lemmas.Bool.{cases_Bool, cases_lt, eqb-false}
use Rattle.std.proofs.lemmas.List.{get_or_push, get_or_append_left, get_or-set_same, get_or-set_other, get_or-replicate, length-map, length-replicate, map-set}
use Rattle.std.proofs.lemmas.List.Sums.{sum_by_more, sum_by-le-sum_by, count_by-le-length}
use Rattle.set_tallies.specs.Bags.{misses, missing, total}
use Rattle.set_tallies.specs.Befores.{has_missed, HasNoted, HasOneMore, SayTheSame, AllSayTheSame, Counted, AllCounted}
use Rattle.set_tallies.specs.declared.entry.Entry.{Entry}
use Rattle.set_tallies.proofs.Apart.{misses-empty}
use Rattle.set_tallies.proofs.Filled.{at-place, own-entries}

-- a list in which one element is replaced with one that has one more ballot
pub put-counted : {X : Type 0} (f : X → List Entry) (xs : List X) (d : ℕ) (old new : X) (seen s c : ℕ) → d < length xs → old ≡ get_or xs d old →
    HasOneMore seen (f old) (f new) → missing s (get_or (map f (set xs d new)) c []) ≡ missing s (get_or (map f xs) c []) + cond (c == d && misses s seen) 1 0
put-counted f xs d old new seen s c l at more = elim (cases_Bool (c == d)) [
  | inl t ↦
      let here = eqb-true c d t in
      let inside : d < length (map f xs) = omega (arith, l, length-map xs f) in
      ap (λ ys. missing s (get_or ys c [])) (map-set f xs d new)
      ∙ ap (λ k. missing s (get_or (set (map f xs) d (f new)) k [])) here
      ∙ ap (missing s) (get_or-set_same (map f xs) d (f new) [] inside)
      ∙ more s
      ∙ ap₂ (λ es b. missing s es + cond (b && misses s seen) 1 0) (sym (own-entries f xs d old l at) ∙ ap (λ k. get_or (map f xs) k []) (sym here)) (sym t)
  | inr e ↦
      ap (λ ys. missing s (get_or ys c [])) (map-set f xs d new)
      ∙ ap (missing s) (get_or-set_other (map f xs) d c (f new) [] (eqb-false c d e))
      ∙ plus-none (missing s (get_or (map f xs) c []))
      ∙ ap (λ b. missing s (get_or (map f xs) c []) + cond (b && misses s seen) 1 0) (sym e)
]
  where
    plus-none : (m : ℕ) → m ≡ m + 0
    plus-none m = omega arith

-- ---- ranking by ranking
pub none-counted : (n : ℕ) (records : List (List ℕ)) → AllCounted (replicate n []) (take 0 records)
none-counted n records c l = subst (λ es. Counted es (take 0 records) c)
    (sym (get_or-replicate n c none [] (subst (λ m. c < m) (length-replicate n none) l)))
    (record { missing = λ set. refl; few = omega arith })
  where
    none : List Entry
    none = []

-- each ballot noted has nobody of the empty set before the candidate
total-le : (entries : List Entry) → total entries ≤ missing 0 entries
total-le entries = sum_by-le-sum_by (λ e. e.count) (λ e. cond (misses 0 e.before) e.count 0) entries (λ e. whole e.count (misses-empty e.before))
  where
    whole : (k : ℕ) {b : Bool} → b ≡ true → k ≤ cond b k 0
    whole k e = omega (arith, ap (λ b. cond b k 0) e)

pub one-counted : (n : ℕ) (lists others : List (List Entry)) (records : List (List ℕ)) (i : ℕ) (ranking : List ℕ) → length lists ≡ n → i < length records →
    ranking ≡ get_or records i ranking → HasNoted n ranking lists others → AllCounted lists (take i records) → AllCounted others (take (i + 1) records)
one-counted n lists others records i ranking long l at noted h c m = record {
  missing = says;
  few = omega (arith, total-le (get_or others c []), says 0, count_by-le-length (has_missed 0 c) (take (i + 1) records));
}
  where
    own : c < length lists
    own = omega (arith, m, noted.each)

    inside : c < n
    inside = omega (arith, own, long)

    says : (set : ℕ) → missing set (get_or others c []) ≡ count_by (has_missed set c) (take (i + 1) records)
    says set =
        noted.missing set c inside
        ∙ ap₂ (λ x y. x + cond (has_missed set c y) 1 0) ((h c own).missing set) at
        ∙ sym (sum_by_more (λ r. cond (has_missed set c r) 1 0) records i ranking l)

-- ---- joined
pub next-few : {X : Type 0} (P : List Entry → Type 0) (f : X → List Entry) (xs before rest : List X) (x : X) → xs ≡ before ++ x ∷ rest → All P (map f xs) → P (f x)
next-few P f xs before rest x whole h =
    at-place P f xs (length before) x (omega (arith, ap length whole, length-append before (x ∷ rest))) h
    (sym (ap (λ ys. get_or ys (length before) x) whole ∙ get_or-append_seam before x rest x))

pub joined-push : (lists others : List (List Entry)) (entries joined : List Entry) → AllSayTheSame lists others → SayTheSame entries joined →
    AllSayTheSame (lists ++ entries ∷ []) (others ++ joined ∷ [])
joined-push lists others entries joined h last = record {
  each = omega (arith, h.each, length-append lists (entries ∷ []), length-append others (joined ∷ []));
  same = λ c l. elim (cases_lt c (length lists)) [
    | inl m ↦ subst (λ es. SayTheSame es (get_or (others ++ joined ∷ []) c [])) (sym (get_or_append_left lists (entries ∷ []) [] c m))
        (subst (SayTheSame (get_or lists c [])) (sym (get_or_append_left others (joined ∷ []) [] c (omega (arith, m, h.each)))) (h.same c m))
    | inr g ↦
        let at : length lists ≡ c = omega (arith, length-append lists (entries ∷ []), g, l) in
        subst (λ es. SayTheSame es (get_or (others ++ joined ∷ []) c [])) (sym (get_or_push lists entries [] c at))
        (subst (SayTheSame entries) (sym (get_or_push others joined [] c (h.each ∙ at))) last)
  ];
}
