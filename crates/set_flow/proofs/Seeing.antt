-- The sets that a unit can reach, as they are seen one by one.
use Rattle.std.proofs.Common.{◌≡◌, ◌≢◌, ℕ, ◌+◌, ◌<◌, ◌^◌, true, false, inl, inr, List, [], ◌∷◌, ◌++◌, length, get_or, refl, sym, ap, subst, arith, length-append, ◌∙◌}
use Rattle.std.proofs.Math.ListN.{get_or-append}
use Rattle.std.proofs.lemmas.Bool.{cases_lt}
use Rattle.std.proofs.lemmas.Nat.{pow_pos}
use Rattle.std.proofs.lemmas.List.{get_or_push}
use Rattle.set_walk.specs.Dives.{is_seen}
use Rattle.set_flow.specs.declared.room.Room.{Room}
use Rattle.set_flow.specs.Seen.{turned, can_go, AreLinked, AreLinks}
use Rattle.set_flow.proofs.Places.{unseen}
use Rattle.set_flow.proofs.Turning.{turned-below}

pub nobody-linked : (n : ℕ) → AreLinked n (0 ∷ []) (0 ∷ []) (0 ∷ [])
nobody-linked n = record {
  from_each = refl;
  by_each = refl;
  some = omega arith;
  nobody = refl;
  below = λ k l. let e : k ≡ 0 = omega (arith, l) in subst (λ k. get_or (0 ∷ []) k 0 < 2 ^ n) (sym e) (pow_pos n);
  apart = λ i k l m. absurd (omega (arith, l, m));
  earlier = λ k l m. absurd (omega (arith, l, m));
  candidate = λ k l m. absurd (omega (arith, l, m));
}

pub nobody-links : (rooms : ℕ → ℕ → Room) (flow : ℕ → ℕ → ℕ) → AreLinks rooms flow (0 ∷ []) (0 ∷ []) (0 ∷ [])
nobody-links rooms flow k l m = absurd (omega (arith, l, m))

long : (xs : List ℕ) (y : ℕ) → length (xs ++ y ∷ []) ≡ length xs + 1
long xs y = length-append xs (y ∷ [])

old-at : (xs : List ℕ) (y k : ℕ) → k < length xs → get_or (xs ++ y ∷ []) k 0 ≡ get_or xs k 0
old-at xs y k l = get_or-append xs (y ∷ []) 0 k l

new-at : (xs : List ℕ) (y k : ℕ) → length xs ≡ k → get_or (xs ++ y ∷ []) k 0 ≡ y
new-at xs y k e = get_or_push xs y 0 k e

module _ (n : ℕ) (sets from by : List ℕ) (seen : AreLinked n sets from by) (place c x : ℕ) (there : place < length sets) (below : c < n)
    (to : x ≡ turned (get_or sets place 0) c) (new : is_seen sets x ≡ false) where
  small : (k : ℕ) → k < length (sets ++ x ∷ []) → get_or (sets ++ x ∷ []) k 0 < 2 ^ n
  small k l =
      let e = long sets x in
      elim (cases_lt k (length sets)) [
        | inl p ↦ let f = old-at sets x k p in let g = seen.below k p in omega (arith, f, g)
        | inr q ↦
            let f = new-at sets x k (omega (arith, e, l, q)) in
            let g = turned-below n (get_or sets place 0) c (seen.below place there) below in
            omega (arith, f, g, to)
      ]

  differ : (i k : ℕ) → i < k → k < length (sets ++ x ∷ []) → get_or (sets ++ x ∷ []) i 0 ≢ get_or (sets ++ x ∷ []) k 0
  differ i k l m same =
      let e = long sets x in
      elim (cases_lt k (length sets)) [
        | inl p ↦ seen.apart i k l p (sym (old-at sets x i (omega (arith, l, p))) ∙ same ∙ old-at sets x k p)
        | inr q ↦
            unseen sets i x (omega (arith, e, l, m)) new
            (sym (old-at sets x i (omega (arith, e, l, m))) ∙ same ∙ new-at sets x k (omega (arith, e, m, q)))
      ]

  before : (k : ℕ) → 0 < k → k < length (sets ++ x ∷ []) → get_or (from ++ place ∷ []) k 0 < k
  before k l m =
      let e = long sets x in
      let f = seen.from_each in
      elim (cases_lt k (length sets)) [
        | inl p ↦ let i = old-at from place k (omega (arith, f, p)) in let h = seen.earlier k l p in omega (arith, i, h)
        | inr q ↦ let i = new-at from place k (omega (arith, e, f, m, q)) in omega (arith, i, q, there)
      ]

  among : (k : ℕ) → 0 < k → k < length (sets ++ x ∷ []) → get_or (by ++ c ∷ []) k 0 < n
  among k l m =
      let e = long sets x in
      let f = seen.by_each in
      elim (cases_lt k (length sets)) [
        | inl p ↦ let i = old-at by c k (omega (arith, f, p)) in let h = seen.candidate k l p in omega (arith, i, h)
        | inr q ↦ let i = new-at by c k (omega (arith, e, f, m, q)) in omega (arith, i, below)
      ]

  pub linked-more : AreLinked n (sets ++ x ∷ []) (from ++ place ∷ []) (by ++ c ∷ [])
  linked-more =
      let f = seen.from_each in
      let b = seen.by_each in
      let some = seen.some in
      let e = long sets x in record {
        from_each = (let e' = long from place in omega (arith, e, e', f));
        by_each = (let e' = long by c in omega (arith, e, e', b));
        some = omega (arith, e);
        nobody = old-at sets x 0 some ∙ seen.nobody;
        below = small;
        apart = differ;
        earlier = before;
        candidate = among;
      }

  module _ (rooms : ℕ → ℕ → Room) (flow : ℕ → ℕ → ℕ) (links : AreLinks rooms flow sets from by) (goes : can_go rooms flow (get_or sets place 0) c ≡ true) where
    pub links-more : AreLinks rooms flow (sets ++ x ∷ []) (from ++ place ∷ []) (by ++ c ∷ [])
    links-more k l m =
        let e = long sets x in
        let f = seen.from_each in
        let b = seen.by_each in
        elim (cases_lt k (length sets)) [
          | inl p ↦
              let h = links k l p in
              let before = seen.earlier k l p in
              let i : get_or (from ++ place ∷ []) k 0 ≡ get_or from k 0 = old-at from place k (omega (arith, f, p)) in
              let j : get_or (by ++ c ∷ []) k 0 ≡ get_or by k 0 = old-at by c k (omega (arith, b, p)) in
              let a : get_or (sets ++ x ∷ []) (get_or (from ++ place ∷ []) k 0) 0 ≡ get_or sets (get_or from k 0) 0 =
              ap (λ i. get_or (sets ++ x ∷ []) i 0) i ∙ old-at sets x (get_or from k 0) (omega (arith, before, p)) in
              record {
                goes = ap (λ s. can_go rooms flow s (get_or (by ++ c ∷ []) k 0)) a ∙ ap (can_go rooms flow (get_or sets (get_or from k 0) 0)) j ∙ h.goes;
                to = old-at sets x k p ∙ h.to
                    ∙ sym (ap (λ s. turned s (get_or (by ++ c ∷ []) k 0)) a ∙ ap (turned (get_or sets (get_or from k 0) 0)) j);
              }
          | inr q ↦
              let s : length sets ≡ k = omega (arith, e, m, q) in
              let i : get_or (from ++ place ∷ []) k 0 ≡ place = new-at from place k (omega (arith, f, s)) in
              let j : get_or (by ++ c ∷ []) k 0 ≡ c = new-at by c k (omega (arith, b, s)) in
              let a : get_or (sets ++ x ∷ []) (get_or (from ++ place ∷ []) k 0) 0 ≡ get_or sets place 0 =
              ap (λ i. get_or (sets ++ x ∷ []) i 0) i ∙ old-at sets x place there in
              record {
                goes = ap (λ s. can_go rooms flow s (get_or (by ++ c ∷ []) k 0)) a ∙ ap (can_go rooms flow (get_or sets place 0)) j ∙ goes;
                to = new-at sets x k s ∙ to
                    ∙ sym (ap (λ s. turned s (get_or (by ++ c ∷ []) k 0)) a ∙ ap (turned (get_or sets place 0)) j);
              }
        ]
