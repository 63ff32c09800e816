-- The claims of some candidates, of one more, and of two parts; the claims of all are the certificate's.
use Rattle.std.proofs.Common.{◌≡◌, ℕ, ◌⊎◌, ◌==◌, ◌||◌, Bool, true, false, not, inl, inr, List, [], ◌∷◌, map, Some, Contains, refl, sym, ap, subst, ◌∙◌}
use Rattle.irv_base.specs.Candidates.{candidates, all_but}
use Rattle.irv_base.proofs.Members.{Member, member_nil, member-filter, from_filter, member-flat_map, from_flat_map, contains-from_member, member-from_contains, from_candidates}
use Rattle.std.proofs.lemmas.Bool.{eqb-false, not-true}
use Rattle.assertions.specs.declared.assertion.Assertion.{Assertion}
use Rattle.assertions.specs.Hardness.{low, refuter, best_margin}
use Rattle.assertions.specs.Scores.{score_of}
use Rattle.assertions.specs.Certificate.{is_end, certificate_ends, certificate_assertions, certificate_claims, claim_of}
use Rattle.assertions.proofs.Sorted.{none, sorted-get, sorted-from_pairs, sorted-filter, sorted-same}
use Rattle.assertions.proofs.FixedOrders.{Before, before-not_both, sorted-assertions}
use Rattle.assertions.proofs.Certificates.{from_certificate, certificate-member}
use Rattle.suffix_walk.specs.Kept.{all_ending}
use Rattle.certifier.specs.Gathered.{gathered, with_all, claim_at}
use Rattle.certifier.specs.Walks.{ends_in}
use Rattle.certifier.specs.declared.gather.Task.{Task}
use Rattle.certifier.specs.Parts.{IsOwn, IsRefuter, AreClaims, in_either, is_any}
use Rattle.certifier.proofs.Agreement.{order, marked, keys_of, keys-sorted, from_keys, keys-keep, keys-member, gathered-marked, all-marked, map-marked}
use Rattle.certifier.proofs.Budgets.{other-member}

-- ---- of either of two
pub left_or : (a b : Bool) → a ≡ true → (a || b) ≡ true
left_or true b h = refl
left_or false b h = cc

pub right_or : (a b : Bool) → b ≡ true → (a || b) ≡ true
right_or true b h = refl
right_or false b h = h

pub from_or : (a b : Bool) → (a || b) ≡ true → (a ≡ true) ⊎ (b ≡ true)
from_or true b h = inl refl
from_or false b h = inr h

module _ (n : ℕ) (records : List (List ℕ)) (task : Task) where
  abbrev ends_of : ℕ → List (List ℕ)
  ends_of c = ends_in n records task.best (all_ending n (c ∷ []))

  pub claims-none : (own : ℕ → Bool) (entries : List (Assertion × ℕ)) → ((c : ℕ) → IsOwn n records task own c → ⊥) → entries ≡ [] →
      AreClaims n records task own entries
  claims-none own entries nobody empty = record {
    keys = [];
    marked = empty;
    rising = sorted-get Before [] none;
    listed = λ a. (λ m. absurd (member_nil (member-from_contains a [] m)), λ r. absurd (nobody r.0 r.1));
  }

  pub claims-same : (own its : ℕ → Bool) (entries : List (Assertion × ℕ)) → ((c : ℕ) → IsOwn n records task own c → IsOwn n records task its c) →
      ((c : ℕ) → IsOwn n records task its c → IsOwn n records task own c) →
      AreClaims n records task own entries → AreClaims n records task its entries
  claims-same own its entries there back h = record {
    keys = h.keys;
    marked = h.marked;
    rising = h.rising;
    listed = λ a. (
      (λ m. let (c, o, s, k, e) = (h.listed a).0 m in (c, there c o, s, k, e)),
      (λ r. let (c, o, s, k, e) = r in (h.listed a).1 (c, back c o, s, k, e)),
    );
  }

  -- one more candidate
  pub claims-more : (own its : ℕ → Bool) (last : ℕ) (entries next : List (Assertion × ℕ)) → IsOwn n records task its last →
      ((c : ℕ) → IsOwn n records task own c → IsOwn n records task its c) →
      ((c : ℕ) → IsOwn n records task its c → IsOwn n records task own c ⊎ (c ≡ last)) → AreClaims n records task own entries →
      next ≡ gathered order (score_of n records) entries (ends_of last) →
      AreClaims n records task its next
  claims-more own its last entries next mine there back h e =
      let sorted = keys-sorted (refuter n records) h.keys (ends_of last) (sorted-from_pairs Before h.keys h.rising) in
      record {
        keys = keys_of (refuter n records) h.keys (ends_of last);
        marked = e ∙ ap (λ es. gathered order (score_of n records) es (ends_of last)) h.marked ∙ gathered-marked n records h.keys (ends_of last);
        rising = sorted-get Before (keys_of (refuter n records) h.keys (ends_of last)) sorted;
        listed = λ a. (to a, from a);
      }
    where
      to : (a : Assertion) → Contains (keys_of (refuter n records) h.keys (ends_of last)) a → IsRefuter n records task its a
      to a m =
          elim (from_keys (refuter n records) h.keys (ends_of last) a (member-from_contains a (keys_of (refuter n records) h.keys (ends_of last)) m)) [
            | inl k ↦ let (c, o, s, q, r) = (h.listed a).0 (contains-from_member k) in (c, there c o, s, q, r)
            | inr k ↦ (last, mine, k.0, contains-from_member k.1, k.2)
          ]

      from : (a : Assertion) → IsRefuter n records task its a → Contains (keys_of (refuter n records) h.keys (ends_of last)) a
      from a (c, o, s, q, r) =
          contains-from_member
          (elim (back c o) [
            | inl mine ↦ keys-keep (refuter n records) h.keys (ends_of last) a (member-from_contains a h.keys ((h.listed a).1 (c, mine, s, q, r)))
            | inr same ↦ keys-member (refuter n records) h.keys (ends_of last) s a
                (subst (λ d. Member s (ends_of d)) same (member-from_contains s (ends_of c) q)) r
          ])

  -- two parts
  pub claims-join : (own its : ℕ → Bool) (entries more next : List (Assertion × ℕ)) → AreClaims n records task own entries →
      AreClaims n records task its more → next ≡ with_all order entries more →
      AreClaims n records task (in_either own its) next
  claims-join own its entries more next h k e =
      let sorted = keys-sorted Some h.keys k.keys (sorted-from_pairs Before h.keys h.rising) in
      record {
        keys = keys_of Some h.keys k.keys;
        marked = e ∙ ap (λ es. with_all order es more) h.marked ∙ ap (with_all order (map (marked n records) h.keys)) k.marked
            ∙ all-marked n records h.keys k.keys;
        rising = sorted-get Before (keys_of Some h.keys k.keys) sorted;
        listed = λ a. (to a, from a);
      }
    where
      left : (c : ℕ) → IsOwn n records task own c → IsOwn n records task (in_either own its) c
      left c o = record { below = o.below; alternative = o.alternative; meant = left_or (own c) (its c) o.meant }

      right : (c : ℕ) → IsOwn n records task its c → IsOwn n records task (in_either own its) c
      right c o = record { below = o.below; alternative = o.alternative; meant = right_or (own c) (its c) o.meant }

      to : (a : Assertion) → Contains (keys_of Some h.keys k.keys) a → IsRefuter n records task (in_either own its) a
      to a m =
          elim (from_keys Some h.keys k.keys a (member-from_contains a (keys_of Some h.keys k.keys) m)) [
            | inl p ↦ let (c, o, s, q, r) = (h.listed a).0 (contains-from_member p) in (c, left c o, s, q, r)
            | inr p ↦
                let (b, q, same) = p in
                let is : b ≡ a = some b same in
                let (c, o, s, q', r) = (k.listed a).0 (contains-from_member (subst (λ x. Member x k.keys) is q)) in
                (c, right c o, s, q', r)
          ]
        where
          some : (b : Assertion) → Some b ≡ Some a → b ≡ a
          some b e = cc

      from : (a : Assertion) → IsRefuter n records task (in_either own its) a → Contains (keys_of Some h.keys k.keys) a
      from a (c, o, s, q, r) =
          contains-from_member
          (elim (from_or (own c) (its c) o.meant) [
            | inl mine ↦ keys-keep Some h.keys k.keys a (member-from_contains a h.keys
                ((h.listed a).1 (c, record { below = o.below; alternative = o.alternative; meant = mine }, s, q, r)))
            | inr its ↦ keys-member Some h.keys k.keys a a (member-from_contains a k.keys
                ((k.listed a).1 (c, record { below = o.below; alternative = o.alternative; meant = its }, s, q, r))) refl
          ])

  -- all of them
  pub claims_are : (entries : List (Assertion × ℕ)) → task.best ≡ best_margin n task.winner (low n records) → AreClaims n records task is_any entries →
      map claim_at entries ≡ certificate_claims n records task.winner
  claims_are entries is h = ap (map claim_at) h.marked ∙ map-marked n records h.keys ∙ ap (map (claim_of records)) keys_are where
    to : (a : Assertion) → Member a h.keys → Member a (certificate_assertions n records task.winner)
    to a m =
        let (c, o, s, q, r) = (h.listed a).0 (contains-from_member m) in
        let (k, e) = from_filter (is_end (low n records) task.best) (all_ending n (c ∷ [])) (member-from_contains s (ends_of c) q) in
        let inside : Member s (certificate_ends n task.winner (low n records) task.best) =
        member-filter (is_end (low n records) task.best) _ (member-flat_map (λ d. all_ending n (d ∷ []))
        (other-member n task.winner 0 (λ d. 0) c o.below o.alternative) k) e in
        certificate-member n task.winner records a s (subst (λ best. Member s (certificate_ends n task.winner (low n records) best)) is inside) r

    from : (a : Assertion) → Member a (certificate_assertions n records task.winner) → Member a h.keys
    from a m =
        let (s, q, r) = from_certificate n task.winner records a m in
        let (k, e) = from_filter (is_end (low n records) task.best)
        _ (subst (λ best. Member s (certificate_ends n task.winner (low n records) best)) (sym is) q) in
        let (c, o, k') = from_flat_map (λ d. all_ending n (d ∷ [])) s (all_but n task.winner) k in
        let (below, ne) = from_filter (λ d. not (d == task.winner)) (candidates n) o in
        let own : IsOwn n records task is_any c =
        record { below = from_candidates below; alternative = eqb-false c task.winner (not-true (c == task.winner) ne); meant = refl } in
        member-from_contains a h.keys ((h.listed a).1 (
          c,
          own,
          s,
          contains-from_member (member-filter (is_end (low n records) task.best) (all_ending n (c ∷ [])) k' e),
          r,
        ))

    keys_are : h.keys ≡ certificate_assertions n records task.winner
    keys_are = sorted-same Before before-not_both h.keys (certificate_assertions n records task.winner) (sorted-from_pairs Before h.keys h.rising)
        (sorted-filter Before _ (sorted-assertions n)) to from
