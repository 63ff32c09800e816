-- Claims put into a map, and listed in the fixed order.
use Rattle.std.proofs.Common.{◌≡◌, ℕ, ◌⊎◌, inl, inr, List, [], ◌∷◌, map, refl, sym, ap, subst, ◌∙◌}
use Rattle.std.proofs.lemmas.Bool.{cases_Bool}
use Rattle.std.specs.declared.cmp.Ordering.{Ordering}
use Rattle.std.specs.declared.cmp.Ordering.TheVariants.{Less, Equal, Greater}
use Rattle.std.specs.Ordering.{match_ordering}
use Rattle.std.specs.BTreeMap.{insert_entry}
use Rattle.irv_base.proofs.Members.{Member, contains-from_member, from_map, here, member-from_contains, member-map, member_at, member_cases, member_nil, there}
use Rattle.assertions.specs.declared.assertion.Assertion.{Assertion}
use Rattle.assertions.specs.declared.assertion.Claim.{Claim}
use Rattle.assertions.specs.FixedOrder.{is_before}
use Rattle.assertions.proofs.FixedOrders.{Before, before-either}
use Rattle.assertions.proofs.Ords.{cmp-Less, cmp-Equal, fixed_order_is_total}
use Rattle.assertions.proofs.Sorted.{Sorted, none, more, sorted-get, sorted-map}
use Rattle.certifier.specs.Gathered.{claim_at, with_all}
use Rattle.certifier.proofs.Agreement.{order}
use Rattle.nen_cut.specs.Floors.{assertions_in}
use Rattle.fewest_search.specs.InOrder.{entry_of, AreInOrder}

abbrev Entry : Type 0
Entry = Assertion × ℕ

abbrev key_in : Entry → Assertion
key_in e = e.0

abbrev Rises : Entry → Entry → Type 0
Rises e f = Before e.0 f.0

order-after : (k x : Assertion) → order k x ≡ Greater → Before x k
order-after k x e =
    elim (cases_Bool (is_before k x)) [
      | inl t ↦ let l : order k x ≡ Less = (cmp-Less k x).1 t in cc
      | inr f ↦ elim (before-either k x f) [ inl same ↦ let q : order k x ≡ Equal = (cmp-Equal k x).1 same in cc | inr b ↦ b ]
    ]

-- ---- one entry added
module _ (k : Assertion) (v : ℕ) where
  abbrev put : List Entry → List Entry
  put es = insert_entry order es k v

  abbrev chosen : Ordering → Entry → List Entry → List Entry
  chosen o x xs = match_ordering o ((k, v) ∷ x ∷ xs) ((x.0, v) ∷ xs) (x ∷ put xs)

  from-put : (es : List Entry) (e : Entry) → Member e (put es) → ((k, v) ≡ e) ⊎ Member e es
  from-put [] e m = elim (member_cases m) [ inl s ↦ inl s | inr r ↦ absurd (member_nil r) ]
  from-put (x ∷ xs) e m = go (order k x.0) refl m (from-put xs e) where
    go : (o : Ordering) → order k x.0 ≡ o → Member e (chosen o x xs) → (Member e (put xs) → ((k, v) ≡ e) ⊎ Member e xs) → ((k, v) ≡ e) ⊎ Member e (x ∷ xs)
    go Less h n ih = elim (member_cases n) [ inl s ↦ inl s | inr r ↦ inr r ]
    go Equal h n ih =
        let same : k ≡ x.0 = (cmp-Equal k x.0).0 h in
        elim (member_cases n) [ inl s ↦ inl (ap (λ (a : Assertion). (a, v)) same ∙ s) | inr r ↦ inr (there r) ]
    go Greater h n ih =
        elim (member_cases n) [
          | inl s ↦ inr (member_at s)
          | inr r ↦ elim (ih r) [ inl s ↦ inl s | inr t ↦ inr (there t) ]
        ]

  put-here : (es : List Entry) → Member k (map key_in (put es))
  put-here [] = here
  put-here (x ∷ xs) = go (order k x.0) refl (put-here xs) where
    go : (o : Ordering) → order k x.0 ≡ o → Member k (map key_in (put xs)) → Member k (map key_in (chosen o x xs))
    go Less h ih = here
    go Equal h ih = member_at (sym ((cmp-Equal k x.0).0 h))
    go Greater h ih = there ih

  put-keeps : (es : List Entry) (a : Assertion) → Member a (map key_in es) → Member a (map key_in (put es))
  put-keeps [] a m = absurd (member_nil m)
  put-keeps (x ∷ xs) a m = go (order k x.0) (put-keeps xs a) where
    go : (o : Ordering) → (Member a (map key_in xs) → Member a (map key_in (put xs))) → Member a (map key_in (chosen o x xs))
    go Less ih = there m
    go Equal ih = m
    go Greater ih = elim (member_cases m) [ inl e ↦ member_at e | inr r ↦ there (ih r) ]

  put-sorted : (es : List Entry) → Sorted Rises es → Sorted Rises (put es)
  put-sorted [] none = more (λ y m. absurd (member_nil m)) none
  put-sorted (x ∷ xs) (more first r) = go (order k x.0) refl (put-sorted xs r) where
    go : (o : Ordering) → order k x.0 ≡ o → Sorted Rises (put xs) → Sorted Rises (chosen o x xs)
    go Less h ih =
        let l : Before k x.0 = (cmp-Less k x.0).0 h in
        more {x = (k, v)} {xs = x ∷ xs} (λ y m.
        elim (member_cases m) [
          | inl s ↦ subst (λ (e : Entry). Before k e.0) s l
          | inr n ↦ fixed_order_is_total.goes_on k x.0 y.0 l (first y n)
        ])
        (more {x = x} {xs = xs} first r)
    go Equal h ih = more {x = (x.0, v)} {xs = xs} first r
    go Greater h ih =
        let l : Before x.0 k = order-after k x.0 h in
        more {x = x} {xs = put xs} (λ y m.
        elim (from-put xs y m) [ inl s ↦ subst (λ (e : Entry). Before x.0 e.0) s l | inr n ↦ first y n ]) ih

-- ---- all of them
abbrev all : List Entry → List Entry → List Entry
all es ms = with_all order es ms

from-all : (es ms : List Entry) (e : Entry) → Member e (all es ms) → Member e es ⊎ Member e ms
from-all es [] e m = inl m
from-all es (x ∷ ms) e m =
    elim (from-all (insert_entry order es x.0 x.1) ms e m) [
      | inl k ↦ elim (from-put x.0 x.1 es e k) [ inl s ↦ inr (member_at s) | inr r ↦ inl r ]
      | inr r ↦ inr (there r)
    ]

all-keeps : (es ms : List Entry) (a : Assertion) → Member a (map key_in es) → Member a (map key_in (all es ms))
all-keeps es [] a m = m
all-keeps es (x ∷ ms) a m = all-keeps (insert_entry order es x.0 x.1) ms a (put-keeps x.0 x.1 es a m)

all-has : (es ms : List Entry) (a : Assertion) → Member a (map key_in ms) → Member a (map key_in (all es ms))
all-has es [] a m = absurd (member_nil m)
all-has es (x ∷ ms) a m =
    let next = insert_entry order es x.0 x.1 in
    elim (member_cases m) [
      | inl s ↦ all-keeps next ms a (subst (λ a. Member a (map key_in next)) s (put-here x.0 x.1 es))
      | inr r ↦ all-has next ms a r
    ]

all-sorted : (es ms : List Entry) → Sorted Rises es → Sorted Rises (all es ms)
all-sorted es [] r = r
all-sorted es (x ∷ ms) r = all-sorted (insert_entry order es x.0 x.1) ms (put-sorted x.0 x.1 es r)

-- ---- listed
abbrev assertion-of : Claim → Assertion
assertion-of claim = claim.assertion

pub in-order : (claims list : List Claim) → list ≡ map claim_at (with_all order [] (map entry_of claims)) → AreInOrder claims list
in-order claims list is =
    let es = all [] (map entry_of claims) in
    let sorted : Sorted Rises es = all-sorted [] (map entry_of claims) none in
    let rising = sorted-get Before (assertions_in (map claim_at es))
    (sorted-map (λ (c d : Claim). Before c.assertion d.assertion) Before assertion-of (λ c d h. h)
    (sorted-map Rises (λ (c d : Claim). Before c.assertion d.assertion) claim_at (λ e f h. h) sorted)) in
    let at : AreInOrder claims (map claim_at es) = record {
      rising = rising;
      from = λ claim k.
          let (e, m, s) = from_map claim_at claim es (member-from_contains claim (map claim_at es) k) in
          elim (from-all [] (map entry_of claims) e m) [
            | inl r ↦ absurd (member_nil r)
            | inr r ↦
                let (c, n, t) = from_map entry_of e claims r in
                contains-from_member (subst (λ c. Member c claims) (ap claim_at t ∙ s) n)
          ];
      each = λ a k.
          let (c, n, s) = from_map assertion-of a claims (member-from_contains a (assertions_in claims) k) in
          let put : Member a (map key_in (map entry_of claims)) =
          subst (λ a. Member a (map key_in (map entry_of claims))) s (member-map key_in (member-map entry_of n)) in
          let (e, m, t) = from_map key_in a es (all-has [] (map entry_of claims) a put) in
          contains-from_member (subst (λ a. Member a (assertions_in (map claim_at es))) t (member-map assertion-of (member-map claim_at m)));
    } in
    subst (AreInOrder claims) (sym is) at
