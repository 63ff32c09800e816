-- Other possible orders: there are some exactly if there is a tie.
use Rattle.std.proofs.Common.{◌≡◌, ◌≢◌, ◌↔◌, ℕ, zero, suc, ◌<◌, ◌≤◌, ◌&&◌, ◌==◌, not, Bool, true, false, nat_le, inl, inr, List, [], ◌∷◌, ◌++◌, length, take, drop, filter, refl, sym, ap, subst, arith, le-leb, leb-true, take-append-drop, ◌∙◌}
use Rattle.std.proofs.lemmas.Bool.{and_parts, and_from, both_ways, cases_Bool, cases_eq}
use Rattle.irv_base.specs.Candidates.{candidates, set_of}
use Rattle.irv_base.specs.Orders.{is_order}
use Rattle.irv_base.specs.Records.{tally}
use Rattle.irv_base.specs.Tabulation.{is_possible, may_lose, least_tally}
use Rattle.irv_base.proofs.Members.{Member, here, there, member_at, member_cases, member_nil, member-append_cases, member-append_left, member-append_right, from_filter, from_list_all, list_all-each, from_candidates, candidate-member}
use Rattle.irv_base.proofs.Distinct.{Distinct, none, more, distinct-head, distinct-tail, distinct-rest}
use Rattle.irv_base.proofs.Orders.{Order, order_facts}
use Rattle.irv_base.proofs.Sames.{Same, set_of-same, distinct-filter, least-le}
use Rattle.irv_base.specs.Tabulation.{loses, is_tabulated, is_tied, HasNoTie}
use Rattle.irv_base.proofs.Losing.{untied-fewer, tied-other}
use Rattle.irv_base.proofs.Tabulated.{orders-same, same-tail, tabulated-possible, some_tabulated, order-of_same, others, others-out, other-in}

pub may-votes : (records : List (List ℕ)) (c : ℕ) (rest : List ℕ) (d : ℕ) → may_lose records c rest ≡ true → Member d rest →
    tally records (set_of (c ∷ rest)) c ≤ tally records (set_of (c ∷ rest)) d
may-votes records c rest d h m =
    let votes : ℕ → ℕ = tally records (set_of (c ∷ rest)) in
    leb-true (votes c) (votes d) (from_list_all (λ d. nat_le (votes c) (votes d)) m h)

pub votes-may : (records : List (List ℕ)) (c : ℕ) (rest : List ℕ) →
    ((d : ℕ) → Member d rest → tally records (set_of (c ∷ rest)) c ≤ tally records (set_of (c ∷ rest)) d) → may_lose records c rest ≡ true
votes-may records c rest h =
    let votes : ℕ → ℕ = tally records (set_of (c ∷ rest)) in
    list_all-each (λ d. nat_le (votes c) (votes d)) rest (λ d m. le-leb (votes c) (votes d) (h d m))

-- ---- without a tie no other order is possible
behind : {c z : ℕ} {cs : List ℕ} → (c ≡ z → ⊥) → Member z (c ∷ cs) → Member z cs
behind ne m = elim (member_cases m) [ inl e ↦ absurd (ne e) | inr r ↦ r ]

pub possible-one : (records : List (List ℕ)) (order other : List ℕ) → Distinct order → Distinct other → Same order other →
    is_tabulated records order ≡ true → HasNoTie records order → is_possible records other ≡ true → order ≡ other
possible-one records [] [] d d' s h free p = refl
possible-one records [] (y ∷ ys) d d' s h free p = absurd (member_nil (s.right y here))
possible-one records (x ∷ xs) [] d d' s h free p = absurd (member_nil (s.left x here))
possible-one records (x ∷ xs) (y ∷ ys) d d' s h free p =
    let (loser, rest) = and_parts (loses records x xs) (is_tabulated records xs) h in
    let (may, rest') = and_parts (may_lose records y ys) (is_possible records ys) p in
    let same : x ≡ y = elim (cases_eq x y) [
      | inl e ↦ e
      | inr ne ↦
          let sets : set_of (y ∷ ys) ≡ set_of (x ∷ xs) = sym (set_of-same (x ∷ xs) (y ∷ ys) d d' s) in
          let lt : tally records (set_of (x ∷ xs)) x < tally records (set_of (x ∷ xs)) y =
          untied-fewer records x xs y d loser (free 0) (behind (λ e. ne e) (s.right y here)) in
          let le : tally records (set_of (x ∷ xs)) y ≤ tally records (set_of (x ∷ xs)) x =
          subst (λ z. tally records z y ≤ tally records z x) sets (may-votes records y ys x may (behind (λ e. ne (sym e)) (s.left x here))) in
          absurd (omega (arith, lt, le))
    ] in
    let d'' : Distinct (x ∷ ys) = subst (λ z. Distinct (z ∷ ys)) (sym same) d' in
    let s' : Same (x ∷ xs) (x ∷ ys) = subst (λ z. Same (x ∷ xs) (z ∷ ys)) (sym same) s in
    ap (λ z. z ∷ xs) same
    ∙ ap (λ zs. y ∷ zs) (possible-one records xs ys (distinct-tail d) (distinct-tail d') (same-tail x xs ys d d'' s') rest (λ k. free (suc k)) rest')

-- ---- another end of a possible order
same-append : (before : List ℕ) {t t' : List ℕ} → Same t t' → Same (before ++ t) (before ++ t')
same-append before {t} {t'} s = record {
  left = λ c m. elim (member-append_cases before t m) [ inl a ↦ member-append_left t' a | inr b ↦ member-append_right before (s.left c b) ];
  right = λ c m. elim (member-append_cases before t' m) [ inl a ↦ member-append_left t a | inr b ↦ member-append_right before (s.right c b) ];
}

distinct-other : (before t t' : List ℕ) → Distinct (before ++ t) → Distinct t' → Same t t' → Distinct (before ++ t')
distinct-other [] t t' d d' s = d'
distinct-other (b ∷ before) t t' d d' s =
    more (λ m. distinct-head d ((same-append before s).right b m)) (distinct-other before t t' (distinct-tail d) d' s)

pub possible-other : (records : List (List ℕ)) (before t t' : List ℕ) → Distinct (before ++ t) → Distinct t' → Same t t' →
    is_possible records (before ++ t) ≡ true → is_possible records t' ≡ true → is_possible records (before ++ t') ≡ true
possible-other records [] t t' d d' s h p = p
possible-other records (b ∷ before) t t' d d' s h p =
    let (may, rest) = and_parts (may_lose records b (before ++ t)) (is_possible records (before ++ t)) h in
    let sets : set_of (b ∷ before ++ t) ≡ set_of (b ∷ before ++ t') =
    set_of-same (b ∷ before ++ t) (b ∷ before ++ t') d (distinct-other (b ∷ before) t t' d d' s) (same-append (b ∷ before) s) in
    and_from (may_lose records b (before ++ t')) (is_possible records (before ++ t'))
    (votes-may records b (before ++ t') (λ c m. subst (λ z. tally records z b ≤ tally records z c) sets
    (may-votes records b (before ++ t) c may ((same-append before s).right c m))))
    (possible-other records before t t' (distinct-tail d) d' s rest p)

pub order-other : (n : ℕ) (before t t' : List ℕ) → is_order n (before ++ t) ≡ true → Distinct t' → Same t t' → is_order n (before ++ t') ≡ true
order-other n before t t' h d' s =
    let o : Order n (before ++ t) = order_facts n (before ++ t) h in
    let all = same-append before s in
    order-of_same n (before ++ t')
    (record { left = λ c m. all.left c (o.whole c (from_candidates m)); right = λ c m. candidate-member c n (o.below c (all.right c m)) })
    (distinct-other before t t' o.apart d' s)

-- ---- if there is a tie, another candidate may go
cancel : (before : List ℕ) (t t' : List ℕ) → before ++ t ≡ before ++ t' → t ≡ t'
cancel [] t t' e = e
cancel (b ∷ before) t t' e = cancel before t t' (tails e) where
  tails : {a b : ℕ} {s t : List ℕ} → a ∷ s ≡ b ∷ t → s ≡ t
  tails e = cc

head-same : {a b : ℕ} {s t : List ℕ} → a ∷ s ≡ b ∷ t → a ≡ b
head-same e = cc

pub record Other (records : List (List ℕ)) (c : ℕ) (rest : List ℕ) : Type 0 where
  pub first : ℕ
  pub later : List ℕ
  pub apart : first ≢ c
  pub distinct : Distinct (first ∷ later)
  pub same : Same (c ∷ rest) (first ∷ later)
  pub possible : is_possible records (first ∷ later) ≡ true

pub another-goes : (records : List (List ℕ)) (c : ℕ) (rest : List ℕ) → Distinct (c ∷ rest) → is_tied records (c ∷ rest) ≡ true → Other records c rest
another-goes records c rest apart t =
    let all = c ∷ rest in
    let (d, m, e) = tied-other records c rest apart t in
    let t = some_tabulated records (length (others d all)) (others d all) (omega arith)
    (distinct-filter (λ x. not (x == d)) all apart) in
    let ys = t.order in
    let distinct : Distinct (d ∷ ys) = more (λ k. others-out d all (t.same.right d k)) t.apart in
    let same : Same all (d ∷ ys) = record {
      left = λ x k. elim (cases_eq x d) [ inl q ↦ member_at (sym q) | inr ne ↦ there (t.same.left x (other-in d x all k ne)) ];
      right = λ x k. elim (member_cases k) [
        | inl q ↦ subst (λ z. Member z all) q (there m)
        | inr r ↦ (from_filter (λ x. not (x == d)) all (t.same.right x r)).0
      ];
    } in
    let sets : set_of all ≡ set_of (d ∷ ys) = set_of-same all (d ∷ ys) apart distinct same in
    record {
      first = d;
      later = ys;
      apart = λ q. distinct-head apart (subst (λ z. Member z rest) q m);
      distinct = distinct;
      same = same;
      possible = and_from (may_lose records d ys) (is_possible records ys)
          (votes-may records d ys (λ x k. subst (λ z. tally records z d ≤ tally records z x) sets
          (let le = least-le records all x (same.right x (there k)) in omega (arith, le, e))))
          (tabulated-possible records ys t.tabulated);
    }

untied : (n : ℕ) (records : List (List ℕ)) (order before rest : List ℕ) → is_order n order ≡ true → is_possible records order ≡ true →
    order ≡ before ++ rest → ((other : List ℕ) → is_order n other ≡ true → is_possible records other ≡ true → other ≡ order) →
    is_tied records rest ≡ false
untied n records order before [] o p split one = refl
untied n records order before (c ∷ rest) o p split one =
    elim (cases_Bool (is_tied records (c ∷ rest))) [
      | inr f ↦ f
      | inl t ↦
          let d : Distinct (before ++ c ∷ rest) = subst Distinct split (order_facts n order o).apart in
          let it = another-goes records c rest (distinct-rest before (c ∷ rest) d) t in
          let new = it.first ∷ it.later in
          let o' : is_order n (before ++ new) ≡ true =
          order-other n before (c ∷ rest) new (subst (λ xs. is_order n xs ≡ true) split o) it.distinct it.same in
          let p' : is_possible records (before ++ new) ≡ true =
          possible-other records before (c ∷ rest) new d it.distinct it.same (subst (λ xs. is_possible records xs ≡ true) split p) it.possible in
          absurd (it.apart (head-same (cancel before new (c ∷ rest) (one (before ++ new) o' p' ∙ split))))
    ]

pub no_tie_is_one_possible : (n : ℕ) (records : List (List ℕ)) (order : List ℕ) → is_order n order ≡ true → is_tabulated records order ≡ true →
    (HasNoTie records order ↔ ((other : List ℕ) → is_order n other ≡ true → is_possible records other ≡ true → other ≡ order))
no_tie_is_one_possible n records order o t = (
  λ free other o' p. sym (possible-one records order other (order_facts n order o).apart (order_facts n other o').apart (orders-same n order other o o') t free p),
  λ one k. untied n records order (take k order) (drop k order) o (tabulated-possible records order t) (sym (take-append-drop k order)) one,
)
