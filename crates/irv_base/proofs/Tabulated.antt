-- There is one tabulated order, and it is possible.
use Rattle.std.proofs.Common.{◌≡◌, ◌≢◌, ℕ, zero, suc, ◌<◌, ◌≤◌, ◌&&◌, ◌==◌, not, true, inl, inr, List, [], ◌∷◌, length, filter, refl, sym, ap, ap₂, subst, arith, ◌∙◌}
use Rattle.std.proofs.lemmas.Bool.{and_parts, and_from, cases_eq, ne_eqb, not-true, eqb-false}
use Rattle.irv_base.specs.Candidates.{candidates, set_of}
use Rattle.irv_base.specs.Orders.{is_order}
use Rattle.irv_base.specs.Records.{tally}
use Rattle.irv_base.specs.Tabulation.{is_possible, may_lose}
use Rattle.irv_base.proofs.Members.{Member, here, there, member_at, member_cases, member_nil, member-filter, from_filter, from_candidates}
use Rattle.irv_base.proofs.Distinct.{Distinct, none, more, distinct-head, distinct-tail, distinct-le, distinct-range, length-range}
use Rattle.irv_base.proofs.Orders.{order_facts, order_test}
use Rattle.irv_base.proofs.Sames.{Same, set_of-same, distinct-filter}
use Rattle.irv_base.specs.Tabulation.{loses, is_tabulated}
use Rattle.irv_base.proofs.Losing.{Goes, loser-goes, goes-loser, loser-may_lose, first_of}

-- ---- possible
pub tabulated-possible : (records : List (List ℕ)) (order : List ℕ) → is_tabulated records order ≡ true → is_possible records order ≡ true
tabulated-possible records [] h = refl
tabulated-possible records (c ∷ rest) h =
    let (first, later) = and_parts (loses records c rest) (is_tabulated records rest) h in
    and_from (may_lose records c rest) (is_possible records rest) (loser-may_lose records c rest first) (tabulated-possible records rest later)

-- ---- one
pub same-tail : (c : ℕ) (xs ys : List ℕ) → Distinct (c ∷ xs) → Distinct (c ∷ ys) → Same (c ∷ xs) (c ∷ ys) → Same xs ys
same-tail c xs ys dx dy s = record {
  left = λ d m. behind d ys (λ e. distinct-head dx (subst (λ x. Member x xs) (sym e) m)) (s.left d (there m));
  right = λ d m. behind d xs (λ e. distinct-head dy (subst (λ x. Member x ys) (sym e) m)) (s.right d (there m));
}
  where
    behind : (d : ℕ) (zs : List ℕ) → c ≢ d → Member d (c ∷ zs) → Member d zs
    behind d zs ne m = elim (member_cases m) [ inl e ↦ absurd (ne e) | inr r ↦ r ]

other : (c d : ℕ) (xs : List ℕ) → d ≢ c → Member d (c ∷ xs) → Member d xs
other c d xs ne m = elim (member_cases m) [ inl e ↦ absurd (ne (sym e)) | inr r ↦ r ]

pub loser-same : (records : List (List ℕ)) (c d : ℕ) (xs ys : List ℕ) → Distinct (c ∷ xs) → Distinct (d ∷ ys) → Same (c ∷ xs) (d ∷ ys) →
    loses records c xs ≡ true → loses records d ys ≡ true → c ≡ d
loser-same records c d xs ys dx dy s hc hd =
    elim (cases_eq c d) [
      | inl e ↦ e
      | inr ne ↦
          let set : set_of (d ∷ ys) ≡ set_of (c ∷ xs) = sym (set_of-same (c ∷ xs) (d ∷ ys) dx dy s) in
          let one = loser-goes records c xs d hc (other c d xs (λ e. ne (sym e)) (s.right d here)) in
          let two : Goes (tally records (set_of (c ∷ xs))) d c =
          subst (λ z. Goes (tally records z) d c) set (loser-goes records d ys c hd (other d c ys ne (s.left c here))) in
          let a = one.fewer in
          let b = two.fewer in
          let l = one.same (omega (arith, a, b)) in
          let k = two.same (omega (arith, a, b)) in
          absurd (omega (arith, l, k))
    ]

pub tabulated-same : (records : List (List ℕ)) (xs ys : List ℕ) → Distinct xs → Distinct ys → Same xs ys → is_tabulated records xs ≡ true →
    is_tabulated records ys ≡ true → xs ≡ ys
tabulated-same records [] [] dx dy s hx hy = refl
tabulated-same records [] (d ∷ ys) dx dy s hx hy = absurd (member_nil (s.right d here))
tabulated-same records (c ∷ xs) [] dx dy s hx hy = absurd (member_nil (s.left c here))
tabulated-same records (c ∷ xs) (d ∷ ys) dx dy s hx hy =
    let (cx, rx) = and_parts (loses records c xs) (is_tabulated records xs) hx in
    let (dy', ry) = and_parts (loses records d ys) (is_tabulated records ys) hy in
    let e : c ≡ d = loser-same records c d xs ys dx dy s cx dy' in
    let dy'' : Distinct (c ∷ ys) = subst (λ z. Distinct (z ∷ ys)) (sym e) dy in
    let s' : Same (c ∷ xs) (c ∷ ys) = subst (λ z. Same (c ∷ xs) (z ∷ ys)) (sym e) s in
    ap₂ (λ z zs. z ∷ zs) e (tabulated-same records xs ys (distinct-tail dx) (distinct-tail dy) (same-tail c xs ys dx dy'' s') rx ry)

pub orders-same : (n : ℕ) (xs ys : List ℕ) → is_order n xs ≡ true → is_order n ys ≡ true → Same xs ys
orders-same n xs ys hx hy =
    let x = order_facts n xs hx in
    let y = order_facts n ys hy in
    record { left = λ c m. y.whole c (x.below c m); right = λ c m. x.whole c (y.below c m) }

pub tabulated_is_one : (n : ℕ) (records : List (List ℕ)) (order other : List ℕ) → is_order n order ≡ true → is_tabulated records order ≡ true →
    is_order n other ≡ true → is_tabulated records other ≡ true → order ≡ other
tabulated_is_one n records order other o t o' t' = tabulated-same records order other (order_facts n order o).apart (order_facts n other o').apart
    (orders-same n order other o o') t t'

-- ---- some
abbrev pub others : ℕ → List ℕ → List ℕ
others c xs = filter (λ d. not (d == c)) xs

pub others-out : (c : ℕ) (xs : List ℕ) → Member c (others c xs) → ⊥
others-out c xs m = absurd (let (in', t) = from_filter (λ d. not (d == c)) xs m in let f = not-true (c == c) t in eqb-false c c f refl)

pub other-in : (c d : ℕ) (xs : List ℕ) → Member d xs → d ≢ c → Member d (others c xs)
other-in c d xs m ne = member-filter (λ d. not (d == c)) xs m (ap not (ne_eqb d c ne))

pub record Tabulated (records : List (List ℕ)) (xs : List ℕ) : Type 0 where
  pub order : List ℕ
  pub same : Same xs order
  pub apart : Distinct order
  pub tabulated : is_tabulated records order ≡ true

-- the first candidate with the smallest tally goes, and then the rest
goes : (records : List (List ℕ)) (x : ℕ) (xs : List ℕ) (c : ℕ) → Distinct (x ∷ xs) → Member c (x ∷ xs) →
    ((d : ℕ) → Member d (x ∷ xs) → d ≢ c → Goes (tally records (set_of (x ∷ xs))) c d) → Tabulated records (others c (x ∷ xs)) → Tabulated records (x ∷ xs)
goes records x xs c dx m first t =
    let all = x ∷ xs in
    let ys = t.order in
    let apart : Distinct (c ∷ ys) = more (λ k. others-out c all (t.same.right c k)) t.apart in
    let same : Same (c ∷ ys) all = record {
      left = λ d k. elim (member_cases k) [ inl q ↦ subst (λ z. Member z all) q m | inr r ↦ (from_filter (λ d. not (d == c)) all (t.same.right d r)).0 ];
      right = λ d k. elim (cases_eq d c) [ inl q ↦ member_at (sym q) | inr ne ↦ there (t.same.left d (other-in c d all k ne)) ];
    } in
    let set : set_of all ≡ set_of (c ∷ ys) = sym (set_of-same (c ∷ ys) all apart dx same) in
    let loser : loses records c ys ≡ true = goes-loser records c ys (λ d k. subst (λ s. Goes (tally records s) c d) set
    (first d (same.left d (there k)) (λ e. distinct-head apart (subst (λ z. Member z ys) e k)))) in
    record {
      order = c ∷ ys;
      same = record { left = same.right; right = same.left };
      apart = apart;
      tabulated = and_from (loses records c ys) (is_tabulated records ys) loser t.tabulated;
    }

pub some_tabulated : (records : List (List ℕ)) (n : ℕ) (xs : List ℕ) → length xs ≤ n → Distinct xs → Tabulated records xs
some_tabulated records n [] l d = record { order = []; same = record { left = λ c m. m; right = λ c m. m }; apart = none; tabulated = refl }
some_tabulated records zero (x ∷ xs) l d = absurd (omega (arith, l))
some_tabulated records (suc n) (x ∷ xs) l d =
    let (c, m, first) = first_of (tally records (set_of (x ∷ xs))) x xs in
    let rest = others c (x ∷ xs) in
    let apart : Distinct rest = distinct-filter (λ d. not (d == c)) (x ∷ xs) d in
    let fewer : length (c ∷ rest) ≤ length (x ∷ xs) = distinct-le (c ∷ rest) (x ∷ xs) (more (others-out c (x ∷ xs)) apart)
    (λ z k. elim (member_cases k) [ inl q ↦ subst (λ y. Member y (x ∷ xs)) q m | inr r ↦ (from_filter (λ d. not (d == c)) (x ∷ xs) r).0 ]) in
    goes records x xs c d m first (some_tabulated records n rest (omega (arith, fewer, l)) apart)

pub order-of_same : (n : ℕ) (ys : List ℕ) → Same (candidates n) ys → Distinct ys → is_order n ys ≡ true
order-of_same n ys s d =
    let most : length ys ≤ length (candidates n) = distinct-le ys (candidates n) d s.right in
    let least : length (candidates n) ≤ length ys = distinct-le (candidates n) ys (distinct-range 0 n) s.left in
    order_test n ys (omega (arith, most, least, length-range 0 n)) d (λ c m. from_candidates (s.right c m))

pub tabulated_exists : (n : ℕ) (records : List (List ℕ)) → (order : List ℕ) × (is_order n order ≡ true) × (is_tabulated records order ≡ true)
tabulated_exists n records =
    let t = some_tabulated records n (candidates n) (omega (arith, length-range 0 n)) (distinct-range 0 n) in
    (t.order, order-of_same n t.order t.same t.apart, t.tabulated)
