-- The score of a suffix, from a fact that is preserved by one more assertion, and that only one score satisfies.
use Rattle.std.proofs.Common.{Bool, List, None, Option, Some, [], ap, arith, cond, eq-eqb, eqb-true, false, inl, inr, lt-ltb, ltb-true, nat_lt, refl, subst, sym, true, ℕ, ◌&&◌, ◌<◌, ◌==◌, ◌||◌, ◌∙◌, ◌∷◌, ◌≡◌, ◌≤◌, ◌⊎◌}
use Rattle.std.proofs.lemmas.Bool.{and_from, and_parts, both_ways, cases_Bool, cases_lt, or_cases, or_left, or_right}
use Rattle.irv_base.proofs.Distinct.{distinct-head}
use Rattle.irv_base.proofs.Members.{Member, here, member_cases, member_nil, out-from_none, there}
use Rattle.assertions.specs.Assertions.{is_proper, true_margin}
use Rattle.assertions.specs.FixedOrder.{key}
use Rattle.assertions.specs.Hardness.{low, refuter}
use Rattle.assertions.specs.Refutation.{refutes}
use Rattle.assertions.specs.Scores.{Score, added_refuters, all_offered, is_before_that, no_score, offered, score_of}
use Rattle.assertions.specs.Suffixes.{is_suffix}
use Rattle.assertions.specs.declared.assertion.Assertion.{Assertion}
use Rattle.assertions.proofs.Backwards.{stands_before-chain, stands_before-either, stands_before-not_both}
use Rattle.assertions.proofs.Endings.{Suffix, suffix_facts}
use Rattle.assertions.proofs.FixedOrders.{Before, key-same}
use Rattle.assertions.proofs.Lows.{from_refuter, low-refuter, low_of_none, positive, refuter_is_none}
use Rattle.assertions.proofs.Parts.{refutes_more}
use Rattle.assertions.proofs.Refuters.{refuter-first, refuter_or_none}
use Rattle.assertions.proofs.Steps.{added-refutes, split_refuter}

-- the assertion is in S and has the margin, and no other assertion in S with this margin comes before it
abbrev pub Held : List (List ℕ) → (Assertion → Type 0) → ℕ → Option Assertion → Type 0
Held records S m None = m ≡ 0
Held records S m (Some b) = S b × (true_margin records b ≡ m) × (0 < m) × ((a : Assertion) → S a → true_margin records a ≡ m → (a ≡ b) ⊎ Before b a)

pub record IsScore (records : List (List ℕ)) (S : Assertion → Type 0) (p : Score) : Type 0 where
  pub above : (a : Assertion) → S a → true_margin records a ≤ p.low
  pub held : Held records S p.low p.by

module _ (records : List (List ℕ)) where
  held-same : (S T : Assertion → Type 0) → ((a : Assertion) → S a → T a) → ((a : Assertion) → T a → S a) → (m : ℕ) (o : Option Assertion) →
      Held records S m o → Held records T m o
  held-same S T f g m None h = h
  held-same S T f g m (Some b) h = (f b h.0, h.1, h.2, λ a t. h.3 a (g a t))

  score-same : (S T : Assertion → Type 0) → ((a : Assertion) → S a → T a) → ((a : Assertion) → T a → S a) → (p : Score) → IsScore records S p →
      IsScore records T p
  score-same S T f g p h = record { above = λ a t. h.above a (g a t); held = held-same S T f g p.low p.by h.held }

  one_at : (S T : Assertion → Type 0) → ((a : Assertion) → S a → T a) → ((a : Assertion) → T a → S a) → (m k : ℕ) (o u : Option Assertion) →
      ((a : Assertion) → S a → true_margin records a ≤ m) → ((a : Assertion) → T a → true_margin records a ≤ k) → Held records S m o → Held records T k u →
      (m ≡ k) × (o ≡ u)
  one_at S T f g m k None None above above' h h' = (h ∙ sym h', refl)
  one_at S T f g m k None (Some b) above above' h h' = let le = above b (g b h'.0) in absurd (omega (arith, h'.1, h'.2, h))
  one_at S T f g m k (Some b) None above above' h h' = let le = above' b (f b h.0) in absurd (omega (arith, h.1, h.2, h'))
  one_at S T f g m k (Some a) (Some b) above above' h h' =
      let le = above b (g b h'.0) in
      let ge = above' a (f a h.0) in
      let same : m ≡ k = omega (arith, h.1, h'.1) in (
        same,
        ap Some (elim (h.3 b (g b h'.0) (h'.1 ∙ sym same)) [
          | inl e ↦ sym e
          | inr x ↦ elim (h'.3 a (f a h.0) (h.1 ∙ same)) [ inl e ↦ e | inr y ↦ absurd (stands_before-not_both (key a) (key b) x y) ]
        ]),
      )

  pub only_score : (S T : Assertion → Type 0) → ((a : Assertion) → S a → T a) → ((a : Assertion) → T a → S a) → (p q : Score) → IsScore records S p →
      IsScore records T q → p ≡ q
  only_score S T f g p q h k =
      let (a, b) = one_at S T f g p.low q.low p.by q.by h.above k.above h.held k.held in
      joined p.low q.low p.by q.by a b
    where
      joined : (m k : ℕ) (o u : Option Assertion) → m ≡ k → o ≡ u → (let p : Score = record { low = m; by = o } in p) ≡ record { low = k; by = u }
      joined m k o u a b = cc

  abbrev With : (Assertion → Type 0) → Assertion → Assertion → Type 0
  With S y a = S a ⊎ (a ≡ y)

  -- one more assertion, by the tests that are made on it
  stays : (S : Assertion → Type 0) (y : Assertion) (m : ℕ) (o : Option Assertion) → Held records S m o → (m < true_margin records y → ⊥) →
      (m ≡ true_margin records y → is_before_that y o ≡ false) → Held records (With S y) m o
  stays S y m None h most later = h
  stays S y m (Some b) h most later = (
    inl h.0,
    h.1,
    h.2,
    λ a t e. elim t [
      | inl s ↦ h.3 a s e
      | inr s ↦ elim (stands_before-either (key y) (key b) (later (sym e ∙ ap (true_margin records) s))) [
        | inl q ↦ inl (s ∙ key-same y b q)
        | inr q ↦ inr (subst (λ z. Before b z) (sym s) q)
      ]
    ],
  )

  takes_tie : (S : Assertion → Type 0) (y : Assertion) (m : ℕ) (o : Option Assertion) → Held records S m o → m ≡ true_margin records y →
      is_before_that y o ≡ true → Held records (With S y) (true_margin records y) (Some y)
  takes_tie S y m None h e t = cc
  takes_tie S y m (Some b) h e t = (
    inr refl,
    refl,
    subst (λ x. 0 < x) e h.2,
    λ a s q. elim s [
      | inl k ↦ elim (h.3 a k (q ∙ sym e)) [
        | inl r ↦ inr (subst (λ z. Before y z) (sym r) t)
        | inr r ↦ inr (stands_before-chain (key y) (key b) (key a) t r)
      ]
      | inr k ↦ inl k
    ],
  )

  pub offered-score : (S : Assertion → Type 0) (y : Assertion) (p : Score) → IsScore records S p →
      IsScore records (With S y) (offered p (true_margin records y) y)
  offered-score S y p h = go (nat_lt p.low (true_margin records y) || ((p.low == true_margin records y) && is_before_that y p.by)) refl where
    go : (v : Bool) → (nat_lt p.low (true_margin records y) || ((p.low == true_margin records y) && is_before_that y p.by)) ≡ v →
        IsScore records (With S y) (cond v (record { low = true_margin records y; by = Some y }) p)
    go true e =
        elim (or_cases (nat_lt p.low (true_margin records y)) ((p.low == true_margin records y) && is_before_that y p.by) e) [
          | inl l ↦
              let lt : p.low < true_margin records y = ltb-true p.low (true_margin records y) l in
              record {
                above = λ a s. elim s [ inl k ↦ let le = h.above a k in omega arith | inr k ↦ let same = ap (true_margin records) k in omega (arith, same) ];
                held = (inr refl, refl, (omega arith), λ a s q. elim s [ inl k ↦ let le = h.above a k in absurd (omega arith) | inr k ↦ inl k ]);
              }
          | inr r ↦
              let (t, first) = and_parts (p.low == true_margin records y) (is_before_that y p.by) r in
              let same : p.low ≡ true_margin records y = eqb-true p.low (true_margin records y) t in
              record {
                above = λ a s. elim s [ inl k ↦ let le = h.above a k in omega arith | inr k ↦ let e = ap (true_margin records) k in omega (arith, e) ];
                held = takes_tie S y p.low p.by h.held same first;
              }
        ]
    go false e =
        let most : p.low < true_margin records y → ⊥ =
        λ lt. both_ways _ e (or_left (nat_lt p.low (true_margin records y)) ((p.low == true_margin records y) && is_before_that y p.by)
        (lt-ltb p.low (true_margin records y) lt)) in
        record {
          above = λ a s. elim s [
            | inl k ↦ h.above a k
            | inr k ↦
                elim (cases_lt p.low (true_margin records y)) [
                  | inl lt ↦ absurd (most lt)
                  | inr le ↦ let same = ap (true_margin records) k in
                      omega (arith, same)
                ]
          ];
          held = stays S y p.low p.by h.held most (λ same. elim (cases_Bool (is_before_that y p.by)) [
            | inl t ↦ absurd (both_ways _ e (or_right (nat_lt p.low (true_margin records y)) ((p.low == true_margin records y) && is_before_that y p.by)
                (and_from (p.low == true_margin records y) (is_before_that y p.by) (eq-eqb p.low (true_margin records y) same) t)))
            | inr f ↦ f
          ]);
        }

  pub all_offered-score : (S : Assertion → Type 0) (p : Score) (cs : List Assertion) → IsScore records S p →
      IsScore records (λ a. S a ⊎ Member a cs) (all_offered records p cs)
  all_offered-score S p [] h = score-same S (λ a. S a ⊎ Member a []) (λ a s. inl s) (λ a s. elim s [ inl k ↦ k | inr m ↦ absurd (member_nil m) ]) p h
  all_offered-score S p (y ∷ cs) h =
      score-same (λ a. With S y a ⊎ Member a cs) (λ a. S a ⊎ Member a (y ∷ cs))
      (λ a s. elim s [ inl k ↦ elim k [ inl k' ↦ inl k' | inr e ↦ inr (subst (λ z. Member z (y ∷ cs)) (sym e) here) ] | inr m ↦ inr (there m) ])
      (λ a s. elim s [ inl k ↦ inl (inl k) | inr m ↦ elim (member_cases m) [ inl e ↦ inl (inr (sym e)) | inr r ↦ inr r ] ])
      (all_offered records p (y ∷ cs))
      (all_offered-score (With S y) (offered p (true_margin records y) y) cs (offered-score S y p h))

  -- ---- the score of a suffix
  abbrev pub Refuters : ℕ → List ℕ → Assertion → Type 0
  Refuters n t a = (is_proper n a ≡ true) × (refutes a t ≡ true)

  pub score_of-score : (n : ℕ) (t : List ℕ) → IsScore records (Refuters n t) (score_of n records t)
  score_of-score n t = record { above = λ a s. low-refuter n records t a s.0 s.1; held = go (refuter n records t) refl } where
    go : (o : Option Assertion) → refuter n records t ≡ o → Held records (Refuters n t) (low n records t) o
    go None e = refuter_or_none n records t e
    go (Some b) e =
        let r = refuter-first n records t b e in
        ((r.proper, r.refuting), r.reached, positive n records t b (from_refuter n records t b e), λ a s q. r.first a s.0 s.1 q)

  score_of-more : (n c : ℕ) (t : List ℕ) → Suffix n (c ∷ t) → score_of n records (c ∷ t) ≡ all_offered records (score_of n records t) (added_refuters n c t)
  score_of-more n c t s =
      only_score (Refuters n (c ∷ t)) (λ a. Refuters n t a ⊎ Member a (added_refuters n c t))
      (λ a r. elim (split_refuter n records c t s a r.0 r.1) [ inl q ↦ inl (r.0, q) | inr m ↦ inr m ])
      (λ a q. elim q [ inl r ↦ (r.0, refutes_more a c t r.1 (out-from_none c t (distinct-head s.apart))) | inr m ↦ added-refutes n records c t s a m ])
      (score_of n records (c ∷ t)) (all_offered records (score_of n records t) (added_refuters n c t))
      (score_of-score n (c ∷ t)) (all_offered-score (Refuters n t) (score_of n records t) (added_refuters n c t) (score_of-score n t))

pub score_of_more : (n : ℕ) (records : List (List ℕ)) (c : ℕ) (t : List ℕ) → is_suffix n (c ∷ t) ≡ true →
    score_of n records (c ∷ t) ≡ all_offered records (score_of n records t) (added_refuters n c t)
score_of_more n records c t h = score_of-more records n c t (suffix_facts n (c ∷ t) h)

pub score_of_none : (n : ℕ) (records : List (List ℕ)) → score_of n records [] ≡ no_score
score_of_none n records =
    let e : low n records [] ≡ 0 = low_of_none n records in
    let f : refuter n records [] ≡ None = refuter_is_none n records [] e in
    joined (low n records []) (refuter n records []) e f
  where
    joined : (m : ℕ) (o : Option Assertion) → m ≡ 0 → o ≡ None → (let s : Score = record { low = m; by = o } in s) ≡ no_score
    joined m o e f = cc
