-- A NEB compares w at its worst, with all candidates left, to l at its best, with only w and l left.
use Rattle.std.proofs.Common.{List, [], ap, cond, count_by, eqb-true, false, inl, inr, le_antisymm, ltb-true, nat_lt, ne_eqb, refl, sym, true, ℕ, ◌+◌, ◌<◌, ◌==◌, ◌||◌, ◌∙◌, ◌∷◌, ◌≡◌, ◌≢◌}
use Rattle.std.proofs.lemmas.Bool.{and_parts, cases_Bool, eqb-false, or_from}
use Rattle.std.proofs.lemmas.List.Sums.{sum_by-cons}
use Rattle.std.specs.List.{list_all}
use Rattle.irv_base.specs.Candidates.{candidates, has, set_of}
use Rattle.irv_base.specs.Records.{is_ahead, is_first, is_some_of, tally, top}
use Rattle.irv_base.proofs.Distinct.{Distinct, distinct-range, more, none}
use Rattle.irv_base.proofs.Members.{candidate-member, here, member_cases, member_nil, there}
use Rattle.irv_base.proofs.Sets.{has-member, has-set_of}
use Rattle.assertions.specs.Assertions.{votes_against, votes_for}
use Rattle.assertions.specs.declared.assertion.Assertion.TheVariants.{Neb}
use Rattle.assertions.proofs.Tallies.{count_by-le, tally-ahead}

pair : (w l : ℕ) → w ≢ l → Distinct (w ∷ l ∷ [])
pair w l ne = more (λ m. elim (member_cases m) [ inl e ↦ ne (sym e) | inr r ↦ member_nil r ]) (more member_nil none)

pair-hasn't : (w l c : ℕ) → w ≢ l → (c == l) ≡ false → (c == w) ≡ false → has (set_of (w ∷ l ∷ [])) c ≡ false
pair-hasn't w l c ne nl nw =
    has-set_of (w ∷ l ∷ []) c (pair w l ne)
    ∙ or_from (w == c) ((l == c) || false) (ne_eqb w c (λ e. eqb-false c w nw (sym e)))
    (or_from (l == c) false (ne_eqb l c (λ e. eqb-false c l nl (sym e))) refl)

ahead-top : (w l : ℕ) (ranking : List ℕ) → w ≢ l → is_ahead ranking l w ≡ true → is_some_of (top ranking (set_of (w ∷ l ∷ []))) l ≡ true
ahead-top w l [] ne h = cc
ahead-top w l (c ∷ rest) ne h =
    elim (cases_Bool (c == l)) [
      | inl t ↦
          let present : has (set_of (w ∷ l ∷ [])) c ≡ true = ap (has (set_of (w ∷ l ∷ []))) (eqb-true c l t) ∙ has-member (pair w l ne) (there here) in
          rw present t
      | inr nl ↦ elim (cases_Bool (c == w)) [
        | inl t ↦ let no : false ≡ true = rw (nl, t) at h in cc
        | inr nw ↦ let later : is_ahead rest l w ≡ true = rw (nl, nw) at h in rw (pair-hasn't w l c ne nl nw) (ahead-top w l rest ne later)
      ]
    ]

pub neb_against : (records : List (List ℕ)) (w l : ℕ) → w ≢ l → votes_against records (Neb w l) ≡ tally records (set_of (w ∷ l ∷ [])) l
neb_against records w l ne =
    le_antisymm (count_by-le (λ r. is_ahead r l w) (λ r. is_some_of (top r (set_of (w ∷ l ∷ []))) l) records (λ r h. ahead-top w l r ne h))
    (tally-ahead records (set_of (w ∷ l ∷ [])) w l (has-member (pair w l ne) here))

top-first : (n w : ℕ) (ranking : List ℕ) → list_all (λ c. nat_lt c n) ranking ≡ true → is_some_of (top ranking (set_of (candidates n))) w ≡ is_first ranking w
top-first n w [] h = refl
top-first n w (c ∷ rest) h =
    let below : c < n = ltb-true c n (and_parts (nat_lt c n) (list_all (λ c. nat_lt c n) rest) h).0 in
    let present : has (set_of (candidates n)) c ≡ true = has-member (distinct-range 0 n) (candidate-member c n below) in
    rw present refl

pub neb_for : (n : ℕ) (records : List (List ℕ)) (w l : ℕ) → list_all (λ ranking. list_all (λ c. nat_lt c n) ranking) records ≡ true →
    votes_for records (Neb w l) ≡ tally records (set_of (candidates n)) w
neb_for n [] w l h = refl
neb_for n (r ∷ records) w l h =
    let (one, rest) = and_parts (list_all (λ c. nat_lt c n) r) (list_all (λ ranking. list_all (λ c. nat_lt c n) ranking) records) h in
    sum_by-cons (λ r. cond (is_first r w) 1 0) r records
    ∙ ap (λ x. x + count_by (λ r. is_first r w) records) (ap (λ b. cond b 1 0) (sym (top-first n w r one)))
    ∙ ap (λ x. cond (is_some_of (top r (set_of (candidates n))) w) 1 0 + x) (neb_for n records w l rest)
    ∙ sym (sum_by-cons (λ r. cond (is_some_of (top r (set_of (candidates n))) w) 1 0) r records)
