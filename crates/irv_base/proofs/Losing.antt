-- Who loses a round: the first, by number, of those with the smallest tally.
use Rattle.std.proofs.Common.{◌≡◌, ◌≢◌, ℕ, ◌<◌, ◌≤◌, ◌&&◌, ◌==◌, true, false, nat_lt, nat_le, inl, inr, ◌⊎◌, List, [], ◌∷◌, length, map, refl, sym, ap, subst, arith, eq-eqb, eqb-true, lt-ltb, ltb-true, le-leb, leb-true, ◌∙◌}
use Rattle.std.proofs.lemmas.Bool.{and_parts, and_from, or_cases, or_left, or_right, both_ways, cases_Bool, cases_eq, cases_lt}
use Rattle.std.specs.List.{list_all}
use Rattle.irv_base.specs.Candidates.{set_of}
use Rattle.irv_base.specs.Records.{tally}
use Rattle.irv_base.specs.Tabulation.{least_tally, sharing_least, may_lose}
use Rattle.irv_base.proofs.Members.{Member, here, there, member_at, member_cases, member_nil, member-map, from_map, member-filter, from_filter, from_list_all, list_all-each}
use Rattle.irv_base.proofs.Distinct.{Distinct, none, more, distinct-head, distinct-le}
use Rattle.irv_base.proofs.Least.{least_is}
use Rattle.irv_base.proofs.Sames.{distinct-filter, least-le}
use Rattle.irv_base.specs.Tabulation.{goes_before, loses, is_tied}

-- ---- who goes before whom
pub record Goes (votes : ℕ → ℕ) (c d : ℕ) : Type 0 where
  pub fewer : votes c ≤ votes d
  pub same : votes c ≡ votes d → c < d

pub goes-facts : (votes : ℕ → ℕ) (c d : ℕ) → goes_before votes c d ≡ true → Goes votes c d
goes-facts votes c d h =
    elim (or_cases (nat_lt (votes c) (votes d)) ((votes c == votes d) && nat_lt c d) h) [
      | inl l ↦ let lt : votes c < votes d = ltb-true (votes c) (votes d) l in record { fewer = omega arith; same = λ e. absurd (omega (arith, e, lt)) }
      | inr r ↦
          let (p, q) = and_parts (votes c == votes d) (nat_lt c d) r in
          let e : votes c ≡ votes d = eqb-true (votes c) (votes d) p in
          record { fewer = omega arith; same = λ _. ltb-true c d q }
    ]

pub goes-test : (votes : ℕ → ℕ) (c d : ℕ) → Goes votes c d → goes_before votes c d ≡ true
goes-test votes c d g =
    elim (cases_lt (votes c) (votes d)) [
      | inl l ↦ or_left (nat_lt (votes c) (votes d)) ((votes c == votes d) && nat_lt c d) (lt-ltb (votes c) (votes d) l)
      | inr ge ↦
          let e : votes c ≡ votes d = omega (arith, ge, g.fewer) in
          or_right (nat_lt (votes c) (votes d)) ((votes c == votes d) && nat_lt c d)
          (and_from (votes c == votes d) (nat_lt c d) (eq-eqb (votes c) (votes d) e) (lt-ltb c d (g.same e)))
    ]

-- ---- the loser
pub loser-goes : (records : List (List ℕ)) (c : ℕ) (others : List ℕ) (d : ℕ) → loses records c others ≡ true → Member d others →
    Goes (tally records (set_of (c ∷ others))) c d
loser-goes records c others d h m =
    goes-facts (tally records (set_of (c ∷ others))) c d (from_list_all (λ d. goes_before (tally records (set_of (c ∷ others))) c d) m h)

pub goes-loser : (records : List (List ℕ)) (c : ℕ) (others : List ℕ) → ((d : ℕ) → Member d others → Goes (tally records (set_of (c ∷ others))) c d) →
    loses records c others ≡ true
goes-loser records c others h =
    list_all-each (λ d. goes_before (tally records (set_of (c ∷ others))) c d) others (λ d m. goes-test (tally records (set_of (c ∷ others))) c d (h d m))

pub loser-may_lose : (records : List (List ℕ)) (c : ℕ) (others : List ℕ) → loses records c others ≡ true → may_lose records c others ≡ true
loser-may_lose records c others h =
    let votes : ℕ → ℕ = tally records (set_of (c ∷ others)) in
    list_all-each (λ d. nat_le (votes c) (votes d)) others (λ d m. le-leb (votes c) (votes d) (loser-goes records c others d h m).fewer)

-- one of several candidates goes before each of the others
pub first_of : (votes : ℕ → ℕ) (x : ℕ) (xs : List ℕ) → (c : ℕ) × Member c (x ∷ xs) × ((d : ℕ) → Member d (x ∷ xs) → d ≢ c → Goes votes c d)
first_of votes x [] = (x, here, λ d m ne. elim (member_cases m) [ inl e ↦ absurd (ne (sym e)) | inr r ↦ absurd (member_nil r) ])
first_of votes x (y ∷ ys) = go (first_of votes y ys) where
  go : (c : ℕ) × Member c (y ∷ ys) × ((d : ℕ) → Member d (y ∷ ys) → d ≢ c → Goes votes c d) →
      (c : ℕ) × Member c (x ∷ y ∷ ys) × ((d : ℕ) → Member d (x ∷ y ∷ ys) → d ≢ c → Goes votes c d)
  go (c, m, first) =
      elim (cases_Bool (goes_before votes x c)) [
        | inl t ↦
            let g = goes-facts votes x c t in (
              x,
              here,
              λ d k ne. elim (member_cases k) [
                | inl e ↦ absurd (ne (sym e))
                | inr r ↦ elim (cases_eq d c) [
                  | inl e ↦ subst (Goes votes x) (sym e) g
                  | inr apart ↦
                      let f = first d r apart in
                      record {
                        fewer = omega (arith, g.fewer, f.fewer);
                        same = λ e.
                            let a : votes x ≡ votes c = omega (arith, g.fewer, f.fewer, e) in
                            let b : votes c ≡ votes d = omega (arith, g.fewer, f.fewer, e) in
                            let l = g.same a in let k = f.same b in omega (arith, l, k);
                      }
                ]
              ],
            )
        | inr after ↦ (
          c,
          there m,
          λ d k ne. elim (member_cases k) [
            | inl e ↦ subst (Goes votes c) e (instead x c after (λ s. ne (sym e ∙ s)))
            | inr r ↦ first d r ne
          ],
        )
      ]
    where
      -- a candidate who doesn't go before c comes after it
      instead : (x c : ℕ) → goes_before votes x c ≡ false → x ≢ c → Goes votes c x
      instead x c after apart =
          elim (cases_lt (votes x) (votes c)) [
            | inl l ↦ absurd (both_ways (goes_before votes x c) after
                (goes-test votes x c (record { fewer = omega (arith, l); same = λ e. absurd (omega (arith, l, e)) })))
            | inr ge ↦ record {
              fewer = omega (arith, ge);
              same = λ e. elim (cases_lt c x) [
                | inl l ↦ l
                | inr ge' ↦ absurd (both_ways (goes_before votes x c) after
                    (goes-test votes x c (record { fewer = omega (arith, e); same = λ _. omega (arith, ge', apart) })))
              ];
            }
          ]

-- ---- ties
-- the loser's tally is the smallest
pub loser-least : (records : List (List ℕ)) (c : ℕ) (others : List ℕ) → loses records c others ≡ true →
    tally records (set_of (c ∷ others)) c ≡ least_tally records (c ∷ others)
loser-least records c others h =
    let votes : ℕ → ℕ = tally records (set_of (c ∷ others)) in
    let le : least_tally records (c ∷ others) ≤ votes c = least-le records (c ∷ others) c here in
    let (d, m, e) = from_map votes (least_tally records (c ∷ others)) (c ∷ others) (least_is (member-map votes here)) in
    elim (member_cases m) [
      | inl s ↦ ap votes s ∙ e
      | inr r ↦ let f = (loser-goes records c others d h r).fewer in omega (arith, le, e, f)
    ]

-- one of two or more that isn't c
pub one-apart : (c : ℕ) (xs : List ℕ) → Distinct xs → 2 ≤ length xs → (d : ℕ) × Member d xs × (d ≢ c)
one-apart c [] d l = absurd (omega arith)
one-apart c (a ∷ []) d l = absurd (omega arith)
one-apart c (a ∷ b ∷ rest) d l =
    elim (cases_eq a c) [
      | inl e ↦ (b, there here, λ f. distinct-head d (member_at (f ∙ sym e)))
      | inr ne ↦ (a, here, ne)
    ]

-- if there is a tie, another candidate shares the loser's tally
pub tied-other : (records : List (List ℕ)) (c : ℕ) (others : List ℕ) → Distinct (c ∷ others) → is_tied records (c ∷ others) ≡ true →
    (d : ℕ) × Member d others × (tally records (set_of (c ∷ others)) d ≡ least_tally records (c ∷ others))
tied-other records c others apart t =
    let cs = c ∷ others in
    let (d, m, ne) = one-apart c (sharing_least records cs) (distinct-filter (λ c. tally records (set_of cs) c == least_tally records cs) cs apart)
    (leb-true 2 (length (sharing_least records cs)) t) in
    let (inside, e) = from_filter (λ c. tally records (set_of cs) c == least_tally records cs) cs m in
    (d, elim (member_cases inside) [ inl s ↦ absurd (ne (sym s)) | inr r ↦ r ], eqb-true (tally records (set_of cs) d) (least_tally records cs) e)

-- if another candidate shares the loser's tally, there is a tie
pub other-tied : (records : List (List ℕ)) (c d : ℕ) (others : List ℕ) → Distinct (c ∷ others) → Member d others →
    tally records (set_of (c ∷ others)) c ≡ least_tally records (c ∷ others) → tally records (set_of (c ∷ others)) d ≡ least_tally records (c ∷ others) →
    is_tied records (c ∷ others) ≡ true
other-tied records c d others apart m ec ed =
    let cs = c ∷ others in
    let shares : (x : ℕ) → Member x cs → tally records (set_of cs) x ≡ least_tally records cs → Member x (sharing_least records cs) = λ x k e.
    member-filter (λ c. tally records (set_of cs) c == least_tally records cs) cs k (eq-eqb (tally records (set_of cs) x) (least_tally records cs) e) in
    let two : Distinct (c ∷ d ∷ []) =
    more (λ q. elim (member_cases q) [ inl e ↦ distinct-head apart (subst (λ z. Member z others) e m) | inr r ↦ member_nil r ]) (more member_nil none) in
    le-leb 2 (length (sharing_least records cs)) (distinct-le (c ∷ d ∷ []) (sharing_least records cs) two (λ z q. elim (member_cases q) [
      | inl e ↦ subst (λ z. Member z (sharing_least records cs)) e (shares c here ec)
      | inr r ↦ elim (member_cases r) [ inl e ↦ subst (λ z. Member z (sharing_least records cs)) e (shares d (there m) ed) | inr n ↦ absurd (member_nil n) ]
    ]))

-- without a tie each other candidate has more votes than the loser
pub untied-fewer : (records : List (List ℕ)) (c : ℕ) (others : List ℕ) (d : ℕ) → Distinct (c ∷ others) → loses records c others ≡ true →
    is_tied records (c ∷ others) ≡ false → Member d others → tally records (set_of (c ∷ others)) c < tally records (set_of (c ∷ others)) d
untied-fewer records c others d apart h untied m =
    let votes : ℕ → ℕ = tally records (set_of (c ∷ others)) in
    elim (cases_lt (votes c) (votes d)) [
      | inl l ↦ l
      | inr ge ↦
          let least : votes c ≡ least_tally records (c ∷ others) = loser-least records c others h in
          let le : votes c ≤ votes d = (loser-goes records c others d h m).fewer in
          absurd (both_ways (is_tied records (c ∷ others)) untied
          (other-tied records c d others apart m least (omega (arith, least, ge, le))))
    ]
