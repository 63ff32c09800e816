-- What the rounds of a tabulation say about its ties.
use Rattle.std.proofs.Common.{◌≡◌, ℕ, zero, suc, ◌+◌, ◌-◌, ◌<◌, ◌≤◌, ◌==◌, Bool, true, false, cond, nat_le, inl, inr, List, [], ◌∷◌, ◌++◌, Option, Some, None, length, map, take, drop, filter, get_or, slice_get, slice_index, refl, sym, ap, subst, arith, le-leb, leb-true, take-append-drop, ◌∙◌}
use Rattle.std.proofs.lemmas.Bool.{and_parts, cases_Bool}
use Rattle.std.proofs.lemmas.List.FromFn.{get_or-map-range_with_len}
use Rattle.irv_base.specs.Candidates.{has, is_in, members, set_of}
use Rattle.irv_base.specs.Records.{tally}
use Rattle.irv_base.specs.Tabulation.{least_tally, sharing_least}
use Rattle.irv_base.specs.declared.limits.TheConstants.{ROOM}
use Rattle.irv_base.proofs.Members.{Member, here, from_filter, member-from_in, in-from_member, member-append_right}
use Rattle.irv_base.proofs.Distinct.{Distinct, distinct-rest, distinct-le}
use Rattle.irv_base.proofs.Orders.{Order, order_facts}
use Rattle.irv_base.proofs.Sets.{has-set_of}
use Rattle.irv_base.proofs.Sames.{distinct-filter}
use Rattle.set_tallies.specs.Bags.{tallies}
use Rattle.irv_tabulator.specs.Results.{IsTabulation, IsTieOf}
use Rattle.irv_tabulator.specs.Rounds.{Count, count_in, count_of, counts_in, rounds_of}
use Rattle.irv_base.specs.Tabulation.{loses, is_tabulated, is_tied}
use Rattle.irv_tabulator.specs.declared.tabulated.FirstTie.{FirstTie}
use Rattle.irv_tabulator.specs.declared.tabulated.Round.{Round}
use Rattle.irv_tabulator.specs.declared.tabulated.Tabulated.{Tabulated}
use Rattle.irv_base.proofs.Losing.{loser-least}
use Rattle.irv_tabulator.proofs.Progress.{members-rest}

-- ---- the round at a place
some-count : (a b : Count) → Some a ≡ Some b → a ≡ b
some-count a b e = cc

round-at : (n : ℕ) (records : List (List ℕ)) (order : List ℕ) (k : ℕ) (count : Count) → slice_get (rounds_of n records order) k ≡ Some count →
    count ≡ count_of n records (drop k order)
round-at n records [] zero count e = cc
round-at n records [] (suc k) count e = cc
round-at n records (w ∷ []) zero count e = cc
round-at n records (w ∷ []) (suc k) count e = cc
round-at n records (c ∷ d ∷ rest) zero count e = sym (some-count (count_of n records (c ∷ d ∷ rest)) count e)
round-at n records (c ∷ d ∷ rest) (suc k) count e = round-at n records (d ∷ rest) k count e

one-untied : (records : List (List ℕ)) (w : ℕ) → is_tied records (w ∷ []) ≡ false
one-untied records w = go (tally records (set_of (w ∷ [])) w == least_tally records (w ∷ [])) where
  go : (b : Bool) → nat_le 2 (length (cond b (w ∷ []) [])) ≡ false
  go true = refl
  go false = refl

untold-untied : (n : ℕ) (records : List (List ℕ)) (order : List ℕ) (k : ℕ) → slice_get (rounds_of n records order) k ≡ None →
    is_tied records (drop k order) ≡ false
untold-untied n records [] zero e = refl
untold-untied n records [] (suc k) e = refl
untold-untied n records (w ∷ []) zero e = one-untied records w
untold-untied n records (w ∷ []) (suc k) e = none-left k where
  none-left : (k : ℕ) → is_tied records (drop k []) ≡ false
  none-left zero = refl
  none-left (suc k) = refl
untold-untied n records (c ∷ d ∷ rest) zero e = cc
untold-untied n records (c ∷ d ∷ rest) (suc k) e = untold-untied n records (d ∷ rest) k e

map-some : (xs : List Round) (k : ℕ) (round : Round) → slice_get xs k ≡ Some round → slice_get (counts_in xs) k ≡ Some (count_in round)
map-some [] zero round e = cc
map-some [] (suc k) round e = cc
map-some (x ∷ xs) zero round e = ap (λ o. some-in o) e where
  some-in : Option Round → Option Count
  some-in None = None
  some-in (Some r) = Some (count_in r)
map-some (x ∷ xs) (suc k) round e = map-some xs k round e

pub read-at : (xs : List Round) (k : ℕ) (x : Round) → k < length xs → ((d : Round) → x ≡ get_or xs k d) → slice_get xs k ≡ Some x
read-at [] k x l e = absurd (omega (arith, l))
read-at (y ∷ xs) zero x l e = ap Some (sym (e x))
read-at (y ∷ xs) (suc k) x l e = read-at xs k x (omega (arith, l)) e

pub unread : (xs : List Round) (k : ℕ) → length xs ≤ k → slice_get xs k ≡ None
unread [] zero l = refl
unread [] (suc k) l = refl
unread (y ∷ xs) zero l = absurd (omega (arith, l))
unread (y ∷ xs) (suc k) l = unread xs k (omega (arith, l))

map-none : (xs : List Round) (k : ℕ) → slice_get xs k ≡ None → slice_get (counts_in xs) k ≡ None
map-none [] zero e = refl
map-none [] (suc k) e = refl
map-none (x ∷ xs) zero e = cc
map-none (x ∷ xs) (suc k) e = map-none xs k e

-- ---- the number of members of a set
members-length : (n : ℕ) (xs : List ℕ) → n ≤ ROOM → Distinct xs → ((c : ℕ) → Member c xs → c < n) → length (members (set_of xs)) ≡ length xs
members-length n xs room d below =
    let r = members-rest n (set_of xs) room (λ c h. below c (member-from_in c xs (sym (has-set_of xs c d) ∙ h))) in
    let most = distinct-le (members (set_of xs)) xs r.apart (λ c m. member-from_in c xs (sym (has-set_of xs c d) ∙ r.same c ∙ in-from_member m)) in
    let least = distinct-le xs (members (set_of xs)) d
    (λ c m. member-from_in c (members (set_of xs)) (sym (r.same c) ∙ has-set_of xs c d ∙ in-from_member m)) in
    omega (arith, most, least)

-- ---- the candidate at a place
drop-at : (xs : List ℕ) (k c : ℕ) → slice_get xs k ≡ Some c → (rest : List ℕ) × (drop k xs ≡ c ∷ rest)
drop-at [] zero c e = cc
drop-at [] (suc k) c e = cc
drop-at (x ∷ xs) zero c e = let s : x ≡ c = cc in (xs, ap (λ y. y ∷ xs) s)
drop-at (x ∷ xs) (suc k) c e = drop-at xs k c e

later-tabulated : (records : List (List ℕ)) (order : List ℕ) (k : ℕ) → is_tabulated records order ≡ true → is_tabulated records (drop k order) ≡ true
later-tabulated records order zero h = h
later-tabulated records [] (suc k) h = refl
later-tabulated records (c ∷ rest) (suc k) h = later-tabulated records rest k (and_parts (loses records c rest) (is_tabulated records rest) h).1

module _ (n : ℕ) (records : List (List ℕ)) (t : Tabulated) (h : IsTabulation n records t) (room : n ≤ ROOM) where
  abbrev rest-at : ℕ → List ℕ
  rest-at k = drop k t.order

  facts : Order n t.order
  facts = order_facts n t.order h.order

  rest-apart : (k : ℕ) → Distinct (rest-at k)
  rest-apart k = distinct-rest (take k t.order) (rest-at k) (subst Distinct (sym (take-append-drop k t.order)) facts.apart)

  rest-below : (k c : ℕ) → Member c (rest-at k) → c < n
  rest-below k c m = facts.below c (subst (Member c) (take-append-drop k t.order) (member-append_right (take k t.order) m))

  told : (k : ℕ) (round : Round) → slice_get t.rounds.items k ≡ Some round → count_in round ≡ count_of n records (rest-at k)
  told k round e =
      round-at n records t.order k (count_in round) (ap (λ counts. slice_get counts k) (sym h.rounds) ∙ map-some t.rounds.items k round e)

  pub untold : (k : ℕ) → slice_get t.rounds.items k ≡ None → is_tied records (rest-at k) ≡ false
  untold k e = untold-untied n records t.order k (ap (λ counts. slice_get counts k) (sym h.rounds) ∙ map-none t.rounds.items k e)

  shared : (k : ℕ) (round : Round) → slice_get t.rounds.items k ≡ Some round → round.tied ≡ set_of (sharing_least records (rest-at k))
  shared k round e = ap (λ (count : Count). count.tied) (told k round e)

  many : (k : ℕ) (round : Round) → slice_get t.rounds.items k ≡ Some round → length (members round.tied) ≡ length (sharing_least records (rest-at k))
  many k round e =
      let p : ℕ → Bool = λ c. tally records (set_of (rest-at k)) c == least_tally records (rest-at k) in
      ap (λ s. length (members s)) (shared k round e)
      ∙ members-length n (sharing_least records (rest-at k)) room (distinct-filter p (rest-at k) (rest-apart k))
      (λ c m. rest-below k c (from_filter p (rest-at k) m).0)

  pub few-untied : (k : ℕ) (round : Round) → slice_get t.rounds.items k ≡ Some round → length (members round.tied) ≤ 1 →
      is_tied records (rest-at k) ≡ false
  few-untied k round e few =
      elim (cases_Bool (is_tied records (rest-at k))) [
        | inr f ↦ f
        | inl two ↦
            let two' = leb-true 2 (length (sharing_least records (rest-at k))) two in
            let same = many k round e in
            absurd (omega (arith, two', same, few))
      ]

  -- the tally of the candidate who is eliminated is the smallest
  least-told : (k c : ℕ) (round : Round) → slice_get t.rounds.items k ≡ Some round → slice_get t.order k ≡ Some c →
      get_or round.tallies.items c 0 ≡ least_tally records (rest-at k)
  least-told k c round e at =
      let (rest, split) = drop-at t.order k c at in
      let row : round.tallies.items ≡ tallies records n (set_of (rest-at k)) = ap (λ (count : Count). count.votes) (told k round e) in
      let inside : c < n = rest-below k c (subst (Member c) (sym split) here) in
      let tab = subst (λ xs. is_tabulated records xs ≡ true) split (later-tabulated records t.order k h.tabulated) in
      let loser = (and_parts (loses records c rest) (is_tabulated records rest) tab).0 in
      ap (λ xs. get_or xs c 0) row
      ∙ get_or-map-range_with_len (tally records (set_of (rest-at k))) 0 n c c 0 inside (omega arith)
      ∙ ap (λ xs. tally records (set_of xs) c) split ∙ loser-least records c rest loser ∙ ap (least_tally records) (sym split)

  pub first-told : (k c tally : ℕ) (round : Round) → slice_get t.rounds.items k ≡ Some round → 1 < length (members round.tied) →
      ((j : ℕ) → j < k → is_tied records (rest-at j) ≡ false) → slice_get t.order k ≡ Some c → tally ≡ get_or round.tallies.items c 0 →
      IsTieOf n records (record { round = k + 1; tied = round.tied; tally = tally })
  first-told k c tally round e two before at with =
      let back : k ≡ k + 1 - 1 = omega arith in
      let same = many k round e in
      let it : is_tied records (rest-at k) ≡ true = le-leb 2 (length (sharing_least records (rest-at k))) (omega (arith, same, two)) in (
        omega arith,
        record {
          order = t.order;
          permutation = h.order;
          tabulated = h.tabulated;
          shared = subst (λ i. is_tied records (drop i t.order) ≡ true) back it;
          first = λ j l. before j (omega (arith, l));
          who = shared k round e ∙ ap (λ i. set_of (sharing_least records (drop i t.order))) back;
          with = with ∙ least-told k c round e at ∙ ap (λ i. least_tally records (drop i t.order)) back;
        },
      )
