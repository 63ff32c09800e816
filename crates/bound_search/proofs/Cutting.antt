-- The pieces: how their list grows, and that each alternative order ends in one of them.
use Rattle.std.proofs.Common.{◌≡◌, ◌≢◌, ℕ, zero, suc, ◌+◌, ◌<◌, ◌==◌, Bool, true, false, not, cond, List, [], ◌∷◌, ◌++◌, map, filter, flat_map, length, Some, slice_get, refl, sym, ap, subst, arith, append-nil, append_assoc, ◌∙◌}
use Rattle.std.proofs.lemmas.Bool.{eqb-false, ne_eqb, not-true, not_from_false}
use Rattle.std.proofs.lemmas.List.{map-append, map_push}
use Rattle.std.proofs.lemmas.List.Elements.{filter-append}
use Rattle.std.proofs.lemmas.Grind.{flat_map-append}
use Rattle.irv_base.specs.Candidates.{candidates, all_but}
use Rattle.irv_base.specs.Orders.{is_order, EndsIn, Elects}
use Rattle.irv_base.proofs.Distinct.{Distinct, distinct-rest, distinct-head}
use Rattle.irv_base.proofs.Members.{Member, here, there, member-append_right, member-filter, member-flat_map, member-map, from_filter, from_flat_map, from_map, from_candidates, candidate-member}
use Rattle.irv_base.proofs.Orders.{Order, order_facts, last_split}
use Rattle.irv_base.proofs.Ranges.{candidates-more}
use Rattle.suffix_tree.specs.Suffixes.{Suffix, with_front}
use Rattle.bound_search.specs.Race.{pieces, pieces_electing, piece_of}

-- ---- how the list grows

filter_next : (p : ℕ → Bool) (k : ℕ) → filter p (candidates (k + 1)) ≡ cond (p k) (filter p (candidates k) ++ k ∷ []) (filter p (candidates k))
filter_next p k = ap (filter p) (candidates-more k) ∙ filter-append p (candidates k) (k ∷ []) ∙ last (p k) where
  last : (b : Bool) → filter p (candidates k) ++ cond b (k ∷ []) [] ≡ cond b (filter p (candidates k) ++ k ∷ []) (filter p (candidates k))
  last true = refl
  last false = append-nil (filter p (candidates k))

abbrev others : ℕ → ℕ → List ℕ
others c k = filter (λ d. not (d == c)) (candidates k)

others_more : (c k : ℕ) → (k == c) ≡ false → others c (k + 1) ≡ others c k ++ k ∷ []
others_more c k other = filter_next (λ d. not (d == c)) k ∙ ap (λ b. cond (not b) (others c k ++ k ∷ []) (others c k)) other

others_same : (c k : ℕ) → (k == c) ≡ true → others c (k + 1) ≡ others c k
others_same c k same = filter_next (λ d. not (d == c)) k ∙ ap (λ b. cond (not b) (others c k ++ k ∷ []) (others c k)) same

-- the pieces of one candidate, as far as the other is below k
abbrev pub electing_below : ℕ → ℕ → ℕ → List Suffix
electing_below n c k = map (piece_of n) (map (λ d. d ∷ c ∷ []) (others c k))

pub electing_more : (n c k : ℕ) (start now next : List Suffix) (end x : Suffix) → now ≡ start ++ electing_below n c k → (k == c) ≡ false → end.n ≡ n →
    end.list ≡ c ∷ [] → x ≡ with_front end k → next ≡ now ++ x ∷ [] →
    next ≡ start ++ electing_below n c (k + 1)
electing_more n c k start now next end x h other number alone is pushed =
    let one : x ≡ piece_of n (k ∷ c ∷ []) = is ∙ ap (λ m. record { n = m; list = k ∷ end.list }) number ∙ ap (λ l. record { n = n; list = k ∷ l }) alone in
    let grown : electing_below n c (k + 1) ≡ electing_below n c k ++ piece_of n (k ∷ c ∷ []) ∷ [] =
    ap (λ ds. map (piece_of n) (map (λ d. d ∷ c ∷ []) ds)) (others_more c k other) ∙ ap (map (piece_of n)) (map_push (λ d. d ∷ c ∷ []) (others c k) k)
    ∙ map_push (piece_of n) (map (λ d. d ∷ c ∷ []) (others c k)) (k ∷ c ∷ []) in
    pushed
    ∙ ap (λ s. s ++ x ∷ []) h
    ∙ append_assoc start (electing_below n c k) (x ∷ [])
    ∙ ap (λ y. start ++ (electing_below n c k ++ y ∷ [])) one
    ∙ ap (λ s. start ++ s) (sym grown)

pub electing_same : (n c k : ℕ) → (k == c) ≡ true → electing_below n c k ≡ electing_below n c (k + 1)
electing_same n c k same = ap (λ ds. map (piece_of n) (map (λ d. d ∷ c ∷ []) ds)) (sym (others_same c k same))

-- all pieces, as far as the last candidate is below k
abbrev pub pieces_below : ℕ → ℕ → ℕ → List Suffix
pieces_below n winner k = map (piece_of n) (flat_map (pieces_electing n) (others winner k))

pub pieces_more : (n winner k : ℕ) (now next : List Suffix) → now ≡ pieces_below n winner k → (k == winner) ≡ false →
    next ≡ now ++ map (piece_of n) (pieces_electing n k) → next ≡ pieces_below n winner (k + 1)
pieces_more n winner k now next h other added =
    let grown : flat_map (pieces_electing n) (others winner (k + 1)) ≡ flat_map (pieces_electing n) (others winner k) ++ pieces_electing n k =
    ap (flat_map (pieces_electing n)) (others_more winner k other) ∙ flat_map-append (pieces_electing n) (others winner k) (k ∷ [])
    ∙ ap (λ s. flat_map (pieces_electing n) (others winner k) ++ s) (append-nil (pieces_electing n k)) in
    added
    ∙ ap (λ s. s ++ map (piece_of n) (pieces_electing n k)) h
    ∙ sym (map-append (piece_of n) (flat_map (pieces_electing n) (others winner k)) (pieces_electing n k))
    ∙ ap (map (piece_of n)) (sym grown)

pub pieces_same : (n winner k : ℕ) → (k == winner) ≡ true → pieces_below n winner k ≡ pieces_below n winner (k + 1)
pieces_same n winner k same = ap (λ cs. map (piece_of n) (flat_map (pieces_electing n) cs)) (sym (others_same winner k same))

-- ---- the definition of a piece

-- one of these, by its last two candidates
pub record IsPiece (n winner : ℕ) (piece : List ℕ) : Type 0 where
  pub last : ℕ
  pub other : ℕ
  pub below : last < n
  pub apart : last ≢ winner
  pub is : piece ≡ other ∷ last ∷ []
  pub electing : Member piece (pieces_electing n last)

other_than : (n c d : ℕ) → Member d (all_but n c) → (d < n) × (d ≢ c)
other_than n c d m =
    let (inside, out) = from_filter (λ e. not (e == c)) (candidates n) m in
    (from_candidates inside, eqb-false d c (not-true (d == c) out))

pub piece_facts : (n winner : ℕ) (piece : List ℕ) → Member piece (pieces n winner) → IsPiece n winner piece
piece_facts n winner piece m =
    let (last, one, m') = from_flat_map (pieces_electing n) piece (all_but n winner) m in
    let (below, apart) = other_than n winner last one in
    let (other, two, is) = from_map (λ d. d ∷ last ∷ []) piece (all_but n last) m' in
    record { last = last; other = other; below = below; apart = apart; is = sym is; electing = m' }

pub tail_facts : (n winner k : ℕ) (t : Suffix) → slice_get (map (piece_of n) (pieces n winner)) k ≡ Some t → (t ≡ piece_of n t.list) × IsPiece n winner t.list
tail_facts n winner k t at =
    let (piece, m, is) = from_map (piece_of n) t (pieces n winner) (member_get (map (piece_of n) (pieces n winner)) k t at) in
    let list : piece ≡ t.list = ap (λ (s : Suffix). s.list) is in
    (sym is ∙ ap (piece_of n) list, subst (IsPiece n winner) list (piece_facts n winner piece m))
  where
    member_get : (xs : List Suffix) (i : ℕ) (x : Suffix) → slice_get xs i ≡ Some x → Member x xs
    member_get [] i x at = cc
    member_get (y ∷ ys) zero x at = let same : y ≡ x = cc in subst (λ z. Member z (y ∷ ys)) same here
    member_get (y ∷ ys) (suc i) x at = there (member_get ys i x at)

-- ---- each alternative order ends in a piece

ends_in_two : (n winner c : ℕ) (order : List ℕ) → is_order n order ≡ true → 1 < n → c ≢ winner → Elects order c →
    (piece : List ℕ) × Member piece (pieces n winner) × EndsIn order piece
ends_in_two n winner c order whole two apart ([], split) = let o = order_facts n order whole in let long = ap length split in
    absurd (omega (arith, o.long, two, long))
ends_in_two n winner c order whole two apart (x ∷ xs, split) =
    let o : Order n order = order_facts n order whole in
    let (ys, d, last) = last_split x xs in
    let is : order ≡ ys ++ d ∷ c ∷ [] = split ∙ ap (λ s. s ++ c ∷ []) last ∙ append_assoc ys (d ∷ []) (c ∷ []) in
    let inside : (z : ℕ) → Member z (ys ++ d ∷ c ∷ []) → z < n = λ z m. o.below z (subst (Member z) (sym is) m) in
    let rest : Distinct (d ∷ c ∷ []) = distinct-rest ys (d ∷ c ∷ []) (subst Distinct is o.apart) in
    let differ : d ≢ c = λ same. distinct-head rest (subst (λ z. Member z (c ∷ [])) (sym same) here) in
    let low_d : d < n = inside d (member-append_right ys here) in
    let low_c : c < n = inside c (member-append_right ys (there here)) in (
      d ∷ c ∷ [],
      member-flat_map (pieces_electing n) (member-filter (λ e. not (e == winner)) (candidates n) (candidate-member c n low_c)
          (not_from_false (c == winner) (ne_eqb c winner apart)))
          (member-map (λ e. e ∷ c ∷ []) (member-filter (λ e. not (e == c)) (candidates n) (candidate-member d n low_d)
          (not_from_false (d == c) (ne_eqb d c differ)))),
      (ys, is),
    )

place_of : (n : ℕ) {piece : List ℕ} {ps : List (List ℕ)} → Member piece ps → (k : ℕ) × (k < length ps) ×
    (slice_get (map (piece_of n) ps) k ≡ Some (piece_of n piece))
place_of n (here {xs = xs}) = (0, omega arith, refl)
place_of n (there m) = let (k, low, at) = place_of n m in (suc k, omega (arith, low), at)

-- the number of such a piece
pub ends_in_piece : (n winner c : ℕ) (order : List ℕ) → is_order n order ≡ true → 1 < n → c ≢ winner → Elects order c →
    (piece : List ℕ) × EndsIn order piece × (k : ℕ) × (k < length (pieces n winner)) ×
    (slice_get (map (piece_of n) (pieces n winner)) k ≡ Some (piece_of n piece))
ends_in_piece n winner c order whole two apart elects =
    let (piece, m, ends) = ends_in_two n winner c order whole two apart elects in
    let (k, low, at) = place_of n m in
    (piece, ends, k, low, at)
