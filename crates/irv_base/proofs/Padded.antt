-- Lists that are stored in an array with room for more, padded with zeros.
use Rattle.std.proofs.Common.{◌≡◌, ℕ, suc, zero, ◌+◌, ◌-◌, ◌<◌, ◌≤◌, Bool, true, false, inl, inr, List, [], ◌∷◌, ◌++◌, All, length, set, take, drop, get_or, replicate, refl, sym, ap, subst, arith, ltb-true, length-append, append_assoc, add-one, ◌∙◌}
use Rattle.std.proofs.Math.Seq.{take-length}
use Rattle.std.proofs.lemmas.List.{take_more, length-replicate, get_or_default, drop-replicate}
use Rattle.std.proofs.lemmas.List.Elements.{All-push, All-contains}
use Rattle.irv_base.specs.Candidates.{is_in, is_distinct, candidates}
use Rattle.irv_base.specs.Orders.{is_order, is_in_range, is_repeated}
use Rattle.irv_base.specs.Places.{IsRanking, IsOrder}
use Rattle.irv_base.specs.declared.limits.TheConstants.{ROOM}
use Rattle.irv_base.proofs.Members.{Member, member_cases, none-from_out, candidate-member, contains-from_member}
use Rattle.irv_base.proofs.Distinct.{Distinct, none, more, distinct-from_test, distinct-le, length-range, distinct-push, test-distinct}
use Rattle.irv_base.proofs.Orders.{order_test}

pub take-whole : (xs ys : List ℕ) (n : ℕ) → length xs ≡ n → take n (xs ++ ys) ≡ xs
take-whole [] ys zero h = refl
take-whole [] ys (suc n) h = cc
take-whole (x ∷ xs) ys zero h = cc
take-whole (x ∷ xs) ys (suc n) h = ap (λ s. x ∷ s) (take-whole xs ys n (omega arith))

-- one more element at the end
pub set-end : (xs ys : List ℕ) (n x y : ℕ) → length xs ≡ n → set (xs ++ x ∷ ys) n y ≡ xs ++ y ∷ ys
set-end [] ys zero x y h = refl
set-end [] ys (suc n) x y h = cc
set-end (z ∷ xs) ys zero x y h = cc
set-end (z ∷ xs) ys (suc n) x y h = ap (λ s. z ∷ s) (set-end xs ys n x y (omega arith))

pub set-padded : (xs places : List ℕ) (room n y : ℕ) → length xs ≡ n → n < room → places ≡ xs ++ replicate (room - n) 0 →
    set places n y ≡ (xs ++ y ∷ []) ++ replicate (room - (n + 1)) 0
set-padded xs places room n y long l e =
    let some : room - n ≡ suc (room - (n + 1)) = omega arith in
    ap (λ s. set s n y) (e ∙ ap (λ k. xs ++ replicate k 0) some)
    ∙ set-end xs (replicate (room - (n + 1)) 0) n 0 y long ∙ sym (append_assoc xs (y ∷ []) (replicate (room - (n + 1)) 0))

-- ---- rankings
-- distinct candidates, with a further one apart from them, leave room
pub room-for_more : (room c : ℕ) (xs : List ℕ) → Distinct xs → ((d : ℕ) → Member d xs → d < room) → (Member c xs → ⊥) → c < room → length xs < room
room-for_more room c xs apart below out l =
    let le : length (c ∷ xs) ≤ length (candidates room) = distinct-le (c ∷ xs) (candidates room) (more out apart)
    (λ z m. elim (member_cases m) [
      | inl e ↦ subst (λ x. Member x (candidates room)) e (candidate-member c room l)
      | inr r ↦ candidate-member z room
          (below z r)
    ]) in
    omega (arith, length-range 0 room)

pub record Pushed (len c : ℕ) (places : List ℕ) : Type 0 where
  pub room : len < ROOM
  pub wide : length places ≡ ROOM
  pub more : take (len + 1) (set places len c) ≡ take len places ++ c ∷ []
  pub ranking : IsRanking (len + 1) (set places len c)

pub ranking_pushed : (len c : ℕ) (places : List ℕ) → IsRanking len places → is_in (take len places) c ≡ false → c < ROOM → Pushed len c places
ranking_pushed len c places r out l = record {
  room = room;
  wide = ap length r.padded ∙ length-append kept (replicate (ROOM - len) 0) ∙ omega (arith, room, r.long, length-replicate {A = ℕ} (ROOM - len) 0);
  more = more;
  ranking = record {
    few = omega (arith, room);
    long = ap length more ∙ length-append kept (c ∷ []) ∙ omega (arith, r.long);
    padded = set-padded kept places ROOM len c r.long room r.padded ∙ ap (λ s. s ++ replicate (ROOM - (len + 1)) 0) (sym more);
    below = subst (All (λ d. d < ROOM)) (sym more) (All-push (λ d. d < ROOM) kept c r.below l);
    distinct = subst (λ s. is_distinct s ≡ true) (sym more) (test-distinct (distinct-push kept c apart (none-from_out out)));
  };
}
  where
    kept : List ℕ
    kept = take len places

    apart : Distinct kept
    apart = distinct-from_test kept r.distinct

    room : len < ROOM
    room = let h = room-for_more ROOM c kept apart (λ d m. All-contains (λ d. d < ROOM) kept d r.below (contains-from_member m)) (none-from_out out) l in
        omega (arith, h, r.long)

    more : take (len + 1) (set places len c) ≡ kept ++ c ∷ []
    more =
        ap (take (len + 1)) (set-padded kept places ROOM len c r.long room r.padded)
        ∙ take-whole (kept ++ c ∷ []) (replicate (ROOM - (len + 1)) 0) (len + 1) (length-append kept (c ∷ []) ∙ omega (arith, r.long))

-- as the code learns it
pub pushed : (len c : ℕ) (places now : List ℕ) → IsRanking len places → take len places ≡ now → c < ROOM → is_in now c ≡ false → Pushed len c places
pushed len c places now r e below absent = ranking_pushed len c places r (ap (λ s. is_in s c) e ∙ absent) below

-- ---- orders
-- sound places make a list of candidates, none of whom appears twice
distinct_places : (list : List ℕ) → ((k : ℕ) → k < length list → is_repeated list k ≡ false) → (i : ℕ) → i ≤ length list → Distinct (take i list)
distinct_places list h zero l = none
distinct_places list h (suc i) l =
    subst Distinct (sym (ap (λ k. take k list) (sym (add-one i)) ∙ take_more list i 0 (omega arith)))
    (distinct-push (take i list) (get_or list i 0) (distinct_places list h i (omega arith)) (none-from_out (h i (omega arith))))

pub order-from_places : (n : ℕ) (list : List ℕ) → length list ≡ n → ((k : ℕ) → k < n → (is_in_range n list k ≡ true) × (is_repeated list k ≡ false)) →
    is_order n list ≡ true
order-from_places n list long h =
    order_test n list long
    (subst Distinct (take-length list) (distinct_places list (λ k l. (h k (omega arith)).1) (length list) (omega arith)))
    (λ c m. let (k, l, e) = contains-from_member m in subst (λ x. x < n) (get_or_default list k 0 c l ∙ e) (ltb-true (get_or list k 0) n (h k (omega arith)).0))

pub filled_order : (list places : List ℕ) → places ≡ list ++ replicate (ROOM - length list) 0 → 0 < length list → length list ≤ ROOM →
    is_order (length list) list ≡ true →
    IsOrder (length list) places × (take (length list) places ≡ list)
filled_order list places filled some room order =
    let same : take (length list) places ≡ list = ap (take (length list)) filled ∙ take-whole list (replicate (ROOM - length list) 0) (length list) refl in (
      record {
        some = some;
        few = room;
        long = ap length same;
        padded = filled ∙ ap (λ s. s ++ replicate (ROOM - length list) 0) (sym same);
        permutation = ap (is_order (length list)) same ∙ order;
      },
      same,
    )

-- as the code makes it from a list of all candidates
pub copied_order : (list copied blank : List ℕ) → copied ≡ list → blank ≡ replicate ROOM 0 → 0 < length list → length list ≤ ROOM →
    is_order (length list) list ≡ true →
    let places = copied ++ drop (length list) blank in
    IsOrder (length list) places × (take (length list) places ≡ list)
copied_order list copied blank e zeros some room order =
    filled_order list (copied ++ drop (length list) blank)
    (ap (λ s. s ++ drop (length list) blank) e ∙ ap (λ s. list ++ s) (ap (drop (length list)) zeros ∙ drop-replicate (length list) ROOM 0))
    some room order

-- as the code reads it place by place
pub order_placed : (n : ℕ) (list places : List ℕ) (i : ℕ) → 1 ≤ n → n ≤ ROOM → length list ≡ n → i ≡ length list →
    places ≡ take i list ++ replicate (ROOM - i) 0 →
    ((k : ℕ) → k < i → (is_in_range n list k ≡ true) × (is_repeated list k ≡ false)) → IsOrder (length list) places × (take (length list) places ≡ list) ×
    (is_order n list ≡ true)
order_placed n list places i some room long last placed sound =
    let filled : places ≡ list ++ replicate (ROOM - length list) 0 =
    placed ∙ ap (λ k. take k list ++ replicate (ROOM - k) 0) last ∙ ap (λ s. s ++ replicate (ROOM - length list) 0) (take-length list) in
    let order : is_order n list ≡ true = order-from_places n list long (λ k l. sound k (omega arith)) in
    let (kept, same) = filled_order list places filled (omega (arith, some, long)) (omega (arith, room, long)) (ap (λ k. is_order k list) long ∙ order) in
    (kept, same, order)
