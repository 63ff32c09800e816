-- The share of one worker, piece by piece.
use Rattle.std.proofs.Common.{◌≡◌, inl, inr, ℕ, ◌+◌, ◌*◌, ◌≤◌, ◌==◌, Bool, true, false, not, cond, List, [], ◌∷◌, ◌++◌, sum_by, All, Contains, Option, None, Some, slice_get, if◌then◌else◌, refl, sym, ap, subst, arith, ◌∙◌}
use Rattle.std.specs.Option.{option_or}
use Rattle.std.proofs.lemmas.Option.{slice_get_within, get_or_from_slice_get}
use Rattle.std.proofs.lemmas.Bool.{cases_eq, eq-eqb, ne_eqb, or_left, or_right}
use Rattle.std.proofs.lemmas.List.{append_assoc, map_push}
use Rattle.std.proofs.lemmas.List.Elements.{All-push, All-weaker}
use Rattle.std.proofs.lemmas.List.Folds.{list_any-append}
use Rattle.std.proofs.lemmas.List.Sums.{sum_by_push}
use Rattle.irv_base.specs.Candidates.{is_in}
use Rattle.set_tallies.specs.Bags.{Kept}
use Rattle.shared_witness.specs.declared.view.View.{View}
use Rattle.shared_witness.specs.View.{highest}
use Rattle.shared_witness.specs.Moment.{times}
use Rattle.shared_witness.proofs.Lists.{times-push, times_none}
use Rattle.suffix_tree.specs.Suffixes.{Suffix}
use Rattle.bound_search.specs.Reached.{AreLeftOpen, IsNewest, IsPieceSearched, IsBestFound, IsEntry, IsCostly, IsDoneWith, skipped_with, spent_with}
use Rattle.bound_search.specs.declared.ends.Best.{Best}
use Rattle.bound_search.specs.declared.ends.PieceEnd.{PieceEnd}
use Rattle.bound_search.specs.declared.piece.Searched.{Searched}
use Rattle.bound_search.specs.declared.limits.TheConstants.{MOST_EXPANDED}
use Rattle.bound_search.proofs.Racing.{closed_lower}

-- ---- one more element in a list

in_more : (xs : List ℕ) (n p : ℕ) → is_in xs p ≡ true → is_in (xs ++ n ∷ []) p ≡ true
in_more xs n p h = list_any-append (λ q. q == p) xs (n ∷ []) ∙ or_left (is_in xs p) (is_in (n ∷ []) p) h

in_last : (xs : List ℕ) (n : ℕ) → is_in (xs ++ n ∷ []) n ≡ true
in_last xs n = list_any-append (λ q. q == n) xs (n ∷ []) ∙ or_right (is_in xs n) (is_in (n ∷ []) n) (or_left (n == n) false (eq-eqb n n refl))

-- an element that wasn't there is now there once
pub once_more : (xs : List ℕ) (n : ℕ) → ((p : ℕ) → times xs p ≤ 1) → not (is_in xs n) ≡ true → (p : ℕ) → times (xs ++ n ∷ []) p ≤ 1
once_more xs n once out p =
    elim (cases_eq n p) [
      | inl same ↦
          let none : times xs n ≡ 0 = times_none xs n (out_is (is_in xs n) out) in
          let here : times xs p ≡ 0 = ap (times xs) (sym same) ∙ none in
          let one : ◌≡◌ {A = ℕ} (cond (n == p) 1 0) 1 = ap (λ b. cond b 1 0) (eq-eqb n p same) in
          omega (arith, times-push xs n p, here, one)
      | inr apart ↦
          let zero : ◌≡◌ {A = ℕ} (cond (n == p) 1 0) 0 = ap (λ b. cond b 1 0) (ne_eqb n p apart) in
          omega (arith, times-push xs n p, zero, once p)
    ]
  where
    out_is : (b : Bool) → not b ≡ true → b ≡ false
    out_is true h = cc
    out_is false h = refl

-- the piece is noted once, as closed or as left open
noted : (b : Bool) (closed spent : List ℕ) (n p : ℕ) → times (if b then closed ++ n ∷ [] else closed) p + times (if b then spent else spent ++ n ∷ []) p
    ≡ times closed p + times spent p + cond (n == p) 1 0
noted true closed spent n p = omega (arith, times-push closed n p)
noted false closed spent n p = omega (arith, times-push spent n p)

-- ---- pieces that are left open

open_same : (ends : List PieceEnd) (before after were are : List ℕ) → after ≡ before → are ≡ were → AreLeftOpen ends before were → AreLeftOpen ends after are
open_same ends before after were are is left so_far = subst (λ xs. AreLeftOpen ends xs are) (sym is) (subst (AreLeftOpen ends before) (sym left) so_far)

-- no piece is skipped before one is out of budget
pub none_skipped : (ends : List PieceEnd) (spent skipped : List ℕ) → AreLeftOpen ends spent skipped → spent ≡ [] → skipped ≡ []
none_skipped ends [] skipped so_far none = so_far
none_skipped ends (number ∷ rest) skipped so_far none = absurd cc

-- ---- one more piece

module _ (bag : Kept) (first nodes worker : ℕ) (tails : List Suffix) (piece : ℕ) (tail : Suffix) (v t w : View) (spent noted_now : List ℕ) (s : Searched)
    (inside : slice_get tails piece ≡ Some tail) (take : t ≡ record v { taken = v.taken ++ piece ∷ [] }) (skipped : Bool)
    (did : IsPieceSearched bag first nodes piece tail.list skipped t w s)
    (notes : noted_now ≡ (if s.closed then spent else spent ++ piece ∷ [])) where
  abbrev entry : PieceEnd
  entry = record { piece = piece; tail = tail; worker = worker; expanded = s.expanded }

  pub taken_now : w.taken ≡ v.taken ++ piece ∷ []
  taken_now = did.taken ∙ ap (λ (u : View). u.taken) take

  closed_now : w.closed ≡ (if s.closed then v.closed ++ piece ∷ [] else v.closed)
  closed_now = did.closed ∙ ap (λ (u : View). if s.closed then u.closed ++ piece ∷ [] else u.closed) take

  pub seen_now : w.seen ≤ v.seen
  seen_now = let same = ap (λ (u : View). u.seen) take in let le = did.falls in omega (arith, same, le)

  posted_was : t.posted ≡ v.posted
  posted_was = ap (λ (u : View). u.posted) take

  pub left_now : ((p : ℕ) → times v.taken p ≡ times v.closed p + times spent p) → (p : ℕ) → times w.taken p ≡ times w.closed p + times noted_now p
  left_now left p =
      let a = ap (λ xs. times xs p) taken_now ∙ times-push v.taken piece p in
      let b = ap (λ xs. times xs p) closed_now in
      let c = ap (λ xs. times xs p) notes in
      let sum = noted s.closed v.closed spent piece p in
      omega (arith, a, b, c, sum, left p)

  pub entry_now : IsEntry bag first nodes worker tails entry
  entry_now = record { tail = inside; worker_is = refl; within = did.within; most = did.most }

  -- the pieces that were done with before still are, and so is this one
  still_done : (p : PieceEnd) → IsDoneWith bag v spent p → IsDoneWith bag w noted_now p
  still_done p (inl (closed, at)) =
      inl (subst (λ xs. is_in xs p.piece ≡ true) (sym closed_now) (kept s.closed), closed_lower bag v.seen w.seen p.tail.list p.expanded seen_now at)
    where
      kept : (b : Bool) → is_in (if b then v.closed ++ piece ∷ [] else v.closed) p.piece ≡ true
      kept true = in_more v.closed piece p.piece closed
      kept false = closed
  still_done p (inr left) = inr (subst (λ xs. is_in xs p.piece ≡ true) (sym notes) (kept s.closed)) where
    kept : (b : Bool) → is_in (if b then spent else spent ++ piece ∷ []) p.piece ≡ true
    kept true = left
    kept false = in_more spent piece p.piece left

  this_done : IsDoneWith bag w noted_now entry
  this_done = go s.closed refl where
    go : (b : Bool) → s.closed ≡ b → IsDoneWith bag w noted_now entry
    go true e = inl (
      subst (λ xs. is_in xs piece ≡ true) (sym (closed_now ∙ ap (λ b. if b then v.closed ++ piece ∷ [] else v.closed) e))
          (in_last v.closed piece),
      did.searched e,
    )
    go false e = inr (subst (λ xs. is_in xs piece ≡ true) (sym (notes ∙ ap (λ b. if b then spent else spent ++ piece ∷ []) e)) (in_last spent piece))

  pub done_now : (ends : List PieceEnd) → All (IsDoneWith bag v spent) ends → All (IsDoneWith bag w noted_now) (ends ++ entry ∷ [])
  done_now ends all = All-push (IsDoneWith bag w noted_now) ends entry (All-weaker (IsDoneWith bag v spent) (IsDoneWith bag w noted_now) still_done ends all)
      this_done

  -- a piece that is now out of budget wasn't skipped
  pub costly_now : (before after : List ℕ) → (before ≡ [] → skipped ≡ false) → after ≡ spent_with s.closed before piece →
      All (IsCostly bag first nodes tails) before → All (IsCostly bag first nodes tails) after
  costly_now [] after none_skipped is all = go s.closed refl where
    go : (b : Bool) → s.closed ≡ b → All (IsCostly bag first nodes tails) after
    go true e = subst (All (IsCostly bag first nodes tails)) (sym (is ∙ ap (λ b. spent_with b [] piece) e)) all
    go false e = subst (All (IsCostly bag first nodes tails)) (sym (is ∙ ap (λ b. spent_with b [] piece) e))
        (All-push (IsCostly bag first nodes tails) [] piece all (tail, inside, did.over e (none_skipped refl)))
  costly_now (number ∷ rest) after none_skipped is all = subst (All (IsCostly bag first nodes tails)) (sym (is ∙ stays s.closed)) all where
    stays : (b : Bool) → spent_with b (number ∷ rest) piece ≡ number ∷ rest
    stays true = refl
    stays false = refl

  -- once a piece is out of budget, the worker skips this one
  pub open_now : (ends : List PieceEnd) (before after were are : List ℕ) → AreLeftOpen ends before were →
      ((number : ℕ) (rest : List ℕ) → before ≡ number ∷ rest → skipped ≡ true) → (skipped ≡ true → (s.closed ≡ false) × (s.expanded ≡ 0)) →
      after ≡ spent_with s.closed before piece → are ≡ skipped_with s.closed before were piece → AreLeftOpen (ends ++ entry ∷ []) after are
  open_now ends [] after were are so_far skips idle is left = go s.closed refl where
    go : (b : Bool) → s.closed ≡ b → AreLeftOpen (ends ++ entry ∷ []) after are
    go true e = open_same (ends ++ entry ∷ []) [] after [] are (is ∙ ap (λ b. spent_with b [] piece) e)
        (left ∙ ap (λ b. skipped_with b [] were piece) e ∙ so_far) refl
    go false e = open_same (ends ++ entry ∷ []) (piece ∷ []) after [] are (is ∙ ap (λ b. spent_with b [] piece) e)
        (left ∙ ap (λ b. skipped_with b [] were piece) e ∙ so_far) record {
          before = ends;
          spent = entry;
          after = [];
          all = refl;
          spent_is = refl;
          skipped_are = refl;
          unexpanded = λ k d less. absurd (omega (arith, less));
        }
  open_now ends (number ∷ []) after were are so_far skips idle is left =
      let (is_open, none) = idle (skips number [] refl) in
      open_same (ends ++ entry ∷ []) (number ∷ []) after (were ++ piece ∷ []) are (is ∙ ap (λ b. spent_with b (number ∷ []) piece) is_open)
      (left ∙ ap (λ b. skipped_with b (number ∷ []) were piece) is_open) record {
        before = so_far.before;
        spent = so_far.spent;
        after = so_far.after ++ entry ∷ [];
        all = ap (λ xs. xs ++ entry ∷ []) so_far.all ∙ append_assoc so_far.before (so_far.spent ∷ so_far.after) (entry ∷ []);
        spent_is = so_far.spent_is;
        skipped_are = ap (λ xs. xs ++ piece ∷ []) so_far.skipped_are ∙ sym (map_push (λ (p : PieceEnd). p.piece) so_far.after entry);
        unexpanded = All-push (λ p. p.expanded ≡ 0) so_far.after entry so_far.unexpanded none;
      }
  open_now ends (number ∷ other ∷ rest) after were are so_far skips idle is left = absurd so_far

  pub paced_now : (ends : List PieceEnd) (looks : ℕ) → sum_by (λ p. p.expanded) ends ≤ MOST_EXPANDED * looks →
      sum_by (λ p. p.expanded) (ends ++ entry ∷ []) ≤ MOST_EXPANDED * (looks + s.looks)
  paced_now ends looks paced = let more = sum_by_push (λ (p : PieceEnd). p.expanded) ends entry in let le = did.paced in omega (arith, more, le, paced)

  -- what was found in this piece is less hard than what was found before
  pub found_now : Contains tails tail → (best : Option Best) → v.posted ≤ highest → IsBestFound bag tails v.posted best → (now : Option Best) →
      now ≡ option_or s.found best → IsBestFound bag tails w.posted now
  found_now one best high was now is = subst (IsBestFound bag tails w.posted) (sym is) (go s.found did.found best was) where
    go : (found : Option Best) → IsNewest bag tail.list t.posted w.posted found → (best : Option Best) → IsBestFound bag tails v.posted best →
        IsBestFound bag tails w.posted (option_or found best)
    go None same None none = omega (arith, same, posted_was, none)
    go None same (Some b) (f, is_posted, low) = (f, omega (arith, is_posted, same, posted_was), omega (arith, low, same, posted_was))
    go (Some b) (f, is_posted, less) best was = (record { tail = tail; one = one; found = f }, is_posted, omega (arith, less, posted_was, high))

  pub high_now : IsNewest bag tail.list t.posted w.posted s.found → v.posted ≤ highest → w.posted ≤ highest
  high_now = go s.found where
    go : (found : Option Best) → IsNewest bag tail.list t.posted w.posted found → v.posted ≤ highest → w.posted ≤ highest
    go None same high = omega (arith, same, posted_was, high)
    go (Some b) (f, is, less) high = omega (arith, less, posted_was, high)

-- an element at a place of a list is in the list
pub contains_got : (tails : List Suffix) (i : ℕ) (t : Suffix) → slice_get tails i ≡ Some t → Contains tails t
contains_got tails i t at = (i, slice_get_within tails i t at, get_or_from_slice_get tails i t t at)
