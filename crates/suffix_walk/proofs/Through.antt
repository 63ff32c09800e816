-- A walk over a list in which nothing whole is kept: it counts all suffixes that are kept, from any count on.
use Rattle.std.proofs.Common.{◌≡◌, ℕ, ◌+◌, ◌<◌, ◌≤◌, Bool, true, false, nat_lt, nat_le, inl, inr, List, [], ◌∷◌, length, count_by, if◌then◌else◌, Result, Ok, Err, refl, sym, ap, subst, arith, ltb-true, ltb-false, le-leb, ◌∙◌}
use Rattle.std.proofs.lemmas.Bool.{cases_Bool, both_ways, lt-leb}
use Rattle.irv_base.proofs.Members.{Member, here, there, member_cases, member_nil}
use Rattle.suffix_walk.specs.Walks.{walked}
use Rattle.suffix_walk.specs.declared.walk.Stop.{Stop}
use Rattle.suffix_walk.specs.declared.walk.Stop.TheVariants.{Found, Spent}
use Rattle.suffix_walk.proofs.Counts.{count-cons}

module _ (n nodes : ℕ) (kept : List ℕ → Bool) where
  abbrev pub AreParts : List (List ℕ) → Type 0
  AreParts xs = (x : List ℕ) → Member x xs → kept x ≡ true → length x < n

  -- as far as the budget allows
  abbrev pub within : ℕ → Result ℕ Stop
  within count = if nat_le count nodes then Ok count else Err Spent

  count-in : (s : List ℕ) (xs : List (List ℕ)) → kept s ≡ true → count_by kept (s ∷ xs) ≡ 1 + count_by kept xs
  count-in s xs h = count-cons kept s xs ∙ ap (λ b. (if b then 1 else 0) + count_by kept xs) h

  count-out : (s : List ℕ) (xs : List (List ℕ)) → kept s ≡ false → count_by kept (s ∷ xs) ≡ count_by kept xs
  count-out s xs h = count-cons kept s xs ∙ ap (λ b. (if b then 1 else 0) + count_by kept xs) h ∙ omega arith

  -- a walk that finishes
  pub from_walked : (count : ℕ) (xs : List (List ℕ)) (m : ℕ) → walked n nodes kept count xs ≡ Ok m → AreParts xs × (m ≡ count + count_by kept xs)
  from_walked count [] m e = (λ x k u. absurd (member_nil k), let same : count ≡ m = cc in omega arith)
  from_walked count (s ∷ xs) m e =
      elim (cases_Bool (kept s)) [
        | inr gone ↦
            let w : walked n nodes kept count (s ∷ xs) ≡ walked n nodes kept count xs = rw gone refl in
            let (parts, sum) = from_walked count xs m (sym w ∙ e) in (
              λ x k u. elim (member_cases k) [ inl same ↦ absurd (both_ways (kept s) gone (ap kept same ∙ u)) | inr r ↦ parts x r u ],
              omega (arith, sum, count-out s xs gone),
            )
        | inl keep ↦ elim (cases_Bool (nat_lt (length s) n)) [
          | inr whole ↦
              let w : walked n nodes kept count (s ∷ xs) ≡ Err (Found s) = rw (keep, whole) refl in
              let never : Err (Found s) ≡ Ok m = sym w ∙ e in
              cc
          | inl short ↦ elim (cases_Bool (nat_lt count nodes)) [
            | inr full ↦
                let w : walked n nodes kept count (s ∷ xs) ≡ Err Spent = rw (keep, short, full) refl in
                let never : Err Spent ≡ Ok m = sym w ∙ e in
                cc
            | inl room ↦
                let w : walked n nodes kept count (s ∷ xs) ≡ walked n nodes kept (count + 1) xs = rw (keep, short, room) refl in
                let (parts, sum) = from_walked (count + 1) xs m (sym w ∙ e) in (
                  λ x k u. elim (member_cases k) [ inl same ↦ subst (λ y. length y < n) same (ltb-true (length s) n short) | inr r ↦ parts x r u ],
                  omega (arith, sum, count-in s xs keep),
                )
          ]
        ]
      ]

  pub walked-through : (count : ℕ) (xs : List (List ℕ)) → AreParts xs → count ≤ nodes → walked n nodes kept count xs ≡ within (count + count_by kept xs)
  walked-through count [] parts le =
      let none : count ≡ count + count_by kept [] = omega arith in
      let room : within count ≡ Ok count = rw (le-leb count nodes le) refl in
      sym room ∙ ap within none
  walked-through count (s ∷ xs) parts le =
      elim (cases_Bool (kept s)) [
        | inr gone ↦
            let w : walked n nodes kept count (s ∷ xs) ≡ walked n nodes kept count xs = rw gone refl in
            w ∙ walked-through count xs (λ x k u. parts x (there k) u) le ∙ ap (λ k. within (count + k)) (sym (count-out s xs gone))
        | inl keep ↦
            let short : nat_lt (length s) n ≡ true = Rattle.std.proofs.Common.lt-ltb (length s) n (parts s here keep) in
            let one = count-in s xs keep in
            elim (cases_Bool (nat_lt count nodes)) [
              | inl room ↦
                  let lt : count < nodes = ltb-true count nodes room in
                  let w : walked n nodes kept count (s ∷ xs) ≡ walked n nodes kept (count + 1) xs = rw (keep, short, room) refl in
                  w ∙ walked-through (count + 1) xs (λ x k u. parts x (there k) u) (omega arith) ∙ ap within (omega (arith, one))
              | inr full ↦
                  let more : nodes < count + count_by kept (s ∷ xs) = omega (arith, one, ltb-false count nodes full) in
                  let w : walked n nodes kept count (s ∷ xs) ≡ Err Spent = rw (keep, short, full) refl in
                  let over : within (count + count_by kept (s ∷ xs)) ≡ Err Spent = rw (lt-leb (count + count_by kept (s ∷ xs)) nodes more) refl in
                  w ∙ sym over
            ]
      ]
