-- Lists of the same candidates: they have the same set, the same smallest tally, and the same candidates who share it.
use Rattle.std.proofs.Common.{◌≡◌, ℕ, ◌≤◌, Bool, true, false, cond, ◌==◌, inl, inr, List, [], ◌∷◌, map, filter, refl, sym, ap, arith, eqb-true, eq-eqb, le_antisymm, ◌∙◌}
use Rattle.std.proofs.lemmas.Bool.{cases_Bool}
use Rattle.irv_base.specs.Candidates.{is_in, set_of}
use Rattle.irv_base.specs.Records.{tally}
use Rattle.irv_base.specs.Tabulation.{least_tally, sharing_least}
use Rattle.irv_base.proofs.Members.{Member, here, member_nil, member-map, from_map, member-filter, from_filter, member-from_in, in-from_member, out-from_none, none-from_out}
use Rattle.irv_base.proofs.Distinct.{Distinct, none, more, distinct-head, distinct-tail}
use Rattle.irv_base.proofs.Sets.{has-set_of, set_of_is}
use Rattle.irv_base.proofs.Least.{least-member, least_is}

-- ---- lists of the same candidates
pub record Same (xs ys : List ℕ) : Type 0 where
  pub left : (c : ℕ) → Member c xs → Member c ys
  pub right : (c : ℕ) → Member c ys → Member c xs

back : {xs ys : List ℕ} → Same xs ys → Same ys xs
back s = record { left = s.right; right = s.left }

pub set_of-same : (xs ys : List ℕ) → Distinct xs → Distinct ys → Same xs ys → set_of xs ≡ set_of ys
set_of-same xs ys dx dy s = set_of_is (set_of xs) ys dy (λ c. has-set_of xs c dx ∙ same c) where
  same : (c : ℕ) → is_in xs c ≡ is_in ys c
  same c =
      elim (cases_Bool (is_in xs c)) [
        | inl t ↦ t ∙ sym (in-from_member (s.left c (member-from_in c xs t)))
        | inr f ↦ f ∙ sym (out-from_none c ys (λ m. none-from_out f (s.right c m)))
      ]

-- ---- those who share the smallest tally
pub least-le : (records : List (List ℕ)) (cs : List ℕ) (c : ℕ) → Member c cs → least_tally records cs ≤ tally records (set_of cs) c
least-le records cs c m = least-member (tally records (set_of cs) c) (map (tally records (set_of cs)) cs) (member-map (tally records (set_of cs)) m)

pub distinct-filter : (p : ℕ → Bool) (xs : List ℕ) → Distinct xs → Distinct (filter p xs)
distinct-filter p [] d = none
distinct-filter p (x ∷ xs) d = kept (p x) (distinct-filter p xs (distinct-tail d)) where
  kept : (b : Bool) → Distinct (filter p xs) → Distinct (cond b (x ∷ filter p xs) (filter p xs))
  kept true k = more (λ m. distinct-head d (from_filter p xs m).0) k
  kept false k = k

-- ---- the same tie
least-same : (records : List (List ℕ)) (xs ys : List ℕ) → set_of xs ≡ set_of ys → Same xs ys → least_tally records xs ≤ least_tally records ys
least-same records xs [] set s = nothing xs s where
  nothing : (xs : List ℕ) → Same xs [] → least_tally records xs ≤ 0
  nothing [] s = omega arith
  nothing (x ∷ xs) s = absurd (member_nil (s.left x here))
least-same records xs (y ∷ ys) set s =
    let (d, m, e) = from_map (tally records (set_of (y ∷ ys))) (least_tally records (y ∷ ys)) (y ∷ ys)
    (least_is (member-map (tally records (set_of (y ∷ ys))) here)) in
    let le : least_tally records xs ≤ tally records (set_of xs) d = least-le records xs d (s.right d m) in
    omega (arith, ap (λ z. tally records z d) set)

pub shared-same : (records : List (List ℕ)) (xs ys : List ℕ) → Distinct xs → Distinct ys → Same xs ys →
    set_of (sharing_least records xs) ≡ set_of (sharing_least records ys)
shared-same records xs ys dx dy s =
    set_of-same (sharing_least records xs) (sharing_least records ys) (distinct-filter (λ c. tally records (set_of xs) c == least_tally records xs) xs dx)
    (distinct-filter (λ c. tally records (set_of ys) c == least_tally records ys) ys dy)
    (record { left = λ c m. over xs ys s set least' c m; right = λ c m. over ys xs back (sym set) (sym least') c m })
  where
    back : Same ys xs
    back = record { left = s.right; right = s.left }

    set : set_of xs ≡ set_of ys
    set = set_of-same xs ys dx dy s

    least' : least_tally records xs ≡ least_tally records ys
    least' = le_antisymm (least-same records xs ys set s) (least-same records ys xs (sym set) back)

    over : (xs ys : List ℕ) → Same xs ys → set_of xs ≡ set_of ys → least_tally records xs ≡ least_tally records ys → (c : ℕ) →
        Member c (sharing_least records xs) → Member c (sharing_least records ys)
    over xs ys s set least' c m =
        let (inside, e) = from_filter (λ c. tally records (set_of xs) c == least_tally records xs) xs m in
        let e' : tally records (set_of xs) c ≡ least_tally records xs = eqb-true (tally records (set_of xs) c) (least_tally records xs) e in
        member-filter (λ c. tally records (set_of ys) c == least_tally records ys) ys (s.left c inside)
        (eq-eqb (tally records (set_of ys) c) (least_tally records ys) (ap (λ z. tally records z c) (sym set) ∙ e' ∙ least'))
