-- From ids back to numbers, if the ids all differ.
use Rattle.std.proofs.Common.{◌≡◌, ℕ, zero, suc, ◌<◌, ◌≤◌, ◌%◌, ◌==◌, ◌^◌, Bool, true, false, cond, not, inl, inr, List, [], ◌∷◌, length, get_or, filter, refl, sym, ap, ap₂, ◌∙◌, arith}
use Rattle.std.specs.List.{list_all}
use Rattle.std.proofs.Math.Nat.{div-eq_of_lt, pow-le-pow_right}
use Rattle.std.proofs.lemmas.Bool.{and_parts, and_from, both_ways, cases_Bool, cases_lt, not-true, false_from_ne_true}
use Rattle.std.proofs.lemmas.Cmp.{nat_list_eq_equiv}
use Rattle.std.proofs.lemmas.List.Folds.{list_any_at}
use Rattle.irv_base.specs.Candidates.{candidates, has, is_distinct, is_in, set_of}
use Rattle.irv_base.specs.Names.{Id, all_differ, is_among, is_same}
use Rattle.irv_base.proofs.Distinct.{Distinct, none, more, distinct-head, distinct-tail, distinct-range, test-distinct}
use Rattle.irv_base.proofs.Members.{Member, here, there, candidate-member, from_candidates, from_filter, in-from_member, member-filter, out-from_none}
use Rattle.irv_base.proofs.Sets.{set_of_is}
use Rattle.assertion_file.specs.Ids.{id_of, ids_of, number_of, numbers_of}

-- ---- ids

pub among-id : (ids : List Id) (c : ℕ) → c < length ids → is_among ids (id_of ids c) ≡ true
among-id ids c within = list_any_at (λ other. is_same other (id_of ids c)) ids c [] within (nat_list_eq_equiv.refl (id_of ids c))

pub number-id : (ids : List Id) (c : ℕ) → all_differ ids ≡ true → c < length ids → number_of ids (id_of ids c) ≡ c
number-id [] c h within = absurd (omega arith)
number-id (id ∷ ids) zero h within = rw (nat_list_eq_equiv.refl id) refl
number-id (id ∷ ids) (suc c) h within =
    let (out, rest) = and_parts (not (is_among ids id)) (all_differ ids) h in
    let below : c < length ids = omega arith in
    let apart : is_same id (get_or ids c []) ≡ false = nat_list_eq_equiv.symm id (get_or ids c []) ∙ false_from_ne_true (is_same (get_or ids c []) id) (λ same.
    both_ways (is_among ids id) (not-true (is_among ids id) out) (list_any_at (λ other. is_same other id) ids c [] below same)) in
    let found = number-id ids c rest below in
    rw apart (omega (arith, found))

pub all-among : (ids : List Id) (cs : List ℕ) → ((c : ℕ) → Member c cs → c < length ids) → list_all (is_among ids) (ids_of ids cs) ≡ true
all-among ids [] below = refl
all-among ids (c ∷ cs) below =
    and_from (is_among ids (id_of ids c)) (list_all (is_among ids) (ids_of ids cs)) (among-id ids c (below c here))
    (all-among ids cs (λ d m. below d (there m)))

pub numbers-ids : (ids : List Id) (cs : List ℕ) → all_differ ids ≡ true → ((c : ℕ) → Member c cs → c < length ids) → numbers_of ids (ids_of ids cs) ≡ cs
numbers-ids ids [] h below = refl
numbers-ids ids (c ∷ cs) h below = ap₂ (λ d ds. d ∷ ds) (number-id ids c h (below c here)) (numbers-ids ids cs h (λ d m. below d (there m)))

-- ---- the members of a set of candidates

distinct-filter : (p : ℕ → Bool) (xs : List ℕ) → Distinct xs → Distinct (filter p xs)
distinct-filter p [] d = none
distinct-filter p (x ∷ xs) d = kept (p x) (distinct-filter p xs (distinct-tail d)) where
  kept : (b : Bool) → Distinct (filter p xs) → Distinct (cond b (x ∷ filter p xs) (filter p xs))
  kept true k = more (λ m. distinct-head d (from_filter p xs m).0) k
  kept false k = k

pub has-above : (set n c : ℕ) → set < 2 ^ n → n ≤ c → has set c ≡ false
has-above set n c small above =
    let power : 2 ^ n ≤ 2 ^ c = pow-le-pow_right (omega arith) above in
    let low : set < 2 ^ c = omega arith in
    ap (λ q. q % 2 == 1) (div-eq_of_lt low)

pub record Listed (set : ℕ) (cs : List ℕ) (n : ℕ) : Type 0 where
  pub below : (c : ℕ) → Member c cs → c < n
  pub apart : is_distinct cs ≡ true
  pub same : set ≡ set_of cs
  pub member : (c : ℕ) → has set c ≡ true → is_in cs c ≡ true

pub listed : (n set : ℕ) → set < 2 ^ n → Listed set (filter (has set) (candidates n)) n
listed n set small =
    let cs = filter (has set) (candidates n) in
    let d : Distinct cs = distinct-filter (has set) (candidates n) (distinct-range 0 n) in
    let is : (c : ℕ) → has set c ≡ is_in cs c = λ c. elim (cases_Bool (has set c)) [
      | inl t ↦ t ∙ sym (elim (cases_lt c n) [
        | inl l ↦ in-from_member (member-filter (has set) (candidates n) (candidate-member c n l) t)
        | inr g ↦ absurd (both_ways (has set c) (has-above set n c small g) t)
      ])
      | inr f ↦ f ∙ sym (out-from_none c cs (λ m. both_ways (has set c) f (from_filter (has set) (candidates n) m).1))
    ] in
    record {
      below = λ c m. from_candidates (from_filter (has set) (candidates n) m).0;
      apart = test-distinct d;
      same = set_of_is set cs d is;
      member = λ c h. sym (is c) ∙ h;
    }
