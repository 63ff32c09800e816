-- The answer of the walk by the sets that count.
use Rattle.std.proofs.Common.{◌≡◌, ◌≢◌, ℕ, ◌+◌, ◌-◌, ◌^◌, ◌<◌, ◌≤◌, Bool, true, false, not, ◌&&◌, ◌==◌, nat_lt, inl, inr, ◌⊎◌, List, [], ◌∷◌, ◌++◌, length, length-append, filter, find, if◌then◌else◌, Option, Some, None, Ok, Err, refl, sym, ap, subst, arith, eq-eqb, eqb-true, lt-ltb, ltb-true, le-ltb, ◌∙◌}
use Rattle.std.specs.List.{range_with_len}
use Rattle.std.proofs.lemmas.Bool.{cases_Bool, and_parts, and_from}
use Rattle.assertions.specs.Suffixes.{alternative_orders, alternative_suffixes, comes_before}
use Rattle.assertions.proofs.Backwards.{stands_before-chain, stands_before-either}
use Rattle.assertions.proofs.Endings.{alternative-member, from_alternative}
use Rattle.assertions.proofs.Firsts.{first_alternative}
use Rattle.irv_base.specs.Candidates.{set_of}
use Rattle.irv_base.proofs.Distinct.{Distinct, distinct-le, distinct-push, distinct-range}
use Rattle.irv_base.proofs.Members.{Member, member-append_cases, member_cases, member_nil, member-filter, from_filter, from_list_any, list_any-member, find-member, from_find, range-member}
use Rattle.irv_base.proofs.Orders.{order_facts}
use Rattle.irv_base.proofs.Suffixes.{suffix-set, suffix_whole}
use Rattle.irv_base.proofs.Sames.{distinct-filter}
use Rattle.set_walk.specs.Walks.{walks, first_by_sets, counted, counts, is_passed, standing, is_standing}
use Rattle.set_walk.specs.Dives.{Seen, dives, walked}
use Rattle.set_walk.specs.declared.walk.Stop.TheVariants.{Found, Spent, Memory}
use Rattle.set_walk.specs.declared.walk.WalkFault.TheVariants.{Spent as SpentFault}
use Rattle.assertions.proofs.Agreeing.{filter-same, any-same}
use Rattle.set_walk.proofs.Exact.{Walks, Inv, AtFound, AtSpent, Before, Outcome, outcome}
use Rattle.set_walk.proofs.Firsts.{first_is}
use Rattle.set_walk.proofs.Orders.{alternative-suffix}
use Rattle.set_walk.proofs.Places.{Gone, below}
use Rattle.set_walk.proofs.Standing.{from_others, other-member, standing-member}

module _ (n winner : ℕ) (goes : ℕ → ℕ → Bool) where
  abbrev W : List ℕ → Type 0
  W t = Walks n winner goes t

  abbrev first : Option (List ℕ)
  first = first_by_sets n winner goes

  -- a whole suffix that walks is an alternative order that walks, and vice versa
  whole-order : (x : List ℕ) → W x → length x ≡ n → Member x (alternative_orders n winner)
  whole-order x w long = alternative-member n winner w.is.elected x (suffix_whole n x w.is.proper long) w.is.other w.is.elects

  order-walks : (x : List ℕ) → Member x (alternative_orders n winner) → walks goes x ≡ true → W x × (length x ≡ n)
  order-walks x m h =
      let (o, (c, ne, e)) = from_alternative n winner x m in
      (record { is = record { proper = alternative-suffix n winner x m; elected = c; other = ne; elects = e }; going = h }, (order_facts n x o).long)

  from_first : (x : List ℕ) → first ≡ Some x → W x × (length x ≡ n)
  from_first x h =
      let (m, t) = from_find (walks goes) x (alternative_orders n winner) (first_is n goes winner ∙ h) in
      order-walks x m t

  some-first : (x : List ℕ) → W x → length x ≡ n → (y : List ℕ) × (first ≡ Some y) × ((y ≡ x) ⊎ Before x y)
  some-first x w long =
      let m = whole-order x w long in
      let (y, f) = find-member (walks goes) x (alternative_orders n winner) m w.going in
      (y, sym (first_is n goes winner) ∙ f, first_alternative n winner (walks goes) y x f m w.going)

  -- ---- what counts
  abbrev test : ℕ → List ℕ → Bool
  test set t = nat_lt (length t) n && ((set_of t == set) && (walks goes t && is_passed first t))

  from_counted : (set : ℕ) → Member set (counted n winner goes) → (t : List ℕ) × W t × (length t < n) × (set_of t ≡ set) × (is_passed first t ≡ true)
  from_counted set m =
      let (_, h) = from_filter (counts n winner goes) (range_with_len 0 (2 ^ n)) m in
      let (t, k, both) = from_list_any (test set) (alternative_suffixes n winner) h in
      let (s, r) = and_parts (nat_lt (length t) n) ((set_of t == set) && (walks goes t && is_passed first t)) both in
      let (e, r') = and_parts (set_of t == set) (walks goes t && is_passed first t) r in
      let (w, p) = and_parts (walks goes t) (is_passed first t) r' in
      (t, record { is = from_others n winner t k; going = w }, ltb-true (length t) n s, eqb-true (set_of t) set e, p)

  counted-member : (set : ℕ) (t : List ℕ) → W t → length t < n → set_of t ≡ set → is_passed first t ≡ true → Member set (counted n winner goes)
  counted-member set t w short e p =
      let l = suffix-set n t w.is.proper in
      member-filter (counts n winner goes) (range_with_len 0 (2 ^ n)) (range-member set 0 (2 ^ n) (omega arith) (omega (arith, l, e)))
      (list_any-member (test set) (other-member n winner t w.is)
      (and_from (nat_lt (length t) n) ((set_of t == set) && (walks goes t && is_passed first t)) (lt-ltb (length t) n short)
      (and_from (set_of t == set) (walks goes t && is_passed first t) (eq-eqb (set_of t) set e)
      (and_from (walks goes t) (is_passed first t) w.going p))))

  counted-apart : Distinct (counted n winner goes)
  counted-apart = distinct-filter (counts n winner goes) (range_with_len 0 (2 ^ n)) (distinct-range 0 (2 ^ n))

  -- ---- the three ends
  module _ (sets : ℕ) (some : 0 < n) where
    abbrev budget : ℕ
    budget = length (counted n winner goes)

    none-left : (seen : List ℕ) → Inv n winner goes (Gone [] n) seen → first ≡ None
    none-left seen i = go first refl where
      all : (x : List ℕ) → W x → Gone [] n x
      all x w =
          let s = Rattle.assertions.proofs.Endings.suffix_facts n x w.is.proper in
          let (b, e) = w.is.elects in
          below w.is.elected (s.below w.is.elected (subst (Member w.is.elected) (sym e) (Rattle.irv_base.proofs.Members.member-append_right b
          Rattle.irv_base.proofs.Members.here))) (b, e)

      go : (o : Option (List ℕ)) → first ≡ o → first ≡ None
      go None e = e
      go (Some x) e =
          let (w, long) = from_first x e in
          let short = i.none x (all x w) w in
          absurd (omega (arith, short, long))

    pub gone-all : (x : List ℕ) → W x → Gone [] n x
    gone-all x w =
        let s = Rattle.assertions.proofs.Endings.suffix_facts n x w.is.proper in
        let (b, e) = w.is.elects in
        below w.is.elected (s.below w.is.elected (subst (Member w.is.elected) (sym e) (Rattle.irv_base.proofs.Members.member-append_right b
        Rattle.irv_base.proofs.Members.here))) (b, e)

    -- nothing is found
    at-end : (seen : List ℕ) → Inv n winner goes (Gone [] n) seen → length seen ≤ sets → (first ≡ None) × (budget ≤ sets)
    at-end seen i few =
        let le = distinct-le (counted n winner goes) seen counted-apart (λ set m.
        let (t, w, short, e, p) = from_counted set m in
        subst (λ z. Member z seen) e (i.complete t (gone-all t w) w)) in
        (none-left seen i, omega (arith, le, few))

    at-found : (order : List ℕ) → AtFound n winner sets goes order → (first ≡ Some order) × (budget ≤ sets)
    at-found order a =
        let (y, f, ne) = some-first order a.walk a.whole in
        let (wy, long) = from_first y f in
        let same : y ≡ order = elim ne [
          | inl e ↦ e
          | inr b ↦ let short = a.inv.none y b wy in absurd (omega (arith, short, long))
        ] in
        let f' : first ≡ Some order = f ∙ ap Some same in
        let le = distinct-le (counted n winner goes) a.seen counted-apart (λ set m.
        let (t, w, short, e, p) = from_counted set m in
        subst (λ z. Member z a.seen) e (a.inv.complete t (sym (ap (λ o. is_passed o t) f') ∙ p) w)) in
        let few = a.few in
        (f', omega (arith, le, few))

    at-spent : AtSpent n winner sets goes → sets < budget
    at-spent a =
        let le = distinct-le (a.seen ++ set_of a.at ∷ []) (counted n winner goes) (distinct-push a.seen (set_of a.at) a.inv.apart a.new) (λ s m.
        elim (member-append_cases a.seen (set_of a.at ∷ []) m) [
          | inl k ↦ let (x, b, w, short, e) = a.inv.sound s k in counted-member s x w short e (earlier-passes x b first refl)
          | inr k ↦ elim (member_cases k) [
            | inl e ↦ counted-member s a.at a.walk a.short e (at-passes first refl)
            | inr r ↦ absurd (member_nil r)
          ]
        ]) in
        let long = length-append a.seen (set_of a.at ∷ []) in
        let full = a.full in
        omega (arith, le, long, full)
      where
        -- the place comes before the first order
        at-first : (y : List ℕ) → first ≡ Some y → Before y a.at
        at-first y f =
            let (w, long) = from_first y f in
            elim (cases_Bool (comes_before a.at y)) [
              | inl t ↦ t
              | inr no' ↦
                  elim (stands_before-either (Rattle.std.proofs.Common.reverse a.at) (Rattle.std.proofs.Common.reverse y) no') [
                    | inl e ↦
                        let short = a.short in
                        let q = ap length e in
                        let l = Rattle.std.proofs.lemmas.List.length-reverse a.at in
                        let l' = Rattle.std.proofs.lemmas.List.length-reverse y in
                        absurd (omega (arith, q, l, l', short, long))
                    | inr b ↦ let short = a.inv.none y b w in absurd (omega (arith, short, long))
                  ]
            ]

        at-passes : (o : Option (List ℕ)) → first ≡ o → is_passed first a.at ≡ true
        at-passes None f = ap (λ o. is_passed o a.at) f
        at-passes (Some y) f = ap (λ o. is_passed o a.at) f ∙ at-first y f

        earlier-passes : (x : List ℕ) → Before a.at x → (o : Option (List ℕ)) → first ≡ o → is_passed first x ≡ true
        earlier-passes x b None f = ap (λ o. is_passed o x) f
        earlier-passes x b (Some y) f =
            ap (λ o. is_passed o x) f
            ∙ stands_before-chain (Rattle.std.proofs.Common.reverse x) (Rattle.std.proofs.Common.reverse a.at) (Rattle.std.proofs.Common.reverse y) b (at-first y f)

    by-end : (r : Seen) → Outcome n winner sets goes (Gone [] n) r → walked r ≡ (if nat_lt sets budget then Err SpentFault else Ok first)
    by-end (Ok seen) o =
        let (f, le) = at-end seen o.0 o.1 in
        sym (ap (λ b. if b then Err SpentFault else Ok first) (le-ltb sets budget le) ∙ ap Ok f)
    by-end (Err (Found order)) o =
        let (f, le) = at-found order o in
        sym (ap (λ b. if b then Err SpentFault else Ok first) (le-ltb sets budget le) ∙ ap Ok f)
    by-end (Err Spent) o = sym (ap (λ b. if b then Err SpentFault else Ok first) (lt-ltb sets budget (at-spent o)))
    by-end (Err Memory) o = absurd o

  pub walk_is : (sets : ℕ) → 0 < n → walked (dives n winner sets goes) ≡ (if nat_lt sets (length (counted n winner goes)) then Err SpentFault else Ok first)
  walk_is sets some = by-end sets some (dives n winner sets goes) (outcome n winner sets goes some)

  pub counted_stand : (length (counted n winner goes) ≤ length (standing n winner goes)) × (first ≡ None → counted n winner goes ≡ standing n winner goes)
  counted_stand = (
    distinct-le (counted n winner goes) (standing n winner goes) counted-apart (λ set m.
        let (t, w, short, e, p) = from_counted set m in
        standing-member n winner goes set t (record { is = w.is; short = short; going = w.going; same = e })),
    λ f. filter-same (counts n winner goes) (is_standing n winner goes) (range_with_len 0 (2 ^ n)) (λ set m.
        any-same (test set) (λ t. nat_lt (length t) n && ((set_of t == set) && walks goes t)) (alternative_suffixes n winner) (λ t k.
        ap (λ o. nat_lt (length t) n && ((set_of t == set) && (walks goes t && is_passed o t))) f
        ∙ ap (λ b. nat_lt (length t) n && ((set_of t == set) && b)) (and-true (walks goes t)))),
  )
    where
      and-true : (b : Bool) → (b && true) ≡ b
      and-true true = refl
      and-true false = refl
