-- The part of a worker, as it goes through its candidates; and the parts of all workers.
use Rattle.std.proofs.Common.{◌≡◌, ◌≢◌, ℕ, ◌+◌, ◌%◌, ◌<◌, ◌≤◌, ◌⊎◌, ◌==◌, Bool, true, false, ◌&&◌, nat_lt, inl, inr, List, [], ◌∷◌, ◌++◌, length, get_or, Result, Option, Some, None, refl, subst, arith, ltb-true, lt-ltb, eq-eqb, eqb-true, ◌∙◌}
use Rattle.std.specs.Option.{MatchOption, is_some}
use Rattle.std.proofs.lemmas.Bool.{cases_lt, both_ways}
use Rattle.irv_base.specs.declared.memory.Memory.{Memory}
use Rattle.set_tallies.specs.Bags.{Kept}
use Rattle.certifier.specs.declared.gather.Task.{Task}
use Rattle.certifier.specs.declared.part.Part.{Part}
use Rattle.certifier.specs.OneCandidate.{IsTask, IsNext}
use Rattle.certifier.specs.Parts.{IsOwn, IsOver, IsPart, IsBefore, HasPart, AreParts, is_dealt, is_any, in_either}
use Rattle.certifier.proofs.Claiming.{left_or, right_or, from_or}
use Rattle.certifier.proofs.Parting.{part-none, part-same, part-next}

-- those of the worker before c; those of the workers below a number
abbrev pub dealt_before : ℕ → ℕ → ℕ → ℕ → Bool
dealt_before workers number c d = is_dealt workers number d && nat_lt d c

abbrev pub dealt_below : ℕ → ℕ → ℕ → Bool
dealt_below workers number c = nat_lt (c % workers) number

both : (a b : Bool) → (a && b) ≡ true → (a ≡ true) × (b ≡ true)
both true b h = (refl, h)
both false b h = cc

and : (a b : Bool) → a ≡ true → b ≡ true → (a && b) ≡ true
and true b h k = k
and false b h k = cc

none_from : (o : Option ℕ) → is_some o ≡ false → o ≡ None
none_from None h = refl
none_from (Some a) h = cc

module _ (n : ℕ) (records : List (List ℕ)) (task : Task) (workers number : ℕ) where
  abbrev Own : ℕ → ℕ → Type 0
  Own c d = IsOwn n records task (dealt_before workers number c) d

  own_parts : (c d : ℕ) → Own c d → (is_dealt workers number d ≡ true) × (d < c)
  own_parts c d o = let (a, b) = both (is_dealt workers number d) (nat_lt d c) o.meant in (a, ltb-true d c b)

  own_from : (c d : ℕ) → d < n → d ≢ task.winner → is_dealt workers number d ≡ true → d < c → Own c d
  own_from c d l ne a b = record { below = l; alternative = ne; meant = and (is_dealt workers number d) (nat_lt d c) a (lt-ltb d c b) }

  pub deal-none : (p : Part) → p.claims ≡ [] → p.over ≡ None → p.end ≡ None → IsPart n records task (dealt_before workers number 0) p
  deal-none p empty over end = part-none n records task (dealt_before workers number 0) p (λ d o. let l = (own_parts 0 d o).1 in
      absurd (omega arith)) empty over end

  pub deal-next : IsTask n records task → 1 < n → (c : ℕ) (p q : Part) → c < n → c ≢ task.winner → is_dealt workers number c ≡ true → is_some p.over ≡ false →
      IsPart n records task (dealt_before workers number c) p →
      IsNext n records task c p q → IsPart n records task (dealt_before workers number (c + 1)) q
  deal-next is two c p q below other mine open_end h x =
      part-next n records task is two (dealt_before workers number c) (dealt_before workers number (c + 1)) c p q
      (own_from (c + 1) c below other mine (omega arith))
      (λ d o. let (a, l) = own_parts c d o in own_from (c + 1) d o.below o.alternative a (omega arith))
      (λ d o. let (a, l) = own_parts (c + 1) d o in elim (cases_lt d c) [ inl lt ↦ inl (own_from c d o.below o.alternative a lt) | inr ge ↦ inr (omega arith) ])
      (λ d o. (own_parts c d o).1) (none_from p.over open_end) h x

  pub deal-passes : (c : ℕ) (p : Part) → (is_dealt workers number c ≡ false) ⊎ (c ≡ task.winner) → IsPart n records task (dealt_before workers number c) p →
      IsPart n records task (dealt_before workers number (c + 1)) p
  deal-passes c p why =
      part-same n records task (dealt_before workers number c) (dealt_before workers number (c + 1)) p
      (λ d o b.
      let (a, l) = own_parts (c + 1) d o in
      elim (cases_lt d c) [
        | inl lt ↦ own_from c d o.below o.alternative a lt
        | inr ge ↦
            let same : d ≡ c = omega arith in
            elim why [
              | inl f ↦ absurd (both_ways (is_dealt workers number c) f (subst (λ k. is_dealt workers number k ≡ true) same a))
              | inr w ↦ absurd
                  (o.alternative (same ∙ w))
            ]
      ])
      (λ d o. let (a, l) = own_parts c d o in own_from (c + 1) d o.below o.alternative a (omega arith))

  own_all : (c d : ℕ) → Own c d → IsOwn n records task (is_dealt workers number) d
  own_all c d o = record { below = o.below; alternative = o.alternative; meant = (own_parts c d o).0 }

  pub deal-ends : (c : ℕ) (p : Part) → n ≤ c → IsPart n records task (dealt_before workers number c) p → IsPart n records task (is_dealt workers number) p
  deal-ends c p le =
      part-same n records task (dealt_before workers number c) (is_dealt workers number) p (λ d o b. let l = o.below in
      own_from c d l o.alternative o.meant (omega arith)) (own_all c)

  deal-over : (c : ℕ) (p : Part) (last : ℕ) → p.over ≡ Some last → IsPart n records task (dealt_before workers number c) p →
      IsPart n records task (is_dealt workers number) p
  deal-over c p last over h =
      let it : IsOver n records task (dealt_before workers number c) last =
      subst (λ o. MatchOption o (Unit {0}) (IsOver n records task (dealt_before workers number c))) over h.over in
      let low = (own_parts c last it.candidate).1 in
      part-same n records task (dealt_before workers number c) (is_dealt workers number) p
      (λ d o b. let l : d < last = subst (IsBefore d) over b in own_from c d o.below o.alternative o.meant (omega (arith, l, low))) (own_all c) h

  pub deal-stops : (c : ℕ) (p : Part) → is_some p.over ≡ true → IsPart n records task (dealt_before workers number c) p →
      IsPart n records task (is_dealt workers number) p
  deal-stops c p is h = go p.over refl is where
    go : (o : Option ℕ) → p.over ≡ o → is_some o ≡ true → IsPart n records task (is_dealt workers number) p
    go None e k = cc
    go (Some last) e k = deal-over c p last e h

-- ---- the workers in order
middle : {X : Type 0} (before rest : List X) (x d : X) → get_or (before ++ x ∷ rest) (length before) d ≡ x
middle [] rest x d = refl
middle (y ∷ before) rest x d = middle before rest x d

inside : {X : Type 0} (before rest : List X) (x : X) → length before < length (before ++ x ∷ rest)
inside [] rest x = omega arith
inside (y ∷ before) rest x = let l = inside before rest x in omega arith

pub part-at : (bag : Kept) (task : Task) (workers : ℕ) (parts before rest : List (Result Part Memory)) (part : Result Part Memory) →
    parts ≡ before ++ part ∷ rest → AreParts bag task workers parts →
    HasPart bag task workers (length before) part
part-at bag task workers parts before rest part whole h =
    let all : AreParts bag task workers (before ++ part ∷ rest) = subst (AreParts bag task workers) whole h in
    subst (HasPart bag task workers (length before)) (middle before rest part part) (all (length before) part (inside before rest part))

module _ (n : ℕ) (records : List (List ℕ)) (task : Task) (workers : ℕ) where
  pub join-next : (number more : ℕ) (p : Part) → more ≡ number + 1 →
      IsPart n records task (in_either (dealt_below workers number) (is_dealt workers number)) p → IsPart n records task (dealt_below workers more) p
  join-next number more p is =
      part-same n records task (in_either (dealt_below workers number) (is_dealt workers number)) (dealt_below workers more) p
      (λ d o b.
      let l : d % workers < more = ltb-true (d % workers) more o.meant in
      record {
        below = o.below;
        alternative = o.alternative;
        meant = elim (cases_lt (d % workers) number) [
          | inl lt ↦ left_or (nat_lt (d % workers) number) (d % workers == number) (lt-ltb (d % workers) number lt)
          | inr ge ↦ right_or (nat_lt (d % workers) number) (d % workers == number) (eq-eqb (d % workers) number (omega arith))
        ];
      })
      (λ d o. record {
        below = o.below;
        alternative = o.alternative;
        meant = lt-ltb (d % workers) more (elim (from_or (nat_lt (d % workers) number) (d % workers == number) o.meant) [
          | inl lt ↦ let l = ltb-true (d % workers) number lt in omega arith
          | inr eq ↦ let e = eqb-true (d % workers) number eq in omega arith
        ]);
      })

  pub join-all : (number : ℕ) (p : Part) → 1 ≤ workers → number ≡ workers → IsPart n records task (dealt_below workers number) p →
      IsPart n records task is_any p
  join-all number p some is =
      part-same n records task (dealt_below workers number) is_any p
      (λ d o b. record {
        below = o.below;
        alternative = o.alternative;
        meant = lt-ltb (d % workers) number (let l : d % workers < workers = search arith in
            omega arith);
      })
      (λ d o. record { below = o.below; alternative = o.alternative; meant = refl })
