-- A unit that is drawn back along the way by which the set of all was seen.
use Rattle.std.proofs.Common.{◌≡◌, ◌≢◌, ℕ, ◌+◌, ◌<◌, true, false, ◌&&◌, ◌==◌, nat_lt, if◌then◌else◌, inl, inr, List, length, get_or, refl, sym, ap, subst, arith, eqb-true, ltb-true, ◌∙◌}
use Rattle.std.proofs.lemmas.Bool.{and_parts, both_ways, cases_Bool, false_from_ne_true}
use Rattle.irv_base.specs.Candidates.{candidates, has, set_of}
use Rattle.assertions.specs.Steps.{more}
use Rattle.fewest.specs.Flows.{HasOneMore}
use Rattle.fewest.specs.Growth.{Draws, begins, on, back}
use Rattle.set_flow.specs.declared.room.Room.{Room}
use Rattle.set_flow.specs.Rooms.{AreRooms, room_of, is_open, is_free}
use Rattle.set_flow.specs.Seen.{less, turned, can_go, AreLinked, AreLinks, IsAmongFirst, AreSame, IsUndone}
use Rattle.set_flow.proofs.Rooms.{free-has_room, open-step}
use Rattle.set_flow.proofs.Turning.{turned-in, turned-out, has-more, less-more, more-less, less-out}

-- the unit is drawn to the set at a place, and the flow over steps between the sets at places up to it is as before
pub record IsDrawn (n winner : ℕ) (records : List (List ℕ)) (floor : ℕ) (old : ℕ → ℕ → ℕ) (sets : List ℕ) (place : ℕ) (now : ℕ → ℕ → ℕ) : Type 0 where
  pub drawn : Draws n winner records floor old now (get_or sets place 0)
  pub same : AreSame sets (place + 1) old now

module _ (n winner floor : ℕ) (records : List (List ℕ)) (rooms : ℕ → ℕ → Room) (are : AreRooms n winner records floor rooms) (old : ℕ → ℕ → ℕ)
    (sets from by : List ℕ) (seen : AreLinked n sets from by) (links : AreLinks rooms old sets from by) where
  pub drawn-first : (place all : ℕ) → get_or sets place 0 ≡ all → all ≡ set_of (candidates n) → IsDrawn n winner records floor old sets place old
  drawn-first place all e f = record {
    drawn = subst (Draws n winner records floor old old) (sym (e ∙ f)) begins;
    same = λ set c a b. refl;
  }

  module _ (now next : ℕ → ℕ → ℕ) (place earlier c : ℕ) (some : 0 < place) (there : place < length sets)
      (at-from : earlier ≡ get_or from place 0) (at-by : c ≡ get_or by place 0) (is : IsDrawn n winner records floor old sets place now) where
    abbrev set : ℕ
    set = get_or sets place 0

    abbrev before : ℕ
    before = get_or sets earlier 0

    lower : earlier < place
    lower = let l = seen.earlier place some there in omega (arith, l, at-from)

    below : c < n
    below = let l = seen.candidate place some there in omega (arith, l, at-by)

    goes : can_go rooms old before c ≡ true
    goes =
        ap (λ k. can_go rooms old (get_or sets k 0) c) at-from ∙ ap (can_go rooms old (get_or sets (get_or from place 0) 0)) at-by
        ∙ (links place some there).goes

    to : set ≡ turned before c
    to =
        (links place some there).to
        ∙ sym (ap (λ k. turned (get_or sets k 0) c) at-from ∙ ap (turned (get_or sets (get_or from place 0) 0)) at-by)

    here : IsAmongFirst sets (place + 1) set
    here = (place, omega arith, refl)

    there-before : IsAmongFirst sets (place + 1) before
    there-before = (earlier, (let l = lower in omega (arith, l)), refl)

    -- the set isn't one of the earlier ones
    not-earlier : (s : ℕ) → IsAmongFirst sets (earlier + 1) s → s ≢ set
    not-earlier s (k, l, e) same = let m = lower in seen.apart k place (omega (arith, l, m)) there (e ∙ same)

    among : (s : ℕ) → IsAmongFirst sets (earlier + 1) s → IsAmongFirst sets (place + 1) s
    among s (k, l, e) = (k, (let m = lower in omega (arith, l, m)), e)

    -- the unit came on, to a set that has the candidate
    module _ (in' : has set c ≡ true) where
      was-out : has before c ≡ false
      was-out =
          false_from_ne_true (has before c) (λ t.
          both_ways (has set c) (ap (λ s. has s c) (to ∙ turned-in before c t) ∙ less-out before c t) in')

      came-on : set ≡ more before c
      came-on = to ∙ turned-out before c was-out

      before-is : less set c ≡ before
      before-is = ap (λ s. less s c) came-on ∙ less-more before c

      same-here : now before c ≡ old before c
      same-here = is.same before c there-before (subst (IsAmongFirst sets (place + 1)) came-on here)

      free : is_free (room_of n winner records floor before c) (now before c) ≡ true
      free =
          let room = are.each before c (seen.below earlier (let l = lower in omega (arith, l, there))) below was-out in
          let g : is_free (rooms before c) (old before c) ≡ true =
          sym (ap (λ b. if b then nat_lt 0 (old (less before c) c) && is_open (rooms (less before c) c) else is_free (rooms before c) (old before c)) was-out) ∙ goes in
          ap (is_free (room_of n winner records floor before c)) same-here ∙ sym (ap (λ r. is_free r (old before c)) room) ∙ g

      pub drawn-on : HasOneMore now next (less set c) c → IsDrawn n winner records floor old sets earlier next
      drawn-on one = record {
        drawn = on (subst (Draws n winner records floor old now) came-on is.drawn) (free-has_room n winner records floor before c now free)
            (subst (λ s. HasOneMore now next s c) before-is one);
        same = λ s d a b.
            (subst (λ s. HasOneMore now next s c) before-is one).elsewhere s d
            (false_from_ne_true ((before == s) && (c == d)) (λ t.
            let (p, q) = and_parts (before == s) (c == d) t in
            not-earlier (more s d) b
            (sym (ap (λ s. more s c) (eqb-true before s p) ∙ ap (more s) (eqb-true c d q)) ∙ sym came-on)))
            ∙ is.same s d (among s a) (among (more s d) b);
      }

    -- it came back, to a set without the candidate
    module _ (out : has set c ≡ false) where
      was-in : has before c ≡ true
      was-in =
          elim (cases_Bool (has before c)) [
            | inl t ↦ t
            | inr f ↦ absurd (both_ways (has set c) out (ap (λ s. has s c) (to ∙ turned-out before c f) ∙ has-more before c f))
          ]

      came-back : set ≡ less before c
      came-back = to ∙ turned-in before c was-in

      before-more : before ≡ more set c
      before-more = sym (more-less before c was-in) ∙ ap (λ s. more s c) (sym came-back)

      carries : (nat_lt 0 (old set c) ≡ true) × (is_open (rooms set c) ≡ true)
      carries =
          let g : (nat_lt 0 (old (less before c) c) && is_open (rooms (less before c) c)) ≡ true =
          sym (ap (λ b. if b then nat_lt 0 (old (less before c) c) && is_open (rooms (less before c) c) else is_free (rooms before c) (old before c)) was-in) ∙ goes in
          let h : (nat_lt 0 (old set c) && is_open (rooms set c)) ≡ true = ap (λ s. nat_lt 0 (old s c) && is_open (rooms s c)) came-back ∙ g in
          and_parts (nat_lt 0 (old set c)) (is_open (rooms set c)) h

      same-there : now set c ≡ old set c
      same-there = is.same set c here (subst (IsAmongFirst sets (place + 1)) before-more there-before)

      pub some-there : 0 < now set c
      some-there = let l = ltb-true 0 (old set c) carries.0 in let e = same-there in omega (arith, l, e)

      pub drawn-back : HasOneMore next now set c → IsDrawn n winner records floor old sets earlier next
      drawn-back one = record {
        drawn = subst (Draws n winner records floor old next) (sym before-more)
            (back is.drawn
            (open-step n winner records floor set c (sym (ap is_open (are.each set c (seen.below place there) below out)) ∙ carries.1)) one);
        same = λ s d a b.
            sym (one.elsewhere s d
            (false_from_ne_true ((set == s) && (c == d)) (λ t.
            let (p, q) = and_parts (set == s) (c == d) t in
            not-earlier s a (sym (eqb-true set s p)))))
            ∙ is.same s d (among s a) (among (more s d) b);
      }

  -- either one
  pub drawn-undone : (now next : ℕ → ℕ → ℕ) (place earlier c : ℕ) → 0 < place → place < length sets → earlier ≡ get_or from place 0 →
      c ≡ get_or by place 0 → IsDrawn n winner records floor old sets place now → IsUndone now next (get_or sets place 0) c →
      IsDrawn n winner records floor old sets earlier next
  drawn-undone now next place earlier c some there at-from at-by is undone =
      elim (cases_Bool (has (get_or sets place 0) c)) [
        | inl t ↦ drawn-on now next place earlier c some there at-from at-by is t (undone.on t)
        | inr f ↦
            drawn-back now next place earlier c some there at-from at-by is f
            (undone.back f (some-there now next place earlier c some there at-from at-by is f))
      ]
