-- What the room of a step says about the step.
use Rattle.std.proofs.Common.{◌≡◌, ℕ, ◌<◌, Bool, true, false, not, ◌&&◌, if◌then◌else◌, inl, inr, List, sym, ap, refl, eqb-true, eq-eqb, arith, ◌∙◌}
use Rattle.std.proofs.lemmas.Bool.{and_parts, and_from, both_ways, cases_Bool, not_from_false, not-true}
use Rattle.fewest.specs.Cuts.{is_step}
use Rattle.fewest.specs.Flows.{is_barred, is_cuttable, IsFlow}
use Rattle.fewest.specs.Growth.{HasRoom}
use Rattle.set_flow.specs.Rooms.{room_of, is_open, is_free}
use Rattle.set_flow.specs.declared.room.Room.{Room}
use Rattle.set_flow.specs.declared.room.Room.TheVariants.{Closed, One, Many}

module _ (n winner : ℕ) (records : List (List ℕ)) (floor set c : ℕ) where
  abbrev pub stands : Bool
  stands = is_step n winner set c && not (is_barred n records floor set c)

  abbrev pub cuttable : Bool
  cuttable = is_cuttable n records floor set c

  pub closed-is : stands ≡ false → room_of n winner records floor set c ≡ Closed
  unfolding room_of
  closed-is f = ap (λ b. if b then (if cuttable then One else Many) else Closed) f

  pub one-is : stands ≡ true → cuttable ≡ true → room_of n winner records floor set c ≡ One
  unfolding room_of
  one-is t u = ap (λ b. if b then (if cuttable then One else Many) else Closed) t ∙ ap (λ b. if b then One else Many) u

  pub many-is : stands ≡ true → cuttable ≡ false → room_of n winner records floor set c ≡ Many
  unfolding room_of
  many-is t u = ap (λ b. if b then (if cuttable then One else Many) else Closed) t ∙ ap (λ b. if b then One else Many) u

  -- an open step is there, and no NEB bars it
  pub open-stands : is_open (room_of n winner records floor set c) ≡ true → stands ≡ true
  open-stands o =
      elim (cases_Bool stands) [
        | inl t ↦ t
        | inr f ↦ absurd (both_ways (is_open (room_of n winner records floor set c)) (ap is_open (closed-is f)) o)
      ]

  pub stands-open : stands ≡ true → is_open (room_of n winner records floor set c) ≡ true
  stands-open t =
      elim (cases_Bool cuttable) [
        | inl u ↦ ap is_open (one-is t u)
        | inr u ↦ ap is_open (many-is t u)
      ]

  pub open-step : is_open (room_of n winner records floor set c) ≡ true → is_step n winner set c ≡ true
  open-step o = (and_parts (is_step n winner set c) (not (is_barred n records floor set c)) (open-stands o)).0

  free-open : (room : Room) (carries : ℕ) → is_free room carries ≡ true → is_open room ≡ true
  free-open Closed carries f = absurd (both_ways (is_free Closed carries) refl f)
  free-open One carries f = refl
  free-open Many carries f = refl

  -- if there is room for one more unit, the step has room
  pub free-has_room : (flow : ℕ → ℕ → ℕ) → is_free (room_of n winner records floor set c) (flow set c) ≡ true → HasRoom n winner records floor flow set c
  free-has_room flow f =
      let t = open-stands (free-open (room_of n winner records floor set c) (flow set c) f) in
      let (step, free) = and_parts (is_step n winner set c) (not (is_barred n records floor set c)) t in
      record {
        step = step;
        free = not-true (is_barred n records floor set c) free;
        empty = λ u. eqb-true (flow set c) 0 (sym (ap (λ r. is_free r (flow set c)) (one-is t u)) ∙ f);
      }

  -- and vice versa
  pub has_room-free : (flow : ℕ → ℕ → ℕ) → HasRoom n winner records floor flow set c → is_free (room_of n winner records floor set c) (flow set c) ≡ true
  has_room-free flow h =
      let t = and_from (is_step n winner set c) (not (is_barred n records floor set c)) h.step (not_from_false (is_barred n records floor set c) h.free) in
      elim (cases_Bool cuttable) [
        | inl u ↦ ap (λ r. is_free r (flow set c)) (one-is t u) ∙ eq-eqb (flow set c) 0 (h.empty u)
        | inr u ↦ ap (λ r. is_free r (flow set c)) (many-is t u)
      ]

  -- a step that carries something is open
  pub carries-open : (flow : ℕ → ℕ → ℕ) → IsFlow n winner records floor flow → is_step n winner set c ≡ true → 0 < flow set c →
      is_open (room_of n winner records floor set c) ≡ true
  carries-open flow is step some =
      elim (cases_Bool (is_barred n records floor set c)) [
        | inl b ↦ let z = is.none set c step b in absurd (omega (arith, z, some))
        | inr f ↦ stands-open (and_from (is_step n winner set c) (not (is_barred n records floor set c)) step (not_from_false (is_barred n records floor set c) f))
      ]
