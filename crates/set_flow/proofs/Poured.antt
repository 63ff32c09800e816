-- A unit that flows forward over a step, and then from the set that the step leads to.
use Rattle.std.proofs.Common.{◌≡◌, ℕ, ◌+◌, ◌<◌, ◌^◌, true, false, bit_or, List, sym, ap, subst, arith, ◌∙◌}
use Rattle.std.proofs.Math.Pow.{pow-lt}
use Rattle.std.proofs.lemmas.Nat.{or_lt}
use Rattle.irv_base.specs.Candidates.{candidates, has, set_of}
use Rattle.irv_base.proofs.Bits.{with-number}
use Rattle.assertions.specs.Steps.{more}
use Rattle.fewest.specs.Flows.{HasOneMore}
use Rattle.fewest.proofs.Drawing.{draw_grows}
use Rattle.fewest.specs.Growth.{Draws, begins, on}
use Rattle.set_flow.specs.Rooms.{room_of, is_free}
use Rattle.set_flow.specs.Kept.{HasMore}
use Rattle.set_flow.proofs.Rooms.{free-has_room}

pub begins-at : (n winner : ℕ) (records : List (List ℕ)) (floor : ℕ) (flow : ℕ → ℕ → ℕ) (set all : ℕ) → set ≡ all → all ≡ set_of (candidates n) →
    Draws n winner records floor flow flow set
begins-at n winner records floor flow set all e f = subst (Draws n winner records floor flow flow) (sym (e ∙ f)) begins

pub flows-on : (n winner : ℕ) (records : List (List ℕ)) (floor : ℕ) (old between new : ℕ → ℕ → ℕ) (set c next : ℕ) →
    is_free (room_of n winner records floor set c) (old set c) ≡ true → between set c ≡ old set c → next ≡ set + 2 ^ c →
    Draws n winner records floor old between next → HasOneMore between new set c → Draws n winner records floor old new set
flows-on n winner records floor old between new set c next free same number before more-one =
    let n' : next ≡ more set c = omega (arith, number) in
    on (subst (Draws n winner records floor old between) n' before)
    (free-has_room n winner records floor set c between (ap (is_free (room_of n winner records floor set c)) same ∙ free)) more-one

pub next-below : (n set c next : ℕ) → set < 2 ^ n → c < n → has set c ≡ false → next ≡ set + 2 ^ c → next < 2 ^ n
next-below n set c next small below out number =
    let e = with-number set c out in
    subst (λ s. s < 2 ^ n) (let h : bit_or set (2 ^ c) ≡ next = omega (arith, e, number) in h) (or_lt n set (2 ^ c) small (pow-lt below))

-- one more unit
pub more-units : (n winner floor : ℕ) (records : List (List ℕ)) (old before new : ℕ → ℕ → ℕ) (units : ℕ) → 0 < n →
    HasMore n winner records floor old before units → Draws n winner records floor before new 0 → HasMore n winner records floor old new (units + 1)
more-units n winner floor records old before new units some h draws =
    let (flow, v) = draw_grows n winner floor records before new some h.flow draws in
    let m = h.more in
    record { flow = flow; more = omega (arith, v, m) }
