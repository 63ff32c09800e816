-- The sets that a search ends with, if it doesn't reach the set of all.
use Rattle.std.proofs.Common.{◌≡◌, ℕ, ◌<◌, Bool, true, ◌&&◌, nat_lt, if◌then◌else◌, List, length, sym, ap, lt-ltb, ◌∙◌}
use Rattle.std.proofs.lemmas.Bool.{and_from}
use Rattle.irv_base.specs.Candidates.{candidates, set_of}
use Rattle.assertions.specs.Steps.{more}
use Rattle.fewest.specs.Cuts.{is_step, IsCut}
use Rattle.fewest.specs.Flows.{IsFlow}
use Rattle.fewest.specs.Growth.{HasRoom, IsStuck}
use Rattle.fewest.proofs.Flowing.{step_facts}
use Rattle.set_walk.specs.Dives.{is_seen}
use Rattle.set_flow.specs.declared.room.Room.{Room}
use Rattle.set_flow.specs.declared.seen.Seen.{Seen}
use Rattle.set_flow.specs.Rooms.{AreRooms, is_open, is_free}
use Rattle.set_flow.specs.Seen.{less, turned, can_go, AreLooked}
use Rattle.set_flow.specs.Searched.{IsShut}
use Rattle.set_flow.proofs.Places.{place-of, seen-at}
use Rattle.set_flow.proofs.Rooms.{has_room-free, carries-open}
use Rattle.set_flow.proofs.Turning.{turned-in, turned-out, has-more, less-more}

pub shut-cut : (n all : ℕ) (seen : Seen) → all ≡ set_of (candidates n) → IsShut n all seen →
    IsCut n (is_seen seen.sets.keys)
shut-cut n all seen e is = record {
  nobody = seen-at seen.sets.keys 0 0 is.linked.some is.linked.nobody;
  all = ap (is_seen seen.sets.keys) (sym e) ∙ is.none;
}

module _ (n winner floor : ℕ) (records : List (List ℕ)) (rooms : ℕ → ℕ → Room) (are : AreRooms n winner records floor rooms) (flow : ℕ → ℕ → ℕ)
    (carrying : IsFlow n winner records floor flow) (seen : Seen) (looked : AreLooked n rooms flow seen.sets.keys (length seen.sets.keys)) where
  abbrev within : ℕ → Bool
  within = is_seen seen.sets.keys

  goes-within : (set c : ℕ) → within set ≡ true → c < n → can_go rooms flow set c ≡ true → within (turned set c) ≡ true
  goes-within set c w below goes =
      let (k, l, e) = place-of seen.sets.keys set w in
      ap (λ s. within (turned s c)) (sym e) ∙ looked k l c below (ap (λ s. can_go rooms flow s c) e ∙ goes)

  stays-on : (set c : ℕ) → within set ≡ true → HasRoom n winner records floor flow set c → within (more set c) ≡ true
  stays-on set c w room =
      let s = step_facts n winner set c room.step in
      let free : is_free (rooms set c) (flow set c) ≡ true =
      ap (λ r. is_free r (flow set c)) (are.each set c s.small s.below s.out) ∙ has_room-free n winner records floor set c flow room in
      ap within (sym (turned-out set c s.out))
      ∙ goes-within set c w s.below
      (ap (λ b. if b then nat_lt 0 (flow (less set c) c) && is_open (rooms (less set c) c) else is_free (rooms set c) (flow set c)) s.out ∙ free)

  stays-back : (set c : ℕ) → is_step n winner set c ≡ true → within (more set c) ≡ true → 0 < flow set c → within set ≡ true
  stays-back set c step w some =
      let s = step_facts n winner set c step in
      let in' = has-more set c s.out in
      let open-there : is_open (rooms set c) ≡ true =
      ap is_open (are.each set c s.small s.below s.out) ∙ carries-open n winner records floor set c flow carrying step some in
      let both : (nat_lt 0 (flow set c) && is_open (rooms set c)) ≡ true = and_from (nat_lt 0 (flow set c)) (is_open (rooms set c)) (lt-ltb 0 (flow set c) some) open-there in
      ap within (sym (turned-in (more set c) c in' ∙ less-more set c))
      ∙ goes-within (more set c) c w s.below
      (ap (λ b. if b then nat_lt 0 (flow (less (more set c) c) c) && is_open (rooms (less (more set c) c) c)
      else is_free (rooms (more set c) c) (flow (more set c) c)) in'
      ∙ ap (λ t. nat_lt 0 (flow t c) && is_open (rooms t c)) (less-more set c) ∙ both)

  pub shut-stuck : IsStuck n winner records floor flow (is_seen seen.sets.keys)
  shut-stuck = record { on = stays-on; back = stays-back }
