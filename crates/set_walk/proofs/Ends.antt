-- What the code's walk answers at its end.
use Rattle.std.proofs.Common.{◌≡◌, ◌≢◌, ℕ, ◌<◌, Bool, ◌↔◌, List, [], Ok, sym, subst, Contains}
use Rattle.irv_base.proofs.Members.{Member, contains-from_member, member-from_contains}
use Rattle.set_walk.specs.Answers.{IsWalk, first_within}
use Rattle.set_walk.specs.Dives.{dives, stopped, first_of}
use Rattle.set_walk.specs.Walks.{standing}
use Rattle.set_walk.specs.declared.walk.Stop.{Stop}
use Rattle.set_walk.specs.declared.walk.Stop.TheVariants.{Found, Spent, Memory}
use Rattle.set_walk.proofs.Counted.{gone-all}
use Rattle.set_walk.proofs.Exact.{Walks, Inv, Outcome, outcome}
use Rattle.set_walk.proofs.Places.{Gone}
use Rattle.set_walk.proofs.Standing.{from_standing, standing-member}

module _ (n winner sets : ℕ) (goes : ℕ → ℕ → Bool) where
  -- it was in the sets that stand
  pub ended : 0 < n → (seen : List ℕ) → dives n winner sets goes ≡ Ok seen → (set : ℕ) → (Contains seen set ↔ Contains (standing n winner goes) set)
  ended some seen e set = (forth, back) where
    i : Inv n winner goes (Gone [] n) seen
    i = (subst (Outcome n winner sets goes (Gone [] n)) e (outcome n winner sets goes some)).0

    forth : Contains seen set → Contains (standing n winner goes) set
    forth m =
        let (x, _, w, short, same) = i.sound set (member-from_contains set seen m) in
        contains-from_member (standing-member n winner goes set x (record { is = w.is; short = short; going = w.going; same = same }))

    back : Contains (standing n winner goes) set → Contains seen set
    back m =
        let (t, s) = from_standing n winner goes set (member-from_contains set (standing n winner goes) m) in
        let w : Walks n winner goes t = record { is = s.is; going = s.going } in
        contains-from_member (subst (λ z. Member z seen) s.same (i.complete t (gone-all n winner goes sets some t w) w))

  pub stopped-walk : (stop : Stop) → (stop ≢ Memory → first_of stop ≡ first_within n winner sets goes) → IsWalk n winner sets goes (stopped stop)
  stopped-walk (Found order) h = sym (h (λ e. cc))
  stopped-walk Spent h = sym (h (λ e. cc))
  stopped-walk Memory h = tt
