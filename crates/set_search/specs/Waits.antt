-- The sets that a search may go into next.
use Rattle.std.specs.Prelude.{◌≡◌, ◌⊎◌, ℕ, ◌+◌, ◌<◌, ◌^◌, false, max, List, length, All, Contains}
use Rattle.std.specs.declared.cmp.Ordering.{Ordering}
use Rattle.std.specs.Ordering.{flip_args, nat_cmp, on, then_cmp}
use Rattle.irv_base.specs.Candidates.{has, members}
use Rattle.assertions.specs.Steps.{more, step}
use Rattle.set_search.specs.declared.waiting.Waiting.{Waiting}

-- the set with the smallest margin is the greatest; of equal margins the larger set is
abbrev pub least_first : Waiting → Waiting → Ordering
least_first = then_cmp (flip_args (on (λ o. o.margin) nat_cmp)) (on (λ o. o.size) nat_cmp)

-- the set with c added, by its step, or by the low at which the set was reached if that is greater
abbrev pub waiting_at : ℕ → List (List ℕ) → ℕ → ℕ → ℕ → Waiting
waiting_at n records low set c =
    record {
      margin = max (step n records set c) low;
      set = more set c;
      size = length (members set) + 1;
    }

-- they are sets of candidates below n
abbrev pub AreBelow : ℕ → List Waiting → Type 0
AreBelow n waiting = All (λ o. o.set < 2 ^ n) waiting

-- the waiting sets are now those that this set leads to, by one more candidate below k who isn't in `closed`, and those that waited before
pub record AreAddedUpTo (n : ℕ) (records : List (List ℕ)) (low set closed k : ℕ)
    (old new : List Waiting) : Type 0 where
  pub kept : (o : Waiting) → Contains old o → Contains new o
  pub each : (c : ℕ) → c < k → has closed c ≡ false →
      Contains new (waiting_at n records low set c)
  pub only : (o : Waiting) → Contains new o → Contains old o
      ⊎ ((c : ℕ) × (c < k) × (has closed c ≡ false) × (o ≡ waiting_at n records low set c))

abbrev pub AreAdded : ℕ → List (List ℕ) → ℕ → ℕ → ℕ → List Waiting → List Waiting → Type 0
AreAdded n records low set closed old new = AreAddedUpTo n records low set closed n old new
