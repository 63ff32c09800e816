-- A single step of a seat: between two moments at which the rule holds, it changes the words and the view of the seat.
use Rattle.std.specs.Prelude.{ℕ, ◌≡◌, slice_get, Some}
use Rattle.shared_witness.specs.declared.view.View.{View}
use Rattle.shared_witness.specs.declared.view.Terms.{Terms}
use Rattle.shared_witness.specs.Moment.{Moment, RaceRule, after_take, after_look, after_post, after_close}

-- the seat with number k goes from the view `old` to the view `new`, and the race from one moment to the next
pub record IsStep (t : Terms) (k : ℕ) (old new : View) (before after : Moment) : Type 0 where
  pub held : RaceRule t before
  pub holds : RaceRule t after
  pub had : slice_get before.views k ≡ Some old
  pub has : slice_get after.views k ≡ Some new

-- Each of these says that the step fits some moment of a race under these terms: there, a seat with the view `old` makes it, and finds the
-- value `found` in the word. They don't say that this moment was the race's own, nor that k is the number of the seat that made the step:
-- the view is all that ties them to it.
module _ (t : Terms) (old : View) (found : ℕ) (new : View) where
  unfoldable pub Takes : Type 0
  Takes = (m : Moment) × (k : ℕ) × (found ≡ m.ticket) × IsStep t k old new m (after_take t m k old)

  unfoldable pub Looks : Type 0
  Looks = (m : Moment) × (k : ℕ) × (found ≡ m.bound) × IsStep t k old new m (after_look m k old)

  unfoldable pub Posts : ℕ → Type 0
  Posts value =
      (m : Moment) × (k : ℕ) × (found ≡ m.bound) × IsStep t k old new m (after_post m k old value)

  unfoldable pub Closes : ℕ → Type 0
  Closes piece =
      (m : Moment) × (k : ℕ) × (found ≡ m.bound) × IsStep t k old new m (after_close m k old piece)
