-- A moment, as stored in the table of words and seats.
use Rattle.std.specs.Prelude.{ℕ, ◌≡◌, ◌≤◌, ◌<◌, ◌^◌, length, slice_index}
use Rattle.irv_base.specs.declared.limits.TheConstants.{MOST_WORKERS}
use Rattle.atomic_table.specs.Table.{State}
use Rattle.shared_witness.specs.declared.view.View.{View}
use Rattle.shared_witness.specs.declared.view.Terms.{Terms}
use Rattle.shared_witness.specs.Moment.{Moment, RaceRule}

-- the first word is the ticket, and the second the bound
abbrev pub moment_of : State ℕ View → Moment
moment_of s =
    record { ticket = slice_index s.words 0; bound = slice_index s.words 1; views = s.views }

abbrev pub AreTerms : Terms → Type 0
AreTerms t = (t.pieces < 2 ^ 32) × (t.first < 2 ^ 32) × (t.workers ≤ MOST_WORKERS)

abbrev pub Holds : Terms → State ℕ View → Type 0
Holds t s = (length s.words ≡ 2) × AreTerms t × RaceRule t (moment_of s)
