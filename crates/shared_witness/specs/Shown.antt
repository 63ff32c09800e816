-- The race shown by the words and the views, read with the values of the pieces.
use Rattle.std.specs.Prelude.{ℕ, ◌==◌, min, not, List, map}
use Rattle.race_core.specs.Race.{Worker, Race}
use Rattle.shared_witness.specs.declared.view.View.{View}
use Rattle.shared_witness.specs.declared.view.Terms.{Terms}
use Rattle.shared_witness.specs.Moment.{Moment}

-- a seat that has seen or posted nothing smaller counts as having seen or posted the first bound
abbrev pub shown_worker : ℕ → View → Worker
shown_worker first v = record {
  taken = v.taken;
  closed = v.closed;
  seen = min first v.seen;
  posted = min first v.posted;
  looks = v.looks;
  done = not (v.ends == 0);
}

abbrev pub shown_race : List ℕ → Terms → Moment → Race
shown_race values t m =
    record {
      values = values;
      next = min m.ticket t.pieces;
      bound = m.bound;
      workers = map (shown_worker t.first) m.views;
    }
