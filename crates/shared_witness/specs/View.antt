-- What a seat knows of a race, and how its own steps change that.
use Rattle.std.specs.Prelude.{ℕ, ◌+◌, ◌-◌, ◌^◌, min, nat_lt, if◌then◌else◌, [], ◌∷◌, ◌++◌}
use Rattle.shared_witness.specs.declared.view.View.{View}

abbrev pub highest : ℕ
highest = 2 ^ 32 - 1

-- the view that has taken, closed, seen and posted nothing, of a seat for which this many takes may find no piece
abbrev pub new_view : ℕ → View
new_view may =
    record {
      taken = [];
      closed = [];
      seen = highest;
      posted = highest;
      looks = 0;
      ends = 0;
      may = may;
    }

-- what is left of a seat that was joined to another
abbrev pub spent_view : View
spent_view = new_view 0

-- the number found is the seat's piece, or no piece was left
abbrev pub view_after_take : ℕ → ℕ → View → View
view_after_take pieces found v =
    if nat_lt found pieces then record v { taken = v.taken ++ found ∷ [] }
    else record v { ends = v.ends + 1; may = v.may - 1 }

abbrev pub view_after_look : ℕ → View → View
view_after_look bound v = record v { seen = bound; looks = v.looks + 1 }

abbrev pub view_after_post : ℕ → ℕ → View → View
view_after_post bound value v = record v { seen = min bound value; posted = min v.posted value }

abbrev pub view_after_close : ℕ → ℕ → View → View
view_after_close bound piece v =
    record v { seen = bound; looks = v.looks + 1; closed = v.closed ++ piece ∷ [] }

-- a seat that gave a new seat one of its takes that may find no piece
abbrev pub view_after_split : View → View
view_after_split v = record v { may = v.may - 1 }

abbrev pub joined : View → View → View
joined v w = record {
  taken = v.taken ++ w.taken;
  closed = v.closed ++ w.closed;
  seen = min v.seen w.seen;
  posted = min v.posted w.posted;
  looks = v.looks + w.looks;
  ends = v.ends + w.ends;
  may = v.may + w.may;
}
