-- A moment of a race that threads share, between two steps: the rule that holds at it, and the moments that follow it.
use Rattle.std.specs.Prelude.{ℕ, ◌+◌, ◌≡◌, ◌≢◌, ◌≤◌, ◌==◌, min, nat_lt, if◌then◌else◌, List, [], ◌∷◌, ◌++◌, length, All, sum_by, count_by, flat_map, slice_set}
use Rattle.shared_witness.specs.declared.view.View.{View}
use Rattle.shared_witness.specs.declared.view.Terms.{Terms}
use Rattle.shared_witness.specs.View.{new_view, spent_view, view_after_take, view_after_look, view_after_post, view_after_close, view_after_split, joined}

-- the two words, and the view of each seat
pub record Moment : Type 0 where
  pub ticket : ℕ
  pub bound : ℕ
  pub views : List View

abbrev pub taken_pieces : List View → List ℕ
taken_pieces views = flat_map (λ v. v.taken) views

abbrev pub closed_pieces : List View → List ℕ
closed_pieces views = flat_map (λ v. v.closed) views

-- the number of looks at the bound
abbrev pub all_looks : List View → ℕ
all_looks views = sum_by (λ v. v.looks) views

-- the number of takes that found no piece
abbrev pub ended_takes : List View → ℕ
ended_takes views = sum_by (λ v. v.ends) views

-- the smallest of the first bound and all posts
abbrev pub least_posted : ℕ → List View → ℕ
least_posted first [] = first
least_posted first (v ∷ views) = min v.posted (least_posted first views)

abbrev pub times : List ℕ → ℕ → ℕ
times pieces p = count_by (λ q. q == p) pieces

-- the numbers below n, each once
abbrev pub EachOnce : ℕ → List ℕ → Type 0
EachOnce n pieces = (p : ℕ) → times pieces p ≡ (if nat_lt p n then 1 else 0)

-- ---- the rule, in six parts

module _ (t : Terms) (m : Moment) where
  abbrev pub BoundIsLeastPosted : Type 0
  BoundIsLeastPosted = m.bound ≡ least_posted t.first m.views

  abbrev pub SeenIsBetween : Type 0
  SeenIsBetween = All (λ v. (m.bound ≤ v.seen) × (v.seen ≤ v.posted)) m.views

  abbrev pub EachPieceTakenOnce : Type 0
  EachPieceTakenOnce = EachOnce (min m.ticket t.pieces) (taken_pieces m.views)

  -- no piece is closed more often than it was taken, so each is closed at most once
  abbrev pub ClosedWereTaken : Type 0
  ClosedWereTaken = All (λ v. (p : ℕ) → times v.closed p ≤ times v.taken p) m.views

  abbrev pub TicketCountsTakes : Type 0
  TicketCountsTakes =
      (m.ticket ≡ length (taken_pieces m.views) + ended_takes m.views)
      × (ended_takes m.views ≢ 0 → length (taken_pieces m.views) ≡ t.pieces)

  -- each worker may end once, and a seat without such an end, past or future, is spent
  abbrev pub EndsAreShared : Type 0
  EndsAreShared =
      (sum_by (λ v. v.ends + v.may) m.views ≡ t.workers)
      × All (λ v. v.ends + v.may ≡ 0 → v ≡ spent_view) m.views

  pub record RaceRule : Type 0 where
    pub bound_is_least : BoundIsLeastPosted
    pub seen_between : SeenIsBetween
    pub taken_once : EachPieceTakenOnce
    pub closed_were_taken : ClosedWereTaken
    pub ticket_counts : TicketCountsTakes
    pub ends_are_shared : EndsAreShared

-- ---- the moment after each kind of step, by the seat with number k and view v

abbrev pub opening : Terms → Moment
opening t = record { ticket = 0; bound = t.first; views = new_view t.workers ∷ [] }

abbrev pub after_take : Terms → Moment → ℕ → View → Moment
after_take t m k v =
    record {
      ticket = m.ticket + 1;
      bound = m.bound;
      views = slice_set m.views k (view_after_take t.pieces m.ticket v);
    }

abbrev pub after_look : Moment → ℕ → View → Moment
after_look m k v =
    record {
      ticket = m.ticket;
      bound = m.bound;
      views = slice_set m.views k (view_after_look m.bound v);
    }

abbrev pub after_post : Moment → ℕ → View → ℕ → Moment
after_post m k v value =
    record {
      ticket = m.ticket;
      bound = min m.bound value;
      views = slice_set m.views k (view_after_post m.bound value v);
    }

abbrev pub after_close : Moment → ℕ → View → ℕ → Moment
after_close m k v piece =
    record {
      ticket = m.ticket;
      bound = m.bound;
      views = slice_set m.views k (view_after_close m.bound piece v);
    }

-- the new seat comes last
abbrev pub after_split : Moment → ℕ → View → Moment
after_split m k v =
    record {
      ticket = m.ticket;
      bound = m.bound;
      views = slice_set m.views k (view_after_split v) ++ new_view 1 ∷ [];
    }

-- the seat with number i and view w is joined to the seat with number k
abbrev pub after_join : Moment → ℕ → View → ℕ → View → Moment
after_join m k v i w =
    record {
      ticket = m.ticket;
      bound = m.bound;
      views = slice_set (slice_set m.views k (joined v w)) i spent_view;
    }
