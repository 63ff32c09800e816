-- How the steps of a seat change its view.
use Rattle.std.proofs.Common.{◌≡◌, ℕ, ◌+◌, ◌-◌, ◌<◌, ◌≤◌, nat_lt, min, [], ◌∷◌, ◌++◌, ap, ◌∙◌}
use Rattle.std.proofs.lemmas.Bool.{cond-true, cond-false, lt-ltb, le-ltb}
use Rattle.shared_witness.specs.declared.view.View.{View}
use Rattle.shared_witness.specs.View.{view_after_take, view_after_look, view_after_post, view_after_close}

-- a take that found a piece
pub took_piece : (pieces piece : ℕ) (old new : View) → piece < pieces → new ≡ view_after_take pieces piece old →
    new ≡ record old { taken = old.taken ++ piece ∷ [] }
took_piece pieces piece old new left takes = takes ∙ cond-true (nat_lt piece pieces) _ _ (lt-ltb piece pieces left)

-- a take that found no piece
pub took_none : (pieces found : ℕ) (old new : View) → pieces ≤ found → new ≡ view_after_take pieces found old →
    new ≡ record old { ends = old.ends + 1; may = old.may - 1 }
took_none pieces found old new past takes = takes ∙ cond-false (nat_lt found pieces) _ _ (le-ltb found pieces past)

module _ (bound closing : ℕ) (old looked new : View) (looks : looked ≡ view_after_look bound old) where
  -- a look, and a post
  pub posted_view : (value : ℕ) → new ≡ view_after_post closing value looked →
      new ≡ record old { seen = min closing value; posted = min old.posted value; looks = old.looks + 1 }
  posted_view value posts = posts ∙ ap (view_after_post closing value) looks

  -- a look, and a closing look
  pub closed_view : (piece : ℕ) → new ≡ view_after_close closing piece looked →
      new ≡ record old { seen = closing; looks = old.looks + 1 + 1; closed = old.closed ++ piece ∷ [] }
  closed_view piece closes = closes ∙ ap (view_after_close closing piece) looks
