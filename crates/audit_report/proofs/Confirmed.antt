-- Which claims are confirmed, one round more at a time.
use Rattle.std.proofs.Common.{◌≡◌, ◌||◌, ℕ, ◌+◌, ◌<◌, Bool, true, false, [], ◌∷◌, ◌++◌, length, take, get_or, refl, sym, ap, ◌∙◌}
use Rattle.std.specs.List.{list_any}
use Rattle.std.proofs.lemmas.List.{take_more}
use Rattle.std.proofs.lemmas.List.Folds.{list_any-append}
use Rattle.session_state.specs.Sessions.{Round, Session, is_confirmed_at, meets}

or_false : (a : Bool) → (a || false) ≡ a
or_false true = refl
or_false false = refl

-- by the round at this place, or before
pub confirmed_more : (session : Session) (i j : ℕ) (round : Round) → i < length session.rounds → round ≡ get_or session.rounds i round →
    is_confirmed_at session (i + 1) j ≡ (is_confirmed_at session i j || meets session.limit j round)
confirmed_more session i j round within is =
    let met = meets session.limit j in
    ap (list_any met) (take_more session.rounds i round within ∙ ap (λ r. take i session.rounds ++ r ∷ []) (sym is))
    ∙ list_any-append met (take i session.rounds) (round ∷ [])
    ∙ ap (λ b. list_any met (take i session.rounds) || b) (or_false (met round))
