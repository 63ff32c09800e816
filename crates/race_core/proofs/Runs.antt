-- Sequences of events, with one more added at a time.
use Rattle.std.proofs.Common.{◌≡◌, ◌+◌, Bool, true, false, cond, List, [], ◌∷◌, ◌++◌, Option, Some, None, ap, ◌∙◌}
use Rattle.std.specs.Option.{option_and_then, option_map_or}
use Rattle.race_core.specs.declared.event.Event.{Event}
use Rattle.race_core.specs.Race.{Race, worker_of, is_out_of_looks, after, run, step, taken_count}

pub run_push : (r : Race) (es : List Event) (e : Event) (s t : Race) → run r es ≡ Some s → after s e ≡ Some t → run r (es ++ e ∷ []) ≡ Some t
run_push r [] e s t ran next = let same : r ≡ s = cc in ap (λ (u : Race). option_and_then (λ v. Some v) (after u e)) same
    ∙ ap (option_and_then (λ v. Some v)) next
run_push r (d ∷ es) e s t ran next = onwards (after r d) (λ u begun. run_push u es e s t begun next) ran
  where
    onwards : (o : Option Race) → ((u : Race) → run u es ≡ Some s → run u (es ++ e ∷ []) ≡ Some t) → option_and_then (λ u. run u es) o ≡ Some s →
        option_and_then (λ u. run u (es ++ e ∷ [])) o ≡ Some t
    onwards None go begun = cc
    onwards (Some u) go begun = go u begun

pub after_step : (r : Race) (e : Event) (s : Race) → step r e ≡ Some s → after r e ≡ Some s
after_step r e s is = at (is_out_of_looks r (worker_of e)) is
  where
    at : (b : Bool) → cond b None (after r e) ≡ Some s → after r e ≡ Some s
    at true none = cc
    at false some = some

pub count_more : (r : Race) (e : Event) (es : List Event) (s : Race) → step r e ≡ Some s → taken_count r (e ∷ es) ≡ 1 + taken_count s es
count_more r e es s is = ap (λ o. option_map_or (λ t. 1 + taken_count t es) o 0) is

pub count_stops : (r : Race) (e : Event) (es : List Event) → step r e ≡ None → taken_count r (e ∷ es) ≡ 0
count_stops r e es is = ap (λ o. option_map_or (λ t. 1 + taken_count t es) o 0) is
