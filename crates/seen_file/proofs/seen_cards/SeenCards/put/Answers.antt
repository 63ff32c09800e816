use Rattle.std.proofs.Common.{◌≡◌, ◌∙◌, length, sym, ap, arith}
use Rattle.std.specs.Prelude.{is_some}
use Rattle.seen_file.specs.Seen.{seen_in}
use Rattle.seen_file.proofs.Cards.{none-from, places-put}
use Rattle.seen_file.proofs.seen_cards.SeenCards.put.Goals as goal

pub invariant_of-self-2 : goal.invariant_of-self-2
invariant_of-self-2 c =
    let entries = c.self.inside.entries.items in
    let new = none-from (seen_in entries c.args.card)
    (ap (λ es. is_some (seen_in es c.args.card)) c.self.view_is ∙ ap is_some (sym c.get.ensures) ∙ sym c.is_some.ensures ∙ c.if-is_some.false) in
    let count : c.len-entries.result ≡ length entries = omega (arith, c.len-entries.ensures, c.self.inside.entries.ok) in
    rw (c.in_ok-push.ensures.items, count)
    (places-put entries c.self.inside.places.items c.reach.new.places.items c.args.card c.args.seen c.self.invariant new
    c.reach.ensures.same c.in_ok-reach.ensures.within)
