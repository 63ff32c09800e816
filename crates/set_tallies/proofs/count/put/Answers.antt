use Rattle.std.proofs.Common.{rules, ◌≡◌, true, length, ap, arith}
use Rattle.std.specs.Result.{is_ok}
use Rattle.std.proofs.lemmas.List.{length_push}
use Rattle.std.proofs.lemmas.List.Sorted.{IsPermutation-swap}
use Rattle.set_tallies.proofs.Runs.{one-new, one-moved}
use Rattle.set_tallies.proofs.count.put.Goals as goal

pub returns-then-place-last-2 : goal.returns-then-place-last-2
returns-then-place-last-2 c =
    let entries = c.args.entries.now.items in
    let pushed = c.push.new.self.items in
    let good : is_ok c.push.result ≡ true = search rules in
    let items = rw good at c.push.ensures.items in
    let long = length_push entries (record { before = c.args.before; count = 1 }) in
    one-moved entries pushed c.swap.new.self.items c.args.before
    (IsPermutation-swap pushed c.swap.new.self.items c.place_of-place.result c.len-last.result
    (omega (arith, ap length items, long, c.len-last.ensures, c.args.entries.now.ok.0, c.if-place-last-2.true))
    (omega (arith, ap length items, long, c.len-last.ensures, c.args.entries.now.ok.0)) c.swap.ensures.items)
    (one-new entries pushed c.args.before items)
