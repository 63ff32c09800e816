use Rattle.std.proofs.Common.{◌∙◌, ◌*◌, ◌<◌, ◌^◌, arith, mod-eq_of_lt}
use Rattle.std.proofs.lemmas.Nat.{pow_below}
use Rattle.ballot_ids.proofs.page.only.Goals as goal

pub returns : goal.returns
returns c =
    let bit = c.args.bit in
    let small : 1 * 2 ^ bit < 2 ^ 64 = omega (arith, pow_below bit 64 c.requires) in
    mod-eq_of_lt small ∙ omega arith
