use Rattle.std.proofs.Common.{◌==◌, ◌||◌, ◌/◌, ◌<◌, ◌∙◌, ap, ap₂, arith, bit_or, length, rules, set}
use Rattle.std.specs.Prelude.{slice_index}
use Rattle.ballot_ids.specs.Ids.{has_bit}
use Rattle.ballot_ids.proofs.Words.{one-more-set}
use Rattle.ballot_ids.proofs.page.Bits.set.Goals as goal

pub returns : goal.returns
returns c = λ other.
    let words = c.self.inside.0 in
    let bit = c.args.bit in
    let within : bit / 64 < length words = search (rules, arith) in
    ap₂ (λ i only. has_bit (set words i (bit_or (slice_index words i) only)) other) c.from.ensures c.only.ensures
    ∙ one-more-set words bit other within ∙ ap (λ w. has_bit w other || (other == bit)) c.self.view_is
