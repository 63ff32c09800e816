use Rattle.std.proofs.Common.{◌≡◌, ◌+◌, ◌*◌, ◌%◌, ◌^◌, ◌<◌, ℕ, bit_or, get_or, length, ap, sym, arith, ◌∙◌}
use Rattle.std.proofs.lemmas.List.{get_or_default}
use Rattle.irv_base.proofs.Bits.{one_bit}
use Rattle.set_tallies.specs.Halves.{row_of}
use Rattle.set_tallies.proofs.Halving.{half-within, with-below}
use Rattle.set_tallies.proofs.halves.Halves.at.Goals as goal

bit : (c index : ℕ) → index ≡ c → c < 32 → 1 * 2 ^ index % 2 ^ 32 ≡ 2 ^ c
bit c index at l = ap (λ k. 1 * 2 ^ k % 2 ^ 32) at ∙ one_bit c l

pub row_of-row-requires-clause-below : goal.row_of-row-requires-clause-below
row_of-row-requires-clause-below c =
    let own = bit c.args.c c.index.result c.index.ensures.same (omega (arith, c.requires.candidate, c.requires.table.few)) in
    rw own (with-below c.args.self.now.n c.args.set c.args.c c.requires.below c.requires.candidate)

pub index-requires-2 : goal.index-requires-2
index-requires-2 c =
    let n = c.args.self.now.n in
    let own = bit c.args.c c.index.result c.index.ensures.same (omega (arith, c.requires.candidate, c.requires.table.few)) in
    let set : ℕ = bit_or c.args.set (2 ^ c.args.c) in
    let place : c.place.result ≡ row_of n set * n + c.args.c =
    c.place.ensures ∙ ap (λ r. r * n + c.args.c) (c.row_of-row.ensures ∙ ap (λ b. row_of n (bit_or c.args.set b)) own) in
    omega (
      arith,
      place,
      c.requires.table.long,
      c.args.self.now.table.ok.0,
      half-within n set c.args.c c.requires.table.some (with-below n c.args.set c.args.c c.requires.below c.requires.candidate) c.requires.candidate,
    )

pub returns : goal.returns
returns c =
    let n = c.args.self.now.n in
    let items = c.args.self.now.table.items in
    let own = bit c.args.c c.index.result c.index.ensures.same (omega (arith, c.requires.candidate, c.requires.table.few)) in
    let set : ℕ = bit_or c.args.set (2 ^ c.args.c) in
    let place : c.place.result ≡ row_of n set * n + c.args.c =
    c.place.ensures ∙ ap (λ r. r * n + c.args.c) (c.row_of-row.ensures ∙ ap (λ b. row_of n (bit_or c.args.set b)) own) in
    let within : c.place.result < length items =
    omega (
      arith,
      place,
      c.requires.table.long,
      half-within n set c.args.c c.requires.table.some (with-below n c.args.set c.args.c c.requires.below c.requires.candidate) c.requires.candidate,
    ) in
    c.from.ensures ∙ c.index-2.ensures ∙ sym (get_or_default items c.place.result 0 c.index-2.result.now within) ∙ ap (λ i. get_or items i 0) place
