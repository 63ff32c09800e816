use Rattle.std.proofs.Common.{◌≡◌, ◌∙◌, ◌-◌, length, take, drop, sym, ap, w32}
use Rattle.std.specs.Int.{from_le_bytes, to_le_bytes}
use Rattle.std.proofs.lemmas.Nat.{from_le_bytes-to_le_bytes_4}
use Rattle.ballot_ids.proofs.Halves.{last, same-by-last}
use Rattle.ballot_ids.proofs.same.is_same_by_4.Goals as goal

pub returns-then-number_of_4 : goal.returns-then-number_of_4
returns-then-number_of_4 c =
    let a = c.args.a.now in
    let b = c.args.b.now in
    let of_a = c.number_of_4-then-number_of_4 in
    let of_b = c.number_of_4-then-number_of_4-2 in
    let first : take 4 a ≡ take 4 b = sym c.number_of_4.ensures ∙ ap (to_le_bytes w32) c.if-number_of_4.true ∙ c.number_of_4-2.ensures in
    let behind : take 4 (drop (length a - 4) b) ≡ last 4 b = ap (λ n. take 4 (drop (n - 4) b)) c.requires.long in
    same-by-last 4 a b of_a.result of_b.result c.requires.long c.requires.fewest c.requires.most first
    (λ e. sym of_a.ensures ∙ ap (to_le_bytes w32) e ∙ of_b.ensures ∙ behind)
    (λ e. sym (from_le_bytes-to_le_bytes_4 of_a.result of_a.type_inv) ∙ ap (from_le_bytes w32) (of_a.ensures ∙ e ∙ sym behind ∙ sym of_b.ensures)
    ∙ from_le_bytes-to_le_bytes_4 of_b.result of_b.type_inv)
