use Rattle.std.proofs.Common.{◌≡◌, ◌∙◌, ◌-◌, length, take, drop, sym, ap, w64}
use Rattle.std.specs.Int.{from_le_bytes, to_le_bytes}
use Rattle.std.proofs.lemmas.Nat.{from_le_bytes-to_le_bytes_8}
use Rattle.ballot_ids.proofs.Halves.{last, same-by-last}
use Rattle.ballot_ids.proofs.same.is_same_by_8.Goals as goal

pub returns-then-number_of_8 : goal.returns-then-number_of_8
returns-then-number_of_8 c =
    let a = c.args.a.now in
    let b = c.args.b.now in
    let of_a = c.number_of_8-then-number_of_8 in
    let of_b = c.number_of_8-then-number_of_8-2 in
    let first : take 8 a ≡ take 8 b = sym c.number_of_8.ensures ∙ ap (to_le_bytes w64) c.if-number_of_8.true ∙ c.number_of_8-2.ensures in
    let behind : take 8 (drop (length a - 8) b) ≡ last 8 b = ap (λ n. take 8 (drop (n - 8) b)) c.requires.long in
    same-by-last 8 a b of_a.result of_b.result c.requires.long c.requires.fewest c.requires.most first
    (λ e. sym of_a.ensures ∙ ap (to_le_bytes w64) e ∙ of_b.ensures ∙ behind)
    (λ e. sym (from_le_bytes-to_le_bytes_8 of_a.result of_a.type_inv) ∙ ap (from_le_bytes w64) (of_a.ensures ∙ e ∙ sym behind ∙ sym of_b.ensures)
    ∙ from_le_bytes-to_le_bytes_8 of_b.result of_b.type_inv)
