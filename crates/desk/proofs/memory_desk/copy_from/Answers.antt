use Rattle.std.proofs.Common.{◌≡◌, ◌+◌, ℕ, List, ◌++◌, length, take, drop, sym, ◌∙◌, ap, arith, length-take, take-append-drop}
use Rattle.std.proofs.lemmas.List.{take_at, take_rest, drop-drop}
use Rattle.desk.proofs.memory_desk.copy_from.Goals as goal

-- what was copied in front of the rest is what was left
spliced : (bytes into piece : List ℕ) (at n : ℕ) → length piece ≡ n → piece ≡ take n (drop at bytes) → drop at bytes ≡ take n (piece ++ drop n into) ++ drop (at + n) bytes
spliced bytes into piece at n long is =
    sym (take-append-drop n (drop at bytes))
    ∙ ap (λ (l : List ℕ). l ++ drop n (drop at bytes)) (sym is ∙ sym (take_at piece (drop n into) n long))
    ∙ ap (λ (l : List ℕ). take n (piece ++ drop n into) ++ l) (drop-drop n at bytes)

pub returns-clause-bytes : goal.returns-clause-bytes
returns-clause-bytes c =
    let n = c.min-count.result in
    let long : length c.copy_from_slice.new.self ≡ n = omega (arith, c.copy_from_slice.ensures.len, length-take n c.args.into.now, c.min-count.ensures) in
    spliced c.args.bytes.now c.args.into.now c.copy_from_slice.new.self c.args.at.now n long
    (c.copy_from_slice.ensures.after ∙ ap (λ (rest : List ℕ). take n rest) (take_rest c.args.bytes.now c.args.at.now))
