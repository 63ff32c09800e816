use Rattle.std.proofs.Common.{◌≡◌, ◌∙◌, true, drop, length, take, sym, ap, arith}
use Rattle.std.proofs.lemmas.List.{take_all, take-append-drop}
use Rattle.csv_rows.specs.Lines.{is_plain}
use Rattle.csv_rows.proofs.Cuts.{rest-from}
use Rattle.csv_rows.proofs.Plain.{plain-joined}
use Rattle.csv_rows.proofs.pieces.Pieces.look.Goals as goal

pub invariant_of-self : goal.invariant_of-self
invariant_of-self c =
    let lines = c.self.inside.lines.items in
    let seen = c.self.inside.plain in
    let there : c.deref.result.now ≡ lines = c.deref.ensures.value in
    let rest : is_plain (drop seen lines) ≡ true =
    ap (λ text. is_plain (drop seen text)) (sym there) ∙ ap is_plain (sym (rest-from seen c.deref.result.now)) ∙ sym c.is_plain.ensures
    ∙ c.if-is_plain.true in
    let whole : is_plain lines ≡ true =
    ap is_plain (sym (take-append-drop seen lines)) ∙ plain-joined (take seen lines) (drop seen lines) c.self.invariant.1 rest in
    let all : length lines ≡ c.len-self-inside.result = omega (arith, c.len-self-inside.ensures) in
    (omega (arith, all), ap is_plain (take_all c.len-self-inside.result lines (omega (arith, all))) ∙ whole)
