use Rattle.std.proofs.Common.{◌≡◌, ◌∙◌, ◌==◌, ◌&&◌, ◌^◌, true, false, length, nat_lt, sym, ap, refl}
use Rattle.std.specs.Result.{result_ok}
use Rattle.command_line.specs.Values.{is_number, number}
use Rattle.command_line.proofs.Digits.{parsed-small}
use Rattle.command_line.proofs.arguments.number_in.Goals as goal

pub returns : goal.returns
returns c = λ h.
    let text = c.args.text.now in
    let some : (length text == 0) ≡ false = sym c.is_empty.ensures ∙ c.if-is_empty.false in
    let room : (is_number text && nat_lt (number text) (2 ^ 32)) ≡ true = rw some at h in
    c.ok.ensures.value ∙ ap result_ok (parsed-small text c.parse.result c.parse.ensures.value.0 room) ∙ rw some refl
