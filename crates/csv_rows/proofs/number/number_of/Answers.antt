use Rattle.std.proofs.Common.{◌≡◌, ◌∙◌, ◌≤◌, length, rules, sym, ap, arith, subst, refl}
use Rattle.std.specs.Result.{result_ok}
use Rattle.std.specs.Str.{IsUtf8}
use Rattle.std.specs.Str.Parse.{ParsesUnsigned}
use Rattle.csv_rows.proofs.Numbers.{AreDigits, IsUtf8-digits, parsed, is_number-from, some_length}
use Rattle.irv_base.specs.declared.limits.TheConstants.{MOST_NUMBER_DIGITS}
use Rattle.csv_rows.proofs.number.number_of.Goals as goal

pub unwrap-requires : goal.unwrap-requires
unwrap-requires c =
    let utf8 : IsUtf8 c.args.text.now = IsUtf8-digits c.args.text.now (sym c.are_digits.ensures ∙ c.if-not-are_digits.false) in
    search rules

pub returns : goal.returns
returns c =
    let text = c.args.text.now in
    let digits : AreDigits text = sym c.are_digits.ensures ∙ c.if-not-are_digits.false in
    let some = some_length (length text) (sym c.is_empty.ensures ∙ c.if-is_empty.false) in
    let short : length text ≤ MOST_NUMBER_DIGITS = omega (arith, c.if-text-gt-MOST_NUMBER_DIGITS.false) in
    let same : c.unwrap.result.now ≡ text = search rules in
    let e = parsed text c.parse.result (subst (λ t. ParsesUnsigned 64 10 t c.parse.result) same c.parse.ensures.value.0) digits some short in
    c.ok.ensures.value ∙ ap result_ok e ∙ rw (is_number-from text digits some short) refl
