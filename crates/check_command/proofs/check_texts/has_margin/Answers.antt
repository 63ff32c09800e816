use Rattle.std.proofs.Common.{append_assoc, ap, codes, sym, ◌++◌, ◌∙◌}
use Rattle.std.specs.Fmt.{decimal, signed_decimal}
use Rattle.std.proofs.Math.Facts.{to_z-of_z}
use Rattle.std.proofs.lemmas.Result.{IfOk-weaker}
use Rattle.check_command.proofs.check_texts.has_margin.Goals as goal

pub returns : goal.returns
returns c =
    let index = decimal c.args.index in
    IfOk-weaker c.format.result _ _ (λ text h.
    h ∙ ap (λ z. codes "assertion " ++ (index ++ (codes " has margin " ++ signed_decimal z))) (to_z-of_z c.ranges.found)
    ∙ ap (λ t. codes "assertion " ++ t) (sym (append_assoc index (codes " has margin ") (signed_decimal c.args.found)))) c.format.ensures.ok
