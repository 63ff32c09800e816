use Rattle.std.proofs.Common.{◌∙◌, Some, set, sym, ap}
use Rattle.std.proofs.lemmas.Result.{on_ok_weaker}
use Rattle.ballot_reader.specs.Parts.{form_of, part_behind}
use Rattle.ballot_reader.proofs.PutBehind.{set-same}
use Rattle.ballot_reader.proofs.kept_parts.put_at.Goals as goal

pub append_at-requires-clause-alike : goal.append_at-requires-clause-alike
append_at-requires-clause-alike c = λ before there.
    let other = c.in-Some.is in
    ap form_of (sym other) ∙ c.requires.alike (Some before) there

pub returns-in-Some : goal.returns-in-Some
returns-in-Some c = on_ok_weaker c.append_at.result
    (λ put before there. put before there ∙ ap (λ other. set c.args.parts.now.items c.args.place (part_behind other before)) (sym c.in-Some.is))
    c.append_at.ensures

pub returns-in-None : goal.returns-in-None
returns-in-None c = λ before there.
    sym (ap (λ other. set c.args.parts.now.items c.args.place (part_behind other before)) c.in-None.is ∙ set-same c.args.parts.now.items c.args.place before there)
