use Rattle.std.proofs.Common.{◌==◌, ◌∷◌, ◌++◌, if◌then◌else◌, List, ℕ, ap, string_bytes, ◌∙◌}
use Rattle.irv_base.specs.Names.{comma}
use Rattle.report.proofs.Lists.{joined_more}
use Rattle.report.proofs.text.joined.Goals as goal

pub loop-i-preserved : goal.loop-i-preserved
loop-i-preserved c =
    c.in_ok-add_id.ensures
    ∙ ap (λ (id : List ℕ). string_bytes c.loop-i.text ++ (if c.loop-i.i == 0 then id else comma ∷ id)) c.id_of.ensures
    ∙ joined_more c.args.names.now c.args.candidates.now c.loop-i.i c.index-candidates-i.result (string_bytes c.loop-i.text) c.loop-i-test.true
    c.index-candidates-i.is c.loop-i.invariant
