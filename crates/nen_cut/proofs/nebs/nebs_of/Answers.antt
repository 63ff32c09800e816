use Rattle.std.proofs.Common.{◌++◌, map, flat_map, sym, ap, ◌∙◌}
use Rattle.std.proofs.lemmas.List.{map-append}
use Rattle.assertions.specs.Certificate.{claim_of}
use Rattle.irv_base.specs.Candidates.{candidates}
use Rattle.nen_cut.specs.Floors.{nebs_by}
use Rattle.nen_cut.proofs.Across.{flat-more}
use Rattle.nen_cut.proofs.nebs.nebs_of.Goals as goal

pub loop-w-preserved : goal.loop-w-preserved
loop-w-preserved c = λ records of.
    let n = c.args.n in
    let floor = c.args.least in
    let w = c.loop-w.w in
    c.in_ok-put_nebs.ensures records of
    ∙ ap (λ l. l ++ map (claim_of records) (nebs_by n records floor w)) (c.loop-w.invariant records of)
    ∙ sym (map-append (claim_of records) (flat_map (nebs_by n records floor) (candidates w)) (nebs_by n records floor w))
    ∙ ap (map (claim_of records)) (sym (flat-more (nebs_by n records floor) w))
