use Rattle.std.proofs.Common.{map, unwrap_or, sym, ap, ◌∙◌, rules}
use Rattle.std.proofs.lemmas.Iterator.{YieldsList-from_slice, YieldsList-from_map}
use Rattle.std.proofs.lemmas.Iterator.Adapters.{option_map_id}
use Rattle.std.proofs.lemmas.Iterator.Consumers.{YieldsList-at, min_from_yields_List}
use Rattle.assertions.specs.declared.assertion.Claim.{Claim}
use Rattle.cover_checker.proofs.Margins.{least-reduce}
use Rattle.cover_checker.proofs.findings.smallest_margin.Goals as goal

pub returns : goal.returns
returns c =
    let margins = map (λ (claim : Claim). claim.margin) c.args.claims.now in
    c.unwrap_or.ensures
    ∙ ap (λ found. unwrap_or found 0) (sym (option_map_id c.min.result) ∙ min_from_yields_List c.map.result c.min.result c.min.ensures.ran
    (YieldsList-from_map _ (λ (claim : Claim). claim.margin) (YieldsList-at c.map.ensures.source (YieldsList-from_slice c.args.claims.now cc))
    c.map.ensures.closure (λ x r q k. search rules)))
    ∙ least-reduce margins
