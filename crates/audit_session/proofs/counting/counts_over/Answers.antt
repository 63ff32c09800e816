use Rattle.std.proofs.Common.{◌∙◌, ◌++◌, ◌∷◌, [], map, take, sym, ap, arith}
use Rattle.std.proofs.lemmas.List.{append-nil, take_all}
use Rattle.km_risk.specs.Counts.{counts_of}
use Rattle.audit_session.specs.Going.{compared, counts_over, value_at}
use Rattle.audit_session.proofs.Counted.{over-more}
use Rattle.audit_session.proofs.counting.counts_over.Goals as goal

pub loop-i-init : goal.loop-i-init
loop-i-init g c = record {
  counts = λ earlier is. is ∙ ap (counts_over (value_at (g.T.Claims.values c.args.claims.now) c.args.j)) (sym (append-nil earlier));
  draws = omega arith;
}

pub loop-i-preserved : goal.loop-i-preserved
loop-i-preserved g c = record {
  counts = λ earlier is.
      let value = value_at (g.T.Claims.values c.args.claims.now) c.args.j in
      let drawn = c.args.drawn.now in
      let card = c.index-drawn-i.result in
      let so-far = map (compared value) (earlier ++ take c.loop-i.i drawn) in
      c.counted-counts.ensures.counts so-far (c.loop-i.invariant.counts earlier is)
      ∙ ap (λ d. counts_of (so-far ++ d ∷ [])) c.discrepancy.ensures.value
      ∙ ap counts_of (over-more value earlier drawn c.loop-i.i card (omega arith) c.index-drawn-i.is);
  draws = omega (arith, c.counted-counts.ensures.draws, c.loop-i.invariant.draws);
}

pub returns-clause-counts : goal.returns-clause-counts
returns-clause-counts g c = λ earlier is.
    c.loop-i.invariant.counts earlier is
    ∙ ap (λ all. counts_over (value_at (g.T.Claims.values c.args.claims.now) c.args.j) (earlier ++ all)) (take_all c.loop-i.i c.args.drawn.now (omega arith))
