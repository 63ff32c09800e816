use Rattle.std.proofs.Common.{◌∙◌, ◌++◌, ◌∷◌, [], map, take, sym, ap, arith}
use Rattle.std.proofs.lemmas.List.{take_all}
use Rattle.assertions.specs.Assorter.{assorter_value}
use Rattle.polling.specs.Polls.{counted, polled}
use Rattle.polling.proofs.ValueCounts.{polled-more}
use Rattle.polling.proofs.counts.counts_over.Goals as goal

pub loop-i-preserved : goal.loop-i-preserved
loop-i-preserved c =
    let value = assorter_value c.args.assertion.now in
    let drawn = c.args.drawn.now in
    let so-far = map (polled value) (take c.loop-i.i drawn) in
    let same = c.seen_value.ensures.value ∙ ap (polled value) (sym c.index-drawn-i.is) in
    record {
      counts =
          c.with_value-counts.ensures.counts so-far c.loop-i.invariant.counts
          ∙ ap counted (ap (λ x. so-far ++ x ∷ []) same ∙ polled-more value drawn c.loop-i.i c.index-drawn-i.result (omega arith) c.index-drawn-i.is);
      draws = omega (arith, c.with_value-counts.ensures.draws, c.loop-i.invariant.draws);
    }

pub returns-clause-counts : goal.returns-clause-counts
returns-clause-counts c =
    c.loop-i.invariant.counts
    ∙ ap (λ all. counted (map (polled (assorter_value c.args.assertion.now)) all)) (take_all c.loop-i.i c.args.drawn.now (omega arith))
