use Rattle.std.proofs.Common.{◌∙◌, ◌+◌, ◌≤◌, ◌∷◌, [], All, map, sym, subst, arith}
use Rattle.std.proofs.lemmas.List.Elements.{All-append, All-cons, All-nil}
use Rattle.irv_base.specs.declared.limits.TheConstants.{MOST_DRAWS}
use Rattle.assertions.specs.declared.assertion.Claim.{Claim}
use Rattle.assertions.specs.Assorter.{assorter_value}
use Rattle.polling.specs.declared.counts.PollCounts.{PollCounts}
use Rattle.polling.specs.Polls.{counted, polled}
use Rattle.polling.proofs.ValueCounts.{one-more}
use Rattle.polling.proofs.end.all_counts.Goals as goal

pub loop-j-preserved : goal.loop-j-preserved
loop-j-preserved c =
    let drawn = c.args.drawn.now in
    let few = λ (counts : PollCounts). counts.n0 + counts.n1 + counts.n2 ≤ MOST_DRAWS in
    record {
      counts =
          c.in_ok-push.ensures.items
          ∙ one-more (λ (claim : Claim). counted (map (polled (assorter_value claim.assertion)) drawn)) c.args.claims.now c.loop-j.all.items c.loop-j.j
          c.index-claims-j.result c.counts_over.result (omega arith) c.loop-j.invariant.counts
          c.counts_over.ensures.counts;
      draws = subst (All few) (sym c.in_ok-push.ensures.items)
          (All-append few c.loop-j.all.items (c.counts_over.result ∷ []) c.loop-j.invariant.draws
          (All-cons few c.counts_over.result [] (omega (arith, c.counts_over.ensures.draws, c.requires)) (All-nil few)));
    }
