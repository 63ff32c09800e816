use Rattle.std.proofs.Common.{◌<◌, All, ℕ, List, length, sym, ap, subst, arith, length-append, ◌∙◌}
use Rattle.std.proofs.lemmas.List.Elements.{All-append}
use Rattle.contest_tests.specs.declared.set_tallies_tests.TheConstants.{FEW}
use Rattle.contest_tests.proofs.set_tallies_tests.many_ballots.Goals as goal

abbrev IsOfFew : List ℕ → Type 0
IsOfFew ranking = All (λ c. c < FEW) ranking

pub loop-time-preserved : goal.loop-time-preserved
loop-time-preserved c =
    let items = c.in_ok-extend_from_slice.ensures.items in
    record {
      long = ap length items ∙ length-append c.loop-time.rankings.items c.ballots.result ∙ omega (arith, c.loop-time.invariant.long, c.ballots.ensures.ten);
      few = subst (All IsOfFew) (sym items) (All-append IsOfFew c.loop-time.rankings.items c.ballots.result c.loop-time.invariant.few c.ballots.ensures.few);
    }

pub returns-clause-most : goal.returns-clause-most
returns-clause-most c = omega (arith, c.loop-time.invariant.long, c.loop-time.auto._time-end)
