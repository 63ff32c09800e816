use Rattle.std.proofs.Common.{◌≡◌, ◌++◌, ℕ, List, map, filter}
use Rattle.assertions.specs.declared.assertion.Assertion.TheVariants.{Neb}
use Rattle.assertions.specs.Certificate.{claim_of}
use Rattle.irv_base.specs.Candidates.{candidates}
use Rattle.set_tallies.specs.Bags.{AreOf}
use Rattle.fewest.specs.Nens.{is_enough}
use Rattle.nen_cut.proofs.nebs.put_nebs.Given as goal

abbrev pub invariant-loop-l : goal.invariant-loop-l
invariant-loop-l l =
    (records : List (List ℕ)) → AreOf l.ahead records →
    l.nebs.items
    ≡ l.fn.nebs.items ++ map (claim_of records) (filter (is_enough l.n records l.least) (map (Neb l.w) (candidates l.l)))
