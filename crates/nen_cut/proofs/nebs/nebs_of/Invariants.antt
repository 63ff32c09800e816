use Rattle.std.proofs.Common.{◌≡◌, ℕ, List, map, flat_map}
use Rattle.assertions.specs.Certificate.{claim_of}
use Rattle.irv_base.specs.Candidates.{candidates}
use Rattle.set_tallies.specs.Bags.{AreOf}
use Rattle.nen_cut.specs.Floors.{nebs_by}
use Rattle.nen_cut.proofs.nebs.nebs_of.Given as goal

abbrev pub invariant-loop-w : goal.invariant-loop-w
invariant-loop-w l =
    (records : List (List ℕ)) → AreOf l.ahead records →
    l.nebs.items ≡ map (claim_of records) (flat_map (nebs_by l.n records l.least) (candidates l.w))
