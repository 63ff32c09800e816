use Rattle.std.proofs.Common.{◌≡◌, ℕ, List}
use Rattle.set_tallies.specs.Bags.{IsOf}
use Rattle.certifier.specs.OneCandidate.{IsTask}
use Rattle.certifier.specs.Parts.{IsPart}
use Rattle.certifier.specs.Known.{HasKnown}
use Rattle.certifier.proofs.Dealing.{dealt_before}
use Rattle.certifier.proofs.gather.gather.Given as goal

abbrev pub invariant-loop-c : goal.invariant-loop-c
invariant-loop-c l = record {
  same : l.tallies ≡ l.fn.tallies;
  known : HasKnown l.fn.tallies.bag l.task l.part l.known;
  part : (records : List (List ℕ)) → IsOf l.fn.tallies.bag records → IsTask l.fn.tallies.bag.n records l.task →
      IsPart l.fn.tallies.bag.n records l.task (dealt_before l.dealt.workers l.dealt.number l.c) l.part;
}
