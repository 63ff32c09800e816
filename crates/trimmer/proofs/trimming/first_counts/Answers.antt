use Rattle.std.proofs.Common.{◌≡◌, map, length, ap, subst, ◌∙◌}
use Rattle.std.proofs.lemmas.List.{append-nil}
use Rattle.assertion_file.specs.Content.{candidate_count}
use Rattle.cover_checker.specs.Findings.{assertions_of}
use Rattle.trimmer.specs.Counts.{AreCounts}
use Rattle.trimmer.specs.Remaining.{assertions_in}
use Rattle.trimmer.proofs.Lefts.{assertion_in}
use Rattle.trimmer.proofs.trimming.first_counts.Goals as goal

pub returns : goal.returns
returns c =
    let file = c.args.f.now in
    let nodes = c.args.nodes in
    let list : assertions_in c.args.all.now ≡ assertions_of file = ap assertions_in c.requires.all ∙ ap (map assertion_in) (append-nil file.claims) in (
      subst (λ list. AreCounts nodes (candidate_count file) file.winner list c.counts_of.result) list
          (subst (λ winner. AreCounts nodes (candidate_count file) winner (assertions_in c.args.all.now) c.counts_of.result) c.winner.ensures.same
          (subst (λ n. AreCounts nodes n c.winner.result (assertions_in c.args.all.now) c.counts_of.result) (ap length c.candidates.ensures.same)
          c.counts_of.ensures.counts)),
      c.counts_of.ensures.within,
    )
