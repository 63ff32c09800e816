use Rattle.std.proofs.Common.{◌≡◌, ◌+◌, ◌<◌, ◌++◌, IfOk, MatchBool, List, Some, length, map, take, get_or, sym, ap, subst, arith}
use Rattle.assertions.specs.declared.assertion.Claim.{Claim}
use Rattle.assertion_file.specs.Content.{candidate_count}
use Rattle.trimmer.specs.Counts.{AreCounts, AreWithin}
use Rattle.trimmer.specs.Remaining.{assertions_in}
use Rattle.trimmer.specs.Trimmed.{can_go}
use Rattle.trimmer.specs.declared.scan.Scan.TheVariants.{Covered as ScanCovered, Stands as ScanStands}
use Rattle.trimmer.proofs.Lefts.{assertion_in}
use Rattle.trimmer.proofs.Nexts.{scanned-moved, goes-on, stays-on}
use Rattle.trimmer.proofs.trimming.can_go_by_nodes.Goals as goal

pub returns-in-Covered-clause-goes : goal.returns-in-Covered-clause-goes
returns-in-Covered-clause-goes c =
    let file = c.args.f.now in
    let d = c.index-claims-place.result in
    let later = c.args.others.now.kept in
    let others : assertions_in c.args.others.now ≡ map assertion_in (take c.args.place file.claims ++ later) =
    ap (λ untried. map assertion_in (untried ++ later)) c.requires.others in
    let own = (get_or c.claims.result.now c.args.place d).assertion in
    let its : Some own ≡ Some (get_or file.claims c.args.place d).assertion =
    ap (λ (claims : List Claim). Some (get_or claims c.args.place d).assertion) c.claims.ensures.same in
    let some : 0 < candidate_count file = omega (arith, c.candidates.ensures.fewest, ap length c.candidates.ensures.same) in
    let next = goes-on c.args.nodes file c.args.place later c.args.counts.now d some c.requires.place c.requires.counts c.in-Covered.more
    (scanned-moved c.args.nodes (length c.candidates.result.now) (candidate_count file) c.winner.result file.winner (assertions_in c.args.others.now)
    (map assertion_in (take c.args.place file.claims ++ later)) (Some own) (Some (get_or file.claims c.args.place d).assertion) c.args.counts.now
    (ScanCovered c.in-Covered.more) (ap length c.candidates.ensures.same) c.winner.ensures.same others its c.in-Covered.ensures) in
    sym (ap (can_go (c.args.place + 1)) next.0)

pub returns-in-Covered-clause-counts : goal.returns-in-Covered-clause-counts
returns-in-Covered-clause-counts c =
    let file = c.args.f.now in
    let d = c.index-claims-place.result in
    let later = c.args.others.now.kept in
    let others : assertions_in c.args.others.now ≡ map assertion_in (take c.args.place file.claims ++ later) =
    ap (λ untried. map assertion_in (untried ++ later)) c.requires.others in
    let own = (get_or c.claims.result.now c.args.place d).assertion in
    let its : Some own ≡ Some (get_or file.claims c.args.place d).assertion =
    ap (λ (claims : List Claim). Some (get_or claims c.args.place d).assertion) c.claims.ensures.same in
    let some : 0 < candidate_count file = omega (arith, c.candidates.ensures.fewest, ap length c.candidates.ensures.same) in
    let next = goes-on c.args.nodes file c.args.place later c.args.counts.now d some c.requires.place c.requires.counts c.in-Covered.more
    (scanned-moved c.args.nodes (length c.candidates.result.now) (candidate_count file) c.winner.result file.winner (assertions_in c.args.others.now)
    (map assertion_in (take c.args.place file.claims ++ later)) (Some own) (Some (get_or file.claims c.args.place d).assertion) c.args.counts.now
    (ScanCovered c.in-Covered.more) (ap length c.candidates.ensures.same) c.winner.ensures.same others its c.in-Covered.ensures) in
    next.1

pub returns-in-Stands-clause-goes : goal.returns-in-Stands-clause-goes
returns-in-Stands-clause-goes c =
    let file = c.args.f.now in
    let d = c.index-claims-place.result in
    let later = c.args.others.now.kept in
    let others : assertions_in c.args.others.now ≡ map assertion_in (take c.args.place file.claims ++ later) =
    ap (λ untried. map assertion_in (untried ++ later)) c.requires.others in
    let own = (get_or c.claims.result.now c.args.place d).assertion in
    let its : Some own ≡ Some (get_or file.claims c.args.place d).assertion =
    ap (λ (claims : List Claim). Some (get_or claims c.args.place d).assertion) c.claims.ensures.same in
    let some : 0 < candidate_count file = omega (arith, c.candidates.ensures.fewest, ap length c.candidates.ensures.same) in
    let next = stays-on c.args.nodes file c.args.place later c.args.counts.now d some c.requires.place c.requires.counts
    (scanned-moved c.args.nodes (length c.candidates.result.now) (candidate_count file) c.winner.result file.winner (assertions_in c.args.others.now)
    (map assertion_in (take c.args.place file.claims ++ later)) (Some own) (Some (get_or file.claims c.args.place d).assertion) c.args.counts.now
    ScanStands (ap length c.candidates.ensures.same) c.winner.ensures.same others its c.in-Stands.ensures) in
    sym (ap (can_go (c.args.place + 1)) next.1)

pub returns-in-Unclear-clause-counts : goal.returns-in-Unclear-clause-counts
returns-in-Unclear-clause-counts c =
    let file = c.args.f.now in
    let nodes = c.args.nodes in
    let later = c.args.others.now.kept in
    let others : assertions_in c.args.others.now ≡ map assertion_in (take c.args.place file.claims ++ later) =
    ap (λ untried. map assertion_in (untried ++ later)) c.requires.others in
    let counts = c.whole_trial.new.counts in
    subst (λ list. IfOk c.whole_trial.result (λ goes. MatchBool goes (AreCounts nodes (candidate_count file) file.winner list counts
    × AreWithin nodes counts) (counts ≡ c.args.counts.now))) others
    (subst (λ winner. IfOk c.whole_trial.result (λ goes. MatchBool goes (AreCounts nodes (candidate_count file) winner (assertions_in c.args.others.now) counts
    × AreWithin nodes counts) (counts ≡ c.args.counts.now))) c.winner-in-Unclear.ensures.same
    (subst (λ n. IfOk c.whole_trial.result (λ goes. MatchBool goes (AreCounts nodes n c.winner-in-Unclear.result (assertions_in c.args.others.now) counts
    × AreWithin nodes counts) (counts ≡ c.args.counts.now))) (ap length c.candidates.ensures.same) c.whole_trial.ensures.counts))
