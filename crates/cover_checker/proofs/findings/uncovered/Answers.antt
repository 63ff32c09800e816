use Rattle.std.proofs.Common.{◌≡◌, length, map, option_map, Ok, ap, ◌∙◌}
use Rattle.std.proofs.lemmas.Result.{err_from_is_err_and}
use Rattle.assertion_file.specs.Content.{candidate_count}
use Rattle.cover_checker.specs.Findings.{assertions_of}
use Rattle.cover_checker.proofs.Uncovered.{spent-found, verdict-found}
use Rattle.cover_checker.proofs.findings.uncovered.Goals as goal

pub returns-in_err-verdict-clause-fault : goal.returns-in_err-verdict-clause-fault
returns-in_err-verdict-clause-fault c =
    let it = c.from_residual-in_err-verdict in
    let p = err_from_is_err_and it.result it.ensures.1 in
    let number : length c.candidates.result.now ≡ candidate_count c.args.file.now = ap length c.candidates.ensures.same in
    let listed : c.deref.result.now ≡ assertions_of c.args.file.now = c.deref.ensures.value ∙ c.in_ok-list.ensures
    ∙ ap (λ claims. map (λ claim. claim.assertion) claims) c.claims.ensures.same in
    rw (p.1, p.2)
    (spent-found c.args.budget c.args.file.now (length c.candidates.result.now) c.winner.result c.deref.result.now number c.winner.ensures.same listed
    c.in_err-verdict.field-0.0 c.in_err-verdict.ensures)

pub returns-clause-found : goal.returns-clause-found
returns-clause-found c =
    let number : length c.candidates.result.now ≡ candidate_count c.args.file.now = ap length c.candidates.ensures.same in
    let listed : c.deref.result.now ≡ assertions_of c.args.file.now = c.deref.ensures.value ∙ c.in_ok-list.ensures
    ∙ ap (λ claims. map (λ claim. claim.assertion) claims) c.claims.ensures.same in
    verdict-found c.args.budget c.args.file.now (length c.candidates.result.now) c.winner.result c.deref.result.now number c.winner.ensures.same listed
    c.in_ok-verdict.verdict (option_map Ok c.standing.result) c.in_ok-verdict.ensures c.standing.ensures
