use Rattle.std.proofs.Common.{◌≡◌, ℕ, ◌<◌, ◌≤◌, Result, Ok, Err, IfErr, arith}
use Rattle.nen_cut.specs.declared.fault.NensFault.{NensFault}
use Rattle.nen_cut.specs.declared.fault.NensFault.TheVariants.{Spent}
use Rattle.nen_cut.specs.Floors.{sets_beside}
use Rattle.fewest_search.proofs.Smaller.{beside-less}
use Rattle.fewest_search.proofs.finding.nens_of.Goals as goal

-- if the budget runs out for fewer sets, it also runs out for more
spent-more : {T : Type 0} (sets few many : ℕ) (r : Result T NensFault) → few ≤ many → IfErr r (λ fault. fault ≡ Spent → sets < few) →
    IfErr r (λ fault. fault ≡ Spent → sets < many)
spent-more sets few many (Ok x) le spent = tt
spent-more sets few many (Err fault) le spent = λ is. let l = spent is in omega (arith, le, l)

pub returns-clause-spent : goal.returns-clause-spent
returns-clause-spent c = λ records of.
    let n = c.args.counted.now.bag.n in
    let winner = c.args.winner in
    spent-more c.args.sets (sets_beside n records winner c.args.least) (sets_beside n records winner c.args.best) c.fewest_nens.result
    (beside-less n records c.args.least c.args.best c.requires.least winner) (c.fewest_nens.ensures.spent records of)
