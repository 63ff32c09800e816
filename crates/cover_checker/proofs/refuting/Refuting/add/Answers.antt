use Rattle.cover_checker.proofs.Indexing.{added, both-ok}
use Rattle.cover_checker.proofs.refuting.Refuting.add.Goals as goal

pub returns : goal.returns
returns c = λ before after h.
    both-ok c.put.result c.put.ensures.winners c.put.ensures.nens
    (λ winners nens. added c.args.self.now c.put.new.self c.args.a.now winners nens before after h)
