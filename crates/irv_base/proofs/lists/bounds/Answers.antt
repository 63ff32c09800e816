use Rattle.irv_base.proofs.Between.{list-at}
use Rattle.irv_base.proofs.lists.bounds.Goals as goal

pub returns-clause-rise : goal.returns-clause-rise
returns-clause-rise g c =
    (list-at c.args.begins.now c.args.elements.now c.args.i c.end_of.result c.requires.begins c.requires.within c.end_of.ensures).rise

pub returns-clause-last : goal.returns-clause-last
returns-clause-last g c =
    (list-at c.args.begins.now c.args.elements.now c.args.i c.end_of.result c.requires.begins c.requires.within c.end_of.ensures).within

pub returns-clause-list : goal.returns-clause-list
returns-clause-list g c =
    (list-at c.args.begins.now c.args.elements.now c.args.i c.end_of.result c.requires.begins c.requires.within c.end_of.ensures).is
