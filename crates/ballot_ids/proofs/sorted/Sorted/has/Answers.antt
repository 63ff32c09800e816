use Rattle.std.proofs.Common.{◌∙◌, ap}
use Rattle.irv_base.specs.Names.{is_among}
use Rattle.ballot_ids.proofs.SortedIds.{found-among}
use Rattle.ballot_ids.proofs.sorted.Sorted.has.Goals as goal

pub returns : goal.returns
returns c =
    c.contains.ensures ∙ found-among (λ key. key.items) c.self.inside.ids.keys c.args.id.now ∙ ap (λ ids. is_among ids c.args.id.now) c.self.view_is
