use Rattle.ballot_ids.proofs.SortedIds.{none-in}
use Rattle.ballot_ids.proofs.sorted.Sorted.is_empty.Goals as goal

pub returns : goal.returns
returns c =
    let told = none-in (λ key. key.items) c.self.inside.ids.keys c.args.self.now c.self.view_is in
    (λ t. told.0 (c.is_empty.ensures.0 t), λ none. c.is_empty.ensures.1 (told.1 none))
