use Rattle.std.proofs.Common.{◌∙◌, ◌||◌, map, not, ap}
use Rattle.irv_base.specs.Names.{is_among, is_same}
use Rattle.ballot_ids.proofs.SortedIds.{found-among, put-among}
use Rattle.ballot_ids.proofs.sorted.Sorted.put.Goals as goal

pub returns-clause-new : goal.returns-clause-new
returns-clause-new c =
    let keys = c.self.inside.ids.keys in
    c.in_ok-new.ensures.added ∙ ap not (found-among (λ key. key.items) keys c.in_ok-from_slice.field-0.items)
    ∙ ap (λ id. not (is_among (map (λ key. key.items) keys) id)) c.in_ok-from_slice.ensures.items
    ∙ ap (λ ids. not (is_among ids c.args.id.now)) c.self.view_is

pub returns-clause-put : goal.returns-clause-put
returns-clause-put c = λ other.
    let key = c.in_ok-from_slice.field-0 in
    ap (λ now. is_among (map (λ key. key.items) now) other) c.in_ok-new.ensures.keys
    ∙ put-among (λ key. key.items) c.self.inside.ids.keys key other
    ∙ ap (λ items. is_same items other || is_among (map (λ key. key.items) c.self.inside.ids.keys) other) c.in_ok-from_slice.ensures.items
    ∙ ap (λ ids. is_same c.args.id.now other || is_among ids other) c.self.view_is
