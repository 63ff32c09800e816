use Rattle.std.proofs.Common.{Ok, sym, ap, ◌∙◌}
use Rattle.suffix_walk.specs.Search.{first_kept, kept_count}
use Rattle.suffix_walk.specs.Search as walk
use Rattle.cover_checker.specs.Covers.{stands}
use Rattle.cover_checker.proofs.Verdicts.{none-covered, some-stands, error-spent}
use Rattle.cover_checker.proofs.cover.by_nodes.Goals as goal

pub returns-in-Ok-None : goal.returns-in-Ok-None
returns-in-Ok-None c =
    let kept = stands c.args.list in
    let standing = first_kept c.args.n c.args.winner kept in
    none-covered (walk.first_over c.args.n c.args.winner c.args.nodes (kept_count c.args.n kept standing)) standing
    (sym (sym c.first_within.ensures ∙ c.in-Ok-None.is ∙ ap Ok c.in-Ok-None.field-0-is))

pub returns-in-Ok-Some : goal.returns-in-Ok-Some
returns-in-Ok-Some c =
    let kept = stands c.args.list in
    let standing = first_kept c.args.n c.args.winner kept in
    some-stands c.in-Ok-Some.order (walk.first_over c.args.n c.args.winner c.args.nodes (kept_count c.args.n kept standing)) standing
    (sym (sym c.first_within.ensures ∙ c.in-Ok-Some.is ∙ ap Ok c.in-Ok-Some.field-0-is))

pub returns : goal.returns
returns c =
    let kept = stands c.args.list in
    let standing = first_kept c.args.n c.args.winner kept in
    error-spent c.in-Err.last (walk.first_over c.args.n c.args.winner c.args.nodes (kept_count c.args.n kept standing)) standing
    (sym (sym c.first_within.ensures ∙ c.in-Err.is))
