use Rattle.std.proofs.Common.{not, slice_index, sym, ap, ◌∙◌}
use Rattle.std.specs.List.{list_any}
use Rattle.cover_checker.specs.Indexed.{is_new}
use Rattle.cover_checker.proofs.New.{stands_is}
use Rattle.trimmer.specs.Remaining.{assertions_in}
use Rattle.trimmer.proofs.opened.WithoutKeeps.keeps.Goals as goal

pub returns : goal.returns
returns c =
    let list = assertions_in c.args.self.now.others.now in
    ap not (c.is_any_new.ensures ∙ ap (λ x. list_any (λ a. is_new a x c.set.result) list) c.first.ensures
    ∙ ap (λ x. list_any (λ a. is_new a (slice_index c.args.suffix.now 0) x) list) c.set.ensures)
    ∙ sym (stands_is c.args.self.now.n list c.args.suffix.now c.requires.proper c.requires.some c.requires.parent)
