use Rattle.std.proofs.Common.{rules, ◌∙◌, true, false, not, sym, ap, refl}
use Rattle.irv_base.specs.Names.{is_among}
use Rattle.ballot_ids.proofs.Marks.{are-bytes}
use Rattle.ballot_ids.proofs.Noting.{elsewhere-more, here, paged-more, told, unpaged}
use Rattle.ballot_ids.proofs.noted.Noted.note.Goals as goal

pub returns-in-Fresh-clause-new : goal.returns-in-Fresh-clause-new
returns-in-Fresh-clause-new c = λ met noted.
    let mark = c.in_ok-mark.ensures in
    let none = here met c.args.self.now c.mark.new.self c.args.id.now noted mark.stays (mark.here (search rules)) in
    ap not (sym (told met c.args.self.now c.args.id.now false false noted (are-bytes c.args.id.now c.type_inv.id) (mark.fresh c.in-Fresh.is) none))

pub returns-in-Fresh-clause-noted : goal.returns-in-Fresh-clause-noted
returns-in-Fresh-clause-noted c = λ met noted new.
    let mark = c.in_ok-mark.ensures in
    paged-more met c.args.self.now _ c.args.id.now noted refl (mark.marked c.in-Fresh.is) mark.stays

pub returns-in-Met-clause-new : goal.returns-in-Met-clause-new
returns-in-Met-clause-new c = λ met noted.
    let mark = c.in_ok-mark.ensures in
    ap not (sym (told met c.args.self.now c.args.id.now true (is_among c.args.self.now.elsewhere c.args.id.now) noted
    (are-bytes c.args.id.now c.type_inv.id) (mark.met c.in-Met.is) refl))

pub returns-in_ok-new-in-Elsewhere-clause-new : goal.returns-in_ok-new-in-Elsewhere-clause-new
returns-in_ok-new-in-Elsewhere-clause-new c = λ met noted.
    let mark = c.in_ok-mark.ensures in
    let id = c.args.id.now in
    let old = c.args.self.now in
    let off = sym (mark.same (search rules) id) ∙ unpaged c.mark.new.self id (mark.elsewhere c.in-Elsewhere.is) in
    c.in_ok-new-in-Elsewhere.ensures.new ∙ ap not (sym (told met old id false (is_among old.elsewhere id) noted (are-bytes id c.type_inv.id) off refl))

pub returns-in_ok-new-in-Elsewhere-clause-noted : goal.returns-in_ok-new-in-Elsewhere-clause-noted
returns-in_ok-new-in-Elsewhere-clause-noted c = λ met noted new.
    let mark = c.in_ok-mark.ensures in
    elsewhere-more met c.args.self.now _ c.args.id.now noted (mark.same (search rules)) c.in_ok-new-in-Elsewhere.ensures.put mark.stays (mark.elsewhere c.in-Elsewhere.is)
