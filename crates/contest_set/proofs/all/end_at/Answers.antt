use Rattle.std.proofs.Common.{◌≡◌, ◌∙◌, Some, length, refl, sym, subst, arith}
use Rattle.std.proofs.lemmas.Option.{slice_get_read}
use Rattle.contest_set.specs.Refusals.{IsOne}
use Rattle.contest_set.proofs.Joining.{each-linked}
use Rattle.contest_set.proofs.all.end_at.Goals as goal

pub audit_one-requires-clause-linked : goal.audit_one-requires-clause-linked
audit_one-requires-clause-linked g c κs within =
    let list = c.args.list.now in
    each-linked c.args.m.now list c.args.place c.index-list-place.result c.requires.linked
    (slice_get_read list (length list) c.args.place c.index-list-place.result refl c.requires.within c.index-list-place.is)

pub returns : goal.returns
returns g c = λ ballots entries there of.
    let list = c.args.list.now in
    let seen = c.args.seen.now in
    let place = c.args.place in
    let b = c.index-list-place.result in
    let s = c.index-seen-place.result in
    let at_list : Some ballots ≡ Some b = sym there ∙ slice_get_read list (length list) place b refl c.requires.within c.index-list-place.is in
    let at_seen : Some entries ≡ Some s = sym of
    ∙ slice_get_read seen (length seen) place s refl (omega (arith, c.requires.within, c.requires.seen)) c.index-seen-place.is in
    let same_ballots : b ≡ ballots = cc in
    let same_entries : s ≡ entries = cc in
    subst (λ x. IsOne c.args.m.now c.args.terms.now x entries place c.audit_one.result) same_ballots
    (subst (λ x. IsOne c.args.m.now c.args.terms.now b x place c.audit_one.result) same_entries c.audit_one.ensures)
