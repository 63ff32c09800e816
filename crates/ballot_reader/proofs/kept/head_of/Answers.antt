use Rattle.std.proofs.Common.{◌∙◌, ◌∷◌, refl, sym, ap}
use Rattle.ballot_reader.proofs.Heads.{head-elsewhere, head-follows}
use Rattle.ballot_reader.proofs.kept.head_of.Goals as goal

pub returns-in_default-contest_place-clause-broken : goal.returns-in_default-contest_place-clause-broken
returns-in_default-contest_place-clause-broken c =
    let of = c.in-Some-Some.of.now in
    let e = c.in-Some-Some.ensures.steps ∙ ap (λ rest. of ∷ rest) c.in-Some-Some.ensures'.steps in
    head-elsewhere c.args.contests.now c.args.fields.now of c.in-Some-Some.id.now c.next-2.new.self e (sym c.is_name.ensures
    ∙ c.if-not-is_name.false) (sym c.in_default-contest_place.ensures.place)

pub returns-clause-follows : goal.returns-clause-follows
returns-clause-follows c =
    let of = c.in-Some-Some.of.now in
    let e = c.in-Some-Some.ensures.steps ∙ ap (λ rest. of ∷ rest) c.in-Some-Some.ensures'.steps in
    head-follows c.args.contests.now c.args.fields.now of c.in-Some-Some.id.now c.in-Some-Some.id.now c.next-2.new.self
    c.in-Some.contest e refl (sym c.is_name.ensures ∙ c.if-not-is_name.false)
    (sym c.in-Some.ensures.place)
