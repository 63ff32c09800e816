use Rattle.std.proofs.Common.{◌∙◌, ◌++◌, ◌∷◌, [], take, length, sym, ap, arith}
use Rattle.std.proofs.lemmas.Bool.{not-true, not-false}
use Rattle.irv_base.specs.Names.{is_among}
use Rattle.ballot_reader.proofs.Names.{first-so_far, names-invalid, names-more, names-repeated}
use Rattle.ballot_reader.proofs.contest.names_of.Goals as goal

pub returns-in_default-read : goal.returns-in_default-read
returns-in_default-read c =
    let fields = c.args.fields.now in
    let so_far = first-so_far (take c.args.n fields) c.loop.names c.args.n c.loop.counter c.loop.fields c.in-Some.field.now c.next.new.self
    c.loop.invariant.so_far c.in-Some.ensures.steps c.loop-test.true in
    sym (names-invalid (take c.args.n fields) c.loop.names c.in-Some.field.now _ so_far c.in_default-read.ensures.none)

pub returns-then-not-branch : goal.returns-then-not-branch
returns-then-not-branch c =
    let fields = c.args.fields.now in
    let names = c.loop.names in
    let so_far = first-so_far (take c.args.n fields) names c.args.n c.loop.counter c.loop.fields c.in-Some.field.now c.next.new.self c.loop.invariant.so_far
    c.in-Some.ensures.steps c.loop-test.true in
    let again = ap (is_among names) (sym c.in-Some-read.ensures.name) ∙ not-false _ (sym c.in_ok-put.ensures.new ∙ c.if-not-branch.true) in
    sym (names-repeated (take c.args.n fields) names c.in-Some.field.now _ so_far again)

pub loop-preserved : goal.loop-preserved
loop-preserved c =
    let fields = c.args.fields.now in
    let names = c.loop.names in
    let so_far = first-so_far (take c.args.n fields) names c.args.n c.loop.counter c.loop.fields c.in-Some.field.now c.next.new.self c.loop.invariant.so_far
    c.in-Some.ensures.steps c.loop-test.true in
    let new = ap (is_among names) (sym c.in-Some-read.ensures.name) ∙ not-true _ (sym c.in_ok-put.ensures.new ∙ c.if-not-branch.false) in
    let keys = rw c.if-not-branch.false at c.in_ok-put.ensures.put ∙ ap (λ id. names ++ id ∷ []) c.in-Some-read.ensures.name in
    record {
      so_far = rw keys (names-more (take c.args.n fields) names c.in-Some.field.now _ so_far c.in-Some-read.ensures.valid new);
      enough = omega (arith, c.loop.invariant.enough, ap length c.in-Some.ensures.steps, c.loop-test.true);
    }
