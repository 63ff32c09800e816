use Rattle.std.proofs.Common.{◌≡◌, ◌||◌, ◌==◌, [], not, true, take, length, refl, ap, sym, ◌∙◌, arith}
use Rattle.std.specs.List.{list_all}
use Rattle.std.proofs.lemmas.Bool.{not-false}
use Rattle.irv_base.specs.Candidates.{is_in, is_distinct}
use Rattle.irv_base.specs.Names.{is_among, is_same}
use Rattle.irv_base.proofs.Distinct.{distinct-from_test}
use Rattle.irv_base.proofs.Sets.{set_of_is}
use Rattle.assertion_file.specs.Ids.{number_of, numbers_of}
use Rattle.irv_base.proofs.Firsts.{is_in-push}
use Rattle.assertion_file.proofs.Differ.{repeats-more}
use Rattle.irv_base.proofs.Positions.{stands_at, stands_nowhere}
use Rattle.assertion_file.proofs.Listed.{texts, next, outside, one_more, map-next, all_taken}
use Rattle.assertion_file.proofs.ids.set_of.Goals as goal

pub returns-in_default : goal.returns-in_default
returns-in_default c =
    let names = c.args.names.now in
    let n = next c.args.ids.now c.loop-id.id-index c.id-item.result c.loop-id-test.true c.id-item.is in
    let none = stands_nowhere (λ other. is_same other c.text_of.result.now) names (sym c.candidate.ensures ∙ c.in_default.is) in
    let out = outside (is_among names) (texts c.args.ids.now) c.loop-id.id-index _ n (ap (is_among names) (sym c.text_of.ensures) ∙ none) in
    rw out refl

pub loop-id-preserved : goal.loop-id-preserved
loop-id-preserved c =
    let names = c.args.names.now in
    let all = texts c.args.ids.now in
    let i = c.loop-id.id-index in
    let n = next c.args.ids.now i c.id-item.result c.loop-id-test.true c.id-item.is in
    let stands = stands_at (λ other. is_same other c.text_of.result.now) names c.in-Some.c [] (sym c.in-Some.ensures) in
    let so_far = numbers_of names (take i all) in
    let numbers = map-next (number_of names) all i _ c.in-Some.c n (ap (number_of names) (sym c.text_of.ensures) ∙ stands.number) in
    record {
      among = one_more (is_among names) all i _ n c.loop-id.invariant.among (ap (is_among names) (sym c.text_of.ensures) ∙ stands.among);
      members = λ d.
          c.with-set.ensures.members d ∙ ap (λ b. b || (d == c.in-Some.c)) (c.loop-id.invariant.members d)
          ∙ sym (ap (λ cs. is_in cs d) numbers ∙ is_in-push so_far c.in-Some.c d);
      repeated =
          repeats-more so_far c.in-Some.c c.loop-id.repeats c.has-repeats.result c.loop-id.invariant.repeated (c.has-repeats.ensures
          ∙ c.loop-id.invariant.members c.in-Some.c)
          ∙ sym (ap (λ cs. not (is_distinct cs)) numbers);
    }

pub returns : goal.returns
returns c =
    let names = c.args.names.now in
    let all = texts c.args.ids.now in
    let end : c.loop-id.id-index ≡ length c.args.ids.now = omega arith in
    let whole : take c.loop-id.id-index all ≡ all = ap (λ i. take i all) end ∙ all_taken c.args.ids.now in
    let among : list_all (is_among names) all ≡ true = ap (list_all (is_among names)) (sym whole) ∙ c.loop-id.invariant.among in
    let distinct : is_distinct (numbers_of names all) ≡ true =
    not-false _ (ap (λ ids. not (is_distinct (numbers_of names ids))) (sym whole) ∙ sym c.loop-id.invariant.repeated ∙ c.if-repeats.false) in
    let set = set_of_is c.loop-id.set (numbers_of names all) (distinct-from_test (numbers_of names all) distinct) (λ d. c.loop-id.invariant.members d
    ∙ ap (λ ids. is_in (numbers_of names ids) d) whole) in
    rw (among, distinct, set) refl
