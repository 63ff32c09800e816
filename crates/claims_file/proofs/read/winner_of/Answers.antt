use Rattle.std.proofs.Common.{◌≡◌, ◌∙◌, [], true, length, sym, ap, ap₂}
use Rattle.std.proofs.lemmas.Bool.{not-false}
use Rattle.irv_base.specs.Names.{is_same}
use Rattle.irv_base.specs.Orders.{is_order}
use Rattle.irv_base.proofs.Positions.{stands_at, stands_nowhere}
use Rattle.assertion_file.specs.Ids.{numbers_of}
use Rattle.assertion_file.proofs.Headings.{refuse}
use Rattle.claims_file.specs.Views.{stated_heading}
use Rattle.claims_file.specs.declared.fault.CRule.TheVariants.{C4}
use Rattle.claims_file.proofs.Headings.{AreNamed, kept, no_winner}
use Rattle.claims_file.proofs.read.winner_of.Goals as goal

pub returns-in_default-candidate-clause-refused : goal.returns-in_default-candidate-clause-refused
returns-in_default-candidate-clause-refused c =
    let contest = c.args.contest.now in
    let names = c.args.names.now in
    let heading = stated_heading c.args.heading.now in
    let same : is_same heading.contest contest ≡ true =
    sym (ap₂ is_same c.as_bytes.ensures.value c.bytes.ensures.same) ∙ not-false _ (sym c.ne.ensures ∙ c.if-ne.false) in
    let named : AreNamed contest names heading = record { same = same; listed = rw c.in-Some.is at c.in_ok-numbers.ensures.among } in
    let order : is_order (length names) (numbers_of names heading.candidates) ≡ true =
    ap (is_order (length names)) (sym (c.deref.ensures.value ∙ rw c.in-Some.is at c.in_ok-numbers.ensures.numbers)) ∙ sym c.has_each.ensures
    ∙ c.if-not-has_each.false in
    let out = stands_nowhere (λ other. is_same other heading.winner) names (sym c.candidate.ensures ∙ c.in_default-candidate.is) in
    refuse _ C4 _ (no_winner contest names heading named order out) c.refused-in_default-candidate.ensures

pub returns-clause-kept : goal.returns-clause-kept
returns-clause-kept c =
    let contest = c.args.contest.now in
    let names = c.args.names.now in
    let heading = stated_heading c.args.heading.now in
    let same : is_same heading.contest contest ≡ true =
    sym (ap₂ is_same c.as_bytes.ensures.value c.bytes.ensures.same) ∙ not-false _ (sym c.ne.ensures ∙ c.if-ne.false) in
    let named : AreNamed contest names heading = record { same = same; listed = rw c.in-Some.is at c.in_ok-numbers.ensures.among } in
    let order : is_order (length names) (numbers_of names heading.candidates) ≡ true =
    ap (is_order (length names)) (sym (c.deref.ensures.value ∙ rw c.in-Some.is at c.in_ok-numbers.ensures.numbers)) ∙ sym c.has_each.ensures
    ∙ c.if-not-has_each.false in
    let among = (stands_at (λ other. is_same other heading.winner) names _ [] (sym c.in-Some-candidate.ensures)).among in
    kept contest names heading named order among
