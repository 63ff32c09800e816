use Rattle.std.proofs.Common.{◌∙◌, ◌≡◌, Some, cond, length, not, sym, ap, arith}
use Rattle.std.specs.Prelude.{is_some}
use Rattle.std.specs.BTreeMap.{get}
use Rattle.std.specs.Cmp.Lexicographic.{slice_cmp}
use Rattle.std.specs.Option.{unwrap_or}
use Rattle.std.specs.Ordering.{nat_cmp}
use Rattle.irv_base.specs.Names.{Id, is_among, is_same}
use Rattle.manifest.specs.IdWords.{words_of}
use Rattle.manifest.proofs.BatchTable.{among_later, at_free, at_met, at_place, at_taken, first_again, first_tells, found_within, new_at_free, none_stood, same_later, stood}
use Rattle.manifest.proofs.IdWords.{words_tie}
use Rattle.manifest.proofs.batch_ids.BatchIds.put.Goals as goal

pub invariant_of-self-then-first-eq0 : goal.invariant_of-self-then-first-eq0
invariant_of-self-then-first-eq0 c =
    let ids = c.self.inside.ids.items in
    let id = c.args.id in
    let number = c.index-first.result.now in
    let at = at_place ids c.self.inside.table.items _ id c.len.result c.place_in-place.result number c.self.invariant c.bytes.ensures.valid
    (omega (arith, c.len.ensures, c.self.inside.table.ok)) (rw c.bytes.ensures.same at c.place_in-place.ensures.place) c.place_in-place.ensures.within
    c.index-first.ensures in
    let more : c.len-index.result ≡ length ids = omega (arith, c.len-index.ensures, c.self.inside.ids.ok) in
    rw (c.push_reserved.ensures.items, c.reserve.ensures.items, more)
    (at_free ids c.self.inside.table.items _ id c.place_in-place.result c.self.invariant (new_at_free ids number _ id at.placed c.if-first-eq0.true)
    at.at at.within (at.first ∙ c.if-first-eq0.true))

pub returns-then-first-eq0-clause-new : goal.returns-then-first-eq0-clause-new
returns-then-first-eq0-clause-new c =
    let ids = c.self.inside.ids.items in
    let id = c.args.id in
    let number = c.index-first.result.now in
    let at = at_place ids c.self.inside.table.items _ id c.len.result c.place_in-place.result number c.self.invariant c.bytes.ensures.valid
    (omega (arith, c.len.ensures, c.self.inside.table.ok)) (rw c.bytes.ensures.same at c.place_in-place.ensures.place) c.place_in-place.ensures.within
    c.index-first.ensures in
    sym (ap not (ap (λ ids. is_among ids id) (sym c.self.view_is) ∙ new_at_free ids number _ id at.placed c.if-first-eq0.true))

pub returns-then-eq-clause-new : goal.returns-then-eq-clause-new
returns-then-eq-clause-new c =
    let ids = c.self.inside.ids.items in
    let id = c.args.id in
    let number = c.index-first.result.now in
    let at = at_place ids c.self.inside.table.items _ id c.len.result c.place_in-place.result number c.self.invariant c.bytes.ensures.valid
    (omega (arith, c.len.ensures, c.self.inside.table.ok)) (rw c.bytes.ensures.same at c.place_in-place.ensures.place) c.place_in-place.ensures.within
    c.index-first.ensures in
    let own = first_tells ids number _ id c.index.result.now c.eq.result at.placed c.if-first-eq0.false (rw c.reserve.ensures.items at c.index.ensures)
    c.eq.ensures ∙ c.if-eq.true in
    sym (ap not (ap (λ ids. is_among ids id) (sym c.self.view_is) ∙ first_again ids number _ id at.placed c.if-first-eq0.false own))

pub invariant_of-self-in_err-index_under : goal.invariant_of-self-in_err-index_under
invariant_of-self-in_err-index_under c =
    rw c.reserve.ensures.items
    (same_later c.self.inside.ids.items c.self.inside.table.items _ _ c.self.invariant (λ other _. c.in_err-index_under.ensures.same (words_of other)))

pub invariant_of-self-then-branch-index : goal.invariant_of-self-then-branch-index
invariant_of-self-then-branch-index c =
    let i = c.in_ok-index_under.field-0 in
    let later = λ (id : Id). get (slice_cmp nat_cmp) c.self.inside.later (words_of id) in
    let was : i ≡ unwrap_or (later c.args.id) c.len-index.result = rw c.of.ensures at c.in_ok-index_under.ensures.index in
    rw c.reserve.ensures.items
    (at_met c.self.inside.ids.items c.self.inside.table.items later _ c.args.id i c.self.invariant
    (stood (later c.args.id) i c.len-index.result was c.if-branch-index.true)
    (λ other named. rw c.of.ensures at (c.in_ok-index_under.ensures.put (words_of other))
    ∙ ap (λ b. cond b (Some i) (later other)) (words_tie c.args.id other c.bytes.ensures.valid named)))

pub returns-then-branch-index-clause-new : goal.returns-then-branch-index-clause-new
returns-then-branch-index-clause-new c =
    let ids = c.self.inside.ids.items in
    let id = c.args.id in
    let number = c.index-first.result.now in
    let at = at_place ids c.self.inside.table.items _ id c.len.result c.place_in-place.result number c.self.invariant c.bytes.ensures.valid
    (omega (arith, c.len.ensures, c.self.inside.table.ok)) (rw c.bytes.ensures.same at c.place_in-place.ensures.place) c.place_in-place.ensures.within
    c.index-first.ensures in
    let own = first_tells ids number _ id c.index.result.now c.eq.result at.placed c.if-first-eq0.false (rw c.reserve.ensures.items at c.index.ensures)
    c.eq.ensures ∙ c.if-eq.false in
    let i = c.in_ok-index_under.field-0 in
    let later = λ (id : Id). get (slice_cmp nat_cmp) c.self.inside.later (words_of id) in
    let was : i ≡ unwrap_or (later c.args.id) c.len-index.result = rw c.of.ensures at c.in_ok-index_under.ensures.index in
    let again = among_later ids number (later id) id at.placed c.if-first-eq0.false own
    ∙ ap is_some (stood (later id) i c.len-index.result was c.if-branch-index.true) in
    sym (ap not (ap (λ ids. is_among ids id) (sym c.self.view_is) ∙ again))

pub invariant_of-self-2 : goal.invariant_of-self-2
invariant_of-self-2 c =
    let ids = c.self.inside.ids.items in
    let id = c.args.id in
    let number = c.index-first.result.now in
    let at = at_place ids c.self.inside.table.items _ id c.len.result c.place_in-place.result number c.self.invariant c.bytes.ensures.valid
    (omega (arith, c.len.ensures, c.self.inside.table.ok)) (rw c.bytes.ensures.same at c.place_in-place.ensures.place) c.place_in-place.ensures.within
    c.index-first.ensures in
    let own = first_tells ids number _ id c.index.result.now c.eq.result at.placed c.if-first-eq0.false (rw c.reserve.ensures.items at c.index.ensures)
    c.eq.ensures ∙ c.if-eq.false in
    let i = c.in_ok-index_under.field-0 in
    let later = λ (id : Id). get (slice_cmp nat_cmp) c.self.inside.later (words_of id) in
    let was : i ≡ unwrap_or (later c.args.id) c.len-index.result = rw c.of.ensures at c.in_ok-index_under.ensures.index in
    let more : c.len-index.result ≡ length ids = omega (arith, c.len-index.ensures, c.self.inside.ids.ok) in
    let none = none_stood (later id) i c.len-index.result was c.if-branch-index.false
    (λ j e. omega (arith, found_within ids number j (later id) id at.placed c.if-first-eq0.false own e, more)) in
    let new = among_later ids number (later id) id at.placed c.if-first-eq0.false own ∙ ap is_some none in
    rw (c.push_reserved-2.ensures.items, c.reserve.ensures.items)
    (at_taken ids c.self.inside.table.items later _ id c.place_in-place.result c.self.invariant c.bytes.ensures.valid new at.at
    (λ zero. c.if-first-eq0.false (sym at.first ∙ zero))
    (λ other named. rw c.of.ensures at (c.in_ok-index_under.ensures.put (words_of other))
    ∙ ap (λ b. cond b (Some i) (later other)) (words_tie c.args.id other c.bytes.ensures.valid named)
    ∙ ap (λ n. cond (is_same id other) (Some n) (later other)) (c.if-branch-index.false ∙ more)))

pub returns-clause-new : goal.returns-clause-new
returns-clause-new c =
    let ids = c.self.inside.ids.items in
    let id = c.args.id in
    let number = c.index-first.result.now in
    let at = at_place ids c.self.inside.table.items _ id c.len.result c.place_in-place.result number c.self.invariant c.bytes.ensures.valid
    (omega (arith, c.len.ensures, c.self.inside.table.ok)) (rw c.bytes.ensures.same at c.place_in-place.ensures.place) c.place_in-place.ensures.within
    c.index-first.ensures in
    let own = first_tells ids number _ id c.index.result.now c.eq.result at.placed c.if-first-eq0.false (rw c.reserve.ensures.items at c.index.ensures)
    c.eq.ensures ∙ c.if-eq.false in
    let i = c.in_ok-index_under.field-0 in
    let later = λ (id : Id). get (slice_cmp nat_cmp) c.self.inside.later (words_of id) in
    let was : i ≡ unwrap_or (later c.args.id) c.len-index.result = rw c.of.ensures at c.in_ok-index_under.ensures.index in
    let more : c.len-index.result ≡ length ids = omega (arith, c.len-index.ensures, c.self.inside.ids.ok) in
    let none = none_stood (later id) i c.len-index.result was c.if-branch-index.false
    (λ j e. omega (arith, found_within ids number j (later id) id at.placed c.if-first-eq0.false own e, more)) in
    let new = among_later ids number (later id) id at.placed c.if-first-eq0.false own ∙ ap is_some none in
    sym (ap not (ap (λ ids. is_among ids id) (sym c.self.view_is) ∙ new))
