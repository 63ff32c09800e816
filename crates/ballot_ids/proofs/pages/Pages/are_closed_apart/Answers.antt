use Rattle.std.proofs.Common.{◌≡◌, ◌∙◌, ℕ, Some, sym}
use Rattle.std.specs.BTreeMap.{get}
use Rattle.std.specs.Map.Iter.{deref_pair}
use Rattle.std.specs.Ordering.{nat_cmp}
use Rattle.std.proofs.lemmas.Bool.{false≢true}
use Rattle.std.proofs.lemmas.Map.Views.{All-turn}
use Rattle.ballot_ids.specs.declared.page.Page.{Page}
use Rattle.ballot_ids.proofs.PagesLeft.{not-apart}
use Rattle.ballot_ids.proofs.pages.Pages.are_closed_apart.Goals as goal

pub returns-then-not-is_apart : goal.returns-then-not-is_apart
returns-then-not-is_apart c =
    let its = c.args.other.now in
    let number = c.in-Some.number.now in
    let page = c.in-Some.page.now in
    let gives = c.into_iter-number-iterator.ensures.into_iter_gives in
    let there : get nat_cmp its.closed number ≡ Some page =
    All-turn deref_pair (λ (e : ℕ × Page). get nat_cmp its.closed e.0 ≡ Some e.1) its.closed.entries c.loop-number.yielded
    c.into_iter-number-iterator.result c.loop-number.number-iterator c.next.new.self c.next.result (c.in-Some.number, c.in-Some.page) gives.6 gives.0
    c.loop-number.yielded_by c.in-Some.is c.next.ensures.steps in
    let bad = sym c.is_apart.ensures ∙ c.if-not-is_apart.true in (
      λ t. absurd (false≢true t),
      λ all. absurd (not-apart c.args.self.now its number page c.if-number-other.true there bad all),
    )
