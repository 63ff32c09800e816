use Rattle.std.proofs.Common.{rules, ◌≡◌, ◌∙◌, ◌||◌, ◌==◌, Some, Option, Bool, true, false, sym, ap, inl, inr, eq-eqb, refl}
use Rattle.std.specs.Prelude.{if◌then◌else◌}
use Rattle.std.specs.BTreeMap.{get}
use Rattle.std.specs.Ordering.{nat_cmp}
use Rattle.std.proofs.lemmas.Bool.{cases_eq, ne_eqb}
use Rattle.std.proofs.lemmas.Result.{err_from_is_err_and}
use Rattle.irv_base.specs.Names.{is_same}
use Rattle.ballot_ids.specs.Ids.{bit_of, counted, has_bit, is_for_others, is_of, is_on, is_paged, page_at, page_number}
use Rattle.ballot_ids.specs.declared.pages.Pages.{Pages}
use Rattle.ballot_ids.specs.declared.page.Page.{Page}
use Rattle.ballot_ids.proofs.Marks.{and-none, are-bytes, beside, kept-elsewhere, lies, one-more, opened, other-page, still, turned-same}
use Rattle.ballot_ids.proofs.pages.Pages.mark.Goals as goal

pub returns-clause-marked : goal.returns-clause-marked
returns-clause-marked c = λ fresh other bytes.
    let id = c.args.id.now in
    let old = c.args.self.now in
    let turned = c.turn_to.new.self in
    let page : Page = record { like = turned.page.like; bits = c.set.new.self } in
    let told = c.in_ok-turn_to.ensures.turned in
    let at_open : turned.open ≡ page_number id = told.lies ∙ c.page_number.ensures in
    let shown : Option Page → Bool = λ p. is_on p other in
    elim (cases_eq (page_number other) turned.open) [
      | inl here ↦
          let is : (page_number other == turned.open) ≡ true = eq-eqb (page_number other) turned.open here in
          let its : page_at old c.page_number.result ≡ page_at old (page_number other) = ap (page_at old) (sym (here ∙ told.lies)) in
          let before = opened turned.page (page_at old (page_number other)) other (λ p h. told.found p (its ∙ h)) (λ h. told.blank (its ∙ h)) in
          ap (λ b. shown (if b then Some page else get nat_cmp turned.closed (page_number other))) is
          ∙ one-more turned.page id other c.set.new.self (are-bytes id c.type_inv.id) bytes (search rules) (here ∙ at_open)
          (λ b. c.set.ensures b ∙ ap (λ k. has_bit turned.page.bits b || (b == k)) (c.bit-bit.ensures ∙ ap bit_of c.counted-count.ensures))
          ∙ ap (λ b. is_same id other || b) before
      | inr away ↦
          let is : (page_number other == turned.open) ≡ false = ne_eqb (page_number other) turned.open away in
          let both : Option Page → Option Page = λ p. if page_number other == turned.open then p else get nat_cmp turned.closed (page_number other) in
          let kept : both (Some page) ≡ both (Some turned.page) =
          ap (λ b. if b then Some page else get nat_cmp turned.closed (page_number other)) is
          ∙ sym (ap (λ b. if b then Some turned.page else get nat_cmp turned.closed (page_number other)) is) in
          ap shown (kept ∙ told.others (page_number other) (λ e. away (e ∙ sym told.lies)))
          ∙ ap (λ b. b || is_paged old other) (sym (other-page id other (λ e. away (e ∙ sym at_open))))
    ]

pub returns-in_err-turn_to-clause-failed : goal.returns-in_err-turn_to-clause-failed
returns-in_err-turn_to-clause-failed c =
    let p = err_from_is_err_and c.from_residual.result c.from_residual.ensures.1 in
    let told = c.in_err-turn_to.ensures.same in
    rw p.1 (λ other. ap (λ page. is_on page other) (told (page_number other)))

pub returns-then-not-is_of-clause-same : goal.returns-then-not-is_of-clause-same
returns-then-not-is_of-clause-same c = λ unmarked other.
    turned-same c.args.self.now c.turn_to.new.self c.page_number.result c.args.id.now other c.in_ok-turn_to.ensures.turned

pub returns-then-has-clause-same : goal.returns-then-has-clause-same
returns-then-has-clause-same c = λ unmarked other.
    turned-same c.args.self.now c.turn_to.new.self c.page_number.result c.args.id.now other c.in_ok-turn_to.ensures.turned

pub returns-clause-fresh : goal.returns-clause-fresh
returns-clause-fresh c = λ marked.
    let old = c.args.self.now in
    let id = c.args.id.now in
    let turned = c.turn_to.new.self in
    let number = c.page_number.result in
    let told = c.in_ok-turn_to.ensures.turned in
    let unset : has_bit turned.page.bits (bit_of (counted id)) ≡ false =
    ap (has_bit turned.page.bits) (ap bit_of (sym c.counted-count.ensures) ∙ sym c.bit-bit.ensures) ∙ sym c.has.ensures ∙ c.if-has.false in
    ap (λ n. is_on (page_at old n) id) (sym c.page_number.ensures)
    ∙ sym (opened turned.page (page_at old number) id told.found told.blank)
    ∙ and-none (is_of turned.page id) (has_bit turned.page.bits (bit_of (counted id))) unset

pub returns-clause-stays : goal.returns-clause-stays
returns-clause-stays c = λ other h.
    let old = c.args.self.now in
    let turned = c.turn_to.new.self in
    let number = c.page_number.result in
    let told = c.in_ok-turn_to.ensures.turned in
    let page : Page = record { like = turned.page.like; bits = c.set.new.self } in
    let new : Pages = record { «open» = turned.open; page = page; closed = turned.closed } in
    kept-elsewhere old new number other (λ n away. beside turned page n number told.lies away ∙ told.others n away)
    (λ there. ap (λ p. is_for_others p other) (lies new number told.lies)
    ∙ still turned.page page (page_at old number) other refl told.found there) h
