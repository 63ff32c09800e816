use Rattle.std.proofs.Common.{◌≡◌, ◌∙◌, ◌∷◌, suc, drop, length, refl, sym, ap, subst}
use Rattle.std.proofs.Math.Seq.{drop-cons}
use Rattle.std.proofs.lemmas.Option.{get_or_from_slice_get, slice_get_read}
use Rattle.manifest.specs.Linked.{first_without_card}
use Rattle.contest_set.specs.Refusals.{LacksCard, as_set_fault, first_without_card_of_all}
use Rattle.contest_set.proofs.Joining.{lacks-card}
use Rattle.contest_set.proofs.all.see_cards.Goals as goal

pub returns-in-Err-clause-refused : goal.returns-in-Err-clause-refused
returns-in-Err-clause-refused c =
    let batches = c.args.m.now in
    let list = c.args.list.now in
    let k = c.loop-ballots.ballots-index in
    let ballots = c.ballots-item.result in
    let there = slice_get_read list (length list) k ballots refl c.loop-ballots-test.true c.ballots-item.is in
    let split : drop k list ≡ ballots ∷ drop (suc k) list = drop-cons list k ballots c.loop-ballots-test.true
    ∙ ap (λ b. b ∷ drop (suc k) list) (get_or_from_slice_get list k ballots ballots there) in
    subst (LacksCard (first_without_card_of_all batches list)) (sym c.from.ensures)
    (subst (λ o. LacksCard o (as_set_fault c.in-Err.fault)) (sym (c.loop-ballots.invariant ∙ ap (first_without_card_of_all batches) split))
    (lacks-card (first_without_card batches ballots) (first_without_card_of_all batches (drop (suc k) list)) c.in-Err.fault c.in-Err.ensures.no_card))
