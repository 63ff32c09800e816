use Rattle.std.proofs.Common.{◌≡◌, ℕ, [], ◌∷◌, ◌++◌, true, false, List, get_or, sym, ap, subst, ◌∙◌}
use Rattle.set_walk.specs.Dives.{is_seen}
use Rattle.set_flow.specs.Kept.{carried}
use Rattle.set_flow.specs.Seen.{turned, can_go, AreLinked, AreLinks}
use Rattle.set_flow.proofs.Seeing.{linked-more, links-more}
use Rattle.set_flow.proofs.searching.look_by.Goals as goal

-- the lists by other names
renamed : (P : List ℕ → List ℕ → List ℕ → Type 0) (a b c a' b' c' : List ℕ) → a' ≡ a → b' ≡ b → c' ≡ c → P a b c → P a' b' c'
renamed P a b c a' b' c' e f h p =
    subst (λ x. P x b' c') (sym e) (subst (λ x. P a x c') (sym f) (subst (λ x. P a b x) (sym h) p))

pub returns-clause-linked : goal.returns-clause-linked
returns-clause-linked g c =
    let old = c.args.seen.now in
    let new = c.put.new.self in
    let x = c.turned-next.result in
    let to : x ≡ turned (get_or old.sets.keys c.args.place 0) c.args.c = c.turned-next.ensures ∙ ap (λ s. turned s c.args.c) c.at-set.ensures in
    let fresh : is_seen old.sets.keys x ≡ false = sym c.has.ensures ∙ c.if-has.false in
    renamed (AreLinked c.args.n) (old.sets.keys ++ x ∷ []) (old.from.items ++ c.args.place ∷ []) (old.by.items ++ c.args.c ∷ [])
    new.sets.keys new.from.items new.by.items c.in_ok-put.ensures.sets c.in_ok-put.ensures.from c.in_ok-put.ensures.by
    (linked-more c.args.n old.sets.keys old.from.items old.by.items c.requires.linked c.args.place c.args.c x c.requires.place c.requires.below to fresh)

pub returns-clause-links : goal.returns-clause-links
returns-clause-links g c = λ rooms by links.
    let old = c.args.seen.now in
    let new = c.put.new.self in
    let flow = carried c.args.flow.now.kept in
    let x = c.turned-next.result in
    let to : x ≡ turned (get_or old.sets.keys c.args.place 0) c.args.c = c.turned-next.ensures ∙ ap (λ s. turned s c.args.c) c.at-set.ensures in
    let fresh : is_seen old.sets.keys x ≡ false = sym c.has.ensures ∙ c.if-has.false in
    let goes : can_go rooms flow (get_or old.sets.keys c.args.place 0) c.args.c ≡ true =
    ap (λ s. can_go rooms flow s c.args.c) (sym c.at-set.ensures) ∙ sym (c.in_ok-can_go.ensures.goes rooms by) ∙ c.if-not-branch.false in
    renamed (AreLinks rooms flow) (old.sets.keys ++ x ∷ []) (old.from.items ++ c.args.place ∷ []) (old.by.items ++ c.args.c ∷ [])
    new.sets.keys new.from.items new.by.items c.in_ok-put.ensures.sets c.in_ok-put.ensures.from c.in_ok-put.ensures.by
    (links-more c.args.n old.sets.keys old.from.items old.by.items c.requires.linked c.args.place c.args.c x c.requires.place c.requires.below to fresh
    rooms flow links goes)
