use Rattle.std.proofs.Common.{◌≡◌, ◌∙◌, ℕ, ◌+◌, ◌-◌, ◌++◌, ◌∷◌, [], Bool, true, false, cond, not, Some, map, refl, sym, ap, arith}
use Rattle.std.specs.Prelude.{find, is_some}
use Rattle.std.specs.List.{range_with_len}
use Rattle.std.proofs.lemmas.List.{map-append}
use Rattle.std.proofs.lemmas.List.FromFn.{map-range_with_len_more}
use Rattle.sampler.specs.Draws.{drawn_card}
use Rattle.seen_file.specs.Seen.{seen_in}
use Rattle.audit_session.specs.Going.{all_seen, drawn_cards, seen_card}
use Rattle.audit_session.proofs.Comparing.{seen-is, find-left}
use Rattle.audit_session.proofs.seen.drawn_seen.Goals as goal

pub returns-in_default-clause-refused : goal.returns-in_default-clause-refused
returns-in_default-clause-refused c =
    let seed = c.args.seed.now in
    let n = c.args.cards in
    let k : ℕ = c.loop-i.i + 1 in
    let lacks : ℕ → Bool = λ j. not (is_some (seen_in c.args.seen.now (drawn_card seed j n))) in
    let card-is : c.draw-card.result ≡ drawn_card seed k n = c.draw-card.ensures.card ∙ ap (λ j. drawn_card seed j n) c.from.ensures in
    let here : lacks k ≡ true = ap (λ o. not (is_some o)) (ap (seen_in c.args.seen.now) (sym card-is) ∙ sym c.get.ensures ∙ c.in_default.is) in
    let found = c.loop-i.invariant.left ∙ find-left lacks c.loop-i.i c.args.draws k (k + 1) (omega arith) refl refl
    ∙ ap (λ b. cond b (Some k) (find lacks (range_with_len (k + 1) (c.args.draws - k)))) here in
    (found, card-is)

pub loop-i-preserved : goal.loop-i-preserved
loop-i-preserved c =
    let seed = c.args.seed.now in
    let n = c.args.cards in
    let k : ℕ = c.loop-i.i + 1 in
    let at = seen_card (all_seen c.args.seen.now n) in
    let lacks : ℕ → Bool = λ j. not (is_some (seen_in c.args.seen.now (drawn_card seed j n))) in
    let card-is : c.draw-card.result ≡ drawn_card seed k n = c.draw-card.ensures.card ∙ ap (λ j. drawn_card seed j n) c.from.ensures in
    let seen-as : seen_in c.args.seen.now c.draw-card.result ≡ Some c.in-Some.of = sym c.get.ensures ∙ c.in-Some.is in
    let here : lacks k ≡ false = ap (λ o. not (is_some o)) (ap (seen_in c.args.seen.now) (sym card-is) ∙ seen-as) in
    let card = seen-is c.args.seen.now n c.draw-card.result c.in-Some.of c.draw-card.ensures.least c.draw-card.ensures.most seen-as in
    let more = map-range_with_len_more (λ j. drawn_card seed j n) 1 c.loop-i.i k (omega arith) in
    record {
      cards =
          c.in_ok-push.ensures.items
          ∙ ap (λ xs. xs ++ record { card = c.draw-card.result; seen = c.in-Some.of } ∷ []) c.loop-i.invariant.cards
          ∙ ap (λ x. map at (drawn_cards seed n c.loop-i.i) ++ x ∷ []) (sym card ∙ ap at card-is)
          ∙ sym (ap (map at) more ∙ map-append at (drawn_cards seed n c.loop-i.i) (drawn_card seed k n ∷ []));
      left =
          c.loop-i.invariant.left ∙ find-left lacks c.loop-i.i c.args.draws k (1 + k) (omega arith) refl (omega arith)
          ∙ ap (λ b. cond b (Some k) (find lacks (range_with_len (1 + k) (c.args.draws - k)))) here;
    }
