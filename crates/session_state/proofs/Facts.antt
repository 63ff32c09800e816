-- Whether a session has some facts, as a test.
use Rattle.std.proofs.Common.{◌≡◌, ℕ, true, ◌&&◌, ◌==◌, List, refl, eqb-true, eq-eqb}
use Rattle.std.specs.Cmp.Lexicographic.{pointwise}
use Rattle.std.proofs.lemmas.Bool.{and_parts, and_from}
use Rattle.std.proofs.lemmas.Bool.Decides.{Decides-eqb}
use Rattle.std.proofs.lemmas.Slice.Eq.{slice_eq-Decides}
use Rattle.irv_base.specs.Names.{Id, is_same}
use Rattle.session_state.specs.Content.{Content}
use Rattle.session_state.specs.Inputs.{HasFacts, has_facts}
use Rattle.session_state.specs.Laws.{FactsLaw}

decides-same : (a b : List ℕ) → (pointwise ◌==◌ a b ≡ true → a ≡ b) × (a ≡ b → pointwise ◌==◌ a b ≡ true)
decides-same a b = slice_eq-Decides Decides-eqb a b (pointwise ◌==◌ a b) refl

module _ (content : Content) (cards : ℕ) (contest : Id) (margins : List ℕ) where
  pub facts_are : has_facts content cards contest margins ≡ true → HasFacts content cards contest margins
  facts_are h =
      let (head, same) = and_parts ((content.session.cards == cards) && is_same content.contest contest) _ h in
      let (number, id) = and_parts (content.session.cards == cards) (is_same content.contest contest) head in
      record {
        cards_are = eqb-true content.session.cards cards number;
        contest_is = (decides-same content.contest contest).0 id;
        margins_are = (decides-same content.session.margins margins).0 same;
      }

  pub facts_from : HasFacts content cards contest margins → has_facts content cards contest margins ≡ true
  facts_from facts =
      and_from ((content.session.cards == cards) && is_same content.contest contest) _
      (and_from (content.session.cards == cards) (is_same content.contest contest) (eq-eqb content.session.cards cards facts.cards_are)
      ((decides-same content.contest contest).1 facts.contest_is))
      ((decides-same content.session.margins margins).1 facts.margins_are)

pub facts_law : FactsLaw
facts_law content cards contest margins = (facts_from content cards contest margins, facts_are content cards contest margins)
