-- Which steps a NEN of the floor can cut.
use Rattle.std.proofs.Common.{◌≡◌, ℕ, true, false, not, List, Option, Some, None, is_some, sym, ap}
use Rattle.std.proofs.lemmas.Bool.{both_ways, false_from_ne_true}
use Rattle.irv_base.specs.Candidates.{candidates}
use Rattle.irv_base.proofs.Members.{candidate-member, from_list_any, list_any-member}
use Rattle.assertions.specs.declared.assertion.Assertion.TheVariants.{Nen}
use Rattle.assertions.specs.Steps.{more}
use Rattle.assertions.proofs.Proper.{nen_facts}
use Rattle.fewest.specs.Flows.{is_cuttable}
use Rattle.fewest.specs.Nens.{is_enough}
use Rattle.nen_cut.specs.declared.strongest.Strongest.{Strongest}
use Rattle.nen_cut.specs.Floors.{IsCutter, IsStrongest}
use Rattle.nen_cut.proofs.Enough.{enough-facts}

module _ (n : ℕ) (records : List (List ℕ)) (floor set c : ℕ) where
  pub cuttable-where : (loser margin : ℕ) → IsStrongest n records floor c (more set c) loser margin → is_cuttable n records floor set c ≡ true
  cuttable-where loser margin is =
      let e = enough-facts n records floor (Nen c loser (more set c)) is.enough in
      list_any-member (λ l. is_enough n records floor (Nen c l (more set c)))
      (candidate-member loser n (nen_facts n c loser (more set c) e.proper).pair.loser) is.enough

  pub not_cuttable-where : ((l : ℕ) → is_enough n records floor (Nen c l (more set c)) ≡ false) → is_cuttable n records floor set c ≡ false
  not_cuttable-where none =
      false_from_ne_true (is_cuttable n records floor set c) (λ t.
      let (l, _, e) = from_list_any (λ l. is_enough n records floor (Nen c l (more set c))) (candidates n) t in
      both_ways (is_enough n records floor (Nen c l (more set c))) (none l) e)

  -- there is no cutter exactly where none can be
  pub none-cuts : (nen : Option Strongest) → IsCutter n records floor c (more set c) nen → not (is_some nen) ≡ not (is_cuttable n records floor set c)
  none-cuts None none = ap not (sym (not_cuttable-where none))
  none-cuts (Some nen) is = ap not (sym (cuttable-where nen.loser nen.margin is))
