use Rattle.std.proofs.Common.{◌≡◌, ℕ, ◌+◌, List, [], ◌∷◌, ◌++◌, map, filter, Some, None, sym, ap, ◌∙◌}
use Rattle.std.proofs.lemmas.List.{append_assoc, map-append}
use Rattle.assertions.specs.declared.assertion.Assertion.TheVariants.{Neb}
use Rattle.assertions.specs.declared.assertion.Claim.{Claim}
use Rattle.assertions.specs.Certificate.{claim_of}
use Rattle.irv_base.specs.Candidates.{candidates}
use Rattle.fewest.specs.Nens.{is_enough}
use Rattle.nen_cut.specs.Floors.{margin_of}
use Rattle.nen_cut.proofs.Across.{map-no, map-yes}
use Rattle.nen_cut.proofs.Enough.{margin-facts, margin-lacks}
use Rattle.nen_cut.proofs.nebs.put_nebs.Goals as goal
use Rattle.nen_cut.proofs.nebs.put_nebs.Goals.{in-Some+in_ok-push, in_default}

module _ (n w l : ℕ) (records : List (List ℕ)) (floor : ℕ) (old so_far : List Claim)
    (is : so_far ≡ old ++ map (claim_of records) (filter (is_enough n records floor) (map (Neb w) (candidates l)))) where
  abbrev goal-at : List Claim → Type 0
  goal-at items = items ≡ old ++ map (claim_of records) (filter (is_enough n records floor) (map (Neb w) (candidates (l + 1))))

  one-more : (margin : ℕ) → margin_of n records floor (Neb w l) ≡ Some margin →
      goal-at (so_far ++ record { assertion = Neb w l; margin = margin } ∷ [])
  one-more margin e =
      let (t, m) = margin-facts n records floor (Neb w l) margin e in
      let before = map (claim_of records) (filter (is_enough n records floor) (map (Neb w) (candidates l))) in
      let claim : Claim = record { assertion = Neb w l; margin = margin } in
      let same : claim ≡ claim_of records (Neb w l) = ap (λ (m : ℕ). let c : Claim = record { assertion = Neb w l; margin = m } in c) m in
      ap (λ s. s ++ claim ∷ []) is ∙ append_assoc old before (claim ∷ []) ∙ ap (λ c. old ++ (before ++ c ∷ [])) same
      ∙ ap (λ s. old ++ s) (sym (map-append (claim_of records) (filter (is_enough n records floor) (map (Neb w) (candidates l))) (Neb w l ∷ [])))
      ∙ ap (λ s. old ++ map (claim_of records) s) (sym (map-yes (is_enough n records floor) (Neb w) l t))

  no-more : margin_of n records floor (Neb w l) ≡ None → goal-at so_far
  no-more e =
      is ∙ ap (λ s. old ++ map (claim_of records) s) (sym (map-no (is_enough n records floor) (Neb w) l (margin-lacks n records floor (Neb w l) e)))

pub loop-l-preserved : goal.loop-l-preserved
loop-l-preserved c = λ records of.
    let n = c.args.n in
    let floor = c.args.least in
    let is = c.loop-l.invariant records of in
    let here : c.margin_of.result ≡ margin_of n records floor (Neb c.args.w c.loop-l.l) =
    c.margin_of.ensures records of ∙ ap (λ k. margin_of k records floor (Neb c.args.w c.loop-l.l)) (sym c.requires.same) in
    elim c.match-margin_of.branch [
      | in-Some+in_ok-push w ↦
          ap (λ v. v.items) w.nebs-is ∙ w.in_ok-push.ensures.items
          ∙ one-more n c.args.w c.loop-l.l records floor c.args.nebs.now.items c.loop-l.nebs.items is w.in-Some.margin (sym here ∙ w.in-Some.is)
      | in_default w ↦
          ap (λ v. v.items) w.nebs-is
          ∙ no-more n c.args.w c.loop-l.l records floor c.args.nebs.now.items c.loop-l.nebs.items is (sym here ∙ w.in_default.is)
    ]
