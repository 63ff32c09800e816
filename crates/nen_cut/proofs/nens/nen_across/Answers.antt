use Rattle.std.proofs.Common.{◌≡◌, ℕ, Bool, true, false, Result, Ok, Err, Option, Some, None, List, sym, ap, subst, arith, ◌∙◌}
use Rattle.std.specs.Result.{IfOk}
use Rattle.irv_base.specs.Candidates.{has}
use Rattle.assertions.specs.Steps.{more}
use Rattle.set_walk.specs.Dives.{is_seen}
use Rattle.nen_cut.specs.Floors.{IsCutter, stands}
use Rattle.nen_cut.specs.Cut.{IsAcross}
use Rattle.nen_cut.specs.declared.strongest.Strongest.{Strongest}
use Rattle.nen_cut.proofs.Across.{cut-not_cuttable, cut-test, leaving-from}
use Rattle.nen_cut.proofs.Cutting.{cuttable-where, not_cuttable-where}
use Rattle.nen_cut.proofs.nens.nen_across.Goals as goal

if_ok : {T E : Type 0} {P Q : T → Type 0} (r : Result T E) → ((x : T) → P x → Q x) → IfOk r P → IfOk r Q
if_ok (Ok x) f h = f x h
if_ok (Err e) f h = h

module _ (n winner : ℕ) (records : List (List ℕ)) (floor : ℕ) (within : ℕ → Bool) (set c : ℕ) (inside : within set ≡ true)
    (out : within (more set c) ≡ false) (standing : stands n winner records floor set c ≡ true) where
  across : (nen : Option Strongest) → IsCutter n records floor c (more set c) nen → IsAcross n winner records floor within set c nen
  across None none = cut-not_cuttable n winner records floor within set c (not_cuttable-where n records floor set c none)
  across (Some nen) is = (
    cut-test n winner records floor within set c
        (record {
          leaving = leaving-from n winner records floor within set c inside out;
          standing = standing;
          cuttable = cuttable-where n records floor set c nen.loser nen.margin is;
        }),
    is,
  )

pub returns-clause-across : goal.returns-clause-across
returns-clause-across c = λ records of.
    let s = c.args.steps.now in
    let n = c.args.n in
    let set = c.args.set in
    let front = c.args.c in
    let within = is_seen c.args.seen.now.sets.keys in
    let free : has set front ≡ false = sym c.has.ensures ∙ c.if-has.false in
    let number = c.with.ensures.number free in
    let same : c.with.result ≡ more set front = omega (arith, number) in
    let out : within (more set front) ≡ false = ap within (sym same) ∙ sym c.has-2.ensures ∙ c.if-has-2.false in
    let size = c.requires.size in
    let standing : stands n s.winner records s.least set front ≡ true =
    ap (λ k. stands k s.winner records s.least set front) size ∙ sym (c.stands.ensures records of) ∙ c.if-not-stands.false in
    if_ok c.cutter.result
    (λ (nen : Option Strongest) (is : IsCutter s.tallies.bag.n records s.least front (more set front) nen).
    across n s.winner records s.least within set front c.requires.seen out standing nen
    (subst (λ k. IsCutter k records s.least front (more set front) nen) (sym size) is))
    (c.cutter.ensures.cutter records of)
