use Rattle.std.proofs.Common.{◌≡◌, ℕ, Bool, true, false, not, ◌&&◌, is_some, sym, ap, ◌∙◌}
use Rattle.fewest.specs.Flows.{is_cuttable}
use Rattle.nen_cut.proofs.Cutting.{none-cuts}
use Rattle.nen_cut.proofs.covered.ByTalliesGoes.goes.Goals as goal

turned : (a b : Bool) → a ≡ not b → b ≡ not a
turned a true h = ap not (sym h)
turned a false h = ap not (sym h)

pub returns-clause-answer : goal.returns-clause-answer
returns-clause-answer c = λ may (records, of, same).
    let s = c.args.self.now in
    let n = s.tallies.bag.n in
    turned (is_some c.in_ok-cutter.field-0) c.is_none.result c.is_none.ensures ∙ none-cuts n records s.least c.args.set c.args.c c.in_ok-cutter.field-0 (c.in_ok-cutter.ensures.cutter records of)
    ∙ ap (λ b. b && not (is_cuttable n records s.least c.args.set c.args.c)) (sym c.if-not-stands.false ∙ c.stands.ensures records of)
    ∙ sym (ap (λ (m : ℕ → ℕ → Bool). m c.args.set c.args.c) same)
