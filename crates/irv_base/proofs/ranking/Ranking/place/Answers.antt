use Rattle.std.proofs.Common.{◌==◌, sym, ap, length, arith, ◌∙◌}
use Rattle.std.proofs.lemmas.List.Quantifiers.{position-Some}
use Rattle.irv_base.proofs.ranking.Ranking.place.Goals as goal

pub overflow_cast-result : goal.overflow_cast-result
overflow_cast-result c =
    let at = position-Some (λ d. d == c.args.c) c.candidates.result.now c.in-Some.i 0 (sym c.place_in.ensures ∙ c.in-Some.is) in
    omega (arith, at.0, c.candidates.ensures.few, ap length c.candidates.ensures.same)
