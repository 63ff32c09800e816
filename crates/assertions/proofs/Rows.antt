-- The margin of a NEN from the tallies of its set.
use Rattle.std.proofs.Common.{List, true, ap, pos, slice_index, ◌-ℤ◌, ℕ, ◌∙◌, ◌≡◌}
use Rattle.irv_base.specs.Records.{tally}
use Rattle.set_tallies.specs.Bags.{HasTallies}
use Rattle.assertions.specs.Assertions.{is_proper, margin}
use Rattle.assertions.specs.declared.assertion.Assertion.TheVariants.{Nen}
use Rattle.assertions.proofs.Proper.{nen_facts}

pub nen_of_row : (row : List ℕ) (n : ℕ) (records : List (List ℕ)) (w l rest : ℕ) → HasTallies records n rest row → is_proper n (Nen w l rest) ≡ true →
    pos (slice_index row w) -ℤ pos (slice_index row l) ≡ margin records (Nen w l rest)
nen_of_row row n records w l rest has proper =
    let nen = nen_facts n w l rest proper in
    let for_winner : slice_index row w ≡ tally records rest w = has w nen.pair.winner nen.has_winner in
    let for_loser : slice_index row l ≡ tally records rest l = has l nen.pair.loser nen.has_loser in
    ap (λ v. pos v -ℤ pos (slice_index row l)) for_winner ∙ ap (λ v. pos (tally records rest w) -ℤ pos v) for_loser
