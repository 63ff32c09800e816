use Rattle.std.proofs.Common.{◌≡◌, ◌∙◌, ◌-◌, ◌==◌, ◌<◌, ℕ, List, [], Some, length, get_or, map, ap, refl, sym, arith}
use Rattle.std.specs.Prelude.{if◌then◌else◌, option_map}
use Rattle.std.specs.List.{slice_get}
use Rattle.std.proofs.lemmas.Bool.{ne_eqb}
use Rattle.std.proofs.lemmas.List.{length-map}
use Rattle.std.proofs.lemmas.Option.{get_or_from_slice_get, slice_get-map, slice_get_read}
use Rattle.manifest.specs.BallotNumbers.{recorded_at}
use Rattle.manifest.specs.declared.recorded.Recorded.TheVariants.{Ranked, Without}
use Rattle.manifest.proofs.linked.Linked.recorded.Goals as goal

with_ballot : (rankings : List (List ℕ)) (numbers : List ℕ) (i number : ℕ) (ranking : List ℕ) → slice_get numbers i ≡ Some number →
    (number ≡ 0 → ⊥) → slice_get rankings (number - 1) ≡ Some ranking → slice_get (map (recorded_at rankings) numbers) i ≡ Some (Ranked ranking)
with_ballot rankings numbers i number ranking there some is =
    slice_get-map (recorded_at rankings) numbers i
    ∙ ap (option_map (recorded_at rankings)) there
    ∙ ap (λ b. Some (if b then Without else Ranked (get_or rankings (number - 1) []))) (ne_eqb number 0 some)
    ∙ ap (λ r. Some (Ranked r)) (get_or_from_slice_get rankings (number - 1) ranking [] is)

pub returns : goal.returns
returns c =
    let rankings = c.self.inside.rankings in
    let numbers = c.self.inside.numbers.items in
    let i = c.args.i - 1 in
    let number = c.index-number.result.now in
    let within : i < length numbers = omega (
      arith,
      c.requires.first,
      c.requires.last,
      ap length c.self.view_is,
      length-map numbers (recorded_at rankings),
    ) in
    ap (λ cards. slice_get cards i) (sym c.self.view_is)
    ∙ with_ballot rankings numbers i number c.ranking.result (slice_get_read numbers (length numbers) i number refl within c.index-number.ensures)
    c.if-number-eq-NO_BALLOT.false c.ranking.ensures
