use Rattle.std.proofs.Common.{◌≡◌, ◌∙◌, ◌++◌, ℕ, List, sym, ap, subst}
use Rattle.csv_rows.specs.Fields.{numbered_records}
use Rattle.csv_rows.specs.Pieces.{IsBehind}
use Rattle.csv_rows.proofs.Passing.{all-come}
use Rattle.csv_rows.proofs.pieces.Pieces.into_text.Goals as goal

pub returns : goal.returns
returns c = λ text given behind.
    let lines = c.self.inside.lines.items in
    let all : c.extend_from_slice.new.self.items ≡ lines ++ c.self.inside.last.items =
    c.in_ok-extend_from_slice.ensures.items ∙ ap (λ (t : List ℕ). lines ++ t) c.deref.ensures.value in
    all-come text given _ (subst (IsBehind text given) (sym c.self.view_is) behind) ∙ ap (λ (t : List ℕ). given ++ numbered_records t) (sym all)
