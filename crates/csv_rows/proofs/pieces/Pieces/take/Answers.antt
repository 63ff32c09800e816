use Rattle.std.proofs.Common.{◌≡◌, ◌∙◌, ◌++◌, ◌==◌, [], ℕ, true, List, length, sym, ap, ap₂, subst, append_assoc}
use Rattle.std.proofs.lemmas.Bool.{false≢true, eqb-true}
use Rattle.std.proofs.lemmas.List.{nil_from_length}
use Rattle.csv_rows.specs.Lines.{are_whole_lines, is_unended}
use Rattle.csv_rows.specs.Pieces.{IsBehind}
use Rattle.csv_rows.proofs.Passing.{lengthened, still-unended, still-whole, taken}
use Rattle.csv_rows.proofs.pieces.Pieces.take.Goals as goal

pub returns-then-is_empty : goal.returns-then-is_empty
returns-then-is_empty c = λ text given behind.
    let lines = c.self.inside.lines.items in
    let last = c.self.inside.last.items in
    let piece = c.args.piece.now in
    let more = c.whole_lines.result.0.now in
    let rest = c.whole_lines.result.1.now in
    let none : more ≡ [] = nil_from_length more (eqb-true (length more) 0 (sym c.is_empty.ensures ∙ c.if-is_empty.true)) in
    let all : piece ≡ rest = c.whole_lines.ensures.parts ∙ ap (λ (t : List ℕ). t ++ rest) none in
    taken text piece given (record { lines = lines; last = last }) (record { lines = lines; last = c.extend_from_slice.new.self.items })
    (ap (λ (t : List ℕ). lines ++ t) c.in_ok-extend_from_slice.ensures.items ∙ sym (append_assoc lines last piece)) (λ whole. whole)
    (λ unended. ap is_unended c.in_ok-extend_from_slice.ensures.items ∙ still-unended last piece (ap is_unended all ∙ c.whole_lines.ensures.last) unended)
    (subst (IsBehind text given) (sym c.self.view_is) behind)

pub returns : goal.returns
returns c = λ text given behind.
    let lines = c.self.inside.lines.items in
    let last = c.self.inside.last.items in
    let more = c.whole_lines.result.0.now in
    let rest = c.whole_lines.result.1.now in
    let ended : c.extend_from_slice-3.new.self.items ≡ (lines ++ last) ++ more =
    c.in_ok-extend_from_slice-3.ensures.items
    ∙ ap (λ (t : List ℕ). t ++ more) (c.in_ok-extend_from_slice-2.ensures.items ∙ ap (λ (t : List ℕ). lines ++ t) c.deref.ensures.value) in
    let begun : c.extend_from_slice-4.new.self.items ≡ rest =
    c.in_ok-extend_from_slice-4.ensures.items ∙ ap (λ (t : List ℕ). t ++ rest) c.clear.ensures.items in
    let some : length more == 0 ≡ true → ⊥ = λ none. false≢true (sym c.if-is_empty.false ∙ c.is_empty.ensures ∙ none) in
    subst (IsBehind (text ++ c.args.piece.now) given) (sym c.look.ensures)
    (taken text c.args.piece.now given (record { lines = lines; last = last })
    (record { lines = c.extend_from_slice-3.new.self.items; last = c.extend_from_slice-4.new.self.items })
    (ap₂ (λ (a b : List ℕ). a ++ b) ended begun ∙ lengthened lines last more rest c.args.piece.now c.whole_lines.ensures.parts)
    (λ whole. ap are_whole_lines ended ∙ still-whole (lines ++ last) more some c.whole_lines.ensures.whole)
    (λ unended. ap is_unended begun ∙ c.whole_lines.ensures.last)
    (subst (IsBehind text given) (sym c.self.view_is) behind))
