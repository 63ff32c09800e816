-- What a line gives that it must give.
use Rattle.std.proofs.Common.{◌≡◌, ◌∙◌, ◌&&◌, ◌||◌, ◌==◌, ℕ, List, [], ◌∷◌, Some, true, not, length, nat_le, refl, sym, ap, arith}
use Rattle.std.specs.Prelude.{slice_get, unwrap_or}
use Rattle.std.specs.List.{list_all}
use Rattle.std.proofs.lemmas.Bool.{and_parts, false≢true}
use Rattle.sampler.specs.Seeds.{is_seed}
use Rattle.command_line.specs.Line.{are_right, is_given_right, is_given_together, seed, value}
use Rattle.command_line.specs.Pieces.{Piece, fits, files_in, values_in}
use Rattle.command_line.specs.Table.{form_of, kind_of, is_needed}
use Rattle.command_line.specs.declared.table.CommandName.{CommandName}
use Rattle.command_line.specs.declared.table.OptionName.{OptionName}
use Rattle.command_line.specs.declared.table.OptionName.TheVariants.{Seed}
use Rattle.command_line.proofs.Meanings.{value-fits}

-- the parts of a correct line
pub record IsRight (name : CommandName) (pieces : List Piece) : Type 0 where
  pub fit : list_all fits pieces ≡ true
  pub count : length (files_in pieces) ≡ length (form_of name).files
  pub options : list_all (λ option. is_given_right option pieces) (form_of name).options ≡ true

as_many : (a b : ℕ) → (a == b) ≡ true → a ≡ b
as_many a b h = grind arith

pub parts : (name : CommandName) (pieces : List Piece) → are_right name pieces ≡ true → IsRight name pieces
parts name pieces all =
    let (front, given) = and_parts (list_all fits pieces && length (files_in pieces) == length (form_of name).files) _ all in
    let (right, apart) = and_parts (list_all (λ option. is_given_right option pieces) (form_of name).options
    && list_all (λ two. is_given_together two pieces) (form_of name).together) _ given in
    let (options, together) = and_parts (list_all (λ option. is_given_right option pieces) (form_of name).options) _ right in
    let (fit, count) = and_parts (list_all fits pieces) (length (files_in pieces) == length (form_of name).files) front in
    record { fit = fit; count = as_many (length (files_in pieces)) (length (form_of name).files) count; options = options }

-- an option that a line must give has a value
pub needed_given : (option : OptionName) (pieces : List Piece) → is_needed (kind_of option) ≡ true → is_given_right option pieces ≡ true
    → (v : List ℕ) × (value option pieces ≡ Some v)
needed_given option pieces needed right = by (values_in option pieces) right where
  by : (vs : List (List ℕ)) → (nat_le (length vs) 1 && (length vs == 1 || not (is_needed (kind_of option)))) ≡ true
      → (v : List ℕ) × (slice_get vs 0 ≡ Some v)
  by [] right = let free : not (is_needed (kind_of option)) ≡ true = right in absurd (false≢true (sym (ap not needed) ∙ free))
  by (v ∷ vs) right = (v, refl)

pub seed_given : (pieces : List Piece) → list_all fits pieces ≡ true → is_given_right Seed pieces ≡ true → is_seed (seed pieces) ≡ true
seed_given pieces fit right =
    let (v, is) = needed_given Seed pieces refl right in
    ap (λ r. is_seed (unwrap_or r [])) is ∙ value-fits Seed pieces fit v is
