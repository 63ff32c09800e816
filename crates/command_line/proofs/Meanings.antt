-- What the text of an option means, if all pieces are correct.
use Rattle.std.proofs.Common.{◌≡◌, ◌≤◌, ◌<◌, ◌^◌, ◌&&◌, ◌||◌, ◌==◌, ℕ, List, [], ◌∷◌, Option, Some, None, Bool, true, false, length, nat_le, nat_lt, refl, subst, arith, leb-true}
use Rattle.std.specs.Prelude.{slice_get, filter_map, unwrap_or, option_map, if◌then◌else◌}
use Rattle.std.specs.List.{list_all, cons_option}
use Rattle.std.specs.Char.{is_ascii_digit}
use Rattle.std.proofs.lemmas.Bool.{and_parts, and_from, false≢true}
use Rattle.command_line.specs.Line.{value, contest, each_gamma, given_number, number_or_best}
use Rattle.command_line.specs.OneForm.{value_text, name_in, may_be_number, number_in}
use Rattle.command_line.specs.Pieces.{Piece, File, Given, Stray, fits, value_in}
use Rattle.command_line.specs.Table.{default_of, kind_of, is_number_kind, is_number_option, is_same}
use Rattle.command_line.specs.Values.{is_best, is_number, is_number_within, number, is_value}
use Rattle.irv_base.specs.declared.limits.TheConstants.{MOST_NUMBER_DIGITS}
use Rattle.km_risk.specs.declared.limits.TheConstants.{GREATEST_EACH_GAMMA}
use Rattle.command_line.specs.declared.table.OptionName.{OptionName}
use Rattle.command_line.specs.declared.table.OptionName.TheVariants.{Contest, Workers, Nodes, Sets, FewestSets, Fewest, Floor, Gap, Cards, Draws, Limit, Gamma, EachGamma, Each, Candidates, Ballots}
use Rattle.command_line.specs.declared.table.OptionName.TheVariants as option
use Rattle.command_line.specs.declared.table.ValueKind.{ValueKind}
use Rattle.command_line.specs.declared.table.ValueKind.TheVariants.{Id, Seed, Number, FreeNumber, NumberOrBest, Flag}

-- ---- one row for each option

pub same_option : (a b : OptionName) → is_same a b ≡ true → a ≡ b
same_option Contest Contest h = refl
same_option Workers Workers h = refl
same_option Nodes Nodes h = refl
same_option Sets Sets h = refl
same_option FewestSets FewestSets h = refl
same_option Fewest Fewest h = refl
same_option Floor Floor h = refl
same_option Gap Gap h = refl
same_option Cards Cards h = refl
same_option option.Seed option.Seed h = refl
same_option Draws Draws h = refl
same_option Limit Limit h = refl
same_option Gamma Gamma h = refl
same_option EachGamma EachGamma h = refl
same_option Each Each h = refl
same_option option.Number option.Number h = refl
same_option Candidates Candidates h = refl
same_option Ballots Ballots h = refl
same_option _ _ h = absurd (false≢true h)

abbrev most_of : ValueKind → ℕ
most_of Id = 0
most_of Seed = 0
most_of (Number least most default) = most
most_of (FreeNumber least most) = most
most_of (NumberOrBest least most default) = most
most_of Flag = 0

-- numbers have room
small : (option : OptionName) → most_of (kind_of option) < 2 ^ 32
small Contest = omega arith
small _ = omega arith

-- ---- the text of an option

pub value-fits : (option : OptionName) (pieces : List Piece) → list_all fits pieces ≡ true → (v : List ℕ) → value option pieces ≡ Some v →
    is_value (kind_of option) v ≡ true
value-fits option [] h v e = cc
value-fits option (File name ∷ pieces) h v e = value-fits option pieces (and_parts (fits (File name)) (list_all fits pieces) h).1 v e
value-fits option (Stray ∷ pieces) h v e = absurd (false≢true h)
value-fits option (Given other text ∷ pieces) h v e =
    let parts = and_parts (is_value (kind_of other) text) (list_all fits pieces) h in
    by (is_same other option) refl parts.0 e (value-fits option pieces parts.1 v)
  where
    by : (b : Bool) → is_same other option ≡ b → is_value (kind_of other) text ≡ true
        → slice_get (cons_option (if b then Some text else None) (filter_map (value_in option) pieces)) 0 ≡ Some v
        → (value option pieces ≡ Some v → is_value (kind_of option) v ≡ true) → is_value (kind_of option) v ≡ true
    by true same fit e more =
        let text-is : text ≡ v = cc in
        subst (λ t. is_value (kind_of option) t ≡ true) text-is (subst (λ o. is_value (kind_of o) text ≡ true) (same_option other option same) fit)
    by false other fit e more = more e

pub contest-is : (pieces : List Piece) → list_all fits pieces ≡ true → name_in (value_text Contest pieces) ≡ contest pieces
contest-is pieces h = by (value Contest pieces) (value-fits Contest pieces h) where
  by : (r : Option (List ℕ)) → ((v : List ℕ) → r ≡ Some v → is_value Id v ≡ true) → name_in (unwrap_or r []) ≡ r
  by None fit = refl
  by (Some v) fit = rw (fit v refl) refl

-- ---- numbers

-- a number of this kind is written in digits, and has room
record IsWritten (v : List ℕ) : Type 0 where
  pub written : is_number v ≡ true
  pub some : (length v == 0) ≡ false
  pub room : nat_lt (number v) (2 ^ 32) ≡ true

some_text : (n : ℕ) → 1 ≤ n → (n == 0) ≡ false
some_text n h = grind arith

has_room : (n most : ℕ) → n ≤ most → most < 2 ^ 32 → nat_lt n (2 ^ 32) ≡ true
has_room n most h room = grind (arith, h, room)

written_within : (least most : ℕ) → most < 2 ^ 32 → (v : List ℕ) → is_number_within least most v ≡ true → IsWritten v
written_within least most room v h =
    let (low, high) = and_parts (is_number v && nat_le least (number v)) (nat_le (number v) most) h in
    let (written, up) = and_parts (is_number v) (nat_le least (number v)) low in
    let (range, digits) = and_parts (nat_le 1 (length v) && nat_le (length v) MOST_NUMBER_DIGITS) (list_all is_ascii_digit v) written in
    let some = and_parts (nat_le 1 (length v)) (nat_le (length v) MOST_NUMBER_DIGITS) range in
    record {
      written = written;
      some = some_text (length v) (leb-true 1 (length v) some.0);
      room = has_room (number v) most (leb-true (number v) most high) room;
    }

is_written : (kind : ValueKind) → is_number_kind kind ≡ true → most_of kind < 2 ^ 32 → (v : List ℕ) → is_value kind v ≡ true → IsWritten v
is_written Id n room v h = absurd (false≢true n)
is_written Seed n room v h = absurd (false≢true n)
is_written (Number least most default) n room v h = written_within least most room v h
is_written (FreeNumber least most) n room v h = written_within least most room v h
is_written (NumberOrBest least most default) n room v h = absurd (false≢true n)
is_written Flag n room v h = absurd (false≢true n)

module _ (option : OptionName) (is : is_number_option option ≡ true) (pieces : List Piece) (fit : list_all fits pieces ≡ true) where
  each : (v : List ℕ) → value option pieces ≡ Some v → IsWritten v
  each v e = is_written (kind_of option) is (small option) v (value-fits option pieces fit v e)

  pub may_be : may_be_number (value_text option pieces) ≡ true
  may_be = by (value option pieces) each where
    by : (r : Option (List ℕ)) → ((v : List ℕ) → r ≡ Some v → IsWritten v) → may_be_number (unwrap_or r []) ≡ true
    by None each = refl
    by (Some v) each = let w = each v refl in rw w.some (and_from (is_number v) (nat_lt (number v) (2 ^ 32)) w.written w.room)

  pub number-is : number_in (value_text option pieces) ≡ given_number option pieces
  number-is = by (value option pieces) each where
    by : (r : Option (List ℕ)) → ((v : List ℕ) → r ≡ Some v → IsWritten v) → number_in (unwrap_or r []) ≡ option_map number r
    by None each = refl
    by (Some v) each = rw (each v refl).some refl

-- ---- a number or the word for the best one

-- a text that isn't this word is a number, as it is read
pub number_where : (pieces : List Piece) → list_all fits pieces ≡ true → is_best (value_text EachGamma pieces) ≡ false →
    (may_be_number (value_text EachGamma pieces) ≡ true)
    × (Some (unwrap_or (number_in (value_text EachGamma pieces)) (default_of (kind_of EachGamma))) ≡ each_gamma pieces)
number_where pieces h = by (value EachGamma pieces) (value-fits EachGamma pieces h) where
  default : ℕ
  default = default_of (kind_of EachGamma)

  by : (r : Option (List ℕ)) → ((v : List ℕ) → r ≡ Some v → is_value (kind_of EachGamma) v ≡ true) → is_best (unwrap_or r []) ≡ false →
      (may_be_number (unwrap_or r []) ≡ true) × (Some (unwrap_or (number_in (unwrap_or r [])) default) ≡ number_or_best default r)
  by None fit other = (refl, refl)
  by (Some v) fit other =
      let not_best : is_best v ≡ false = other in
      let w = written_within 1 GREATEST_EACH_GAMMA (omega arith) v
      (subst (λ best. (best || is_number_within 1 GREATEST_EACH_GAMMA v) ≡ true) not_best (fit v refl)) in
      (rw w.some (and_from (is_number v) (nat_lt (number v) (2 ^ 32)) w.written w.room), rw (not_best, w.some) refl)

pub none_where : (pieces : List Piece) → is_best (value_text EachGamma pieces) ≡ true → None ≡ each_gamma pieces
none_where pieces = by (value EachGamma pieces) where
  by : (r : Option (List ℕ)) → is_best (unwrap_or r []) ≡ true → None ≡ number_or_best (default_of (kind_of EachGamma)) r
  by None is = absurd (false≢true is)
  by (Some v) is = rw is refl
