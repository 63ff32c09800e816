-- What a line asks for is checked.
use Rattle.std.proofs.Common.{◌≡◌, ◌≤◌, ◌<◌, ◌&&◌, ◌||◌, ◌==◌, ℕ, zero, suc, List, [], ◌∷◌, Option, Some, None, Bool, true, false, not, length, nat_le, nat_lt, refl, sym, ap, ◌∙◌, subst, arith, leb-true, ltb-true}
use Rattle.std.specs.Prelude.{unwrap_or, option_map, is_some, IfSome, if◌then◌else◌}
use Rattle.std.specs.List.{list_all, list_any}
use Rattle.std.specs.Str.{bytes_eq}
use Rattle.std.proofs.lemmas.Bool.{and_parts, false≢true}
use Rattle.irv_base.proofs.Members.{from_find}
use Rattle.command_line.specs.Laws.{LinesHaveMeanings, LinesAreChecked, IsChecked}
use Rattle.irv_base.specs.declared.limits.TheConstants.{GREATEST_GAMMA, GREATEST_LIMIT, MOST_CARDS}
use Rattle.budget.specs.Budgets.{IsWithin}
use Rattle.budget.specs.declared.limits.TheConstants.{MOST_NODES, MOST_SETS}
use Rattle.command.specs.Limits.{IsNamed, IsFromTo, IsUpTo}
use Rattle.command.specs.PlanTerms.{AreWithinLimits}
use Rattle.command_line.specs.Line.{are_right, is_given_right, pieces_of, is_line_of, line_named, is_line, command_of, meaning, file, seed, value, given_number, number_of, number_or_best, budget_with, terms_with}
use Rattle.command_line.specs.Pieces.{Piece, File, Given, Stray, fits, files_in}
use Rattle.command_line.specs.Table.{commands, form_of, kind_of, default_of, is_needed, is_same}
use Rattle.command_line.specs.Values.{is_best, is_number, is_number_within, number, is_value}
use Rattle.sampler.specs.Seeds.{is_seed}
use Rattle.command_line.specs.declared.table.CommandName.{CommandName}
use Rattle.command_line.specs.declared.table.CommandName.TheVariants as command
use Rattle.command_line.specs.declared.table.OptionName.{OptionName}
use Rattle.command_line.specs.declared.table.OptionName.TheVariants as option
use Rattle.command_line.specs.declared.table.ValueKind.{ValueKind}
use Rattle.command_line.specs.declared.table.ValueKind.TheVariants.{Id, Seed, Number, FreeNumber, NumberOrBest, Flag}
use Rattle.command_line.proofs.Meanings.{same_option, value-fits}
use Rattle.command_line.proofs.Needed.{IsRight, parts, needed_given, seed_given}

-- ---- words are a line exactly if they have a meaning

mapped : {X Y : Type 0} (f : X → Y) (o : Option X) → is_some o ≡ is_some (option_map f o)
mapped f None = refl
mapped f (Some x) = refl

pub have_meanings : LinesHaveMeanings
have_meanings [] = refl
have_meanings (word ∷ words) = mapped (λ name. meaning name (pieces_of name words)) (line_named word words)

-- ---- what a line asks for is checked

some_text : (n : ℕ) → not (n == 0) ≡ true → 1 ≤ n
some_text n h = grind arith

file_named : (i : ℕ) (pieces : List Piece) → list_all fits pieces ≡ true → i < length (files_in pieces) → IsNamed (file i pieces)
file_named i [] h less = absurd (omega arith)
file_named zero (File name ∷ pieces) h less = some_text (length name) (and_parts (fits (File name)) (list_all fits pieces) h).0
file_named (suc i) (File name ∷ pieces) h less = file_named i pieces (and_parts (fits (File name)) (list_all fits pieces) h).1 (omega arith)
file_named i (Given option text ∷ pieces) h less = file_named i pieces (and_parts (fits (Given option text)) (list_all fits pieces) h).1 less
file_named i (Stray ∷ pieces) h less = absurd (false≢true h)

within : (least most : ℕ) (v : List ℕ) → is_number_within least most v ≡ true → IsFromTo least most (number v)
within least most v fit =
    let (low, high) = and_parts (is_number v && nat_le least (number v)) (nat_le (number v) most) fit in
    let (written, above) = and_parts (is_number v) (nat_le least (number v)) low in
    (leb-true least (number v) above, leb-true (number v) most high)

number_from_to : (least most : ℕ) (default : Option ℕ) (name : OptionName) → kind_of name ≡ Number least most default
    → (pieces : List Piece) → list_all fits pieces ≡ true → (value name pieces ≡ None → IsFromTo least most (unwrap_or default 0)) →
    IsFromTo least most (number_of name pieces)
number_from_to least most default name kind pieces h left_out =
    subst (λ k. IsFromTo least most (unwrap_or (option_map number (value name pieces)) (default_of k))) (sym kind)
    (by (value name pieces) (λ v e. subst (λ k. is_value k v ≡ true) kind (value-fits name pieces h v e)) left_out)
  where
    by : (r : Option (List ℕ)) → ((v : List ℕ) → r ≡ Some v → is_value (Number least most default) v ≡ true) →
        (r ≡ None → IsFromTo least most (unwrap_or default 0))
        → IsFromTo least most (unwrap_or (option_map number r) (unwrap_or default 0))
    by None fit left_out = left_out refl
    by (Some v) fit left_out = within least most v (fit v refl)

free_from_to : (least most : ℕ) (name : OptionName) → kind_of name ≡ FreeNumber least most → (pieces : List Piece) → list_all fits pieces ≡ true →
    IfSome (given_number name pieces) (IsFromTo least most)
free_from_to least most name kind pieces h =
    by (value name pieces) (λ v e. subst (λ k. is_value k v ≡ true) kind (value-fits name pieces h v e)) where
      by : (r : Option (List ℕ)) → ((v : List ℕ) → r ≡ Some v → is_number_within least most v ≡ true) → IfSome (option_map number r) (IsFromTo least most)
      by None fit = tt
      by (Some v) fit = within least most v (fit v refl)

best_from_to : (least most default : ℕ) (name : OptionName) → kind_of name ≡ NumberOrBest least most default → IsFromTo least most default →
    (pieces : List Piece) → list_all fits pieces ≡ true → IfSome (number_or_best default (value name pieces)) (IsFromTo least most)
best_from_to least most default name kind left_out pieces h =
    by (value name pieces) (λ v e. subst (λ k. is_value k v ≡ true) kind (value-fits name pieces h v e)) where
      or : (v : List ℕ) (best : Bool) → (best || is_number_within least most v) ≡ true →
          IfSome (if best then None else Some (number v)) (IsFromTo least most)
      or v true fit = tt
      or v false fit = within least most v fit

      by : (r : Option (List ℕ)) → ((v : List ℕ) → r ≡ Some v → (is_best v || is_number_within least most v) ≡ true) →
          IfSome (number_or_best default r) (IsFromTo least most)
      by None fit = left_out
      by (Some v) fit = or v (is_best v) (fit v refl)

-- what the value of an option is, if it is given correctly
abbrev IsGiven : ValueKind → OptionName → List Piece → Type 0
IsGiven Id option pieces = Unit {0}
IsGiven Seed option pieces = is_seed (seed pieces) ≡ true
IsGiven (Number least most default) option pieces = IsFromTo least most (number_of option pieces)
IsGiven (FreeNumber least most) option pieces = IfSome (given_number option pieces) (IsFromTo least most)
IsGiven (NumberOrBest least most default) option pieces = IfSome (number_or_best default (value option pieces)) (IsFromTo least most)
IsGiven Flag option pieces = Unit {0}

-- the number of a line that doesn't give it is within the limits too
abbrev is_default : ValueKind → Bool
is_default Id = true
is_default Seed = true
is_default (FreeNumber least most) = true
is_default (NumberOrBest least most default) = nat_le least default && nat_le default most
is_default Flag = true
is_default (Number least most None) = true
is_default (Number least most (Some default)) = nat_le least default && nat_le default most

defaults_fit : (option : OptionName) → is_default (kind_of option) ≡ true
defaults_fit option.Contest = refl
defaults_fit _ = refl

-- only the seed option is a seed
is_the_seed : (name : OptionName) → kind_of name ≡ Seed → name ≡ option.Seed
is_the_seed option.Seed is = refl
is_the_seed _ is = cc

given : (option : OptionName) (pieces : List Piece) → list_all fits pieces ≡ true → is_given_right option pieces ≡ true →
    IsGiven (kind_of option) option pieces
given option pieces fit right = by (kind_of option) refl (defaults_fit option) where
  by : (kind : ValueKind) → kind_of option ≡ kind → is_default kind ≡ true → IsGiven kind option pieces
  by Id kind fits = tt
  by Seed kind fits = seed_given pieces fit (subst (λ o. is_given_right o pieces ≡ true) (is_the_seed option kind) right)
  by (FreeNumber least most) kind fits = free_from_to least most option kind pieces fit
  by (NumberOrBest least most default) kind fits =
      let (low, high) = and_parts (nat_le least default) (nat_le default most) fits in
      best_from_to least most default option kind (leb-true least default low, leb-true default most high) pieces fit
  by Flag kind fits = tt
  by (Number least most None) kind fits =
      let (v, is) = needed_given option pieces (ap is_needed kind) right in
      number_from_to least most None option kind pieces fit (λ none. let e : Some v ≡ None = sym is ∙ none in absurd (cc e))
  by (Number least most (Some default)) kind fits =
      let (low, high) = and_parts (nat_le least default) (nat_le default most) fits in
      number_from_to least most (Some default) option kind pieces fit (λ none. (leb-true least default low, leb-true default most high))

-- ---- the options of a command

-- one of these
abbrev pub has : OptionName → List OptionName → Bool
has option options = list_any (λ other. is_same other option) options

pub right_among : (options : List OptionName) (option : OptionName) (pieces : List Piece) → has option options ≡ true →
    list_all (λ option. is_given_right option pieces) options ≡ true → is_given_right option pieces ≡ true
right_among [] option pieces among all = absurd (false≢true among)
right_among (other ∷ options) option pieces among all =
    let (first, rest) = and_parts (is_given_right other pieces) (list_all (λ option. is_given_right option pieces) options) all in
    by (is_same other option) refl among first (λ among. right_among options option pieces among rest)
  where
    by : (same : Bool) → is_same other option ≡ same → (same || has option options) ≡ true → is_given_right other pieces ≡ true →
        (has option options ≡ true → is_given_right option pieces ≡ true) → is_given_right option pieces ≡ true
    by true same among first rest = subst (λ o. is_given_right o pieces ≡ true) (same_option other option same) first
    by false same among first rest = rest among

-- the files and the options of a correct line
module _ (name : CommandName) (pieces : List Piece) (line : IsRight name pieces) where
  named : (i : ℕ) → nat_lt i (length (form_of name).files) ≡ true → IsNamed (file i pieces)
  named i less = file_named i pieces line.fit (subst (λ n. i < n) (sym line.count) (ltb-true i (length (form_of name).files) less))

  value_of : (o : OptionName) → has o (form_of name).options ≡ true → IsGiven (kind_of o) o pieces
  value_of o among = given o pieces line.fit (right_among (form_of name).options o pieces among line.options)

-- the limit and the gamma are within their limits, and so is the number of cards if there is one
terms_checked : (pieces : List Piece) (cards : Option ℕ) → IfSome cards (IsUpTo MOST_CARDS) → IsUpTo GREATEST_LIMIT (number_of option.Limit pieces) →
    IsUpTo GREATEST_GAMMA (number_of option.Gamma pieces) → IfSome (option_map (terms_with pieces) cards) AreWithinLimits
terms_checked pieces None some limit gamma = tt
terms_checked pieces (Some cards) some limit gamma = record { cards = some; limit = limit; gamma = gamma }

-- this many sets, or otherwise this many nodes
budget_checked : (nodes : ℕ) (sets : Option ℕ) → IsUpTo MOST_NODES nodes → IfSome sets (IsUpTo MOST_SETS) → IsWithin (budget_with nodes sets)
budget_checked nodes None most few = most
budget_checked nodes (Some sets) most few = few

-- one row for each command
meaning_checked : (name : CommandName) (pieces : List Piece) → IsRight name pieces → IsChecked (meaning name pieces)
meaning_checked command.Search pieces line =
    let file = named command.Search pieces line in
    let value = value_of command.Search pieces line in
    record {
      ballots = file 0 refl;
      workers = value option.Workers refl;
      budget = budget_checked (number_of option.Nodes pieces) (given_number option.Sets pieces) (value option.Nodes refl) (value option.Sets refl);
      floor = value option.Floor refl;
      plan = terms_checked pieces (given_number option.Cards pieces) (value option.Cards refl) (value option.Limit refl) (value option.Gamma refl);
    }
meaning_checked command.SearchFewest pieces line =
    let file = named command.SearchFewest pieces line in
    let value = value_of command.SearchFewest pieces line in
    record {
      ballots = file 0 refl;
      workers = value option.Workers refl;
      sets = value option.FewestSets refl;
      floor = value option.Floor refl;
      gap = (value option.Gap refl).1;
      plan = terms_checked pieces (given_number option.Cards pieces) (value option.Cards refl) (value option.Limit refl) (value option.Gamma refl);
    }
meaning_checked command.Tabulate pieces line =
    let file = named command.Tabulate pieces line in
    let value = value_of command.Tabulate pieces line in
    record { ballots = file 0 refl; nodes = value option.Nodes refl }
meaning_checked command.Check pieces line =
    let file = named command.Check pieces line in
    let value = value_of command.Check pieces line in
    record {
      ballots = file 0 refl;
      assertions = file 1 refl;
      budget = budget_checked (number_of option.Nodes pieces) (given_number option.Sets pieces) (value option.Nodes refl) (value option.Sets refl);
    }
meaning_checked command.Trim pieces line =
    let file = named command.Trim pieces line in
    let value = value_of command.Trim pieces line in
    record {
      ballots = file 0 refl;
      assertions = file 1 refl;
      budget = budget_checked (number_of option.Nodes pieces) (given_number option.Sets pieces) (value option.Nodes refl) (value option.Sets refl);
    }
meaning_checked command.Adopt pieces line =
    let file = named command.Adopt pieces line in
    let value = value_of command.Adopt pieces line in
    record {
      ballots = file 0 refl;
      claims = file 1 refl;
      budget = budget_checked (number_of option.Nodes pieces) (given_number option.Sets pieces) (value option.Nodes refl) (value option.Sets refl);
    }
meaning_checked command.Sample pieces line =
    let file = named command.Sample pieces line in
    let value = value_of command.Sample pieces line in
    record { manifest = file 0 refl; seed = value option.Seed refl; draws = value option.Draws refl }
meaning_checked command.Plan pieces line =
    let file = named command.Plan pieces line in
    let value = value_of command.Plan pieces line in
    record { manifest = file 0 refl; assertions = file 1 refl; limit = value option.Limit refl; gamma = value option.Gamma refl }
meaning_checked command.Open pieces line =
    let file = named command.Open pieces line in
    let value = value_of command.Open pieces line in
    record {
      ballots = file 0 refl;
      manifest = file 1 refl;
      assertions = file 2 refl;
      seed = value option.Seed refl;
      limit = value option.Limit refl;
      gamma = value option.Gamma refl;
      budget = budget_checked (number_of option.Nodes pieces) (given_number option.Sets pieces) (value option.Nodes refl) (value option.Sets refl);
    }
meaning_checked command.Audit pieces line =
    let file = named command.Audit pieces line in
    let value = value_of command.Audit pieces line in
    record {
      session = file 0 refl;
      ballots = file 1 refl;
      manifest = file 2 refl;
      assertions = file 3 refl;
      seen = file 4 refl;
      draws = value option.Draws refl;
      budget = budget_checked (number_of option.Nodes pieces) (given_number option.Sets pieces) (value option.Nodes refl) (value option.Sets refl);
    }
meaning_checked command.Report pieces line =
    let file = named command.Report pieces line in
    record { session = file 0 refl }
meaning_checked command.Poll pieces line =
    let file = named command.Poll pieces line in
    let value = value_of command.Poll pieces line in
    record {
      manifest = file 0 refl;
      assertions = file 1 refl;
      seen = file 2 refl;
      seed = value option.Seed refl;
      draws = value option.Draws refl;
      limit = value option.Limit refl;
      gamma = value option.Gamma refl;
      nodes = value option.Nodes refl;
    }
meaning_checked command.PollEach pieces line =
    let file = named command.PollEach pieces line in
    let value = value_of command.PollEach pieces line in
    record {
      manifest = file 0 refl;
      assertions = file 1 refl;
      seen = file 2 refl;
      seed = value option.Seed refl;
      draws = value option.Draws refl;
      limit = value option.Limit refl;
      gamma = value option.EachGamma refl;
      nodes = value option.Nodes refl;
    }
meaning_checked command.OpenPlurality pieces line =
    let file = named command.OpenPlurality pieces line in
    let value = value_of command.OpenPlurality pieces line in
    record {
      ballots = file 0 refl;
      manifest = file 1 refl;
      seed = value option.Seed refl;
      limit = value option.Limit refl;
      gamma = value option.Gamma refl;
    }
meaning_checked command.AuditPlurality pieces line =
    let file = named command.AuditPlurality pieces line in
    let value = value_of command.AuditPlurality pieces line in
    record { session = file 0 refl; ballots = file 1 refl; manifest = file 2 refl; seen = file 3 refl; draws = value option.Draws refl }
meaning_checked command.Contests pieces line =
    let file = named command.Contests pieces line in
    let value = value_of command.Contests pieces line in
    record {
      ballots = file 0 refl;
      manifest = file 1 refl;
      seen = file 2 refl;
      seed = value option.Seed refl;
      draws = value option.Draws refl;
      limit = value option.Limit refl;
      gamma = value option.Gamma refl;
      workers = value option.Workers refl;
      nodes = value option.Nodes refl;
    }
meaning_checked command.Trial pieces line =
    let value = value_of command.Trial pieces line in
    record {
      number = (value option.Number refl).1;
      candidates = value option.Candidates refl;
      ballots = value option.Ballots refl;
      workers = value option.Workers refl;
      budget = budget_checked (number_of option.Nodes pieces) (given_number option.Sets pieces) (value option.Nodes refl) (value option.Sets refl);
    }

-- the words of a line are correct
pub line_right : (word : List ℕ) (words : List (List ℕ)) (name : CommandName) → line_named word words ≡ Some name →
    are_right name (pieces_of name words) ≡ true
line_right word words name is =
    (and_parts (bytes_eq (form_of name).word word) (are_right name (pieces_of name words))
    (from_find (λ command. is_line_of command word words) name commands is).1).1

-- the words of a line mean what its command means
pub line_means : (word : List ℕ) (words : List (List ℕ)) (found : Option CommandName) → line_named word words ≡ found →
    command_of (word ∷ words) ≡ option_map (λ name. meaning name (pieces_of name words)) found
line_means word words found is = ap (option_map (λ name. meaning name (pieces_of name words))) is

pub no_line_named : (word : List ℕ) (words : List (List ℕ)) (name : CommandName) → line_named word words ≡ Some name → is_line (word ∷ words) ≡ false → ⊥
no_line_named word words name is none = let some : true ≡ false = sym (ap is_some is) ∙ none in cc some

pub checked-meaning : (command : CommandName) (words : List (List ℕ)) → are_right command (pieces_of command words) ≡ true →
    IsChecked (meaning command (pieces_of command words))
checked-meaning command words right =
    let pieces = pieces_of command words in
    meaning_checked command pieces (parts command pieces right)

pub are_checked : LinesAreChecked
are_checked [] command e = cc
are_checked (word ∷ words) command e = by (line_named word words) refl e where
  by : (found : Option CommandName) → line_named word words ≡ found → option_map (λ name. meaning name (pieces_of name words)) found ≡ Some command →
      IsChecked command
  by None is e = cc
  by (Some name) is e =
      let same : meaning name (pieces_of name words) ≡ command = cc in
      subst IsChecked same (checked-meaning name words (line_right word words name is))
