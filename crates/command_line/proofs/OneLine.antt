-- Words are a line of at most one command.
use Rattle.std.proofs.Common.{◌≡◌, ◌∙◌, ◌&&◌, ◌||◌, List, [], ◌∷◌, Option, Some, None, Bool, true, false, not, length, map, drop, ℕ, nat_eq, refl, sym, ap, subst, codes}
use Rattle.std.specs.Prelude.{is_none, is_some, if◌then◌else◌, slice_get}
use Rattle.std.specs.List.{cons_option, list_all, list_any, starts_with, before_first, after_first}
use Rattle.std.specs.Str.{bytes_eq}
use Rattle.std.proofs.lemmas.Bool.{and_parts, false≢true}
use Rattle.std.proofs.lemmas.Slice.Eq.{bytes_eq-Decides}
use Rattle.command_line.specs.Laws.{LinesAreOfOne}
use Rattle.command_line.specs.Line.{are_right, pieces_of}
use Rattle.command_line.specs.Pieces.{Piece, File, Given, Stray, WordSort, Dashes, Plain, Flagged, Named, Valued, Unknown, named, valued, is_equals, option_named, long_sort, word_sort, begins_with_hyphen, pieces, pieces_at, pieces_from, value_piece, files_in, values_in, fits}
use Rattle.command_line.specs.Table.{form_of, text_of, kind_of, is_flag, is_needed, is_same}
use Rattle.command_line.specs.declared.table.CommandName.{CommandName}
use Rattle.command_line.specs.declared.table.CommandName.TheVariants.{Search, SearchFewest, Tabulate, Check, Trim, Adopt, Sample, Plan, Open, Audit, Report, Poll, PollEach, OpenPlurality, AuditPlurality, Contests, Trial}
use Rattle.command_line.specs.declared.table.OptionName.{OptionName}
use Rattle.command_line.specs.declared.table.OptionName.TheVariants.{Draws, Each, Fewest}
use Rattle.irv_base.proofs.Members.{from_find, from_list_all}
use Rattle.command_line.proofs.Checked.{has, right_among}
use Rattle.command_line.proofs.Meanings.{same_option}
use Rattle.command_line.proofs.Needed.{IsRight, needed_given, parts}

-- ---- two lists of options with no name in common

abbrev AreApart : List OptionName → List OptionName → Type 0
AreApart these those = (name : List ℕ) → (is_none (option_named these name) || is_none (option_named those name)) ≡ true

-- a word of these sorts is a file for both lists, or is correct for at most one of them
abbrev agree : WordSort → WordSort → Bool
agree Unknown _ = true
agree Dashes Dashes = true
agree Dashes Unknown = true
agree Plain Plain = true
agree Plain Unknown = true
agree (Flagged a) Unknown = true
agree (Named a) Unknown = true
agree (Valued a value) Unknown = true
agree _ _ = false

agrees-unknown : (sort : WordSort) → agree sort Unknown ≡ true
agrees-unknown Dashes = refl
agrees-unknown Plain = refl
agrees-unknown (Flagged a) = refl
agrees-unknown (Named a) = refl
agrees-unknown (Valued a value) = refl
agrees-unknown Unknown = refl

module _ (these those : List OptionName) (apart : AreApart these those) where
  named-agree : (a b : Option OptionName) → (is_none a || is_none b) ≡ true → agree (named a) (named b) ≡ true
  named-agree None b h = refl
  named-agree (Some a) None h = agrees-unknown (named (Some a))
  named-agree (Some a) (Some b) h = absurd (false≢true h)

  valued-agree : (value : List ℕ) (a b : Option OptionName) → (is_none a || is_none b) ≡ true → agree (valued a value) (valued b value) ≡ true
  valued-agree value None b h = refl
  valued-agree value (Some a) None h = agrees-unknown (valued (Some a) value)
  valued-agree value (Some a) (Some b) h = absurd (false≢true h)

  long-agree : (long : List ℕ) → agree (long_sort these long) (long_sort those long) ≡ true
  long-agree long = by (list_any is_equals long) where
    name : List ℕ
    name = before_first is_equals long

    value : List ℕ
    value = after_first is_equals long

    by : (b : Bool) → agree (if b then valued (option_named these name) value else named (option_named these long))
        (if b then valued (option_named those name) value else named (option_named those long)) ≡ true
    by true = valued-agree value (option_named these name) (option_named those name) (apart name)
    by false = named-agree (option_named these long) (option_named those long) (apart long)

  sorts-agree : (word : List ℕ) → agree (word_sort these word) (word_sort those word) ≡ true
  sorts-agree word =
      by (bytes_eq word (codes "--")) (starts_with nat_eq word (codes "--")) (begins_with_hyphen word) (long-agree (drop 2 word))
    where
      by : (dashes long hyphen : Bool) → agree (long_sort these (drop 2 word)) (long_sort those (drop 2 word)) ≡ true →
          agree (if dashes then Dashes else if long then long_sort these (drop 2 word) else if hyphen then Unknown else Plain)
          (if dashes then Dashes else if long then long_sort those (drop 2 word) else if hyphen then Unknown else Plain) ≡ true
      by true long hyphen h = refl
      by false true hyphen h = h
      by false false true h = refl
      by false false false h = refl

  -- if all pieces are correct for both lists, they are files
  same_files : (words : List (List ℕ)) → list_all fits (pieces these words) ≡ true → list_all fits (pieces those words) ≡ true →
      files_in (pieces these words) ≡ files_in (pieces those words)
  same_files [] here there = refl
  same_files (word ∷ words) here there =
      by (word_sort these word) (word_sort those word) (sorts-agree word) (same_files words) here there
    where
      at_these : WordSort → List Piece
      at_these sort = pieces_at sort word words (λ waiting. pieces_from these waiting words)

      at_those : WordSort → List Piece
      at_those sort = pieces_at sort word words (λ waiting. pieces_from those waiting words)

      by : (a b : WordSort) → agree a b ≡ true
          → (list_all fits (pieces these words) ≡ true → list_all fits (pieces those words) ≡ true →
          files_in (pieces these words) ≡ files_in (pieces those words))
          → list_all fits (at_these a) ≡ true → list_all fits (at_those b) ≡ true → files_in (at_these a) ≡ files_in (at_those b)
      by Dashes Dashes h more here there = refl
      by Plain Plain h more here there =
          ap (λ files. word ∷ files)
          (more (and_parts (fits (File word)) (list_all fits (pieces these words)) here).1
          (and_parts (fits (File word)) (list_all fits (pieces those words)) there).1)
      by Unknown _ h more here there = absurd (false≢true here)
      by _ Unknown h more here there = absurd (false≢true there)
      by _ _ h more here there = absurd (false≢true h)

-- ---- the commands

-- the two lines of `plurality` have no option in common
lines-apart : AreApart (form_of AuditPlurality).options (form_of OpenPlurality).options
lines-apart name = by (bytes_eq (codes "draws") name) (bytes_eq-Decides (codes "draws") name).0 where
  by : (b : Bool) → (b ≡ true → codes "draws" ≡ name) →
      (is_none (if b then Some Draws else None) || is_none (option_named (form_of OpenPlurality).options name)) ≡ true
  by true is = ap (λ name. is_none (option_named (form_of OpenPlurality).options name)) (sym (is refl))
  by false is = refl

not_both : (words : List (List ℕ)) → IsRight AuditPlurality (pieces_of AuditPlurality words) → IsRight OpenPlurality (pieces_of OpenPlurality words) → ⊥
not_both words round opening =
    let same = ap length (same_files (form_of AuditPlurality).options (form_of OpenPlurality).options lines-apart words round.fit opening.fit) in
    let four_is_two : 4 ≡ 2 = sym round.count ∙ same ∙ opening.count in
    cc four_is_two

-- ---- a line with a flag, and one without

abbrev is_flagged : OptionName → Bool
is_flagged option = is_flag (kind_of option)

-- if two options have the same name and the first isn't a flag, the second isn't a flag either
abbrev is_without : Option OptionName → Option OptionName → Bool
is_without None _ = true
is_without (Some a) None = not (is_flagged a)
is_without (Some a) (Some b) = not (is_flagged a) && not (is_flagged b)

-- a word of these sorts isn't a flag of the second list if it is correct for both lists
abbrev no_flag : WordSort → WordSort → Bool
no_flag Unknown _ = true
no_flag _ Unknown = true
no_flag Dashes Dashes = true
no_flag Plain Plain = true
no_flag (Named a) (Named b) = not (is_flagged b)
no_flag (Valued a value) (Valued b other) = not (is_flagged b)
no_flag _ _ = false

no_flag-unknown : (sort : WordSort) → no_flag sort Unknown ≡ true
no_flag-unknown Unknown = refl
no_flag-unknown Dashes = refl
no_flag-unknown Plain = refl
no_flag-unknown (Flagged option) = refl
no_flag-unknown (Named option) = refl
no_flag-unknown (Valued option value) = refl

sorts-named : (a b : Option OptionName) → is_without a b ≡ true → no_flag (named a) (named b) ≡ true
sorts-named None b h = refl
sorts-named (Some a) None h = no_flag-unknown (named (Some a))
sorts-named (Some a) (Some b) h = by (is_flagged a) (is_flagged b) refl h where
  by : (one other : Bool) → is_flagged b ≡ other → (not one && not other) ≡ true →
      no_flag (if one then Flagged a else Named a) (if other then Flagged b else Named b) ≡ true
  by true other is h = absurd (false≢true h)
  by false true is h = absurd (false≢true h)
  by false false is h = ap not is

sorts-valued : (value : List ℕ) (a b : Option OptionName) → is_without a b ≡ true → no_flag (valued a value) (valued b value) ≡ true
sorts-valued value None b h = refl
sorts-valued value (Some a) None h = no_flag-unknown (valued (Some a) value)
sorts-valued value (Some a) (Some b) h = by (is_flagged a) (is_flagged b) refl h where
  by : (one other : Bool) → is_flagged b ≡ other → (not one && not other) ≡ true →
      no_flag (if one then Unknown else Valued a value) (if other then Unknown else Valued b value) ≡ true
  by true other is h = absurd (false≢true h)
  by false true is h = absurd (false≢true h)
  by false false is h = ap not is

-- no option waits for a value, or none that is a flag
abbrev waits_for_no_flag : Option OptionName → Bool
waits_for_no_flag None = true
waits_for_no_flag (Some option) = not (is_flagged option)

-- the options of a line without the flag, and those of one with it: each option of the first has no flag's name in the second
module _ (without with_it : List OptionName) (flag : OptionName) (is : is_flagged flag ≡ true)
    (apart : list_all (λ option. is_without (Some option) (option_named with_it (text_of option))) without ≡ true) where
  names-no_flag : (name : List ℕ) → is_without (option_named without name) (option_named with_it name) ≡ true
  names-no_flag name = by (option_named without name) refl where
    by : (found : Option OptionName) → option_named without name ≡ found → is_without found (option_named with_it name) ≡ true
    by None e = refl
    by (Some option) e =
        let (member, named) = from_find (λ option. bytes_eq (text_of option) name) option without e in
        let same = (bytes_eq-Decides (text_of option) name).0 named in
        subst (λ name. is_without (Some option) (option_named with_it name) ≡ true) same
        (from_list_all (λ option. is_without (Some option) (option_named with_it (text_of option))) member apart)

  sorts-no_flag : (word : List ℕ) → no_flag (word_sort without word) (word_sort with_it word) ≡ true
  sorts-no_flag word = by (bytes_eq word (codes "--")) (starts_with nat_eq word (codes "--")) (begins_with_hyphen word) (list_any is_equals long) where
    long : List ℕ
    long = drop 2 word

    name : List ℕ
    name = before_first is_equals long

    value : List ℕ
    value = after_first is_equals long

    by : (dashes two one equals : Bool) → no_flag
        (if dashes then Dashes
        else if two then (if equals then valued (option_named without name) value else named (option_named without long))
        else if one then Unknown else Plain)
        (if dashes then Dashes
        else if two then (if equals then valued (option_named with_it name) value else named (option_named with_it long))
        else if one then Unknown else Plain) ≡ true
    by true two one equals = refl
    by false true one true = sorts-valued value (option_named without name) (option_named with_it name) (names-no_flag name)
    by false true one false = sorts-named (option_named without long) (option_named with_it long) (names-no_flag long)
    by false false true equals = refl
    by false false false equals = refl

  another-option : (option : OptionName) (value : List ℕ) (pieces : List Piece) → not (is_flagged option) ≡ true → values_in flag pieces ≡ [] →
      values_in flag (Given option value ∷ pieces) ≡ []
  another-option option value pieces other none = by (is_same option flag) (same_option option flag) where
    by : (same : Bool) → (same ≡ true → option ≡ flag) → cons_option (if same then Some value else None) (values_in flag pieces) ≡ []
    by true same =
        let flagged : true ≡ is_flagged option = sym (ap is_flagged (same refl) ∙ is) in
        absurd (false≢true (ap not flagged ∙ other))
    by false same = none

  files-no_flag : (words : List (List ℕ)) → values_in flag (map File words) ≡ []
  files-no_flag [] = refl
  files-no_flag (word ∷ words) = files-no_flag words

  -- if all words are correct for both, none of them is the flag
  no_flag_given : (words : List (List ℕ)) (a b : Option OptionName) → is_some a ≡ is_some b → waits_for_no_flag b ≡ true →
      list_all fits (pieces_from without a words) ≡ true → list_all fits (pieces_from with_it b words) ≡ true →
      values_in flag (pieces_from with_it b words) ≡ []
  no_flag_given [] None None both free here there = refl
  no_flag_given [] (Some a) (Some b) both free here there = refl
  no_flag_given (word ∷ words) (Some a) (Some b) both free here there =
      by (begins_with_hyphen word) there
      (no_flag_given words None None refl refl (and_parts (fits (value_piece a word)) (list_all fits (pieces without words)) here).1)
    where
      by : (hyphen : Bool) → list_all fits ((if hyphen then Stray else Given b word) ∷ pieces with_it words) ≡ true →
          (list_all fits (pieces with_it words) ≡ true → values_in flag (pieces with_it words) ≡ []) →
          values_in flag ((if hyphen then Stray else Given b word) ∷ pieces with_it words) ≡ []
      by true there more = absurd (false≢true there)
      by false there more =
          another-option b word (pieces with_it words) free (more (and_parts (fits (Given b word)) (list_all fits (pieces with_it words)) there).1)
  no_flag_given (word ∷ words) None None both free here there =
      by (word_sort without word) (word_sort with_it word) (sorts-no_flag word) (no_flag_given words) here there
    where
      at_without : WordSort → List Piece
      at_without sort = pieces_at sort word words (λ waiting. pieces_from without waiting words)

      at_with : WordSort → List Piece
      at_with sort = pieces_at sort word words (λ waiting. pieces_from with_it waiting words)

      by : (a b : WordSort) → no_flag a b ≡ true
          → ((a b : Option OptionName) → is_some a ≡ is_some b → waits_for_no_flag b ≡ true → list_all fits (pieces_from without a words) ≡ true →
          list_all fits (pieces_from with_it b words) ≡ true → values_in flag (pieces_from with_it b words) ≡ [])
          → list_all fits (at_without a) ≡ true → list_all fits (at_with b) ≡ true → values_in flag (at_with b) ≡ []
      by Unknown _ h more here there = absurd (false≢true here)
      by _ Unknown h more here there = absurd (false≢true there)
      by Dashes Dashes h more here there = files-no_flag words
      by Plain Plain h more here there =
          more None None refl refl (and_parts (fits (File word)) (list_all fits (pieces without words)) here).1
          (and_parts (fits (File word)) (list_all fits (pieces with_it words)) there).1
      by (Named a) (Named b) h more here there = more (Some a) (Some b) refl h here there
      by (Valued a value) (Valued b other) h more here there =
          another-option b other (pieces with_it words) h
          (more None None refl refl (and_parts (fits (Given a value)) (list_all fits (pieces without words)) here).1
          (and_parts (fits (Given b other)) (list_all fits (pieces with_it words)) there).1)
      by _ _ h more here there = absurd (false≢true h)
  no_flag_given words None (Some b) both free here there = cc
  no_flag_given words (Some a) None both free here there = cc

-- if a line must give a flag, no words are correct both for it and for a line in which no option has the name of a flag
not_with_flag : (a b : CommandName) (flag : OptionName) → is_flagged flag ≡ true → is_needed (kind_of flag) ≡ true → has flag (form_of b).options ≡ true →
    list_all (λ option. is_without (Some option) (option_named (form_of b).options (text_of option))) (form_of a).options ≡ true
    → (words : List (List ℕ)) → IsRight a (pieces_of a words) → IsRight b (pieces_of b words) → ⊥
not_with_flag a b flag is needed among apart words without with_it =
    let all : List Piece = pieces_of b words in
    let (value, given) = needed_given flag all needed (right_among (form_of b).options flag all among with_it.options) in
    let none : values_in flag all ≡ [] =
    no_flag_given (form_of a).options (form_of b).options flag is apart words None None refl refl without.fit with_it.fit in
    let same : None ≡ Some value = sym (ap (λ values. slice_get values 0) none) ∙ given in
    cc same

not_both_polls : (words : List (List ℕ)) → IsRight Poll (pieces_of Poll words) → IsRight PollEach (pieces_of PollEach words) → ⊥
not_both_polls = not_with_flag Poll PollEach Each refl refl refl refl

not_both_searches : (words : List (List ℕ)) → IsRight Search (pieces_of Search words) → IsRight SearchFewest (pieces_of SearchFewest words) → ⊥
not_both_searches = not_with_flag Search SearchFewest Fewest refl refl refl refl

-- two commands with the same word are the same, or are two lines of which only one is correct
one_right : (a b : CommandName) → bytes_eq (form_of a).word (form_of b).word ≡ true → (words : List (List ℕ)) → IsRight a (pieces_of a words) →
    IsRight b (pieces_of b words) → a ≡ b
one_right Search Search same words here there = refl
one_right SearchFewest SearchFewest same words here there = refl
one_right Search SearchFewest same words here there = absurd (not_both_searches words here there)
one_right SearchFewest Search same words here there = absurd (not_both_searches words there here)
one_right Tabulate Tabulate same words here there = refl
one_right Check Check same words here there = refl
one_right Trim Trim same words here there = refl
one_right Adopt Adopt same words here there = refl
one_right Sample Sample same words here there = refl
one_right Plan Plan same words here there = refl
one_right Open Open same words here there = refl
one_right Audit Audit same words here there = refl
one_right Report Report same words here there = refl
one_right Poll Poll same words here there = refl
one_right PollEach PollEach same words here there = refl
one_right Poll PollEach same words here there = absurd (not_both_polls words here there)
one_right PollEach Poll same words here there = absurd (not_both_polls words there here)
one_right OpenPlurality OpenPlurality same words here there = refl
one_right AuditPlurality AuditPlurality same words here there = refl
one_right AuditPlurality OpenPlurality same words here there = absurd (not_both words here there)
one_right OpenPlurality AuditPlurality same words here there = absurd (not_both words there here)
one_right Contests Contests same words here there = refl
one_right Trial Trial same words here there = refl
one_right _ _ same words here there = absurd (false≢true same)

pub are_of_one : LinesAreOfOne
are_of_one word words a b here there =
    let (this, first) = and_parts (bytes_eq (form_of a).word word) (are_right a (pieces_of a words)) here in
    let (that, second) = and_parts (bytes_eq (form_of b).word word) (are_right b (pieces_of b words)) there in
    let same : (form_of a).word ≡ (form_of b).word =
    (bytes_eq-Decides (form_of a).word word).0 this ∙ sym ((bytes_eq-Decides (form_of b).word word).0 that) in
    one_right a b ((bytes_eq-Decides (form_of a).word (form_of b).word).1 same) words (parts a (pieces_of a words) first) (parts b (pieces_of b words) second)
