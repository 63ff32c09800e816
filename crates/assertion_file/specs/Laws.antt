-- The laws of the assertion file.
use Rattle.std.specs.Prelude.{◌≡◌, ℕ, List, Some, Ok}
use Rattle.assertion_file.specs.Content.{Content, IsSound, HasNames}
use Rattle.assertion_file.specs.Reading.{assertion_file_of}
use Rattle.assertion_file.specs.Text.{file_value, assertion_file_text, json_of}

-- what is printed reads as the file's value
abbrev pub TextReadsBack : Type 0
TextReadsBack =
    (file : Content) → IsSound file → HasNames file →
    json_of (assertion_file_text file) ≡ Some (file_value file)

-- what is printed reads back as the file that was printed
abbrev pub PrintedReadsBack : Type 0
PrintedReadsBack =
    (file : Content) → IsSound file → HasNames file →
    assertion_file_of (assertion_file_text file) ≡ Ok file

-- what is read obeys the rules of files
abbrev pub ReadIsSound : Type 0
ReadIsSound =
    (bytes : List ℕ) (file : Content) → assertion_file_of bytes ≡ Ok file →
    IsSound file × HasNames file

-- what is read is printed by a file that says the same thing
abbrev pub ReadIsPrinted : Type 0
ReadIsPrinted =
    (bytes : List ℕ) (file : Content) → assertion_file_of bytes ≡ Ok file →
    assertion_file_of (assertion_file_text file) ≡ Ok file
