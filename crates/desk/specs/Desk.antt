-- What a desk holds.
use Rattle.std.specs.Prelude.{ℕ, List, [], ◌∷◌, Bool, false, Option, None, Some, Result, Ok, Err, if◌then◌else◌}
use Rattle.std.specs.Str.{bytes_eq}

-- a file: the bytes of its name, and the bytes that it holds
pub record File : Type 0 where
  pub name : List ℕ
  pub bytes : List ℕ

-- what is held under a name: the bytes of the first file with that name
abbrev pub held_bytes : List ℕ → List File → Option (List ℕ)
held_bytes name [] = None
held_bytes name (file ∷ files) =
    if bytes_eq file.name name then Some file.bytes else held_bytes name files

-- `Ok(true)`
abbrev pub is_ok_true : {E : Type 0} → Result Bool E → Bool
is_ok_true (Ok found) = found
is_ok_true (Err e) = false
