-- The first file with a name, searched for from the front.
use Rattle.std.proofs.Common.{◌≡◌, ℕ, suc, ◌<◌, List, ◌∷◌, length, drop, get_or, Some, true, refl, sym, ◌∙◌, ap}
use Rattle.std.specs.Prelude.{slice_get}
use Rattle.std.specs.Str.{bytes_eq}
use Rattle.std.proofs.Math.Seq.{drop-cons}
use Rattle.std.proofs.lemmas.Option.{slice_get_read}
use Rattle.desk.specs.Desk.{held_bytes}
use Rattle.desk.specs.MemoryDesk.{files_of, bytes_from}
use Rattle.desk.specs.declared.memory_desk.Named.{Named}

at_head : (name : List ℕ) (file : Named) (rest : List Named) → bytes_eq file.name name ≡ true → held_bytes name (files_of (file ∷ rest)) ≡ Some file.bytes.items
at_head name file rest same = rw same refl

pub found_at : (name : List ℕ) (files : List Named) (i : ℕ) (file : Named) → i < length files → file ≡ get_or files i file → bytes_eq file.name name ≡ true
    → held_bytes name (files_of files) ≡ held_bytes name (files_of (drop i files)) → held_bytes name (files_of files) ≡ Some (bytes_from 0 (slice_get files i))
found_at name files i file in_range is same so_far =
    let rest : drop i files ≡ file ∷ drop (suc i) files = drop-cons files i file in_range ∙ ap (λ (f : Named). f ∷ drop (suc i) files) (sym is) in
    let there : slice_get files i ≡ Some file = slice_get_read files (length files) i file refl in_range is in
    so_far ∙ ap (λ (l : List Named). held_bytes name (files_of l)) rest ∙ at_head name file (drop (suc i) files) same ∙ sym (ap (λ o. Some (bytes_from 0 o)) there)
