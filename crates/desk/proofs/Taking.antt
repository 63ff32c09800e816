-- A text goes into a sink piece by piece.
use Rattle.std.proofs.Common.{◌≡◌, ℕ, ◌-◌, ◌≤◌, List, ◌++◌, length, take, drop, Result, Ok, Err, OnErr, refl, sym, ap, ◌∙◌, subst, arith, append_assoc, take-append-drop, length-append}
use Rattle.std.proofs.lemmas.List.{take_at, take_rest}
use Rattle.std.specs.Io.KnownBytes.{Appends, Keeps}
use Rattle.std.proofs.KnownBytes.{Appends-kept}
use Rattle.std.specs.declared.option.Option.{Option}

pub on_err : {T E P : Type 0} (r : Result T E) → P → OnErr r P
on_err (Ok x) p = tt
on_err (Err e) p = p

-- one more piece
pub moved : (all done rest : List ℕ) (n : ℕ) → all ≡ done ++ rest → all ≡ (done ++ take n rest) ++ take (length rest - n) (drop n rest)
moved all done rest n split =
    split ∙ ap (λ (l : List ℕ). done ++ l) (sym (take-append-drop n rest)) ∙ sym (append_assoc done (take n rest) (drop n rest))
    ∙ ap (λ (l : List ℕ). (done ++ take n rest) ++ l) (sym (take_rest rest n))

-- a write that fails ends the text with a prefix
pub cut_short : (a b c : Option (List ℕ)) (all done rest : List ℕ) → all ≡ done ++ rest → Appends a b done → Keeps b c
    → (n : ℕ) × (n ≤ length all) × Appends a c (take n all)
cut_short a b c all done rest split so_far kept =
    let front : take (length done) all ≡ done = ap (λ (l : List ℕ). take (length done) l) split ∙ take_at done rest (length done) refl in
    let fits : length done ≤ length all = omega (arith, ap length split, length-append done rest) in
    (length done, fits, subst (Appends a c) (sym front) (Appends-kept a b c done so_far kept))
