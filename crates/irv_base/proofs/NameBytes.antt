-- The bytes of a name in an array with room for the longest, padded with zeros.
use Rattle.std.proofs.Common.{◌≡◌, ℕ, ◌≤◌, true, not, ◌&&◌, nat_le, List, ◌++◌, length, take, drop, replicate, refl, sym, ap, leb-true, ◌∙◌}
use Rattle.std.specs.List.{list_all}
use Rattle.std.proofs.lemmas.Bool.{and_parts}
use Rattle.std.proofs.lemmas.List.{drop-replicate}
use Rattle.irv_base.specs.Names.{is_name, is_name_byte, has_name_length, touches_space}
use Rattle.irv_base.specs.Places.{IsName}
use Rattle.irv_base.specs.declared.limits.TheConstants.{MOST_NAME_BYTES}
use Rattle.irv_base.proofs.Padded.{take-whole}

pub name-few : (bytes : List ℕ) → is_name bytes ≡ true → length bytes ≤ MOST_NAME_BYTES
name-few bytes h =
    let (outer, all) = and_parts (has_name_length bytes && not (touches_space bytes)) (list_all is_name_byte bytes) h in
    let (long, apart) = and_parts (has_name_length bytes) (not (touches_space bytes)) outer in
    leb-true (length bytes) MOST_NAME_BYTES (and_parts (nat_le 1 (length bytes)) (nat_le (length bytes) MOST_NAME_BYTES) long).1

pub name_filled : (bytes copied text : List ℕ) → copied ≡ bytes → text ≡ replicate MOST_NAME_BYTES 0 → is_name bytes ≡ true →
    IsName (length bytes) (copied ++ drop (length bytes) text)
name_filled bytes copied text e blank h = record {
  few = name-few bytes h;
  long = ap length same;
  padded =
      ap (λ s. s ++ drop (length bytes) text) (e ∙ sym same)
      ∙ ap (λ s. take (length bytes) (copied ++ drop (length bytes) text) ++ s) (ap (drop (length bytes)) blank
      ∙ drop-replicate (length bytes) MOST_NAME_BYTES 0);
  proper = ap is_name same ∙ h;
}
  where
    same : take (length bytes) (copied ++ drop (length bytes) text) ≡ bytes
    same = ap (λ s. take (length bytes) (s ++ drop (length bytes) text)) e ∙ take-whole bytes (drop (length bytes) text) (length bytes) refl
