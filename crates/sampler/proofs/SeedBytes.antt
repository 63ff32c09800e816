-- The first bad byte of a text, and the bytes of a seed in an array with room for the longest.
use Rattle.std.proofs.Common.{◌≡◌, ℕ, ◌≤◌, Bool, true, false, not, ◌&&◌, nat_le, nat_lt, cond, Some, None, List, ◌++◌, length, take, drop, get_or, replicate, arith, refl, sym, ap, leb-true, ◌∙◌}
use Rattle.std.specs.List.{list_all, position_or_len}
use Rattle.std.proofs.Math.Seq.{take-append_seam}
use Rattle.std.proofs.lemmas.Bool.{not-true, not-false, ltb-false, and_parts, and_from}
use Rattle.std.proofs.lemmas.List.{drop-replicate}
use Rattle.std.proofs.lemmas.List.Elements.{All-from_get_or}
use Rattle.std.proofs.lemmas.List.Folds.{list_all_at}
use Rattle.std.proofs.lemmas.List.Quantifiers.{position-Some}
use Rattle.std.proofs.lemmas.List.Sums.{list_all-from_AllPass, fails_before_first}
use Rattle.sampler.specs.Seeds.{is_seed, is_seed_byte, has_seed_length, first_bad_byte}
use Rattle.sampler.specs.declared.limits.TheConstants.{MOST_SEED_BYTES}
use Rattle.sampler.specs.SeedArray.{HoldsSeed}

bad-some : (text : List ℕ) (place : ℕ) → first_bad_byte text ≡ Some place → list_all is_seed_byte text ≡ false
bad-some text place h =
    let (within, bad, before) = position-Some (λ b. not (is_seed_byte b)) text place 0 h in
    list_all_at is_seed_byte text place 0 within (not-true (is_seed_byte (get_or text place 0)) bad)

bad-none : (text : List ℕ) → first_bad_byte text ≡ None → list_all is_seed_byte text ≡ true
bad-none text h =
    list_all-from_AllPass is_seed_byte text
    (All-from_get_or (λ b. is_seed_byte b ≡ true) text 0
    (λ i l. not-false (is_seed_byte (get_or text i 0)) (fails_before_first (λ b. not (is_seed_byte b)) text i 0 (omega (arith, whole)))))
  where
    first : ℕ
    first = position_or_len (λ b. not (is_seed_byte b)) text

    none-false : (b : Bool) → cond b (Some first) None ≡ None → b ≡ false
    none-false true e = cc
    none-false false e = refl

    whole : length text ≤ first
    whole = ltb-false first (length text) (none-false (nat_lt first (length text)) h)

-- ---- as the code finds it
pub refused_byte : (text : List ℕ) (place : ℕ) → has_seed_length text ≡ true → first_bad_byte text ≡ Some place → is_seed text ≡ false
refused_byte text place long bad = ap (λ b. has_seed_length text && b) (bad-some text place bad) ∙ ap (λ b. b && false) long

pub accepted : (text : List ℕ) → has_seed_length text ≡ true → first_bad_byte text ≡ None → is_seed text ≡ true
accepted text long bad = and_from (has_seed_length text) (list_all is_seed_byte text) long (bad-none text bad)

-- the bytes are copied to the front of an array of zeros
pub seed_held : (text copied blank : List ℕ) → copied ≡ text → blank ≡ replicate MOST_SEED_BYTES 0 → is_seed text ≡ true →
    HoldsSeed (length text) (copied ++ drop (length text) blank)
seed_held text copied blank e zeros valid = record {
  few = leb-true (length text) MOST_SEED_BYTES (and_parts (nat_le 1 (length text)) (nat_le (length text) MOST_SEED_BYTES) long).1;
  long = ap length same;
  padded = ap (λ s. s ++ drop (length text) blank) (e ∙ sym same)
      ∙ ap (λ s. take (length text) filled ++ s) (ap (drop (length text)) zeros ∙ drop-replicate (length text) MOST_SEED_BYTES 0);
  valid = ap is_seed same ∙ valid;
}
  where
    filled : List ℕ
    filled = copied ++ drop (length text) blank

    same : take (length text) filled ≡ text
    same = ap (λ s. take (length text) (s ++ drop (length text) blank)) e ∙ take-append_seam text (drop (length text) blank)

    long : has_seed_length text ≡ true
    long = (and_parts (has_seed_length text) (list_all is_seed_byte text) valid).0
