-- The ids of a trial's candidates are ids, and differ.
use Rattle.std.proofs.Common.{◌≡◌, ◌+◌, ◌-◌, ◌<◌, ◌≤◌, ◌^◌, ◌==◌, ◌&&◌, ◌||◌, ℕ, zero, suc, true, false, not, nat_le, List, [], ◌∷◌, ◌++◌, length, map, get_or, decimal, inl, inr, All, Option, None, Some, refl, sym, ap, ap₂, subst, arith, le-leb, ◌∙◌}
use Rattle.std.specs.Prelude.{IfNone, IsSome}
use Rattle.std.specs.Char.{is_ascii_digit}
use Rattle.std.specs.Cmp.Lexicographic.{bytes_decides}
use Rattle.std.specs.List.{list_all, range_with_len}
use Rattle.std.proofs.lemmas.Bool.{and_parts, and_from, both_ways, cases_Bool}
use Rattle.std.proofs.lemmas.Fmt.{decimal_injective, decimal_nonempty, digits_decimal, length-decimal-le}
use Rattle.std.proofs.lemmas.List.FromFn.{length-map-range_with_len, map-range_with_len_more}
use Rattle.irv_base.specs.Names.{Id, is_among, is_name, is_name_byte, is_same, has_name_length, touches_space, all_differ}
use Rattle.irv_base.specs.declared.limits.TheConstants.{FEWEST_CANDIDATES, MOST_CANDIDATES, MOST_NAME_BYTES}
use Rattle.csv_rows.proofs.Numbers.{AreDigits, own}
use Rattle.ballots.specs.Ballots.{AreCandidates}
use Rattle.search_commands.specs.Trial.{trial_candidates}

-- ---- a number in digits is an id

name_digit : (b : ℕ) → is_ascii_digit b ≡ true → (is_name_byte b ≡ true) × ((b == 32) ≡ false)
name_digit b h = grind arith

name_digits : (text : List ℕ) → AreDigits text → list_all is_name_byte text ≡ true
name_digits [] h = refl
name_digits (b ∷ text) h =
    let parts = and_parts (is_ascii_digit b) (list_all is_ascii_digit text) h in
    and_from (is_name_byte b) (list_all is_name_byte text) (name_digit b parts.0).0 (name_digits text parts.1)

no_space : (text : List ℕ) (k : ℕ) → AreDigits text → k < length text → (get_or text k 0 == 32) ≡ false
no_space [] k h below = absurd (omega (arith, below))
no_space (b ∷ text) zero h below = (name_digit b (and_parts (is_ascii_digit b) (list_all is_ascii_digit text) h).0).1
no_space (b ∷ text) (suc k) h below = no_space text k (and_parts (is_ascii_digit b) (list_all is_ascii_digit text) h).1 (omega (arith, below))

pub decimal_is_name : (n : ℕ) → n < 2 ^ 32 → is_name (decimal n) ≡ true
decimal_is_name n small =
    let text = decimal n in
    let digits : AreDigits text = digits_decimal own n (omega (arith, small)) in
    let some : 0 < length text = decimal_nonempty n (omega (arith, small)) in
    let few : length text ≤ 10 = length-decimal-le 10 n (omega arith) (omega (arith, small)) (omega (arith, small)) in
    let long : has_name_length text ≡ true =
    and_from (nat_le 1 (length text)) (nat_le (length text) MOST_NAME_BYTES) (le-leb 1 (length text) (omega (arith, some)))
    (le-leb (length text) MOST_NAME_BYTES (omega (arith, few))) in
    let apart : not (touches_space text) ≡ true =
    ap₂ (λ a b. not (a || b)) (no_space text 0 digits some) (no_space text (length text - 1) digits (omega (arith, some))) in
    and_from (has_name_length text && not (touches_space text)) (list_all is_name_byte text)
    (and_from (has_name_length text) (not (touches_space text)) long apart) (name_digits text digits)

-- ---- one more

pub length-trial_candidates : (n : ℕ) → length (trial_candidates n) ≡ n
length-trial_candidates n = length-map-range_with_len (λ c. decimal (c + 1)) 0 n

pub trial_candidates-more : (n : ℕ) → trial_candidates (n + 1) ≡ trial_candidates n ++ decimal (n + 1) ∷ []
trial_candidates-more n = map-range_with_len_more (λ c. decimal (c + 1)) 0 n n (omega arith)

-- ---- they differ

abbrev from : ℕ → ℕ → List Id
from first n = map (λ c. decimal (c + 1)) (range_with_len first n)

other_id : (j k : ℕ) → k < j → j < 2 ^ 32 → is_same (decimal j) (decimal k) ≡ false
other_id j k below small = elim (cases_Bool (is_same (decimal j) (decimal k))) [
  | inl t ↦
      let same : j ≡ k = decimal_injective j k (omega (arith, small)) (omega (arith, below, small)) ((bytes_decides (decimal j) (decimal k)).0 t) in
      absurd (omega (arith, same, below))
  | inr f ↦ f
]

none_among : (k first n : ℕ) → k < first → first + n < 2 ^ 32 → is_among (from first n) (decimal (k + 1)) ≡ false
none_among k first zero below small = refl
none_among k first (suc n) below small =
    ap₂ (λ a b. a || b) (other_id (first + 1) (k + 1) (omega (arith, below)) (omega (arith, small)))
    (none_among k (first + 1) n (omega (arith, below)) (omega (arith, small)))

differ-from : (first n : ℕ) → first + n < 2 ^ 32 → all_differ (from first n) ≡ true
differ-from first zero small = refl
differ-from first (suc n) small =
    and_from (not (is_among (from (first + 1) n) (decimal (first + 1)))) (all_differ (from (first + 1) n))
    (ap not (none_among first (first + 1) n (omega arith) (omega (arith, small)))) (differ-from (first + 1) n (omega (arith, small)))

pub trial_candidates_are_candidates : (n : ℕ) → FEWEST_CANDIDATES ≤ n → n ≤ MOST_CANDIDATES → AreCandidates (trial_candidates n)
trial_candidates_are_candidates n fewest most =
    let long = length-trial_candidates n in
    record { fewest = omega (arith, fewest, long); most = omega (arith, most, long); differ = differ-from 0 n (omega (arith, most)) }

pub named_are_candidates : (n : ℕ) (names : List Id) → names ≡ trial_candidates n → FEWEST_CANDIDATES ≤ n → n ≤ MOST_CANDIDATES → AreCandidates names
named_are_candidates n names named fewest most = subst AreCandidates (sym named) (trial_candidates_are_candidates n fewest most)

pub below_named : (n : ℕ) (names : List Id) (records read : List (List ℕ)) → names ≡ trial_candidates n → read ≡ records →
    All (λ ranking. All (λ c. c < n) ranking) records →
    All (λ ranking. All (λ c. c < length names) ranking) read
below_named n names records read named same below =
    let long : n ≡ length names = sym (ap length named ∙ length-trial_candidates n) in
    subst (λ read. All (λ ranking. All (λ c. c < length names) ranking) read) (sym same)
    (subst (λ m. All (λ ranking. All (λ c. c < m) ranking) records) long below)

-- ---- an id that is read

pub read_some : {A : Type 0} (name : Option A) (bytes : List ℕ) → IfNone name (is_name bytes ≡ false) → is_name bytes ≡ true → IsSome name
read_some (Some name) bytes none valid = refl
read_some None bytes none valid = absurd (both_ways (is_name bytes) none valid)
