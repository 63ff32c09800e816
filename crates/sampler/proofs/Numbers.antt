-- The number that bytes write, modulo the number of cards, byte by byte.
use Rattle.std.proofs.Common.{◌≡◌, ℕ, suc, ◌+◌, ◌*◌, ◌%◌, ◌^◌, ◌<◌, List, [], ◌∷◌, ◌++◌, length, take, get_or, arith, sym, ap, add-one, length-append, ◌∙◌}
use Rattle.std.proofs.Math.Nat.{mod-add-mod, pow-suc}
use Rattle.std.proofs.lemmas.List.{take_more}
use Rattle.std.proofs.lemmas.Nat.{mul-mod_first}
use Rattle.sampler.specs.Draws.{number_of}

-- one more byte at the end
number_of-push : (bytes : List ℕ) (byte : ℕ) → number_of (bytes ++ byte ∷ []) ≡ number_of bytes * 256 + byte
number_of-push [] byte = omega arith
number_of-push (first ∷ rest) byte =
    let long : length (rest ++ byte ∷ []) ≡ suc (length rest) = length-append rest (byte ∷ []) ∙ add-one (length rest) in
    let power : 256 ^ length (rest ++ byte ∷ []) ≡ 256 ^ length rest * 256 = ap (λ n. 256 ^ n) long ∙ pow-suc 256 (length rest) in
    ap (λ p. first * p + number_of (rest ++ byte ∷ [])) power ∙ ap (λ n. first * (256 ^ length rest * 256) + n) (number_of-push rest byte) ∙ omega arith

-- the remainder so far decides the next
remainder-next : (number byte cards : ℕ) → (number % cards * 256 + byte) % cards ≡ (number * 256 + byte) % cards
remainder-next number byte cards =
    sym (mod-add-mod (number % cards * 256) cards byte)
    ∙ ap (λ n. (n + byte) % cards) (mul-mod_first number 256 cards)
    ∙ mod-add-mod (number * 256) cards byte

-- as the code computes it
pub remainder_more : (bytes : List ℕ) (i cards remainder byte : ℕ) → remainder ≡ number_of (take i bytes) % cards → byte ≡ get_or bytes i 0 → i < length bytes →
    (remainder * 256 + byte) % cards ≡ number_of (take (i + 1) bytes) % cards
remainder_more bytes i cards remainder byte so_far e l =
    ap (λ n. (n * 256 + byte) % cards) so_far
    ∙ remainder-next (number_of (take i bytes)) byte cards
    ∙ ap (λ n. n % cards) (ap (λ b. number_of (take i bytes) * 256 + b) e
    ∙ sym (ap number_of (take_more bytes i 0 l) ∙ number_of-push (take i bytes) (get_or bytes i 0)))
