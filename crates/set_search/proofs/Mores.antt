-- One more candidate in a set.
use Rattle.std.proofs.Common.{◌≡◌, ℕ, ◌^◌, ◌<◌, ◌≤◌, true, false, ◌||◌, ◌==◌, bit_or, List, length, sym, ap, subst, arith, ne_eqb, ◌∙◌}
use Rattle.std.proofs.Math.Pow.{pow-lt}
use Rattle.std.proofs.lemmas.List.Sums.{count_by-le-length, length-filter}
use Rattle.std.proofs.lemmas.Nat.{or_lt}
use Rattle.std.proofs.lemmas.Nat.Bits.{bit_at-zero}
use Rattle.irv_base.specs.Candidates.{candidates, has, members, set_of}
use Rattle.irv_base.specs.Suffixes.{is_suffix}
use Rattle.irv_base.specs.declared.limits.TheConstants.{ROOM}
use Rattle.irv_base.proofs.Bits.{has-with, with-number}
use Rattle.irv_base.proofs.Distinct.{below-from_test, distinct-le, distinct-range}
use Rattle.irv_base.proofs.Members.{candidate-member, from_filter, member-filter}
use Rattle.irv_base.proofs.Sames.{distinct-filter}
use Rattle.irv_base.proofs.Sets.{has-member, member-from_has}
use Rattle.irv_base.proofs.Suffixes.{suffix-below, suffix-distinct}
use Rattle.assertions.specs.Steps.{more}

pub more-with : (set c : ℕ) → has set c ≡ false → more set c ≡ bit_or set (2 ^ c)
more-with set c out = let e = with-number set c out in omega (arith, e)

pub has-more : (set c d : ℕ) → has set c ≡ false → has (more set c) d ≡ (has set d || (d == c))
has-more set c d out = ap (λ s. has s d) (more-with set c out) ∙ has-with set c d

pub more-below : (n set c : ℕ) → set < 2 ^ n → c < n → has set c ≡ false → more set c < 2 ^ n
more-below n set c small below out = subst (λ s. s < 2 ^ n) (sym (more-with set c out)) (or_lt n set (2 ^ c) small (pow-lt below))

-- the empty set has no members
pub none-has : (c : ℕ) → has 0 c ≡ false
none-has c = ne_eqb _ 1 (λ e. let z = bit_at-zero c in absurd (omega (arith, e, z)))

-- the number of members
pub members-long : (n : ℕ) (t : List ℕ) → is_suffix n t ≡ true → n ≤ ROOM → length (members (set_of t)) ≡ length t
members-long n t proper room =
    let apart = suffix-distinct n t proper in
    let up = distinct-le (members (set_of t)) t (distinct-filter (has (set_of t)) (candidates ROOM) (distinct-range 0 ROOM))
    (λ c m. member-from_has t c apart (from_filter (has (set_of t)) (candidates ROOM) m).1) in
    let down = distinct-le t (members (set_of t)) apart (λ c m.
    let l : c < n = below-from_test n t (suffix-below n t proper) c m in
    member-filter (has (set_of t)) (candidates ROOM) (candidate-member c ROOM (omega arith)) (has-member apart m)) in
    omega (arith, up, down)

-- a set has few members
pub size-fits : (set : ℕ) → length (members set) ≤ ROOM
size-fits set =
    let few = count_by-le-length (has set) (candidates ROOM) in
    omega (arith, few, length-filter (has set) (candidates ROOM))
