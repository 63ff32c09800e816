-- RAIRE's two kinds of assertion between a winner w and a loser l, and their margins.
-- NEB, not eliminated before: even with all candidates left, w has more votes than l ever gets while w remains.
-- NEN, not eliminated next: with exactly the set left, w has more votes than l.
use Rattle.std.specs.Prelude.{ℕ, ◌-◌, ◌^◌, Bool, not, ◌&&◌, ◌==◌, nat_lt, List, ◌++◌, map, filter, flat_map, count_by, ℤ, pos, ◌-ℤ◌}
use Rattle.std.specs.List.{range_with_len}
use Rattle.irv_base.specs.Candidates.{candidates, all_but, has}
use Rattle.irv_base.specs.Records.{tally, is_first, is_ahead}
use Rattle.assertions.specs.declared.assertion.Assertion.{Assertion}
use Rattle.assertions.specs.declared.assertion.Assertion.TheVariants.{Neb, Nen}

-- the votes of the records for the winner: for NEB its first preferences, for NEN its tally in the set
abbrev pub votes_for : List (List ℕ) → Assertion → ℕ
votes_for records (Neb w l) = count_by (λ ranking. is_first ranking w) records
votes_for records (Nen w l rest) = tally records rest w

-- the votes of the records for the loser: for NEB the records that rank it and don't have w ahead of it, for NEN its tally in the
-- set
abbrev pub votes_against : List (List ℕ) → Assertion → ℕ
votes_against records (Neb w l) = count_by (λ ranking. is_ahead ranking l w) records
votes_against records (Nen w l rest) = tally records rest l

abbrev pub margin : List (List ℕ) → Assertion → ℤ
margin records a = pos (votes_for records a) -ℤ pos (votes_against records a)

-- an assertion is true if its margin is above 0
abbrev pub is_true : List (List ℕ) → Assertion → Bool
is_true records a = nat_lt (votes_against records a) (votes_for records a)

-- the margin of a true assertion, and 0 for one that isn't
abbrev pub true_margin : List (List ℕ) → Assertion → ℕ
true_margin records a = votes_for records a - votes_against records a

-- the winner and the loser are two different candidates below n
abbrev pub is_pair : ℕ → ℕ → ℕ → Bool
is_pair n w l = nat_lt w n && nat_lt l n && not (w == l)

-- an assertion is proper if it has two different candidates below n, and, for NEN, a set of candidates below n that contains both
abbrev pub is_proper : ℕ → Assertion → Bool
is_proper n (Neb w l) = is_pair n w l
is_proper n (Nen w l rest) = is_pair n w l && nat_lt rest (2 ^ n) && has rest w && has rest l

abbrev pub pairs : ℕ → List (ℕ × ℕ)
pairs n = flat_map (λ w. map (λ l. (w, l)) (all_but n w)) (candidates n)

-- the sets of candidates below n that contain both
abbrev pub sets_with : ℕ → (ℕ × ℕ) → List ℕ
sets_with n pair = filter (λ rest. has rest pair.0 && has rest pair.1) (range_with_len 0 (2 ^ n))

-- all proper assertions, in the fixed order
abbrev pub assertions : ℕ → List Assertion
assertions n =
    map (λ pair. Neb pair.0 pair.1) (pairs n)
    ++ flat_map (λ pair. map (λ rest. Nen pair.0 pair.1 rest) (sets_with n pair)) (pairs n)
