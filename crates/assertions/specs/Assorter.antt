-- SHANGRLA's assorters (section 3.2), doubled so that their values are 0, 1 or 2.
use Rattle.std.specs.Prelude.{ℕ, List, if◌then◌else◌}
use Rattle.irv_base.specs.Records.{top, is_some_of, is_first, is_ahead}
use Rattle.assertions.specs.declared.assertion.Assertion.{Assertion}
use Rattle.assertions.specs.declared.assertion.Assertion.TheVariants.{Neb, Nen}

-- 2 for a ballot that counts for the winner, 0 for one that counts for the loser, and 1 for any other ballot
abbrev pub assorter_value : Assertion → List ℕ → ℕ
assorter_value (Neb w l) ranking =
    if is_first ranking w then 2 else (if is_ahead ranking l w then 0 else 1)
assorter_value (Nen w l rest) ranking =
    if is_some_of (top ranking rest) w then 2
    else (if is_some_of (top ranking rest) l then 0 else 1)
