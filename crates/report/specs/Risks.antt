-- What is printed about an audit: each claim's risk, its counts, and whether it is confirmed; and whether the audit is signed off.
use Rattle.std.specs.Prelude.{ℕ, ◌-◌, ◌/◌, ◌%◌, Bool, true, false, List, ◌++◌, length, replicate, codes}
use Rattle.std.specs.Fmt.{decimal}
use Rattle.km_risk.specs.declared.limits.TheConstants.{ONE}
use Rattle.km_risk.specs.declared.draws.Counts.{Counts}

abbrev pub zero_digit : ℕ
zero_digit = 0x30

-- a number with this many digits, with leading zeros
abbrev pub in_digits : ℕ → ℕ → List ℕ
in_digits digits n = replicate (digits - length (decimal n)) zero_digit ++ decimal n

-- the units of a risk divided by the units of one, with 18 digits after the point
abbrev pub risk_text : ℕ → List ℕ
risk_text units = decimal (units / ONE) ++ codes "." ++ in_digits 18 (units % ONE)

abbrev pub counts_text : Counts → List ℕ
counts_text counts =
    decimal counts.n0 ++ codes " " ++ decimal counts.n1 ++ codes " " ++ decimal counts.n2
    ++ codes " " ++ decimal counts.n3 ++ codes " " ++ decimal counts.n4

abbrev pub state_text : Bool → List ℕ
state_text true = codes "confirmed"
state_text false = codes "unconfirmed"

-- the end of a claim's line
abbrev pub state_end : Bool → List ℕ
state_end confirmed = codes " " ++ state_text confirmed ++ codes "\n"

abbrev pub yes_or_no : Bool → List ℕ
yes_or_no true = codes "yes"
yes_or_no false = codes "no"

-- the line that says whether an audit is done
abbrev pub signed_off_line : Bool → List ℕ
signed_off_line signed_off = codes "signed off " ++ yes_or_no signed_off ++ codes "\n"
