-- What the code of a check is given by the checker.
use Rattle.std.specs.Prelude.{◌<◌, ℕ, IsTrue, ⊤}
use Rattle.irv_base.specs.Orders.{is_order}
use Rattle.assertions.specs.Assertions.{is_proper}
use Rattle.cover_checker.specs.declared.checked.Checked.{Checked}
use Rattle.cover_checker.specs.declared.checked.Checked.TheVariants.{OtherContest, OtherWinner, OtherMargin, Stands, NotLeast, NotAlternative, Harder, OtherDraws, Accepted}

-- the answer names a candidate, an order or an assertion of n candidates
abbrev pub IsAmong : ℕ → Checked → Type 0
IsAmong n OtherContest = ⊤
IsAmong n (OtherWinner winner) = winner < n
IsAmong n (OtherMargin index found) = ⊤
IsAmong n (Stands order) = IsTrue (is_order n order)
IsAmong n (NotLeast found) = ⊤
IsAmong n NotAlternative = ⊤
IsAmong n (Harder assertion margin) = IsTrue (is_proper n assertion)
IsAmong n (OtherDraws index found) = ⊤
IsAmong n Accepted = ⊤
