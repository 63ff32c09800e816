-- The winner of a tabulation is a candidate.
use Rattle.std.proofs.Common.{ℕ, ◌<◌, List, subst, sym}
use Rattle.irv_base.proofs.Members as members
use Rattle.irv_base.proofs.Orders.{order_facts}
use Rattle.irv_tabulator.specs.declared.tabulated.Tabulated.{Tabulated}
use Rattle.irv_tabulator.specs.Results.{IsTabulation}

pub winner-below : (n : ℕ) (records : List (List ℕ)) (t : Tabulated) → IsTabulation n records t → t.winner < n
winner-below n records t h =
    let (before, e) = h.winner in
    (order_facts n t.order h.order).below t.winner (subst (members.Member t.winner) (sym e) (members.member-append_right before members.here))
