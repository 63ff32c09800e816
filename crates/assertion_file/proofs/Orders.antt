-- An order of n candidates has candidates below n.
use Rattle.std.proofs.Common.{◌≡◌, ℕ, zero, suc, ◌<◌, true, List, [], ◌∷◌, length, get_or, All, arith}
use Rattle.irv_base.specs.Orders.{is_order}
use Rattle.irv_base.proofs.Members.{Member, here, there}
use Rattle.irv_base.proofs.Orders.{order_facts}

pub member-get_or : {X : Type 0} (xs : List X) (i : ℕ) (d : X) → i < length xs → Member (get_or xs i d) xs
member-get_or [] i d within = absurd (omega arith)
member-get_or (x ∷ xs) zero d within = here
member-get_or (x ∷ xs) (suc i) d within = there (member-get_or xs i d (omega arith))

pub All-order : (n : ℕ) (order : List ℕ) → is_order n order ≡ true → All (λ c. c < n) order
All-order n order h = λ i d within. (order_facts n order h).below (get_or order i d) (member-get_or order i d within)
