-- An order as a suffix that grows from its last candidate.
use Rattle.std.proofs.Common.{◌≡◌, ℕ, ◌+◌, ◌-◌, ◌<◌, ◌≤◌, true, List, [], ◌∷◌, length, drop, get_or, sym, ap, subst, arith, ◌∙◌}
use Rattle.std.proofs.Math.Seq.{drop-length}
use Rattle.std.proofs.lemmas.List.{drop_more}
use Rattle.irv_base.specs.Orders.{is_order}
use Rattle.irv_base.proofs.Orders.{order_facts}
use Rattle.assertions.specs.Suffixes.{is_suffix}
use Rattle.assertions.proofs.Endings.{Suffix}
use Rattle.assertions.proofs.Enumerated.{suffix_test}
use Rattle.suffix_tree.proofs.Tails.{suffix-all}

pub order-suffix : (n : ℕ) (order : List ℕ) → is_order n order ≡ true → is_suffix n order ≡ true
order-suffix n order h = let o = order_facts n order h in let s : Suffix n order = record { apart = o.apart; below = o.below } in suffix_test s
