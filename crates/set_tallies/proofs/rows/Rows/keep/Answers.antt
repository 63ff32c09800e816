use Rattle.std.proofs.Common.{◌≡◌, ℕ, true, IfSome, ap, sym, subst, arith, ◌∙◌}
use Rattle.std.proofs.lemmas.Bool.Decides.{nat_tests}
use Rattle.std.specs.BTreeMap.{get, is_at}
use Rattle.std.specs.Ordering.{is_eq, nat_cmp}
use Rattle.std.specs.Map.{lookup}
use Rattle.set_tallies.specs.Rows.{AreRows, votes_of}
use Rattle.set_tallies.proofs.Filled.{one-more}
use Rattle.set_tallies.proofs.rows.Rows.keep.Goals as goal
use Rattle.set_tallies.proofs.rows.Rows.keep.Goals.{then-len-ge-MOST_ROWS, else-len-ge-MOST_ROWS}

equal : (kept set : ℕ) → is_eq (nat_cmp kept set) ≡ true → kept ≡ set
equal kept set h = grind (arith, nat_tests)

pub returns-clause-rows : goal.returns-clause-rows
returns-clause-rows c = λ bag h is set.
    let old : AreRows bag c.if-len-ge-MOST_ROWS.self = elim c.if-len-ge-MOST_ROWS.branch [
      | then-len-ge-MOST_ROWS w ↦ λ other.
          subst (λ es. IfSome (lookup (is_at (nat_cmp other)) es) (λ votes. votes.items ≡ votes_of bag other)) (sym (ap (λ m. m.by_set.entries) w.self-is ∙ w.clear.ensures.empty)) tt
      | else-len-ge-MOST_ROWS w ↦ subst (AreRows bag) (sym w.self-is) h
    ] in
    subst (λ o. IfSome o (λ votes. votes.items ≡ votes_of bag set)) (sym (c.in_ok-insert.ensures.updates.0 set))
    (one-more (λ votes. votes.items ≡ votes_of bag set) (is_at (nat_cmp c.args.set) set) c.args.votes (get nat_cmp c.if-len-ge-MOST_ROWS.self.by_set set)
    (λ t. is ∙ ap (votes_of bag) (equal c.args.set set t)) (old set))
