use Rattle.std.proofs.Common.{◌≡◌, ◌+◌, ◌++◌, ◌≤◌, length, sym, ap, subst, arith, length-append, ◌∙◌}
use Rattle.irv_base.specs.declared.limits.TheConstants.{MOST_RECORDS}
use Rattle.set_tallies.specs.Countings.{AreCounted, last_of, rankings_by, seen_after}
use Rattle.set_tallies.specs.Sums.{IsCountOf}
use Rattle.set_tallies.proofs.Countings.{appended, last-none, last-some}
use Rattle.set_tallies.proofs.Sharing.{both-fit}
use Rattle.set_tallies.proofs.Tables.{all-written}
use Rattle.set_tallies.proofs.counting.Counting.append.Goals as goal
use Rattle.set_tallies.proofs.counting.Counting.append.Goals.{After-deref, then-others-eq0, else-others-eq0}

-- both have the same number of candidates
same : (c : After-deref) → c.others.inside.n ≡ c.self.inside.n
same c = ap (λ r. r.n) c.others.view_is ∙ c.requires ∙ sym (ap (λ r. r.n) c.self.view_is)

its : (c : After-deref) → AreCounted c.self.inside.n c.others.inside.records c.others.inside.seen c.others.inside.table.items (rankings_by c.others.inside.course.value)
its c = subst (λ n. AreCounted n c.others.inside.records c.others.inside.seen c.others.inside.table.items (rankings_by c.others.inside.course.value)) (same c)
    c.others.invariant

fits : (c : After-deref) → c.self.inside.records + c.others.inside.records ≤ MOST_RECORDS
fits c = omega (arith, c.if-others-self.false, c.self.invariant.most)

last : (c : After-deref) → c.if-others-eq0.self ≡ seen_after 0 (last_of (rankings_by c.self.inside.course.value ++ rankings_by c.others.inside.course.value))
last c =
    let own = rankings_by c.self.inside.course.value in
    let behind = rankings_by c.others.inside.course.value in
    elim c.if-others-eq0.branch [
      | then-others-eq0 w ↦
          w.self-is ∙ c.self.invariant.last
          ∙ ap (seen_after 0) (sym (last-none own behind (sym c.others.invariant.all ∙ w.if-others-eq0.true)))
      | else-others-eq0 w ↦
          w.self-is ∙ c.others.invariant.last
          ∙ ap (seen_after 0) (sym (last-some own behind (λ none. w.if-others-eq0.false (c.others.invariant.all ∙ none))))
    ]

pub add_table-requires-clause-fit : goal.add_table-requires-clause-fit
add_table-requires-clause-fit c = λ i l.
    let own = rankings_by c.self.inside.course.value in
    let behind = rankings_by c.others.inside.course.value in
    let was : IsCountOf c.self.inside.n own c.deref_mut.result.now =
    subst (IsCountOf c.self.inside.n own) (sym c.deref_mut.ensures.value) c.self.invariant.counts in
    let they : IsCountOf c.self.inside.n behind c.deref.result.now =
    subst (IsCountOf c.self.inside.n behind) (sym c.deref.ensures.value) (its c).counts in
    omega (
      arith,
      both-fit c.self.inside.n own behind c.deref_mut.result.now c.deref.result.now was they i l,
      length-append own behind,
      fits c,
      c.self.invariant.all,
      c.others.invariant.all,
    )

pub invariant_of-self : goal.invariant_of-self
invariant_of-self c =
    let at = (goal.at.invariant_of-self c).After-deref in
    let own = c.self.inside in
    let other = c.others.inside in
    let new = c.add_table.new.table in
    let both = appended own.n own.records own.seen other.records other.seen own.table.items other.table.items (rankings_by own.course.value)
    (rankings_by other.course.value) c.self.invariant (its at) c.if-others-eq0.self (last at) (fits at) in
    let now : AreCounted own.n (own.records + other.records) c.if-others-eq0.self new (rankings_by own.course.value ++ rankings_by other.course.value) =
    rw (c.add_table.ensures, c.deref_mut.ensures.value, c.deref.ensures.value) both in
    let long : length new ≡ own.table.len = now.counts.long ∙ sym c.self.invariant.counts.long ∙ sym own.table.ok.0 in
    rw (all-written own.table.len new own.table.items long)
    (subst (AreCounted own.n (own.records + other.records) c.if-others-eq0.self new) (sym c.append.ensures) now)
