use Rattle.std.proofs.Common.{◌≡◌, ◌==◌, ◌∷◌, [], ℕ, Bool, true, false, filter, take, length, slice_index, sym, ap, arith, eq-eqb, ne_eqb, ◌∙◌}
use Rattle.std.proofs.Math.Seq.{take-length}
use Rattle.irv_base.specs.Candidates.{members, set_of}
use Rattle.irv_tabulator.proofs.Leasts.{got-has, sharing-yes, sharing-no, new-share, set-push}
use Rattle.irv_tabulator.proofs.least.sharing.Goals as goal
use Rattle.irv_tabulator.proofs.least.sharing.Goals.{then-votes-tally, else-votes-tally}

pub votes-requires : goal.votes-requires
votes-requires c = c.requires c.nth-c.result (got-has c.args.remaining c.loop-i.i c.nth-c.result c.nth-c.ensures)

pub loop-i-preserved : goal.loop-i-preserved
loop-i-preserved c =
    let shares : ℕ → Bool = λ d. slice_index c.args.row.now d == c.args.tally in
    let xs = members c.args.remaining in
    let i = c.loop-i.i in
    let d = c.nth-c.result in
    elim c.if-votes-tally.branch [
      | then-votes-tally w ↦
          let yes : shares d ≡ true = eq-eqb (slice_index c.args.row.now d) c.args.tally (sym c.votes.ensures ∙ w.if-votes-tally.true) in
          w.shared-is ∙ w.with-shared.ensures.number (new-share shares c.args.remaining i d c.loop-i.shared c.nth-c.ensures c.loop-i.invariant)
          ∙ omega (arith, c.loop-i.invariant, set-push (filter shares (take i xs)) d) ∙ ap set_of (sym (sharing-yes shares xs i d c.nth-c.ensures yes))
      | else-votes-tally w ↦
          let no : shares d ≡ false = ne_eqb (slice_index c.args.row.now d) c.args.tally (λ e. w.if-votes-tally.false (c.votes.ensures ∙ e)) in
          w.shared-is ∙ c.loop-i.invariant ∙ ap set_of (sym (sharing-no shares xs i d c.nth-c.ensures no))
    ]

pub returns : goal.returns
returns c =
    let shares : ℕ → Bool = λ d. slice_index c.args.row.now d == c.args.tally in
    let all : c.loop-i.i ≡ length (members c.args.remaining) = omega (arith, c.loop-i-test.false, c.loop-i.auto.i-end, c.len-i-end.ensures) in
    c.loop-i.invariant ∙ ap (λ k. set_of (filter shares (take k (members c.args.remaining)))) all
    ∙ ap (λ xs. set_of (filter shares xs)) (take-length (members c.args.remaining))
