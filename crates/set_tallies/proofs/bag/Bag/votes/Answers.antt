use Rattle.std.proofs.Common.{◌≡◌, ◌<◌, ◌≤◌, ◌^◌, [], length, map, get_or, refl, sym, ap, ◌*◌, arith, ◌∙◌}
use Rattle.std.proofs.lemmas.List.{length-map}
use Rattle.set_tallies.specs.Bags.{AreEntries, missing, total, votes_at}
use Rattle.set_tallies.specs.Sums.{IsSummed, votes_in}
use Rattle.set_tallies.proofs.Filled.{at-place, own-entries, votes-read}
use Rattle.set_tallies.proofs.bag.Bag.votes.Goals as goal

pub at-requires-clause-table : goal.at-requires-clause-table
at-requires-clause-table c =
    let held : IsSummed c.self.inside.n c.in-Summed.sums = rw c.in-Summed.is at c.self.invariant.1 in
    record { same = refl; few = omega (arith, held.same, held.few); long = held.long ∙ ap (λ n. n * 2 ^ n) (sym held.same) }

pub at-requires-clause-candidate : goal.at-requires-clause-candidate
at-requires-clause-candidate c =
    let held : IsSummed c.self.inside.n c.in-Summed.sums = rw c.in-Summed.is at c.self.invariant.1 in
    omega (arith, held.same, ap (λ b. b.n) c.self.view_is, c.requires.candidate)

pub at-requires-clause-below : goal.at-requires-clause-below
at-requires-clause-below c =
    let held : IsSummed c.self.inside.n c.in-Summed.sums = rw c.in-Summed.is at c.self.invariant.1 in
    omega (arith, ap (λ n. 2 ^ n) (held.same ∙ ap (λ b. b.n) c.self.view_is), c.requires.below)

pub missing-requires : goal.missing-requires
missing-requires c =
    let held : AreEntries c.self.inside.n c.self.inside.records (map (λ v. v.items) c.in-Listed.lists.items) = rw c.in-Listed.is at c.self.invariant.1 in
    let lists = c.in-Listed.lists.items in
    let within : c.index.result < length lists = omega (
      arith,
      c.index.ensures.same,
      c.requires.candidate,
      ap (λ b. b.n) c.self.view_is,
      held.one_each,
      length-map lists (λ v. v.items),
    ) in
    let few : total c.index-in-Listed.result.now.items ≤ c.self.inside.records =
    at-place (λ es. total es ≤ c.self.inside.records) (λ v. v.items) lists c.index.result c.index-in-Listed.result.now within held.few
    c.index-in-Listed.ensures in
    omega (arith, few, c.self.invariant.0.most)

pub returns-in-Summed : goal.returns-in-Summed
returns-in-Summed c =
    let n = ap (λ b. b.n) c.self.view_is in
    c.at.ensures ∙ ap (λ v. votes_in v c.args.set c.args.c) (sym c.in-Summed.is)
    ∙ sym (votes-read c.self.inside.n (votes_in c.self.inside.votes) c.args.set c.args.c (rw n c.requires.below) (rw n c.requires.candidate))
    ∙ ap (λ b. votes_at b c.args.set c.args.c) c.self.view_is

pub returns-in-Listed : goal.returns-in-Listed
returns-in-Listed c =
    let n = ap (λ b. b.n) c.self.view_is in
    let held : AreEntries c.self.inside.n c.self.inside.records (map (λ v. v.items) c.in-Listed.lists.items) = rw c.in-Listed.is at c.self.invariant.1 in
    let lists = c.in-Listed.lists.items in
    let within : c.index.result < length lists = omega (arith, c.index.ensures.same, c.requires.candidate, n, held.one_each, length-map lists (λ v. v.items)) in
    let own : get_or (map (λ v. v.items) lists) c.args.c [] ≡ c.index-in-Listed.result.now.items =
    ap (λ k. get_or (map (λ v. v.items) lists) k []) (sym c.index.ensures.same)
    ∙ own-entries (λ v. v.items) lists c.index.result c.index-in-Listed.result.now within c.index-in-Listed.ensures in
    c.missing.ensures ∙ ap (missing c.args.set) (sym own) ∙ ap (λ v. votes_in v c.args.set c.args.c) (sym c.in-Listed.is)
    ∙ sym (votes-read c.self.inside.n (votes_in c.self.inside.votes) c.args.set c.args.c (rw n c.requires.below) (rw n c.requires.candidate))
    ∙ ap (λ b. votes_at b c.args.set c.args.c) c.self.view_is

pub returns-in-Halved : goal.returns-in-Halved
returns-in-Halved c =
    let n = ap (λ b. b.n) c.self.view_is in
    c.at-in-Halved.ensures ∙ ap (λ v. votes_in v c.args.set c.args.c) (sym c.in-Halved.is)
    ∙ sym (votes-read c.self.inside.n (votes_in c.self.inside.votes) c.args.set c.args.c (rw n c.requires.below) (rw n c.requires.candidate))
    ∙ ap (λ b. votes_at b c.args.set c.args.c) c.self.view_is
