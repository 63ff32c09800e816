use Rattle.std.proofs.Common.{◌≡◌, ◌≢◌, ℕ, ◌^◌, ◌<◌, ◌≤◌, ◌||◌, ◌==◌, max, false, if◌then◌else◌, [], ◌∷◌, ◌++◌, length, ap, arith, refl, subst, sym, ◌∙◌}
use Rattle.std.specs.BinaryHeap.{heap_items, heap_len}
use Rattle.std.specs.List.{list_any}
use Rattle.std.proofs.lemmas.List.Elements.{All-contains, All-tail}
use Rattle.std.proofs.lemmas.List.Sorted.{All-permutation}
use Rattle.irv_base.specs.Candidates.{has, members}
use Rattle.irv_base.specs.declared.limits.TheConstants.{ROOM}
use Rattle.set_tallies.specs.Bags.{IsOf, Source}
use Rattle.set_search.specs.Waits.{AreAdded, AreBelow}
use Rattle.set_search.specs.declared.waiting.Waiting.{Waiting}
use Rattle.set_search.proofs.Leveling.{Searched, starts, takes, skips, enters, whole, full, never-closed, long-is, shorter, seen-member, seen-out}
use Rattle.set_search.proofs.Mores.{none-has}
use Rattle.set_search.proofs.level.level.Goals as goal

pub loop-next-init : goal.loop-next-init
loop-next-init c = record {
  same = c.put_next.ensures.same;
  heap = c.in_ok-put_next.ensures.heap;
  below = c.in_ok-put_next.ensures.all_below;
  searched = λ records of.
      let n = c.args.tallies.now.bag.n in
      let only-winner = λ (d : ℕ). c.with.ensures.members d ∙ ap (λ b. b || (d == c.args.winner)) (ap (λ s. has s d) c.empty-nobody.ensures ∙ none-has d) in
      let added = subst (λ s. AreAdded n records 0 s c.with.result [] (heap_items c.put_next.new.waiting)) c.empty-nobody.ensures
      (subst (λ xs. AreAdded n records 0 c.empty-nobody.result c.with.result xs (heap_items c.put_next.new.waiting)) c.new-waiting.ensures.items
      (c.in_ok-put_next.ensures.added records of)) in
      subst (λ keys. Searched n c.args.winner records 0 keys (heap_items c.put_next.new.waiting)) (sym c.new-seen.ensures.empty)
      (starts n c.args.winner records c.with.result (heap_items c.put_next.new.waiting) only-winner added);
}

pub returns-then-len-n-clause-level : goal.returns-then-len-n-clause-level
returns-then-len-n-clause-level c = λ records of.
    let n = c.args.tallies.now.bag.n in
    let x = c.in-Some.next in
    let two : 1 < c.args.tallies.now.bag.n = omega (arith, c.candidates-n.ensures.fewest, c.candidates-n.ensures.same) in
    let room : c.args.tallies.now.bag.n ≤ ROOM = omega (arith, c.candidates-n.ensures.room, c.candidates-n.ensures.same) in
    let higher : c.max-level.result ≡ max c.in-Some.next.margin c.loop-next.level = c.max-level.ensures in
    let s = takes n c.args.winner records c.requires two c.loop-next.level c.max-level.result c.loop-next.seen.keys x (heap_items c.loop-next.waiting)
    (heap_items c.take_least.new.waiting) (c.loop-next.invariant.searched records of) c.in-Some.ensures.rest c.in-Some.ensures.least higher in
    whole n c.args.winner records c.args.sets c.max-level.result c.loop-next.seen.keys x (heap_items c.take_least.new.waiting) s (omega (arith, higher))
    (λ t w. let long = long-is n c.args.winner records room c.max-level.result x.set t w in
    omega (arith, long, c.len.ensures, c.if-len-n.true, c.candidates-n.ensures.same))

pub returns-then-len-sets-clause-level : goal.returns-then-len-sets-clause-level
returns-then-len-sets-clause-level c = λ records of.
    let n = c.args.tallies.now.bag.n in
    let x = c.in-Some.next in
    let two : 1 < c.args.tallies.now.bag.n = omega (arith, c.candidates-n.ensures.fewest, c.candidates-n.ensures.same) in
    let room : c.args.tallies.now.bag.n ≤ ROOM = omega (arith, c.candidates-n.ensures.room, c.candidates-n.ensures.same) in
    let higher : c.max-level.result ≡ max c.in-Some.next.margin c.loop-next.level = c.max-level.ensures in
    let part : length (members c.in-Some.next.set) ≢ c.args.tallies.now.bag.n = λ e. c.if-len-n.false (c.len.ensures ∙ e ∙ sym c.candidates-n.ensures.same) in
    let s = takes n c.args.winner records c.requires two c.loop-next.level c.max-level.result c.loop-next.seen.keys x (heap_items c.loop-next.waiting)
    (heap_items c.take_least.new.waiting) (c.loop-next.invariant.searched records of) c.in-Some.ensures.rest c.in-Some.ensures.least higher in
    let len : c.len-then-not-contains.result ≡ length c.loop-next.seen.keys = c.len-then-not-contains.ensures.len in
    let many : c.args.sets ≤ c.len-then-not-contains.result = omega arith in
    full n c.args.winner records c.args.sets c.max-level.result c.loop-next.seen.keys x (heap_items c.take_least.new.waiting) s (omega (arith, higher))
    (seen-out c.loop-next.seen.keys x.set (sym c.contains.ensures ∙ c.if-not-contains.true))
    (shorter n c.args.winner records room c.max-level.result x.set part) (omega (arith, len, many))

pub put_next-requires-then-not-contains-clause-below : goal.put_next-requires-then-not-contains-clause-below
put_next-requires-then-not-contains-clause-below c =
    let n = c.args.tallies.now.bag.n in
    let each = All-permutation (λ (o : Waiting). o.set < 2 ^ n) (heap_items c.loop-next.waiting) (c.in-Some.next ∷ heap_items c.take_least.new.waiting)
    c.in-Some.ensures.rest c.loop-next.invariant.below in
    subst (λ (t : Source). c.in-Some.next.set < 2 ^ t.bag.n) (sym c.loop-next.invariant.same)
    (All-contains (λ (o : Waiting). o.set < 2 ^ n) (c.in-Some.next ∷ heap_items c.take_least.new.waiting) c.in-Some.next each (0, omega arith, refl))

pub put_next-requires-then-not-contains-clause-all_below : goal.put_next-requires-then-not-contains-clause-all_below
put_next-requires-then-not-contains-clause-all_below c =
    let n = c.args.tallies.now.bag.n in
    subst (λ (t : Source). AreBelow t.bag.n (heap_items c.take_least.new.waiting)) (sym c.loop-next.invariant.same)
    (All-tail (λ (o : Waiting). o.set < 2 ^ n) c.in-Some.next (heap_items c.take_least.new.waiting)
    (All-permutation (λ (o : Waiting). o.set < 2 ^ n) (heap_items c.loop-next.waiting) (c.in-Some.next ∷ heap_items c.take_least.new.waiting)
    c.in-Some.ensures.rest c.loop-next.invariant.below))

pub loop-next-preserved-in-Continue-branch-3 : goal.loop-next-preserved-in-Continue-branch-3
loop-next-preserved-in-Continue-branch-3 c = record {
  same = c.put_next-then-not-contains.ensures.same ∙ c.loop-next.invariant.same;
  heap = c.in_ok-put_next-2.ensures.heap;
  below = subst (λ (t : Source). AreBelow t.bag.n (heap_items c.put_next-then-not-contains.new.waiting)) c.loop-next.invariant.same
      c.in_ok-put_next-2.ensures.all_below;
  searched = λ records of.
      let n = c.args.tallies.now.bag.n in
      let x = c.in-Some.next in
      let two : 1 < c.args.tallies.now.bag.n = omega (arith, c.candidates-n.ensures.fewest, c.candidates-n.ensures.same) in
      let room : c.args.tallies.now.bag.n ≤ ROOM = omega (arith, c.candidates-n.ensures.room, c.candidates-n.ensures.same) in
      let higher : c.max-level.result ≡ max c.in-Some.next.margin c.loop-next.level = c.max-level.ensures in
      let part : length (members c.in-Some.next.set) ≢ c.args.tallies.now.bag.n = λ e. c.if-len-n.false (c.len.ensures ∙ e ∙ sym c.candidates-n.ensures.same) in
      let s = takes n c.args.winner records c.requires two c.loop-next.level c.max-level.result c.loop-next.seen.keys x (heap_items c.loop-next.waiting)
      (heap_items c.take_least.new.waiting) (c.loop-next.invariant.searched records of) c.in-Some.ensures.rest c.in-Some.ensures.least higher in
      let free : list_any (λ other. c.in-Some.next.set == other) c.loop-next.seen.keys ≡ false = sym c.contains.ensures ∙ c.if-not-contains.true in
      let keys : c.insert.new.self.keys ≡
      (if list_any (λ other. c.in-Some.next.set == other) c.loop-next.seen.keys then c.loop-next.seen.keys else c.loop-next.seen.keys
      ++ c.in-Some.next.set ∷ []) = c.in_ok-insert.ensures.keys in
      let keys' = keys ∙ ap (λ b. if b then c.loop-next.seen.keys else c.loop-next.seen.keys ++ c.in-Some.next.set ∷ []) free in
      let added = subst (λ (t : Source). AreAdded t.bag.n records c.max-level.result x.set x.set (heap_items c.take_least.new.waiting)
      (heap_items c.put_next-then-not-contains.new.waiting))
      c.loop-next.invariant.same (c.in_ok-put_next-2.ensures.added records (subst (λ (t : Source). IsOf t.bag records) (sym c.loop-next.invariant.same) of)) in
      subst (λ ks. Searched n c.args.winner records c.max-level.result ks (heap_items c.put_next-then-not-contains.new.waiting)) (sym keys')
      (enters n c.args.winner records c.max-level.result c.loop-next.seen.keys x (heap_items c.take_least.new.waiting)
      (heap_items c.put_next-then-not-contains.new.waiting) s (omega (arith, higher)) (seen-out c.loop-next.seen.keys x.set free)
      (shorter n c.args.winner records room c.max-level.result x.set part) added);
}

pub loop-next-preserved : goal.loop-next-preserved
loop-next-preserved c = record {
  same = c.loop-next.invariant.same;
  heap = c.take_least.ensures.heap;
  below = All-tail (λ (o : Waiting). o.set < 2 ^ c.args.tallies.now.bag.n) c.in-Some.next (heap_items c.take_least.new.waiting)
      (All-permutation (λ (o : Waiting). o.set < 2 ^ c.args.tallies.now.bag.n) (heap_items c.loop-next.waiting)
      (c.in-Some.next ∷ heap_items c.take_least.new.waiting) c.in-Some.ensures.rest c.loop-next.invariant.below);
  searched = λ records of.
      let n = c.args.tallies.now.bag.n in
      let x = c.in-Some.next in
      let two : 1 < c.args.tallies.now.bag.n = omega (arith, c.candidates-n.ensures.fewest, c.candidates-n.ensures.same) in
      let higher : c.max-level.result ≡ max c.in-Some.next.margin c.loop-next.level = c.max-level.ensures in
      let s = takes n c.args.winner records c.requires two c.loop-next.level c.max-level.result c.loop-next.seen.keys x (heap_items c.loop-next.waiting)
      (heap_items c.take_least.new.waiting) (c.loop-next.invariant.searched records of) c.in-Some.ensures.rest c.in-Some.ensures.least higher in
      skips n c.args.winner records c.max-level.result c.loop-next.seen.keys x (heap_items c.take_least.new.waiting) s
      (seen-member c.loop-next.seen.keys x.set (sym c.contains.ensures ∙ c.if-not-contains.false));
}

pub returns-clause-level : goal.returns-clause-level
returns-clause-level c = λ records of.
    let n = c.args.tallies.now.bag.n in
    let two : 1 < c.args.tallies.now.bag.n = omega (arith, c.candidates-n.ensures.fewest, c.candidates-n.ensures.same) in
    let none : heap_len c.loop-next.waiting ≡ 0 = c.in_default.ensures.none in
    let long = c.loop-next.waiting.data.ok.0 in
    let empty : length (heap_items c.loop-next.waiting) ≡ 0 = omega (arith, none, long) in
    absurd (never-closed n c.args.winner records c.requires two c.loop-next.level c.loop-next.seen.keys (heap_items c.loop-next.waiting)
    (c.loop-next.invariant.searched records of) empty)
