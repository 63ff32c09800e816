use Rattle.std.proofs.Common.{Contains, subst, sym}
use Rattle.std.proofs.lemmas.List.Filters.{dedup_is}
use Rattle.std.proofs.lemmas.List.Kept.{Contains-dedup, Contains-from_dedup, IsStrictlySortedBy-dedup}
use Rattle.std.proofs.lemmas.List.Sorted.{Contains-permutation, IsPermutation-sym}
use Rattle.assertions.specs.Compared.{fixed_total, matches_fixed}
use Rattle.adoption.proofs.Once.{equality, once-is, same-from_test}
use Rattle.adoption.proofs.each_once.each_once.Goals as goal

pub returns : goal.returns
returns c = λ n proper.
    let is = dedup_is _ _ _ c.dedup.ensures.filtered in
    let moved = c.sort_unstable.ensures.permutation in
    let copied = c.in_ok-kept.ensures.items_if_clones_equal (λ a b h. h) in
    once-is n c.args.list.now c.dedup.new.self.items proper
    (rw is (IsStrictlySortedBy-dedup fixed_total matches_fixed _ c.sort_unstable.ensures.sorted))
    (λ a h. subst (λ list. Contains list a) copied (Contains-permutation _ _ a (IsPermutation-sym _ _ moved) (Contains-from_dedup _ _ a (rw is at h))))
    (λ a h. rw is (Contains-dedup equality same-from_test _ a (Contains-permutation _ _ a moved (subst (λ list. Contains list a) (sym copied) h))))
