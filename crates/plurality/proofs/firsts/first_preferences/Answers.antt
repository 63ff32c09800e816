use Rattle.std.proofs.Common.{◌≡◌, ◌∙◌, ◌+◌, ◌<◌, ◌++◌, ℕ, List, Some, cond, length, map, take, drop, get_or, ap, arith, subst, sym}
use Rattle.std.specs.Prelude.{All}
use Rattle.std.specs.List.{slice_get}
use Rattle.std.proofs.lemmas.List.{ext_get_or, get_or_default, length-take, take_all, take_at}
use Rattle.std.proofs.lemmas.List.FromFn.{get_or-map-range_with_len, length-map-range_with_len}
use Rattle.std.proofs.lemmas.List.Sums.{count_by-le-length, sum_by_more}
use Rattle.std.proofs.lemmas.Option.{get_or_from_slice_get, slice_get_within}
use Rattle.irv_base.specs.Candidates.{candidates}
use Rattle.irv_base.specs.Records.{is_first}
use Rattle.irv_base.proofs.Between.{all-at}
use Rattle.plurality.specs.Plurality.{first_preferences}
use Rattle.plurality.proofs.firsts.first_preferences.Goals as goal

one-more : (records : List (List ℕ)) (i c : ℕ) (ranking : List ℕ) → slice_get records i ≡ Some ranking →
    first_preferences (take (i + 1) records) c ≡ first_preferences (take i records) c + cond (is_first ranking c) 1 0
one-more records i c ranking there =
    sum_by_more (λ r. cond (is_first r c) 1 0) records i ranking (slice_get_within records i ranking there)
    ∙ ap (λ r. first_preferences (take i records) c + cond (is_first r c) 1 0) (get_or_from_slice_get records i ranking ranking there)

pub count_first-requires-clause-below : goal.count_first-requires-clause-below
count_first-requires-clause-below c =
    let long : c.args.n ≡ length c.deref_mut.result.now = sym (ap length c.deref_mut.ensures.value ∙ c.loop-i.invariant.long) in
    subst (λ n. All (λ d. d < n) c.at.result.now) long
    (all-at (All (λ d. d < c.args.n)) c.args.rankings.now c.loop-i.i c.at.result.now c.at.ensures.there c.requires.below)

pub count_first-requires-clause-fit : goal.count_first-requires-clause-fit
count_first-requires-clause-fit c = λ k d below.
    let so-far = take c.loop-i.i c.args.rankings.now in
    let value = c.deref_mut.ensures.value in
    let long = ap length value in
    let at = c.loop-i.invariant.each k (omega (arith, long, c.loop-i.invariant.long)) in
    let same = get_or_default c.deref_mut.result.now k d 0 below in
    let same' = ap (λ xs. get_or xs k 0) value in
    let few = count_by-le-length (λ ranking. is_first ranking k) so-far in
    let passed = length-take c.loop-i.i c.args.rankings.now in
    omega (arith, c.requires.most, c.loop-i-test.true, c.len-i-end.ensures)

pub loop-i-preserved : goal.loop-i-preserved
loop-i-preserved c =
    let firsts = c.loop-i.firsts in
    let new = c.count_first.new.firsts in
    let value = c.deref_mut.ensures.value in
    let long : length new ≡ firsts.len = c.count_first.ensures.long ∙ ap length value ∙ sym firsts.ok.0 in
    rw (take_at new (drop (length new) firsts.items) firsts.len long) (record {
      long = c.count_first.ensures.long ∙ ap length value ∙ c.loop-i.invariant.long;
      each = λ k below. omega (
        arith,
        c.count_first.ensures.more k,
        ap (λ xs. get_or xs k 0) value,
        c.loop-i.invariant.each k below,
        one-more c.args.rankings.now c.loop-i.i k c.at.result.now c.at.ensures.there,
      );
    })

pub returns : goal.returns
returns c =
    let rankings = c.args.rankings.now in
    let all : take c.loop-i.i rankings ≡ rankings = take_all c.loop-i.i rankings (omega (arith, c.loop-i-test.false, c.len-i-end.ensures)) in
    let each = c.loop-i.invariant.each in
    let long = c.loop-i.invariant.long in
    ext_get_or 0 c.loop-i.firsts.items (map (first_preferences rankings) (candidates c.args.n))
    (long ∙ sym (length-map-range_with_len (first_preferences rankings) 0 c.args.n))
    (λ k below.
    each k (omega arith) ∙ ap (λ rs. first_preferences rs k) all
    ∙ sym (get_or-map-range_with_len (first_preferences rankings) 0 c.args.n k k 0 (omega arith) (omega arith)))
