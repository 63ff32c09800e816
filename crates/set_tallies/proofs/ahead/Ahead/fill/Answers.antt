use Rattle.std.proofs.Common.{rules, ◌≡◌, ◌++◌, ◌∷◌, [], ◌^◌, length, map, All, true, sym, ap, ap₂, subst₂, pow_pos, arith, ◌∙◌}
use Rattle.std.specs.Result.{is_ok}
use Rattle.std.proofs.lemmas.List.{map-append}
use Rattle.std.proofs.lemmas.List.FromFn.{length-map-range_with_len, map-range_with_len_more}
use Rattle.irv_base.specs.Candidates.{candidates}
use Rattle.set_tallies.specs.Bags.{IsTable, votes_at, everyone, winners_in}
use Rattle.set_tallies.proofs.Filled.{filled-from, table-of}
use Rattle.set_tallies.proofs.ahead.Ahead.fill.Goals as goal

pub votes-requires-clause-below : goal.votes-requires-clause-below
votes-requires-clause-below c =
    let n = c.candidates-n.ensures.same in
    omega (arith, c.everyone.ensures, ap (λ k. 2 ^ k) n, pow_pos c.candidates-n.result)

pub loop-c-preserved : goal.loop-c-preserved
loop-c-preserved c =
    let good : is_ok c.push.result ≡ true = search rules in
    let items = rw good at c.push.ensures.items in
    let good' : is_ok c.push-in-loop-c.result ≡ true = search rules in
    let items' = rw good' at c.push-in-loop-c.ensures.items in
    let bag = c.args.bag.now in
    record {
      firsts = items
          ∙ ap₂ (λ xs x. xs ++ x ∷ []) c.loop-c.invariant.firsts (c.votes.ensures
          ∙ ap (λ s. votes_at bag s c.loop-c.c) (c.everyone.ensures ∙ ap everyone c.candidates-n.ensures.same))
          ∙ sym (map-range_with_len_more (λ w. votes_at bag (everyone bag.n) w) 0 c.loop-c.c c.loop-c.c (omega arith));
      ahead = ap (map (λ v. v.items)) items'
          ∙ map-append (λ v. v.items) c.loop-c.ahead.items (c.in_ok-row.field-0 ∷ [])
          ∙ ap₂ (λ xs x. xs ++ x ∷ []) c.loop-c.invariant.ahead c.in_ok-row.ensures
          ∙ sym (map-range_with_len_more (λ d. map (λ w. votes_at bag (2 ^ w) d) (candidates bag.n)) 0 c.loop-c.c c.loop-c.c (omega arith));
    }

pub all_winners-requires-clause-each : goal.all_winners-requires-clause-each
all_winners-requires-clause-each c =
    let whole : c.loop-c.c ≡ c.candidates-n.result = omega (arith, c.loop-c-test.false, c.loop-c.auto.c-end) in
    let table : IsTable (record { n = c.candidates-n.result; firsts = c.loop-c.firsts.items; ahead = map (λ v. v.items) c.loop-c.ahead.items }) =
    table-of c.args.bag.now _ (omega (arith, c.candidates-n.ensures.room)) (record {
      same = c.candidates-n.ensures.same;
      firsts = rw whole at c.loop-c.invariant.firsts;
      ahead = c.loop-c.invariant.ahead ∙ ap₂ (λ m k. map (λ d. map (λ w. votes_at c.args.bag.now (2 ^ w) d) (candidates m)) (candidates k))
          (sym c.candidates-n.ensures.same) whole;
    }) in
    let long : length c.deref.result.now ≡ c.candidates-n.result = ap length c.deref.ensures.value ∙ table.long in
    subst₂ (λ k rows. All (λ row. length row ≡ k) (map (λ v. v.items) rows)) (sym long) (sym c.deref-2.ensures.value) table.square

pub all_winners-requires-clause-room : goal.all_winners-requires-clause-room
all_winners-requires-clause-room c =
    let whole : c.loop-c.c ≡ c.candidates-n.result = omega (arith, c.loop-c-test.false, c.loop-c.auto.c-end) in
    let bag = c.args.bag.now in
    let long : length c.deref.result.now ≡ c.loop-c.c = ap length (c.deref.ensures.value ∙ c.loop-c.invariant.firsts)
    ∙ length-map-range_with_len (λ w. votes_at bag (everyone bag.n) w) 0 c.loop-c.c in
    omega (arith, long, whole, c.candidates-n.ensures.room)

pub invariant_of-result : goal.invariant_of-result
invariant_of-result c =
    let whole : c.loop-c.c ≡ c.candidates-n.result = omega (arith, c.loop-c-test.false, c.loop-c.auto.c-end) in
    record {
      table = table-of c.args.bag.now _ (omega (arith, c.candidates-n.ensures.room)) (record {
        same = c.candidates-n.ensures.same;
        firsts = rw whole at c.loop-c.invariant.firsts;
        ahead = c.loop-c.invariant.ahead ∙ ap₂ (λ m k. map (λ d. map (λ w. votes_at c.args.bag.now (2 ^ w) d) (candidates m)) (candidates k))
            (sym c.candidates-n.ensures.same) whole;
      });
      each = c.in_ok-neb_winners.ensures
          ∙ ap₂ (λ firsts rows. map (winners_in firsts) (map (λ v. v.items) rows)) c.deref.ensures.value c.deref-2.ensures.value;
    }

pub returns : goal.returns
returns c =
    let whole : c.loop-c.c ≡ c.candidates-n.result = omega (arith, c.loop-c-test.false, c.loop-c.auto.c-end) in
    filled-from c.args.bag.now _ (record {
      same = c.candidates-n.ensures.same;
      firsts = rw whole at c.loop-c.invariant.firsts;
      ahead = c.loop-c.invariant.ahead ∙ ap₂ (λ m k. map (λ d. map (λ w. votes_at c.args.bag.now (2 ^ w) d) (candidates m)) (candidates k))
          (sym c.candidates-n.ensures.same) whole;
    })
