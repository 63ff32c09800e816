use Rattle.std.proofs.Common.{rules, ◌≡◌, ◌≤◌, ◌∷◌, ◌++◌, [], List, Vec, Global, map, true, sym, ap, subst, append_assoc, ◌∙◌}
use Rattle.std.specs.Result.{is_ok}
use Rattle.std.specs.Vec.Iter.{into_iter_items}
use Rattle.std.proofs.lemmas.List.{map-append}
use Rattle.irv_base.specs.declared.limits.TheConstants.{MOST_RECORDS}
use Rattle.set_tallies.specs.Bags.{total}
use Rattle.set_tallies.specs.Befores.{AllSayTheSame}
use Rattle.set_tallies.specs.declared.entry.Entry.{Entry}
use Rattle.set_tallies.proofs.Noted.{next-few, joined-push}
use Rattle.set_tallies.proofs.count.all_joined.Goals as goal
use Rattle.set_tallies.proofs.count.all_joined.Goals.{In-Some}

-- the lists that were joined, and those still to come
lists-are : (c : In-Some) → c.args.noted.items ≡ c.loop-entries.yielded ++ c.in-Some.entries ∷ into_iter_items c.next.new.self
lists-are c =
    sym c.into_iter-entries-iterator.ensures.into_iter_gives.0 ∙ c.loop-entries.invariant.whole
    ∙ ap (λ (vs : List (Vec Entry Global)). c.loop-entries.yielded ++ vs) c.in-Some.ensures.steps.0

pub joined-requires : goal.joined-requires
joined-requires c =
    next-few (λ entries. total entries ≤ MOST_RECORDS) (λ v. v.items) c.args.noted.items c.loop-entries.yielded (into_iter_items c.next.new.self) c.in-Some.entries
    (lists-are (goal.at.joined-requires c).In-Some) c.requires

pub loop-entries-preserved : goal.loop-entries-preserved
loop-entries-preserved c =
    let yielded = c.loop-entries.yielded in
    let good : is_ok c.push.result ≡ true = search rules in
    let items = rw good at c.push.ensures.items in
    record {
      whole = c.into_iter-entries-iterator.ensures.into_iter_gives.0 ∙ lists-are (goal.at.loop-entries-preserved c).In-Some
          ∙ sym (append_assoc yielded (c.in-Some.entries ∷ []) (into_iter_items c.next.new.self));
      joined = subst (λ es. AllSayTheSame es (map (λ v. v.items) c.push.new.self.items)) (sym (map-append (λ v. v.items) yielded (c.in-Some.entries ∷ [])))
          (subst (AllSayTheSame (map (λ v. v.items) yielded ++ c.in-Some.entries.items ∷ []))
          (sym (ap (map (λ v. v.items)) items ∙ map-append (λ v. v.items) c.loop-entries.lists.items (c.in_ok-joined.field-0 ∷ [])))
          (joined-push (map (λ v. v.items) yielded) (map (λ v. v.items) c.loop-entries.lists.items) c.in-Some.entries.items c.in_ok-joined.field-0.items
          c.loop-entries.invariant.joined c.in_ok-joined.ensures));
    }
