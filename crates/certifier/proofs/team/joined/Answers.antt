use Rattle.std.proofs.Common.{◌≡◌, ◌++◌, ◌∷◌, ◌%◌, ℕ, false, inl, inr, [], List, length, Result, nat_lt, refl, sym, ap, subst, append_assoc, arith, ◌∙◌}
use Rattle.std.specs.Vec.Iter.{into_iter_items}
use Rattle.std.proofs.lemmas.Bool.{cases_Bool, ltb-true}
use Rattle.std.proofs.lemmas.List.{nil_from_length, append-nil, length_push}
use Rattle.std.proofs.lemmas.Result.{IfOk-at_ok}
use Rattle.irv_base.specs.declared.memory.Memory.{Memory}
use Rattle.certifier.specs.declared.part.Part.{Part}
use Rattle.certifier.specs.Parts.{IsPart, IsPartSoFar, IsPartOfSeveral, is_dealt}
use Rattle.certifier.proofs.Dealing.{dealt_below, part-at, join-next, join-all}
use Rattle.certifier.proofs.team.joined.Goals as goal

none-below : (k : ℕ) → nat_lt k 0 ≡ false
none-below k = elim (cases_Bool (nat_lt k 0)) [ inl t ↦ let l = ltb-true k 0 t in absurd (omega arith) | inr f ↦ f ]

pub loop-part-init : goal.loop-part-init
loop-part-init c = record {
  whole = sym c.into_iter-part-iterator.ensures.into_iter_gives.0;
  some = λ l. absurd (omega arith);
  all = λ bag task workers records are of is. (λ l. absurd (omega arith), λ d. none-below (d % workers));
}

pub loop-part-preserved : goal.loop-part-preserved
loop-part-preserved c =
    let inv = c.loop-part.invariant in
    let yielded = c.loop-part.yielded in
    let part = c.in-Some.part in
    let rest = into_iter_items c.next.new.self in
    let whole = inv.whole ∙ ap (λ (ps : List (Result Part Memory)). yielded ++ ps) c.in-Some.ensures.steps.0 in
    record {
      whole = whole ∙ sym (append_assoc yielded (part ∷ []) rest);
      some = λ l. refl;
      all = λ bag task workers records are of is.
          let one = IfOk-at_ok (IsPartOfSeveral bag.n records task (is_dealt workers (length yielded))) c.in_ok-part.was
          (part-at bag task workers c.args.parts.items yielded rest part whole are records of is) in (
            λ l. one.0,
            join-next bag.n records task workers (length yielded) (length (yielded ++ part ∷ [])) c.in_ok-with_part.field-0 (length_push yielded part)
                (c.in_ok-with_part.ensures bag.n records task (dealt_below workers (length yielded)) (is_dealt workers (length yielded))
                (inv.all bag task workers records are of is).1 one.1),
          );
    }

pub returns-in-Some-all : goal.returns-in-Some-all
returns-in-Some-all c = λ bag task workers records long are of is some.
    let inv = c.loop-part.invariant in
    let none : into_iter_items c.loop-part.part-iterator ≡ [] =
    nil_from_length (into_iter_items c.loop-part.part-iterator) (omega (arith, c.in-None.ensures.steps.0)) in
    let whole : c.args.parts.items ≡ c.loop-part.yielded = inv.whole ∙ ap (λ (ps : List (Result Part Memory)). c.loop-part.yielded ++ ps) none
    ∙ append-nil c.loop-part.yielded in
    let same : length c.loop-part.yielded ≡ workers = sym (ap length whole) ∙ long in
    let (several, so_far) = inv.all bag task workers records are of is in
    let part : IsPart bag.n records task (dealt_below workers (length c.loop-part.yielded)) c.in-Some-all.all =
    subst (IsPartSoFar bag.n records task (dealt_below workers (length c.loop-part.yielded))) c.in-Some-all.is so_far in
    (several (omega (arith, same, some)), join-all bag.n records task workers (length c.loop-part.yielded) c.in-Some-all.all some same part)
