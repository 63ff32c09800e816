use Rattle.std.proofs.Common.{◌≡◌, ◌-◌, ◌+◌, ◌<◌, ◌∷◌, MatchOption, false, true, Ok, Err, length, drop, rules, sym, ap, subst, arith, ◌∙◌}
use Rattle.irv_base.specs.Candidates.{is_in}
use Rattle.irv_base.specs.Suffixes.{is_suffix}
use Rattle.irv_base.proofs.Suffixes.{suffix_more, suffix-short}
use Rattle.suffix_walk.specs.Kept.{is_parent_kept, all_ending}
use Rattle.suffix_walk.specs.Walks.{walked}
use Rattle.suffix_walk.proofs.Runs.{rest, parent-kept, walked-bounded, rest-passes, rest-goes, rest-stops}
use Rattle.cover_checker.specs.Covers.{stands}
use Rattle.trimmer.specs.Remaining.{assertions_in}
use Rattle.trimmer.specs.Opened.{counted, is_open, is_past, opens, told}
use Rattle.trimmer.proofs.Walking.{from_told-ok, from_told-err, walked-refuted, enters, spends, walked-past}
use Rattle.trimmer.proofs.opened.Without.+walk.Goals as goal
use Rattle.trimmer.proofs.opened.Without.+walk.Goals.{then-not-contains+in_ok-seen, else-not-contains}

pub returns-then-is_past : goal.returns-then-is_past
returns-then-is_past t c =
    let w = c.args.self.now in
    walked-past w.n c.args.nodes (assertions_in w.others.now) w.claim c.args.count c.args.suffix.now c.requires.proper c.if-not-is_open.ensures
    (subst (λ set. MatchOption w.claim (true ≡ false) (λ claim. true ≡ is_past claim set)) c.set.ensures c.if-is_past.ensures)

pub returns-then-not-keeps : goal.returns-then-not-keeps
returns-then-not-keeps t c =
    let w = c.args.self.now in
    walked-refuted w.n c.args.nodes (assertions_in w.others.now) w.claim c.args.count c.args.suffix.now c.requires.proper (sym c.keeps.ensures ∙ c.if-not-keeps.true)

pub returns-in_err-own : goal.returns-in_err-own
returns-in_err-own t c =
    let w = c.args.self.now in
    let suffix = c.args.suffix.now in
    let few = suffix-short w.n suffix c.requires.proper in
    let short : length suffix < w.n = omega (arith, c.len.ensures.same, few, c.if-len-self.false) in
    let given : c.from_residual.result ≡ Err c.in_err-own.field-0.0 = search rules in
    let e : counted (is_open w.claim suffix) c.args.count c.args.nodes ≡ Err c.in_err-own.field-0.0 =
    ap (λ b. counted b c.args.count c.args.nodes) (sym c.is_open-is_open.ensures) ∙ sym c.counted.ensures ∙ c.in_err-own.was in
    given ∙ spends w.n c.args.nodes (assertions_in w.others.now) w.claim c.args.count suffix c.in_err-own.field-0.0 (sym c.keeps.ensures ∙ c.if-not-keeps.false) short e

pub loop-c-init : goal.loop-c-init
loop-c-init t c =
    let w = c.args.self.now in
    let suffix = c.args.suffix.now in
    let few = suffix-short w.n suffix c.requires.proper in
    let short : length suffix < w.n = omega (arith, c.len.ensures.same, few, c.if-len-self.false) in
    let e : counted (is_open w.claim suffix) c.args.count c.args.nodes ≡ Ok c.in_ok-own.own =
    ap (λ b. counted b c.args.count c.args.nodes) (sym c.is_open-is_open.ensures) ∙ sym c.counted.ensures ∙ c.in_ok-own.was in
    let p = enters w.n c.args.nodes (assertions_in w.others.now) w.claim c.args.count suffix c.in_ok-own.own (sym c.keeps.ensures ∙ c.if-not-keeps.false) short
    c.requires.left e in
    record { within = p.0; same = p.1 }

pub walk-requires : goal.walk-requires
walk-requires t c =
    let w = c.args.self.now in
    let n = w.n in
    let suffix = c.args.suffix.now in
    let front = c.loop-c.c in
    let same : c.with.result ≡ c.loop-c.c ∷ suffix = c.with.ensures in
    let few = suffix-short w.n suffix c.requires.proper in
    let short : length suffix < w.n = omega (arith, c.len.ensures.same, few, c.if-len-self.false) in
    let out : is_in suffix c.loop-c.c ≡ false = sym c.contains.ensures ∙ c.if-not-contains.true in
    let long : length c.with.result ≡ length (c.loop-c.c ∷ suffix) = ap length same in
    let less : n - length c.with.result < t = omega (arith, c.decreases) in (
      less,
      (
        c.requires.number,
        (
          c.requires.room,
          (
            ap (is_suffix n) same ∙ suffix_more n front suffix c.loop-c-test.true out c.requires.proper,
            (
              omega arith,
              (
                ap (is_parent_kept (stands (assertions_in w.others.now))) same
                    ∙ parent-kept (stands (assertions_in w.others.now)) front suffix c.requires.some (sym c.keeps.ensures ∙ c.if-not-keeps.false),
                (c.is_open-is_open.ensures ∙ ap (λ s. is_open w.claim (drop 1 s)) (sym same), c.loop-c.invariant.within),
              ),
            ),
          ),
        ),
      ),
    )

pub returns-in_err-seen : goal.returns-in_err-seen
returns-in_err-seen t c =
    let w = c.args.self.now in
    let suffix = c.args.suffix.now in
    let test = opens (assertions_in w.others.now) w.claim in
    let out : is_in suffix c.loop-c.c ≡ false = sym c.contains.ensures ∙ c.if-not-contains.true in
    let given : c.from_residual-in_err-seen.result ≡ Err c.in_err-seen.field-0.0 = search rules in
    let (cause, e, f) = from_told-err (walked w.n c.args.nodes test c.loop-c.seen (all_ending w.n c.with.result)) c.in_err-seen.field-0.0
    (sym c.in_err-seen.was ∙ c.walk.ensures) in
    let below : walked w.n c.args.nodes test c.loop-c.seen (all_ending w.n (c.loop-c.c ∷ suffix)) ≡ Err cause =
    ap (λ s. walked w.n c.args.nodes test c.loop-c.seen (all_ending w.n s)) (sym c.with.ensures) ∙ e in
    given ∙ sym f ∙ ap told (sym (rest-stops w.n c.args.nodes test c.loop-c.seen cause suffix c.loop-c.c c.loop-c-test.true out below)
    ∙ c.loop-c.invariant.same)

pub loop-c-preserved : goal.loop-c-preserved
loop-c-preserved t c =
    let v = c.args.self.now in
    let nodes = c.args.nodes in
    let suffix = c.args.suffix.now in
    let test = opens (assertions_in v.others.now) v.claim in
    elim c.if-not-contains.branch [
      | then-not-contains+in_ok-seen w ↦
          let out : is_in suffix c.loop-c.c ≡ false = sym c.contains.ensures ∙ w.if-not-contains.true in
          let e : walked v.n nodes test c.loop-c.seen (all_ending v.n (c.loop-c.c ∷ suffix)) ≡ Ok c.if-not-contains.seen =
          ap (λ s. walked v.n nodes test c.loop-c.seen (all_ending v.n s)) (sym w.with.ensures)
          ∙ from_told-ok (walked v.n nodes test c.loop-c.seen (all_ending v.n w.with.result)) c.if-not-contains.seen
          (ap Ok w.seen-is ∙ sym w.in_ok-seen.was ∙ w.walk.ensures) in
          record {
            within = walked-bounded v.n nodes test c.loop-c.seen (all_ending v.n (c.loop-c.c ∷ suffix)) c.if-not-contains.seen c.loop-c.invariant.within e;
            same = sym (rest-goes v.n nodes test c.loop-c.seen c.if-not-contains.seen suffix c.loop-c.c c.loop-c-test.true out e)
                ∙ c.loop-c.invariant.same;
          }
      | else-not-contains w ↦
          let inside : is_in suffix c.loop-c.c ≡ true = sym c.contains.ensures ∙ w.if-not-contains.false in
          record {
            within = omega arith;
            same = ap (λ k. rest v.n nodes test k suffix (c.loop-c.c + 1)) w.seen-is
                ∙ sym (rest-passes v.n nodes test c.loop-c.seen suffix c.loop-c.c c.loop-c-test.true inside) ∙ c.loop-c.invariant.same;
          }
    ]
