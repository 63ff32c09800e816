use Rattle.std.proofs.Common.{◌≡◌, ◌≢◌, [], ◌∷◌, ◌++◌, All, IfErr, MatchBool, ◌<◌, ◌+◌, ◌-◌, length, get_or, take, None, Ok, Err, true, false, rules, sym, ap, subst, arith, ◌∙◌}
use Rattle.std.specs.Prelude.{slice_index_or, IfSome}
use Rattle.std.proofs.lemmas.List.{take_all}
use Rattle.assertion_file.specs.Content.{IsSoundClaim, candidate_count}
use Rattle.trimmer.specs.Counts.{IsKnown}
use Rattle.trimmer.specs.Remaining.{Left}
use Rattle.trimmer.specs.Trimmed.{left_of}
use Rattle.trimmer.specs.declared.fault.TrimFault.TheVariants.{Memory}
use Rattle.trimmer.proofs.Accepted.{all-part, some-left}
use Rattle.trimmer.proofs.DrawSteps.{AreLeft, draws-end, draws-gone, draws-kept, draws-start, each-left, few-left, fits-at, shown-some}
use Rattle.trimmer.proofs.Lefts.{left-part}
use Rattle.trimmer.proofs.Parted.{take-midst}
use Rattle.trimmer.proofs.TrialSteps.{some_claim, left_from, trial, told-next, fault-next, start-behind, start-all, take-before}
use Rattle.trimmer.proofs.trimming.left_of.Goals as goal

pub loop-j-init : goal.loop-j-init
loop-j-init c =
    let budget = c.args.budget in
    let file = c.args.f.now in
    let n = length c.claims-claims.result.now in
    let long : length file.claims ≡ n = sym (ap length c.claims-claims.ensures.same) in
    let none : c.in_ok-left.left.kept ≡ [] = ap (λ (left : Left). left.kept) c.in_ok-left.ensures in
    let all : file.claims ≡ take n file.claims ++ c.in_ok-left.left.kept =
    sym (start-all budget file file.claims n long) ∙ ap (λ later. take n file.claims ++ later) (sym none) in
    record {
      untried = ap (λ (left : Left). left.untried) c.in_ok-left.ensures ∙ c.claims-claims.ensures.same
          ∙ sym (take_all n file.claims (omega (arith, long)));
      behind = start-behind budget file file.claims n long ∙ ap Ok (sym none);
      known = subst (λ claims. IsKnown file claims c.in_ok-known.known) all c.in_ok-known.ensures.known;
      budget = c.in_ok-known.ensures.budget;
      planned = draws-start budget file file.claims n file.plan c.new-draws.result.items long c.new-draws.ensures.items;
    }

pub push_draws-requires : goal.push_draws-requires
push_draws-requires c =
    let file = c.args.f.now in
    let inside : c.loop-j.j - 1 < length file.claims = omega (arith, ap length c.claims-claims.ensures.same) in
    fits-at (λ facts. facts.now) file.records (length file.claims) (c.loop-j.j - 1) c.plan-plan.result inside c.plan-plan.ensures.sound

pub can_go-requires-clause-known : goal.can_go-requires-clause-known
can_go-requires-clause-known c =
    let file = c.args.f.now in
    let next : c.loop-j.j - 1 + 1 ≡ c.loop-j.j = omega arith in
    let same : c.in_ok-others.others.kept ≡ c.loop-j.left.kept = ap (λ (left : Left). left.kept) c.in_ok-others.ensures.others in
    subst (λ later. IsKnown file (take (c.loop-j.j - 1 + 1) file.claims ++ later) c.loop-j.known) (sym same)
    (subst (λ j. IsKnown file (take j file.claims ++ c.loop-j.left.kept) c.loop-j.known) (sym next) c.loop-j.invariant.known)

pub returns-in_err-can_go-clause-spent : goal.returns-in_err-can_go-clause-spent
returns-in_err-can_go-clause-spent c =
    let budget = c.args.budget in
    let file = c.args.f.now in
    let i = c.loop-j.j - 1 in
    let next : i + 1 ≡ c.loop-j.j = omega arith in
    let behind : left_from budget file file.claims (i + 1) ≡ Ok c.loop-j.left.kept = ap (left_from budget file file.claims) next
    ∙ c.loop-j.invariant.behind in
    let given : c.from_residual-in_err-can_go.result ≡ Err c.in_err-can_go.field-0.0 = search rules in
    let inside : i < length file.claims = omega (arith, ap length c.claims-claims.ensures.same) in
    let same : c.in_ok-others.others.kept ≡ c.loop-j.left.kept = ap (λ (left : Left). left.kept) c.in_ok-others.ensures.others in
    subst (λ r. IfErr r (λ fault. fault ≢ Memory → left_of budget file [] file.claims ≡ Err fault)) (sym given) (λ ne.
    let told : Err c.in_err-can_go.field-0.0 ≡ trial budget file file.claims i c.loop-j.left.kept =
    c.in_err-can_go.ensures.goes (λ e. ne cc)
    ∙ ap (λ b. trial b file file.claims i c.in_ok-others.others.kept) c.loop-j.invariant.budget ∙ ap (trial budget file file.claims i) same in
    fault-next budget file file.claims i some_claim c.loop-j.left.kept c.in_err-can_go.field-0.0 inside behind told)

pub loop-j-preserved-then-branch : goal.loop-j-preserved-then-branch
loop-j-preserved-then-branch c =
    let budget = c.args.budget in
    let file = c.args.f.now in
    let i = c.loop-j.j - 1 in
    let next : i + 1 ≡ c.loop-j.j = omega arith in
    let behind : left_from budget file file.claims (i + 1) ≡ Ok c.loop-j.left.kept = ap (left_from budget file file.claims) next
    ∙ c.loop-j.invariant.behind in
    let inside : i < length file.claims = omega (arith, ap length c.claims-claims.ensures.same) in
    let same : c.in_ok-others.others.kept ≡ c.loop-j.left.kept = ap (λ (left : Left). left.kept) c.in_ok-others.ensures.others in
    let told : Ok true ≡ trial budget file file.claims i c.loop-j.left.kept =
    ap Ok (sym c.if-branch.true) ∙ c.in_ok-can_go.ensures.goes (λ e. cc)
    ∙ ap (λ b. trial b file file.claims i c.in_ok-others.others.kept) c.loop-j.invariant.budget ∙ ap (trial budget file file.claims i) same in
    let known = c.can_go.new.known in
    record {
      untried = ap (λ (left : Left). left.untried) c.in_ok-others.ensures.others
          ∙ take-before file.claims i c.loop-j.left.untried inside (c.loop-j.invariant.untried ∙ ap (λ j. take j file.claims) (sym next));
      behind = told-next budget file file.claims i some_claim c.loop-j.left.kept true inside behind told ∙ ap Ok (sym same);
      known = subst (λ b. MatchBool b (IsKnown file (take i file.claims ++ c.in_ok-others.others.kept) known) (known ≡ c.loop-j.known))
          c.if-branch.true c.in_ok-can_go.ensures.known;
      budget = c.in_ok-can_go.ensures.budget ∙ c.loop-j.invariant.budget;
      planned = draws-gone budget file file.claims i some_claim file.plan c.loop-j.left.kept c.loop-j.draws.items inside
          (shown-some (λ facts. facts.now) (λ plan. i < length plan.draws) c.plan-plan.result file.plan c.plan-plan.ensures.same
          (fits-at (λ facts. facts.now) file.records (length file.claims) i c.plan-plan.result inside c.plan-plan.ensures.sound)) behind told
          (subst (λ j. IfSome file.plan (AreLeft budget file file.claims j c.loop-j.draws.items)) (sym next) c.loop-j.invariant.planned);
    }

pub loop-j-preserved : goal.loop-j-preserved
loop-j-preserved c =
    let budget = c.args.budget in
    let file = c.args.f.now in
    let i = c.loop-j.j - 1 in
    let next : i + 1 ≡ c.loop-j.j = omega arith in
    let later = c.loop-j.left.kept in
    let behind : left_from budget file file.claims (i + 1) ≡ Ok later = ap (left_from budget file file.claims) next ∙ c.loop-j.invariant.behind in
    let inside : i < length file.claims = omega (arith, ap length c.claims-claims.ensures.same) in
    let same : c.in_ok-others.others.kept ≡ later = ap (λ (left : Left). left.kept) c.in_ok-others.ensures.others in
    let d = c.index-claims-j.result in
    let told : Ok false ≡ trial budget file file.claims i later =
    ap Ok (sym c.if-branch.false) ∙ c.in_ok-can_go.ensures.goes (λ e. cc)
    ∙ ap (λ b. trial b file file.claims i c.in_ok-others.others.kept) c.loop-j.invariant.budget ∙ ap (trial budget file file.claims i) same in
    let its : get_or file.claims i d ≡ d = ap (λ claims. get_or claims i d) (sym c.claims-claims.ensures.same) ∙ sym c.index-claims-j.is in
    let more : get_or file.claims i d ∷ later ≡ c.in_ok-left-2.left.kept =
    ap (λ claim. claim ∷ later) its ∙ ap (λ later. d ∷ later) (sym same)
    ∙ sym (ap (λ (left : Left). left.kept) c.in_ok-left-2.ensures) in
    let known = c.can_go.new.known in
    let kept : known ≡ c.loop-j.known =
    subst (λ b. MatchBool b (IsKnown file (take i file.claims ++ c.in_ok-others.others.kept) known) (known ≡ c.loop-j.known))
    c.if-branch.false c.in_ok-can_go.ensures.known in
    let with : IsKnown file (take (i + 1) file.claims ++ later) known =
    subst (IsKnown file (take (i + 1) file.claims ++ later)) (sym kept)
    (subst (λ j. IsKnown file (take j file.claims ++ later) c.loop-j.known) (sym next) c.loop-j.invariant.known) in
    record {
      untried = ap (λ (left : Left). left.untried) c.in_ok-left-2.ensures ∙ ap (λ (left : Left). left.untried) c.in_ok-others.ensures.others
          ∙ take-before file.claims i c.loop-j.left.untried inside (c.loop-j.invariant.untried ∙ ap (λ j. take j file.claims) (sym next));
      behind = told-next budget file file.claims i d later false inside behind told ∙ ap Ok more;
      known = subst (λ claims. IsKnown file claims known)
          (take-midst file.claims i d later inside ∙ ap (λ later. take i file.claims ++ later) more) with;
      budget = c.in_ok-can_go.ensures.budget ∙ c.loop-j.invariant.budget;
      planned = draws-kept budget file file.claims i d file.plan later c.loop-j.draws.items c.push_draws.new.draws.items inside
          (shown-some (λ facts. facts.now) (λ plan. i < length plan.draws) c.plan-plan.result file.plan c.plan-plan.ensures.same
          (fits-at (λ facts. facts.now) file.records (length file.claims) i c.plan-plan.result inside c.plan-plan.ensures.sound)) behind told
          (subst (λ j. IfSome file.plan (AreLeft budget file file.claims j c.loop-j.draws.items)) (sym next) c.loop-j.invariant.planned)
          (shown-some (λ facts. facts.now) (λ plan. c.push_draws.new.draws.items ≡ c.loop-j.draws.items ++ slice_index_or plan.draws i None ∷ [])
          c.plan-plan.result file.plan c.plan-plan.ensures.same c.in_ok-push_draws.ensures);
    }

pub returns-clause-some : goal.returns-clause-some
returns-clause-some c =
    let budget = c.args.budget in
    let file = c.args.f.now in
    let none : 0 ≡ c.loop-j.j = omega arith in
    let whole : left_from budget file file.claims 0 ≡ Ok c.into_kept.result.items = ap (left_from budget file file.claims) none
    ∙ c.loop-j.invariant.behind ∙ ap Ok (sym c.into_kept.ensures) in
    some-left budget file c.into_kept.result.items c.plan-plan.ensures.file whole c.requires

pub returns-clause-sound : goal.returns-clause-sound
returns-clause-sound c =
    let file = c.args.f.now in
    let none : 0 ≡ c.loop-j.j = omega arith in
    let whole : left_from c.args.budget file file.claims 0 ≡ Ok c.loop-j.left.kept = ap (left_from c.args.budget file file.claims) none
    ∙ c.loop-j.invariant.behind in
    let all : All (IsSoundClaim (candidate_count file) file.records) file.claims =
    subst (All (IsSoundClaim (candidate_count file) file.records)) c.claims-claims.ensures.same c.claims-claims.ensures.sound in
    subst (All (IsSoundClaim (candidate_count file) file.records)) (sym c.into_kept.ensures)
    (all-part (IsSoundClaim (candidate_count file) file.records) (left-part c.args.budget file [] file.claims c.loop-j.left.kept whole) all)

pub returns-clause-draws : goal.returns-clause-draws
returns-clause-draws c =
    draws-end c.args.budget c.args.f.now c.args.f.now.claims c.loop-j.j c.args.f.now.plan c.loop-j.draws.items c.reverse.new.self.items (omega arith)
    c.reverse.ensures.items c.loop-j.invariant.planned

pub returns-clause-each : goal.returns-clause-each
returns-clause-each c =
    let budget = c.args.budget in
    let file = c.args.f.now in
    let none : 0 ≡ c.loop-j.j = omega arith in
    let whole : left_from budget file file.claims 0 ≡ Ok c.into_kept.result.items = ap (left_from budget file file.claims) none
    ∙ c.loop-j.invariant.behind ∙ ap Ok (sym c.into_kept.ensures) in
    each-left budget file c.into_kept.result.items c.reverse.new.self.items whole file.plan c.plan-plan.ensures.file.plan
    (draws-end budget file file.claims c.loop-j.j file.plan c.loop-j.draws.items c.reverse.new.self.items none c.reverse.ensures.items
    c.loop-j.invariant.planned)

pub returns-clause-few : goal.returns-clause-few
returns-clause-few c =
    let budget = c.args.budget in
    let file = c.args.f.now in
    let none : 0 ≡ c.loop-j.j = omega arith in
    let whole : left_from budget file file.claims 0 ≡ Ok c.into_kept.result.items = ap (left_from budget file file.claims) none
    ∙ c.loop-j.invariant.behind ∙ ap Ok (sym c.into_kept.ensures) in
    few-left budget file c.into_kept.result.items c.reverse.new.self.items whole file.plan c.plan-plan.ensures.file.plan
    (draws-end budget file file.claims c.loop-j.j file.plan c.loop-j.draws.items c.reverse.new.self.items none c.reverse.ensures.items
    c.loop-j.invariant.planned)
