use Rattle.std.proofs.Common.{◌≡◌, ◌∙◌, ◌≤◌, ◌==◌, true, All, None, Ok, Err, find, length, map, not, refl, ap, ap₂, sym, subst, arith, eqb-true}
use Rattle.std.specs.Prelude.{IsTrue}
use Rattle.std.proofs.lemmas.Bool.{not-false}
use Rattle.std.proofs.lemmas.Result.{err_from_is_err_and}
use Rattle.irv_base.specs.declared.limits.TheConstants.{MOST_RECORDS}
use Rattle.set_tallies.specs.Bags.{IsOf}
use Rattle.assertions.specs.Assertions.{is_proper, is_true}
use Rattle.assertions.specs.Certificate.{claim_of}
use Rattle.ballots.specs.Ballots.{AreCandidates}
use Rattle.assertion_file.specs.Content.{IsSound}
use Rattle.claims_file.specs.Claimed.{Claimed}
use Rattle.cover_checker.specs.Outcomes.{IsWinner}
use Rattle.cover_checker.specs.declared.cover.Verdict.TheVariants.{Covered, Stands}
use Rattle.cover_checker.proofs.Verdicts.{covered_iff_covers}
use Rattle.adoption.specs.Adopted.{each_once, file_with}
use Rattle.adoption.specs.declared.adoption.Adoption.TheVariants.{Adopted}
use Rattle.adoption.proofs.Adopting.{file-sound, once-proper, untrue-none}
use Rattle.adoption.proofs.Answered.{fault-is, on-cover, on-untrue}
use Rattle.adoption.proofs.Steps.{same-claims, same-cover, the-fault}
use Rattle.adoption.proofs.judging.adopt.Goals as goal

pub with_margins-requires : goal.with_margins-requires
with_margins-requires c =
    let n = length c.args.votes.now.candidates in
    let count : c.winner_of.new.tallies.bag.n ≡ n = ap (λ t. t.bag.n) c.winner_of.ensures.same ∙ c.requires.candidates in
    let read : c.deref.result.now ≡ c.args.claims.now.assertions = c.deref.ensures.value ∙ ap (λ (k : Claimed). k.assertions) c.claims.view_is in
    let listed : c.deref-2.result.now ≡ each_once n c.args.claims.now.assertions =
    c.deref-2.ensures.value ∙ c.in_ok-list.ensures n (subst (All (λ a. IsTrue (is_proper n a))) (sym read) c.requires.sound.proper) ∙ ap (each_once n) read in
    subst (λ m. All (λ a. IsTrue (is_proper m a)) c.deref-2.result.now) (sym count)
    (subst (All (λ a. IsTrue (is_proper n a))) (sym listed) (once-proper n c.args.claims.now.assertions))

pub returns-in-Some-clause-adopted : goal.returns-in-Some-clause-adopted
returns-in-Some-clause-adopted c =
    let ballots = c.args.votes.now in
    let claims = c.args.claims.now in
    let n = length ballots.candidates in
    let count : c.winner_of.new.tallies.bag.n ≡ n = ap (λ t. t.bag.n) c.winner_of.ensures.same ∙ c.requires.candidates in
    let read : c.deref.result.now ≡ claims.assertions = c.deref.ensures.value ∙ ap (λ (k : Claimed). k.assertions) c.claims.view_is in
    let listed : c.deref-2.result.now ≡ each_once n claims.assertions =
    c.deref-2.ensures.value ∙ c.in_ok-list.ensures n (subst (All (λ a. IsTrue (is_proper n a))) (sym read) c.requires.sound.proper) ∙ ap (each_once n) read in
    let same : (claims.winner == c.in-Ok.winner) ≡ true =
    ap (λ (k : Claimed). k.winner == c.in-Ok.winner) (sym c.claims.view_is) ∙ not-false _ (sym c.ne.ensures ∙ c.if-ne.false) in
    let won : IsWinner n ballots.rankings c.in-Ok.winner =
    subst (λ m. IsWinner m ballots.rankings c.in-Ok.winner) c.requires.candidates (c.in-Ok.ensures.winner ballots.rankings c.requires.records) in
    let of : IsOf c.winner_of.new.tallies.bag ballots.rankings =
    subst (λ t. IsOf t.bag ballots.rankings) (sym c.winner_of.ensures.same) c.requires.records in
    let of' : IsOf c.with_margins.new.tallies.bag ballots.rankings = subst (λ t. IsOf t.bag ballots.rankings) (sym c.with_margins.ensures.same) of in
    let few : length ballots.rankings ≤ MOST_RECORDS = omega (arith, c.records-records.ensures.same, c.records-records.ensures.most) in
    let weighed = c.in_ok-weighed.ensures.claims ballots.rankings of few in
    let again : c.deref-3.result.now ≡ claims.assertions = c.deref-3.ensures.value ∙ ap (λ (k : Claimed). k.assertions) c.claims.view_is in
    let found : c.in_ok-assertion.field-0 ≡ find (λ a. not (is_true ballots.rankings a)) claims.assertions =
    c.in_ok-assertion.ensures.found ballots.rankings of' (same-claims n c.with_margins.new.tallies.bag.n ballots.rankings claims.assertions
    c.deref-3.result.now c.deref-2.result.now c.deref-4.result.now c.in_ok-weighed.weighed.items (ap (λ t. t.bag.n) c.with_margins.ensures.same ∙ count) listed
    again weighed c.deref-4.ensures.value)
    ∙ ap (find (λ a. not (is_true ballots.rankings a))) again in
    record {
      winner = c.in-Ok.winner;
      tabulated = won;
      answer_is = on-untrue c.args.budget ballots claims c.in-Ok.winner c.in-Some.assertion same (sym found ∙ c.in-Some.is);
    }

pub returns-in-Stands-clause-adopted : goal.returns-in-Stands-clause-adopted
returns-in-Stands-clause-adopted c =
    let ballots = c.args.votes.now in
    let claims = c.args.claims.now in
    let n = length ballots.candidates in
    let count : c.winner_of.new.tallies.bag.n ≡ n = ap (λ t. t.bag.n) c.winner_of.ensures.same ∙ c.requires.candidates in
    let read : c.deref.result.now ≡ claims.assertions = c.deref.ensures.value ∙ ap (λ (k : Claimed). k.assertions) c.claims.view_is in
    let listed : c.deref-2.result.now ≡ each_once n claims.assertions =
    c.deref-2.ensures.value ∙ c.in_ok-list.ensures n (subst (All (λ a. IsTrue (is_proper n a))) (sym read) c.requires.sound.proper) ∙ ap (each_once n) read in
    let same : (claims.winner == c.in-Ok.winner) ≡ true =
    ap (λ (k : Claimed). k.winner == c.in-Ok.winner) (sym c.claims.view_is) ∙ not-false _ (sym c.ne.ensures ∙ c.if-ne.false) in
    let won : IsWinner n ballots.rankings c.in-Ok.winner =
    subst (λ m. IsWinner m ballots.rankings c.in-Ok.winner) c.requires.candidates (c.in-Ok.ensures.winner ballots.rankings c.requires.records) in
    let of : IsOf c.winner_of.new.tallies.bag ballots.rankings =
    subst (λ t. IsOf t.bag ballots.rankings) (sym c.winner_of.ensures.same) c.requires.records in
    let of' : IsOf c.with_margins.new.tallies.bag ballots.rankings = subst (λ t. IsOf t.bag ballots.rankings) (sym c.with_margins.ensures.same) of in
    let few : length ballots.rankings ≤ MOST_RECORDS = omega (arith, c.records-records.ensures.same, c.records-records.ensures.most) in
    let weighed = c.in_ok-weighed.ensures.claims ballots.rankings of few in
    let again : c.deref-3.result.now ≡ claims.assertions = c.deref-3.ensures.value ∙ ap (λ (k : Claimed). k.assertions) c.claims.view_is in
    let found : c.in_ok-assertion.field-0 ≡ find (λ a. not (is_true ballots.rankings a)) claims.assertions =
    c.in_ok-assertion.ensures.found ballots.rankings of' (same-claims n c.with_margins.new.tallies.bag.n ballots.rankings claims.assertions
    c.deref-3.result.now c.deref-2.result.now c.deref-4.result.now c.in_ok-weighed.weighed.items (ap (λ t. t.bag.n) c.with_margins.ensures.same ∙ count) listed
    again weighed c.deref-4.ensures.value)
    ∙ ap (find (λ a. not (is_true ballots.rankings a))) again in
    let none : find (λ a. not (is_true ballots.rankings a)) claims.assertions ≡ None = sym found ∙ c.in_default-2.is in
    let won_by : c.in-Ok.winner ≡ claims.winner = sym (eqb-true claims.winner c.in-Ok.winner same) in
    let judged = same-cover n (length c.candidates.result.now) c.in-Ok.winner claims.winner c.deref-5.result.now (each_once n claims.assertions) c.args.budget
    (ap length c.candidates.ensures.same) won_by (c.deref-5.ensures.value ∙ sym c.deref-2.ensures.value ∙ listed) in
    let covered = sym judged ∙ sym (c.in_ok-order.ensures (λ m. cc)) ∙ ap Ok c.in-Stands.is in
    record {
      winner = c.in-Ok.winner;
      tabulated = won;
      answer_is = on-cover c.args.budget ballots claims c.in-Ok.winner (Ok (Stands c.in-Stands.order)) same none covered;
    }

pub returns-in_err-order-clause-fault : goal.returns-in_err-order-clause-fault
returns-in_err-order-clause-fault c =
    let ballots = c.args.votes.now in
    let claims = c.args.claims.now in
    let n = length ballots.candidates in
    let count : c.winner_of.new.tallies.bag.n ≡ n = ap (λ t. t.bag.n) c.winner_of.ensures.same ∙ c.requires.candidates in
    let read : c.deref.result.now ≡ claims.assertions = c.deref.ensures.value ∙ ap (λ (k : Claimed). k.assertions) c.claims.view_is in
    let listed : c.deref-2.result.now ≡ each_once n claims.assertions =
    c.deref-2.ensures.value ∙ c.in_ok-list.ensures n (subst (All (λ a. IsTrue (is_proper n a))) (sym read) c.requires.sound.proper) ∙ ap (each_once n) read in
    let same : (claims.winner == c.in-Ok.winner) ≡ true =
    ap (λ (k : Claimed). k.winner == c.in-Ok.winner) (sym c.claims.view_is) ∙ not-false _ (sym c.ne.ensures ∙ c.if-ne.false) in
    let won : IsWinner n ballots.rankings c.in-Ok.winner =
    subst (λ m. IsWinner m ballots.rankings c.in-Ok.winner) c.requires.candidates (c.in-Ok.ensures.winner ballots.rankings c.requires.records) in
    let of : IsOf c.winner_of.new.tallies.bag ballots.rankings =
    subst (λ t. IsOf t.bag ballots.rankings) (sym c.winner_of.ensures.same) c.requires.records in
    let of' : IsOf c.with_margins.new.tallies.bag ballots.rankings = subst (λ t. IsOf t.bag ballots.rankings) (sym c.with_margins.ensures.same) of in
    let few : length ballots.rankings ≤ MOST_RECORDS = omega (arith, c.records-records.ensures.same, c.records-records.ensures.most) in
    let weighed = c.in_ok-weighed.ensures.claims ballots.rankings of few in
    let again : c.deref-3.result.now ≡ claims.assertions = c.deref-3.ensures.value ∙ ap (λ (k : Claimed). k.assertions) c.claims.view_is in
    let found : c.in_ok-assertion.field-0 ≡ find (λ a. not (is_true ballots.rankings a)) claims.assertions =
    c.in_ok-assertion.ensures.found ballots.rankings of' (same-claims n c.with_margins.new.tallies.bag.n ballots.rankings claims.assertions
    c.deref-3.result.now c.deref-2.result.now c.deref-4.result.now c.in_ok-weighed.weighed.items (ap (λ t. t.bag.n) c.with_margins.ensures.same ∙ count) listed
    again weighed c.deref-4.ensures.value)
    ∙ ap (find (λ a. not (is_true ballots.rankings a))) again in
    let none : find (λ a. not (is_true ballots.rankings a)) claims.assertions ≡ None = sym found ∙ c.in_default-2.is in
    let won_by : c.in-Ok.winner ≡ claims.winner = sym (eqb-true claims.winner c.in-Ok.winner same) in
    let judged = same-cover n (length c.candidates.result.now) c.in-Ok.winner claims.winner c.deref-5.result.now (each_once n claims.assertions) c.args.budget
    (ap length c.candidates.ensures.same) won_by (c.deref-5.ensures.value ∙ sym c.deref-2.ensures.value ∙ listed) in
    let fault = c.in_err-order.field-0.0 in
    let p = err_from_is_err_and c.from_residual-in_err-order.result c.from_residual-in_err-order.ensures.1 in
    rw (p.1, p.2)
    (fault-is c.args.budget ballots claims fault (λ other. record {
      winner = c.in-Ok.winner;
      tabulated = won;
      answer_is = on-cover c.args.budget ballots claims c.in-Ok.winner (Err fault) same none
          (sym judged ∙ sym (c.in_err-order.ensures (λ m. other (the-fault fault m))));
    }))

pub file_with-requires : goal.file_with-requires
file_with-requires c =
    let ballots = c.args.votes.now in
    let claims = c.args.claims.now in
    let n = length ballots.candidates in
    let count : c.winner_of.new.tallies.bag.n ≡ n = ap (λ t. t.bag.n) c.winner_of.ensures.same ∙ c.requires.candidates in
    let read : c.deref.result.now ≡ claims.assertions = c.deref.ensures.value ∙ ap (λ (k : Claimed). k.assertions) c.claims.view_is in
    let listed : c.deref-2.result.now ≡ each_once n claims.assertions =
    c.deref-2.ensures.value ∙ c.in_ok-list.ensures n (subst (All (λ a. IsTrue (is_proper n a))) (sym read) c.requires.sound.proper) ∙ ap (each_once n) read in
    let same : (claims.winner == c.in-Ok.winner) ≡ true =
    ap (λ (k : Claimed). k.winner == c.in-Ok.winner) (sym c.claims.view_is) ∙ not-false _ (sym c.ne.ensures ∙ c.if-ne.false) in
    let won : IsWinner n ballots.rankings c.in-Ok.winner =
    subst (λ m. IsWinner m ballots.rankings c.in-Ok.winner) c.requires.candidates (c.in-Ok.ensures.winner ballots.rankings c.requires.records) in
    let of : IsOf c.winner_of.new.tallies.bag ballots.rankings =
    subst (λ t. IsOf t.bag ballots.rankings) (sym c.winner_of.ensures.same) c.requires.records in
    let of' : IsOf c.with_margins.new.tallies.bag ballots.rankings = subst (λ t. IsOf t.bag ballots.rankings) (sym c.with_margins.ensures.same) of in
    let few : length ballots.rankings ≤ MOST_RECORDS = omega (arith, c.records-records.ensures.same, c.records-records.ensures.most) in
    let weighed = c.in_ok-weighed.ensures.claims ballots.rankings of few in
    let again : c.deref-3.result.now ≡ claims.assertions = c.deref-3.ensures.value ∙ ap (λ (k : Claimed). k.assertions) c.claims.view_is in
    let found : c.in_ok-assertion.field-0 ≡ find (λ a. not (is_true ballots.rankings a)) claims.assertions =
    c.in_ok-assertion.ensures.found ballots.rankings of' (same-claims n c.with_margins.new.tallies.bag.n ballots.rankings claims.assertions
    c.deref-3.result.now c.deref-2.result.now c.deref-4.result.now c.in_ok-weighed.weighed.items (ap (λ t. t.bag.n) c.with_margins.ensures.same ∙ count) listed
    again weighed c.deref-4.ensures.value)
    ∙ ap (find (λ a. not (is_true ballots.rankings a))) again in
    let none : find (λ a. not (is_true ballots.rankings a)) claims.assertions ≡ None = sym found ∙ c.in_default-2.is in
    let won_by : c.in-Ok.winner ≡ claims.winner = sym (eqb-true claims.winner c.in-Ok.winner same) in
    let judged = same-cover n (length c.candidates.result.now) c.in-Ok.winner claims.winner c.deref-5.result.now (each_once n claims.assertions) c.args.budget
    (ap length c.candidates.ensures.same) won_by (c.deref-5.ensures.value ∙ sym c.deref-2.ensures.value ∙ listed) in
    let covered = sym judged ∙ sym (c.in_ok-order.ensures (λ m. cc)) ∙ ap Ok c.in-Covered.is in
    let names = c.candidates.ensures in
    let are : AreCandidates ballots.candidates = record { fewest = names.fewest; most = names.most; differ = names.differ } in
    let cover = (covered_iff_covers n claims.winner c.args.budget (each_once n claims.assertions) Covered covered).0 refl in
    subst IsSound (ap₂ (file_with ballots) (sym won_by) (sym (weighed ∙ ap (map (claim_of ballots.rankings)) listed)))
    (file-sound ballots claims c.requires.sound are (untrue-none ballots.rankings claims.assertions none) cover few)

pub returns-clause-adopted : goal.returns-clause-adopted
returns-clause-adopted c =
    let ballots = c.args.votes.now in
    let claims = c.args.claims.now in
    let n = length ballots.candidates in
    let count : c.winner_of.new.tallies.bag.n ≡ n = ap (λ t. t.bag.n) c.winner_of.ensures.same ∙ c.requires.candidates in
    let read : c.deref.result.now ≡ claims.assertions = c.deref.ensures.value ∙ ap (λ (k : Claimed). k.assertions) c.claims.view_is in
    let listed : c.deref-2.result.now ≡ each_once n claims.assertions =
    c.deref-2.ensures.value ∙ c.in_ok-list.ensures n (subst (All (λ a. IsTrue (is_proper n a))) (sym read) c.requires.sound.proper) ∙ ap (each_once n) read in
    let same : (claims.winner == c.in-Ok.winner) ≡ true =
    ap (λ (k : Claimed). k.winner == c.in-Ok.winner) (sym c.claims.view_is) ∙ not-false _ (sym c.ne.ensures ∙ c.if-ne.false) in
    let won : IsWinner n ballots.rankings c.in-Ok.winner =
    subst (λ m. IsWinner m ballots.rankings c.in-Ok.winner) c.requires.candidates (c.in-Ok.ensures.winner ballots.rankings c.requires.records) in
    let of : IsOf c.winner_of.new.tallies.bag ballots.rankings =
    subst (λ t. IsOf t.bag ballots.rankings) (sym c.winner_of.ensures.same) c.requires.records in
    let of' : IsOf c.with_margins.new.tallies.bag ballots.rankings = subst (λ t. IsOf t.bag ballots.rankings) (sym c.with_margins.ensures.same) of in
    let few : length ballots.rankings ≤ MOST_RECORDS = omega (arith, c.records-records.ensures.same, c.records-records.ensures.most) in
    let weighed = c.in_ok-weighed.ensures.claims ballots.rankings of few in
    let again : c.deref-3.result.now ≡ claims.assertions = c.deref-3.ensures.value ∙ ap (λ (k : Claimed). k.assertions) c.claims.view_is in
    let found : c.in_ok-assertion.field-0 ≡ find (λ a. not (is_true ballots.rankings a)) claims.assertions =
    c.in_ok-assertion.ensures.found ballots.rankings of' (same-claims n c.with_margins.new.tallies.bag.n ballots.rankings claims.assertions
    c.deref-3.result.now c.deref-2.result.now c.deref-4.result.now c.in_ok-weighed.weighed.items (ap (λ t. t.bag.n) c.with_margins.ensures.same ∙ count) listed
    again weighed c.deref-4.ensures.value)
    ∙ ap (find (λ a. not (is_true ballots.rankings a))) again in
    let none : find (λ a. not (is_true ballots.rankings a)) claims.assertions ≡ None = sym found ∙ c.in_default-2.is in
    let won_by : c.in-Ok.winner ≡ claims.winner = sym (eqb-true claims.winner c.in-Ok.winner same) in
    let judged = same-cover n (length c.candidates.result.now) c.in-Ok.winner claims.winner c.deref-5.result.now (each_once n claims.assertions) c.args.budget
    (ap length c.candidates.ensures.same) won_by (c.deref-5.ensures.value ∙ sym c.deref-2.ensures.value ∙ listed) in
    let covered = sym judged ∙ sym (c.in_ok-order.ensures (λ m. cc)) ∙ ap Ok c.in-Covered.is in
    record {
      winner = c.in-Ok.winner;
      tabulated = won;
      answer_is =
          on-cover c.args.budget ballots claims c.in-Ok.winner (Ok Covered) same none covered
          ∙ ap (λ file. Ok (Adopted file)) (ap₂ (file_with ballots) (sym won_by) (sym (weighed ∙ ap (map (claim_of ballots.rankings)) listed))
          ∙ sym c.in_ok-file_with-in-Covered.ensures);
    }
