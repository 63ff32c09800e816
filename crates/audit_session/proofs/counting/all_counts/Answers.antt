use Rattle.std.proofs.Common.{◌≡◌, ◌∙◌, ◌<◌, ◌≤◌, ◌+◌, ◌-◌, ◌++◌, ℕ, List, get_or, length, ap, arith}
use Rattle.std.specs.Prelude.{filter}
use Rattle.std.proofs.lemmas.List.{length-map, take_all}
use Rattle.km_risk.specs.declared.draws.Counts.{Counts}
use Rattle.km_risk.specs.Counts.{draws_in}
use Rattle.audit_session.specs.declared.compared.Drawn.{Drawn}
use Rattle.audit_session.specs.Alike.{is_alike, is_odd}
use Rattle.audit_session.specs.Going.{all_counts, counts_over, value_at}
use Rattle.audit_session.proofs.AlikeCounted.{all-parted, length-parted, more-alike}
use Rattle.audit_session.proofs.Counted.{claim-counts, one-claim-more}
use Rattle.audit_session.proofs.counting.all_counts.Goals as goal

-- this many of the draws are left to be counted one by one
few-left : (drawn items : List Drawn) (left : ℕ) → items ≡ filter is_odd drawn → left ≡ length items →
    length (filter is_alike drawn) + left ≡ length drawn
few-left drawn items left are long = omega (arith, length-parted drawn, ap length are, long)

pub overflow_sub-alike : goal.overflow_sub-alike
overflow_sub-alike g c =
    let long : c.len.result ≡ length c.in_ok-odd.odd.items = omega (arith, c.len.ensures) in
    omega (arith, few-left c.args.drawn.now c.in_ok-odd.odd.items c.len.result c.in_ok-odd.ensures long)

pub counts_over-requires-clause-few : goal.counts_over-requires-clause-few
counts_over-requires-clause-few g c =
    let none : Counts = record { n0 = 0; n1 = 0; n2 = 0; n3 = 0; n4 = 0 } in
    let long : c.len.result ≡ length c.in_ok-odd.odd.items = omega (arith, c.len.ensures) in
    let left = few-left c.args.drawn.now c.in_ok-odd.odd.items c.len.result c.in_ok-odd.ensures long in
    let few = c.requires.few c.loop-j.j none (omega arith) in
    omega (arith, left, few, ap draws_in c.with_alike-clean.ensures, ap length c.deref.ensures.value, long)

pub loop-j-preserved : goal.loop-j-preserved
loop-j-preserved g c = λ earlier is.
    let values = g.T.Claims.values c.args.claims.now in
    let drawn : List Drawn = c.args.drawn.now in
    let none : Counts = record { n0 = 0; n1 = 0; n2 = 0; n3 = 0; n4 = 0 } in
    let value = value_at values c.loop-j.j in
    let below : c.loop-j.j < length values = omega arith in
    let assorter = c.count-count.ensures.assorters c.loop-j.j (λ ranking. 0) below in
    let long : c.len.result ≡ length c.in_ok-odd.odd.items = omega (arith, c.len.ensures) in
    let left = few-left drawn c.in_ok-odd.odd.items c.len.result c.in_ok-odd.ensures long in
    let alike : length drawn - c.len.result ≡ length (filter is_alike drawn) = omega (arith, left) in
    let before = claim-counts values earlier c.args.before.now c.loop-j.j none below is in
    let clean = c.with_alike-clean.ensures
    ∙ more-alike value assorter earlier drawn (get_or c.args.before.now c.loop-j.j none) (length drawn - c.len.result) alike before in
    let odd : c.deref.result.now ≡ filter is_odd drawn = c.deref.ensures.value ∙ c.in_ok-odd.ensures in
    let counts = c.counts_over.ensures.counts (earlier ++ filter is_alike drawn) clean
    ∙ ap (λ (cards : List Drawn). counts_over value (earlier ++ filter is_alike drawn ++ cards)) odd ∙ all-parted value assorter earlier drawn in
    c.in_ok-push.ensures.items
    ∙ one-claim-more values (earlier ++ drawn) c.loop-j.all.items c.loop-j.j c.counts_over.result below (c.loop-j.invariant earlier is) counts

pub returns : goal.returns
returns g c = λ earlier is.
    let values = g.T.Claims.values c.args.claims.now in
    let all = all_counts values (earlier ++ c.args.drawn.now) in
    c.loop-j.invariant earlier is
    ∙ take_all c.loop-j.j all (omega (arith, length-map values (λ value. counts_over value (earlier ++ c.args.drawn.now)), c.requires.each))
