use Rattle.std.proofs.Common.{◌≡◌, ℕ, List, ◌++◌, length, take, drop, Result, Ok, Err, IfOk, IfErr, sym, ap, subst, arith, ◌∙◌}
use Rattle.std.proofs.Math.Seq.{take-append_seam}
use Rattle.contest_set.specs.Refusals.{AreResults}
use Rattle.contest_set.proofs.Joining.{set-fault}
use Rattle.contest_set.proofs.all.audit_all.Goals as goal

on_ok : {T E : Type 0} {P Q : T → Type 0} (r : Result T E) → ((x : T) → P x → Q x) → IfOk r P → IfOk r Q
on_ok (Ok x) f h = f x h
on_ok (Err e) f h = h

on_err : {T E : Type 0} {P Q : E → Type 0} (r : Result T E) → ((e : E) → P e → Q e) → IfErr r P → IfErr r Q
on_err (Ok x) f h = h
on_err (Err e) f h = f e h

-- what a loan of the whole writes back
all_written : {A : Type 0} (n : ℕ) (xs ys : List A) → length xs ≡ n → take n (xs ++ ys) ≡ xs
all_written n xs ys len = ap (λ k. take k (xs ++ ys)) (sym len) ∙ take-append_seam xs ys

pub returns-clause-ends : goal.returns-clause-ends
returns-clause-ends g c =
    let made = c.in_ok-places.places in
    let results = c.run.new.places in
    let list = c.args.list.now in
    let same : length results ≡ length list = c.run.ensures.len ∙ ap length c.as_mut_slice.ensures.value ∙ c.in_ok-places.ensures in
    let all : take made.len (results ++ drop (length results) made.items) ≡ results =
    all_written made.len results (drop (length results) made.items) (omega (arith, same, c.in_ok-places.ensures, made.ok)) in
    on_ok c.joined.result (λ ends ready.
    ready c.args.m.now c.args.terms.now list c.args.seen.now (ap length all ∙ same) c.requires.seen
    (subst (AreResults c.args.m.now c.args.terms.now list c.args.seen.now) (sym all) c.run.ensures.results)) c.joined.ensures.ends

pub returns-clause-refused : goal.returns-clause-refused
returns-clause-refused g c =
    let made = c.in_ok-places.places in
    let results = c.run.new.places in
    let list = c.args.list.now in
    let same : length results ≡ length list = c.run.ensures.len ∙ ap length c.as_mut_slice.ensures.value ∙ c.in_ok-places.ensures in
    let all : take made.len (results ++ drop (length results) made.items) ≡ results =
    all_written made.len results (drop (length results) made.items) (omega (arith, same, c.in_ok-places.ensures, made.ok)) in
    on_err c.joined.result (λ fault ready.
    set-fault c.args.m.now c.args.terms.now list c.args.seen.now fault c.in_ok-see_cards.ensures.linked
    (ready c.args.m.now c.args.terms.now list c.args.seen.now (ap length all ∙ same) c.requires.seen
    (subst (AreResults c.args.m.now c.args.terms.now list c.args.seen.now) (sym all) c.run.ensures.results))) c.joined.ensures.fault
