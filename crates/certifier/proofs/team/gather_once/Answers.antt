use Rattle.std.proofs.Common.{◌≡◌, ℕ, List, ◌++◌, length, take, drop, Result, Ok, Err, IfOk, sym, ap, subst, arith, ◌∙◌}
use Rattle.std.proofs.Math.Seq.{take-append_seam}
use Rattle.irv_base.specs.declared.memory.Memory.{Memory}
use Rattle.certifier.specs.declared.part.Part.{Part}
use Rattle.certifier.specs.Parts.{AreParts}
use Rattle.certifier.proofs.team.gather_once.Goals as goal

on_ok : {P Q : Part → Type 0} (r : Result Part Memory) → ((p : Part) → P p → Q p) → IfOk r P → IfOk r Q
on_ok (Ok p) f h = f p h
on_ok (Err e) f h = h

-- what a loan of the whole has written back
all_written : {A : Type 0} (n : ℕ) (xs ys : List A) → length xs ≡ n → take n (xs ++ ys) ≡ xs
all_written n xs ys len = ap (λ k. take k (xs ++ ys)) (sym len) ∙ take-append_seam xs ys

pub returns : goal.returns
returns g c = λ records of is.
    let made = c.in_ok-parts.parts in
    let parts = c.run.new.parts in
    let workers = c.args.workers in
    let same : length parts ≡ workers = c.run.ensures.len ∙ ap length c.as_mut_slice.ensures.value ∙ c.in_ok-parts.ensures in
    let all : take made.len (parts ++ drop (length parts) made.items) ≡ parts =
    all_written made.len parts (drop (length parts) made.items) (omega (arith, same, c.in_ok-parts.ensures, made.ok)) in
    on_ok c.joined.result (λ p ready.
    ready c.args.counted.now.bag c.args.task.now workers records (ap length all
    ∙ same) (subst (AreParts c.args.counted.now.bag c.args.task.now workers) (sym all) c.run.ensures.parts) of is c.requires.0) c.joined.ensures
