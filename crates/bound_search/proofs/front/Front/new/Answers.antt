use Rattle.std.proofs.Common.{refl}
use Rattle.bound_search.proofs.Sifting.{pushed_alone}
use Rattle.bound_search.proofs.Keeping.{front_start}
use Rattle.bound_search.proofs.front.Front.new.Goals as goal

pub returns-clause-front : goal.returns-clause-front
returns-clause-front c = λ bag number scored.
    front_start bag _ c.args.start number c.list-suffix.ensures.suffix scored refl
    (pushed_alone c.args.start _ _ c.new-suffixes.ensures.items c.in_ok-push.ensures.permutation) refl

pub returns-clause-alone : goal.returns-clause-alone
returns-clause-alone c = pushed_alone c.args.start _ _ c.new-suffixes.ensures.items c.in_ok-push.ensures.permutation
