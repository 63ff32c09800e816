use Rattle.std.proofs.Common.{replicate, get_or, ap, ◌∙◌}
use Rattle.irv_base.specs.Candidates.{has}
use Rattle.irv_base.specs.declared.limits.TheConstants.{ROOM}
use Rattle.cover_checker.proofs.Indexing.{no-member, nobody-wins}
use Rattle.cover_checker.proofs.refuting.Refuting.nothing.Goals as goal

pub returns : goal.returns
returns c = record {
  nebs = λ w l. ap (λ x. has (get_or (replicate ROOM x) l 0) w) c.empty-2.ensures ∙ nobody-wins w l;
  nens = λ w set. ap (λ x. has x w) (c.all.ensures.all set ∙ c.empty-3.ensures) ∙ no-member w;
}
