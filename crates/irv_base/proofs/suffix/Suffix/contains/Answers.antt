use Rattle.std.proofs.Common.{ap, drop, ◌∙◌}
use Rattle.irv_base.specs.Candidates.{has, is_in}
use Rattle.irv_base.specs.declared.limits.TheConstants.{ROOM}
use Rattle.irv_base.proofs.Suffixes.{suffix-has}
use Rattle.irv_base.proofs.suffix.Suffix.contains.Goals as goal

pub returns : goal.returns
returns c =
    c.has.ensures ∙ ap (λ s. has s c.args.c) c.self.invariant.members
    ∙ suffix-has ROOM (drop c.self.inside.start c.self.inside.places) c.args.c c.self.invariant.proper ∙ ap (λ s. is_in s c.args.c) c.self.view_is
