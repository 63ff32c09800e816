use Rattle.std.proofs.Common.{◌≡◌, ℕ, false, ◌||◌, sym, ap, subst, ◌∙◌}
use Rattle.certifier.proofs.Claiming.{right_or}
use Rattle.certifier.specs.Parts.{IsPartSoFar, in_either}
use Rattle.certifier.proofs.Parting.{part-same}
use Rattle.certifier.proofs.team.with_part.Goals as goal

pub returns-in-None : goal.returns-in-None
returns-in-None c = λ n records task own its so is.
    let none : (d : ℕ) → own d ≡ false = subst (IsPartSoFar n records task own) c.in-None.is so in
    part-same n records task its (in_either own its) c.args.part
    (λ d o b. record { below = o.below; alternative = o.alternative; meant = sym (ap (λ b. b || its d) (none d)) ∙ o.meant })
    (λ d o. record { below = o.below; alternative = o.alternative; meant = right_or (own d) (its d) o.meant }) is

pub returns-in-Some : goal.returns-in-Some
returns-in-Some c = rw c.in-Some.is c.join.ensures
