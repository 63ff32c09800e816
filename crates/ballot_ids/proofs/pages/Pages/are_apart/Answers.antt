use Rattle.std.proofs.Common.{◌∙◌, sym}
use Rattle.std.proofs.lemmas.Bool.{false≢true}
use Rattle.ballot_ids.proofs.PagesLeft.{open-apart}
use Rattle.ballot_ids.proofs.pages.Pages.are_apart.Goals as goal

pub returns-else-is_apart : goal.returns-else-is_apart
returns-else-is_apart c = (
  λ t. absurd (false≢true (sym c.if-is_apart.false ∙ t)),
  λ all. c.is_apart.ensures ∙ open-apart c.args.self.now c.args.other.now all,
)
