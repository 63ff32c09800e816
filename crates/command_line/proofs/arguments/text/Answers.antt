use Rattle.std.proofs.Common.{◌∙◌, ap, []}
use Rattle.std.specs.Prelude.{unwrap_or}
use Rattle.clap.specs.Matches.{found_of}
use Rattle.clap.proofs.WalkLemmas.{first_value-rows}
use Rattle.command_line.proofs.Kept.{text-or}
use Rattle.command_line.proofs.arguments.text.Goals as goal

pub returns : goal.returns
returns c = λ text h.
    ap (λ s. s.now) c.unwrap_or.ensures ∙ text-or c.get_str.result _
    ∙ ap (λ t. unwrap_or t []) (c.get_str.ensures ∙ first_value-rows (found_of c.args.matches.now) c.args.id.now ∙ h)
