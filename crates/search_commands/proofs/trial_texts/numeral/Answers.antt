use Rattle.std.proofs.Common.{ap, ◌∙◌}
use Rattle.irv_base.specs.Names.{is_name}
use Rattle.search_commands.proofs.TrialCandidates.{decimal_is_name, read_some}
use Rattle.search_commands.proofs.trial_texts.numeral.Goals as goal

pub unwrap-requires : goal.unwrap-requires
unwrap-requires c =
    read_some c.read.result c.as_bytes.result.now c.read.ensures.none
    (ap is_name (c.as_bytes.ensures.value ∙ c.in_ok-text.ensures) ∙ decimal_is_name c.args.number c.ranges.number.fits)
