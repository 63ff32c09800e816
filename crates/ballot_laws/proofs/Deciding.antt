-- Records spell one file, or are refused once, and never both.
use Rattle.std.proofs.Common.{inl, inr, ◌∙◌, sym}
use Rattle.ballot_laws.specs.Deciding.{AreRefusedOnce, AreSpelledOrRefused, NeverBoth, SpellOne}
use Rattle.ballot_laws.proofs.Outcome.{decides, file_in, refused-so}
use Rattle.ballot_laws.proofs.Refused.{refusal-parts}
use Rattle.ballot_laws.proofs.Spelled.{records_spell_file, spells}

pub spelled_or_refused : AreSpelledOrRefused
spelled_or_refused asked rows = elim (decides asked rows) [
  | inl read ↦ inl (file_in rows read.0, spells asked rows read.0 read.1)
  | inr broken ↦ inr broken
]

pub spell_one : SpellOne
spell_one asked rows file other h k = let e = sym ((records_spell_file asked rows file).1 h) ∙ (records_spell_file asked rows other).1 k in cc

pub refused_once : AreRefusedOnce
refused_once asked rows rule other at place h k = refusal-parts rule other at place (sym (refused-so asked rows rule at h)
    ∙ refused-so asked rows other place k)

pub never_both : NeverBoth
never_both asked rows file rule at h k = let e = sym ((records_spell_file asked rows file).1 h) ∙ refused-so asked rows rule at k in cc
