use Rattle.std.proofs.Common.{refl}
use Rattle.command_line.proofs.laws.search_lines.Goals as goal

pub returns : goal.returns
returns c = record { none = refl; two_words = refl; one_word = refl; before_the_file = refl; nine = refl; twice = refl; no_value = refl }
