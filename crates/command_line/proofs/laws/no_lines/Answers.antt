use Rattle.std.proofs.Common.{refl}
use Rattle.command_line.proofs.laws.no_lines.Goals as goal

pub returns : goal.returns
returns c = record {
  part_of_a_word = refl;
  longer_word = refl;
  part_of_an_option = refl;
  option_of_another_command = refl;
  limit_without_cards = refl;
  gamma_without_cards = refl;
  both_budgets = refl;
  sets_and_nodes = refl;
  sets_twice = refl;
  sets_of_a_tabulation = refl;
  fewest_and_nodes = refl;
  fewest_of_some = refl;
  fewest_twice = refl;
  fewest_limit_without_cards = refl;
  fewest_of_a_trial = refl;
  gap_without_fewest = refl;
  gap_twice = refl;
  hyphen_alone = refl;
  file_without_name = refl;
  hyphen_as_value = refl;
  value_left_empty = refl;
  file_too_many = refl;
  poll_without_draws = refl;
  poll_without_seed = refl;
  poll_with_large_gamma = refl;
  poll_with_best_gamma = refl;
  flag_with_value = refl;
  flag_twice = refl;
  flag_of_another_command = refl;
  round_with_seed = refl;
  opening_with_draws = refl;
  three_files = refl;
  contests_without_draws = refl;
  contests_of_one = refl;
  no_command = refl;
}
