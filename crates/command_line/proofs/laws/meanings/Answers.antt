use Rattle.std.proofs.Common.{refl}
use Rattle.command_line.proofs.laws.meanings.Goals as goal

pub returns : goal.returns
returns c = record {
  tabulate = refl;
  tabulate_left_out = refl;
  search = refl;
  search_of_cards = refl;
  search_left_out = refl;
  search_fewest = refl;
  search_fewest_left_out = refl;
  check = refl;
  check_left_out = refl;
  trim = refl;
  trim_left_out = refl;
  adopt = refl;
  adopt_left_out = refl;
  sample = refl;
  plan = refl;
  plan_left_out = refl;
  open_all = refl;
  open_left_out = refl;
  audit = refl;
  audit_left_out = refl;
  report = refl;
  poll = refl;
  poll_left_out = refl;
  poll_each = refl;
  poll_each_left_out = refl;
  best_gammas = refl;
  open_plurality = refl;
  open_plurality_left_out = refl;
  audit_plurality = refl;
  contests = refl;
  contests_left_out = refl;
  trial = refl;
  trial_left_out = refl;
  two_words = refl;
  after_dashes = refl;
  equals_in_a_value = refl;
  hyphen_in_a_value = refl;
}
