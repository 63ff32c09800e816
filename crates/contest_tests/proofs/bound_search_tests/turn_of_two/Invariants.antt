use Rattle.contest_tests.proofs.bound_search_tests.turn_of_two.Given as goal

abbrev pub ghosts-first_turn : goal.ghosts-first_turn
ghosts-first_turn g a = record { name = a.blank.name; parts = a.blank.parts }
