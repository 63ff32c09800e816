use Rattle.contest_tests.proofs.suffix_tree_tests.scores_two_candidates.Given as goal

abbrev pub ghosts-longer : goal.ghosts-longer
ghosts-longer g a = record { name = a.blank.name; parts = a.blank.parts }
