use Rattle.shared_witness.proofs.race.Race.take.Given as goal

abbrev pub ghosts-take_word : goal.ghosts-take_word
ghosts-take_word a = record { terms = a.words.now.shared.key }
