use Rattle.shared_witness.proofs.race.Race.look.Given as goal

abbrev pub ghosts-look_word : goal.ghosts-look_word
ghosts-look_word a = record { terms = a.words.now.shared.key }
