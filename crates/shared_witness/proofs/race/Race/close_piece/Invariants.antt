use Rattle.shared_witness.proofs.race.Race.close_piece.Given as goal

abbrev pub ghosts-close_word : goal.ghosts-close_word
ghosts-close_word a = record { terms = a.words.now.shared.key; piece = a.piece }
