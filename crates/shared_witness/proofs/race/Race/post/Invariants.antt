use Rattle.shared_witness.proofs.race.Race.post.Given as goal

abbrev pub ghosts-post_word : goal.ghosts-post_word
ghosts-post_word a = record { terms = a.words.now.shared.key }
