use Rattle.shared_witness.proofs.Keeps.{close_keeps, open_times}
use Rattle.shared_witness.proofs.laws.close_keeps.Goals as goal

pub returns : goal.returns
returns c t m k v piece h at left taken open_piece = close_keeps t m k v h at left piece (open_times v piece taken open_piece)
