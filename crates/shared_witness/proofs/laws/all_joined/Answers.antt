use Rattle.shared_witness.proofs.Ends.{end_bound, end_taken}
use Rattle.shared_witness.proofs.laws.all_joined.Goals as goal

pub returns : goal.returns
returns c t m k v fits h at all = (end_bound t fits m k v h at all, end_taken t fits m k v h at all)
