-- Whatever the records are, some order is possible, namely the tabulated one.
use Rattle.irv_base.proofs.Tabulated.{tabulated_exists, tabulated-possible}
use Rattle.audit_laws.specs.Laws.{EachElectsAnother}

pub each_elects_another : EachElectsAnother
each_elects_another n winner cards actual long each =
    let (order, permutation, tabulated) = tabulated_exists n actual in
    let possible = tabulated-possible actual order tabulated in
    let (whole, (other, differs, elects)) = each order permutation possible in
    record { one_each = long; order = order; permutation = permutation; possible = possible; other = other; differs = differs; elects = elects }
