use Rattle.std.proofs.Common.{◌≡◌, ◌++◌, flat_map, get_or, false, string_bytes}
use Rattle.std.specs.List.{range_with_len}
use Rattle.audit_report.specs.Session.{claim_in}
use Rattle.audit_report.proofs.session.add_claims.Given as goal

abbrev pub invariant-loop-i : goal.invariant-loop-i
invariant-loop-i l =
    string_bytes l.text ≡ string_bytes l.initial.text ++ flat_map (claim_in l.margins l.round (λ claim. get_or l.confirmed claim false)) (range_with_len 0 l.i)
