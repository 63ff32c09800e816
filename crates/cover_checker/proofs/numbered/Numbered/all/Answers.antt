use Rattle.std.proofs.Common.{cond, nat_lt, length, unwrap_or, ap, ◌∙◌}
use Rattle.std.specs.Map.{lookup}
use Rattle.std.specs.Ordering.{is_eq, nat_cmp}
use Rattle.cover_checker.proofs.Numbers.{all-under}
use Rattle.cover_checker.proofs.numbered.Numbered.all.Goals as goal

pub returns-clause-all : goal.returns-clause-all
returns-clause-all g c = λ number.
    ap (λ entries. cond (nat_lt number (length c.args.near.items)) (Rattle.std.specs.Prelude.get_or c.args.near.items number c.args.none)
    (unwrap_or (lookup (λ k. is_eq (nat_cmp number k)) entries) c.args.none)) c.new.ensures.empty
    ∙ all-under c.args.near.items (nat_lt number (length c.args.near.items)) number c.args.none c.requires
