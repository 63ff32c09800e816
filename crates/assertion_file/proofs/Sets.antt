-- The candidates of a set, one by one.
use Rattle.std.proofs.Common.{◌≡◌, ℕ, zero, suc, ◌+◌, ◌-◌, ◌^◌, ◌<◌, ◌≤◌, true, false, cond, List, [], ◌∷◌, ◌++◌, filter, sym, ap, subst, ◌∙◌, append-nil, arith}
use Rattle.std.proofs.lemmas.List.Elements.{filter-append}
use Rattle.serde.specs.Event.{Log, WritesEach}
use Rattle.serde.proofs.Events.{WritesEach-snoc}
use Rattle.irv_base.specs.Candidates.{candidates, has, members}
use Rattle.irv_base.specs.declared.limits.TheConstants.{ROOM}
use Rattle.irv_base.proofs.Ranges.{candidates-more}
use Rattle.irv_base.specs.Names.{Id}
use Rattle.assertion_file.proofs.Ranked.{has-above}
use Rattle.assertion_file.proofs.Sent.{SendsId}

abbrev pub members_below : ℕ → ℕ → List ℕ
members_below set c = filter (has set) (candidates c)

below-more : (set c : ℕ) → members_below set (c + 1) ≡ members_below set c ++ cond (has set c) (c ∷ []) []
below-more set c = ap (filter (has set)) (candidates-more c) ∙ filter-append (has set) (candidates c) (c ∷ [])

below-member : (set c : ℕ) → has set c ≡ true → members_below set (c + 1) ≡ members_below set c ++ c ∷ []
below-member set c h = below-more set c ∙ ap (λ b. members_below set c ++ cond b (c ∷ []) []) h

below-other : (set c : ℕ) → has set c ≡ false → members_below set (c + 1) ≡ members_below set c
below-other set c h = below-more set c ∙ ap (λ b. members_below set c ++ cond b (c ∷ []) []) h ∙ append-nil (members_below set c)

-- ---- sent so far

pub sent-member : (ids : List Id) (set c : ℕ) (first old new : Log) → has set c ≡ true → WritesEach (SendsId ids) (members_below set c) first old →
    SendsId ids c old new → WritesEach (SendsId ids) (members_below set (c + 1)) first new
sent-member ids set c first old new h so_far sent =
    subst (λ cs. WritesEach (SendsId ids) cs first new) (sym (below-member set c h))
    (WritesEach-snoc (SendsId ids) (members_below set c) c first old new so_far sent)

pub sent-other : (ids : List Id) (set c : ℕ) (first last : Log) → has set c ≡ false → WritesEach (SendsId ids) (members_below set c) first last →
    WritesEach (SendsId ids) (members_below set (c + 1)) first last
sent-other ids set c first last h so_far = subst (λ cs. WritesEach (SendsId ids) cs first last) (sym (below-other set c h)) so_far

-- ---- the number of candidates in the set

none-above : (set n more : ℕ) → set < 2 ^ n → members_below set (n + more) ≡ members_below set n
none-above set n zero small =
    let same : n + 0 ≡ n = omega arith in
    ap (members_below set) same
none-above set n (suc more) small =
    let next : n + suc more ≡ (n + more) + 1 = omega arith in
    ap (members_below set) next
    ∙ below-other set (n + more) (has-above set n (n + more) small (omega arith))
    ∙ none-above set n more small

pub members-within : (set n : ℕ) → set < 2 ^ n → n ≤ ROOM → members set ≡ members_below set n
members-within set n small few =
    let room : ROOM ≡ n + (ROOM - n) = omega arith in
    ap (members_below set) room ∙ none-above set n (ROOM - n) small
