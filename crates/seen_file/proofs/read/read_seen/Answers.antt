use Rattle.std.proofs.Common.{◌∙◌, ◌+◌, ◌++◌, ◌∷◌, [], not, cond, refl, sym, ap, subst, arith}
use Rattle.std.specs.Prelude.{is_some}
use Rattle.csv.specs.Records.{fields_of}
use Rattle.csv_rows.specs.Fields.{numbered, numbered_records, trimmed_fields}
use Rattle.irv_base.proofs.Members.{member_nil}
use Rattle.irv_base.proofs.Distinct.{none}
use Rattle.seen_file.proofs.SoFar.{SeenSoFar, few, goes_on}
use Rattle.seen_file.proofs.read.read_seen.Goals as goal

pub records-init : goal.records-init
records-init c =
    rw (c.new-seen.ensures, c.of-rows.ensures, c.without_mark.ensures)
    record { rest = refl; numbered = refl; apart = none; within = λ card m. absurd (member_nil m) }

pub overflow_add-at : goal.overflow_add-at
overflow_add-at c =
    let i = c.records.invariant in
    let fewer = few c.args.manifest.now c.args.candidates.now (numbered_records c.args.bytes.now) c.records.seen c.records.at (numbered c.records.rows) i in
    omega (arith, fewer, i.numbered, c.cards-cards.ensures.all, c.cards-cards.ensures.most)

pub records-preserved : goal.records-preserved
records-preserved c =
    let row = trimmed_fields (fields_of c.read_numbered.new.row) in
    let left = numbered c.read_numbered.new.self in
    let next = rw c.if-branch.true at c.in_ok-read_numbered.ensures in
    let so_far = rw next at c.records.invariant in
    let entry = c.in-Ok.entry in
    let new = c.in_ok-put.ensures.told ∙ ap (λ o. not (is_some o)) c.in-Ok.ensures.new in
    let put = c.in_ok-put.ensures.put ∙ ap (λ b. cond b (c.records.seen ++ (entry.0, entry.1) ∷ []) c.records.seen) new in
    subst (λ seen. SeenSoFar c.args.manifest.now c.args.candidates.now (numbered_records c.args.bytes.now) seen (c.records.at + 1) left) (sym put)
    (goes_on c.args.manifest.now c.args.candidates.now (numbered_records c.args.bytes.now) c.records.seen c.records.at row left entry.0 entry.1
    so_far (sym c.in-Ok.ensures.value) c.in-Ok.ensures.new c.in-Ok.ensures.first c.in-Ok.ensures.last)
