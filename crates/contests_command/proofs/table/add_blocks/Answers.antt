use Rattle.std.proofs.Common.{◌≡◌, ◌<◌, ◌++◌, get_or, length, string_bytes, subst, sym, arith}
use Rattle.contests_command.specs.Table.{CanBeTold, blocks}
use Rattle.contests_command.proofs.Lines.{all_zip_at, all_zip_long, block_more}
use Rattle.contests_command.proofs.table.add_blocks.Goals as goal

pub bounds-ends-i : goal.bounds-ends-i
bounds-ends-i c = omega (arith, c.loop-i-test.true, all_zip_long CanBeTold c.args.list.now c.args.ends.now c.requires.told)

pub add_block-requires-clause-told : goal.add_block-requires-clause-told
add_block-requires-clause-told c =
    let list = c.args.list.now in
    let ends = c.args.ends.now in
    let ballots = c.index-list-i.result in
    let end = c.index-ends-i.result in
    subst (λ b. CanBeTold b end) (sym c.index-list-i.is)
    (subst (λ e. CanBeTold (get_or list c.loop-i.i ballots) e) (sym c.index-ends-i.is)
    (all_zip_at CanBeTold list ends c.loop-i.i ballots end c.requires.told c.loop-i-test.true))

pub loop-i-preserved : goal.loop-i-preserved
loop-i-preserved c =
    let list = c.args.list.now in
    let ends = c.args.ends.now in
    let within : c.loop-i.i < length ends = omega (arith, c.loop-i-test.true, all_zip_long CanBeTold list ends c.requires.told) in
    block_more c.args.limit list ends c.loop-i.i c.index-list-i.result c.index-ends-i.result (string_bytes c.loop-i.text) (string_bytes c.add_block.new.text)
    (string_bytes c.args.text.now ++ blocks c.args.limit list ends) c.loop-i-test.true within c.index-list-i.is c.index-ends-i.is c.in_ok-add_block.ensures
    c.loop-i.invariant
