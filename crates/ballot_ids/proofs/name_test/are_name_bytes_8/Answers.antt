use Rattle.std.proofs.Common.{take, drop, w8}
use Rattle.std.proofs.lemmas.Simd.{chunk-fits, length-chunk}
use Rattle.ballot_ids.proofs.Eight.{eight}
use Rattle.ballot_ids.proofs.name_test.are_name_bytes_8.Goals as goal

pub returns : goal.returns
returns c =
    let bytes = c.args.bytes.now in
    eight (take 8 (drop c.args.at bytes)) (length-chunk c.args.at 8 bytes c.requires) (chunk-fits w8 c.args.at 8 bytes c.type_inv.bytes)
