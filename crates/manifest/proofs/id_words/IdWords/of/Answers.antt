use Rattle.std.proofs.Common.{refl}
use Rattle.manifest.proofs.IdWords.{of_copied}
use Rattle.manifest.proofs.id_words.IdWords.of.Goals as goal

pub returns : goal.returns
returns c =
    rw (
      c.word_at.ensures,
      c.word_at-2.ensures,
      c.word_at-3.ensures,
      c.word_at-4.ensures,
      c.word_at-5.ensures,
      c.word_at-6.ensures,
      c.word_at-7.ensures,
      c.word_at-8.ensures,
    )
    (of_copied c.args.id.now _ _ _ c.bytes-own.ensures.same c.copy_from_slice.ensures.after refl)
