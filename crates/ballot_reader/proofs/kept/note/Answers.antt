use Rattle.std.proofs.Common.{length, refl, sym, subst}
use Rattle.std.proofs.lemmas.Option.{slice_get_read}
use Rattle.ballot_ids.specs.Noted.{AreNoted}
use Rattle.ballot_reader.proofs.Adding.{same_at}
use Rattle.ballot_reader.proofs.kept.note.Goals as goal

pub returns-clause-new : goal.returns-clause-new
returns-clause-new c = λ ids noted there are.
    let sets = c.args.sets.now.items in
    let stood = c.index_mut.result.now in
    let same = same_at sets c.args.place stood noted (slice_get_read sets (length sets) c.args.place stood refl c.requires c.index_mut.ensures.value) there in
    c.in_ok-new.ensures.new ids (subst (AreNoted ids) (sym same) are)

pub returns-clause-noted : goal.returns-clause-noted
returns-clause-noted c = λ ids noted there are new.
    let sets = c.args.sets.now.items in
    let stood = c.index_mut.result.now in
    let same = same_at sets c.args.place stood noted (slice_get_read sets (length sets) c.args.place stood refl c.requires c.index_mut.ensures.value) there in
    (c.note.new.self, refl, c.in_ok-new.ensures.noted ids (subst (AreNoted ids) (sym same) are) new)
