use Rattle.std.proofs.Common.{length, refl, sym, subst}
use Rattle.std.proofs.lemmas.Option.{slice_get_read}
use Rattle.ballot_ids.specs.Noted.{AreNoted}
use Rattle.ballot_reader.proofs.Adding.{same_at}
use Rattle.ballot_reader.proofs.kept_parts.join_at.Goals as goal

pub join-requires : goal.join-requires
join-requires c =
    let sets = c.args.sets.now.items in
    let stood = c.index_mut.result.now in
    c.requires.apart stood (slice_get_read sets (length sets) c.args.place stood refl c.requires.within c.index_mut.ensures.value)

pub returns : goal.returns
returns c = λ own there.
    let sets = c.args.sets.now.items in
    let stood = c.index_mut.result.now in
    let same = same_at sets c.args.place stood own
    (slice_get_read sets (length sets) c.args.place stood refl c.requires.within c.index_mut.ensures.value) there in
    (c.join.new.self, refl, λ met more are new. c.in_ok-join.ensures met more (subst (AreNoted met) (sym same) are) new)
