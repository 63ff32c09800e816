use Rattle.std.proofs.Common.{◌∙◌, sym, subst}
use Rattle.ballot_reader.specs.Kept.{WantsAudited}
use Rattle.ballot_reader.specs.declared.wanted.Wanted.TheVariants.{All as EachContest}
use Rattle.ballot_reader.proofs.Ended.{all-wanted}
use Rattle.ballot_reader.proofs.read.contests_behind.Goals as goal

pub ballots_left-requires-clause-sized : goal.ballots_left-requires-clause-sized
ballots_left-requires-clause-sized c =
    let sized = all-wanted c.deref.result.now c.deref.result.now c.in_ok-see_all_audited.ensures.audited in
    subst (λ contests. WantsAudited contests EachContest) (c.deref.ensures.value ∙ sym c.deref-2.ensures.value) sized

pub files_of-requires-clause-sized : goal.files_of-requires-clause-sized
files_of-requires-clause-sized c =
    let sized = all-wanted c.deref.result.now c.deref.result.now c.in_ok-see_all_audited.ensures.audited in
    subst (λ contests. WantsAudited contests EachContest) c.deref.ensures.value sized
