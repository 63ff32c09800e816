use Rattle.std.proofs.Common.{◌∙◌, length, Ok, Err, refl, sym, ap, arith}
use Rattle.std.specs.List.{slice_get}
use Rattle.std.proofs.lemmas.Option.{slice_get_read}
use Rattle.csv.specs.Records.{fields_of}
use Rattle.csv_rows.specs.Fields.{trimmed_fields}
use Rattle.irv_base.specs.Names.{is_same}
use Rattle.irv_base.proofs.Positions.{found_at, found_none}
use Rattle.ballots.specs.Ballots.{BallotFile}
use Rattle.contest_set.proofs.Records.{is-told, not-named, placed-by}
use Rattle.contest_set.proofs.record.told_of.Goals as goal

pub returns-in_default-contest_place-clause-broken : goal.returns-in_default-contest_place-clause-broken
returns-in_default-contest_place-clause-broken c = λ entries so_far.
    let three = c.in-Some-Some-Some in
    let placed = placed-by c.args.m.now (trimmed_fields (fields_of c.args.row.now)) c.of-fields.result c.next.new.self c.next-2.new.self c.next-3.new.self
    c.fields_behind.result three.id.now three.contest.now three.word.now c.in_ok-card.card c.card_of.result c.of-fields.ensures three.ensures.steps
    three.ensures'.steps three.ensures''.steps c.fields_behind.ensures c.card_of.ensures.value c.in_ok-card.was in
    let none = found_none (λ (ballots : BallotFile). is_same ballots.contest three.contest.now) c.args.list.now
    (sym c.contest_place.ensures.place ∙ c.in_default-contest_place.is) in
    not-named c.args.m.now c.args.list.now entries (trimmed_fields (fields_of c.args.row.now)) three.id.now three.contest.now three.word.now c.next-3.new.self
    c.in_ok-card.card placed none

pub returns-in-Ok-clause-told : goal.returns-in-Ok-clause-told
returns-in-Ok-clause-told c = λ entries so_far.
    let three = c.in-Some-Some-Some in
    let list = c.args.list.now in
    let place = c.in-Some.place in
    let ballots = c.index-list-place.result in
    let stood = c.index-earlier-place.result in
    let placed = placed-by c.args.m.now (trimmed_fields (fields_of c.args.row.now)) c.of-fields.result c.next.new.self c.next-2.new.self c.next-3.new.self
    c.fields_behind.result three.id.now three.contest.now three.word.now c.in_ok-card.card c.card_of.result c.of-fields.ensures three.ensures.steps
    three.ensures'.steps three.ensures''.steps c.fields_behind.ensures c.card_of.ensures.value c.in_ok-card.was in
    let named = found_at (λ (ballots : BallotFile). is_same ballots.contest three.contest.now) list place (sym c.contest_place.ensures.place ∙ c.in-Some.is) in
    let there = slice_get_read list (length list) place ballots refl c.in-Some.ensures.within c.index-list-place.is in
    let seen = slice_get_read c.args.earlier.now (length c.args.earlier.now) place stood refl (omega (arith, c.in-Some.ensures.within, c.requires.each))
    c.index-earlier-place.is in (
      ballots,
      there,
      is-told c.args.m.now list entries (trimmed_fields (fields_of c.args.row.now)) three.id.now three.contest.now three.word.now c.next-3.new.self
          c.in_ok-card.card placed place ballots stood named there (ap (λ x. slice_get x place) (sym so_far) ∙ seen) c.candidates-candidates.result.now
          c.candidates-candidates.ensures.same (Ok (c.in-Ok.card, c.in-Ok.seen)) (sym c.in-Ok.is ∙ c.entry_of_card.ensures.value),
    )

pub returns-in-Err-clause-broken : goal.returns-in-Err-clause-broken
returns-in-Err-clause-broken c = λ entries so_far.
    let three = c.in-Some-Some-Some in
    let list = c.args.list.now in
    let place = c.in-Some.place in
    let ballots = c.index-list-place.result in
    let stood = c.index-earlier-place.result in
    let placed = placed-by c.args.m.now (trimmed_fields (fields_of c.args.row.now)) c.of-fields.result c.next.new.self c.next-2.new.self c.next-3.new.self
    c.fields_behind.result three.id.now three.contest.now three.word.now c.in_ok-card.card c.card_of.result c.of-fields.ensures three.ensures.steps
    three.ensures'.steps three.ensures''.steps c.fields_behind.ensures c.card_of.ensures.value c.in_ok-card.was in
    let named = found_at (λ (ballots : BallotFile). is_same ballots.contest three.contest.now) list place (sym c.contest_place.ensures.place ∙ c.in-Some.is) in
    let there = slice_get_read list (length list) place ballots refl c.in-Some.ensures.within c.index-list-place.is in
    let seen = slice_get_read c.args.earlier.now (length c.args.earlier.now) place stood refl (omega (arith, c.in-Some.ensures.within, c.requires.each))
    c.index-earlier-place.is in
    is-told c.args.m.now list entries (trimmed_fields (fields_of c.args.row.now)) three.id.now three.contest.now three.word.now c.next-3.new.self
    c.in_ok-card.card placed place ballots stood named there (ap (λ x. slice_get x place) (sym so_far) ∙ seen) c.candidates-candidates.result.now
    c.candidates-candidates.ensures.same (Err c.in-Err.rule) (sym c.in-Err.is ∙ c.entry_of_card.ensures.value)
