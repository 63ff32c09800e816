use Rattle.std.proofs.Common.{◌≡◌, ◌∙◌, Some, length, refl, sym, ap}
use Rattle.std.specs.Cmp.Lexicographic.{bytes_decides}
use Rattle.std.proofs.lemmas.Option.{slice_get_read}
use Rattle.irv_base.specs.Names.{is_same}
use Rattle.ballot_ids.proofs.Differing.{position-at}
use Rattle.ballots.proofs.preferences.candidate_of.Goals as goal

pub returns-then-is_same : goal.returns-then-is_same
returns-then-is_same c =
    let candidates = c.args.candidates.now in
    let id = c.args.id.now in
    let guess = c.place-guess.result in
    let name = c.index-candidates-guess.result in
    let there = slice_get_read candidates (length candidates) guess name refl c.if-guess-candidates.true c.index-candidates-guess.is in
    let same : name ≡ id = (bytes_decides name id).0 (ap (λ n. is_same n id) (sym c.bytes.ensures.same) ∙ sym c.is_same.ensures ∙ c.if-is_same.true) in
    sym (position-at candidates guess id c.requires.differ (there ∙ ap Some same))
