use Rattle.std.proofs.Common.{◌≡◌, Ok, map, sym, ap, ap₂, ◌∙◌}
use Rattle.std.specs.Cmp.Lexicographic.{bytes_decides}
use Rattle.std.proofs.lemmas.Bool.{not-false}
use Rattle.assertions.specs.declared.assertion.Claim.{Claim}
use Rattle.claims_file.specs.Reading.{claims_of}
use Rattle.claims_file.proofs.FromFiles.{file_is_read}
use Rattle.claims_file.proofs.quick.claims_of_file.Goals as goal

pub returns : goal.returns
returns c =
    let file = c.in-Ok.file in
    let bytes = c.args.bytes.now in
    let contest : file.contest ≡ c.args.contest.now = sym c.contest.ensures
    ∙ (bytes_decides c.contest.result.now c.args.contest.now).0 (not-false _ (sym c.ne.ensures ∙ c.if-ne.false)) in
    let names : file.candidates ≡ c.args.names.now = sym c.candidates.ensures.same ∙ c.are_same.ensures c.if-not-are_same.false in
    let assertions = c.in-Ok-assertions_of.ensures ∙ ap (map (λ (claim : Claim). claim.assertion)) c.claims.ensures.same in
    ap₂ (λ contest ids. claims_of contest ids bytes) (sym contest) (sym names)
    ∙ file_is_read bytes file c.in-Ok.ensures.read
    ∙ ap₂ (λ winner assertions. Ok (record { winner = winner; assertions = assertions })) (sym c.winner.ensures.same) (sym assertions)
