use Rattle.std.proofs.Common.{refl, sym, ap, ◌∙◌}
use Rattle.sampler.specs.Seeds.{is_seed}
use Rattle.sampler.proofs.SeedBytes.{accepted, refused_byte, seed_held}
use Rattle.sampler.proofs.seed.Seed.read.Goals as goal

pub returns-in-Some-clause-valid : goal.returns-in-Some-clause-valid
returns-in-Some-clause-valid c =
    sym (refused_byte c.as_bytes-bytes.result.now c.in-Some.place (sym c.has_seed_length.ensures
    ∙ c.if-not-has_seed_length.false) (sym c.first_bad_byte.ensures ∙ c.in-Some.is)) ∙ ap is_seed c.as_bytes-bytes.ensures.value

pub invariant_of-result : goal.invariant_of-result
invariant_of-result c =
    seed_held c.as_bytes-bytes.result.now _ _ c.copy_from_slice.ensures.after refl
    (accepted c.as_bytes-bytes.result.now (sym c.has_seed_length.ensures ∙ c.if-not-has_seed_length.false) (sym c.first_bad_byte.ensures ∙ c.in_default.is))

pub returns-clause-valid : goal.returns-clause-valid
returns-clause-valid c =
    sym (accepted c.as_bytes-bytes.result.now (sym c.has_seed_length.ensures ∙ c.if-not-has_seed_length.false) (sym c.first_bad_byte.ensures
    ∙ c.in_default.is)) ∙ ap is_seed c.as_bytes-bytes.ensures.value
