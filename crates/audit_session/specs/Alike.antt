-- Drawn cards that are seen as recorded. Their discrepancy is 2, whatever a claim is about.
use Rattle.std.specs.Prelude.{◌==◌, ℕ, Bool, false, not, List, filter}
use Rattle.std.specs.Cmp.Lexicographic.{pointwise}
use Rattle.manifest.specs.declared.recorded.Recorded.{Recorded}
use Rattle.manifest.specs.declared.recorded.Recorded.TheVariants.{Ranked, Without}
use Rattle.assorters.specs.declared.seen.Seen.{Seen}
use Rattle.assorters.specs.declared.seen.Seen.TheVariants.{Found, Missing}
use Rattle.audit_session.specs.declared.compared.Drawn.{Drawn}

-- the card is found with this ranking
abbrev pub is_found_as : List ℕ → Seen → Bool
is_found_as ranking (Found seen) = pointwise ◌==◌ ranking seen
is_found_as ranking Missing = false

abbrev pub is_seen_as : Recorded → Seen → Bool
is_seen_as (Ranked ranking) seen = is_found_as ranking seen
is_seen_as Without seen = false

abbrev pub is_alike : Drawn → Bool
is_alike drawn = is_seen_as drawn.recorded drawn.seen

abbrev pub is_odd : Drawn → Bool
is_odd drawn = not (is_alike drawn)
