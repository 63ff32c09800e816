-- The members found in a value, as what they state.
use Rattle.std.specs.Prelude.{map}
use Rattle.serde_json.specs.View.{view}
use Rattle.session_file.specs.Stated.{Entry, Heading}
use Rattle.session_file.specs.declared.members.Entry.{Entry as FoundEntry}
use Rattle.session_file.specs.declared.members.Heading.{Heading as FoundHeading}

abbrev pub stated_entry : FoundEntry → Entry
stated_entry found = record {
  counts = map view found.counts.now;
  draws = found.draws;
  risks = map view found.risks.now;
}

abbrev pub stated_heading : FoundHeading → Heading
stated_heading found = record {
  contest = found.contest.now;
  margins = map view found.margins.now;
  seed = found.seed.now;
  rounds = map view found.rounds.now;
  signed_off = found.signed_off;
  version = found.version;
  terms = found.terms;
  digests = found.digests;
}
