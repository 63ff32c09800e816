-- The members that were looked up in a value, seen as what they state.
use Rattle.std.specs.Prelude.{map, option_map}
use Rattle.serde_json.specs.View.{view}
use Rattle.assertion_file.specs.Views.{stated_ids}
use Rattle.claims_file.specs.Stated.{Heading, Entry}
use Rattle.claims_file.specs.declared.members.Entry.{Entry as FoundEntry}
use Rattle.claims_file.specs.declared.members.Heading.{Heading as FoundHeading}

abbrev pub stated_heading : FoundHeading → Heading
stated_heading found = record {
  assertions = map view found.assertions.now;
  candidates = stated_ids found.candidates.now;
  contest = found.contest.now;
  winner = found.winner.now;
}

abbrev pub stated_entry : FoundEntry → Entry
stated_entry found = record {
  winner = found.winner.now;
  loser = found.loser.now;
  rest = option_map (λ values. stated_ids values.now) found.rest;
}
