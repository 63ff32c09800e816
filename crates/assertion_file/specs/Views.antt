-- The members that were looked up in a value, seen as what they state.
use Rattle.std.specs.Prelude.{List, map, option_map}
use Rattle.serde_json.specs.View.{view}
use Rattle.serde_json.specs.declared.value.Value.{Value}
use Rattle.irv_base.specs.Names.{Id}
use Rattle.assertion_file.specs.Stated.{Heading, Entry, texts_of}
use Rattle.assertion_file.specs.declared.members.Entry.{Entry as FoundEntry}
use Rattle.assertion_file.specs.declared.members.Heading.{Heading as FoundHeading}

-- the texts of these values
abbrev pub stated_ids : List Value → List Id
stated_ids values = texts_of (map view values)

abbrev pub stated_heading : FoundHeading → Heading
stated_heading found = record {
  assertions = map view found.assertions.now;
  candidates = stated_ids found.candidates.now;
  contest = found.contest.now;
  margin = found.margin;
  order = option_map (λ values. stated_ids values.now) found.order;
  records = found.records;
  terms = found.terms;
  version = found.version;
  winner = found.winner.now;
}

abbrev pub stated_entry : FoundEntry → Entry
stated_entry found = record {
  winner = found.winner.now;
  loser = found.loser.now;
  margin = found.margin;
  rest = option_map (λ values. stated_ids values.now) found.rest;
  draws = found.draws;
}
