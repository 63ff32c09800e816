-- `poll MANIFEST ASSERTIONS SEEN --each`: which draw confirms each assertion of a file, by what is seen of the drawn cards.
use Rattle.std.specs.Prelude.{◌≡◌, ℕ, Bool, List, length, Option, option_map, unwrap_or}
use Rattle.sampler.specs.Draws.{drawn_card}
use Rattle.manifest.specs.Cards.{Batches, cards_of}
use Rattle.manifest.specs.Manifest.{manifest_of}
use Rattle.assertion_file.specs.Content.{Content}
use Rattle.assertion_file.specs.Reading.{assertion_file_of}
use Rattle.assorters.specs.declared.seen.Seen.{Seen}
use Rattle.seen_file.specs.Reading.{seen_of}
use Rattle.seen_file.specs.Seen.{Entry}
use Rattle.audit_session.specs.Going.{all_seen, drawn_cards}
use Rattle.audit_session.specs.Refusals.{unseen_draw}
use Rattle.polling.specs.Each.{Polled, asked, ends_of, is_each_confirmed, polled_of}
use Rattle.polling.specs.declared.each.ClaimEnd.{ClaimEnd}
use Rattle.cli_base.specs.Confirmed.{confirmed_kind}
use Rattle.cli_base.specs.Outcome.{Verdict, Answered, Refused}
use Rattle.cli_base.specs.Script.{Script, Read, Ends}
use Rattle.command.specs.declared.poll_each.PollEachTask.{PollEachTask}
use Rattle.input_files.specs.Judged.{told, go_on}
use Rattle.input_files.specs.Refusals.{no_record_text, refused_assertions, refused_manifest, refused_seen}
use Rattle.poll_command.specs.EachLines.{each_table}
use Rattle.poll_command.specs.Poll.{if_covered}

-- ---- the poll of the cards of a manifest

-- with these entries of a seen file
module _ (task : PollEachTask) (batches : Batches) (file : Content) (entries : List Entry) where
  abbrev pub cards : ℕ
  cards = length (cards_of batches)

  -- the drawn cards, by their numbers
  abbrev pub drawn : List ℕ
  drawn = drawn_cards task.seed cards task.draws

  -- what is seen of each card
  abbrev pub seen : List Seen
  seen = all_seen entries cards

  -- the claims with their gammas
  abbrev pub claims : List Polled
  claims = polled_of task.gamma cards file

  -- how each claim ends
  abbrev pub ends : List ClaimEnd
  ends = ends_of task.limit claims seen drawn

  -- a draw confirms each claim
  abbrev pub is_yes : Bool
  is_yes = is_each_confirmed task.limit claims seen drawn

  -- the number of draws that are needed: those up to the one that confirms the last claim, or all
  abbrev pub draws_asked : ℕ
  draws_asked = asked task.limit claims seen drawn

  abbrev pub each_text : List ℕ
  each_text = each_table file cards task ends is_yes

  -- the first of these draws whose card has no entry, if there is one
  abbrev pub unseen : Option Verdict
  unseen =
      option_map (λ k. Refused task.seen (no_record_text (drawn_card task.seed k cards) k))
      (unseen_draw task.seed cards entries draws_asked)

  abbrev pub answered : Verdict
  answered = Answered (confirmed_kind is_yes) each_text

  -- each card that is needed must have been seen; then the poll prints its result
  abbrev pub PollsEach : Verdict → Type 0
  PollsEach verdict = verdict ≡ unwrap_or unseen answered

-- ---- the files, the last one first

module _ (task : PollEachTask) where
  -- the command reads what is seen of the cards
  abbrev pub after_cover : Batches → Content → Script
  after_cover batches file = Read task.seen (λ bytes.
      go_on (told (refused_seen task.seen) (seen_of batches file.candidates bytes)) (λ entries.
      Ends (PollsEach task batches file entries)))

  -- the seen file isn't read before the assertions are known to cover
  abbrev pub after_assertions : Batches → Content → Script
  after_assertions batches file = if_covered task.nodes file (after_cover batches file)

  abbrev pub after_manifest : Batches → Script
  after_manifest batches = Read task.assertions (λ bytes.
      go_on (told (refused_assertions task.assertions) (assertion_file_of bytes))
      (after_assertions batches))

  abbrev pub script : Script
  script = Read task.manifest (λ bytes.
      go_on (told (refused_manifest task.manifest) (manifest_of bytes)) after_manifest)
