-- `poll MANIFEST ASSERTIONS SEEN`: whether what is seen of drawn cards confirms the assertions of a file.
use Rattle.std.specs.Prelude.{◌≡◌, ℕ, Bool, List, [], ◌∷◌, length, map, Option, None, Some, option_map, unwrap_or}
use Rattle.std.specs.Option.{option_or}
use Rattle.sampler.specs.Draws.{drawn_card}
use Rattle.manifest.specs.Cards.{Batches, cards_of}
use Rattle.manifest.specs.Manifest.{manifest_of}
use Rattle.assertion_file.specs.Content.{Content, candidate_count}
use Rattle.assertion_file.specs.Ids.{id_of}
use Rattle.assertion_file.specs.Reading.{assertion_file_of}
use Rattle.assorters.specs.declared.seen.Seen.{Seen}
use Rattle.cover_checker.specs.Covers.{first_over, standing_order}
use Rattle.cover_checker.specs.Findings.{assertions_of}
use Rattle.seen_file.specs.Reading.{seen_of}
use Rattle.seen_file.specs.Seen.{Entry}
use Rattle.session_state.specs.Claims.{values_of}
use Rattle.audit_session.specs.Going.{all_seen, drawn_cards}
use Rattle.audit_session.specs.Refusals.{unseen_draw}
use Rattle.polling.specs.Polls.{is_confirmed, poll_counts, poll_risk}
use Rattle.polling.specs.declared.counts.PollCounts.{PollCounts}
use Rattle.report.specs.Ends.{spent_at}
use Rattle.report.specs.Texts.{order_text}
use Rattle.cli_base.specs.Confirmed.{confirmed_kind}
use Rattle.cli_base.specs.Outcome.{Verdict, Answered, Refused}
use Rattle.cli_base.specs.declared.outcome.AnswerKind.{AnswerKind}
use Rattle.cli_base.specs.declared.outcome.AnswerKind.TheVariants.{Done, Spent, Differs, Unconfirmed}
use Rattle.cli_base.specs.Script.{Script, Read, Ends, ends}
use Rattle.command.specs.declared.poll.PollTask.{PollTask}
use Rattle.input_files.specs.Judged.{told, go_on}
use Rattle.input_files.specs.Refusals.{no_record_text, refused_assertions, refused_manifest, refused_seen}
use Rattle.check_command.specs.Check.{differs, stands}
use Rattle.poll_command.specs.Table.{poll_table}

-- ---- the assertions must refute each order that elects another candidate

-- more suffixes count for this candidate than there are nodes
abbrev pub spent : Content → ℕ → Verdict
spent file last = Answered Spent (spent_at (id_of file.candidates last))

-- this order elects another candidate, and no assertion refutes it
abbrev pub standing : Content → List ℕ → Verdict
standing file order = differs (stands (order_text file.candidates order))

-- how the call ends if the nodes aren't enough, or no assertion refutes an order
abbrev pub uncovered : ℕ → Content → Option Verdict
uncovered nodes file =
    let n : ℕ = candidate_count file in
    option_or (option_map (spent file) (first_over n file.winner (assertions_of file) nodes))
    (option_map (standing file) (standing_order n file.winner (assertions_of file)))

abbrev pub unless_ended : Option Verdict → Script → Script
unless_ended None next = next
unless_ended (Some verdict) next = ends verdict

abbrev pub if_covered : ℕ → Content → Script → Script
if_covered nodes file next = unless_ended (uncovered nodes file) next

-- ---- the poll of the cards of a manifest

-- with these entries of a seen file
module _ (task : PollTask) (batches : Batches) (file : Content) (entries : List Entry) where
  abbrev pub cards : ℕ
  cards = length (cards_of batches)

  -- the drawn cards, by their numbers
  abbrev pub drawn : List ℕ
  drawn = drawn_cards task.seed cards task.draws

  -- what is seen of each card
  abbrev pub seen : List Seen
  seen = all_seen entries cards

  -- how often each seen value occurred for each claim, and the printed risk of these counts
  abbrev pub counts : List PollCounts
  counts = map (λ value. poll_counts value seen drawn) (values_of file)

  abbrev pub risks : List ℕ
  risks = map (poll_risk task.gamma) counts

  -- each risk is within the limit
  abbrev pub is_yes : Bool
  is_yes = is_confirmed task.limit task.gamma (values_of file) seen drawn

  abbrev pub poll_text : List ℕ
  poll_text = poll_table file cards task.draws task.limit task.gamma counts risks is_yes

  -- the first draw whose card has no entry, if there is one
  abbrev pub unseen : Option Verdict
  unseen =
      option_map (λ k. Refused task.seen (no_record_text (drawn_card task.seed k cards) k))
      (unseen_draw task.seed cards entries task.draws)

  abbrev pub answered : Verdict
  answered = Answered (confirmed_kind is_yes) poll_text

  -- each drawn card must have been seen; then the poll prints its result
  abbrev pub Polls : Verdict → Type 0
  Polls verdict = verdict ≡ unwrap_or unseen answered

-- ---- the files, the last one first

module _ (task : PollTask) where
  -- the command reads what is seen of the cards
  abbrev pub after_cover : Batches → Content → Script
  after_cover batches file = Read task.seen (λ bytes.
      go_on (told (refused_seen task.seen) (seen_of batches file.candidates bytes)) (λ entries.
      Ends (Polls task batches file entries)))

  -- the seen file isn't read before the assertions are known to cover
  abbrev pub after_assertions : Batches → Content → Script
  after_assertions batches file = if_covered task.nodes file (after_cover batches file)

  abbrev pub after_manifest : Batches → Script
  after_manifest batches = Read task.assertions (λ bytes.
      go_on (told (refused_assertions task.assertions) (assertion_file_of bytes))
      (after_assertions batches))

  abbrev pub script : Script
  script = Read task.manifest (λ bytes.
      go_on (told (refused_manifest task.manifest) (manifest_of bytes)) after_manifest)

-- the kinds of its answers
abbrev pub kinds : List AnswerKind
kinds = Done ∷ Spent ∷ Differs ∷ Unconfirmed ∷ []
