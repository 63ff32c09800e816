-- What is wrong with a file of an audit, in words.
use Rattle.std.specs.Prelude.{ℕ, List, ◌++◌, Option, None, Some, option_and_then, if◌then◌else◌, codes}
use Rattle.std.specs.Fmt.{decimal}
use Rattle.hex.specs.Hex.{encode_lower}
use Rattle.sha2.specs.Sha256.{sha256}
use Rattle.irv_base.specs.Names.{is_same}
use Rattle.km_risk.specs.declared.draws.Counts.{Counts}
use Rattle.audit_session.specs.declared.fault.AdvanceFault.{AdvanceFault}
use Rattle.audit_session.specs.declared.fault.AdvanceFault.TheVariants.{Smaller, NoRecord, Changed, Memory}
use Rattle.report.specs.Risks.{counts_text}
use Rattle.cli_base.specs.Outcome.{Verdict, Refused}
use Rattle.input_files.specs.Refusals.{no_record_text}

-- there is no session in the file
abbrev pub refused_session : List ℕ → Verdict
refused_session name = Refused name (codes "S1")

-- ---- a file that isn't the one of the session

abbrev pub digests_text : List ℕ → List ℕ → List ℕ
digests_text expected found = codes "S2 expected " ++ expected ++ codes " found " ++ found

abbrev pub differs_text : List ℕ → List ℕ → List ℕ
differs_text expected found = digests_text (encode_lower expected) (encode_lower found)

-- a file is refused if its bytes don't have the digest that the session has
abbrev pub other_digest : List ℕ → List ℕ → List ℕ → Option Verdict
other_digest name expected bytes =
    if is_same expected (sha256 bytes) then None
    else Some (Refused name (differs_text expected (sha256 bytes)))

-- the cards, the contest or the margins of a session aren't those of the other files
abbrev pub other_facts : List ℕ → Verdict
other_facts name = Refused name (codes "S5")

-- ---- a session that can't continue

abbrev pub had_text : ℕ → List ℕ
had_text had = codes "S4 had " ++ decimal had

abbrev pub counted_text : ℕ → ℕ → List ℕ → List ℕ → List ℕ
counted_text round claim expected found =
    codes "S3 round " ++ decimal round ++ codes " claim " ++ decimal claim ++ codes " expected "
    ++ expected ++ codes " found " ++ found

abbrev pub changed_text : ℕ → ℕ → Counts → Counts → List ℕ
changed_text round claim expected found =
    counted_text round claim (counts_text expected) (counts_text found)

-- the seen file lacks a card; any other fault is the session file's
abbrev pub refused_round : List ℕ → List ℕ → AdvanceFault → Option Verdict
refused_round session seen (Smaller had) = Some (Refused session (had_text had))
refused_round session seen (NoRecord card k) = Some (Refused seen (no_record_text card k))
refused_round session seen (Changed round claim expected found) =
    Some (Refused session (changed_text round claim expected found))
refused_round session seen Memory = None

abbrev pub refused_by : List ℕ → List ℕ → Option AdvanceFault → Option Verdict
refused_by session seen fault = option_and_then (refused_round session seen) fault
