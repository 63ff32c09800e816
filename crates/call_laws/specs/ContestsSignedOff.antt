-- The risk limit of each contest in audits of all contests, from the words of their calls to the count. `ContestSignedOffAreFew`, at the
-- end, is the promise; the records before it are the premises. They are the same as for audits of one contest (`SignedOff.antt`), except
-- that there is no session, and the assertions are those that a search of the contest's ballots finds.
use Rattle.std.specs.Prelude.{◌≡◌, ◌≢◌, ℕ, ◌*◌, ◌^◌, ◌≤◌, true, List, length, All, AllPairs, Some, Ok, Vec}
use Rattle.std.specs.List.{slice_get}
use Rattle.std.specs.declared.alloc.Global.{Global}
use Rattle.desk.specs.Desk.{File}
use Rattle.ballots.specs.Ballots.{BallotFile}
use Rattle.ballots.specs.Grammar.{contests_of}
use Rattle.manifest.specs.Cards.{Batches, cards_of}
use Rattle.manifest.specs.Manifest.{manifest_of}
use Rattle.assertion_file.specs.Content.{Content, candidate_count}
use Rattle.km_risk.specs.Exact.{millionths_in_one}
use Rattle.km_risk.specs.declared.draws.Counts.{Counts}
use Rattle.seen_file.specs.Seen.{Entry}
use Rattle.audit_session.specs.Laws.{AreTrueEntries}
use Rattle.audit_laws.specs.RiskLimit.{MayElectAnother}
use Rattle.contest_search.specs.Certificate.{IsCertificateOfDecided}
use Rattle.contest_set.specs.declared.end.ContestEnd.TheVariants.{Audited}
use Rattle.raire_cli.specs.CardFiles.{CardBytes}
use Rattle.raire_cli.specs.Contests.{AuditsContests}
use Rattle.call_laws.specs.ContestsLimit.{drawn}

-- ---- what is given

-- What is announced before a seed is drawn: two files, one of the contests in them, and the terms.
pub record AnnouncedContest : Type 0 where
  -- the bytes of the ballots and of the manifest
  pub bytes : CardBytes
  -- the ballots of each contest and the cards that these bytes say
  pub list : List BallotFile
  pub ballots_say : contests_of bytes.ballots ≡ Ok list
  pub batches : Batches
  pub manifest_says : manifest_of bytes.manifest ≡ Ok batches
  -- the contest, at one place among them
  pub place : ℕ
  pub ballots : BallotFile
  pub listed : slice_get list place ≡ Some ballots
  -- the contest is decided, and these are its assertions
  pub file : Content
  pub certificate : IsCertificateOfDecided ballots file
  -- the limit in millionths, and gamma in thousandths
  pub limit : ℕ
  pub gamma : ℕ

-- ---- what is counted

-- The cards have these actual rankings in the contest, and no audit goes beyond this number of draws.
module _ (announced : AnnouncedContest) (actual : List (List ℕ)) (most : ℕ) where
  -- an audit of what was announced signs the contest off, and its seed draws this sequence
  pub record IsContestSignedOffOn (sequence : List ℕ) : Type 0 where
    -- `run` promises this if an audit of all contests ends with status 0 or 10 (`IsAuditedByContest`)
    pub words : List (List ℕ)
    pub files : List File
    pub audit : AuditsContests words files
    -- the contest has its assertions, counts and risks, and is signed off, however the other contests end
    pub file : Content
    pub counts : Vec Counts Global
    pub risks : Vec ℕ Global
    pub signed_off : slice_get audit.ends announced.place ≡ Some (Audited file counts risks true)
    -- it is about the files and terms that were announced
    pub same_files : audit.bytes.cards ≡ announced.bytes
    pub same_limit : audit.asks.task.limit ≡ announced.limit
    pub same_gamma : audit.asks.task.gamma ≡ announced.gamma
    -- it ends at any one of the draws of the sequence
    pub few : audit.asks.task.draws ≤ most
    -- each card that it drew is missing or was read as it is for this contest
    pub entries : List Entry
    pub seen : slice_get audit.inputs.seen announced.place ≡ Some entries
    pub true_entries : AreTrueEntries actual entries (drawn audit audit.asks.task.draws)
    -- the sequence is what its seed draws, even after the audit ends
    pub of_seed : sequence ≡ drawn audit most

-- ---- what is promised

-- The actual rankings, one for each card, may elect a candidate other than the winner that the contest's assertions name. Then an audit
-- signs the contest off on at most limit millionths of all cards ^ most sequences.
abbrev pub ContestSignedOffAreFew : Type 0
ContestSignedOffAreFew =
    (announced : AnnouncedContest) (actual : List (List ℕ)) (most : ℕ)
    (sequences : List (List ℕ)) →
    MayElectAnother (candidate_count announced.file) announced.file.winner
    (length (cards_of announced.batches)) actual →
    -- no two of the sequences are the same, and an audit signs the contest off on each
    AllPairs ◌≢◌ sequences →
    All (IsContestSignedOffOn announced actual most) sequences →
    length sequences * millionths_in_one
    ≤ announced.limit * length (cards_of announced.batches) ^ most
