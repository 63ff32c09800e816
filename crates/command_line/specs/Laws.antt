-- The laws of lines.
use Rattle.std.specs.Prelude.{◌≡◌, ℕ, Bool, true, false, List, [], ◌∷◌, replicate, Some, None, is_some, codes}
use Rattle.command.specs.Search as search
use Rattle.command.specs.SearchFewest as search_fewest
use Rattle.command.specs.Tabulate as tabulate
use Rattle.command.specs.Check as check
use Rattle.command.specs.Trim as trim
use Rattle.command.specs.Adopt as adopt
use Rattle.command.specs.Sample as sample
use Rattle.command.specs.Plan as plan
use Rattle.command.specs.Open as opening
use Rattle.command.specs.Audit as audit
use Rattle.command.specs.Report as report
use Rattle.command.specs.Poll as poll
use Rattle.command.specs.PollEach as poll_each
use Rattle.command.specs.OpenPlurality as plurality_opening
use Rattle.command.specs.AuditPlurality as plurality_audit
use Rattle.command.specs.Contests as contests
use Rattle.command.specs.Trial as trial
use Rattle.command_line.specs.Line.{is_line, is_line_of, command_of}
use Rattle.command_line.specs.Table.{kind_of}
use Rattle.command_line.specs.Values.{is_number, is_value}
use Rattle.command_line.specs.declared.commands.Command.{Command}
use Rattle.command_line.specs.declared.commands.Command.TheVariants.{Search, SearchFewest, Tabulate, Check, Trim, Adopt, Sample, Plan, Open, Audit, Report, Poll, PollEach, OpenPlurality, AuditPlurality, Contests, Trial}
use Rattle.budget.specs.declared.budget.Budget.{Budget}
use Rattle.budget.specs.declared.budget.Budget.TheVariants as budget_of
use Rattle.budget.specs.declared.limits.TheConstants.{DEFAULT_NODES, MOST_SETS}
use Rattle.command.specs.declared.tabulate.TabulateTask.{TabulateTask}
use Rattle.command.specs.declared.search.SearchTask.{SearchTask}
use Rattle.command.specs.declared.search_fewest.SearchFewestTask.{SearchFewestTask}
use Rattle.command.specs.declared.check.CheckTask.{CheckTask}
use Rattle.command.specs.declared.trim.TrimTask.{TrimTask}
use Rattle.command.specs.declared.adopt.AdoptTask.{AdoptTask}
use Rattle.command.specs.declared.plan.PlanTask.{PlanTask}
use Rattle.command.specs.declared.open.OpenTask.{OpenTask}
use Rattle.command.specs.declared.audit.AuditTask.{AuditTask}
use Rattle.command.specs.declared.poll.PollTask.{PollTask}
use Rattle.command.specs.declared.poll_each.PollEachTask.{PollEachTask}
use Rattle.command.specs.declared.open_plurality.OpenPluralityTask.{OpenPluralityTask}
use Rattle.command.specs.declared.contests.ContestsTask.{ContestsTask}
use Rattle.command.specs.declared.trial.TrialTask.{TrialTask}
use Rattle.command.specs.declared.limits.TheConstants.{DEFAULT_WORKERS, DEFAULT_FLOOR, DEFAULT_GAP, DEFAULT_LIMIT, DEFAULT_GAMMA, DEFAULT_CANDIDATES, DEFAULT_BALLOTS}
use Rattle.command_line.specs.declared.table.CommandName.{CommandName}
use Rattle.command_line.specs.declared.table.OptionName.{OptionName}
use Rattle.command_line.specs.declared.table.OptionName.TheVariants.{Workers, Nodes, Sets, FewestSets, Fewest, Floor, Gap, Cards, Seed, Draws, Limit, Gamma, EachGamma, Each, Number, Candidates, Ballots}

-- Words are a line exactly if they have a meaning.
abbrev pub LinesHaveMeanings : Type 0
LinesHaveMeanings = (words : List (List ℕ)) → is_line words ≡ is_some (command_of words)

-- Words are a line of at most one command, even if two commands have the same word.
abbrev pub LinesAreOfOne : Type 0
LinesAreOfOne =
    (word : List ℕ) (words : List (List ℕ)) (a b : CommandName) →
    is_line_of a word words ≡ true → is_line_of b word words ≡ true → a ≡ b

-- ---- what a line asks for is checked

-- the files have names, the numbers are within their limits, and a seed is one
abbrev pub IsChecked : Command → Type 0
IsChecked (Search task) = search.IsWithinLimits task
IsChecked (SearchFewest task) = search_fewest.IsWithinLimits task
IsChecked (Tabulate task) = tabulate.IsWithinLimits task
IsChecked (Check task) = check.IsWithinLimits task
IsChecked (Trim task) = trim.IsWithinLimits task
IsChecked (Adopt task) = adopt.IsWithinLimits task
IsChecked (Sample task) = sample.IsWithinLimits task
IsChecked (Plan task) = plan.IsWithinLimits task
IsChecked (Open task) = opening.IsWithinLimits task
IsChecked (Audit task) = audit.IsWithinLimits task
IsChecked (Report task) = report.IsWithinLimits task
IsChecked (Poll task) = poll.IsWithinLimits task
IsChecked (PollEach task) = poll_each.IsWithinLimits task
IsChecked (OpenPlurality task) = plurality_opening.IsWithinLimits task
IsChecked (AuditPlurality task) = plurality_audit.IsWithinLimits task
IsChecked (Contests task) = contests.IsWithinLimits task
IsChecked (Trial task) = trial.IsWithinLimits task

abbrev pub LinesAreChecked : Type 0
LinesAreChecked = (words : List (List ℕ)) (command : Command) → command_of words ≡ Some command →
    IsChecked command

-- ---- texts on both sides of each limit

abbrev is_taken : OptionName → List ℕ → Bool
is_taken option text = is_value (kind_of option) text

pub record Examples : Type 0 where
  pub least_workers : is_taken Workers (codes "1") ≡ true
  pub no_workers : is_taken Workers (codes "0") ≡ false
  pub most_workers : is_taken Workers (codes "8") ≡ true
  pub more_workers : is_taken Workers (codes "9") ≡ false
  pub least_nodes : is_taken Nodes (codes "1") ≡ true
  pub no_nodes : is_taken Nodes (codes "0") ≡ false
  pub most_nodes : is_taken Nodes (codes "200000") ≡ true
  pub more_nodes : is_taken Nodes (codes "200001") ≡ false
  pub least_sets : is_taken Sets (codes "1") ≡ true
  pub no_sets : is_taken Sets (codes "0") ≡ false
  pub most_sets : is_taken Sets (codes "1048576") ≡ true
  pub more_sets : is_taken Sets (codes "1048577") ≡ false
  pub least_fewest_sets : is_taken FewestSets (codes "1") ≡ true
  pub no_fewest_sets : is_taken FewestSets (codes "0") ≡ false
  pub most_fewest_sets : is_taken FewestSets (codes "1048576") ≡ true
  pub more_fewest_sets : is_taken FewestSets (codes "1048577") ≡ false
  pub no_value_of_fewest : is_taken Fewest (codes "") ≡ true
  pub value_of_fewest : is_taken Fewest (codes "1") ≡ false
  pub least_floor : is_taken Floor (codes "1") ≡ true
  pub no_floor : is_taken Floor (codes "0") ≡ false
  pub most_floor : is_taken Floor (codes "1000000") ≡ true
  pub more_floor : is_taken Floor (codes "1000001") ≡ false
  pub no_gap : is_taken Gap (codes "0") ≡ true
  pub most_gap : is_taken Gap (codes "500") ≡ true
  pub more_gap : is_taken Gap (codes "501") ≡ false
  pub least_cards : is_taken Cards (codes "1") ≡ true
  pub no_cards : is_taken Cards (codes "0") ≡ false
  pub most_cards : is_taken Cards (codes "10000000") ≡ true
  pub more_cards : is_taken Cards (codes "10000001") ≡ false
  pub least_draws : is_taken Draws (codes "1") ≡ true
  pub no_draws : is_taken Draws (codes "0") ≡ false
  pub most_draws : is_taken Draws (codes "100000") ≡ true
  pub more_draws : is_taken Draws (codes "100001") ≡ false
  pub least_limit : is_taken Limit (codes "1") ≡ true
  pub no_limit : is_taken Limit (codes "0") ≡ false
  pub most_limit : is_taken Limit (codes "999999") ≡ true
  pub more_limit : is_taken Limit (codes "1000000") ≡ false
  pub least_gamma : is_taken Gamma (codes "1") ≡ true
  pub no_gamma : is_taken Gamma (codes "0") ≡ false
  pub most_gamma : is_taken Gamma (codes "500") ≡ true
  pub more_gamma : is_taken Gamma (codes "501") ≡ false
  pub least_each_gamma : is_taken EachGamma (codes "1") ≡ true
  pub no_each_gamma : is_taken EachGamma (codes "0") ≡ false
  pub most_each_gamma : is_taken EachGamma (codes "1000000") ≡ true
  pub more_each_gamma : is_taken EachGamma (codes "1000001") ≡ false
  pub best_gamma : is_taken EachGamma (codes "best") ≡ true
  pub longer_word : is_taken EachGamma (codes "best ") ≡ false
  pub no_value : is_taken Each (codes "") ≡ true
  pub some_value : is_taken Each (codes "1") ≡ false
  pub least_number : is_taken Number (codes "0") ≡ true
  pub most_number : is_taken Number (codes "4294967295") ≡ true
  pub more_number : is_taken Number (codes "4294967296") ≡ false
  pub fewest_candidates : is_taken Candidates (codes "2") ≡ true
  pub one_candidate : is_taken Candidates (codes "1") ≡ false
  pub most_candidates : is_taken Candidates (codes "32") ≡ true
  pub more_candidates : is_taken Candidates (codes "33") ≡ false
  pub one_ballot : is_taken Ballots (codes "1") ≡ true
  pub no_ballots : is_taken Ballots (codes "0") ≡ false
  pub most_ballots : is_taken Ballots (codes "1000000") ≡ true
  pub more_ballots : is_taken Ballots (codes "1000001") ≡ false
  pub ten_digits : is_number (codes "0000000001") ≡ true
  pub eleven_digits : is_number (codes "00000000001") ≡ false
  pub no_digits : is_number (codes "") ≡ false
  pub no_seed : is_taken Seed (codes "") ≡ false
  pub least_seed : is_taken Seed (codes "a") ≡ true
  pub longest_seed : is_taken Seed (replicate 64 0x61) ≡ true
  pub longer_seed : is_taken Seed (replicate 65 0x61) ≡ false
  pub first_seed_byte : is_taken Seed (0x20 ∷ []) ≡ true
  pub no_seed_byte : is_taken Seed (0x1F ∷ []) ≡ false
  pub last_seed_byte : is_taken Seed (0x7E ∷ []) ≡ true
  pub another_seed_byte : is_taken Seed (0x7F ∷ []) ≡ false

-- ---- lines

abbrev search_line : List (List ℕ) → List (List ℕ)
search_line options = codes "search" ∷ codes "a.raire" ∷ options

-- a search may have a number of workers, once
pub record Searches : Type 0 where
  pub none : is_line (search_line []) ≡ true
  pub two_words : is_line (search_line (codes "--workers" ∷ codes "8" ∷ [])) ≡ true
  pub one_word : is_line (search_line (codes "--workers=8" ∷ [])) ≡ true
  pub before_the_file : is_line
      (codes "search" ∷ codes "--workers" ∷ codes "1" ∷ codes "a.raire" ∷ []) ≡ true
  pub nine : is_line (search_line (codes "--workers=9" ∷ [])) ≡ false
  pub twice : is_line (search_line (codes "--workers=8" ∷ codes "--workers=8" ∷ [])) ≡ false
  pub no_value : is_line (search_line (codes "--workers" ∷ [])) ≡ false

abbrev sample_line : List (List ℕ) → List (List ℕ)
sample_line options = codes "sample" ∷ codes "m.csv" ∷ options

-- a sample needs a seed and a number of draws, in any order
pub record Samples : Type 0 where
  pub both : is_line
      (sample_line (codes "--seed" ∷ codes "2024" ∷ codes "--draws" ∷ codes "3" ∷ [])) ≡ true
  pub other_order : is_line (sample_line (codes "--draws=3" ∷ codes "--seed=2024" ∷ [])) ≡ true
  pub no_seed : is_line (sample_line (codes "--draws" ∷ codes "3" ∷ [])) ≡ false
  pub no_draws : is_line (sample_line (codes "--seed" ∷ codes "2024" ∷ [])) ≡ false
  pub two_seeds : is_line (sample_line
      (codes "--seed" ∷ codes "1" ∷ codes "--seed" ∷ codes "2" ∷ codes "--draws=3" ∷ [])) ≡ false

abbrev trial_line : List (List ℕ) → List (List ℕ)
trial_line options = codes "trial" ∷ options

-- a trial needs a number, and has no file
pub record Trials : Type 0 where
  pub number : is_line (trial_line (codes "--number" ∷ codes "7" ∷ [])) ≡ true
  pub no_number : is_line (trial_line []) ≡ false
  pub without_number : is_line (trial_line (codes "--candidates=6" ∷ codes "--ballots=100" ∷ []))
      ≡ false
  pub two_numbers : is_line (trial_line (codes "--number=7" ∷ codes "--number=7" ∷ [])) ≡ false
  pub with_file : is_line (trial_line (codes "--number=7" ∷ codes "a.raire" ∷ [])) ≡ false
  pub all : is_line (trial_line
      (codes "--nodes=9" ∷ codes "--workers=8" ∷ codes "--ballots=1" ∷ codes "--candidates=32"
      ∷ codes "--number=0" ∷ [])) ≡ true

-- ---- what a line asks for if it gives what it must and leaves out everything else

abbrev default_budget : Budget
default_budget = budget_of.Nodes DEFAULT_NODES

abbrev pub default_tabulate : TabulateTask
default_tabulate = record { ballots = codes "b"; contest = None; nodes = DEFAULT_NODES }

abbrev pub default_search : SearchTask
default_search = record {
  ballots = codes "b";
  contest = None;
  workers = DEFAULT_WORKERS;
  budget = default_budget;
  floor = DEFAULT_FLOOR;
  plan = None;
}

abbrev pub default_search_fewest : SearchFewestTask
default_search_fewest = record {
  ballots = codes "b";
  contest = None;
  workers = DEFAULT_WORKERS;
  sets = MOST_SETS;
  floor = DEFAULT_FLOOR;
  gap = DEFAULT_GAP;
  plan = None;
}

abbrev pub default_check : CheckTask
default_check =
    record { ballots = codes "b"; assertions = codes "a"; contest = None; budget = default_budget }

abbrev pub default_trim : TrimTask
default_trim =
    record { ballots = codes "b"; assertions = codes "a"; contest = None; budget = default_budget }

abbrev pub default_adopt : AdoptTask
default_adopt =
    record { ballots = codes "b"; claims = codes "c"; contest = None; budget = default_budget }

abbrev pub default_plan : PlanTask
default_plan = record {
  manifest = codes "m";
  assertions = codes "a";
  limit = DEFAULT_LIMIT;
  gamma = DEFAULT_GAMMA;
}

abbrev pub default_open : OpenTask
default_open = record {
  ballots = codes "b";
  manifest = codes "m";
  assertions = codes "a";
  seed = codes "s";
  contest = None;
  limit = DEFAULT_LIMIT;
  gamma = DEFAULT_GAMMA;
  budget = default_budget;
}

abbrev pub default_audit : AuditTask
default_audit = record {
  session = codes "s";
  ballots = codes "b";
  manifest = codes "m";
  assertions = codes "a";
  seen = codes "t";
  draws = 2;
  budget = default_budget;
}

abbrev pub default_poll : PollTask
default_poll = record {
  manifest = codes "m";
  assertions = codes "a";
  seen = codes "t";
  seed = codes "s";
  draws = 2;
  limit = DEFAULT_LIMIT;
  gamma = DEFAULT_GAMMA;
  nodes = DEFAULT_NODES;
}

abbrev pub default_poll_each : PollEachTask
default_poll_each = record {
  manifest = codes "m";
  assertions = codes "a";
  seen = codes "t";
  seed = codes "s";
  draws = 2;
  limit = DEFAULT_LIMIT;
  gamma = Some DEFAULT_GAMMA;
  nodes = DEFAULT_NODES;
}

abbrev pub default_open_plurality : OpenPluralityTask
default_open_plurality = record {
  ballots = codes "b";
  manifest = codes "m";
  seed = codes "s";
  contest = None;
  limit = DEFAULT_LIMIT;
  gamma = DEFAULT_GAMMA;
}

abbrev pub default_contests : ContestsTask
default_contests = record {
  ballots = codes "b";
  manifest = codes "m";
  seen = codes "t";
  draws = 2;
  seed = codes "s";
  limit = DEFAULT_LIMIT;
  gamma = DEFAULT_GAMMA;
  workers = DEFAULT_WORKERS;
  nodes = DEFAULT_NODES;
}

abbrev pub default_trial : TrialTask
default_trial = record {
  number = 0;
  candidates = DEFAULT_CANDIDATES;
  ballots = DEFAULT_BALLOTS;
  workers = DEFAULT_WORKERS;
  budget = default_budget;
}

-- a line of each command with all its options, and one with only the options that it needs
pub record Meanings : Type 0 where
  pub tabulate :
      command_of (codes "tabulate" ∷ codes "b" ∷ codes "--contest=c" ∷ codes "--nodes=2" ∷ [])
      ≡ Some (Tabulate (record default_tabulate { contest = Some (codes "c"); nodes = 2 }))
  pub tabulate_left_out :
      command_of (codes "tabulate" ∷ codes "b" ∷ []) ≡ Some (Tabulate default_tabulate)
  pub search :
      command_of (codes "search" ∷ codes "b" ∷ codes "--contest=c" ∷ codes "--workers=2"
      ∷ codes "--nodes=3" ∷ codes "--floor=4" ∷ codes "--cards=5" ∷ codes "--limit=6"
      ∷ codes "--gamma=7" ∷ [])
      ≡ Some (Search (record default_search {
        contest = Some (codes "c");
        workers = 2;
        budget = budget_of.Nodes 3;
        floor = 4;
        plan = Some (record { cards = 5; limit = 6; gamma = 7 });
      }))
  pub search_of_cards :
      command_of (codes "search" ∷ codes "b" ∷ codes "--cards=5" ∷ [])
      ≡ Some (Search (record default_search {
        plan = Some (record { cards = 5; limit = DEFAULT_LIMIT; gamma = DEFAULT_GAMMA });
      }))
  pub search_left_out :
      command_of (codes "search" ∷ codes "b" ∷ []) ≡ Some (Search default_search)
  pub search_fewest :
      command_of (codes "search" ∷ codes "--fewest" ∷ codes "b" ∷ codes "--contest=c"
      ∷ codes "--workers=2" ∷ codes "--sets=3" ∷ codes "--floor=4" ∷ codes "--gap=50"
      ∷ codes "--cards=5" ∷ codes "--limit=6" ∷ codes "--gamma=7" ∷ [])
      ≡ Some (SearchFewest (record default_search_fewest {
        contest = Some (codes "c");
        workers = 2;
        sets = 3;
        floor = 4;
        gap = 50;
        plan = Some (record { cards = 5; limit = 6; gamma = 7 });
      }))
  pub search_fewest_left_out :
      command_of (codes "search" ∷ codes "b" ∷ codes "--fewest" ∷ [])
      ≡ Some (SearchFewest default_search_fewest)
  pub check :
      command_of (codes "check" ∷ codes "b" ∷ codes "a" ∷ codes "--contest=c"
      ∷ codes "--nodes=2" ∷ [])
      ≡ Some (Check (record default_check {
        contest = Some (codes "c");
        budget = budget_of.Nodes 2;
      }))
  pub check_left_out :
      command_of (codes "check" ∷ codes "b" ∷ codes "a" ∷ []) ≡ Some (Check default_check)
  pub trim :
      command_of (codes "trim" ∷ codes "b" ∷ codes "a" ∷ codes "--contest=c"
      ∷ codes "--nodes=2" ∷ [])
      ≡ Some (Trim (record default_trim {
        contest = Some (codes "c");
        budget = budget_of.Nodes 2;
      }))
  pub trim_left_out :
      command_of (codes "trim" ∷ codes "b" ∷ codes "a" ∷ []) ≡ Some (Trim default_trim)
  pub adopt :
      command_of (codes "adopt" ∷ codes "b" ∷ codes "c" ∷ codes "--contest=d"
      ∷ codes "--nodes=2" ∷ [])
      ≡ Some (Adopt (record default_adopt {
        contest = Some (codes "d");
        budget = budget_of.Nodes 2;
      }))
  pub adopt_left_out :
      command_of (codes "adopt" ∷ codes "b" ∷ codes "c" ∷ []) ≡ Some (Adopt default_adopt)
  pub sample :
      command_of (codes "sample" ∷ codes "m" ∷ codes "--seed=s" ∷ codes "--draws=2" ∷ [])
      ≡ Some (Sample (record { manifest = codes "m"; seed = codes "s"; draws = 2 }))
  pub plan :
      command_of (codes "plan" ∷ codes "m" ∷ codes "a" ∷ codes "--limit=2" ∷ codes "--gamma=3" ∷ [])
      ≡ Some (Plan (record default_plan { limit = 2; gamma = 3 }))
  pub plan_left_out :
      command_of (codes "plan" ∷ codes "m" ∷ codes "a" ∷ []) ≡ Some (Plan default_plan)
  pub open_all :
      command_of (codes "open" ∷ codes "b" ∷ codes "m" ∷ codes "a" ∷ codes "--seed=s"
      ∷ codes "--contest=c" ∷ codes "--limit=2" ∷ codes "--gamma=3" ∷ codes "--nodes=4" ∷ [])
      ≡ Some (Open (record default_open {
        contest = Some (codes "c");
        limit = 2;
        gamma = 3;
        budget = budget_of.Nodes 4;
      }))
  pub open_left_out :
      command_of (codes "open" ∷ codes "b" ∷ codes "m" ∷ codes "a" ∷ codes "--seed=s" ∷ [])
      ≡ Some (Open default_open)
  pub audit :
      command_of (codes "audit" ∷ codes "s" ∷ codes "b" ∷ codes "m" ∷ codes "a" ∷ codes "t"
      ∷ codes "--draws=2" ∷ codes "--nodes=3" ∷ [])
      ≡ Some (Audit (record default_audit { budget = budget_of.Nodes 3 }))
  pub audit_left_out :
      command_of (codes "audit" ∷ codes "s" ∷ codes "b" ∷ codes "m" ∷ codes "a" ∷ codes "t"
      ∷ codes "--draws=2" ∷ [])
      ≡ Some (Audit default_audit)
  pub report :
      command_of (codes "report" ∷ codes "s" ∷ [])
      ≡ Some (Report (record { session = codes "s" }))
  pub poll :
      command_of (codes "poll" ∷ codes "m" ∷ codes "a" ∷ codes "t" ∷ codes "--seed=s"
      ∷ codes "--draws=2" ∷ codes "--limit=3" ∷ codes "--gamma=4" ∷ codes "--nodes=5" ∷ [])
      ≡ Some (Poll (record default_poll { limit = 3; gamma = 4; nodes = 5 }))
  pub poll_left_out :
      command_of (codes "poll" ∷ codes "m" ∷ codes "a" ∷ codes "t" ∷ codes "--seed=s"
      ∷ codes "--draws=2" ∷ [])
      ≡ Some (Poll default_poll)
  pub poll_each :
      command_of (codes "poll" ∷ codes "--each" ∷ codes "m" ∷ codes "a" ∷ codes "t"
      ∷ codes "--seed=s" ∷ codes "--draws=2" ∷ codes "--limit=3" ∷ codes "--gamma=501"
      ∷ codes "--nodes=5" ∷ [])
      ≡ Some (PollEach (record default_poll_each { limit = 3; gamma = Some 501; nodes = 5 }))
  pub poll_each_left_out :
      command_of (codes "poll" ∷ codes "m" ∷ codes "a" ∷ codes "t" ∷ codes "--seed=s"
      ∷ codes "--draws=2" ∷ codes "--each" ∷ [])
      ≡ Some (PollEach default_poll_each)
  pub best_gammas :
      command_of (codes "poll" ∷ codes "m" ∷ codes "a" ∷ codes "t" ∷ codes "--seed=s"
      ∷ codes "--draws=2" ∷ codes "--gamma" ∷ codes "best" ∷ codes "--each" ∷ [])
      ≡ Some (PollEach (record default_poll_each { gamma = None }))
  pub open_plurality :
      command_of (codes "plurality" ∷ codes "b" ∷ codes "m" ∷ codes "--seed=s"
      ∷ codes "--contest=c" ∷ codes "--limit=2" ∷ codes "--gamma=3" ∷ [])
      ≡ Some (OpenPlurality (record default_open_plurality {
        contest = Some (codes "c");
        limit = 2;
        gamma = 3;
      }))
  pub open_plurality_left_out :
      command_of (codes "plurality" ∷ codes "b" ∷ codes "m" ∷ codes "--seed=s" ∷ [])
      ≡ Some (OpenPlurality default_open_plurality)
  pub audit_plurality :
      command_of (codes "plurality" ∷ codes "s" ∷ codes "b" ∷ codes "m" ∷ codes "t"
      ∷ codes "--draws=2" ∷ [])
      ≡ Some (AuditPlurality (record {
        session = codes "s";
        ballots = codes "b";
        manifest = codes "m";
        seen = codes "t";
        draws = 2;
      }))
  pub contests :
      command_of (codes "contests" ∷ codes "b" ∷ codes "m" ∷ codes "t" ∷ codes "--seed=s"
      ∷ codes "--draws=2" ∷ codes "--limit=3" ∷ codes "--gamma=4" ∷ codes "--workers=5"
      ∷ codes "--nodes=6" ∷ [])
      ≡ Some (Contests (record default_contests {
        limit = 3;
        gamma = 4;
        workers = 5;
        nodes = 6;
      }))
  pub contests_left_out :
      command_of (codes "contests" ∷ codes "b" ∷ codes "m" ∷ codes "t" ∷ codes "--seed=s"
      ∷ codes "--draws=2" ∷ [])
      ≡ Some (Contests default_contests)
  pub trial :
      command_of (codes "trial" ∷ codes "--number=2" ∷ codes "--candidates=3"
      ∷ codes "--ballots=4" ∷ codes "--workers=5" ∷ codes "--nodes=6" ∷ [])
      ≡ Some (Trial (record {
        number = 2;
        candidates = 3;
        ballots = 4;
        workers = 5;
        budget = budget_of.Nodes 6;
      }))
  pub trial_left_out :
      command_of (codes "trial" ∷ codes "--number=0" ∷ []) ≡ Some (Trial default_trial)
  pub two_words :
      command_of (codes "plan" ∷ codes "--gamma" ∷ codes "3" ∷ codes "m" ∷ codes "--limit"
      ∷ codes "2" ∷ codes "a" ∷ [])
      ≡ Some (Plan (record { manifest = codes "m"; assertions = codes "a"; limit = 2; gamma = 3 }))
  pub after_dashes :
      command_of (codes "report" ∷ codes "--" ∷ codes "-s" ∷ [])
      ≡ Some (Report (record { session = codes "-s" }))
  pub equals_in_a_value :
      command_of (codes "sample" ∷ codes "m" ∷ codes "--seed=a=b" ∷ codes "--draws=007" ∷ [])
      ≡ Some (Sample (record { manifest = codes "m"; seed = codes "a=b"; draws = 7 }))
  pub hyphen_in_a_value :
      command_of (codes "sample" ∷ codes "m" ∷ codes "--seed=-1" ∷ codes "--draws=1" ∷ [])
      ≡ Some (Sample (record { manifest = codes "m"; seed = codes "-1"; draws = 1 }))

-- a line of each command that accepts a number of sets
pub record SetsMeanings : Type 0 where
  pub search :
      command_of (codes "search" ∷ codes "b" ∷ codes "--sets=8" ∷ [])
      ≡ Some (Search (record default_search { budget = budget_of.Sets 8 }))
  pub check :
      command_of (codes "check" ∷ codes "--sets" ∷ codes "8" ∷ codes "b" ∷ codes "a" ∷ [])
      ≡ Some (Check (record default_check { budget = budget_of.Sets 8 }))
  pub trim :
      command_of (codes "trim" ∷ codes "b" ∷ codes "a" ∷ codes "--sets=8" ∷ [])
      ≡ Some (Trim (record default_trim { budget = budget_of.Sets 8 }))
  pub adopt :
      command_of (codes "adopt" ∷ codes "b" ∷ codes "c" ∷ codes "--sets=8" ∷ [])
      ≡ Some (Adopt (record default_adopt { budget = budget_of.Sets 8 }))
  pub open_session :
      command_of (codes "open" ∷ codes "b" ∷ codes "m" ∷ codes "a" ∷ codes "--seed=s"
      ∷ codes "--sets=8" ∷ [])
      ≡ Some (Open (record default_open { budget = budget_of.Sets 8 }))
  pub audit :
      command_of (codes "audit" ∷ codes "s" ∷ codes "b" ∷ codes "m" ∷ codes "a" ∷ codes "t"
      ∷ codes "--draws=2" ∷ codes "--sets=8" ∷ [])
      ≡ Some (Audit (record default_audit { budget = budget_of.Sets 8 }))
  pub trial :
      command_of (codes "trial" ∷ codes "--sets=8" ∷ codes "--number=0" ∷ [])
      ≡ Some (Trial (record default_trial { budget = budget_of.Sets 8 }))

-- words that aren't a line
pub record NoLines : Type 0 where
  pub part_of_a_word : is_line (codes "searc" ∷ codes "b" ∷ []) ≡ false
  pub longer_word : is_line (codes "searches" ∷ codes "b" ∷ []) ≡ false
  pub part_of_an_option : is_line (codes "search" ∷ codes "b" ∷ codes "--node=3" ∷ []) ≡ false
  pub option_of_another_command :
      is_line (codes "tabulate" ∷ codes "b" ∷ codes "--floor=3" ∷ []) ≡ false
  pub limit_without_cards : is_line (codes "search" ∷ codes "b" ∷ codes "--limit=3" ∷ []) ≡ false
  pub gamma_without_cards : is_line (codes "search" ∷ codes "b" ∷ codes "--gamma=3" ∷ []) ≡ false
  pub both_budgets :
      is_line (codes "search" ∷ codes "b" ∷ codes "--nodes=1" ∷ codes "--sets=1" ∷ []) ≡ false
  pub sets_and_nodes :
      is_line (codes "check" ∷ codes "b" ∷ codes "a" ∷ codes "--sets=1" ∷ codes "--nodes=1" ∷ [])
      ≡ false
  pub sets_twice :
      is_line (codes "search" ∷ codes "b" ∷ codes "--sets=1" ∷ codes "--sets=1" ∷ []) ≡ false
  pub sets_of_a_tabulation :
      is_line (codes "tabulate" ∷ codes "b" ∷ codes "--sets=1" ∷ []) ≡ false
  pub fewest_and_nodes :
      is_line (codes "search" ∷ codes "b" ∷ codes "--fewest" ∷ codes "--nodes=1" ∷ []) ≡ false
  pub fewest_of_some :
      is_line (codes "search" ∷ codes "b" ∷ codes "--fewest=1" ∷ []) ≡ false
  pub fewest_twice :
      is_line (codes "search" ∷ codes "b" ∷ codes "--fewest" ∷ codes "--fewest" ∷ []) ≡ false
  pub fewest_limit_without_cards :
      is_line (codes "search" ∷ codes "b" ∷ codes "--fewest" ∷ codes "--limit=3" ∷ []) ≡ false
  pub fewest_of_a_trial :
      is_line (codes "trial" ∷ codes "--number=0" ∷ codes "--fewest" ∷ []) ≡ false
  pub gap_without_fewest : is_line (codes "search" ∷ codes "b" ∷ codes "--gap=3" ∷ []) ≡ false
  pub gap_twice :
      is_line (codes "search" ∷ codes "b" ∷ codes "--fewest" ∷ codes "--gap=1" ∷ codes "--gap=1" ∷ [])
      ≡ false
  pub hyphen_alone : is_line (codes "report" ∷ codes "-" ∷ []) ≡ false
  pub file_without_name : is_line (codes "report" ∷ codes "" ∷ []) ≡ false
  pub hyphen_as_value :
      is_line (codes "search" ∷ codes "b" ∷ codes "--contest" ∷ codes "-c" ∷ []) ≡ false
  pub value_left_empty : is_line (codes "search" ∷ codes "b" ∷ codes "--contest=" ∷ []) ≡ false
  pub file_too_many : is_line (codes "report" ∷ codes "s" ∷ codes "s" ∷ []) ≡ false
  pub poll_without_draws :
      is_line (codes "poll" ∷ codes "m" ∷ codes "a" ∷ codes "t" ∷ codes "--seed=s" ∷ []) ≡ false
  pub poll_without_seed :
      is_line (codes "poll" ∷ codes "m" ∷ codes "a" ∷ codes "t" ∷ codes "--draws=2" ∷ []) ≡ false
  pub poll_with_large_gamma :
      is_line (codes "poll" ∷ codes "m" ∷ codes "a" ∷ codes "t" ∷ codes "--seed=s"
      ∷ codes "--draws=2" ∷ codes "--gamma=501" ∷ []) ≡ false
  pub poll_with_best_gamma :
      is_line (codes "poll" ∷ codes "m" ∷ codes "a" ∷ codes "t" ∷ codes "--seed=s"
      ∷ codes "--draws=2" ∷ codes "--gamma=best" ∷ []) ≡ false
  pub flag_with_value :
      is_line (codes "poll" ∷ codes "m" ∷ codes "a" ∷ codes "t" ∷ codes "--seed=s"
      ∷ codes "--draws=2" ∷ codes "--each=" ∷ []) ≡ false
  pub flag_twice :
      is_line (codes "poll" ∷ codes "m" ∷ codes "a" ∷ codes "t" ∷ codes "--seed=s"
      ∷ codes "--draws=2" ∷ codes "--each" ∷ codes "--each" ∷ []) ≡ false
  pub flag_of_another_command :
      is_line (codes "report" ∷ codes "s" ∷ codes "--each" ∷ []) ≡ false
  pub round_with_seed :
      is_line (codes "plurality" ∷ codes "s" ∷ codes "b" ∷ codes "m" ∷ codes "t"
      ∷ codes "--draws=2" ∷ codes "--seed=s" ∷ []) ≡ false
  pub opening_with_draws :
      is_line (codes "plurality" ∷ codes "b" ∷ codes "m" ∷ codes "--seed=s"
      ∷ codes "--draws=2" ∷ []) ≡ false
  pub three_files :
      is_line (codes "plurality" ∷ codes "b" ∷ codes "m" ∷ codes "t" ∷ codes "--seed=s" ∷ [])
      ≡ false
  pub contests_without_draws :
      is_line (codes "contests" ∷ codes "b" ∷ codes "m" ∷ codes "t" ∷ codes "--seed=s" ∷ [])
      ≡ false
  pub contests_of_one :
      is_line (codes "contests" ∷ codes "b" ∷ codes "m" ∷ codes "t" ∷ codes "--seed=s"
      ∷ codes "--draws=2" ∷ codes "--contest=c" ∷ []) ≡ false
  pub no_command : is_line [] ≡ false
