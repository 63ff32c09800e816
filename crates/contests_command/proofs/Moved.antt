-- The places of a contest's ballots in a file don't matter to its end.
use Rattle.std.proofs.Common.{◌≡◌, ◌⊎◌, inl, inr, ℕ, List}
use Rattle.budget.specs.declared.budget.Budget.TheVariants.{Nodes}
use Rattle.ballots.specs.Ballots.{BallotFile}
use Rattle.assertion_file.specs.Content.{Content}
use Rattle.manifest.specs.Cards.{Batches}
use Rattle.seen_file.specs.Seen.{Entry}
use Rattle.contest_search.specs.Budget.{IsCertificateSpent, IsRaceSpent, IsSpent}
use Rattle.contest_search.specs.Certificate.{IsCertificateOfDecided}
use Rattle.contest_search.specs.Contest.{IsOther}
use Rattle.contest_search.specs.Found.{FoundIn}
use Rattle.contest_search.specs.declared.found.Found.{Found}
use Rattle.contest_search.specs.declared.found.Found.TheVariants.{Certificate, Tie as FoundTie, Spent as FoundSpent, SpentSets}
use Rattle.contest_set.specs.Ends.{EndsAs}
use Rattle.contest_set.specs.declared.end.ContestEnd.{ContestEnd}
use Rattle.contest_set.specs.declared.end.ContestEnd.TheVariants.{Tied, Spent, Audited}
use Rattle.contest_set.specs.declared.terms.SharedTerms.{SharedTerms}

module _ (ballots : BallotFile) (places : List ℕ) where
  abbrev pub moved : BallotFile
  moved = record ballots { places = places }

  other-moved : (winner c : ℕ) → IsOther ballots winner c → IsOther moved winner c
  other-moved winner c other = record { candidate = other.candidate; other = other.other }

  certificate-moved : (file : Content) → IsCertificateOfDecided moved file → IsCertificateOfDecided ballots file
  certificate-moved file c = record { winner = c.winner; won = c.won; decided = c.decided; order = c.order; least = c.least; is = c.is }

  cause-moved : (nodes : ℕ) (tabulated : List ℕ) (winner last margin : ℕ) →
      IsRaceSpent nodes moved tabulated last ⊎ IsCertificateSpent nodes moved winner last margin →
      IsRaceSpent nodes ballots tabulated last ⊎ IsCertificateSpent nodes ballots winner last margin
  cause-moved nodes tabulated winner last margin (inl race) = inl (record { above = race.above })
  cause-moved nodes tabulated winner last margin (inr it) =
      inr (record { above = it.above; least = λ c other before. it.least c (other-moved winner c other) before; best = it.best })

  spent-moved : (nodes last : ℕ) (order : List ℕ) (margin : ℕ) → IsSpent nodes moved last order margin → IsSpent nodes ballots last order margin
  spent-moved nodes last order margin is = record {
    winner = is.winner;
    won = is.won;
    named = record { candidate = is.named.candidate; other = is.named.other };
    cause = cause-moved nodes is.won.order is.winner last margin is.cause;
    alternative = is.alternative;
    hardness = is.hardness;
    within = is.within;
    some = is.some;
  }

  found-moved : (nodes : ℕ) (found : Found) → FoundIn (Nodes nodes) moved found → FoundIn (Nodes nodes) ballots found
  unfolding certificate-moved
  found-moved nodes (Certificate file) found =
      record { is = certificate-moved file found.is; within = λ c other. found.within c (other-moved found.is.winner c other) }
  found-moved nodes (FoundTie round tied votes) (is, told) = (record { counted = is.counted; first = is.first; undecided = is.undecided }, told)
  found-moved nodes (FoundSpent last order margin) is = spent-moved nodes last order margin is
  found-moved nodes (SpentSets sets order margin) is = absurd is

  -- the number of workers doesn't matter either
  pub ends_moved : (batches : Batches) (terms : SharedTerms) (workers : ℕ) (seen : List Entry) (end : ContestEnd) →
      EndsAs batches (record terms { workers = workers }) moved seen end → EndsAs batches terms ballots seen end
  ends_moved batches terms workers seen (Tied round tied tally) is = found-moved terms.nodes (FoundTie round tied tally) is
  ends_moved batches terms workers seen (Spent last order margin) is = found-moved terms.nodes (FoundSpent last order margin) is
  ends_moved batches terms workers seen (Audited file counts risks signed) is = record {
    found = found-moved terms.nodes (Certificate file) is.found;
    none_unseen = is.none_unseen;
    counts_are = is.counts_are;
    risks_are = is.risks_are;
    signed_off = is.signed_off;
  }
