-- A contest ends by itself, and in one way, unless its budget runs out.
use Rattle.std.proofs.Common.{◌≡◌, ◌∙◌, ℕ, zero, suc, ◌∷◌, [], List, sym, ap, subst}
use Rattle.irv_base.proofs.Ties.{first_tie_is_one}
use Rattle.ballots.specs.Ballots.{BallotFile}
use Rattle.assertion_file.specs.Content.{Content}
use Rattle.manifest.specs.Cards.{Batches}
use Rattle.manifest.specs.Linked.{linked_of}
use Rattle.session_state.specs.Sessions.{Round}
use Rattle.seen_file.specs.Seen.{Entry}
use Rattle.contest_search.proofs.Certificates.{certificate-one}
use Rattle.contest_search.specs.Contest.{candidate_count}
use Rattle.contest_set.specs.Ends.{EndsAs, are_confirmed, round_over}
use Rattle.contest_set.specs.Laws.{EndsAlone, OneEnd}
use Rattle.contest_set.specs.declared.end.ContestEnd.{ContestEnd}
use Rattle.contest_set.specs.declared.end.ContestEnd.TheVariants.{Tied, Spent, Audited}
use Rattle.contest_set.specs.declared.terms.SharedTerms.{SharedTerms}

-- the number of workers doesn't matter
any-workers : (batches : Batches) (terms : SharedTerms) (workers : ℕ) (ballots : BallotFile) (seen : List Entry) (end : ContestEnd) →
    EndsAs batches terms ballots seen end → EndsAs batches (record terms { workers = workers }) ballots seen end
any-workers batches terms workers ballots seen (Tied round tied tally) is = is
any-workers batches terms workers ballots seen (Spent last order margin) is = is
any-workers batches terms workers ballots seen (Audited file counts risks signed) is = record {
  found = is.found;
  none_unseen = is.none_unseen;
  counts_are = is.counts_are;
  risks_are = is.risks_are;
  signed_off = is.signed_off;
}

pub ends_alone : EndsAlone
ends_alone batches terms workers [] seen ends place ballots entries are g h = absurd cc
ends_alone batches terms workers (b ∷ list) [] ends place ballots entries are g h = absurd cc
ends_alone batches terms workers (b ∷ list) (s ∷ seen) [] place ballots entries are g h = absurd are
ends_alone batches terms workers (b ∷ list) (s ∷ seen) (end ∷ ends) zero ballots entries are g h =
    let e : b ≡ ballots = cc in
    let f : s ≡ entries = cc in (
      subst (λ x. EndsAs batches (record terms { workers = workers }) x entries end) e
          (subst (λ x. EndsAs batches (record terms { workers = workers }) b x end) f (any-workers batches terms workers b s end are.0)),
      tt,
    )
ends_alone batches terms workers (b ∷ list) (s ∷ seen) (end ∷ ends) (suc place) ballots entries are g h =
    ends_alone batches terms workers list seen ends place ballots entries are.1 g h

pub one_end : OneEnd
one_end batches terms ballots seen (Spent last order margin) other a b = tt
one_end batches terms ballots seen (Tied round tied tally) (Spent last order margin) a b = tt
one_end batches terms ballots seen (Tied round tied tally) (Tied round' tied' tally') a b =
    first_tie_is_one (candidate_count ballots) ballots.rankings round tied tally round' tied' tally' a.0.counted b.0.counted a.0.first b.0.first
one_end batches terms ballots seen (Tied round tied tally) (Audited file counts risks signed) a b = a.0.undecided (b.found.is.winner, b.found.is.decided)
one_end batches terms ballots seen (Audited file counts risks signed) (Spent last order margin) a b = tt
one_end batches terms ballots seen (Audited file counts risks signed) (Tied round tied tally) a b = b.0.undecided (a.found.is.winner, a.found.is.decided)
one_end batches terms ballots seen (Audited file counts risks signed) (Audited file' counts' risks' signed') a b =
    let same = certificate-one ballots file file' a.found.is b.found.is in
    let round : Content → Round = λ f. round_over terms (linked_of batches ballots) seen f in
    let same_risks = a.risks_are ∙ ap (λ f. (round f).risks) same ∙ sym b.risks_are in (
      same,
      a.counts_are ∙ ap (λ f. (round f).counts) same ∙ sym b.counts_are,
      same_risks,
      a.signed_off ∙ ap (are_confirmed terms.limit) same_risks ∙ sym b.signed_off,
    )
