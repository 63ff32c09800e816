-- If the nodes suffice for each contest, an audit of all contests has one end.
use Rattle.std.proofs.Common.{◌≡◌, ◌≤◌, ◌<◌, ◌∙◌, ◌&&◌, ◌++◌, inl, inr, ℕ, zero, suc, Bool, List, [], ◌∷◌, None, Some, length, take, All, refl, sym, ap, subst, arith}
use Rattle.std.specs.List.{slice_get}
use Rattle.std.proofs.lemmas.Bool.Decides.{leb_tells}
use Rattle.std.proofs.lemmas.List.Elements.{All-cons, All-head, All-nil, All-tail}
use Rattle.ballots.specs.Ballots.{BallotFile}
use Rattle.manifest.specs.Cards.{Batches}
use Rattle.manifest.specs.Linked.{linked_of}
use Rattle.seen_file.specs.Seen.{Entry}
use Rattle.audit_session.specs.Refusals.{without_record}
use Rattle.audit_session.specs.declared.fault.AdvanceFault.TheVariants.{NoRecord}
use Rattle.cli_base.specs.Confirmed.{confirmed_kind}
use Rattle.cli_base.specs.Outcome.{Verdict, Answered, Refused}
use Rattle.command.specs.declared.contests.ContestsTask.{ContestsTask}
use Rattle.contest_search.specs.Budget.{nodes_for}
use Rattle.contest_search.proofs.Nodes.{spent_above}
use Rattle.contest_set.specs.Ends.{AreEnds, EndsAs}
use Rattle.contest_set.specs.Laws.{AreSame}
use Rattle.contest_set.specs.Refusals.{FirstLacksRecord, LacksRecord}
use Rattle.contest_set.specs.declared.end.ContestEnd.{ContestEnd}
use Rattle.contest_set.specs.declared.end.ContestEnd.TheVariants.{Tied, Spent, Audited}
use Rattle.contest_set.specs.declared.terms.SharedTerms.{SharedTerms}
use Rattle.contest_set.proofs.EndsEach.{one_end}
use Rattle.input_files.specs.Refusals.{no_card, no_record_text}
use Rattle.report.specs.Ends.{tie_text}
use Rattle.report.specs.Risks.{signed_off_line}
use Rattle.contests_command.specs.Contests.{Audits, IsUnspent, SufficeFor, terms_of}
use Rattle.contests_command.specs.Table.{all_signed, audited_lines, block, blocks, contest_line, end_lines, is_signed, last_line}

-- ---- one contest

-- two ends say the same of a contest
pub record TellSame (limit : ℕ) (ballots : BallotFile) (end other : ContestEnd) : Type 0 where
  pub lines : end_lines limit ballots end ≡ end_lines limit ballots other
  pub signed : is_signed end ≡ is_signed other

pub tell_same : (limit : ℕ) (ballots : BallotFile) (end other : ContestEnd) → AreSame end other → IsUnspent end → IsUnspent other →
    TellSame limit ballots end other
tell_same limit ballots (Spent last order margin) other same unspent unspent' = absurd unspent
tell_same limit ballots (Tied round tied tally) (Spent last order margin) same unspent unspent' = absurd unspent'
tell_same limit ballots (Audited file counts risks signed) (Spent last order margin) same unspent unspent' = absurd unspent'
tell_same limit ballots (Tied round tied tally) (Audited file counts risks signed) same unspent unspent' = absurd same
tell_same limit ballots (Audited file counts risks signed) (Tied round tied tally) same unspent unspent' = absurd same
tell_same limit ballots (Tied round tied tally) (Tied round' tied' tally') (r, t, v) unspent unspent' =
    record { lines = λ i. tie_text ballots.candidates (r i) (t i) (v i); signed = refl }
tell_same limit ballots (Audited file counts risks signed) (Audited file' counts' risks' signed') (f, c, r, s) unspent unspent' =
    record { lines = λ i. audited_lines limit (f i) (c i) (r i); signed = s }

pub same_block : (limit : ℕ) (ballots : BallotFile) (end other : ContestEnd) → TellSame limit ballots end other →
    block limit ballots end ≡ block limit ballots other
same_block limit ballots end other same = λ i. contest_line ballots.contest ++ same.lines i ++ signed_off_line (same.signed i)

module _ (batches : Batches) (terms : SharedTerms) where
  pub unspent : (ballots : BallotFile) (seen : List Entry) (end : ContestEnd) → SufficeFor terms.nodes ballots → EndsAs batches terms ballots seen end →
      IsUnspent end
  unspent ballots seen (Tied round tied tally) suffice is = tt
  unspent ballots seen (Spent last order margin) suffice is =
      let enough : nodes_for ballots is.won.order is.winner last ≤ terms.nodes = suffice is.winner last is.won is.named in
      let above : terms.nodes < nodes_for ballots is.won.order is.winner last = spent_above terms.nodes ballots last order margin is in
      omega (arith, enough, above)
  unspent ballots seen (Audited file counts risks signed) suffice is = tt

  -- a contest that has an end lacks no record
  lacks-none : (ballots : BallotFile) (seen : List Entry) (end : ContestEnd) (card k : ℕ) → SufficeFor terms.nodes ballots →
      EndsAs batches terms ballots seen end → LacksRecord batches terms ballots seen card k → ⊥
  lacks-none ballots seen (Tied round tied tally) card k suffice is lacks = is.0.undecided (lacks.found.is.winner, lacks.found.is.decided)
  lacks-none ballots seen (Spent last order margin) card k suffice is lacks = unspent ballots seen (Spent last order margin) suffice is
  lacks-none ballots seen (Audited file counts risks signed) card k suffice is lacks =
      let none : None ≡ Some (NoRecord card k) = sym is.none_unseen ∙ lacks.first in
      cc none

  -- ---- all contests

  pub all_tell_same : (limit : ℕ) (list : List BallotFile) (seen : List (List Entry)) (ends others : List ContestEnd) → All (SufficeFor terms.nodes) list →
      AreEnds batches terms list seen ends → AreEnds batches terms list seen others →
      (blocks limit list ends ≡ blocks limit list others) × (all_signed ends ≡ all_signed others)
  all_tell_same limit [] seen [] [] suffice are are' = (refl, refl)
  all_tell_same limit [] seen [] (other ∷ others) suffice are are' = absurd are'
  all_tell_same limit [] seen (end ∷ ends) others suffice are are' = absurd are
  all_tell_same limit (b ∷ list) [] [] [] suffice are are' = (refl, refl)
  all_tell_same limit (b ∷ list) [] [] (other ∷ others) suffice are are' = absurd are'
  all_tell_same limit (b ∷ list) [] (end ∷ ends) others suffice are are' = absurd are
  all_tell_same limit (b ∷ list) (s ∷ seen) [] others suffice are are' = absurd are
  all_tell_same limit (b ∷ list) (s ∷ seen) (end ∷ ends) [] suffice are are' = absurd are'
  all_tell_same limit (b ∷ list) (s ∷ seen) (end ∷ ends) (other ∷ others) suffice are are' =
      let own = All-head (SufficeFor terms.nodes) b list suffice in
      let same = tell_same limit b end other (one_end batches terms b s end other are.0 are'.0) (unspent b s end own are.0) (unspent b s other own are'.0) in
      let (more, signed) = all_tell_same limit list seen ends others (All-tail (SufficeFor terms.nodes) b list suffice) are.1 are'.1 in
      (λ i. same_block limit b end other same i ++ more i, λ i. same.signed i && signed i)

  -- the contest at a place has an end
  end-at : (list : List BallotFile) (seen : List (List Entry)) (ends : List ContestEnd) (place : ℕ) (ballots : BallotFile) (entries : List Entry) →
      All (SufficeFor terms.nodes) list → AreEnds batches terms list seen ends → slice_get list place ≡ Some ballots → slice_get seen place ≡ Some entries →
      (end : ContestEnd) × EndsAs batches terms ballots entries end × SufficeFor terms.nodes ballots
  end-at [] seen ends place ballots entries suffice are g h = absurd (cc g)
  end-at (b ∷ list) [] ends place ballots entries suffice are g h = absurd (cc h)
  end-at (b ∷ list) (s ∷ seen) [] place ballots entries suffice are g h = absurd are
  end-at (b ∷ list) (s ∷ seen) (end ∷ ends) zero ballots entries suffice are g h =
      let e : b ≡ ballots = cc g in
      let f : s ≡ entries = cc h in (
        end,
        subst (λ x. EndsAs batches terms x entries end) e (subst (λ x. EndsAs batches terms b x end) f are.0),
        subst (SufficeFor terms.nodes) e (All-head (SufficeFor terms.nodes) b list suffice),
      )
  end-at (b ∷ list) (s ∷ seen) (end ∷ ends) (suc place) ballots entries suffice are g h =
      end-at list seen ends place ballots entries (All-tail (SufficeFor terms.nodes) b list suffice) are.1 g h

get-take : {X : Type 0} (n i : ℕ) (xs : List X) → i < n → slice_get (take n xs) i ≡ slice_get xs i
get-take zero i xs less = absurd (omega (arith, less))
get-take (suc n) i [] less = refl
get-take (suc n) zero (x ∷ xs) less = refl
get-take (suc n) (suc i) (x ∷ xs) less = get-take n i xs (omega (arith, less))

All-take : {X : Type 0} (P : X → Type 0) (n : ℕ) (xs : List X) → All P xs → All P (take n xs)
All-take P zero xs all = All-nil P
All-take P (suc n) [] all = All-nil P
All-take P (suc n) (x ∷ xs) all = All-cons P x (take n xs) (All-head P x xs all) (All-take P n xs (All-tail P x xs all))

module _ (task : ContestsTask) (list : List BallotFile) (batches : Batches) (seen : List (List Entry)) (suffice : All (SufficeFor task.nodes) list) where
  abbrev terms : SharedTerms
  terms = terms_of task

  ends-or_lacks : (ends : List ContestEnd) (contest card k : ℕ) → AreEnds batches terms list seen ends →
      FirstLacksRecord batches terms list seen contest card k → ⊥
  ends-or_lacks ends contest card k are lacks =
      let (end, is, own) = end-at batches terms list seen ends contest lacks.ballots lacks.entries suffice are lacks.listed lacks.seen_for_it in
      lacks-none batches terms lacks.ballots lacks.entries end card k own is lacks.lacks

  -- if two contests lack a record, neither comes before the other
  not-before : (contest card k contest' card' k' : ℕ) → FirstLacksRecord batches terms list seen contest card k →
      FirstLacksRecord batches terms list seen contest' card' k' → contest < contest' → ⊥
  not-before contest card k contest' card' k' a b less =
      let (end, is, own) = end-at batches terms (take contest' list) (take contest' seen) b.earlier contest a.ballots a.entries
      (All-take (SufficeFor task.nodes) contest' list suffice) b.ends (get-take contest' contest list less ∙ a.listed)
      (get-take contest' contest seen less ∙ a.seen_for_it) in
      lacks-none batches terms a.ballots a.entries end card k own is a.lacks

  same-contest : (contest card k contest' card' k' : ℕ) → FirstLacksRecord batches terms list seen contest card k →
      FirstLacksRecord batches terms list seen contest' card' k' → contest ≡ contest'
  same-contest contest card k contest' card' k' a b = elim (leb_tells contest contest') [
    | inl (test, le) ↦ elim (leb_tells contest' contest) [
      | inl (test', le') ↦ omega (arith, le, le')
      | inr (test', lt) ↦ absurd (not-before contest card k contest' card' k' a b lt)
    ]
    | inr (test, lt) ↦ absurd (not-before contest' card' k' contest card k b a lt)
  ]

  same-draw : (contest card k contest' card' k' : ℕ) → FirstLacksRecord batches terms list seen contest card k →
      FirstLacksRecord batches terms list seen contest' card' k' → (card ≡ card') × (k ≡ k')
  same-draw contest card k contest' card' k' a b =
      let at = same-contest contest card k contest' card' k' a b in
      let ballots : Some a.ballots ≡ Some b.ballots = sym a.listed ∙ ap (slice_get list) at ∙ b.listed in
      let entries : Some a.entries ≡ Some b.entries = sym a.seen_for_it ∙ ap (slice_get seen) at ∙ b.seen_for_it in
      let same-ballots : a.ballots ≡ b.ballots = cc ballots in
      let same-entries : a.entries ≡ b.entries = cc entries in
      let first : Some (NoRecord card k) ≡ Some (NoRecord card' k') = sym a.lacks.first
      ∙ (λ i. without_record terms.seed (length (linked_of batches (same-ballots i))) (same-entries i) terms.draws) ∙ b.lacks.first in
      (cc first, cc first)

  pub audits_one : (v w : Verdict) → Audits task list batches seen v → Audits task list batches seen w → v ≡ w
  audits_one v w (inl a) (inl b) =
      let same : Some a.at ≡ Some b.at = sym a.first ∙ b.first in
      let at : a.at ≡ b.at = cc same in
      a.refused ∙ ap (no_card task.ballots) at ∙ sym b.refused
  audits_one v w (inl a) (inr (inl b)) = let no = sym a.first ∙ b.placed in absurd (cc no)
  audits_one v w (inl a) (inr (inr b)) = let no = sym a.first ∙ b.placed in absurd (cc no)
  audits_one v w (inr (inl a)) (inl b) = let no = sym b.first ∙ a.placed in absurd (cc no)
  audits_one v w (inr (inr a)) (inl b) = let no = sym b.first ∙ a.placed in absurd (cc no)
  audits_one v w (inr (inl a)) (inr (inr b)) = absurd (ends-or_lacks b.ends a.contest a.card a.k b.are a.lacks)
  audits_one v w (inr (inr a)) (inr (inl b)) = absurd (ends-or_lacks a.ends b.contest b.card b.k a.are b.lacks)
  audits_one v w (inr (inl a)) (inr (inl b)) =
      let (card, k) = same-draw a.contest a.card a.k b.contest b.card b.k a.lacks b.lacks in
      a.refused ∙ (λ i. Refused task.seen (no_record_text (card i) (k i))) ∙ sym b.refused
  audits_one v w (inr (inr a)) (inr (inr b)) =
      let (same, signed) = all_tell_same batches terms task.limit list seen a.ends b.ends suffice a.are b.are in
      a.told ∙ (λ i. Answered (confirmed_kind (signed i)) (same i ++ last_line (signed i))) ∙ sym b.told
