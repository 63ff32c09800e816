-- The ends of contests, in order.
use Rattle.std.proofs.Common.{◌≡◌, ◌∙◌, ℕ, zero, suc, ◌<◌, ◌++◌, ◌∷◌, [], List, Option, Some, None, Result, take, length, length-append, refl, sym, ap, subst, arith}
use Rattle.std.proofs.Math.Seq.{get_or-append_seam}
use Rattle.std.specs.Option.{option_or}
use Rattle.std.specs.List.{slice_get}
use Rattle.ballots.specs.Ballots.{BallotFile}
use Rattle.ballot_ids.proofs.IdBytes.{got}
use Rattle.manifest.specs.Cards.{Batches}
use Rattle.manifest.specs.Linked.{RefusesLink, first_without_card}
use Rattle.manifest.specs.declared.link_fault.LinkFault.{LinkFault}
use Rattle.manifest.specs.declared.link_fault.LinkFault.TheVariants.{NoCard as NoCardOf, Memory as MemoryOf}
use Rattle.seen_file.specs.Seen.{Entry}
use Rattle.contest_set.specs.Ends.{AreEnds, EndsAs}
use Rattle.contest_set.specs.Refusals.{AreResults, HasResult, IsJoinFault, IsOneFault, IsSetFault, LacksCard, as_set_fault, first_without_card_of_all}
use Rattle.contest_set.specs.declared.end.ContestEnd.{ContestEnd}
use Rattle.contest_set.specs.declared.fault.SetFault.{SetFault}
use Rattle.contest_set.specs.declared.fault.SetFault.TheVariants.{NoCard, NoRecord, Memory}
use Rattle.contest_set.specs.declared.terms.SharedTerms.{SharedTerms}

-- if each ballot has a card, each ballot of this contest has one
pub each-linked : (batches : Batches) (list : List BallotFile) (k : ℕ) (ballots : BallotFile) → first_without_card_of_all batches list ≡ None →
    slice_get list k ≡ Some ballots → first_without_card batches ballots ≡ None
each-linked batches [] k ballots h g = absurd cc
each-linked batches (b ∷ list) k ballots h g = by (first_without_card batches b) refl k h g (λ i rest at. each-linked batches list i ballots rest at) where
  by : (o : Option ℕ) → first_without_card batches b ≡ o → (k : ℕ) → option_or o (first_without_card_of_all batches list) ≡ None →
      slice_get (b ∷ list) k ≡ Some ballots →
      ((i : ℕ) → first_without_card_of_all batches list ≡ None → slice_get list i ≡ Some ballots → first_without_card batches ballots ≡ None) →
      first_without_card batches ballots ≡ None
  by (Some at) e k h g more = absurd cc
  by None e zero h g more = let s : b ≡ ballots = cc in subst (λ x. first_without_card batches x ≡ None) s e
  by None e (suc k) h g more = more k h g

-- a contest whose ballots aren't linked is the first one
pub lacks-card : (first rest : Option ℕ) (fault : LinkFault) → RefusesLink first fault → LacksCard (option_or first rest) (as_set_fault fault)
lacks-card first rest (NoCardOf at) h = ap (λ o. option_or o rest) h
lacks-card first rest MemoryOf h = tt

-- the result of the contest at a place
pub result-at : (batches : Batches) (terms : SharedTerms) (list : List BallotFile) (seen : List (List Entry))
    (results before rest : List (Result ContestEnd SetFault)) (one : Result ContestEnd SetFault) → results ≡ before ++ one ∷ rest →
    AreResults batches terms list seen results → HasResult batches terms list seen (length before) one
result-at batches terms list seen results before rest one whole h =
    let all : AreResults batches terms list seen (before ++ one ∷ rest) = subst (AreResults batches terms list seen) whole h in
    subst (HasResult batches terms list seen (length before)) (get_or-append_seam before one rest one)
    (all (length before) one (omega (arith, length-append before (one ∷ rest))))

-- a fault after the ends of the earlier contests
pub join-fault : (batches : Batches) (terms : SharedTerms) (list : List BallotFile) (seen : List (List Entry)) (ends : List ContestEnd) (place : ℕ)
    (ballots : BallotFile) (entries : List Entry) (fault : SetFault) → slice_get list place ≡ Some ballots → slice_get seen place ≡ Some entries →
    AreEnds batches terms (take place list) (take place seen) ends → IsOneFault batches terms ballots entries place fault →
    IsJoinFault batches terms list seen fault
join-fault batches terms list seen ends place ballots entries (NoCard at) there of are is = is
join-fault batches terms list seen ends place ballots entries (NoRecord contest card k) there of are (same, lacks) = record {
  ballots = ballots;
  listed = ap (slice_get list) same ∙ there;
  entries = entries;
  seen_for_it = ap (slice_get seen) same ∙ of;
  lacks = lacks;
  earlier = ends;
  ends = subst (λ i. AreEnds batches terms (take i list) (take i seen) ends) (sym same) are;
}
join-fault batches terms list seen ends place ballots entries Memory there of are is = tt

-- a contest's ballots and what is seen for it
pub both-at : (list : List BallotFile) (seen : List (List Entry)) (place : ℕ) → place < length list → length seen ≡ length list →
    (ballots : BallotFile) × (entries : List Entry) × (slice_get list place ≡ Some ballots) × (slice_get seen place ≡ Some entries)
both-at list seen place within same =
    let (ballots, there) = got list place within in
    let (entries, of) = got seen place (omega (arith, within, same)) in
    (ballots, entries, there, of)

-- if each ballot has a card
pub set-fault : (batches : Batches) (terms : SharedTerms) (list : List BallotFile) (seen : List (List Entry)) (fault : SetFault) →
    first_without_card_of_all batches list ≡ None → IsJoinFault batches terms list seen fault → IsSetFault batches terms list seen fault
set-fault batches terms list seen (NoCard at) none is = absurd is
set-fault batches terms list seen (NoRecord contest card k) none is = (none, is)
set-fault batches terms list seen Memory none is = tt

-- one more end
pub ends-more : (batches : Batches) (terms : SharedTerms) (k : ℕ) (list : List BallotFile) (seen : List (List Entry)) (ends : List ContestEnd)
    (ballots : BallotFile) (entries : List Entry) (end : ContestEnd) →
    AreEnds batches terms (take k list) (take k seen) ends → slice_get list k ≡ Some ballots → slice_get seen k ≡ Some entries →
    EndsAs batches terms ballots entries end → AreEnds batches terms (take (suc k) list) (take (suc k) seen) (ends ++ end ∷ [])
ends-more batches terms k [] seen ends ballots entries end are g h is = absurd cc
ends-more batches terms k (b ∷ list) [] ends ballots entries end are g h is = absurd cc
ends-more batches terms zero (b ∷ list) (s ∷ seen) [] ballots entries end are g h is =
    let e : b ≡ ballots = cc in
    let f : s ≡ entries = cc in
    (subst (λ x. EndsAs batches terms x s end) (sym e) (subst (λ x. EndsAs batches terms ballots x end) (sym f) is), tt)
ends-more batches terms zero (b ∷ list) (s ∷ seen) (x ∷ ends) ballots entries end are g h is = absurd are
ends-more batches terms (suc k) (b ∷ list) (s ∷ seen) [] ballots entries end are g h is = absurd are
ends-more batches terms (suc k) (b ∷ list) (s ∷ seen) (x ∷ ends) ballots entries end are g h is =
    (are.0, ends-more batches terms k list seen ends ballots entries end are.1 g h is)
