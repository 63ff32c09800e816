-- Contests by their ids.
use Rattle.std.proofs.Common.{◌≡◌, ◌∙◌, ℕ, zero, suc, true, false, cond, not, List, [], ◌∷◌, Some, sym, ap}
use Rattle.std.specs.List.{slice_get}
use Rattle.std.proofs.lemmas.Bool.{and_parts, not-true}
use Rattle.irv_base.specs.Names.{Id, is_among, is_same, all_differ}
use Rattle.ballots.specs.Ballots.{BallotFile}
use Rattle.ballot_reader.proofs.Adding.{same-comm, same-refl}
use Rattle.ballot_ids.proofs.Differing.{or-false}
use Rattle.contest_set.specs.SeenBy.{contest_ids, ballots_for}

-- a contest at a place among contests that lack an id
pub elsewhere : (list : List BallotFile) (id : Id) (k : ℕ) (ballots : BallotFile) → is_among (contest_ids list) id ≡ false →
    slice_get list k ≡ Some ballots → is_same ballots.contest id ≡ false
elsewhere [] id k ballots h g = absurd cc
elsewhere (b ∷ list) id zero ballots h g =
    let e : b ≡ ballots = cc in
    ap (λ (x : BallotFile). is_same x.contest id) (sym e) ∙ (or-false (is_same b.contest id) (is_among (contest_ids list) id) h).0
elsewhere (b ∷ list) id (suc k) ballots h g = elsewhere list id k ballots (or-false (is_same b.contest id) (is_among (contest_ids list) id) h).1 g

pub apart : (b : BallotFile) (list : List BallotFile) → all_differ (contest_ids (b ∷ list)) ≡ true →
    (is_among (contest_ids list) b.contest ≡ false) × (all_differ (contest_ids list) ≡ true)
apart b list h =
    let (out, rest) = and_parts (not (is_among (contest_ids list) b.contest)) (all_differ (contest_ids list)) h in
    (not-true (is_among (contest_ids list) b.contest) out, rest)

-- a contest is found by its id
pub named-itself : (list : List BallotFile) (k : ℕ) (ballots : BallotFile) → all_differ (contest_ids list) ≡ true → slice_get list k ≡ Some ballots →
    ballots_for list ballots.contest ≡ Some ballots
named-itself [] k ballots d g = absurd cc
named-itself (b ∷ list) zero ballots d g =
    let e : b ≡ ballots = cc in
    ap (λ (x : BallotFile). ballots_for (b ∷ list) x.contest) (sym e) ∙ ap (λ t. cond t (Some b) (ballots_for list b.contest)) (same-refl b.contest) ∙ ap Some e
named-itself (b ∷ list) (suc k) ballots d g =
    let other = same-comm b.contest ballots.contest ∙ elsewhere list b.contest k ballots (apart b list d).0 g in
    ap (λ t. cond t (Some b) (ballots_for list ballots.contest)) other ∙ named-itself list k ballots (apart b list d).1 g
