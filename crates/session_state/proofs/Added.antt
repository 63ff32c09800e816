-- A session stays sound when a round is added.
use Rattle.std.proofs.Common.{ℕ, ◌<◌, ◌≤◌, List, [], ◌∷◌, ◌++◌, All, length, arith}
use Rattle.std.proofs.lemmas.List.Elements.{All-nil, All-cons, All-append, All-map, All-weaker}
use Rattle.std.proofs.lemmas.List.Quantifiers.{all_pairs_push}
use Rattle.irv_base.specs.declared.limits.TheConstants.{GREATEST_GAMMA, GREATEST_LIMIT, MOST_CARDS, MOST_DRAWS}
use Rattle.irv_base.specs.Names.{Id}
use Rattle.assertion_file.specs.Content.{Content as FileContent, IsSoundClaim, margins_of}
use Rattle.session_state.specs.declared.digests.Digests.{Digests}
use Rattle.session_state.specs.Content.{Content, IsSound, begun_with, with_round}
use Rattle.session_state.specs.Sessions.{Round, Session, IsRound}

-- what makes a round a round doesn't depend on the other rounds
moved : (session : Session) (rounds : List Round) (round : Round) → IsRound session round → IsRound (record session { rounds = rounds }) round
moved session rounds round is = record { some = is.some; each = is.each; all_draws = is.all_draws; printed = is.printed }

pub added : (content : Content) (round : Round) → IsSound content → IsRound content.session round →
    All (λ earlier. earlier.draws < round.draws) content.session.rounds → round.draws ≤ MOST_DRAWS → IsSound (with_round content round)
added content round sound is later most =
    let session = content.session in
    let rounds : List Round = session.rounds ++ round ∷ [] in
    record {
      limits = record {
        most_cards = sound.limits.most_cards;
        some_limit = sound.limits.some_limit;
        most_limit = sound.limits.most_limit;
        some_gamma = sound.limits.some_gamma;
        most_gamma = sound.limits.most_gamma;
        most_draws = All-append (λ r. r.draws ≤ MOST_DRAWS) session.rounds (round ∷ []) sound.limits.most_draws
            (All-cons (λ r. r.draws ≤ MOST_DRAWS) round [] most (All-nil (λ r. r.draws ≤ MOST_DRAWS)));
      };
      session = record {
        some = sound.session.some;
        margins = sound.session.margins;
        rising = all_pairs_push (λ r next. r.draws < next.draws) session.rounds round sound.session.rising later;
        rounds = All-append (IsRound (record session { rounds = rounds })) session.rounds (round ∷ [])
            (All-weaker (IsRound session) (IsRound (record session { rounds = rounds })) (λ r. moved session rounds r) session.rounds sound.session.rounds)
            (All-cons (IsRound (record session { rounds = rounds })) round [] (moved session rounds round is)
            (All-nil (IsRound (record session { rounds = rounds }))));
      };
    }

-- the margins of a file are at least one vote
pub margins-fit : (cards n records : ℕ) (file : FileContent) → All (λ claim. claim.margin ≤ cards) file.claims → All (IsSoundClaim n records) file.claims →
    All (λ margin. (1 ≤ margin) × (margin ≤ cards)) (margins_of file)
margins-fit cards n records file few sound =
    All-map (λ margin. (1 ≤ margin) × (margin ≤ cards)) (λ claim. claim.margin) file.claims
    (λ k d below. ((sound k d below).margin.some, few k d below))
