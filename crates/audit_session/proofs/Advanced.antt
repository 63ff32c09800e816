-- The session with one more round is that of the draws.
use Rattle.std.proofs.Common.{◌≡◌, ◌∙◌, ℕ, ◌<◌, ◌≤◌, Bool, true, false, nat_le, Some, None, List, [], ◌∷◌, ◌++◌, All, get_or, length, length-append, map, take, refl, sym, ap, subst, arith}
use Rattle.std.specs.Prelude.{if◌then◌else◌}
use Rattle.std.proofs.lemmas.Bool.{leb-false, lt-leb}
use Rattle.std.proofs.Math.Seq.{get_or-append_seam}
use Rattle.std.proofs.lemmas.List.{get_or-map, length-map, map-append, take-map}
use Rattle.std.proofs.lemmas.List.Elements.{All-nil, All-cons, All-append, All-weaker}
use Rattle.std.proofs.lemmas.List.FromFn.{length-map-range_with_len}
use Rattle.std.proofs.lemmas.List.Quantifiers.{all_pairs_push}
use Rattle.std.proofs.lemmas.Simd.{map-map}
use Rattle.manifest.specs.declared.recorded.Recorded.{Recorded}
use Rattle.assorters.specs.declared.seen.Seen.{Seen}
use Rattle.assorters.specs.Cards.{IsAssorter}
use Rattle.km_risk.specs.Counts.{counts_of}
use Rattle.sampler.specs.Draws.{drawn_card}
use Rattle.session_state.specs.Claims.{audited_by}
use Rattle.session_state.specs.Content.{Content, IsSound, with_round}
use Rattle.session_state.specs.Draws.{Agrees, Audited, IsSessionOf, counts_after, round_to, session_to}
use Rattle.session_state.specs.Sessions.{Round, Session, IsRound}
use Rattle.session_state.proofs.Claims.{each-assorter, same-margins}
use Rattle.session_state.proofs.Replayed.{session_law}
use Rattle.seen_file.specs.Seen.{Entry}
use Rattle.audit_session.specs.declared.compared.Drawn.{Drawn}
use Rattle.audit_session.specs.declared.fault.AdvanceFault.TheVariants.{Smaller}
use Rattle.audit_session.specs.Going.{all_counts, all_seen, compared, counts_over, drawn_at, drawn_cards}
use Rattle.audit_session.specs.Refusals.{changed_from, first_of, last_draws, refusal, smaller, without_record}
use Rattle.audit_session.proofs.Changed.{before-last, first-none, unchanged-from}

-- ---- the counts over drawn cards are those after the draws
over-is : (value : List ℕ → ℕ) (recorded : List Recorded) (seen : List Seen) (ds : List ℕ) (k : ℕ) →
    counts_over value (take k (map (drawn_at recorded seen) ds)) ≡ counts_after value recorded seen ds k
over-is value recorded seen ds k =
    ap (λ drawn. counts_of (map (compared value) drawn)) (take-map (drawn_at recorded seen) k ds)
    ∙ ap counts_of (map-map (compared value) (drawn_at recorded seen) (take k ds))

pub counts-are : (values : List (List ℕ → ℕ)) (margins : List ℕ) → length margins ≡ length values →
    (recorded : List Recorded) (seen : List Seen) (ds : List ℕ) (k : ℕ) →
    all_counts values (take k (map (drawn_at recorded seen) ds)) ≡ map (λ claim. counts_after claim.value recorded seen ds k) (audited_by values margins)
counts-are [] [] each recorded seen ds k = refl
counts-are [] (margin ∷ margins) each recorded seen ds k = absurd (omega arith)
counts-are (value ∷ values) [] each recorded seen ds k = absurd (omega arith)
counts-are (value ∷ values) (margin ∷ margins) each recorded seen ds k =
    let first = over-is value recorded seen ds k in
    let rest = counts-are values margins (omega arith) recorded seen ds k in
    λ i. first i ∷ rest i

pub long-drawn : (recorded : List Recorded) (seen : List Seen) (seed : List ℕ) (n draws : ℕ) →
    length (map (drawn_at recorded seen) (drawn_cards seed n draws)) ≡ draws
long-drawn recorded seen seed n draws =
    length-map (drawn_cards seed n draws) (drawn_at recorded seen) ∙ length-map-range_with_len (λ k. drawn_card seed k n) 1 draws

-- if there are more draws, and each has its record, only the earlier rounds are left to be judged
pub refusal-is : (content : Content) (values : List (List ℕ → ℕ)) (recorded : List Recorded) (entries : List Entry) (draws : ℕ) →
    last_draws content.session.rounds < draws → without_record content.seed (length recorded) entries draws ≡ None →
    refusal content values recorded entries draws
    ≡ changed_from values (map (drawn_at recorded (all_seen entries (length recorded))) (drawn_cards content.seed (length recorded) draws)) 1
    content.session.rounds
refusal-is content values recorded entries draws more none =
    let changed = changed_from values (map (drawn_at recorded (all_seen entries (length recorded))) (drawn_cards content.seed (length recorded) draws)) 1
    content.session.rounds in
    let last = last_draws content.session.rounds in
    ap (λ b. first_of (if b then Some (Smaller last) else None) (first_of (without_record content.seed (length recorded) entries draws) changed))
    (lt-leb draws last more)
    ∙ ap (λ o. first_of o changed) none

module _ (content : Content) (values : List (List ℕ → ℕ)) (recorded : List Recorded) (entries : List Entry) (draws : ℕ)
    (cards : content.session.cards ≡ length recorded) (each : length content.session.margins ≡ length values)
    (of-values : All IsAssorter values) (sound : IsSound content) (some : 1 ≤ draws) where
  abbrev ds : List ℕ
  ds = drawn_cards content.seed (length recorded) draws

  abbrev seen : List Seen
  seen = all_seen entries (length recorded)

  abbrev drawn : List Drawn
  drawn = map (drawn_at recorded seen) ds

  abbrev session : Session
  session = content.session

  abbrev claims : List Audited
  claims = audited_by values session.margins

  abbrev pub next : Round
  next = round_to session.gamma claims recorded seen ds draws

  long : length ds ≡ draws
  long = length-map-range_with_len _ 1 draws

  -- each round is before the draws, if there are more of these than in the last round
  pub earlier : last_draws session.rounds < draws → All (λ round. round.draws < draws) session.rounds
  earlier more =
      All-weaker (λ r. r.draws ≤ last_draws session.rounds) (λ r. r.draws < draws) (λ r most. omega arith) session.rounds
      (before-last session.rounds (λ k d below. (sound.session.rounds k d below).some) sound.session.rising)

  margins-are : session.margins ≡ map (λ claim. claim.margin) claims
  margins-are = sym (same-margins values session.margins each)

  each-long : All (λ round. length round.counts ≡ length values) session.rounds
  each-long = λ k d below. (sound.session.rounds k d below).each ∙ each

  some-claim : 1 ≤ length claims
  some-claim = let n = sound.session.some in let a = ap length margins-are ∙ length-map claims (λ claim. claim.margin) in omega (arith, n, a)

  within : All (λ claim. (1 ≤ claim.margin) × (claim.margin ≤ length recorded)) claims
  within = λ k d below.
      let at = get_or-map (λ (claim : Audited). claim.margin) claims k d 0 below in
      let here = sound.session.margins k 0 (rw margins-are (rw (length-map claims (λ claim. claim.margin)) below)) in
      let same : get_or session.margins k 0 ≡ (get_or claims k d).margin = ap (λ ms. get_or ms k 0) margins-are ∙ at in
      (omega (arith, here, same), omega (arith, here, same, cards))

  assorters : All (λ claim. IsAssorter claim.value) claims
  assorters = each-assorter values session.margins of-values

  module _ (none : refusal content values recorded entries draws ≡ None) where
    parts : (smaller session.rounds draws ≡ None) × (without_record content.seed (length recorded) entries draws ≡ None)
        × (changed_from values drawn 1 session.rounds ≡ None)
    parts =
        let a = first-none (smaller session.rounds draws) _ none in
        let b = first-none (without_record content.seed (length recorded) entries draws) (changed_from values drawn 1 session.rounds) a.1 in
        (a.0, b.0, b.1)

    pub more : last_draws session.rounds < draws
    more = by (nat_le draws (last_draws session.rounds)) refl where
      by : (b : Bool) → nat_le draws (last_draws session.rounds) ≡ b → last_draws session.rounds < draws
      by true h =
          let refused : Some (Smaller (last_draws session.rounds)) ≡ None = sym (ap (λ b. if b then Some (Smaller (last_draws session.rounds)) else None) h)
          ∙ parts.0 in
          absurd cc
      by false h = leb-false draws (last_draws session.rounds) h

    agrees : Agrees session.limit session.gamma claims recorded seen ds session
    agrees = record {
      cards = cards;
      margins = margins-are;
      same_limit = refl;
      same_gamma = refl;
      drawn = All-weaker (λ r. r.draws < draws) (λ r. r.draws ≤ length ds) (λ r before. omega (arith, long)) session.rounds (earlier more);
      counts = λ k d below.
          unchanged-from values drawn 1 session.rounds each-long (λ n. length-map values (λ value. counts_over value (take n drawn))) parts.2 k d below
          ∙ counts-are values session.margins each recorded seen ds (get_or session.rounds k d).draws;
    }

    -- the same with its last round
    pub of-draws : IsSessionOf session.limit session.gamma claims recorded seen ds (with_round content next).session
    of-draws =
        let old = (session_law session.limit session.gamma claims recorded seen ds session some-claim assorters within).1 (sound.session, agrees) in
        let to = session_to session.limit session.gamma claims recorded seen ds in
        let round = round_to session.gamma claims recorded seen ds in
        let ends : List ℕ = old.ends ++ draws ∷ [] in
        let rounds-are : session.rounds ≡ map round old.ends = ap (λ (s : Session). s.rounds) old.is in
        record {
          ends = ends;
          are = record {
            rising = all_pairs_push ◌<◌ old.ends draws old.are.rising (λ k d below.
                let at = get_or-map round old.ends k d next below in
                let before = earlier more k next (rw (rounds-are, length-map old.ends round) below) in
                let same : (get_or session.rounds k next).draws ≡ get_or old.ends k d = ap (λ (rs : List Round). (get_or rs k next).draws) rounds-are
                ∙ ap (λ (r : Round). r.draws) at in
                omega (arith, before, same));
            some = All-append (λ e. 1 ≤ e) old.ends (draws ∷ []) old.are.some (All-cons (λ e. 1 ≤ e) draws [] some (All-nil (λ e. 1 ≤ e)));
            drawn = All-append (λ e. e ≤ length ds) old.ends (draws ∷ []) old.are.drawn
                (All-cons (λ e. e ≤ length ds) draws [] (omega (arith, long)) (All-nil (λ e. e ≤ length ds)));
          };
          is =
              ap (λ (s : Session). record s { rounds = s.rounds ++ next ∷ [] }) old.is
              ∙ ap (λ (rs : List Round). record (to ends) { rounds = rs }) (sym (map-append round old.ends (draws ∷ [])));
        }

    -- so the round is one of the session
    pub is-round : IsRound session next
    is-round =
        let new = (session_law session.limit session.gamma claims recorded seen ds (with_round content next).session some-claim assorters within).0
        of-draws in
        let at = length session.rounds in
        let here = new.0.rounds at next (rw (length-append session.rounds (next ∷ [])) (omega arith)) in
        let last : get_or (session.rounds ++ next ∷ []) at next ≡ next = get_or-append_seam session.rounds next [] next in
        let is = subst (IsRound (with_round content next).session) last here in
        record { some = is.some; each = is.each; all_draws = is.all_draws; printed = is.printed }
