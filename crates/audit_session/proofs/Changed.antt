-- Whether the counts of earlier rounds are different, one round and one claim at a time.
use Rattle.std.proofs.Common.{◌≡◌, ◌∙◌, ℕ, suc, ◌+◌, ◌<◌, ◌≤◌, ◌&&◌, ◌==◌, Bool, true, false, cond, Option, Some, None, List, [], ◌∷◌, All, AllPairs, length, take, fold, refl, sym, ap, arith, eqb-true}
use Rattle.std.proofs.lemmas.Bool.{and_parts}
use Rattle.std.proofs.lemmas.List.Elements.{All-nil, All-cons, All-head, All-tail}
use Rattle.km_risk.specs.declared.draws.Counts.{Counts}
use Rattle.session_state.specs.Sessions.{Round}
use Rattle.audit_session.specs.declared.compared.Drawn.{Drawn}
use Rattle.audit_session.specs.declared.fault.AdvanceFault.TheVariants.{Changed}
use Rattle.audit_session.specs.Going.{all_counts}
use Rattle.audit_session.specs.Refusals.{changed_from, changed_in, first_of, last_draws, same_counts}

pub same-counts-is : (a b : Counts) → same_counts a b ≡ true → a ≡ b
same-counts-is a b h =
    let p4 = and_parts ((a.n0 == b.n0) && (a.n1 == b.n1) && (a.n2 == b.n2) && (a.n3 == b.n3)) (a.n4 == b.n4) h in
    let p3 = and_parts ((a.n0 == b.n0) && (a.n1 == b.n1) && (a.n2 == b.n2)) (a.n3 == b.n3) p4.0 in
    let p2 = and_parts ((a.n0 == b.n0) && (a.n1 == b.n1)) (a.n2 == b.n2) p3.0 in
    let p1 = and_parts (a.n0 == b.n0) (a.n1 == b.n1) p2.0 in
    let e0 = eqb-true a.n0 b.n0 p1.0 in
    let e1 = eqb-true a.n1 b.n1 p1.1 in
    let e2 = eqb-true a.n2 b.n2 p2.1 in
    let e3 = eqb-true a.n3 b.n3 p3.1 in
    let e4 = eqb-true a.n4 b.n4 p4.1 in
    λ i. record { n0 = e0 i; n1 = e1 i; n2 = e2 i; n3 = e3 i; n4 = e4 i }

-- if no counts are changed, the counts are the same
pub unchanged-in : (round claim : ℕ) (expected found : List Counts) → length expected ≡ length found → changed_in round claim expected found ≡ None →
    expected ≡ found
unchanged-in round claim [] [] long none = refl
unchanged-in round claim [] (f ∷ found) long none = absurd (omega arith)
unchanged-in round claim (e ∷ expected) [] long none = absurd (omega arith)
unchanged-in round claim (e ∷ expected) (f ∷ found) long none = by (same_counts e f) refl (unchanged-in round (claim + 1) expected found (omega arith)) where
  by : (b : Bool) → same_counts e f ≡ b → (changed_in round (claim + 1) expected found ≡ None → expected ≡ found) → e ∷ expected ≡ f ∷ found
  by true h later =
      let first = same-counts-is e f h in
      let rest = later (sym (ap (λ b. cond b (changed_in round (claim + 1) expected found) (Some (Changed round claim e f))) h) ∙ none) in
      λ i. first i ∷ rest i
  by false h later =
      let some : Some (Changed round claim e f) ≡ None = sym (ap (λ b. cond b (changed_in round (claim + 1) expected found) (Some (Changed round claim e f))) h)
      ∙ none in
      absurd cc

pub first-none : {A : Type 0} (o other : Option A) → first_of o other ≡ None → (o ≡ None) × (other ≡ None)
first-none None other h = (refl, h)
first-none (Some x) other h = absurd cc

pub unchanged-from : (values : List (List ℕ → ℕ)) (drawn : List Drawn) (number : ℕ) (rounds : List Round) → All (λ round. length round.counts ≡ length values) rounds →
    ((k : ℕ) → length (all_counts values (take k drawn)) ≡ length values) →
    changed_from values drawn number rounds ≡ None → All (λ round. round.counts ≡ all_counts values (take round.draws drawn)) rounds
unchanged-from values drawn number [] each long none = All-nil (λ round. round.counts ≡ all_counts values (take round.draws drawn))
unchanged-from values drawn number (round ∷ rounds) each long none =
    let parts = first-none (changed_in number 1 round.counts (all_counts values (take round.draws drawn)))
    (changed_from values drawn (number + 1) rounds) none in
    let here = All-head (λ r. length r.counts ≡ length values) round rounds each in
    All-cons (λ r. r.counts ≡ all_counts values (take r.draws drawn)) round rounds
    (unchanged-in number 1 round.counts (all_counts values (take round.draws drawn)) (here ∙ sym (long round.draws)) parts.0)
    (unchanged-from values drawn (number + 1) rounds (All-tail (λ r. length r.counts ≡ length values) round rounds each) long parts.1)

-- ---- the last round has the most draws
abbrev last-from : ℕ → List Round → ℕ
last-from a rounds = fold (λ earlier round. round.draws) a rounds

rising-head : (round : Round) (rounds : List Round) → AllPairs (λ r later. r.draws < later.draws) (round ∷ rounds) → All (λ r. round.draws < r.draws) rounds
rising-head round rounds rising k d below = rising 0 (suc k) d (omega arith) (omega arith)

rising-tail : (round : Round) (rounds : List Round) → AllPairs (λ r later. r.draws < later.draws) (round ∷ rounds) →
    AllPairs (λ r later. r.draws < later.draws) rounds
rising-tail round rounds rising i j d before within = rising (suc i) (suc j) d (omega arith) (omega arith)

most-from : (a : ℕ) (rounds : List Round) → All (λ r. a < r.draws) rounds → AllPairs (λ r later. r.draws < later.draws) rounds →
    (a ≤ last-from a rounds) × All (λ r. r.draws ≤ last-from a rounds) rounds
most-from a [] above rising = (omega arith, All-nil (λ r. r.draws ≤ a))
most-from a (round ∷ rounds) above rising =
    let rest = most-from round.draws rounds (rising-head round rounds rising) (rising-tail round rounds rising) in
    let first = All-head (λ r. a < r.draws) round rounds above in (
      omega (arith, rest.0),
      All-cons (λ r. r.draws ≤ last-from round.draws rounds) round rounds rest.0 rest.1,
    )

pub before-last : (rounds : List Round) → All (λ r. 1 ≤ r.draws) rounds → AllPairs (λ r later. r.draws < later.draws) rounds →
    All (λ r. r.draws ≤ last_draws rounds) rounds
before-last rounds some rising = (most-from 0 rounds (λ k d below. some k d below) rising).1
