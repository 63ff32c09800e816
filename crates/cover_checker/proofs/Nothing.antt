-- What holds if there is no finding.
use Rattle.std.proofs.Common.{◌≡◌, ℕ, ◌+◌, ◌-◌, ◌≤◌, Bool, true, false, ◌==◌, nat_lt, if◌then◌else◌, List, [], ◌∷◌, ◌++◌, length, slice_index, map, Option, Some, None, Result, Ok, Err, All, pos, refl, sym, ap, ap₂, arith, ◌∙◌, ltb-true, ltb-false, le-ltb, eqb-true, eq-eqb, length-append}
use Rattle.std.proofs.lemmas.Bool.{not-false, not_from_true}
use Rattle.std.specs.Prelude.{IfSome, option_and_then}
use Rattle.std.proofs.lemmas.Bool.Decides.{Decides-int_eq}
use Rattle.std.proofs.lemmas.List.Elements.{All-nil, All-cons, All-head, All-tail}
use Rattle.std.proofs.Math.Seq.{get_or-append_seam}
use Rattle.std.specs.Ordering.{int_eq}
use Rattle.assertions.specs.declared.assertion.Assertion.{Assertion}
use Rattle.assertions.specs.declared.assertion.Claim.{Claim}
use Rattle.assertions.specs.Assertions.{margin}
use Rattle.assertions.specs.Hardness.{low, refuter}
use Rattle.assertions.proofs.Refuters.{refuter_or_none}
use Rattle.assertion_file.specs.Content.{Content, Plan, IsSoundPlan, candidate_count}
use Rattle.cover_checker.specs.Findings.{Answer, other_winner, has_other_margin, other_margin_from, unless_covered, other_smallest, smallest_margin, elects, elected, elected_by, refuted_by, harder, harder_than, are_same_draws, other_draws_from, other_draws}
use Rattle.cover_checker.specs.Draws.{clean_draws_of, IsPlanOf, HasCleanDraws}
use Rattle.cover_checker.specs.declared.cover.Verdict.{Verdict}
use Rattle.cover_checker.specs.declared.cover.Verdict.TheVariants.{Covered, Stands as OrderStands}
use Rattle.cover_checker.specs.declared.cover.CoverFault.{CoverFault}
use Rattle.cover_checker.specs.declared.cover.CoverFault.TheVariants.{Spent as CoverSpent, SpentSets as CoverSpentSets, Memory as CoverMemory}
use Rattle.cover_checker.specs.declared.checked.Checked.TheVariants.{Accepted, OtherWinner, OtherMargin, NotLeast, NotAlternative, OtherDraws}

-- ---- findings by a test
unless-none : {X : Type 0} (b : Bool) (x : X) → (if b then None else Some x) ≡ None → b ≡ true
unless-none true x h = refl
unless-none false x h = cc

unless-some : {X : Type 0} (b : Bool) (x y : X) → (if b then None else Some x) ≡ Some y → x ≡ y
unless-some true x y h = cc
unless-some false x y h = cc

when-none : {X : Type 0} (b : Bool) (x : X) → (if b then Some x else None) ≡ None → b ≡ false
when-none true x h = cc
when-none false x h = refl

when-some : {X : Type 0} (b : Bool) (x y : X) → (if b then Some x else None) ≡ Some y → x ≡ y
when-some true x y h = cc
when-some false x y h = cc

-- a finding is never that a file is accepted
abbrev pub NeverAccepts : Option Answer → Type 0
NeverAccepts found = found ≡ Some (Ok Accepted) → ⊥

-- ---- the winner
pub winner-none : (winner : ℕ) (file : Content) → other_winner winner file ≡ None → file.winner ≡ winner
winner-none winner file h = let found : Answer = Ok (OtherWinner winner) in eqb-true file.winner winner (unless-none (file.winner == winner) found h)

pub none-winner : (winner : ℕ) (file : Content) → file.winner ≡ winner → other_winner winner file ≡ None
none-winner winner file e = let found : Answer = Ok (OtherWinner winner) in ap (λ b. if b then None else Some found) (eq-eqb file.winner winner e)

pub winner-never : (winner : ℕ) (file : Content) → NeverAccepts (other_winner winner file)
winner-never winner file h =
    let found : Answer = Ok (OtherWinner winner) in
    let accepted : Answer = Ok Accepted in
    let e : found ≡ accepted = unless-some (file.winner == winner) found accepted h in
    cc

-- ---- the claims
module _ (records : List (List ℕ)) where
  abbrev pub HasItsMargin : Claim → Type 0
  HasItsMargin claim = pos claim.margin ≡ margin records claim.assertion

  found-at : ℕ → Claim → Answer
  found-at at claim = Ok (OtherMargin at (margin records claim.assertion))

  pub margins-none : (at : ℕ) (claims : List Claim) → other_margin_from records at claims ≡ None → All HasItsMargin claims
  unfolding found-at
  margins-none at [] h = All-nil HasItsMargin
  margins-none at (claim ∷ claims) h = go (has_other_margin records claim) refl (margins-none (at + 1) claims) h where
    go : (b : Bool) → has_other_margin records claim ≡ b → (other_margin_from records (at + 1) claims ≡ None → All HasItsMargin claims) →
        (if b then Some (found-at at claim) else other_margin_from records (at + 1) claims) ≡ None → All HasItsMargin (claim ∷ claims)
    go true e rest h = cc
    go false e rest h =
        All-cons HasItsMargin claim claims
        ((Decides-int_eq (pos claim.margin) (margin records claim.assertion)).0 (not-false (int_eq (pos claim.margin) (margin records claim.assertion)) e))
        (rest h)

  pub none-margins : (at : ℕ) (claims : List Claim) → All HasItsMargin claims → other_margin_from records at claims ≡ None
  unfolding found-at
  none-margins at [] h = refl
  none-margins at (claim ∷ claims) h =
      let same = not_from_true (int_eq (pos claim.margin) (margin records claim.assertion))
      ((Decides-int_eq (pos claim.margin) (margin records claim.assertion)).1 (All-head HasItsMargin claim claims h)) in
      ap (λ b. if b then Some (found-at at claim) else other_margin_from records (at + 1) claims) same
      ∙ none-margins (at + 1) claims (All-tail HasItsMargin claim claims h)

  pub margins-never : (at : ℕ) (claims : List Claim) → NeverAccepts (other_margin_from records at claims)
  unfolding found-at
  margins-never at [] h = cc
  margins-never at (claim ∷ claims) h = go (has_other_margin records claim) (margins-never (at + 1) claims) h where
    go : (b : Bool) → NeverAccepts (other_margin_from records (at + 1) claims) →
        NeverAccepts (if b then Some (found-at at claim) else other_margin_from records (at + 1) claims)
    go true rest h = cc
    go false rest h = rest h

pub covered-none : (result : Result Verdict CoverFault) → unless_covered result ≡ None → result ≡ Ok Covered
covered-none (Ok Covered) h = refl
covered-none (Ok (OrderStands order)) h = cc
covered-none (Err (CoverSpent last)) h = cc
covered-none (Err (CoverSpentSets sets)) h = cc
covered-none (Err CoverMemory) h = cc

pub covered-never : (result : Result Verdict CoverFault) → NeverAccepts (unless_covered result)
covered-never (Ok Covered) h = cc
covered-never (Ok (OrderStands order)) h = cc
covered-never (Err (CoverSpent last)) h = cc
covered-never (Err (CoverSpentSets sets)) h = cc
covered-never (Err CoverMemory) h = cc

-- ---- the margin and the order of the file
pub smallest-none : (file : Content) → other_smallest file ≡ None → smallest_margin file ≡ file.margin
smallest-none file h = let found : Answer = Ok (NotLeast (smallest_margin file)) in
    eqb-true (smallest_margin file) file.margin (unless-none (smallest_margin file == file.margin) found h)

pub none-smallest : (file : Content) → smallest_margin file ≡ file.margin → other_smallest file ≡ None
none-smallest file e = let found : Answer = Ok (NotLeast (smallest_margin file)) in
    ap (λ b. if b then None else Some found) (eq-eqb (smallest_margin file) file.margin e)

pub smallest-never : (file : Content) → NeverAccepts (other_smallest file)
smallest-never file h =
    let found : Answer = Ok (NotLeast (smallest_margin file)) in
    let accepted : Answer = Ok Accepted in
    let e : found ≡ accepted = unless-some (smallest_margin file == file.margin) found accepted h in
    cc

pub elects-last : (before : List ℕ) (c d : ℕ) → elects (before ++ c ∷ []) d ≡ (c == d)
elects-last before c d =
    let last : length (before ++ c ∷ []) - 1 ≡ length before = omega (arith, length-append before (c ∷ [])) in
    ap (λ k. slice_index (before ++ c ∷ []) k == d) last ∙ ap (λ x. x == d) (get_or-append_seam before c [] 0)

pub elected-none : (file : Content) → elected file ≡ None → IfSome file.order (λ order. elects order file.winner ≡ false)
elected-none file h = by file.order h where
  by : (order : Option (List ℕ)) → option_and_then (elected_by file) order ≡ None → IfSome order (λ order. elects order file.winner ≡ false)
  by None h = tt
  by (Some order) h = let found : Answer = Ok NotAlternative in when-none (elects order file.winner) found h

pub none-elected : (file : Content) → IfSome file.order (λ order. elects order file.winner ≡ false) → elected file ≡ None
none-elected file e = by file.order e where
  by : (order : Option (List ℕ)) → IfSome order (λ order. elects order file.winner ≡ false) → option_and_then (elected_by file) order ≡ None
  by None e = refl
  by (Some order) e = let found : Answer = Ok NotAlternative in ap (λ b. if b then Some found else None) e

pub elected-never : (file : Content) → NeverAccepts (elected file)
elected-never file = by file.order where
  by : (order : Option (List ℕ)) → NeverAccepts (option_and_then (elected_by file) order)
  by None h = cc
  by (Some order) h =
      let found : Answer = Ok NotAlternative in
      let accepted : Answer = Ok Accepted in
      let e : found ≡ accepted = when-some (elects order file.winner) found accepted h in
      cc

module _ (records : List (List ℕ)) (file : Content) (order : List ℕ) where
  hardness : ℕ
  hardness = low (candidate_count file) records order

  refuting : Option Assertion
  refuting = refuter (candidate_count file) records order

  than-none : harder_than records file order ≡ None → low (candidate_count file) records order ≤ file.margin
  unfolding hardness refuting
  than-none h = go (nat_lt file.margin hardness) refuting refl refl h where
    go : (b : Bool) (o : Option Assertion) → nat_lt file.margin hardness ≡ b → refuting ≡ o → (if b then refuted_by hardness o else None) ≡ None →
        hardness ≤ file.margin
    go true None e k h =
        let lt = ltb-true file.margin hardness e in
        let none : hardness ≡ 0 = refuter_or_none (candidate_count file) records order k in
        absurd (omega (arith, lt, none))
    go true (Some a) e k h = cc
    go false o e k h = ltb-false file.margin hardness e

  none-than : low (candidate_count file) records order ≤ file.margin → harder_than records file order ≡ None
  unfolding hardness refuting
  none-than h = ap (λ b. if b then refuted_by hardness refuting else None) (le-ltb file.margin hardness h)

  than-never : NeverAccepts (harder_than records file order)
  unfolding hardness refuting
  than-never h = go (nat_lt file.margin hardness) refuting h where
    go : (b : Bool) (o : Option Assertion) → NeverAccepts (if b then refuted_by hardness o else None)
    go true None h = cc
    go true (Some a) h = cc
    go false o h = cc

module _ (records : List (List ℕ)) (file : Content) where
  pub harder-none : harder records file ≡ None → IfSome file.order (λ order. low (candidate_count file) records order ≤ file.margin)
  harder-none h = by file.order h where
    by : (order : Option (List ℕ)) → option_and_then (harder_than records file) order ≡ None →
        IfSome order (λ order. low (candidate_count file) records order ≤ file.margin)
    by None h = tt
    by (Some order) h = than-none records file order h

  pub none-harder : IfSome file.order (λ order. low (candidate_count file) records order ≤ file.margin) → harder records file ≡ None
  none-harder h = by file.order h where
    by : (order : Option (List ℕ)) → IfSome order (λ order. low (candidate_count file) records order ≤ file.margin) →
        option_and_then (harder_than records file) order ≡ None
    by None h = refl
    by (Some order) h = none-than records file order h

  pub harder-never : NeverAccepts (harder records file)
  harder-never = by file.order where
    by : (order : Option (List ℕ)) → NeverAccepts (option_and_then (harder_than records file) order)
    by None h = cc
    by (Some order) h = than-never records file order h

-- ---- the draws
same-draws : (a b : Option ℕ) → are_same_draws a b ≡ true → a ≡ b
same-draws None None h = refl
same-draws None (Some y) h = cc
same-draws (Some x) None h = cc
same-draws (Some x) (Some y) h = ap Some (eqb-true x y h)

are-same-draws : (a b : Option ℕ) → a ≡ b → are_same_draws a b ≡ true
are-same-draws None None h = refl
are-same-draws None (Some y) h = cc
are-same-draws (Some x) None h = cc
are-same-draws (Some x) (Some y) h = let same : x ≡ y = cc in eq-eqb x y same

module _ (plan : Plan) where
  draws-found-at : ℕ → Claim → Answer
  draws-found-at at claim = Ok (OtherDraws at (clean_draws_of plan claim))

  other-none : (at : ℕ) (claims : List Claim) (draws : List (Option ℕ)) → length draws ≡ length claims →
      other_draws_from plan at claims draws ≡ None → draws ≡ map (clean_draws_of plan) claims
  unfolding draws-found-at
  other-none at [] [] each h = refl
  other-none at [] (d ∷ draws) each h = absurd (omega (arith, each))
  other-none at (claim ∷ claims) [] each h = absurd (omega (arith, each))
  other-none at (claim ∷ claims) (d ∷ draws) each h =
      go (are_same_draws (clean_draws_of plan claim) d) refl (other-none (at + 1) claims draws (omega (arith, each))) h
    where
      go : (b : Bool) → are_same_draws (clean_draws_of plan claim) d ≡ b →
          (other_draws_from plan (at + 1) claims draws ≡ None → draws ≡ map (clean_draws_of plan) claims) →
          (if b then other_draws_from plan (at + 1) claims draws else Some (draws-found-at at claim)) ≡ None →
          d ∷ draws ≡ map (clean_draws_of plan) (claim ∷ claims)
      go true e rest h = ap₂ (λ d draws. d ∷ draws) (sym (same-draws (clean_draws_of plan claim) d e)) (rest h)
      go false e rest h = cc

  none-other : (at : ℕ) (claims : List Claim) → other_draws_from plan at claims (map (clean_draws_of plan) claims) ≡ None
  unfolding draws-found-at
  none-other at [] = refl
  none-other at (claim ∷ claims) =
      ap (λ b. if b then other_draws_from plan (at + 1) claims (map (clean_draws_of plan) claims) else Some (draws-found-at at claim))
      (are-same-draws (clean_draws_of plan claim) (clean_draws_of plan claim) refl)
      ∙ none-other (at + 1) claims

  pub other-never : (at : ℕ) (claims : List Claim) (draws : List (Option ℕ)) → NeverAccepts (other_draws_from plan at claims draws)
  unfolding draws-found-at
  other-never at [] draws h = cc
  other-never at (claim ∷ claims) [] h = cc
  other-never at (claim ∷ claims) (d ∷ draws) h = go (are_same_draws (clean_draws_of plan claim) d) (other-never (at + 1) claims draws) h where
    go : (b : Bool) → NeverAccepts (other_draws_from plan (at + 1) claims draws) →
        NeverAccepts (if b then other_draws_from plan (at + 1) claims draws else Some (draws-found-at at claim))
    go true rest h = rest h
    go false rest h = cc

pub draws-none : (file : Content) → IfSome file.plan (IsSoundPlan file.records (length file.claims)) → other_draws file ≡ None → HasCleanDraws file
draws-none file fits h = by file.plan fits h where
  by : (plan : Option Plan) → IfSome plan (IsSoundPlan file.records (length file.claims)) →
      option_and_then (λ plan. other_draws_from plan 1 file.claims plan.draws) plan ≡ None → IfSome plan (IsPlanOf file.claims)
  by None fits h = tt
  by (Some plan) fits h = other-none plan 1 file.claims plan.draws fits.each h

pub none-draws : (file : Content) → HasCleanDraws file → other_draws file ≡ None
none-draws file has = by file.plan has where
  by : (plan : Option Plan) → IfSome plan (IsPlanOf file.claims) →
      option_and_then (λ plan. other_draws_from plan 1 file.claims plan.draws) plan ≡ None
  by None has = refl
  by (Some plan) has = ap (other_draws_from plan 1 file.claims) has ∙ none-other plan 1 file.claims

pub draws-never : (file : Content) → NeverAccepts (other_draws file)
draws-never file = by file.plan where
  by : (plan : Option Plan) → NeverAccepts (option_and_then (λ plan. other_draws_from plan 1 file.claims plan.draws) plan)
  by None h = cc
  by (Some plan) h = other-never plan 1 file.claims plan.draws h
