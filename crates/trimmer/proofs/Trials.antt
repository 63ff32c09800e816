-- What a scan of the alternative winners says about the others.
use Rattle.std.proofs.Common.{◌≡◌, ◌≢◌, ◌⊎◌, inl, inr, ℕ, zero, suc, ◌+◌, ◌<◌, ◌≤◌, Bool, true, false, not, ◌&&◌, ◌==◌, List, [], ◌∷◌, length, nat_lt, get_or, replicate, Option, Some, None, option_map, Result, Ok, Err, refl, sym, ap, ap₂, arith, ne_eqb, ◌∙◌}
use Rattle.std.proofs.lemmas.Bool.{cases_eq, cases_lt, not_from_false}
use Rattle.budget.specs.declared.budget.Budget.TheVariants.{Nodes}
use Rattle.irv_base.specs.Candidates.{candidates, all_but}
use Rattle.irv_base.proofs.Members.{Member, member_cases, member_nil, member-filter, candidate-member}
use Rattle.assertions.specs.declared.assertion.Assertion.{Assertion}
use Rattle.assertions.specs.Refutation.{refutes}
use Rattle.suffix_walk.specs.Kept.{all_ending}
use Rattle.suffix_walk.specs.Walks.{walked}
use Rattle.suffix_walk.specs.Search as walk
use Rattle.suffix_walk.specs.Search.{first_kept, kept_count, first_within}
use Rattle.suffix_walk.specs.declared.walk.Stop.{Stop}
use Rattle.suffix_walk.specs.declared.walk.Stop.TheVariants.{Found, Spent}
use Rattle.suffix_walk.proofs.Scans.{chosen, scan, scan_from, scan-first_within, scan-start, scan-winner, scan-other, scan-end, scan-stops}
use Rattle.cover_checker.specs.Covers.{stands, covered_is, or_spent, verdict_on}
use Rattle.cover_checker.specs.declared.cover.Verdict.TheVariants.{Covered, Stands as OrderStands}
use Rattle.cover_checker.specs.declared.cover.CoverFault.TheVariants.{Spent as CoverSpent}
use Rattle.cover_checker.proofs.Verdicts.{none-covered, some-stands}
use Rattle.trimmer.specs.Counts.{AreCounts, AreWithin, Scanned}
use Rattle.trimmer.specs.Opened.{opens}
use Rattle.trimmer.specs.declared.scan.Scan.TheVariants.{Covered as ScanCovered, Stands as ScanStands, Unclear as ScanUnclear}
use Rattle.irv_base.specs.declared.limits.TheConstants.{ROOM}
use Rattle.std.proofs.lemmas.List.{get_or-replicate, get_or_past}
use Rattle.trimmer.proofs.Sims.{Like, likens, step}

module _ (nodes n winner : ℕ) (list : List Assertion) (some : 0 < n) where
  -- the walk below a candidate comes to its end
  abbrev pub Ends : ℕ → Type 0
  Ends c = (k : ℕ) × (walked n nodes (stands list) 0 (all_ending n (c ∷ [])) ≡ Ok k)

  -- ---- if the list covers
  scan-ends : (cs : List ℕ) → scan n nodes (stands list) cs ≡ Ok None → (c : ℕ) → Member c cs → Ends c
  scan-ends [] h c m = absurd (member_nil m)
  scan-ends (d ∷ cs) h c m = go (walked n nodes (stands list) 0 (all_ending n (d ∷ []))) refl h (member_cases m) (scan-ends cs) where
    go : (w : Result ℕ Stop) → walked n nodes (stands list) 0 (all_ending n (d ∷ [])) ≡ w →
        chosen n (stands list) d w (scan n nodes (stands list) cs) ≡ Ok None → (d ≡ c) ⊎ Member c cs →
        (scan n nodes (stands list) cs ≡ Ok None → (c : ℕ) → Member c cs → Ends c) → Ends c
    go (Ok k) e h (inl same) ih = (k, ap (λ d. walked n nodes (stands list) 0 (all_ending n (d ∷ []))) (sym same) ∙ e)
    go (Ok k) e h (inr m) ih = ih h c m
    go (Err (Found s)) e h m ih = cc
    go (Err Spent) e h m ih = cc

  none-found : (over : Option ℕ) (standing : Option (List ℕ)) → or_spent (option_map CoverSpent over) (verdict_on standing) ≡ Ok Covered → walk.or_spent over standing ≡ Ok None
  none-found (Some last) standing e = cc
  none-found None None e = refl
  none-found None (Some order) e = cc

  pub covered-ends : covered_is n winner list (Nodes nodes) ≡ Ok Covered → (c : ℕ) → c < n → c ≢ winner → Ends c
  covered-ends h c below ne =
      let kept = stands list in
      let none : first_within n winner nodes kept ≡ Ok None =
      none-found (walk.first_over n winner nodes (kept_count n kept (first_kept n winner kept))) (first_kept n winner kept) h in
      scan-ends (all_but n winner) (scan-first_within n nodes kept winner some ∙ none) c
      (member-filter (λ d. not (d == winner)) (candidates n) (candidate-member c n below) (not_from_false (c == winner) (ne_eqb c winner ne)))

  -- ---- the scan from the first candidate on
  abbrev pub EndsBelow : ℕ → Type 0
  EndsBelow last = (c : ℕ) → c < last → c ≢ winner → Ends c

  passes : (i : ℕ) → i ≤ n → EndsBelow i → scan_from n nodes (stands list) winner 0 ≡ scan_from n nodes (stands list) winner i
  passes zero le h = refl
  passes (suc i) le h =
      let before = passes i (omega arith) (λ c lt ne. h c (omega arith) ne) in
      let one : i + 1 ≡ suc i = omega arith in
      before ∙ elim (cases_eq i winner) [
        | inl e ↦ scan-winner n nodes (stands list) winner i (omega arith) e
        | inr ne ↦ let (k, w) = h i (omega arith) ne in scan-other n nodes (stands list) winner i (Ok k) (omega arith) ne (sym w)
      ] ∙ ap (scan_from n nodes (stands list) winner) one

  pub ends-covered : EndsBelow n → covered_is n winner list (Nodes nodes) ≡ Ok Covered
  ends-covered h =
      let kept = stands list in
      let all : first_within n winner nodes kept ≡ Ok None =
      sym (scan-start n nodes kept winner some) ∙ passes n (omega arith) h ∙ scan-end n nodes kept winner n (omega arith) in
      sym (none-covered (walk.first_over n winner nodes (kept_count n kept (first_kept n winner kept))) (first_kept n winner kept) (sym all))

  pub found-stands : (last : ℕ) (order : List ℕ) → last < n → last ≢ winner → EndsBelow last →
      walked n nodes (stands list) 0 (all_ending n (last ∷ [])) ≡ Err (Found order) → covered_is n winner list (Nodes nodes) ≡ Ok (OrderStands order)
  found-stands last order below ne h w =
      let kept = stands list in
      let all : first_within n winner nodes kept ≡ Ok (Some order) =
      sym (scan-start n nodes kept winner some) ∙ passes last (omega arith) h ∙ scan-stops n nodes kept winner last (Found order) below ne (sym w) in
      sym (some-stands order (walk.first_over n winner nodes (kept_count n kept (first_kept n winner kept))) (first_kept n winner kept) (sym all))

-- ---- counts that are known without a walk, or from one walk of everything

pub filled-le : (x c : ℕ) → get_or (replicate ROOM x) c 0 ≤ x
filled-le x c = elim (cases_lt c ROOM) [
  | inl l ↦ let same : ◌≡◌ {A = ℕ} (get_or (replicate ROOM x) c 0) x = get_or-replicate ROOM c x 0 l in omega arith
  | inr le ↦ let same : ◌≡◌ {A = ℕ} (get_or (replicate ROOM x) c 0) 0 = get_or_past (replicate ROOM x) c 0 le in omega arith
]

walked-same : (n nodes : ℕ) (p q : List ℕ → Bool) → ((s : List ℕ) → p s ≡ q s) → (count : ℕ) (xs : List (List ℕ)) →
    walked n nodes p count xs ≡ walked n nodes q count xs
walked-same n nodes p q same count [] = refl
walked-same n nodes p q same count (s ∷ xs) =
    ap (λ x. step x (nat_lt (length s) n) (nat_lt count nodes) s (walked n nodes p (count + 1) xs) (walked n nodes p count xs)) (same s)
    ∙ ap₂ (λ x y. step (q s) (nat_lt (length s) n) (nat_lt count nodes) s x y) (walked-same n nodes p q same (count + 1) xs)
    (walked-same n nodes p q same count xs)

and-all : (b : Bool) → (b && true) ≡ b
and-all true = refl
and-all false = refl

module _ (nodes n winner : ℕ) (list : List Assertion) (claim : Option Assertion) (none : claim ≡ None) (room : n ≤ ROOM) where
  -- from nothing on, what is examined without a claim is what stands
  none-left : (c : ℕ) → c < n → (start : List ℕ) → start ≡ replicate ROOM 0 →
      walked n nodes (stands list) 0 (all_ending n (c ∷ [])) ≡ walked n nodes (opens list claim) (get_or start c 0) (all_ending n (c ∷ []))
  none-left c below start from =
      let zero' : ◌≡◌ {A = ℕ} (get_or start c 0) 0 = ap (λ counts. get_or counts c 0) from ∙ get_or-replicate ROOM c 0 0 (omega (arith, below, room)) in
      walked-same n nodes (stands list) (opens list None) (λ s. sym (and-all (stands list s))) 0 (all_ending n (c ∷ []))
      ∙ ap₂ (λ claim k. walked n nodes (opens list claim) k (all_ending n (c ∷ []))) (sym none) (sym zero')

  pub all-counts : (more : List ℕ) → Scanned nodes n winner list claim (replicate ROOM 0) (ScanCovered more) → AreCounts nodes n winner list more
  all-counts more scanned c below ne = none-left c below (replicate ROOM 0) refl ∙ scanned.0 c below ne

  -- if the list covers, no walk stops before its end
  module _ (some : 0 < n) (h : covered_is n winner list (Nodes nodes) ≡ Ok Covered) where
    never-stops : (last : ℕ) (stop : Stop) → last < n → last ≢ winner →
        walked n nodes (opens list claim) (get_or (replicate ROOM 0) last 0) (all_ending n (last ∷ [])) ≡ Err stop → ⊥
    never-stops last stop below ne e =
        let (k, ends) = covered-ends nodes n winner list some h last below ne in
        let both : Ok k ≡ Err stop = sym ends ∙ none-left last below (replicate ROOM 0) refl ∙ e in
        cc

    pub never-stands : Scanned nodes n winner list claim (replicate ROOM 0) ScanStands → ⊥
    never-stands (last, below, ne, before, (order, e)) = never-stops last (Found order) below ne e

    pub never-unclear : Scanned nodes n winner list claim (replicate ROOM 0) ScanUnclear → ⊥
    never-unclear (last, below, ne, before, e) = never-stops last Spent below ne e

-- ---- from the counts of a list to the counts without one of its claims
module _ (nodes n winner : ℕ) (list others : List Assertion) (claim : Assertion) (some : 0 < n)
    (parted : (s : List ℕ) → stands list s ≡ (stands others s && not (refutes claim s)))
    (counts : List ℕ) (were : AreCounts nodes n winner list counts) (within : AreWithin nodes counts) where
  like : (c : ℕ) → c < n → c ≢ winner → (r : Result ℕ Stop) →
      walked n nodes (opens others (Some claim)) (get_or counts c 0) (all_ending n (c ∷ [])) ≡ r →
      Like r (walked n nodes (stands others) 0 (all_ending n (c ∷ [])))
  like c below ne r e =
      likens n nodes (stands list) (stands others) (refutes claim) parted (all_ending n (c ∷ [])) 0 (get_or counts c 0) 0 (get_or counts c 0)
      (were c below ne) (omega arith) (within c) r e

  pub next-counts : (more : List ℕ) → Scanned nodes n winner others (Some claim) counts (ScanCovered more) → AreCounts nodes n winner others more
  next-counts more scanned c below ne = like c below ne (Ok (get_or more c 0)) (scanned.0 c below ne)

  pub next-covered : (more : List ℕ) → Scanned nodes n winner others (Some claim) counts (ScanCovered more) → covered_is n winner others (Nodes nodes) ≡ Ok Covered
  next-covered more scanned = ends-covered nodes n winner others some (λ c lt ne. (get_or more c 0, next-counts more scanned c lt ne))

  pub next-stands : Scanned nodes n winner others (Some claim) counts ScanStands → (order : List ℕ) × (covered_is n winner others (Nodes nodes) ≡ Ok (OrderStands order))
  next-stands (last, below, ne, before, (order, e)) = (
    order,
    found-stands nodes n winner others some last order below ne
        (λ c lt other. let (count, goes) = before c lt other in (count, like c (omega arith) other (Ok count) goes))
        (like last below ne (Err (Found order)) e),
  )
