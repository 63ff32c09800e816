-- How a trial follows from what is left of the later claims.
use Rattle.std.proofs.Common.{◌≡◌, ℕ, zero, suc, ◌+◌, ◌<◌, ◌≤◌, ◌-◌, Bool, if◌then◌else◌, List, [], ◌∷◌, ◌++◌, length, get_or, take, drop, Result, Ok, Err, sym, ap, ap₂, arith, ◌∙◌}
use Rattle.std.proofs.lemmas.List.{drop_more, take_more, take_all, drop_all, append-nil, length-take-le, take-take}
use Rattle.assertions.specs.declared.assertion.Assertion.TheVariants.{Neb}
use Rattle.budget.specs.declared.budget.Budget.{Budget}
use Rattle.assertions.specs.declared.assertion.Claim.{Claim}
use Rattle.assertion_file.specs.Content.{Content}
use Rattle.trimmer.specs.declared.fault.TrimFault.{TrimFault}
use Rattle.trimmer.specs.Trimmed.{can_go, unless_it_goes, covered_by, tried, left_of}

-- some claim, for a list that has none
abbrev pub some_claim : Claim
some_claim = record { assertion = Neb 0 1; margin = 0 }

module _ (budget : Budget) (file : Content) (claims : List Claim) where
  -- what is left of the claims from this number on
  abbrev pub left_from : ℕ → Result (List Claim) TrimFault
  left_from i = left_of budget file (take i claims) (drop i claims)

  tried-next : (i : ℕ) (d : Claim) → i < length claims → left_from i ≡ tried budget file (take i claims) (get_or claims i d) (left_from (i + 1))
  tried-next i d l =
      ap (left_of budget file (take i claims)) (drop_more claims i d l)
      ∙ ap (λ earlier. tried budget file (take i claims) (get_or claims i d) (left_of budget file earlier (drop (i + 1) claims))) (sym (take_more claims i d l))

  -- the trial of the claim at this index
  abbrev pub trial : ℕ → List Claim → Result Bool TrimFault
  trial i left = can_go (i + 1) (covered_by budget file (take i claims ++ left))

  trial-next : (i : ℕ) (d : Claim) (left : List Claim) → i < length claims → left_from (i + 1) ≡ Ok left →
      left_from i ≡ unless_it_goes (get_or claims i d) left (trial i left)
  trial-next i d left l h =
      tried-next i d l ∙ ap (tried budget file (take i claims) (get_or claims i d)) h
      ∙ ap (λ k. unless_it_goes (get_or claims i d) left (can_go (k + 1) (covered_by budget file (take i claims ++ left)))) (length-take-le i claims (omega arith))

  pub told-next : (i : ℕ) (d : Claim) (left : List Claim) (goes : Bool) → i < length claims → left_from (i + 1) ≡ Ok left → Ok goes ≡ trial i left →
      left_from i ≡ Ok (if goes then left else get_or claims i d ∷ left)
  told-next i d left goes l h e = trial-next i d left l h ∙ ap (unless_it_goes (get_or claims i d) left) (sym e)

  -- a fault of one trial is a fault of the whole
  fault-stays : (i : ℕ) (d : Claim) (fault : TrimFault) → i ≤ length claims → left_from i ≡ Err fault → left_of budget file [] claims ≡ Err fault
  fault-stays zero d fault le h = h
  fault-stays (suc i) d fault le h =
      let same : suc i ≡ i + 1 = omega arith in
      let here : left_from (i + 1) ≡ Err fault = ap left_from (sym same) ∙ h in
      fault-stays i d fault (omega arith) (tried-next i d (omega arith) ∙ ap (tried budget file (take i claims) (get_or claims i d)) here)

  pub fault-next : (i : ℕ) (d : Claim) (left : List Claim) (fault : TrimFault) → i < length claims → left_from (i + 1) ≡ Ok left →
      Err fault ≡ trial i left → left_of budget file [] claims ≡ Err fault
  fault-next i d left fault l h e =
      fault-stays i d fault (omega arith) (trial-next i d left l h ∙ ap (unless_it_goes (get_or claims i d) left) (sym e))

  -- before the first trial
  pub start-behind : (n : ℕ) → length claims ≡ n → left_from n ≡ Ok []
  start-behind n e = ap (left_of budget file (take n claims)) (drop_all n claims (omega arith))

  pub start-all : (n : ℕ) → length claims ≡ n → take n claims ++ [] ≡ claims
  start-all n e = append-nil (take n claims) ∙ take_all n claims (omega arith)

-- the claims before the last one of this many
pub take-before : (claims : List Claim) (i : ℕ) (untried : List Claim) → i < length claims → untried ≡ take (i + 1) claims →
    take (length untried - 1) untried ≡ take i claims
take-before claims i untried below same =
    let some : length untried ≡ i + 1 = ap length same ∙ length-take-le (i + 1) claims (omega (arith, below)) in
    let last : length untried - 1 ≡ i = omega (arith, some) in
    ap₂ take last same ∙ take-take i (i + 1) claims (omega arith)
