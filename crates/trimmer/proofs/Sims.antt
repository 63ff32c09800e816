-- A walk of everything that the others don't refute, alongside a walk of what opens without a claim.
use Rattle.std.proofs.Common.{◌≡◌, ℕ, ◌+◌, ◌<◌, ◌≤◌, Bool, true, false, not, ◌&&◌, nat_lt, if◌then◌else◌, List, [], ◌∷◌, length, Result, Ok, Err, refl, sym, ap, subst, arith, ltb-true, ltb-false, ◌∙◌}
use Rattle.suffix_walk.specs.Walks.{walked}
use Rattle.suffix_walk.specs.declared.walk.Stop.{Stop}
use Rattle.suffix_walk.specs.declared.walk.Stop.TheVariants.{Found, Spent}

-- how a walk continues at its next suffix
abbrev pub step : Bool → Bool → Bool → List ℕ → Result ℕ Stop → Result ℕ Stop → Result ℕ Stop
step is_kept short room s next stay = if is_kept then (if short then (if room then next else Err Spent) else Err (Found s)) else stay

-- a count never decreases
pub walked-rises : (n nodes : ℕ) (kept : List ℕ → Bool) (count : ℕ) (xs : List (List ℕ)) (k : ℕ) → walked n nodes kept count xs ≡ Ok k → count ≤ k
walked-rises n nodes kept count [] k h = let same : count ≡ k = cc in omega arith
walked-rises n nodes kept count (s ∷ xs) k h =
    go (kept s) (nat_lt (length s) n) (nat_lt count nodes) h (walked-rises n nodes kept (count + 1) xs k) (walked-rises n nodes kept count xs k)
  where
    go : (a b d : Bool) → step a b d s (walked n nodes kept (count + 1) xs) (walked n nodes kept count xs) ≡ Ok k →
        (walked n nodes kept (count + 1) xs ≡ Ok k → count + 1 ≤ k) → (walked n nodes kept count xs ≡ Ok k → count ≤ k) → count ≤ k
    go false b d h next stay = stay h
    go true false d h next stay = cc
    go true true false h next stay = cc
    go true true true h next stay = let le : count + 1 ≤ k = next h in omega arith

-- the walk of everything has the same end, with the same count
abbrev pub Like : Result ℕ Stop → Result ℕ Stop → Type 0
Like (Ok j) w = w ≡ Ok j
Like (Err (Found order)) w = w ≡ Err (Found order)
Like (Err Spent) w = Unit {0}

module _ (n nodes : ℕ) (covered all by : List ℕ → Bool) (parted : (s : List ℕ) → covered s ≡ (all s && not (by s))) where
  abbrev opened : List ℕ → Bool
  opened s = all s && by s

  -- covered: what was counted before; a and b: the counts of both walks so far; one walk has yet to count what was covered
  pub likens : (xs : List (List ℕ)) (e k a b : ℕ) → walked n nodes covered e xs ≡ Ok k → a + k ≡ b + e → b ≤ nodes → (r : Result ℕ Stop) →
      walked n nodes opened b xs ≡ r → Like r (walked n nodes all a xs)
  likens [] e k a b h le within r p =
      let same : e ≡ k = cc in
      let at-end : a ≡ b = omega (arith, same, le) in
      subst (λ r. Like r (Ok a)) p (ap Ok at-end)
  likens (s ∷ xs) e k a b h le within r p =
      let given : step (all s && not (by s)) (nat_lt (length s) n) (nat_lt e nodes) s (walked n nodes covered (e + 1) xs) (walked n nodes covered e xs) ≡ Ok k =
      ap (λ x. step x (nat_lt (length s) n) (nat_lt e nodes) s (walked n nodes covered (e + 1) xs) (walked n nodes covered e xs)) (sym (parted s)) ∙ h in
      go (all s) (by s) (nat_lt (length s) n) (nat_lt e nodes) (nat_lt b nodes) (nat_lt a nodes) refl refl given p (likens xs)
    where
      go : (x y short f g d : Bool) → nat_lt b nodes ≡ g → nat_lt a nodes ≡ d →
          step (x && not y) short f s (walked n nodes covered (e + 1) xs) (walked n nodes covered e xs) ≡ Ok k →
          step (x && y) short g s (walked n nodes opened (b + 1) xs) (walked n nodes opened b xs) ≡ r →
          ((e k a b : ℕ) → walked n nodes covered e xs ≡ Ok k → a + k ≡ b + e → b ≤ nodes → (r : Result ℕ Stop) → walked n nodes opened b xs ≡ r →
          Like r (walked n nodes all a xs)) →
          Like r (step x short d s (walked n nodes all (a + 1) xs) (walked n nodes all a xs))
      go false y short f g d room other h p ih = ih e k a b h le within r p
      go true false true true g true room other h p ih = ih (e + 1) k (a + 1) b h (omega arith) within r p
      go true false true true g false room other h p ih =
          let rises : e + 1 ≤ k = walked-rises n nodes covered (e + 1) xs k h in
          let full : nodes ≤ a = ltb-false a nodes other in
          absurd (omega arith)
      go true false true false g d room other h p ih = cc
      go true false false f g d room other h p ih = cc
      go true true true f true true room other h p ih =
          let lt : b < nodes = ltb-true b nodes room in
          ih e k (a + 1) (b + 1) h (omega arith) (omega arith) r p
      go true true true f true false room other h p ih =
          let rises : e ≤ k = walked-rises n nodes covered e xs k h in
          let lt : b < nodes = ltb-true b nodes room in
          let full : nodes ≤ a = ltb-false a nodes other in
          absurd (omega arith)
      go true true true f false d room other h p ih = subst (λ r. Like r (step true true d s (walked n nodes all (a + 1) xs) (walked n nodes all a xs))) p tt
      go true true false f g d room other h p ih = subst (λ r. Like r (Err (Found s))) p refl
