-- Exactly what the walk into each set once has seen.
use Rattle.std.proofs.Common.{◌≡◌, ◌≢◌, ℕ, zero, suc, ◌+◌, ◌-◌, ◌^◌, ◌<◌, ◌≤◌, Bool, true, false, cond, not, ◌&&◌, ◌==◌, nat_lt, inl, inr, ◌⊎◌, List, [], ◌∷◌, ◌++◌, length, length-append, filter, find, if◌then◌else◌, Option, Some, None, Ok, Err, refl, sym, ap, subst, arith, append_assoc, eq-eqb, eqb-true, lt-ltb, ltb-true, ltb-false, le-ltb, ◌∙◌}
use Rattle.std.specs.List.{range_with_len}
use Rattle.std.proofs.lemmas.Bool.{cases_Bool, cases_eq, cases_lt, and_parts, and_from, both_ways}
use Rattle.assertions.specs.Lists.{stands_before}
use Rattle.assertions.specs.Suffixes.{comes_before}
use Rattle.assertions.proofs.Anew.{same-long}
use Rattle.assertions.proofs.Endings.{Suffix, suffix_facts}
use Rattle.assertions.proofs.Enumerated.{suffix-rest}
use Rattle.irv_base.specs.Candidates.{candidates, is_in, has, set_of}
use Rattle.irv_base.specs.Orders.{EndsIn, Elects}
use Rattle.irv_base.specs.Suffixes.{is_suffix}
use Rattle.irv_base.proofs.Distinct.{Distinct, distinct-push, distinct-head}
use Rattle.irv_base.proofs.Distinct as distinct
use Rattle.irv_base.proofs.Members.{Member, here, there, member_cases, member_nil, member-append_left, member-append_right, member-append_cases, from_list_any, list_any-member, find-member, from_find, out-from_none, none-from_out}
use Rattle.irv_base.proofs.Orders.{last_split}
use Rattle.irv_base.proofs.Sets.{set_of-cons}
use Rattle.irv_base.proofs.Suffixes.{suffix_more, suffix-head, suffix-rest as tail-suffix, suffix-has}
use Rattle.set_walk.specs.Walks.{walks}
use Rattle.set_walk.specs.Dives.{Seen, dive, dives, over, on_seen, is_seen}
use Rattle.set_walk.specs.declared.walk.Stop.TheVariants.{Found, Spent, Memory}
use Rattle.set_walk.proofs.Claims.{more-elects}
use Rattle.set_walk.proofs.Places.{Gone, earlier, itself, below, gone-before, before-gone, none-before, less-longer}
use Rattle.set_walk.proofs.Standing.{Other}

-- a suffix that walks
pub record Walks (n winner : ℕ) (goes : ℕ → ℕ → Bool) (t : List ℕ) : Type 0 where
  pub is : Other n winner t
  pub going : walks goes t ≡ true

abbrev pub Before : List ℕ → List ℕ → Type 0
Before t x = comes_before x t ≡ true

-- what was seen after a part of the suffixes
pub record Inv (n winner : ℕ) (goes : ℕ → ℕ → Bool) (G : List ℕ → Type 0) (seen : List ℕ) : Type 0 where
  pub sound : (s : ℕ) → Member s seen → (x : List ℕ) × G x × Walks n winner goes x × (length x < n) × (set_of x ≡ s)
  pub complete : (x : List ℕ) → G x → Walks n winner goes x → Member (set_of x) seen
  pub none : (x : List ℕ) → G x → Walks n winner goes x → length x < n
  pub apart : Distinct seen

-- if the walk finds an order, and if it has no room
pub record AtFound (n winner sets : ℕ) (goes : ℕ → ℕ → Bool) (order : List ℕ) : Type 0 where
  pub walk : Walks n winner goes order
  pub whole : length order ≡ n
  pub seen : List ℕ
  pub inv : Inv n winner goes (Before order) seen
  pub few : length seen ≤ sets

pub record AtSpent (n winner sets : ℕ) (goes : ℕ → ℕ → Bool) : Type 0 where
  pub at : List ℕ
  pub walk : Walks n winner goes at
  pub short : length at < n
  pub seen : List ℕ
  pub inv : Inv n winner goes (Before at) seen
  pub new : Member (set_of at) seen → ⊥
  pub full : sets ≤ length seen

-- ---- suffixes
-- the same in front of another suffix of the same set
set-in-front : (u t t' : List ℕ) → set_of t ≡ set_of t' → set_of (u ++ t) ≡ set_of (u ++ t')
set-in-front [] t t' e = e
set-in-front (c ∷ u) t t' e =
    set_of-cons c (u ++ t) ∙ ap (λ s. 2 ^ c + s) (set-in-front u t t' e) ∙ sym (set_of-cons c (u ++ t'))

suffix-in-front : (n : ℕ) (u t t' : List ℕ) → set_of t ≡ set_of t' → is_suffix n t' ≡ true → is_suffix n (u ++ t) ≡ true → is_suffix n (u ++ t') ≡ true
suffix-in-front n [] t t' e p h = p
suffix-in-front n (c ∷ u) t t' e p h =
    let rest = tail-suffix n c (u ++ t) h in
    let ih = suffix-in-front n u t t' e p rest in
    let (l, out) = suffix-head n c (u ++ t) h in
    suffix_more n c (u ++ t') l
    (sym (suffix-has n (u ++ t') c ih) ∙ ap (λ s. has s c) (sym (set-in-front u t t' e)) ∙ suffix-has n (u ++ t) c rest ∙ out) ih

walks-in-front : (goes : ℕ → ℕ → Bool) (u t t' : List ℕ) → set_of t ≡ set_of t' → walks goes t' ≡ true → walks goes (u ++ t) ≡ true →
    walks goes (u ++ t') ≡ true
walks-in-front goes [] t t' e p h = p
walks-in-front goes (c ∷ u) t t' e p h =
    let (g, w) = and_parts (goes (set_of (u ++ t)) c) (walks goes (u ++ t)) h in
    and_from (goes (set_of (u ++ t')) c) (walks goes (u ++ t'))
    (ap (λ s. goes s c) (sym (set-in-front u t t' e)) ∙ g) (walks-in-front goes u t t' e p w)

elects-in-front : (u t : List ℕ) (c : ℕ) → Elects t c → Elects (u ++ t) c
elects-in-front [] t c e = e
elects-in-front (d ∷ u) t c e = more-elects d c (u ++ t) (elects-in-front u t c e)

walks-rest : (goes : ℕ → ℕ → Bool) (b t : List ℕ) → walks goes (b ++ t) ≡ true → walks goes t ≡ true
walks-rest goes [] t h = h
walks-rest goes (c ∷ b) t h = walks-rest goes b t (and_parts (goes (set_of (b ++ t)) c) (walks goes (b ++ t)) h).1

module _ (n winner sets : ℕ) (goes : ℕ → ℕ → Bool) where
  abbrev pub W : List ℕ → Type 0
  W t = Walks n winner goes t

  abbrev pub I : (List ℕ → Type 0) → List ℕ → Type 0
  I G seen = Inv n winner goes G seen

  in-front : (u t t' : List ℕ) → set_of t ≡ set_of t' → W t' → W (u ++ t) → W (u ++ t')
  in-front u t t' e w' w = record {
    is = record {
      proper = suffix-in-front n u t t' e w'.is.proper w.is.proper;
      elected = w'.is.elected;
      other = w'.is.other;
      elects = elects-in-front u t' w'.is.elected w'.is.elects;
    };
    going = walks-in-front goes u t t' e w'.going w.going;
  }

  inv-same : (G G' : List ℕ → Type 0) (seen : List ℕ) → ((x : List ℕ) → W x → G x → G' x) → ((x : List ℕ) → W x → G' x → G x) → I G seen → I G' seen
  inv-same G G' seen f g i = record {
    sound = λ s m. let (x, a, w, l, e) = i.sound s m in (x, f x w a, w, l, e);
    complete = λ x a w. i.complete x (g x w a) w;
    none = λ x a w. i.none x (g x w a) w;
    apart = i.apart;
  }

  -- the set of t is new
  enter : (t seen : List ℕ) → W t → length t < n → (Member (set_of t) seen → ⊥) → I (Before t) seen → I (Gone t 0) (seen ++ set_of t ∷ [])
  enter t seen w short new i = record {
    sound = λ s m. elim (member-append_cases seen (set_of t ∷ []) m) [
      | inl k ↦ let (x, a, w', l, e) = i.sound s k in (x, earlier a, w', l, e)
      | inr k ↦ elim (member_cases k) [ inl e ↦ (t, itself refl, w, short, e) | inr r ↦ absurd (member_nil r) ]
    ];
    complete = λ x a w'. went x a w';
    none = λ x a w'. fell x a w';
    apart = distinct-push seen (set_of t) i.apart new;
  }
    where
      went : (x : List ℕ) → Gone t 0 x → W x → Member (set_of x) (seen ++ set_of t ∷ [])
      went x (earlier a) w' = member-append_left (set_of t ∷ []) (i.complete x a w')
      went x (itself e) w' = subst (λ s. Member s (seen ++ set_of t ∷ [])) (ap set_of (sym e)) (member-append_right seen here)
      went x (below d l e) w' = absurd (omega arith)

      fell : (x : List ℕ) → Gone t 0 x → W x → length x < n
      fell x (earlier a) w' = i.none x a w'
      fell x (itself e) w' = let q = ap length e in omega (arith, q, short)
      fell x (below d l e) w' = absurd (omega arith)

  -- the set of t was seen: so was what comes of it
  skip : (t seen : List ℕ) → W t → Member (set_of t) seen → I (Before t) seen → I (λ x. Before t x ⊎ EndsIn x t) seen
  skip t seen w there' i = record {
    sound = λ s m. let (x, a, w', l, e) = i.sound s m in (x, inl a, w', l, e);
    complete = λ x a w'. elim a [ inl b ↦ i.complete x b w' | inr e ↦ (again x e w').0 ];
    none = λ x a w'. elim a [ inl b ↦ i.none x b w' | inr e ↦ (again x e w').1 ];
    apart = i.apart;
  }
    where
      again : (x : List ℕ) → EndsIn x t → W x → Member (set_of x) seen × (length x < n)
      again x (u, e) w' =
          let (t', b, wt, l, s) = i.sound (set_of t) there' in
          let w'' : W (u ++ t) = subst W e w' in
          let y : W (u ++ t') = in-front u t t' (sym s) wt w'' in
          let long = same-long n t' t wt.is.proper w.is.proper s in
          let lr = Rattle.std.proofs.lemmas.List.length-reverse t' in
          let lr' = Rattle.std.proofs.lemmas.List.length-reverse t in
          let b' : Before t (u ++ t') =
          ap (λ z. stands_before z (Rattle.std.proofs.Common.reverse t)) (Rattle.std.proofs.lemmas.List.reverse-append u t')
          ∙ less-longer (Rattle.std.proofs.Common.reverse t') (Rattle.std.proofs.Common.reverse t) (Rattle.std.proofs.Common.reverse u) (omega (arith, long, lr, lr')) b in
          let same : set_of x ≡ set_of (u ++ t') = ap set_of e ∙ set-in-front u t t' (sym s) in
          let m = i.complete (u ++ t') b' y in
          let f = i.none (u ++ t') b' y in
          let q = ap length e in
          let p = length-append u t in
          let p' = length-append u t' in
          (subst (λ z. Member z seen) (sym same) m, omega (arith, f, q, p, p', long))

  -- after the last candidate in front of t
  leave : (t seen : List ℕ) → I (Gone t n) seen → I (λ x. Before t x ⊎ EndsIn x t) seen
  leave t seen i = inv-same (Gone t n) (λ x. Before t x ⊎ EndsIn x t) seen forth back i where
    forth : (x : List ℕ) → W x → Gone t n x → Before t x ⊎ EndsIn x t
    forth x w (earlier a) = inl a
    forth x w (itself e) = inr ([], e)
    forth x w (below d l (b, e)) = inr (b ++ d ∷ [], e ∙ sym (append_assoc b (d ∷ []) t))

    ended : (x : List ℕ) → W x → (b : List ℕ) → x ≡ b ++ t → Gone t n x
    ended x w [] e = itself e
    ended x w (y ∷ bs) e =
        let (ys, z, q) = last_split y bs in
        let e' : x ≡ ys ++ z ∷ t = e ∙ ap (λ s. s ++ t) q ∙ append_assoc ys (z ∷ []) t in
        let s : Suffix n x = suffix_facts n x w.is.proper in
        below z (s.below z (subst (Member z) (sym e') (member-append_right ys here))) (ys, e')

    back : (x : List ℕ) → W x → Before t x ⊎ EndsIn x t → Gone t n x
    back x w (inl a) = earlier a
    back x w (inr (b, e)) = ended x w b e

  -- from one candidate in front to the next
  weaken : (t : List ℕ) (c : ℕ) (x : List ℕ) → Gone t c x → Gone t (c + 1) x
  weaken t c x (earlier a) = earlier a
  weaken t c x (itself e) = itself e
  weaken t c x (below d l e) = below d (omega arith) e

  stepped : (t : List ℕ) (c : ℕ) (x : List ℕ) → Gone t (c + 1) x → Gone t c x ⊎ EndsIn x (c ∷ t)
  stepped t c x (earlier a) = inl (earlier a)
  stepped t c x (itself e) = inl (itself e)
  stepped t c x (below d l e) =
      elim (cases_lt d c) [
        | inl lt ↦ inl (below d lt e)
        | inr ge ↦ let same : d ≡ c = omega (arith, l, ge) in inr (subst (λ z. EndsIn x (z ∷ t)) same e)
      ]

  next : (t seen : List ℕ) (c : ℕ) → I (λ x. Before (c ∷ t) x ⊎ EndsIn x (c ∷ t)) seen → I (Gone t (c + 1)) seen
  next t seen c i =
      inv-same (λ x. Before (c ∷ t) x ⊎ EndsIn x (c ∷ t)) (Gone t (c + 1)) seen
      (λ x w a. elim a [ inl b ↦ weaken t c x (before-gone t c x b) | inr e ↦ below c (omega arith) e ])
      (λ x w a. elim (stepped t c x a) [ inl b ↦ inl (gone-before t c x b) | inr e ↦ inr e ]) i

  pass : (t seen : List ℕ) (c : ℕ) → ((x : List ℕ) → W x → EndsIn x (c ∷ t) → ⊥) → I (Gone t c) seen → I (Gone t (c + 1)) seen
  pass t seen c never i =
      inv-same (Gone t c) (Gone t (c + 1)) seen (λ x w a. weaken t c x a)
      (λ x w a. elim (stepped t c x a) [ inl b ↦ b | inr e ↦ absurd (never x w e) ]) i

  entry : (t seen : List ℕ) (c : ℕ) → I (Gone t c) seen → I (Before (c ∷ t)) seen
  entry t seen c i = inv-same (Gone t c) (Before (c ∷ t)) seen (λ x w a. gone-before t c x a) (λ x w a. before-gone t c x a) i

  -- ---- the result of a walk
  abbrev pub Outcome : (List ℕ → Type 0) → Seen → Type 0
  Outcome G (Ok seen) = I G seen × (length seen ≤ sets)
  Outcome G (Err (Found order)) = AtFound n winner sets goes order
  Outcome G (Err Spent) = AtSpent n winner sets goes
  Outcome G (Err Memory) = ⊥

  outcome-map : (G G' : List ℕ → Type 0) → ((seen : List ℕ) → I G seen → I G' seen) → (r : Seen) → Outcome G r → Outcome G' r
  outcome-map G G' f (Ok seen) o = (f seen o.0, o.1)
  outcome-map G G' f (Err (Found order)) o = o
  outcome-map G G' f (Err Spent) o = o
  outcome-map G G' f (Err Memory) o = o

  -- candidate by candidate
  looped : (t : List ℕ) (f : ℕ → List ℕ → Seen) →
      ((c : ℕ) (seen : List ℕ) → c < n → I (Gone t c) seen → length seen ≤ sets → Outcome (Gone t (c + 1)) (f c seen)) →
      (m c : ℕ) (seen : List ℕ) → c + m ≡ n → I (Gone t c) seen → length seen ≤ sets → Outcome (Gone t n) (over f (range_with_len c m) seen)
  looped t f step zero c seen e i le = let same : c ≡ n = omega (arith, e) in (subst (λ k. I (Gone t k) seen) same i, le)
  looped t f step (suc m) c seen e i le = go (f c seen) (step c seen (omega (arith, e)) i le) (λ s j k. looped t f step m (c + 1) s (omega (arith, e)) j k) where
    go : (r : Seen) → Outcome (Gone t (c + 1)) r →
        ((s : List ℕ) → I (Gone t (c + 1)) s → length s ≤ sets → Outcome (Gone t n) (over f (range_with_len (c + 1) m) s)) →
        Outcome (Gone t n) (on_seen r (over f (range_with_len (c + 1) m)))
    go (Ok s) o ih = ih s o.0 o.1
    go (Err (Found order)) o ih = o
    go (Err Spent) o ih = o
    go (Err Memory) o ih = o

  seen-member : (seen : List ℕ) (s : ℕ) → is_seen seen s ≡ true → Member s seen
  seen-member seen s h = let (d, m, e) = from_list_any (λ other. s == other) seen h in subst (λ z. Member z seen) (sym (eqb-true s d e)) m

  new-member : (seen : List ℕ) (s : ℕ) → is_seen seen s ≡ false → Member s seen → ⊥
  new-member seen s h m = both_ways (is_seen seen s) h (list_any-member (λ other. s == other) m (eq-eqb s s refl))

  child : (t : List ℕ) (c : ℕ) → W t → c < n → is_in t c ≡ false → goes (set_of t) c ≡ true → W (c ∷ t)
  child t c w l out g = record {
    is = record {
      proper = suffix_more n c t l out w.is.proper;
      elected = w.is.elected;
      other = w.is.other;
      elects = more-elects c w.is.elected t w.is.elects;
    };
    going = and_from (goes (set_of t) c) (walks goes t) g w.going;
  }

  -- a suffix that ends in no suffix that walks doesn't walk
  in-no : (t : List ℕ) (c : ℕ) → is_in t c ≡ true → (x : List ℕ) → W x → EndsIn x (c ∷ t) → ⊥
  in-no t c h x w (b, e) =
      let s : Suffix n (c ∷ t) = suffix-rest b (c ∷ t) (subst (Suffix n) e (suffix_facts n x w.is.proper)) in
      distinct-head s.apart (Rattle.irv_base.proofs.Members.member-from_in c t h)

  goes-no : (t : List ℕ) (c : ℕ) → goes (set_of t) c ≡ false → (x : List ℕ) → W x → EndsIn x (c ∷ t) → ⊥
  goes-no t c h x w (b, e) =
      both_ways (goes (set_of t) c) h
      (and_parts (goes (set_of t) c) (walks goes t) (walks-rest goes b (c ∷ t) (ap (walks goes) (sym e) ∙ w.going))).0

  dived : (k : ℕ) (t seen : List ℕ) → k + length t ≡ n → W t → I (Before t) seen → length seen ≤ sets →
      Outcome (λ x. Before t x ⊎ EndsIn x t) (dive n sets goes k t seen)
  dived zero t seen long w i le = record { walk = w; whole = omega (arith, long); seen = seen; inv = i; few = le }
  dived (suc k) t seen long w i le =
      elim (cases_Bool (is_seen seen (set_of t))) [
        | inl old ↦
            subst (Outcome (λ x. Before t x ⊎ EndsIn x t)) (sym (ap (λ b. if b then Ok seen else next-part) old)) (skip t seen w (seen-member seen (set_of t) old) i, le)
        | inr new ↦ elim (cases_Bool (nat_lt (length seen) sets)) [
          | inr full ↦
              subst (Outcome (λ x. Before t x ⊎ EndsIn x t))
              (sym (ap (λ b. if b then Ok seen else next-part) new ∙ ap (λ b. if b then over front (candidates n) (seen ++ set_of t ∷ []) else Err Spent) full))
              (record {
                at = t;
                walk = w;
                short = omega (arith, long);
                seen = seen;
                inv = i;
                new = new-member seen (set_of t) new;
                full = ltb-false (length seen) sets full;
              })
          | inl room ↦
              let lt = ltb-true (length seen) sets room in
              let few = length-append seen (set_of t ∷ []) in
              subst (Outcome (λ x. Before t x ⊎ EndsIn x t))
              (sym (ap (λ b. if b then Ok seen else next-part) new ∙ ap (λ b. if b then over front (candidates n) (seen ++ set_of t ∷ []) else Err Spent) room))
              (outcome-map (Gone t n) (λ x. Before t x ⊎ EndsIn x t) (leave t) (over front (candidates n) (seen ++ set_of t ∷ []))
              (looped t front (steps (λ c s w' j l. dived k (c ∷ t) s (omega (arith, long)) w' j l)) n 0 (seen ++ set_of t ∷ []) (omega arith)
              (enter t seen w (omega (arith, long)) (new-member seen (set_of t) new) i) (omega (arith, lt, few))))
        ]
      ]
    where
      front : ℕ → List ℕ → Seen
      front c s = if is_in t c then Ok s else (if goes (set_of t) c then dive n sets goes k (c ∷ t) s else Ok s)

      next-part : Seen
      next-part = if nat_lt (length seen) sets then over front (candidates n) (seen ++ set_of t ∷ []) else Err Spent

      steps : ((c : ℕ) (s : List ℕ) → W (c ∷ t) → I (Before (c ∷ t)) s → length s ≤ sets → Outcome (λ x. Before (c ∷ t) x ⊎ EndsIn x (c ∷ t))
          (dive n sets goes k (c ∷ t) s)) →
          (c : ℕ) (s : List ℕ) → c < n → I (Gone t c) s → length s ≤ sets → Outcome (Gone t (c + 1)) (front c s)
      steps ih c s l j few =
          elim (cases_Bool (is_in t c)) [
            | inl y ↦
                subst (Outcome (Gone t (c + 1))) (sym (ap (λ b. if b then Ok s else (if goes (set_of t) c then dive n sets goes k (c ∷ t) s else Ok s)) y))
                (pass t s c (in-no t c y) j, few)
            | inr out ↦ elim (cases_Bool (goes (set_of t) c)) [
              | inr no' ↦
                  subst (Outcome (Gone t (c + 1)))
                  (sym (ap (λ b. if b then Ok s else (if goes (set_of t) c then dive n sets goes k (c ∷ t) s else Ok s)) out
                  ∙ ap (λ b. if b then dive n sets goes k (c ∷ t) s else Ok s) no'))
                  (pass t s c (goes-no t c no') j, few)
              | inl yes' ↦
                  subst (Outcome (Gone t (c + 1)))
                  (sym (ap (λ b. if b then Ok s else (if goes (set_of t) c then dive n sets goes k (c ∷ t) s else Ok s)) out
                  ∙ ap (λ b. if b then dive n sets goes k (c ∷ t) s else Ok s) yes'))
                  (outcome-map (λ x. Before (c ∷ t) x ⊎ EndsIn x (c ∷ t)) (Gone t (c + 1)) (λ seen. next t seen c) (dive n sets goes k (c ∷ t) s)
                  (ih c s (child t c w l out yes') (entry t s c j) few))
            ]
          ]

  -- ---- from each last candidate
  abbrev last : ℕ → List ℕ → Seen
  last c s = if goes 0 c then dive n sets goes (n - 1) (c ∷ []) s else Ok s

  abbrev guarded : ℕ → List ℕ → Seen
  guarded c s = if c == winner then Ok s else last c s

  over-all_but : (cs seen : List ℕ) → over last (filter (λ c. not (c == winner)) cs) seen ≡ over guarded cs seen
  over-all_but [] seen = refl
  over-all_but (c ∷ cs) seen = go (c == winner) (last c seen) (λ s. over-all_but cs s) where
    tied : (r : Seen) → ((s : List ℕ) → over last (filter (λ c. not (c == winner)) cs) s ≡ over guarded cs s) →
        on_seen r (over last (filter (λ c. not (c == winner)) cs)) ≡ on_seen r (over guarded cs)
    tied (Ok s) h = h s
    tied (Err stop) h = refl

    go : (b : Bool) (r : Seen) → ((s : List ℕ) → over last (filter (λ c. not (c == winner)) cs) s ≡ over guarded cs s) →
        over last (cond (not b) (c ∷ filter (λ c. not (c == winner)) cs) (filter (λ c. not (c == winner)) cs)) seen
        ≡ on_seen (if b then Ok seen else last c seen) (over guarded cs)
    go true r h = h seen
    go false r h = tied (last c seen) h

  nothing-yet : I (Gone [] 0) []
  nothing-yet = record {
    sound = λ s m. absurd (member_nil m);
    complete = λ x a w. absurd (never x a w);
    none = λ x a w. absurd (never x a w);
    apart = distinct.none;
  }
    where
      empty : (b : List ℕ) (c : ℕ) → [] ≡ b ++ c ∷ [] → ⊥
      empty [] c e = cc
      empty (y ∷ b) c e = cc

      never : (x : List ℕ) → Gone [] 0 x → W x → ⊥
      never x (earlier a) w = none-before x a
      never x (itself e) w = empty w.is.elects.0 w.is.elected (sym e ∙ w.is.elects.1)
      never x (below d l e) w = omega arith

  winner-no : (x : List ℕ) → W x → EndsIn x (winner ∷ []) → ⊥
  winner-no x w (b, e) =
      w.is.other (lasts-same w.is.elects.0 b w.is.elected winner (sym w.is.elects.1 ∙ e))
    where
      lasts-same : (a b : List ℕ) (c d : ℕ) → a ++ c ∷ [] ≡ b ++ d ∷ [] → c ≡ d
      lasts-same [] [] c d e = cc
      lasts-same [] (y ∷ []) c d e = cc
      lasts-same [] (y ∷ z ∷ b) c d e = cc
      lasts-same (x ∷ []) [] c d e = cc
      lasts-same (x ∷ z ∷ a) [] c d e = cc
      lasts-same (x ∷ a) (y ∷ b) c d e = let e' : a ++ c ∷ [] ≡ b ++ d ∷ [] = cc in lasts-same a b c d e'

  dives-outcome : 0 < n → Outcome (Gone [] n) (dives n winner sets goes)
  dives-outcome some =
      subst (Outcome (Gone [] n)) (sym (over-all_but (candidates n) [])) (looped [] guarded steps n 0 [] (omega arith) nothing-yet (omega arith))
    where
      alone : (c : ℕ) → c < n → c ≢ winner → goes 0 c ≡ true → W (c ∷ [])
      alone c l ne g = record {
        is = record { proper = suffix_more n c [] l refl refl; elected = c; other = ne; elects = ([], refl) };
        going = and_from (goes 0 c) true g refl;
      }

      steps : (c : ℕ) (s : List ℕ) → c < n → I (Gone [] c) s → length s ≤ sets → Outcome (Gone [] (c + 1)) (guarded c s)
      steps c s l j few =
          elim (cases_eq c winner) [
            | inl e ↦
                subst (Outcome (Gone [] (c + 1))) (sym (ap (λ b. if b then Ok s else last c s) (eq-eqb c winner e)))
                (pass [] s c (λ x w q. winner-no x w (subst (λ z. EndsIn x (z ∷ [])) e q)) j, few)
            | inr ne ↦ elim (cases_Bool (goes 0 c)) [
              | inr no' ↦
                  subst (Outcome (Gone [] (c + 1)))
                  (sym (ap (λ b. if b then Ok s else last c s) (Rattle.std.proofs.Common.ne_eqb c winner ne)
                  ∙ ap (λ b. if b then dive n sets goes (n - 1) (c ∷ []) s else Ok s) no'))
                  (pass [] s c (goes-no [] c no') j, few)
              | inl yes' ↦
                  subst (Outcome (Gone [] (c + 1)))
                  (sym (ap (λ b. if b then Ok s else last c s) (Rattle.std.proofs.Common.ne_eqb c winner ne)
                  ∙ ap (λ b. if b then dive n sets goes (n - 1) (c ∷ []) s else Ok s) yes'))
                  (outcome-map (λ x. Before (c ∷ []) x ⊎ EndsIn x (c ∷ [])) (Gone [] (c + 1)) (λ seen. next [] seen c)
                  (dive n sets goes (n - 1) (c ∷ []) s)
                  (dived (n - 1) (c ∷ []) s (omega arith) (alone c l ne yes') (entry [] s c j) few))
            ]
          ]

  pub outcome : 0 < n → Outcome (Gone [] n) (dives n winner sets goes)
  outcome some = dives-outcome some
