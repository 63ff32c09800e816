-- What is known about the sets that a search goes into, the one with the least low first.
use Rattle.std.proofs.Common.{◌≡◌, ◌≢◌, ◌⊎◌, inl, inr, ℕ, ◌<◌, ◌≤◌, max, true, false, not, ◌==◌, List, [], ◌∷◌, ◌++◌, length, length-append, All, refl, sym, ap, subst, arith, eq-eqb, eqb-true, ne_eqb, le-leb, ◌∙◌}
use Rattle.std.specs.List.Sorted.{IsPermutation}
use Rattle.std.proofs.lemmas.Bool.{both_ways, cases_lt, not-true, not_from_false, eqb-false}
use Rattle.std.proofs.lemmas.List.Sorted.{Contains-permutation, IsPermutation-sym}
use Rattle.std.proofs.lemmas.List.Elements.{All-contains}
use Rattle.std.specs.List.{list_any}
use Rattle.irv_base.specs.declared.limits.TheConstants.{ROOM}
use Rattle.irv_base.specs.Candidates.{all_but, candidates, has, members, set_of}
use Rattle.irv_base.specs.Orders.{Elects}
use Rattle.irv_base.specs.Suffixes.{is_suffix}
use Rattle.irv_base.proofs.Distinct.{Distinct, distinct-le, distinct-push, distinct-range}
use Rattle.irv_base.proofs.Members.{Member, candidate-member, contains-from_member, from_candidates, from_filter, from_list_any, list_any-member, here, member-append_cases, member-append_left, member-append_right, member-filter, member-from_contains, member_cases, member_nil, there}
use Rattle.irv_base.proofs.Orders.{order_facts}
use Rattle.irv_base.proofs.Sets.{set_of-cons}
use Rattle.irv_base.proofs.Suffixes.{suffix-has, suffix-head, suffix-rest, suffix-short, suffix_more, suffix_whole}
use Rattle.assertions.specs.Hardness.{low}
use Rattle.assertions.specs.Suffixes.{alternative_orders}
use Rattle.assertions.proofs.Alternatives.{best-le, best_is}
use Rattle.assertions.proofs.Endings.{alternative-member, from_alternative}
use Rattle.assertions.specs.Steps.{more, outside, step}
use Rattle.set_walk.specs.Walks.{standing}
use Rattle.assertions.proofs.Anew.{low_by_steps, low-alone, same-long}
use Rattle.set_walk.proofs.Claims.{alone-elected, more-elects, rest-elects}
use Rattle.set_walk.proofs.Orders.{alternative-suffix}
use Rattle.set_walk.proofs.Standing.{Other, standing-member}
use Rattle.set_walk.proofs.Walking.{within-walks}
use Rattle.set_search.specs.Levels.{IsLevel}
use Rattle.set_search.specs.Limits.{within}
use Rattle.set_search.specs.Waits.{AreAdded, waiting_at}
use Rattle.set_search.specs.Sets.{best_of}
use Rattle.set_search.specs.declared.by_margin.Limit.TheVariants.{AtMost}
use Rattle.set_search.specs.declared.waiting.Waiting.{Waiting}
use Rattle.set_search.proofs.Mores.{members-long}

-- ---- what was seen
pub seen-member : (seen : List ℕ) (set : ℕ) → list_any (λ other. set == other) seen ≡ true → Member set seen
seen-member seen set h =
    let (other, m, e) = from_list_any (λ other. set == other) seen h in
    subst (λ x. Member x seen) (sym (eqb-true set other e)) m

pub seen-out : (seen : List ℕ) (set : ℕ) → list_any (λ other. set == other) seen ≡ false → Member set seen → ⊥
seen-out seen set h m = both_ways _ h (list_any-member (λ other. set == other) m (eq-eqb set set refl))

-- a suffix of the set that elects another candidate has a low of at most the margin
pub record Comes (n winner : ℕ) (records : List (List ℕ)) (level set : ℕ) (t : List ℕ) : Type 0 where
  pub is : Other n winner t
  pub low : low n records t ≤ level
  pub same : set_of t ≡ set

-- one has gone from the set by c, or may go
abbrev pub IsNext : ℕ → List (List ℕ) → ℕ → List ℕ → List Waiting → ℕ → ℕ → Type 0
IsNext n records level seen waiting set c =
    Member (more set c) seen ⊎ ((own : ℕ) × (own ≤ level) × Member (waiting_at n records own set c) waiting)

pub record Searched (n winner : ℕ) (records : List (List ℕ)) (level : ℕ) (seen : List ℕ) (waiting : List Waiting) : Type 0 where
  pub sound : (set : ℕ) → Member set seen → (t : List ℕ) × Comes n winner records level set t × (length t < n)
  pub waits : (o : Waiting) → Member o waiting → (t : List ℕ) × Comes n winner records (max level o.margin) o.set t
  pub first : (c : ℕ) → Member c (all_but n winner) → IsNext n records level seen waiting 0 c
  pub next : (set c : ℕ) → Member set seen → Member c (outside n set) → IsNext n records level seen waiting set c
  pub apart : Distinct seen
  pub most : level ≤ best_of n records winner

module _ (n winner : ℕ) (records : List (List ℕ)) where
  abbrev S : ℕ → List ℕ → List Waiting → Type 0
  S level seen waiting = Searched n winner records level seen waiting

  next-by : (level : ℕ) (seen seen' : List ℕ) (waiting more_waiting : List Waiting) (set c : ℕ) → ((s : ℕ) → Member s seen → Member s seen') →
      ((o : Waiting) → Member o waiting → Member o more_waiting ⊎ Member o.set seen') → IsNext n records level seen waiting set c →
      IsNext n records level seen' more_waiting set c
  next-by level seen seen' waiting more_waiting set c f g (inl m) = inl (f (more set c) m)
  next-by level seen seen' waiting more_waiting set c f g (inr (own, le, m)) =
      elim (g (waiting_at n records own set c) m) [ inl k ↦ inr (own, le, k) | inr k ↦ inl k ]

  next-higher : (level higher : ℕ) (seen : List ℕ) (waiting : List Waiting) (set c : ℕ) → level ≤ higher → IsNext n records level seen waiting set c →
      IsNext n records higher seen waiting set c
  next-higher level higher seen waiting set c up (inl m) = inl m
  next-higher level higher seen waiting set c up (inr (own, le, m)) = inr (own, omega (arith, le, up), m)

  nobody : Other n winner [] → ⊥
  nobody o = go o.elects where
    go : Elects [] o.elected → ⊥
    go ([], e) = cc
    go (x ∷ b, e) = cc

  -- only the waiting sets, at the start
  pub starts : (closed : ℕ) (waiting : List Waiting) → ((c : ℕ) → has closed c ≡ (c == winner)) → AreAdded n records 0 0 closed [] waiting → S 0 [] waiting
  starts closed waiting only-winner h = record {
    sound = λ s m. absurd (member_nil m);
    waits = λ o m. elim (h.only o (contains-from_member m)) [
      | inl none ↦ absurd (member_nil (member-from_contains o [] none))
      | inr r ↦ let (c, l, out, e) = r in by-alone o c l (eqb-false c winner (sym (only-winner c) ∙ out)) e
    ];
    first = λ c m.
        let (k, ne) = from_filter (λ c. not (c == winner)) (candidates n) m in
        inr (
          0,
          omega arith,
          member-from_contains (waiting_at n records 0 0 c) waiting
              (h.each c (from_candidates k) (only-winner c ∙ not-true (c == winner) ne)),
        );
    next = λ s c m k. absurd (member_nil m);
    apart = distinct-range 0 0;
    most = omega arith;
  }
    where
      by-alone : (o : Waiting) (c : ℕ) → c < n → c ≢ winner → o ≡ waiting_at n records 0 0 c → (t : List ℕ) × Comes n winner records (max 0 o.margin) o.set t
      by-alone o c l ne e =
          let proper : is_suffix n (c ∷ []) ≡ true = suffix_more n c [] l refl refl in
          let margin : o.margin ≡ max (step n records 0 c) 0 = ap (λ (x : Waiting). x.margin) e in
          let set : o.set ≡ more 0 c = ap (λ (x : Waiting). x.set) e in
          let low' = low-alone n records c proper in (
            c ∷ [],
            record {
              is = record { proper = proper; elected = c; other = ne; elects = ([], refl) };
              low = omega (arith, low', margin);
              same = set_of-cons c [] ∙ sym set;
            },
          )

  -- if all that is waiting is above a margin, the sets of suffixes within it were seen
  reach : (level bound : ℕ) (seen : List ℕ) (waiting : List Waiting) → level ≤ bound → S level seen waiting → ((o : Waiting) → Member o waiting → bound < o.margin) →
      (t : List ℕ) → Other n winner t → low n records t ≤ bound → Member (set_of t) seen
  reach level bound seen waiting up s above [] o le = absurd (nobody o)
  reach level bound seen waiting up s above (c ∷ []) o le =
      let (l, _) = suffix-head n c [] o.proper in
      let ne : c ≢ winner = subst (λ x. x ≢ winner) (sym (alone-elected c o.elected o.elects)) o.other in
      let e = low-alone n records c o.proper in
      elim (s.first c (member-filter (λ c. not (c == winner)) (candidates n) (candidate-member c n l) (not_from_false (c == winner) (ne_eqb c winner ne)))) [
        | inl m ↦ subst (λ x. Member x seen) (sym (set_of-cons c [])) m
        | inr (own, own-le, m) ↦
            let gt : bound < max (step n records 0 c) own = above (waiting_at n records own 0 c) m in
            absurd (omega (arith, gt, e, le, own-le, up))
      ]
  reach level bound seen waiting up s above (c ∷ d ∷ t) o le =
      let rest : is_suffix n (d ∷ t) ≡ true = suffix-rest n c (d ∷ t) o.proper in
      let (l, out) = suffix-head n c (d ∷ t) o.proper in
      let e = low_by_steps n records c (d ∷ t) o.proper in
      let o' : Other n winner (d ∷ t) = record { proper = rest; elected = o.elected; other = o.other; elects = rest-elects c d o.elected t o.elects } in
      let ih = reach level bound seen waiting up s above (d ∷ t) o' (omega (arith, e, le)) in
      let k : Member c (outside n (set_of (d ∷ t))) = member-filter (λ c. not (has (set_of (d ∷ t)) c)) (candidates n) (candidate-member c n l)
      (not_from_false (has (set_of (d ∷ t)) c) (suffix-has n (d ∷ t) c rest ∙ out)) in
      elim (s.next (set_of (d ∷ t)) c ih k) [
        | inl m ↦ subst (λ x. Member x seen) (sym (set_of-cons c (d ∷ t))) m
        | inr (own, own-le, m) ↦
            let gt : bound < max (step n records (set_of (d ∷ t)) c) own = above (waiting_at n records own (set_of (d ∷ t)) c) m in
            absurd (omega (arith, gt, e, le, own-le, up))
      ]

  other-order : (order : List ℕ) → Member order (alternative_orders n winner) → Other n winner order × (length order ≡ n)
  other-order order m =
      let (h, (c, ne, e)) = from_alternative n winner order m in
      (record { proper = alternative-suffix n winner order m; elected = c; other = ne; elects = e }, (order_facts n order h).long)

  -- no order has its whole set among those that were seen
  never-whole : (level : ℕ) (seen : List ℕ) (waiting : List Waiting) → S level seen waiting → (order : List ℕ) → Member order (alternative_orders n winner) →
      Member (set_of order) seen → ⊥
  never-whole level seen waiting s order m k =
      let (o, long) = other-order order m in
      let (t, h, short) = s.sound (set_of order) k in
      let same = same-long n t order h.is.proper o.proper h.same in
      omega (arith, long, short, same)

  empty : (waiting : List Waiting) (x : Waiting) → length waiting ≡ 0 → Member x waiting → ⊥
  empty [] x e m = member_nil m
  empty (y ∷ ys) x e m = cc

  -- something is always waiting
  pub never-closed : winner < n → 1 < n → (level : ℕ) (seen : List ℕ) (waiting : List Waiting) → S level seen waiting → length waiting ≡ 0 → ⊥
  never-closed low' two level seen waiting s none =
      let (order, m, e) = best_is n winner (low n records) low' two in
      let (o, long) = other-order order m in
      let most = s.most in
      never-whole level seen waiting s order m
      (reach level (low n records order) seen waiting (omega (arith, most, e)) s (λ x k. absurd (empty waiting x none k)) order o (omega arith))

  -- the margin rises to the smallest that is waiting
  pub rises : winner < n → 1 < n → (level margin : ℕ) (seen : List ℕ) (waiting : List Waiting) → S level seen waiting →
      ((o : Waiting) → Member o waiting → margin ≤ o.margin) → S (max margin level) seen waiting
  rises low' two level margin seen waiting s least = record {
    sound = λ set m.
        let (t, h, short) = s.sound set m in
        let le = h.low in
        (t, record { is = h.is; low = omega (arith, le); same = h.same }, short);
    waits = λ o m. let (t, h) = s.waits o m in let le = h.low in (t, record { is = h.is; low = omega (arith, le); same = h.same });
    first = λ c m. next-higher level (max margin level) seen waiting 0 c (omega arith) (s.first c m);
    next = λ set c m k. next-higher level (max margin level) seen waiting set c (omega arith) (s.next set c m k);
    apart = s.apart;
    most = most;
  }
    where
      most : max margin level ≤ best_of n records winner
      most =
          let le = s.most in
          elim (cases_lt (best_of n records winner) margin) [
            | inl lt ↦
                let (order, m, e) = best_is n winner (low n records) low' two in
                let (o, long) = other-order order m in
                absurd (never-whole level seen waiting s order m
                (reach level (best_of n records winner) seen waiting le s (λ x k. let ge = least x k in omega (arith, ge, lt)) order o (omega (arith, e))))
            | inr ge ↦ omega (arith, le, ge)
          ]

  pub permuted : (level : ℕ) (seen : List ℕ) (waiting more_waiting : List Waiting) → S level seen waiting → IsPermutation waiting more_waiting →
      S level seen more_waiting
  permuted level seen waiting more_waiting s p = record {
    sound = s.sound;
    waits = λ o m. s.waits o
        (member-from_contains o waiting (Contains-permutation more_waiting waiting o (IsPermutation-sym waiting more_waiting p) (contains-from_member m)));
    first = λ c m. next-by level seen seen waiting more_waiting 0 c (λ s m. m) there' (s.first c m);
    next = λ set c m k. next-by level seen seen waiting more_waiting set c (λ s m. m) there' (s.next set c m k);
    apart = s.apart;
    most = s.most;
  }
    where
      there' : (o : Waiting) → Member o waiting → Member o more_waiting ⊎ Member o.set seen
      there' o m = inl (member-from_contains o more_waiting (Contains-permutation waiting more_waiting o p (contains-from_member m)))

  -- the set that is taken was seen before
  pub skips : (level : ℕ) (seen : List ℕ) (x : Waiting) (waiting : List Waiting) → S level seen (x ∷ waiting) → Member x.set seen → S level seen waiting
  skips level seen x waiting s known = record {
    sound = s.sound;
    waits = λ o m. s.waits o (there m);
    first = λ c m. next-by level seen seen (x ∷ waiting) waiting 0 c (λ s m. m) gone (s.first c m);
    next = λ set c m k. next-by level seen seen (x ∷ waiting) waiting set c (λ s m. m) gone (s.next set c m k);
    apart = s.apart;
    most = s.most;
  }
    where
      gone : (o : Waiting) → Member o (x ∷ waiting) → Member o waiting ⊎ Member o.set seen
      gone o m = elim (member_cases m) [ inl e ↦ inr (subst (λ (y : Waiting). Member y.set seen) e known) | inr k ↦ inl k ]

  -- the set of the smallest margin is taken, and the margin rises to its margin
  pub takes : winner < n → 1 < n → (level higher : ℕ) (seen : List ℕ) (x : Waiting) (old rest : List Waiting) → S level seen old →
      IsPermutation old (x ∷ rest) → All (λ (y : Waiting). x.margin ≤ y.margin) rest → higher ≡ max x.margin level → S higher seen (x ∷ rest)
  takes low' two level higher seen x old rest s p least is =
      subst (λ k. S k seen (x ∷ rest)) (sym is)
      (rises low' two level x.margin seen (x ∷ rest) (permuted level seen old (x ∷ rest) s p) (λ o m. elim (member_cases m) [
        | inl e ↦ let same = ap (λ (y : Waiting). y.margin) e in omega (arith, same)
        | inr k ↦ All-contains (λ (y : Waiting). x.margin ≤ y.margin) rest o least (contains-from_member k)
      ]))

  -- the number of candidates in a set
  pub long-is : n ≤ ROOM → (level set : ℕ) (t : List ℕ) → Comes n winner records level set t → length (members set) ≡ length t
  long-is room level set t w = ap (λ s. length (members s)) (sym w.same) ∙ members-long n t w.is.proper room

  pub shorter : n ≤ ROOM → (level set : ℕ) → length (members set) ≢ n → (t : List ℕ) → Comes n winner records level set t → length t < n
  shorter room level set ne t w =
      let long = long-is room level set t w in
      let most = suffix-short n t w.is.proper in
      elim (cases_lt (length t) n) [ inl lt ↦ lt | inr ge ↦ absurd (ne (omega (arith, long, most, ge))) ]

  -- how the suffix of the set that is taken reaches it
  pub taken : (level : ℕ) (seen : List ℕ) (x : Waiting) (waiting : List Waiting) → S level seen (x ∷ waiting) → x.margin ≤ level →
      (t : List ℕ) × Comes n winner records level x.set t
  taken level seen x waiting s le =
      let (t, h) = s.waits x here in
      let l = h.low in
      (t, record { is = h.is; low = omega (arith, l, le); same = h.same })

  -- one goes into the set that is taken
  pub enters : (level : ℕ) (seen : List ℕ) (x : Waiting) (waiting more_waiting : List Waiting) → S level seen (x ∷ waiting) → x.margin ≤ level →
      (Member x.set seen → ⊥) → ((t : List ℕ) → Comes n winner records level x.set t → length t < n) → AreAdded n records level x.set x.set waiting more_waiting →
      S level (seen ++ x.set ∷ []) more_waiting
  enters level seen x waiting more_waiting s le new short h = record {
    sound = λ set m. elim (member-append_cases seen (x.set ∷ []) m) [
      | inl k ↦ s.sound set k
      | inr k ↦ elim (member_cases k) [
        | inl e ↦ let (t, w) = taken level seen x waiting s le in (t, subst (λ y. Comes n winner records level y t) e w, short t w)
        | inr r ↦ absurd (member_nil r)
      ]
    ];
    waits = λ o m. elim (h.only o (contains-from_member m)) [
      | inl k ↦ s.waits o (there (member-from_contains o waiting k))
      | inr r ↦ let (c, l, out, e) = r in longer o c l out e
    ];
    first = λ c m. next-by level seen (seen ++ x.set ∷ []) (x ∷ waiting) more_waiting 0 c old gone (s.first c m);
    next = λ set c m k. elim (member-append_cases seen (x.set ∷ []) m) [
      | inl q ↦ next-by level seen (seen ++ x.set ∷ []) (x ∷ waiting) more_waiting set c old gone (s.next set c q k)
      | inr q ↦ elim (member_cases q) [
        | inl e ↦ subst (λ y. IsNext n records level (seen ++ x.set ∷ []) more_waiting y c) e (added c (subst (λ y. Member c (outside n y)) (sym e) k))
        | inr r ↦ absurd (member_nil r)
      ]
    ];
    apart = distinct-push seen x.set s.apart new;
    most = s.most;
  }
    where
      old : (y : ℕ) → Member y seen → Member y (seen ++ x.set ∷ [])
      old y m = member-append_left (x.set ∷ []) m

      gone : (o : Waiting) → Member o (x ∷ waiting) → Member o more_waiting ⊎ Member o.set (seen ++ x.set ∷ [])
      gone o m =
          elim (member_cases m) [
            | inl e ↦ inr (subst (λ (y : Waiting). Member y.set (seen ++ x.set ∷ [])) e (member-append_right seen here))
            | inr k ↦ inl (member-from_contains o more_waiting (h.kept o (contains-from_member k)))
          ]

      added : (c : ℕ) → Member c (outside n x.set) → IsNext n records level (seen ++ x.set ∷ []) more_waiting x.set c
      added c k =
          let (m, out) = from_filter (λ c. not (has x.set c)) (candidates n) k in
          inr (level, omega arith, member-from_contains (waiting_at n records level x.set c) more_waiting (h.each c (from_candidates m) (not-true (has x.set c) out)))

      longer : (o : Waiting) (c : ℕ) → c < n → has x.set c ≡ false → o ≡ waiting_at n records level x.set c →
          (t : List ℕ) × Comes n winner records (max level o.margin) o.set t
      longer o c l out e =
          let (t, w) = taken level seen x waiting s le in
          let proper : is_suffix n (c ∷ t) ≡ true = suffix_more n c t l
          (sym (suffix-has n t c w.is.proper) ∙ ap (λ y. has y c) w.same ∙ out) w.is.proper in
          let low' = low_by_steps n records c t proper in
          let margin : o.margin ≡ max (step n records x.set c) level = ap (λ (y : Waiting). y.margin) e in
          let set : o.set ≡ more x.set c = ap (λ (y : Waiting). y.set) e in
          let by : step n records (set_of t) c ≡ step n records x.set c = ap (λ y. step n records y c) w.same in
          let le' = w.low in (
            c ∷ t,
            record {
              is = record { proper = proper; elected = w.is.elected; other = w.is.other; elects = more-elects c w.is.elected t w.is.elects };
              low = omega (arith, low', margin, by, le');
              same = set_of-cons c t ∙ ap (λ y. more y c) w.same ∙ sym set;
            },
          )

  -- a set that has all candidates is taken
  pub whole : (sets level : ℕ) (seen : List ℕ) (x : Waiting) (waiting : List Waiting) → S level seen (x ∷ waiting) → x.margin ≤ level →
      ((t : List ℕ) → Comes n winner records level x.set t → length t ≡ n) → IsLevel n records winner sets level
  whole sets level seen x waiting s le all =
      let (t, w) = taken level seen x waiting s le in
      let m = alternative-member n winner w.is.elected t (suffix_whole n t w.is.proper (all t w)) w.is.other w.is.elects in
      let best = best-le n winner (low n records) t m in
      let low' = w.low in
      let most = s.most in
      record { most = most; ends = inl (omega (arith, best, low', most)) }

  -- a set more than the budget allows is taken
  pub full : (sets level : ℕ) (seen : List ℕ) (x : Waiting) (waiting : List Waiting) → S level seen (x ∷ waiting) → x.margin ≤ level →
      (Member x.set seen → ⊥) → ((t : List ℕ) → Comes n winner records level x.set t → length t < n) → sets ≤ length seen →
      IsLevel n records winner sets level
  full sets level seen x waiting s le new short many =
      let fits = distinct-le (seen ++ x.set ∷ []) (standing n winner (within (AtMost level) n records)) (distinct-push seen x.set s.apart new) stand in
      let long = length-append seen (x.set ∷ []) in
      record { most = s.most; ends = inr (omega (arith, fits, long, many)) }
    where
      stands : (set : ℕ) (t : List ℕ) → Comes n winner records level set t → length t < n → Member set (standing n winner (within (AtMost level) n records))
      stands set t w l =
          standing-member n winner (within (AtMost level) n records) set t (record {
            is = w.is;
            short = l;
            going = sym (within-walks n records level t w.is.proper) ∙ le-leb (low n records t) level w.low;
            same = w.same;
          })

      stand : (set : ℕ) → Member set (seen ++ x.set ∷ []) → Member set (standing n winner (within (AtMost level) n records))
      stand set m =
          elim (member-append_cases seen (x.set ∷ []) m) [
            | inl k ↦ let (t, w, l) = s.sound set k in stands set t w l
            | inr k ↦ elim (member_cases k) [
              | inl e ↦ let (t, w) = taken level seen x waiting s le in subst (λ y. Member y (standing n winner (within (AtMost level) n records))) e
                  (stands x.set t w (short t w))
              | inr r ↦ absurd (member_nil r)
            ]
          ]
