-- The number of entries that name a worker, and what these expanded, as workers join and as the entries are put in order.
use Rattle.std.proofs.Common.{◌≡◌, ◌≢◌, inl, inr, ℕ, zero, suc, ◌+◌, ◌<◌, ◌≤◌, ◌==◌, nat_lt, cond, List, [], ◌∷◌, ◌++◌, map, length, sum_by, get_or, refl, sym, ap, subst, arith, eq-eqb, ne_eqb, lt-ltb, le-ltb, add-one, length-append, ◌∙◌}
use Rattle.std.proofs.lemmas.Bool.{cases_lt, cases_eq}
use Rattle.std.proofs.lemmas.List.{get_or_append_left}
use Rattle.std.proofs.lemmas.List.Sums.{sum_by-cons, sum_by-append, sum_by_push}
use Rattle.irv_base.specs.Candidates.{candidates}
use Rattle.irv_base.proofs.Ranges.{candidates-more}
use Rattle.irv_base.proofs.Members.{Member, here, there, member_cases, member_nil, member-append_left, member-append_right, member-append_cases}
use Rattle.shared_witness.specs.Moment.{times}
use Rattle.bound_search.specs.Race.{IsReportOf, AreReportsOf}
use Rattle.bound_search.specs.declared.ends.PieceEnd.{PieceEnd}
use Rattle.bound_search.specs.declared.ends.Report.{Report}

-- ---- sums over the entries that name a worker
abbrev of_worker : (PieceEnd → ℕ) → ℕ → PieceEnd → ℕ
of_worker f w p = cond (p.worker == w) (f p) 0

none-named : (f : PieceEnd → ℕ) (w : ℕ) (ps : List PieceEnd) → ((p : PieceEnd) → Member p ps → p.worker ≢ w) → sum_by (of_worker f w) ps ≡ 0
none-named f w [] h = refl
none-named f w (p ∷ ps) h =
    let zero : of_worker f w p ≡ 0 = ap (λ b. cond b (f p) 0) (ne_eqb p.worker w (h p here)) in
    let rest : sum_by (of_worker f w) ps ≡ 0 = none-named f w ps (λ q m. h q (there m)) in
    sum_by-cons (of_worker f w) p ps ∙ omega arith

all-named : (f : PieceEnd → ℕ) (w : ℕ) (ps : List PieceEnd) → ((p : PieceEnd) → Member p ps → p.worker ≡ w) → sum_by (of_worker f w) ps ≡ sum_by f ps
all-named f w [] h = refl
all-named f w (p ∷ ps) h =
    let one : of_worker f w p ≡ f p = ap (λ b. cond b (f p) 0) (eq-eqb p.worker w (h p here)) in
    let rest : sum_by (of_worker f w) ps ≡ sum_by f ps = all-named f w ps (λ q m. h q (there m)) in
    let whole : sum_by f (p ∷ ps) ≡ f p + sum_by f ps = sum_by-cons f p ps in
    sum_by-cons (of_worker f w) p ps ∙ omega arith

ones : (ps : List PieceEnd) → sum_by (λ (p : PieceEnd). 1) ps ≡ length ps
ones [] = refl
ones (p ∷ ps) = let e : sum_by (λ (q : PieceEnd). 1) ps ≡ length ps = ones ps in sum_by-cons (λ (q : PieceEnd). 1) p ps ∙ omega arith

-- ---- one more worker
module _ (entries more all : List PieceEnd) (reports longer : List Report) (r : Report) (all_is : all ≡ entries ++ more)
    (longer_is : longer ≡ reports ++ r ∷ [])
    (named : (p : PieceEnd) → Member p entries → p.worker < length reports) (own : (p : PieceEnd) → Member p more → p.worker ≡ length reports) where
  abbrev over : (PieceEnd → ℕ) → ℕ → List PieceEnd → ℕ
  over f w ps = sum_by (of_worker f w) ps

  split : (f : PieceEnd → ℕ) (w : ℕ) → over f w all ≡ over f w entries + over f w more
  split f w = ap (over f w) all_is ∙ sum_by-append (of_worker f w) entries more

  others : (f : PieceEnd → ℕ) (w : ℕ) → w < length reports → over f w all ≡ over f w entries
  others f w l =
      let none : over f w more ≡ 0 = none-named f w more (λ p m e. let o = own p m in absurd (omega arith)) in
      split f w ∙ omega arith

  mine : (f : PieceEnd → ℕ) → over f (length reports) all ≡ sum_by f more
  mine f =
      let none : over f (length reports) entries ≡ 0 = none-named f (length reports) entries (λ p m e. let l = named p m in absurd (omega arith)) in
      let every : over f (length reports) more ≡ sum_by f more = all-named f (length reports) more own in
      split f (length reports) ∙ omega arith

  pub reports-more : AreReportsOf entries reports → r.pieces ≡ length more → r.expanded ≡ sum_by (λ p. p.expanded) more → AreReportsOf all longer
  reports-more h pieces expanded w d low =
      elim (cases_lt w (length reports)) [
        | inl l ↦
            let same : get_or longer w d ≡ get_or reports w d = ap (λ rs. get_or rs w d) longer_is ∙ get_or_append_left reports (r ∷ []) d w l in
            let was = h w d l in
            subst (IsReportOf all w) (sym same) (record {
              pieces = was.pieces ∙ sym (others (λ p. 1) w l);
              expanded = was.expanded ∙ sym (others (λ p. p.expanded) w l);
            })
        | inr le ↦
            let size : length longer ≡ length reports + 1 = ap length longer_is ∙ length-append reports (r ∷ []) in
            let at : w ≡ length reports = omega arith in
            let same : get_or longer (length reports) d ≡ r = ap (λ rs. get_or rs (length reports) d) longer_is ∙ seam reports in
            subst (λ k. IsReportOf all k (get_or longer k d)) (sym at) (subst (IsReportOf all (length reports)) (sym same) (record {
              pieces = pieces ∙ sym (ones more) ∙ sym (mine (λ p. 1));
              expanded = expanded ∙ sym (mine (λ p. p.expanded));
            }))
      ]
    where
      seam : (rs : List Report) → get_or (rs ++ r ∷ []) (length rs) d ≡ r
      seam [] = refl
      seam (x ∷ rs) = seam rs

-- ---- the entries in another order
abbrev pub at : ℕ → List PieceEnd → ℕ
at k ps = sum_by (λ p. cond (p.piece == k) 1 0) ps

pub times-at : (k : ℕ) (ps : List PieceEnd) → times (map (λ p. p.piece) ps) k ≡ at k ps
times-at k [] = refl
times-at k (p ∷ ps) =
    sum_by-cons (λ q. cond (q == k) 1 0) p.piece (map (λ (x : PieceEnd). x.piece) ps) ∙ ap (λ m. cond (p.piece == k) 1 0 + m) (times-at k ps)
    ∙ sym (sum_by-cons (λ (x : PieceEnd). cond (x.piece == k) 1 0) p ps)

-- each number below n appears once among the candidates
pub candidates-once : (n k : ℕ) → times (candidates n) k ≡ cond (nat_lt k n) 1 0
candidates-once zero k = sym (ap (λ b. cond b 1 0) (le-ltb k 0 (omega arith)))
candidates-once (suc n) k =
    let so_far : times (candidates n) k ≡ cond (nat_lt k n) 1 0 = candidates-once n k in
    ap (λ xs. times xs k) (ap candidates (sym (add-one n)) ∙ candidates-more n) ∙ sum_by_push (λ q. cond (q == k) 1 0) (candidates n) n
    ∙ ap (λ m. m + cond (n == k) 1 0) so_far ∙ step
  where
    step : cond (nat_lt k n) 1 0 + cond (n == k) 1 0 ≡ cond (nat_lt k (suc n)) 1 0
    step =
        elim (cases_lt k n) [
          | inl lt ↦ rw (lt-ltb k n lt, ne_eqb n k (λ e. absurd (omega arith)), lt-ltb k (suc n) (omega arith)) refl
          | inr ge ↦ elim (cases_eq n k) [
            | inl same ↦ rw (le-ltb k n ge, eq-eqb n k same, lt-ltb k (suc n) (omega arith)) refl
            | inr apart ↦ rw (le-ltb k n ge, ne_eqb n k apart, le-ltb k (suc n) (omega (arith, apart))) refl
          ]
        ]

at-cons : (k : ℕ) (p : PieceEnd) (ps : List PieceEnd) → at k (p ∷ ps) ≡ cond (p.piece == k) 1 0 + at k ps
at-cons k p ps = sum_by-cons (λ (x : PieceEnd). cond (x.piece == k) 1 0) p ps

at-own : (p : PieceEnd) (ps : List PieceEnd) → at p.piece (p ∷ ps) ≡ 1 + at p.piece ps
at-own p ps = at-cons p.piece p ps ∙ ap (λ b. cond b 1 0 + at p.piece ps) (eq-eqb p.piece p.piece refl)

at-member : (p : PieceEnd) (ps : List PieceEnd) → Member p ps → 1 ≤ at p.piece ps
at-member p [] m = absurd (member_nil m)
at-member p (q ∷ ps) m =
    elim (member_cases m) [
      | inl same ↦ let e : at q.piece (q ∷ ps) ≡ 1 + at q.piece ps = at-own q ps in subst (λ (x : PieceEnd). 1 ≤ at x.piece (q ∷ ps)) same (omega arith)
      | inr k ↦ let l = at-member p ps k in let e = at-cons p.piece q ps in omega arith
    ]

split_at : (p : PieceEnd) (es : List PieceEnd) → Member p es → (before : List PieceEnd) × (after : List PieceEnd) × (es ≡ before ++ p ∷ after)
split_at p [] m = absurd (member_nil m)
split_at p (e ∷ es) m =
    elim (member_cases m) [
      | inl same ↦ ([], es, ap (λ x. x ∷ es) same)
      | inr k ↦ let (before, after, is) = split_at p es k in (e ∷ before, after, ap (λ xs. e ∷ xs) is)
    ]

seam-sum : (f : PieceEnd → ℕ) (before after : List PieceEnd) (p : PieceEnd) → sum_by f (before ++ p ∷ after) ≡ f p + sum_by f (before ++ after)
seam-sum f before after p =
    let a : sum_by f (before ++ p ∷ after) ≡ sum_by f before + sum_by f (p ∷ after) = sum_by-append f before (p ∷ after) in
    let b : sum_by f (p ∷ after) ≡ f p + sum_by f after = sum_by-cons f p after in
    let c : sum_by f (before ++ after) ≡ sum_by f before + sum_by f after = sum_by-append f before after in
    omega arith

pub same_sum : (f : PieceEnd → ℕ) (ps es : List PieceEnd) → ((k : ℕ) → at k es ≡ at k ps) → ((k : ℕ) → at k ps ≤ 1) →
    ((p : PieceEnd) → Member p ps → Member p es) → sum_by f ps ≡ sum_by f es
same_sum f [] [] same once inside = refl
same_sum f [] (e ∷ es) same once inside = let a : at e.piece (e ∷ es) ≡ 1 + at e.piece es = at-own e es in let b : at e.piece (e ∷ es) ≡ 0 = same e.piece in
    absurd (omega arith)
same_sum f (p ∷ ps) es same once inside =
    let (before, after, is) = split_at p es (inside p here) in
    let rest : sum_by f ps ≡ sum_by f (before ++ after) =
    same_sum f ps (before ++ after)
    (λ k.
    let a : at k es ≡ cond (p.piece == k) 1 0 + at k (before ++ after) = ap (at k) is ∙ seam-sum (λ (x : PieceEnd). cond (x.piece == k) 1 0) before after p in
    let b = at-cons k p ps in
    let c = same k in
    omega arith)
    (λ k. let b = at-cons k p ps in let o = once k in omega arith)
    (λ q m. left_out before after q m (subst (Member q) is (inside q (there m)))) in
    sum_by-cons f p ps ∙ ap (λ n. f p + n) rest ∙ sym (ap (sum_by f) is ∙ seam-sum f before after p)
  where
    apart : (q : PieceEnd) → Member q ps → p ≡ q → ⊥
    apart q m e =
        let a = at-member q ps m in
        let b = at-own p ps in
        let c = once p.piece in
        let d : at q.piece ps ≡ at p.piece ps = ap (λ (x : PieceEnd). at x.piece ps) (sym e) in
        omega arith

    left_out : (before after : List PieceEnd) (q : PieceEnd) → Member q ps → Member q (before ++ p ∷ after) → Member q (before ++ after)
    left_out before after q m k =
        elim (member-append_cases before (p ∷ after) k) [
          | inl a ↦ member-append_left after a
          | inr b ↦ elim (member_cases b) [ inl e ↦ absurd (apart q m e) | inr c ↦ member-append_right before c ]
        ]

pub reports-same : (ps es : List PieceEnd) (reports : List Report) → ((f : PieceEnd → ℕ) → sum_by f ps ≡ sum_by f es) → AreReportsOf es reports →
    AreReportsOf ps reports
reports-same ps es reports same h w d low =
    let was = h w d low in
    record { pieces = was.pieces ∙ sym (same (of_worker (λ p. 1) w)); expanded = was.expanded ∙ sym (same (of_worker (λ p. p.expanded) w)) }
