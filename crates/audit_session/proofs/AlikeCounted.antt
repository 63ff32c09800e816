-- The counts of draws if some are seen as recorded.
use Rattle.std.proofs.Common.{◌≡◌, ◌∙◌, ℕ, ◌+◌, ◌*◌, ◌==◌, cond, true, All, List, [], ◌∷◌, ◌++◌, count_by, length, map, refl, sym, ap, arith}
use Rattle.std.specs.Prelude.{filter, sum_by}
use Rattle.std.specs.Cmp.Lexicographic.{same_text}
use Rattle.std.proofs.lemmas.List.Elements.{All-head, All-tail, All-weaker, filter_passes}
use Rattle.std.proofs.lemmas.List.Filters.{length-filter_both, sum_by-filter_both}
use Rattle.std.proofs.lemmas.List.Folds.{fold-map}
use Rattle.std.proofs.lemmas.List.Sums.{sum_by-append, sum_by-cons}
use Rattle.manifest.specs.declared.recorded.Recorded.{Recorded}
use Rattle.manifest.specs.declared.recorded.Recorded.TheVariants.{Ranked, Without}
use Rattle.km_risk.specs.declared.draws.Counts.{Counts}
use Rattle.assorters.specs.declared.seen.Seen.{Seen}
use Rattle.assorters.specs.declared.seen.Seen.TheVariants.{Found, Missing}
use Rattle.assorters.specs.Cards.{IsAssorter, discrepancy}
use Rattle.audit_session.specs.declared.compared.Drawn.{Drawn}
use Rattle.audit_session.specs.Alike.{is_alike, is_found_as, is_odd, is_seen_as}
use Rattle.audit_session.specs.Going.{compared, counts_over}

-- ---- their discrepancy is 2
found-clean : (value : List ℕ → ℕ) → IsAssorter value → (ranking : List ℕ) (seen : Seen) → is_found_as ranking seen ≡ true →
    discrepancy value (Ranked ranking) seen ≡ 2
found-clean value is ranking (Found found) alike =
    let same = ap value (same_text ranking found (sym alike)) in
    let most = is ranking in
    omega (arith, same, most)
found-clean value is ranking Missing alike = absurd cc

seen-clean : (value : List ℕ → ℕ) → IsAssorter value → (recorded : Recorded) (seen : Seen) → is_seen_as recorded seen ≡ true →
    discrepancy value recorded seen ≡ 2
seen-clean value is (Ranked ranking) seen alike = found-clean value is ranking seen alike
seen-clean value is Without seen alike = absurd cc

pub length-parted : (drawn : List Drawn) → length (filter is_alike drawn) + length (filter is_odd drawn) ≡ length drawn
length-parted drawn = length-filter_both is_alike is_odd (λ card. refl) drawn

same-each : {X : Type 0} (f : X → ℕ) (m : ℕ) (xs : List X) → All (λ x. f x ≡ m) xs → sum_by f xs ≡ length xs * m
same-each f m [] each = omega arith
same-each f m (x ∷ xs) each =
    let first = All-head (λ y. f y ≡ m) x xs each in
    let rest = same-each f m xs (All-tail (λ y. f y ≡ m) x xs each) in
    let sum = sum_by-cons f x xs in
    sum ∙ omega (arith, first, rest)

module _ (value : List ℕ → ℕ) (is : IsAssorter value) where
  abbrev one : ℕ → Drawn → ℕ
  one k card = cond (compared value card == k) 1 0

  -- the number of draws with discrepancy k
  abbrev tally : ℕ → List Drawn → ℕ
  tally k drawn = count_by (λ d. d == k) (map (compared value) drawn)

  tally-is : (k : ℕ) (drawn : List Drawn) → tally k drawn ≡ sum_by (one k) drawn
  tally-is k drawn = fold-map (λ (a d : ℕ). a + cond (d == k) 1 0) (compared value) 0 drawn

  tally-append : (k : ℕ) (xs ys : List Drawn) → tally k (xs ++ ys) ≡ tally k xs + tally k ys
  tally-append k xs ys = tally-is k (xs ++ ys) ∙ sum_by-append (one k) xs ys ∙ sym (λ i. tally-is k xs i + tally-is k ys i)

  tally-parted : (k : ℕ) (drawn : List Drawn) → tally k (filter is_alike drawn) + tally k (filter is_odd drawn) ≡ tally k drawn
  tally-parted k drawn =
      (λ i. tally-is k (filter is_alike drawn) i + tally-is k (filter is_odd drawn) i)
      ∙ sum_by-filter_both is_alike is_odd (λ card. refl) (one k) drawn ∙ sym (tally-is k drawn)

  tally-alike : (k : ℕ) (drawn : List Drawn) → tally k (filter is_alike drawn) ≡ length (filter is_alike drawn) * cond (2 == k) 1 0
  tally-alike k drawn =
      tally-is k (filter is_alike drawn)
      ∙ same-each (one k) (cond (2 == k) 1 0) (filter is_alike drawn)
      (All-weaker (λ card. is_alike card ≡ true) (λ card. one k card ≡ cond (2 == k) 1 0)
      (λ card alike. ap (λ d. cond (d == k) 1 0) (seen-clean value is card.recorded card.seen alike)) (filter is_alike drawn)
      (filter_passes is_alike drawn))

  alike-more : (k : ℕ) (earlier drawn : List Drawn) →
      tally k (earlier ++ filter is_alike drawn) ≡ tally k earlier + length (filter is_alike drawn) * cond (2 == k) 1 0
  alike-more k earlier drawn = tally-append k earlier (filter is_alike drawn) ∙ ap (λ n. tally k earlier + n) (tally-alike k drawn)

  -- draws counted at once, if there are this many
  pub more-alike : (earlier drawn : List Drawn) (before : Counts) (alike : ℕ) → alike ≡ length (filter is_alike drawn) →
      before ≡ counts_over value earlier →
      ◌≡◌ {A = Counts} (record before { n2 = before.n2 + alike }) (counts_over value (earlier ++ filter is_alike drawn))
  more-alike earlier drawn before alike long so-far =
      let now0 = ap (λ (c : Counts). c.n0) so-far in
      let e0 : before.n0 ≡ tally 0 (earlier ++ filter is_alike drawn) = omega (arith, alike-more 0 earlier drawn, now0) in
      let now1 = ap (λ (c : Counts). c.n1) so-far in
      let e1 : before.n1 ≡ tally 1 (earlier ++ filter is_alike drawn) = omega (arith, alike-more 1 earlier drawn, now1) in
      let now2 = ap (λ (c : Counts). c.n2) so-far in
      let e2 : before.n2 + alike ≡ tally 2 (earlier ++ filter is_alike drawn) = omega (arith, alike-more 2 earlier drawn, long, now2) in
      let now3 = ap (λ (c : Counts). c.n3) so-far in
      let e3 : before.n3 ≡ tally 3 (earlier ++ filter is_alike drawn) = omega (arith, alike-more 3 earlier drawn, now3) in
      let now4 = ap (λ (c : Counts). c.n4) so-far in
      let e4 : before.n4 ≡ tally 4 (earlier ++ filter is_alike drawn) = omega (arith, alike-more 4 earlier drawn, now4) in
      λ i. record { n0 = e0 i; n1 = e1 i; n2 = e2 i; n3 = e3 i; n4 = e4 i }

  -- together with the others, they are all draws
  both : (k : ℕ) (earlier drawn : List Drawn) → tally k (earlier ++ filter is_alike drawn ++ filter is_odd drawn) ≡ tally k (earlier ++ drawn)
  both k earlier drawn =
      let whole = tally-append k (earlier ++ filter is_alike drawn) (filter is_odd drawn) in
      let first = tally-append k earlier (filter is_alike drawn) in
      let parted = tally-parted k drawn in
      let all = tally-append k earlier drawn in
      omega (arith, whole, first, parted, all)

  pub all-parted : (earlier drawn : List Drawn) →
      counts_over value (earlier ++ filter is_alike drawn ++ filter is_odd drawn) ≡ counts_over value (earlier ++ drawn)
  all-parted earlier drawn = λ i. record {
    n0 = both 0 earlier drawn i;
    n1 = both 1 earlier drawn i;
    n2 = both 2 earlier drawn i;
    n3 = both 3 earlier drawn i;
    n4 = both 4 earlier drawn i;
  }
