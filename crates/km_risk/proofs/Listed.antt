-- All sequences of draws are listed, each once, and so are the first draws of each.
use Rattle.std.proofs.Common.{◌≡◌, ◌≢◌, ℕ, zero, suc, ◌+◌, ◌≤◌, inl, inr, List, [], ◌∷◌, ◌++◌, map, length, take, get_or, flat_map, AllPairs, sym, ◌∙◌, ap, subst, arith}
use Rattle.std.specs.List.{range_with_len}
use Rattle.std.proofs.lemmas.List.Elements.{All-contains, Contains-get_or}
use Rattle.std.proofs.lemmas.List.Kept.{AllPairs-cons}
use Rattle.irv_base.proofs.Members.{Member, here, there, member_cases, member-map, member-flat_map, from_map, from_flat_map, contains-from_member, member-from_contains, from_range, range-member, member-append_cases}
use Rattle.km_risk.specs.Reach.{sequences, prefixes}
use Rattle.km_risk.specs.Laws.{ListedLaw}

module _ {X : Type 0} where
  -- all sequences are listed
  pub sequence-member : (cards : List X) (n : ℕ) (draws : List X) → length draws ≡ n → ((c : X) → Member c draws → Member c cards) →
      Member draws (sequences cards n)
  sequence-member cards zero [] long each = here
  sequence-member cards zero (c ∷ draws) long each = absurd (omega arith)
  sequence-member cards (suc n) [] long each = absurd (omega arith)
  sequence-member cards (suc n) (c ∷ draws) long each =
      member-flat_map (λ card. map (λ more. card ∷ more) (sequences cards n)) {x = c} {y = c ∷ draws} {xs = cards} (each c here)
      (member-map (λ more. c ∷ more) (sequence-member cards n draws (omega arith) (λ d m. each d (there m))))

  -- so are the first k draws among the prefixes
  pub prefix-member : (k : ℕ) (draws : List X) → Member (take k draws) (prefixes draws)
  prefix-member zero [] = here
  prefix-member (suc k) [] = here
  prefix-member zero (c ∷ draws) = here
  prefix-member (suc k) (c ∷ draws) = there (member-map (λ next. c ∷ next) (prefix-member k draws))

-- lists in which no element occurs twice
data Different {X : Type 0} : List X → Type 0 where
  none : Different []
  more : {x : X} {xs : List X} → (Member x xs → ⊥) → Different xs → Different (x ∷ xs)

different-map : {X Y : Type 0} (f : X → Y) → ((x y : X) → f x ≡ f y → x ≡ y) → (xs : List X) → Different xs → Different (map f xs)
different-map f one [] d = none
different-map f one (x ∷ xs) (more out d) =
    more (λ m. let (y, among, same) = from_map f (f x) xs m in out (subst (λ z. Member z xs) (one y x same) among)) (different-map f one xs d)

different-append : {X : Type 0} (xs ys : List X) → Different xs → Different ys → ((z : X) → Member z xs → Member z ys → ⊥) → Different (xs ++ ys)
different-append [] ys d e apart = e
different-append (x ∷ xs) ys (more out d) e apart =
    more (λ m. elim (member-append_cases xs ys m) [ inl a ↦ out a | inr b ↦ apart x here b ])
    (different-append xs ys d e (λ z a b. apart z (there a) b))

tail-same : (c d : ℕ) (xs ys : List ℕ) → ◌≡◌ {A = List ℕ} (c ∷ xs) (d ∷ ys) → (c ≡ d) × (xs ≡ ys)
tail-same c d xs ys e = (cc, cc)

different-sequences : (cards : List ℕ) → Different cards → (k : ℕ) → Different (sequences cards k)
different-sequences cards d zero = more (λ m. elim (member_nothing m) [ ]) none where
  member_nothing : Member {X = List ℕ} [] [] → ⊥
  member_nothing m = let (k, within, at) = contains-from_member m in omega (arith, within)
different-sequences cards d (suc k) = from cards d (different-sequences cards d k) where
  from : (cs : List ℕ) → Different cs → Different (sequences cards k) → Different (flat_map (λ card. map (λ more. card ∷ more) (sequences cards k)) cs)
  from [] e rest = none
  from (c ∷ cs) (more out e) rest =
      different-append (map (λ more. c ∷ more) (sequences cards k)) (flat_map (λ card. map (λ more. card ∷ more) (sequences cards k)) cs)
      (different-map (λ more. c ∷ more) (λ xs ys same. (tail-same c c xs ys same).1) (sequences cards k) rest) (from cs e rest)
      (λ z a b.
      let (xs, m, same) = from_map (λ more. c ∷ more) z (sequences cards k) a in
      let (card, among, n) = from_flat_map (λ card. map (λ more. card ∷ more) (sequences cards k)) z cs b in
      let (ys, m', same') = from_map (λ more. card ∷ more) z (sequences cards k) n in
      out (subst (λ x. Member x cs) (sym (tail-same c card xs ys (same ∙ sym same')).0) among))

different-range : (a n : ℕ) → Different (range_with_len a n)
different-range a zero = none
different-range a (suc n) = more (λ m. let h = from_range a (a + 1) n m in absurd (omega arith)) (different-range (a + 1) n)

pairs : {X : Type 0} (xs : List X) → Different xs → AllPairs (λ a b. a ≢ b) xs
pairs {X = X} [] d = λ i j e before within. absurd (omega arith)
pairs {X = X} (x ∷ xs) (more out d) =
    AllPairs-cons (λ a b. a ≢ b) x xs (λ k e within same. out
    (subst (λ z. Member z xs) (sym same) (member-from_contains (get_or xs k e) xs (Contains-get_or xs k e within)))) (pairs xs d)

-- a listed sequence is one
sequence-of : (cards : List ℕ) (k : ℕ) (draws : List ℕ) → Member draws (sequences cards k) → (length draws ≡ k) × ((c : ℕ) → Member c draws → Member c cards)
sequence-of cards zero draws m =
    elim (member_cases m) [
      | inl e ↦ (sym (ap length e), λ c n. absurd (let (k, within, at) = contains-from_member (subst (λ x. Member c x) (sym e) n) in omega (arith, within)))
      | inr r ↦ absurd (let (k, within, at) = contains-from_member r in omega (arith, within))
    ]
sequence-of cards (suc k) draws m =
    let (card, among, n) = from_flat_map (λ card. map (λ more. card ∷ more) (sequences cards k)) draws cards m in
    let (rest, o, same) = from_map (λ more. card ∷ more) draws (sequences cards k) n in
    let (long, each) = sequence-of cards k rest o in
    subst (λ ds. (length ds ≡ suc k) × ((c : ℕ) → Member c ds → Member c cards)) same (
      ap suc long,
      λ c p. elim (member_cases p) [ inl e ↦ subst (λ x. Member x cards) e among | inr r ↦ each c r ],
    )

pub listed_law : ListedLaw
listed_law cards k = (
  pairs (sequences (range_with_len 1 cards) k) (different-sequences (range_with_len 1 cards) (different-range 1 cards) k),
  λ draws. (
    λ contains.
        let (long, each) = sequence-of (range_with_len 1 cards) k draws (member-from_contains draws (sequences (range_with_len 1 cards) k) contains) in
        record {
          long = long;
          some = λ j c below. (from_range (get_or draws j c) 1 cards
              (each (get_or draws j c) (member-from_contains (get_or draws j c) draws (Contains-get_or draws j c below)))).0;
          within = λ j c below.
              let in' = from_range (get_or draws j c) 1 cards
              (each (get_or draws j c) (member-from_contains (get_or draws j c) draws (Contains-get_or draws j c below))) in
              omega (arith, in'.1);
        },
    λ is.
        contains-from_member
        (sequence-member (range_with_len 1 cards) k draws is.long (λ c among.
        let first = All-contains (λ e. 1 ≤ e) draws c is.some (contains-from_member among) in
        let last = All-contains (λ e. e ≤ cards) draws c is.within (contains-from_member among) in
        range-member c 1 cards first (omega arith))),
  ),
)
