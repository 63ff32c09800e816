-- The lines of the rounds, one round at a time, and what a tabulation has for them.
use Rattle.std.proofs.Common.{◌≡◌, ℕ, zero, suc, ◌+◌, ◌-◌, ◌<◌, ◌≤◌, List, [], ◌∷◌, ◌++◌, length, drop, take, get_or, All, refl, sym, ap, subst, arith, append_assoc, append-nil, ◌∙◌}
use Rattle.std.proofs.lemmas.List.{drop_more, get_or-map, length-map}
use Rattle.std.proofs.lemmas.List.FromFn.{length-map-range_with_len}
use Rattle.irv_base.specs.Candidates.{set_of}
use Rattle.irv_base.specs.Names.{Id}
use Rattle.irv_base.specs.Records.{tally}
use Rattle.irv_base.proofs.Members.{Member, here, member-append_right}
use Rattle.irv_base.proofs.Orders.{order_facts}
use Rattle.irv_tabulator.specs.Results.{IsTabulation}
use Rattle.irv_tabulator.specs.Rounds.{Count, count_in, counts_in, rounds_of}
use Rattle.irv_tabulator.specs.declared.tabulated.Round.{Round}
use Rattle.irv_tabulator.specs.declared.tabulated.Tabulated.{Tabulated}
use Rattle.report.specs.Tabulations.{round_text, rounds_text}

pub no-rounds : (ids : List Id) (i : ℕ) (order : List ℕ) → rounds_text ids i order [] ≡ []
no-rounds ids i [] = refl
no-rounds ids i (c ∷ rest) = refl

pub rounds_more : (ids : List Id) (i : ℕ) (order : List ℕ) (rounds : List Round) (c : ℕ) (round : Round) (text lines whole : List ℕ) →
    i < length order → i < length rounds → c ≡ get_or order i c → round ≡ get_or rounds i round →
    lines ≡ round_text ids (i + 1) (drop i order) c (count_in round) →
    text ++ rounds_text ids (i + 1) (drop i order) (drop i (counts_in rounds)) ≡ whole →
    (text ++ lines) ++ rounds_text ids (i + 1 + 1) (drop (i + 1) order) (drop (i + 1) (counts_in rounds)) ≡ whole
rounds_more ids i order rounds c round text lines whole place within at is told same =
    let counts = counts_in rounds in
    let inside : i < length counts = subst (λ k. i < k) (sym (length-map rounds count_in)) within in
    let left : drop i order ≡ c ∷ drop (i + 1) order = drop_more order i c place ∙ ap (λ x. x ∷ drop (i + 1) order) (sym at) in
    let next : get_or counts i (count_in round) ≡ count_in round = get_or-map count_in rounds i round (count_in round) within ∙ ap count_in (sym is) in
    let later : drop i counts ≡ count_in round ∷ drop (i + 1) counts = drop_more counts i (count_in round) inside ∙ ap (λ x. x ∷ drop (i + 1) counts) next in
    let after = rounds_text ids (i + 1 + 1) (drop (i + 1) order) (drop (i + 1) counts) in
    let lines' : lines ≡ round_text ids (i + 1) (c ∷ drop (i + 1) order) c (count_in round) = told
    ∙ ap (λ cs. round_text ids (i + 1) cs c (count_in round)) left in
    append_assoc text lines after
    ∙ ap (λ t. text ++ (t ++ after)) lines'
    ∙ sym (ap (λ cs. text ++ rounds_text ids (i + 1) cs (drop i counts)) left ∙ ap (λ cs. text ++ rounds_text ids (i + 1) (c ∷ drop (i + 1) order) cs) later)
    ∙ same

take-none : (n : ℕ) (xs : List ℕ) → xs ≡ [] → take n xs ≡ xs
take-none zero xs e = sym e
take-none (suc n) xs e = ap (take (suc n)) e ∙ sym e

-- a slice from index i on
pub take-rest : (i : ℕ) (xs : List ℕ) → take (length xs - i) (drop i xs) ≡ drop i xs
take-rest zero [] = refl
take-rest zero (x ∷ xs) =
    let e : length (x ∷ xs) - 0 ≡ suc (length xs - 0) = omega arith in
    ap (λ n. take n (x ∷ xs)) e ∙ ap (λ ys. x ∷ ys) (take-rest zero xs)
take-rest (suc i) [] = take-none (0 - suc i) [] refl
take-rest (suc i) (x ∷ xs) =
    let e : length (x ∷ xs) - suc i ≡ length xs - i = omega arith in
    ap (λ n. take n (drop i xs)) e ∙ take-rest i xs

drop-all : {X : Type 0} (xs : List X) → drop (length xs) xs ≡ []
drop-all [] = refl
drop-all (x ∷ xs) = drop-all xs

pub all_told : (ids : List Id) (i : ℕ) (order : List ℕ) (rounds : List Round) (text whole : List ℕ) → i ≡ length rounds →
    text ++ rounds_text ids (i + 1) (drop i order) (drop i (counts_in rounds)) ≡ whole → text ≡ whole
all_told ids i order rounds text whole end same =
    let none : drop i (counts_in rounds) ≡ [] = ap (λ k. drop k (counts_in rounds)) (end ∙ sym (length-map rounds count_in)) ∙ drop-all (counts_in rounds) in
    sym (append-nil text)
    ∙ sym (ap (λ cs. text ++ rounds_text ids (i + 1) (drop i order) cs) none ∙ ap (λ t. text ++ t) (no-rounds ids (i + 1) (drop i order)))
    ∙ same

-- ---- the lines of a tabulation
rounds-fewer : (n : ℕ) (records : List (List ℕ)) (order : List ℕ) → 1 ≤ length order → length (rounds_of n records order) < length order
rounds-fewer n records [] some = absurd (omega arith)
rounds-fewer n records (c ∷ []) some = omega arith
rounds-fewer n records (c ∷ d ∷ rest) some = let more = rounds-fewer n records (d ∷ rest) (omega arith) in omega (arith, more)

abbrev Wide : ℕ → Count → Type 0
Wide n count = length count.votes ≡ n

counts-wide : (n : ℕ) (records : List (List ℕ)) (order : List ℕ) → All (Wide n) (rounds_of n records order)
counts-wide n records [] i d within = absurd (omega arith)
counts-wide n records (c ∷ []) i d within = absurd (omega arith)
counts-wide n records (c ∷ e ∷ rest) zero d within = length-map-range_with_len (tally records (set_of (c ∷ e ∷ rest))) 0 n
counts-wide n records (c ∷ e ∷ rest) (suc i) d within = counts-wide n records (e ∷ rest) i d (omega arith)

module _ (n : ℕ) (records : List (List ℕ)) (t : Tabulated) (h : IsTabulation n records t) where
  pub order-long : length t.order ≡ n
  order-long = (order_facts n t.order h.order).long

  pub winner-below : t.winner < n
  winner-below =
      let (before, e) = h.winner in
      (order_facts n t.order h.order).below t.winner (subst (Member t.winner) (sym e) (member-append_right before here))

  pub rounds-few : length t.rounds.items < length t.order
  rounds-few =
      let some : 1 ≤ length t.order = let below = winner-below in omega (arith, order-long, below) in
      let same : length t.rounds.items ≡ length (rounds_of n records t.order) = sym (length-map t.rounds.items count_in) ∙ ap length h.rounds in
      let fewer = rounds-fewer n records t.order some in
      omega (arith, same, fewer)

  pub rounds-wide : All (λ round. length (count_in round).votes ≡ n) t.rounds.items
  rounds-wide i d within =
      let counts = counts_in t.rounds.items in
      let inside : i < length counts = subst (λ k. i < k) (sym (length-map t.rounds.items count_in)) within in
      let wide : All (Wide n) counts = subst (All (Wide n)) (sym h.rounds) (counts-wide n records t.order) in
      subst (Wide n) (get_or-map count_in t.rounds.items i d (count_in d) within) (wide i (count_in d) inside)
