-- Decided contests: all possible orders elect one candidate.
use Rattle.std.proofs.Common.{◌≡◌, ◌≢◌, ◌↔◌, ℕ, ◌<◌, ◌≤◌, ◌&&◌, true, inl, inr, List, [], ◌∷◌, ◌++◌, refl, sym, subst, arith, append_assoc, ◌∙◌}
use Rattle.std.proofs.lemmas.Bool.{and_parts, and_from}
use Rattle.irv_base.specs.Candidates.{set_of}
use Rattle.irv_base.specs.Orders.{is_order, Elects}
use Rattle.irv_base.specs.Records.{tally}
use Rattle.irv_base.specs.Tabulation.{is_possible, is_tabulated, may_lose, HasNoTie, AllElect, IsDecided}
use Rattle.irv_base.proofs.Distinct.{Distinct, none, more, distinct-head, distinct-rest}
use Rattle.irv_base.proofs.Members.{Member, here, there, member_at, member_cases, member_nil, member-append_right}
use Rattle.irv_base.proofs.Orders.{order_facts}
use Rattle.irv_base.proofs.Sames.{Same, set_of-same}
use Rattle.irv_base.proofs.Tabulated.{tabulated-possible}
use Rattle.irv_base.proofs.Possible.{possible-other, order-other, votes-may, may-votes, no_tie_is_one_possible}

-- only one candidate is left last
pub elects-same : (before before' : List ℕ) (c d : ℕ) → before ++ c ∷ [] ≡ before' ++ d ∷ [] → c ≡ d
elects-same [] [] c d e = cc
elects-same [] (y ∷ []) c d e = cc
elects-same [] (y ∷ z ∷ ys) c d e = cc
elects-same (x ∷ []) [] c d e = cc
elects-same (x ∷ z ∷ xs) [] c d e = cc
elects-same (x ∷ xs) (y ∷ ys) c d e = elects-same xs ys c d (tails e) where
  tails : {a b : ℕ} {s t : List ℕ} → a ∷ s ≡ b ∷ t → s ≡ t
  tails e = cc

-- ---- who is elected
pub one-elected : (order : List ℕ) (c d : ℕ) → Elects order c → Elects order d → c ≡ d
one-elected order c d (before, e) (before', e') = elects-same before before' c d (sym e ∙ e')

pub elected-below : (n c : ℕ) (order : List ℕ) → is_order n order ≡ true → Elects order c → c < n
elected-below n c order h (before, e) = (order_facts n order h).below c (subst (Member c) (sym e) (member-append_right before here))

pub decided_by_tabulated : (n winner : ℕ) (records : List (List ℕ)) (order : List ℕ) → is_order n order ≡ true → is_tabulated records order ≡ true →
    Elects order winner → (IsDecided n records ↔ AllElect n records winner)
decided_by_tabulated n winner records order o t ends = (
  λ decided. subst (AllElect n records) (one-elected order decided.0 winner (decided.1 order o (tabulated-possible records order t)) ends) decided.1,
  λ all. (winner, all),
)

pub no_tie_is_decided : (n winner : ℕ) (records : List (List ℕ)) (order : List ℕ) → is_order n order ≡ true → is_tabulated records order ≡ true →
    Elects order winner → HasNoTie records order → AllElect n records winner
no_tie_is_decided n winner records order o t ends free other o' p =
    subst (λ xs. Elects xs winner) (sym ((no_tie_is_one_possible n records order o t).0 free other o' p)) ends

-- ---- a tie for the win
two-apart : {a b : ℕ} → a ≢ b → Distinct (a ∷ b ∷ [])
two-apart {a} {b} ne = more (λ m. elim (member_cases m) [ inl e ↦ ne (sym e) | inr r ↦ member_nil r ]) (more member_nil none)

pub last-apart : (before : List ℕ) (a b : ℕ) → Distinct (before ++ a ∷ b ∷ []) → a ≢ b
last-apart before a b d e = distinct-head (distinct-rest before (a ∷ b ∷ []) d) (member_at (sym e))

exchanged : (a b : ℕ) → Same (a ∷ b ∷ []) (b ∷ a ∷ [])
exchanged a b = record { left = λ c m. turned m; right = λ c m. turned m } where
  turned : {a b c : ℕ} → Member c (a ∷ b ∷ []) → Member c (b ∷ a ∷ [])
  turned m =
      elim (member_cases m) [
        | inl e ↦ there (member_at e)
        | inr r ↦ elim (member_cases r) [ inl e ↦ member_at e | inr q ↦ absurd (member_nil q) ]
      ]

-- the other of the last two may go first exactly if it has no more votes
module _ (n a b : ℕ) (records : List (List ℕ)) (before : List ℕ) (o : is_order n (before ++ a ∷ b ∷ []) ≡ true)
    (p : is_possible records (before ++ a ∷ b ∷ []) ≡ true) where
  abbrev votes : ℕ → ℕ
  votes = tally records (set_of (a ∷ b ∷ []))

  apart : a ≢ b
  apart = last-apart before a b (order_facts n (before ++ a ∷ b ∷ []) o).apart

  turned-apart : Distinct (b ∷ a ∷ [])
  turned-apart = two-apart (λ e. apart (sym e))

  sets : set_of (a ∷ b ∷ []) ≡ set_of (b ∷ a ∷ [])
  sets = set_of-same (a ∷ b ∷ []) (b ∷ a ∷ []) (two-apart apart) turned-apart (exchanged a b)

  pub turned-order : is_order n (before ++ b ∷ a ∷ []) ≡ true
  turned-order = order-other n before (a ∷ b ∷ []) (b ∷ a ∷ []) o turned-apart (exchanged a b)

  one-may : votes b ≤ votes a → is_possible records (b ∷ a ∷ []) ≡ true
  one-may le =
      and_from (may_lose records b (a ∷ [])) (is_possible records (a ∷ []))
      (votes-may records b (a ∷ []) (λ d m. elim (member_cases m) [
        | inl e ↦ subst (λ x. tally records (set_of (b ∷ a ∷ [])) b ≤ tally records (set_of (b ∷ a ∷ [])) x) e
            (subst (λ z. tally records z b ≤ tally records z a) sets le)
        | inr r ↦ absurd (member_nil r)
      ])) refl

  pub turned-possible : votes b ≤ votes a → is_possible records (before ++ b ∷ a ∷ []) ≡ true
  turned-possible le =
      possible-other records before (a ∷ b ∷ []) (b ∷ a ∷ []) (order_facts n (before ++ a ∷ b ∷ []) o).apart turned-apart (exchanged a b) p (one-may le)

  -- and from there
  last-two : (front : List ℕ) → is_possible records (front ++ b ∷ a ∷ []) ≡ true → is_possible records (b ∷ a ∷ []) ≡ true
  last-two [] h = h
  last-two (c ∷ front) h =
      last-two front (and_parts (may_lose records c (front ++ b ∷ a ∷ [])) (is_possible records (front ++ b ∷ a ∷ [])) h).1

  pub possible-turned : is_possible records (before ++ b ∷ a ∷ []) ≡ true → votes b ≤ votes a
  possible-turned h =
      let may = (and_parts (may_lose records b (a ∷ [])) (is_possible records (a ∷ [])) (last-two before h)).0 in
      subst (λ z. tally records z b ≤ tally records z a) (sym sets) (may-votes records b (a ∷ []) a may here)

two-ends : (before : List ℕ) (a b : ℕ) → Elects (before ++ a ∷ b ∷ []) b
two-ends before a b = (before ++ a ∷ [], sym (append_assoc before (a ∷ []) (b ∷ [])))

pub tie_for_the_win : (n a b : ℕ) (records : List (List ℕ)) (before : List ℕ) → is_order n (before ++ a ∷ b ∷ []) ≡ true →
    is_possible records (before ++ a ∷ b ∷ []) ≡ true → tally records (set_of (a ∷ b ∷ [])) a ≡ tally records (set_of (a ∷ b ∷ [])) b →
    IsDecided n records → ⊥
tie_for_the_win n a b records before o p e (winner, all) =
    let one = all (before ++ a ∷ b ∷ []) o p in
    let two = all (before ++ b ∷ a ∷ []) (turned-order n a b records before o p) (turned-possible n a b records before o p (omega (arith, e))) in
    last-apart before a b (order_facts n (before ++ a ∷ b ∷ []) o).apart
    (one-elected (before ++ b ∷ a ∷ []) a winner (two-ends before b a) two ∙ one-elected (before ++ a ∷ b ∷ []) winner b one (two-ends before a b))
