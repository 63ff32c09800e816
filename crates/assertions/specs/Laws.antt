-- The laws of the definitions, on which the programs depend.
use Rattle.std.specs.Prelude.{◌≡◌, ◌≢◌, ◌↔◌, ◌⊎◌, ℕ, ◌+◌, ◌-◌, ◌*◌, ◌<◌, ◌≤◌, nat_lt, nat_le, max, List, [], ◌∷◌, ◌++◌, length, sum_by, Contains, AllPairs, Some, None, IsTrue, IsFalse, pos, ◌-ℤ◌, ◌<ℤ◌}
use Rattle.std.specs.List.{list_any, list_all}
use Rattle.std.specs.List.Sorted.{IsPermutation}
use Rattle.std.specs.Ordering.{nat_cmp}
use Rattle.std.specs.declared.cmp.Ordering.TheVariants.{Less, Equal}
use Rattle.irv_base.specs.Candidates.{candidates, is_in, is_distinct, set_of}
use Rattle.irv_base.specs.Records.{tally}
use Rattle.irv_base.specs.Orders.{is_order, EndsIn, Elects}
use Rattle.irv_base.specs.Tabulation.{is_tabulated, is_possible, AllElect, IsDecided}
use Rattle.assertions.specs.declared.assertion.Assertion.{Assertion}
use Rattle.assertions.specs.declared.assertion.Assertion.TheVariants.{Neb, Nen}
use Rattle.assertions.specs.contracts.assertion.AssertionOrd.TheImpl.{ghosts}
use Rattle.assertions.specs.FixedOrder.{is_before, number_of, HasDigits}
use Rattle.assertions.specs.Assertions.{votes_for, votes_against, margin, is_true, true_margin, is_proper, assertions}
use Rattle.assertions.specs.Suffixes.{is_suffix, IsAlternative, orders_ending, suffixes_ending, alternative_orders, parts_ending, comes_before, factorial}
use Rattle.assertions.specs.Refutation.{refutes, covers}
use Rattle.assertions.specs.Hardness.{low, refuter, IsRefuter, best_margin, first_bound, start_order}
use Rattle.assertions.specs.Scores.{score_of, no_score, all_offered, added_refuters, added}
use Rattle.assertions.specs.Certificate.{certificate_order, cover_count, order_count, certificate_assertions, certificate_claims, IsEnd, IsCertificate}
use Rattle.assertions.specs.Assorter.{assorter_value}

-- ==== assertions

-- a NEB compares w at its worst, with all candidates left, to l at its best, with only w and l left
abbrev pub NebFor : Type 0
NebFor =
    (n : ℕ) (records : List (List ℕ)) (w l : ℕ) →
    IsTrue (list_all (λ ranking. list_all (λ c. nat_lt c n) ranking) records) →
    votes_for records (Neb w l) ≡ tally records (set_of (candidates n)) w

abbrev pub NebAgainst : Type 0
NebAgainst =
    (records : List (List ℕ)) (w l : ℕ) → w ≢ l →
    votes_against records (Neb w l) ≡ tally records (set_of (w ∷ l ∷ [])) l

abbrev pub AssorterIs : Type 0
AssorterIs = (a : Assertion) (ranking : List ℕ) → assorter_value a ranking ≤ 2

-- the sum of the assorter values, each minus 1, is the margin
abbrev pub AssorterSums : Type 0
AssorterSums =
    (n : ℕ) (records : List (List ℕ)) (a : Assertion) → IsTrue (is_proper n a) →
    pos (sum_by (assorter_value a) records) -ℤ pos (length records) ≡ margin records a

-- an assertion is true exactly if its margin is above 0
abbrev pub TrueMargin : Type 0
TrueMargin =
    (records : List (List ℕ)) (a : Assertion) →
    (IsTrue (is_true records a) ↔ (pos 0 <ℤ margin records a))
    × (IsTrue (is_true records a) → margin records a ≡ pos (true_margin records a))

abbrev pub AssertionsAreProper : Type 0
AssertionsAreProper = (n : ℕ) (a : Assertion) → (Contains (assertions n) a ↔ IsTrue (is_proper n a))

abbrev pub AssertionsRise : Type 0
AssertionsRise = (n : ℕ) → AllPairs (λ a b. IsTrue (is_before a b)) (assertions n)

-- ==== the fixed order

pub record IsStrictTotal (precedes : Assertion → Assertion → Type 0) : Type 0 where
  pub never_itself : (a : Assertion) → precedes a a → ⊥
  pub goes_on : (a b c : Assertion) → precedes a b → precedes b c → precedes a c
  pub one_of_both : (a b : Assertion) → a ≢ b → precedes a b ⊎ precedes b a

abbrev pub FixedOrderIsTotal : Type 0
FixedOrderIsTotal = IsStrictTotal (λ a b. IsTrue (is_before a b))

-- the fixed order is the order of `Ord`
abbrev pub FixedOrderIsOrd : Type 0
FixedOrderIsOrd =
    (a b : Assertion) →
    ((ghosts.cmp a b ≡ Less) ↔ IsTrue (is_before a b)) × ((ghosts.cmp a b ≡ Equal) ↔ (a ≡ b))

-- the numbers of two assertions compare as the assertions do, and no two assertions have the same number
abbrev pub NumbersRise : Type 0
NumbersRise =
    (a b : Assertion) → HasDigits a → HasDigits b →
    (nat_cmp (number_of a) (number_of b) ≡ ghosts.cmp a b) × (number_of a ≡ number_of b → a ≡ b)

-- ==== refutation

-- NEB(w,l) refutes a suffix if l is in it and w doesn't come after l; NEN(w,l,rest) does if w and those after it are the rest
abbrev pub RefutesWhere : Type 0
RefutesWhere =
    (suffix : List ℕ) (w l rest : ℕ) → IsTrue (is_distinct suffix) →
    (IsTrue (refutes (Neb w l) suffix)
    ↔ ((before : List ℕ) × (behind : List ℕ) × (suffix ≡ before ++ l ∷ behind)
    × IsFalse (is_in (l ∷ behind) w)))
    × (IsTrue (refutes (Nen w l rest) suffix)
    ↔ ((before : List ℕ) × (behind : List ℕ) × (suffix ≡ before ++ w ∷ behind)
    × (set_of (w ∷ behind) ≡ rest)))

-- an assertion that refutes a suffix refutes each longer one
abbrev pub RefutesLonger : Type 0
RefutesLonger =
    (a : Assertion) (suffix : List ℕ) (c : ℕ) → IsTrue (refutes a suffix) →
    IsFalse (is_in suffix c) → IsTrue (refutes a (c ∷ suffix))

-- a covering set that is true of some records proves their winner, no matter how ties are broken
abbrev pub CoverIsSound : Type 0
CoverIsSound =
    (n winner : ℕ) (claims : List Assertion) → winner < n → IsTrue (list_all (is_proper n) claims) →
    IsTrue (covers n winner claims) →
    (records : List (List ℕ)) → IsTrue (list_all (is_true records) claims) →
    (order : List ℕ) → IsTrue (is_order n order) → IsTrue (is_possible records order) →
    Elects order winner

-- ==== suffixes and orders

abbrev pub OrdersEnding : Type 0
OrdersEnding =
    (n k : ℕ) (suffix order : List ℕ) → k + length suffix ≡ n → IsTrue (is_suffix n suffix) →
    (Contains (orders_ending n k suffix) order ↔ (IsTrue (is_order n order) × EndsIn order suffix))

abbrev pub AlternativeOrders : Type 0
AlternativeOrders =
    (n winner : ℕ) (order : List ℕ) →
    (Contains (alternative_orders n winner) order ↔ IsAlternative n winner order)

-- each alternative order is listed once, and the list is increasing when its orders are read backwards
abbrev pub AlternativeOrdersRise : Type 0
AlternativeOrdersRise =
    (n winner : ℕ) →
    AllPairs (λ order other. IsTrue (comes_before order other)) (alternative_orders n winner)

abbrev pub SuffixesEnding : Type 0
SuffixesEnding =
    (n k : ℕ) (suffix other : List ℕ) → IsTrue (is_suffix n suffix) →
    (Contains (suffixes_ending n k suffix) other
    ↔ (IsTrue (is_suffix n other) × EndsIn other suffix × (length other ≤ k + length suffix)))

-- the suffixes that the cover count and the order count go through: those that end in c and aren't whole
abbrev pub PartsEnding : Type 0
PartsEnding =
    (n c : ℕ) (suffix : List ℕ) → c < n →
    (Contains (parts_ending n c) suffix
    ↔ (IsTrue (is_suffix n suffix) × Elects suffix c × (length suffix < n)))

abbrev pub PartsRise : Type 0
PartsRise =
    (n c : ℕ) → AllPairs (λ suffix other. IsTrue (comes_before suffix other)) (parts_ending n c)

-- at most this many suffixes end in c and aren't whole, so a count counts at most this many
abbrev pub PartsAreFew : Type 0
PartsAreFew = (n c : ℕ) → c < n → length (parts_ending n c) ≤ 2 * factorial (n - 1)

abbrev pub CountsAreFew : Type 0
CountsAreFew =
    (n c margin : ℕ) (low : List ℕ → ℕ) (order : List ℕ) → c < n →
    (cover_count n low margin c ≤ 2 * factorial (n - 1))
    × (order_count n low margin order c ≤ 2 * factorial (n - 1))

-- the cover count is the length of a list that has, once each, the suffixes that end in c, aren't whole, and are below the margin
abbrev pub CoverCountIs : Type 0
CoverCountIs =
    (n c margin : ℕ) (low : List ℕ → ℕ) (below : List (List ℕ)) → c < n →
    AllPairs (λ suffix other. IsTrue (comes_before suffix other)) below →
    ((suffix : List ℕ) →
    (Contains below suffix
    ↔ (IsTrue (is_suffix n suffix) × Elects suffix c × (length suffix < n)
    × (low suffix < margin)))) →
    cover_count n low margin c ≡ length below

-- an order that ends in a suffix is that suffix, or ends in one that is longer by one
abbrev pub SuffixGrows : Type 0
SuffixGrows =
    (n : ℕ) (order suffix : List ℕ) → IsTrue (is_order n order) → EndsIn order suffix →
    (order ≡ suffix) ⊎ ((c : ℕ) × (c < n) × IsFalse (is_in suffix c) × EndsIn order (c ∷ suffix))

-- ==== hardness

-- each true assertion that refutes a suffix has a margin of at most the suffix's low, and if the low is above 0, one has exactly
-- that margin
abbrev pub LowIsGreatest : Type 0
LowIsGreatest =
    (n : ℕ) (records : List (List ℕ)) (suffix : List ℕ) →
    ((a : Assertion) → IsTrue (is_proper n a) → IsTrue (refutes a suffix) →
    true_margin records a ≤ low n records suffix)
    × (0 < low n records suffix →
    (a : Assertion) × IsTrue (is_proper n a) × IsTrue (refutes a suffix)
    × (true_margin records a ≡ low n records suffix))

abbrev pub LowGrows : Type 0
LowGrows =
    (n : ℕ) (records : List (List ℕ)) (suffix : List ℕ) (c : ℕ) → IsFalse (is_in suffix c) →
    low n records suffix ≤ low n records (c ∷ suffix)

-- how the search computes the low, adding one candidate at a time
abbrev pub LowOfMore : Type 0
LowOfMore =
    (n : ℕ) (records : List (List ℕ)) (c : ℕ) (suffix : List ℕ) →
    IsTrue (is_suffix n (c ∷ suffix)) →
    low n records (c ∷ suffix) ≡ max (low n records suffix) (added n records c suffix)

abbrev pub LowOfNone : Type 0
LowOfNone = (n : ℕ) (records : List (List ℕ)) → low n records [] ≡ 0

-- the refuter is the first assertion, in the fixed order, that gives the suffix its low
abbrev pub RefuterIsFirst : Type 0
RefuterIsFirst =
    (n : ℕ) (records : List (List ℕ)) (suffix : List ℕ) (a : Assertion) →
    ((refuter n records suffix ≡ Some a) ↔ IsRefuter n records suffix a)

abbrev pub RefuterOrNone : Type 0
RefuterOrNone =
    (n : ℕ) (records : List (List ℕ)) (suffix : List ℕ) →
    ((refuter n records suffix ≡ None) ↔ (low n records suffix ≡ 0))

-- how the search computes the low and the refuter together, adding one candidate at a time
abbrev pub ScoreOfMore : Type 0
ScoreOfMore =
    (n : ℕ) (records : List (List ℕ)) (c : ℕ) (suffix : List ℕ) →
    IsTrue (is_suffix n (c ∷ suffix)) →
    score_of n records (c ∷ suffix)
    ≡ all_offered records (score_of n records suffix) (added_refuters n c suffix)

abbrev pub ScoreOfNone : Type 0
ScoreOfNone = (n : ℕ) (records : List (List ℕ)) → score_of n records [] ≡ no_score

-- a true NEN refutes each order that isn't possible
abbrev pub NenAgainstImpossible : Type 0
NenAgainstImpossible =
    (n : ℕ) (records : List (List ℕ)) (order : List ℕ) → IsTrue (is_order n order) →
    IsFalse (is_possible records order) →
    (w l rest : ℕ) × IsTrue (is_proper n (Nen w l rest)) × IsTrue (is_true records (Nen w l rest))
    × IsTrue (refutes (Nen w l rest) order)

-- no true assertion contradicts a possible order
abbrev pub NothingAgainstPossible : Type 0
NothingAgainstPossible =
    (n : ℕ) (records : List (List ℕ)) (order : List ℕ) (a : Assertion) →
    IsTrue (is_order n order) → IsTrue (is_possible records order) → IsTrue (is_proper n a) →
    IsTrue (is_true records a) → IsTrue (refutes a order) → ⊥

-- so an order is possible exactly if no true assertion refutes it
abbrev pub PossibleIffUnrefuted : Type 0
PossibleIffUnrefuted =
    (n : ℕ) (records : List (List ℕ)) (order : List ℕ) → IsTrue (is_order n order) →
    (IsTrue (is_possible records order) ↔ (low n records order ≡ 0))

-- ==== the best margin, over any hardness of orders

abbrev pub BestIsLeast : Type 0
BestIsLeast =
    (n winner : ℕ) (hardness : List ℕ → ℕ) (order : List ℕ) →
    Contains (alternative_orders n winner) order → best_margin n winner hardness ≤ hardness order

-- a contest is decided for a candidate exactly if true assertions refute each order that elects another
abbrev pub DecidedIsPositive : Type 0
DecidedIsPositive =
    (n winner : ℕ) (records : List (List ℕ)) → winner < n → 1 < n →
    (AllElect n records winner ↔ (1 ≤ best_margin n winner (low n records)))

-- the same, for the winner of the tabulated order
abbrev pub DecidedExactly : Type 0
DecidedExactly =
    (n winner : ℕ) (records : List (List ℕ)) (order : List ℕ) → 1 < n → IsTrue (is_order n order) →
    IsTrue (is_tabulated records order) → Elects order winner →
    (IsDecided n records ↔ (1 ≤ best_margin n winner (low n records)))

-- the first bound of the search is 0 exactly if the last two candidates tie
abbrev pub FirstBoundIsZero : Type 0
FirstBoundIsZero =
    (n a b : ℕ) (records : List (List ℕ)) (before : List ℕ) →
    IsTrue (is_order n (before ++ a ∷ b ∷ [])) →
    IsTrue (is_tabulated records (before ++ a ∷ b ∷ [])) →
    ((first_bound n records (before ++ a ∷ b ∷ []) ≡ 0)
    ↔ (tally records (set_of (a ∷ b ∷ [])) a ≡ tally records (set_of (a ∷ b ∷ [])) b))

-- true assertions that refute each order that elects another candidate
pub record IsProof (n winner : ℕ) (records : List (List ℕ)) (claims : List Assertion)
    : Type 0 where
  pub proper : IsTrue (list_all (is_proper n) claims)
  pub hold : IsTrue (list_all (is_true records) claims)
  pub cover : IsTrue (covers n winner claims)

-- a proof exists exactly if the contest is decided for the candidate
abbrev pub ProofIffDecided : Type 0
ProofIffDecided =
    (n winner : ℕ) (records : List (List ℕ)) → winner < n → 1 < n →
    (((claims : List Assertion) × IsProof n winner records claims) ↔ AllElect n records winner)

-- a candidate who isn't eliminated before any other has won, no matter how the others tie
abbrev pub FirstOverAll : Type 0
FirstOverAll =
    (n winner : ℕ) (records : List (List ℕ)) → winner < n → 1 < n →
    ((l : ℕ) → l < n → l ≢ winner → IsTrue (is_true records (Neb winner l))) →
    AllElect n records winner

-- the search starts with an alternative order
abbrev pub StartIsAlternative : Type 0
StartIsAlternative =
    (n winner : ℕ) (order : List ℕ) → 1 < n → IsTrue (is_order n order) → Elects order winner →
    IsAlternative n winner (start_order order)

-- suffixes in which all alternative orders end bound the best margin
abbrev pub FrontierBounds : Type 0
FrontierBounds =
    (n winner margin : ℕ) (records : List (List ℕ)) (frontier : List (List ℕ)) →
    winner < n → 1 < n →
    ((order : List ℕ) → Contains (alternative_orders n winner) order →
    (suffix : List ℕ) × Contains frontier suffix × EndsIn order suffix) →
    IsTrue (list_all (λ suffix. nat_le margin (low n records suffix)) frontier) →
    margin ≤ best_margin n winner (low n records)

-- no covering set has a greater smallest margin
abbrev pub NoneBeatsBest : Type 0
NoneBeatsBest =
    (n winner : ℕ) (records : List (List ℕ)) (claims : List Assertion) → winner < n → 1 < n →
    IsTrue (list_all (is_proper n) claims) → IsTrue (covers n winner claims) →
    (a : Assertion) × Contains claims a
    × (true_margin records a ≤ best_margin n winner (low n records))

-- ==== the certificate

abbrev pub CertificateIsProper : Type 0
CertificateIsProper =
    (n winner : ℕ) (records : List (List ℕ)) →
    IsTrue (list_all (is_proper n) (certificate_assertions n records winner))

abbrev pub CertificateIsTrue : Type 0
CertificateIsTrue =
    (n winner : ℕ) (records : List (List ℕ)) →
    IsTrue (list_all (is_true records) (certificate_assertions n records winner))

abbrev pub CertificateCovers : Type 0
CertificateCovers =
    (n winner : ℕ) (records : List (List ℕ)) → 0 < best_margin n winner (low n records) →
    IsTrue (covers n winner (certificate_assertions n records winner))

-- the best margin is the smallest margin of the certificate's assertions
abbrev pub CertificateReachesBest : Type 0
CertificateReachesBest =
    (n winner : ℕ) (records : List (List ℕ)) →
    IsTrue
    (list_all (λ a. nat_le (best_margin n winner (low n records)) (true_margin records a))
    (certificate_assertions n records winner))

abbrev pub CertificateHasBest : Type 0
CertificateHasBest =
    (n winner : ℕ) (records : List (List ℕ)) → winner < n → 1 < n →
    0 < best_margin n winner (low n records) →
    (a : Assertion) × Contains (certificate_assertions n records winner) a
    × (true_margin records a ≡ best_margin n winner (low n records))

-- the certificate's order is an alternative order that has the best margin, over any hardness
abbrev pub CertificateOrder : Type 0
CertificateOrder =
    (n winner : ℕ) (hardness : List ℕ → ℕ) → winner < n → 1 < n →
    let best = best_margin n winner hardness in
    (order : List ℕ) × (certificate_order n winner hardness best ≡ Some order)
    × Contains (alternative_orders n winner) order × (hardness order ≡ best)

-- the certificate's order is the smallest of these when read backwards
abbrev pub CertificateOrderIsFirst : Type 0
CertificateOrderIsFirst =
    (n winner margin : ℕ) (hardness : List ℕ → ℕ) (found order : List ℕ) →
    certificate_order n winner hardness margin ≡ Some found →
    Contains (alternative_orders n winner) order → hardness order ≡ margin →
    (found ≡ order) ⊎ IsTrue (comes_before found order)

-- the certificate refutes exactly the suffixes that reach the best margin
abbrev pub CertificateRefutes : Type 0
CertificateRefutes =
    (n winner c : ℕ) (records : List (List ℕ)) (suffix : List ℕ) →
    0 < best_margin n winner (low n records) →
    IsTrue (is_suffix n suffix) → Elects suffix c → c ≢ winner →
    (IsTrue (list_any (λ a. refutes a suffix) (certificate_assertions n records winner))
    ↔ (best_margin n winner (low n records) ≤ low n records suffix))

-- an end is the shortest of its suffixes that reaches the margin
abbrev pub EndsAreShortest : Type 0
EndsAreShortest =
    (n winner margin : ℕ) (records : List (List ℕ)) (suffix shorter : List ℕ) →
    IsEnd n records winner margin suffix →
    EndsIn suffix shorter → shorter ≢ [] → shorter ≢ suffix → low n records shorter < margin

-- each alternative order ends in exactly one end
abbrev pub EndsAreOne : Type 0
EndsAreOne =
    (n winner : ℕ) (records : List (List ℕ)) (order : List ℕ) → IsAlternative n winner order →
    let best = best_margin n winner (low n records) in
    (suffix : List ℕ) × IsEnd n records winner best suffix × EndsIn order suffix
    × ((other : List ℕ) → IsEnd n records winner best other → EndsIn order other → other ≡ suffix)

-- the certificate, as it is defined, meets the rules
abbrev pub CertificateIs : Type 0
CertificateIs =
    (n winner : ℕ) (records : List (List ℕ)) → winner < n → 1 < n →
    (order : List ℕ)
    × (certificate_order n winner (low n records) (best_margin n winner (low n records))
    ≡ Some order)
    × IsCertificate n records winner (best_margin n winner (low n records)) order
    (certificate_assertions n records winner)

-- only the certificate meets the rules
abbrev pub CertificateIsOne : Type 0
CertificateIsOne =
    (n winner : ℕ) (records : List (List ℕ)) (best best' : ℕ) (order order' : List ℕ)
    (claims claims' : List Assertion) →
    IsCertificate n records winner best order claims →
    IsCertificate n records winner best' order' claims' →
    (best ≡ best') × (order ≡ order') × (claims ≡ claims')

-- the certificate is the same for the records in any order
abbrev pub RecordsInAnyOrder : Type 0
RecordsInAnyOrder =
    (n winner : ℕ) (records others : List (List ℕ)) → IsPermutation records others →
    (low n records ≡ low n others) × (refuter n records ≡ refuter n others)
    × (certificate_claims n records winner ≡ certificate_claims n others winner)

-- ==== two candidates
abbrev pub TwoCandidates : Type 0
TwoCandidates =
    (records : List (List ℕ)) (w l : ℕ) →
    IsTrue (list_all (λ ranking. list_all (λ c. nat_lt c 2) ranking) records) → w < 2 → l < 2 →
    let votes = tally records (set_of (candidates 2)) in
    votes l < votes w →
    (best_margin 2 w (low 2 records) ≡ votes w - votes l)
    × (certificate_order 2 w (low 2 records) (votes w - votes l) ≡ Some (w ∷ l ∷ []))
    × (certificate_claims 2 records w
    ≡ record { assertion = Neb w l; margin = votes w - votes l } ∷ [])
