-- Entries that are joined if they have the same set.
use Rattle.std.proofs.Common.{◌≡◌, ℕ, ◌+◌, ◌<◌, ◌≤◌, Bool, true, false, cond, List, [], ◌∷◌, ◌++◌, length, take, get_or, set, sum_by, IsPermutation, refl, sym, ap, arith, ◌∙◌}
use Rattle.std.proofs.lemmas.List.{take_all}
use Rattle.std.proofs.lemmas.List.Sorted.{sum_by-IsPermutation}
use Rattle.std.proofs.lemmas.List.Sums.{sum_by_push, sum_by_more, sum_by_more_le_part, sum_by-le-sum_by}
use Rattle.set_tallies.specs.Bags.{misses, missing, total}
use Rattle.set_tallies.specs.Befores.{HasOneMore, SayTheSame}
use Rattle.set_tallies.specs.declared.entry.Entry.{Entry}

abbrev votes : ℕ → Entry → ℕ
votes set e = cond (misses set e.before) e.count 0

-- ---- runs of the same set
pub record Joined (entries : List Entry) (runs : List Entry) (run : Entry) (i : ℕ) : Type 0 where
  pub missing : (set : ℕ) → missing set (runs ++ run ∷ []) ≡ missing set (take i entries)
  pub total : total (runs ++ run ∷ []) ≡ total (take i entries)

more : (f : Entry → ℕ) (entries : List Entry) (i : ℕ) (e : Entry) → i < length entries → e ≡ get_or entries i e →
    sum_by f (take (i + 1) entries) ≡ sum_by f (take i entries) + f e
more f entries i e l at = sum_by_more f entries i e l ∙ ap (λ x. sum_by f (take i entries) + f x) (sym at)

-- the set again
pub run-longer : (entries runs : List Entry) (run : Entry) (i : ℕ) (e : Entry) → i < length entries → e ≡ get_or entries i e → e.before ≡ run.before →
    Joined entries runs run i → Joined entries runs (record { before = run.before; count = run.count + e.count }) (i + 1)
run-longer entries runs run i e l at same h = record {
  missing = λ set.
      let apiece : votes set longer ≡ votes set run + votes set e = both (misses set run.before) run.count e.count
      ∙ ap (λ b. votes set run + cond (misses set b) e.count 0) (sym same) in
      omega (arith, sum_by_push (votes set) runs run, sum_by_push (votes set) runs longer, apiece, more (votes set) entries i e l at, h.missing set);
  total = omega (arith, sum_by_push (λ x. x.count) runs run, sum_by_push (λ x. x.count) runs longer, more (λ x. x.count) entries i e l at, h.total);
}
  where
    longer : Entry
    longer = record { before = run.before; count = run.count + e.count }

    both : (b : Bool) (m n : ℕ) → cond b (m + n) 0 ≡ cond b m 0 + cond b n 0
    both true m n = refl
    both false m n = refl

-- another set
pub run-next : (entries runs : List Entry) (run : Entry) (i : ℕ) (e : Entry) → i < length entries → e ≡ get_or entries i e →
    Joined entries runs run i → Joined entries (runs ++ run ∷ []) e (i + 1)
run-next entries runs run i e l at h = record {
  missing = λ set. omega (arith, sum_by_push (votes set) (runs ++ run ∷ []) e, more (votes set) entries i e l at, h.missing set);
  total = omega (arith, sum_by_push (λ x. x.count) (runs ++ run ∷ []) e, more (λ x. x.count) entries i e l at, h.total);
}

pub joined : (entries runs : List Entry) (run : Entry) (i : ℕ) → length entries ≤ i → Joined entries runs run i → SayTheSame entries (runs ++ run ∷ [])
joined entries runs run i all h = record {
  missing = λ set. h.missing set ∙ ap (missing set) (take_all i entries all);
  total = h.total ∙ ap total (take_all i entries all);
}

-- the votes so far plus the next count are at most the total
pub votes-within : (set : ℕ) (entries : List Entry) (i : ℕ) (d : Entry) → i < length entries →
    missing set (take i entries) + (get_or entries i d).count ≤ total entries
votes-within set entries i d l =
    sum_by_more_le_part (λ e. cond (misses set e.before) e.count 0) (λ e. e.count) entries i d l (λ e. part (misses set e.before) e.count)
  where
    part : (b : Bool) (n : ℕ) → cond b n 0 ≤ n
    part true n = omega arith
    part false n = omega arith

-- ---- sorted and joined
pub sorted-same : (entries sorted seen runs : List Entry) → IsPermutation entries sorted → seen ≡ sorted → SayTheSame seen runs → SayTheSame entries runs
sorted-same entries sorted seen runs p s same = record {
  missing = λ set. same.missing set ∙ ap (missing set) s ∙ sum_by-IsPermutation (votes set) entries sorted p;
  total = same.total ∙ ap total s ∙ sum_by-IsPermutation (λ e. e.count) entries sorted p;
}

-- ---- one more ballot

-- in a new entry
pub one-new : (entries others : List Entry) (before : ℕ) → others ≡ entries ++ record { before = before; count = 1 } ∷ [] → HasOneMore before entries others
one-new entries others before is s = ap (missing s) is ∙ sum_by_push (votes s) entries (record { before = before; count = 1 })

pub one-moved : (entries others moved : List Entry) (before : ℕ) → IsPermutation others moved → HasOneMore before entries others →
    HasOneMore before entries moved
one-moved entries others moved before p h s = sum_by-IsPermutation (votes s) others moved p ∙ h s

pub missing-le : (set : ℕ) (entries : List Entry) → missing set entries ≤ total entries
missing-le set entries = sum_by-le-sum_by (votes set) (λ e. e.count) entries (λ e. part (misses set e.before) e.count)
  where
    part : (b : Bool) (n : ℕ) → cond b n 0 ≤ n
    part true n = omega arith
    part false n = omega arith
