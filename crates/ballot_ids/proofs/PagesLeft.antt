-- Another's closed pages, in order: those that are left say as much as all of them.
use Rattle.std.proofs.Common.{◌≡◌, ◌≢◌, ◌∙◌, ◌∷◌, ℕ, true, false, List, Option, Some, None, refl, sym, ap, inl, inr, ne_eqb}
use Rattle.std.specs.Prelude.{if◌then◌else◌}
use Rattle.std.specs.BTreeMap.{get, is_at}
use Rattle.std.specs.Map.{keys_of, lookup}
use Rattle.std.specs.Ordering.{is_eq, nat_cmp}
use Rattle.std.specs.List.Sorted.{IsStrictlySortedBy}
use Rattle.std.proofs.lemmas.Bool.{cases_eq, false≢true, false_from_ne_true}
use Rattle.std.proofs.lemmas.Cmp.{eq_by_cmp_equiv, nat_cmp_total, tied_itself}
use Rattle.std.proofs.lemmas.Map.{lookup-none}
use Rattle.std.proofs.lemmas.Map.Entries.{lookup_head, lookup_tail, none_past_head}
use Rattle.std.proofs.lemmas.Map.Keys.{IsDistinct-from_sorted, sorted_tail}
use Rattle.std.proofs.lemmas.Map.Lookups.{exact_unsigned}
use Rattle.std.proofs.lemmas.Map.Views.{tells_apart}
use Rattle.ballot_ids.specs.Ids.{page_at}
use Rattle.ballot_ids.specs.Joined.{are_apart, of_both, AreAllApart, AreOfBoth}
use Rattle.ballot_ids.specs.declared.page.Page.{Page}
use Rattle.ballot_ids.specs.declared.pages.Pages.{Pages}
use Rattle.ballot_ids.proofs.Marks.{lies}

-- the page with a number among these
abbrev pub page_in : List (ℕ × Page) → ℕ → Option Page
page_in entries number = lookup (is_at (nat_cmp number)) entries

found : (n number : ℕ) (page : Page) (rest : List (ℕ × Page)) → n ≡ number → page_in ((number, page) ∷ rest) n ≡ Some page
found n number page rest e =
    lookup_head (is_at (nat_cmp n)) (number, page) rest (ap (λ k. is_eq (nat_cmp n k)) (sym e) ∙ ap is_eq (tied_itself nat_cmp_total n))

passed : (n number : ℕ) (page : Page) (rest : List (ℕ × Page)) → n ≢ number → page_in ((number, page) ∷ rest) n ≡ page_in rest n
passed n number page rest away =
    lookup_tail (is_at (nat_cmp n)) (number, page) rest
    (false_from_ne_true (is_eq (nat_cmp n number)) (λ t. away (tells_apart exact_unsigned n number t)))

-- no number occurs twice
gone : (n number : ℕ) (page : Page) (rest : List (ℕ × Page)) → IsStrictlySortedBy nat_cmp (keys_of ((number, page) ∷ rest)) → n ≡ number
    → page_in rest n ≡ None
gone n number page rest sorted e =
    lookup-none (is_at (nat_cmp n)) rest
    (none_past_head (eq_by_cmp_equiv nat_cmp_total) n (number, page) rest (IsDistinct-from_sorted nat_cmp (keys_of ((number, page) ∷ rest)) sorted)
    (ap (λ k. is_eq (nat_cmp n k)) (sym e) ∙ ap is_eq (tied_itself nat_cmp_total n)))

-- a page that is closed
pub closed : (pages : Pages) (n : ℕ) → n ≢ pages.open → page_at pages n ≡ page_in pages.closed.entries n
closed pages n away = ap (λ b. if b then Some pages.page else get nat_cmp pages.closed n) (ne_eqb n pages.open away)

-- ---- whether they are apart

-- if those that are left are apart from a set's, all are
abbrev pub LeftApart : Pages → Pages → List (ℕ × Page) → Type 0
LeftApart own its left =
    (n : ℕ) → n ≢ its.open → are_apart (page_at own n) (page_in left n) ≡ true → are_apart (page_at own n) (page_at its n) ≡ true

pub all-left : (own its : Pages) → LeftApart own its its.closed.entries
all-left own its n away h = ap (are_apart (page_at own n)) (closed its n away) ∙ h

-- a page that isn't apart shows that not all are
pub not-apart : (own its : Pages) (number : ℕ) (page : Page) → number ≢ its.open → get nat_cmp its.closed number ≡ Some page
    → are_apart (page_at own number) (Some page) ≡ false
    → ((n : ℕ) → n ≢ its.open → are_apart (page_at own n) (page_at its n) ≡ true) → ⊥
not-apart own its number page away there bad all =
    false≢true (sym bad ∙ sym (ap (are_apart (page_at own number)) (closed its number away ∙ there)) ∙ all number away)

pub one-apart : (own its : Pages) (number : ℕ) (page : Page) (left : List (ℕ × Page))
    → (number ≢ its.open → are_apart (page_at own number) (Some page) ≡ true)
    → LeftApart own its ((number, page) ∷ left) → LeftApart own its left
one-apart own its number page left apart all n away h = elim (cases_eq n number) [
  | inl e ↦
      all n away
      (ap (are_apart (page_at own n)) (found n number page left e) ∙ ap (λ k. are_apart (page_at own k) (Some page)) e
      ∙ apart (λ its_open. away (e ∙ its_open)))
  | inr other ↦ all n away (ap (are_apart (page_at own n)) (passed n number page left other) ∙ h)
]

-- the open page is apart too
pub open-apart : (own its : Pages) → AreAllApart own its → are_apart (page_at own its.open) (Some its.page) ≡ true
open-apart own its all = sym (ap (are_apart (page_at own its.open)) (lies its its.open refl)) ∙ all its.open

-- ---- putting them in

-- with those that are left put in too, the pages are of both; that with the other's open number is as before
pub record LeftOut (old its now : Pages) (left : List (ℕ × Page)) : Type 0 where
  pub both : (n : ℕ) → n ≢ its.open → of_both (page_at now n) (page_in left n) ≡ of_both (page_at old n) (page_at its n)
  pub same : page_at now its.open ≡ page_at old its.open
  pub sorted : IsStrictlySortedBy nat_cmp (keys_of left)

pub none-out : (old its : Pages) → IsStrictlySortedBy nat_cmp (keys_of its.closed.entries) → LeftOut old its old its.closed.entries
none-out old its sorted = record {
  both = λ n away. ap (of_both (page_at old n)) (sym (closed its n away));
  same = refl;
  sorted = sorted;
}

pub one-put : (old its now after : Pages) (number : ℕ) (page : Page) (left : List (ℕ × Page)) → number ≢ its.open
    → page_at after number ≡ of_both (page_at now number) (Some page)
    → ((n : ℕ) → n ≢ number → page_at after n ≡ page_at now n)
    → LeftOut old its now ((number, page) ∷ left) → LeftOut old its after left
one-put old its now after number page left away put others all = record {
  both = λ n not_open. elim (cases_eq n number) [
    | inl e ↦
        let none = gone n number page left all.sorted e in
        let here : page_at after n ≡ of_both (page_at now n) (Some page) =
        ap (page_at after) e ∙ put ∙ ap (λ k. of_both (page_at now k) (Some page)) (sym e) in
        ap (of_both (page_at after n)) none ∙ here ∙ sym (ap (of_both (page_at now n)) (found n number page left e)) ∙ all.both n not_open
    | inr other ↦
        ap (λ p. of_both p (page_in left n)) (others n other) ∙ sym (ap (of_both (page_at now n)) (passed n number page left other))
        ∙ all.both n not_open
  ];
  same = others its.open (λ e. away (sym e)) ∙ all.same;
  sorted = sorted_tail nat_cmp number (keys_of left) all.sorted;
}

-- the page that doesn't count
pub one-skipped : (old its now : Pages) (number : ℕ) (page : Page) (left : List (ℕ × Page)) → number ≡ its.open
    → LeftOut old its now ((number, page) ∷ left) → LeftOut old its now left
one-skipped old its now number page left is all = record {
  both = λ n not_open.
      sym (ap (of_both (page_at now n)) (passed n number page left (λ e. not_open (e ∙ is)))) ∙ all.both n not_open;
  same = all.same;
  sorted = sorted_tail nat_cmp number (keys_of left) all.sorted;
}

-- the open page, after the closed ones
pub open-put : (old its now all : Pages) → ((n : ℕ) → n ≢ its.open → page_at now n ≡ of_both (page_at old n) (page_at its n))
    → page_at now its.open ≡ page_at old its.open → page_at all its.open ≡ of_both (page_at now its.open) (Some its.page)
    → ((n : ℕ) → n ≢ its.open → page_at all n ≡ page_at now n) → AreOfBoth old its all
open-put old its now all closed-put same put others n = elim (cases_eq n its.open) [
  | inl e ↦
      ap (page_at all) e ∙ put ∙ ap (λ p. of_both p (Some its.page)) same ∙ sym (ap (of_both (page_at old its.open)) (lies its its.open refl))
      ∙ ap (λ k. of_both (page_at old k) (page_at its k)) (sym e)
  | inr away ↦ others n away ∙ closed-put n away
]
