-- Two pages with one number, and the ids on both.
use Rattle.std.proofs.Common.{◌≡◌, ◌∙◌, ◌++◌, ◌==◌, ◌&&◌, ◌||◌, [], ℕ, Bool, true, false, List, Option, Some, None, length, refl, sym, ap, ap₂, eqb-true}
use Rattle.std.specs.Cmp.Lexicographic.{bytes_decides}
use Rattle.std.proofs.Math.Bool.{or-false}
use Rattle.std.proofs.lemmas.Bool.{and_parts, and_right, false≢true}
use Rattle.std.proofs.lemmas.List.Folds.{list_any-append}
use Rattle.irv_base.specs.Names.{Id, is_among, is_same}
use Rattle.ballot_ids.specs.Ids.{AreBytes, bit_of, counted, front, has_bit, is_like, is_on, is_paged, page_at, page_number}
use Rattle.ballot_ids.specs.Joined.{are_apart, are_pages_apart, of_both, page_of_both, share_none, AreAllApart, AreOfBoth, ArePagesApart}
use Rattle.ballot_ids.specs.Noted.{AreNoted}
use Rattle.ballot_ids.specs.declared.noted.Noted.{Noted}
use Rattle.ballot_ids.specs.declared.page.Page.{Page}
use Rattle.ballot_ids.specs.declared.pages.Pages.{Pages}
use Rattle.ballot_ids.proofs.Words.{bit-within, either-set, other-unset}

-- ---- pages

-- ids that are like the first are like the second
same-like : (a b id : Id) → is_like (Some a) b ≡ true → is_like (Some b) id ≡ is_like (Some a) id
same-like a b id h =
    let (long, fronts) = and_parts (length a == length b) (is_same (front a) (front b)) h in
    ap₂ (λ n f. (n == length id) && is_same f (front id)) (sym (eqb-true (length a) (length b) long))
    (sym ((bytes_decides (front a) (front b)).0 fronts))

and-either : (like a b : Bool) → (like && (a || b)) ≡ ((like && a) || (like && b))
and-either true a b = refl
and-either false a b = refl

abbrev page : Option Id → List ℕ → Page
page like bits = record { like = like; bits = bits }

on-page : (a b : Option Id) (m n : List ℕ) (id : Id) → are_pages_apart (page a m) (page b n) ≡ true →
    is_on (Some (page_of_both (page a m) (page b n))) id ≡ (is_on (Some (page a m)) id || is_on (Some (page b n)) id)
on-page None b m n id h = refl
on-page (Some a) None m n id h = sym (or-false (is_on (Some (page (Some a) m)) id))
on-page (Some a) (Some b) m n id h =
    let bit = bit_of (counted id) in
    let (alike, apart) = and_parts (is_like (Some a) b) (share_none m n) h in
    ap (λ v. is_like (Some a) id && v) (either-set m n bit (bit-within (counted id)))
    ∙ and-either (is_like (Some a) id) (has_bit m bit) (has_bit n bit)
    ∙ ap (λ l. (is_like (Some a) id && has_bit m bit) || (l && has_bit n bit)) (sym (same-like a b id alike))

off-page : (a b : Option Id) (m n : List ℕ) (id : Id) → are_pages_apart (page a m) (page b n) ≡ true →
    is_on (Some (page a m)) id ≡ true → is_on (Some (page b n)) id ≡ false
off-page None b m n id h on = absurd (false≢true on)
off-page (Some a) None m n id h on = refl
off-page (Some a) (Some b) m n id h on =
    let bit = bit_of (counted id) in
    let (alike, apart) = and_parts (is_like (Some a) b) (share_none m n) h in
    let (own, set) = and_parts (is_like (Some a) id) (has_bit m bit) on in
    and_right (is_like (Some b) id) (has_bit n bit) (other-unset m n bit (bit-within (counted id)) apart set)

on-both : (own its : Option Page) (id : Id) → are_apart own its ≡ true → is_on (of_both own its) id ≡ (is_on own id || is_on its id)
on-both own None id h = sym (or-false (is_on own id))
on-both None (Some its) id h = refl
on-both (Some own) (Some its) id h = on-page own.like its.like own.bits its.bits id h

on-one : (own its : Option Page) (id : Id) → are_apart own its ≡ true → is_on own id ≡ true → is_on its id ≡ false
on-one own None id h on = refl
on-one None (Some its) id h on = absurd (false≢true on)
on-one (Some own) (Some its) id h on = off-page own.like its.like own.bits its.bits id h on

-- ---- ids that were met

paged-both : (own its all : Pages) (id : Id) → AreAllApart own its → AreOfBoth own its all → is_paged all id ≡ (is_paged own id || is_paged its id)
paged-both own its all id apart of =
    let number = page_number id in
    ap (λ p. is_on p id) (of number) ∙ on-both (page_at own number) (page_at its number) id (apart number)

-- if all ids are on pages, the ids that have been met are those that are paged
met-paged : (met : List Id) (noted : Noted) (id : Id) → AreNoted met noted → noted.elsewhere ≡ [] → AreBytes id →
    is_paged noted.pages id ≡ is_among met id
met-paged met noted id are here bytes =
    sym (ap (λ ids. is_paged noted.pages id || is_among ids id) here ∙ or-false (is_paged noted.pages id)) ∙ are.exact id bytes

pub joined : (own its : List Id) (a b all : Noted) → ArePagesApart a b → AreOfBoth a.pages b.pages all.pages → all.elsewhere ≡ a.elsewhere →
    AreNoted own a → AreNoted its b → AreNoted (own ++ its) all
joined own its a b all apart of same are-own are-its =
    let here = same ∙ apart.own_here in
    record {
      exact = λ id bytes.
          ap (λ ids. is_paged all.pages id || is_among ids id) here ∙ or-false (is_paged all.pages id)
          ∙ paged-both a.pages b.pages all.pages id apart.apart of
          ∙ ap₂ (λ x y. x || y) (met-paged own a id are-own apart.own_here bytes) (met-paged its b id are-its apart.its_here bytes)
          ∙ sym (list_any-append (λ x. is_same x id) own its);
      away = λ id among. absurd (false≢true (sym (ap (λ ids. is_among ids id) here) ∙ among));
    }

-- if the pages are apart, no id was met by both
pub met-by-one : (own its : List Id) (a b : Noted) → ArePagesApart a b → AreNoted own a → AreNoted its b → (id : Id) → AreBytes id →
    is_among own id ≡ true → is_among its id ≡ false
met-by-one own its a b apart are-own are-its id bytes among =
    let number = page_number id in
    sym (met-paged its b id are-its apart.its_here bytes)
    ∙ on-one (page_at a.pages number) (page_at b.pages number) id (apart.apart number) (met-paged own a id are-own apart.own_here bytes ∙ among)
