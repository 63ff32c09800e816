-- Two ids of one page whose bits are the same are the same.
use Rattle.std.proofs.Common.{◌≡◌, ◌≢◌, ◌≤◌, ◌<◌, ◌+◌, ◌-◌, ◌*◌, ◌/◌, ◌%◌, ◌^◌, ◌∙◌, ◌∷◌, ◌++◌, ◌==◌, ◌&&◌, ◌||◌, [], ℕ, zero, suc, Bool, true, false, List, Option, Some, None, get_or, length, drop, refl, sym, ap, ap₂, arith, eqb-true, eq-eqb, Fits, w8, inl, inr}
use Rattle.std.specs.Prelude.{nat_lt}
use Rattle.std.specs.Prelude.{not, if◌then◌else◌}
use Rattle.std.specs.BTreeMap.{get}
use Rattle.std.specs.Ordering.{nat_cmp}
use Rattle.std.specs.List.{list_all}
use Rattle.std.specs.Cmp.Lexicographic.{bytes_decides}
use Rattle.std.specs.Cmp.{both_ways}
use Rattle.std.proofs.lemmas.Bool.{and_from, and_parts, cases_Bool, cases_eq, false≢true, ne_eqb}
use Rattle.std.proofs.lemmas.List.{length-drop, take-append-drop}
use Rattle.irv_base.specs.Names.{Id, is_same}
use Rattle.ballot_ids.specs.Ids.{AreBytes, HasTurned, bit_of, counted, digest, front, has_bit, is_elsewhere, is_for_others, is_like, is_of, is_on, is_paged, no_bits, number_behind, page_at, page_number}
use Rattle.ballot_ids.specs.declared.pages.Pages.{Pages}
use Rattle.ballot_ids.specs.declared.page.Page.{Page}
use Rattle.ballot_ids.proofs.Words.{nothing-set}

-- ---- numbers of bytes

-- the bound for a number in front of this many bytes, such that the result doesn't wrap
room : ℕ → ℕ
room zero = 2 ^ 64
room (suc k) = room k / 256

room-most : (k : ℕ) → room k ≤ 2 ^ 64
unfolding room
room-most zero = omega arith
room-most (suc k) = let h = room-most k in omega (arith, h)

room-five : 1 ≤ room 5
unfolding room
room-five = omega arith

grows : (k n b : ℕ) → n < room (suc k) → b < 256 → n * 256 + b < room k
unfolding room
grows k n b less small = omega (arith, less, small)

-- one more byte
put : (k n b : ℕ) → n < room (suc k) → b < 256 → (n * 2 ^ 8 % 2 ^ 64 + b) % 2 ^ 64 ≡ n * 256 + b
put k n b less small =
    let more = grows k n b less small in
    let most = room-most k in
    omega (arith, more, most)

byte : (b : ℕ) (bytes : List ℕ) → list_all (λ x. nat_lt x 256) (b ∷ bytes) ≡ true → (b < 256) × (list_all (λ x. nat_lt x 256) bytes ≡ true)
byte b bytes h =
    let (first, rest) = and_parts (nat_lt b 256) (list_all (λ x. nat_lt x 256) bytes) h in
    (grind (arith, first), rest)

record Alike (n m : ℕ) (xs ys : List ℕ) : Type 0 where
  before : n ≡ m
  bytes : xs ≡ ys

-- a number determines its bytes, if their count is known
alike : (k n m : ℕ) (xs ys : List ℕ) → length xs ≡ k → length ys ≡ k → n < room k → m < room k
    → list_all (λ x. nat_lt x 256) xs ≡ true → list_all (λ x. nat_lt x 256) ys ≡ true
    → number_behind n xs ≡ number_behind m ys → Alike n m xs ys
alike zero n m [] [] long same less few xs-bytes ys-bytes h = record { before = h; bytes = refl }
alike zero n m (x ∷ xs) ys long same less few xs-bytes ys-bytes h = absurd (omega (arith, long))
alike zero n m [] (y ∷ ys) long same less few xs-bytes ys-bytes h = absurd (omega (arith, same))
alike (suc k) n m [] ys long same less few xs-bytes ys-bytes h = absurd (omega (arith, long))
alike (suc k) n m (x ∷ xs) [] long same less few xs-bytes ys-bytes h = absurd (omega (arith, same))
alike (suc k) n m (x ∷ xs) (y ∷ ys) long same less few xs-bytes ys-bytes h =
    let (x-small, xs-rest) = byte x xs xs-bytes in
    let (y-small, ys-rest) = byte y ys ys-bytes in
    let e = sym (ap (λ v. number_behind v xs) (put k n x less x-small)) ∙ h ∙ ap (λ v. number_behind v ys) (put k m y few y-small) in
    let rest = alike k (n * 256 + x) (m * 256 + y) xs ys (omega (arith, long)) (omega (arith, same)) (grows k n x less x-small) (grows k m y few y-small)
    xs-rest ys-rest e in
    let before : n ≡ m = omega (arith, rest.before, x-small, y-small) in
    let first : x ≡ y = omega (arith, rest.before, x-small, y-small) in
    record { before = before; bytes = ap₂ (λ b bs. b ∷ bs) first rest.bytes }

-- ---- numbers of pages

-- numbers that wrap at 2 ^ 64
same-behind : (d i j : ℕ) → i < 2 ^ 64 → j < 2 ^ 64 → (d + i) % 2 ^ 64 ≡ (d + j) % 2 ^ 64 → i ≡ j
same-behind d i j less few h = omega (arith, less, few, h)

-- the bit and what is added to the digest determine what is counted
same-count : (c e : ℕ) → c / 4096 * 16 + c / 16 % 16 ≡ e / 4096 * 16 + e / 16 % 16 → bit_of c ≡ bit_of e → c ≡ e
same-count c e page bit = omega (arith, page, bit)

-- ---- an id on its page

front-and-last : (id : Id) → front id ++ drop (length id - 5) id ≡ id
front-and-last id = take-append-drop (length id - 5) id

drop-bytes : (k : ℕ) (id : Id) → list_all (λ b. nat_lt b 256) id ≡ true → list_all (λ b. nat_lt b 256) (drop k id) ≡ true
drop-bytes zero id h = h
drop-bytes (suc k) [] h = refl
drop-bytes (suc k) (b ∷ id) h = drop-bytes k id (byte b id h).1

count-less : (id : Id) → counted id < 2 ^ 64
count-less id = by (drop (length id - 5) id) 0 (omega arith) where
  by : (bytes : List ℕ) (n : ℕ) → n < 2 ^ 64 → number_behind n bytes < 2 ^ 64
  by [] n h = h
  by (b ∷ bytes) n h = by bytes ((n * 2 ^ 8 % 2 ^ 64 + b) % 2 ^ 64) (omega arith)

room-some : (k : ℕ) → k ≤ 5 → 0 < room k
unfolding room
room-some zero h = omega arith
room-some (suc zero) h = omega arith
room-some (suc (suc zero)) h = omega arith
room-some (suc (suc (suc zero))) h = omega arith
room-some (suc (suc (suc (suc zero)))) h = omega arith
room-some (suc (suc (suc (suc (suc zero))))) h = omega arith
room-some (suc (suc (suc (suc (suc (suc k)))))) h = absurd (omega (arith, h))

pub same-id : (a b : Id) → AreBytes a → AreBytes b → length a ≡ length b → front a ≡ front b → page_number a ≡ page_number b →
    bit_of (counted a) ≡ bit_of (counted b) → a ≡ b
same-id a b a-bytes b-bytes long fronts numbers bits =
    let i = counted a / 4096 * 16 + counted a / 16 % 16 in
    let j = counted b / 4096 * 16 + counted b / 16 % 16 in
    let i-less : i < 2 ^ 64 = omega (arith, count-less a) in
    let j-less : j < 2 ^ 64 = omega (arith, count-less b) in
    let pages : (digest (front a) + i) % 2 ^ 64 ≡ (digest (front a) + j) % 2 ^ 64 = numbers ∙ ap (λ f. (digest f + j) % 2 ^ 64) (sym fronts) in
    let counts = same-count (counted a) (counted b) (same-behind (digest (front a)) i j i-less j-less pages) bits in
    let a-rest = drop (length a - 5) a in
    let b-rest = drop (length b - 5) b in
    let k = length a-rest in
    let b-long : length b-rest ≡ k = omega (arith, length-drop (length a - 5) a, length-drop (length b - 5) b, long) in
    let few : 0 < room k = room-some k (omega (arith, length-drop (length a - 5) a)) in
    let last = alike k 0 0 a-rest b-rest refl b-long few few (drop-bytes (length a - 5) a a-bytes) (drop-bytes (length b - 5) b b-bytes) counts in
    sym (front-and-last a) ∙ ap₂ (λ xs ys. xs ++ ys) fronts last.bytes ∙ front-and-last b

-- ---- one more bit on a page

same-parts : (like id other : Id) → is_like (Some like) id ≡ true → is_like (Some like) other ≡ true → (length id ≡ length other) × (front id ≡ front other)
same-parts like id other own its =
    let a = and_parts (length like == length id) (is_same (front like) (front id)) own in
    let b = and_parts (length like == length other) (is_same (front like) (front other)) its in (
      sym (eqb-true (length like) (length id) a.0) ∙ eqb-true (length like) (length other) b.0,
      sym ((bytes_decides (front like) (front id)).0 a.1) ∙ (bytes_decides (front like) (front other)).0 b.1,
    )

alike-on : (like : Option Id) (id other : Id) → is_like like id ≡ true → is_like like other ≡ true → (length id ≡ length other) × (front id ≡ front other)
alike-on None id other own its = absurd (false≢true own)
alike-on (Some like) id other own its = same-parts like id other own its

-- the bit distinguishes the ids on a page
told : (page : Page) (id other : Id) → AreBytes id → AreBytes other → is_of page id ≡ true → is_of page other ≡ true →
    page_number other ≡ page_number id → (bit_of (counted other) == bit_of (counted id)) ≡ is_same id other
told page id other id-bytes other-bytes own its numbers =
    let both = alike-on page.like id other own its in
    both_ways (bit_of (counted other) == bit_of (counted id)) (is_same id other)
    (λ h. (bytes_decides id other).1 (same-id id other id-bytes other-bytes both.0 both.1 (sym numbers)
    (sym (eqb-true (bit_of (counted other)) (bit_of (counted id)) h))))
    (λ h. eq-eqb (bit_of (counted other)) (bit_of (counted id)) (ap (λ x. bit_of (counted x)) (sym ((bytes_decides id other).0 h))))

or-comm : (a b : Bool) → (a || b) ≡ (b || a)
or-comm true true = refl
or-comm true false = refl
or-comm false true = refl
or-comm false false = refl

pub one-more : (page : Page) (id other : Id) (bits : List ℕ) → AreBytes id → AreBytes other → is_of page id ≡ true → page_number other ≡ page_number id →
    ((b : ℕ) → has_bit bits b ≡ (has_bit page.bits b || (b == bit_of (counted id)))) →
    is_on (Some (record { like = page.like; bits = bits })) other ≡ (is_same id other || is_on (Some page) other)
one-more page id other bits id-bytes other-bytes own numbers h = elim (cases_Bool (is_of page other)) [
  | inl its ↦
      ap (λ b. b && has_bit bits (bit_of (counted other))) its ∙ h (bit_of (counted other))
      ∙ ap (λ b. has_bit page.bits (bit_of (counted other)) || b) (told page id other id-bytes other-bytes own its numbers)
      ∙ or-comm (has_bit page.bits (bit_of (counted other))) (is_same id other)
      ∙ ap (λ b. is_same id other || (b && has_bit page.bits (bit_of (counted other)))) (sym its)
  | inr not_its ↦
      let apart : is_same id other ≡ false = elim (cases_Bool (is_same id other)) [
        | inl same ↦ absurd (false≢true (sym not_its ∙ ap (is_of page) (sym ((bytes_decides id other).0 same)) ∙ own))
        | inr e ↦ e
      ] in
      ap (λ b. b && has_bit bits (bit_of (counted other))) not_its
      ∙ ap (λ b. b || (false && has_bit page.bits (bit_of (counted other)))) (sym apart)
      ∙ ap (λ b. is_same id other || (b && has_bit page.bits (bit_of (counted other)))) (sym not_its)
]

-- ids whose pages have other numbers differ
pub other-page : (id other : Id) → page_number other ≢ page_number id → is_same id other ≡ false
other-page id other h = elim (cases_Bool (is_same id other)) [
  | inl same ↦ absurd (h (ap page_number (sym ((bytes_decides id other).0 same))))
  | inr e ↦ e
]

-- ---- a page that is opened

pub and-none : (a b : Bool) → b ≡ false → (a && b) ≡ false
and-none true b h = h
and-none false b h = refl

none-on : (page : Page) (id : Id) → page.bits ≡ no_bits → is_on (Some page) id ≡ false
none-on page id h =
    and-none (is_of page id) (has_bit page.bits (bit_of (counted id)))
    (ap (λ n. has_bit n (bit_of (counted id))) h ∙ nothing-set (bit_of (counted id)))

-- it is the one that was there, or a new one, on which nothing is set
pub opened : (page : Page) (before : Option Page) (id : Id) → ((p : Page) → before ≡ Some p → page ≡ p) →
    (before ≡ None → page.bits ≡ no_bits) → is_on (Some page) id ≡ is_on before id
opened page None id found blank = none-on page id (blank refl)
opened page (Some p) id found blank = ap (λ q. is_on (Some q) id) (found p refl)

small : (b : ℕ) → Fits w8 b → nat_lt b 256 ≡ true
small b h = grind (arith, h)

pub are-bytes : (id : Id) → ((i : ℕ) → Fits w8 (get_or id i 0)) → AreBytes id
are-bytes [] h = refl
are-bytes (b ∷ id) h = and_from (nat_lt b 256) (list_all (λ x. nat_lt x 256) id) (small b (h 0)) (are-bytes id (λ i. h (suc i)))

-- ---- pages of which one is opened

pub lies : (pages : Pages) (number : ℕ) → pages.open ≡ number → page_at pages number ≡ Some pages.page
lies pages number h = ap (λ b. if b then Some pages.page else get nat_cmp pages.closed number) (eq-eqb number pages.open (sym h))

-- a change to the open page changes nothing about the others
pub beside : (pages : Pages) (page : Page) (n number : ℕ) → pages.open ≡ number → n ≢ number →
    page_at (record { «open» = pages.open; page = page; closed = pages.closed }) n ≡ page_at pages n
beside pages page n number h away =
    let other = ne_eqb n pages.open (λ e. away (e ∙ h)) in
    ap (λ b. if b then Some page else get nat_cmp pages.closed n) other
    ∙ sym (ap (λ b. if b then Some pages.page else get nat_cmp pages.closed n) other)

kept-paged : (old new : Pages) (number : ℕ) (other : Id) → ((n : ℕ) → n ≢ number → page_at new n ≡ page_at old n) →
    is_on (page_at new number) other ≡ is_on (page_at old number) other → is_paged new other ≡ is_paged old other
kept-paged old new number other others same = elim (cases_eq (page_number other) number) [
  | inl here ↦ ap (λ n. is_on (page_at new n) other) here ∙ same ∙ ap (λ n. is_on (page_at old n) other) (sym here)
  | inr away ↦ ap (λ p. is_on p other) (others (page_number other) away)
]

-- opening a page marks no id
pub turned-same : (old new : Pages) (number : ℕ) (id other : Id) → HasTurned old new number id → is_paged new other ≡ is_paged old other
turned-same old new number id other told =
    kept-paged old new number other told.others
    (ap (λ page. is_on page other) (lies new number told.lies) ∙ opened new.page (page_at old number) other told.found told.blank)

pub kept-elsewhere : (old new : Pages) (number : ℕ) (other : Id) → ((n : ℕ) → n ≢ number → page_at new n ≡ page_at old n) →
    (is_for_others (page_at old number) other ≡ true → is_for_others (page_at new number) other ≡ true) →
    is_elsewhere old other ≡ true → is_elsewhere new other ≡ true
kept-elsewhere old new number other others same h = elim (cases_eq (page_number other) number) [
  | inl here ↦
      ap (λ n. is_for_others (page_at new n) other) here
      ∙ same (ap (λ n. is_for_others (page_at old n) other) (sym here) ∙ h)
  | inr away ↦ ap (λ p. is_for_others p other) (others (page_number other) away) ∙ h
]

-- the ids that a page is for stay the same
pub still : (page more : Page) (before : Option Page) (other : Id) → more.like ≡ page.like → ((p : Page) → before ≡ Some p → page ≡ p) →
    is_for_others before other ≡ true → is_for_others (Some more) other ≡ true
still page more None other like found h = absurd (false≢true h)
still page more (Some p) other like found h =
    ap (λ l. not (is_like l other)) (like ∙ ap (λ (x : Page). x.like) (found p refl)) ∙ h
