-- The pages on which the ids that have been met are marked.
use Rattle.std.specs.Prelude.{◌≡◌, ◌≢◌, ◌-◌, ◌+◌, ◌*◌, ◌/◌, ◌%◌, ◌^◌, ◌&&◌, ℕ, Bool, false, not, nat_lt, List, [], ◌∷◌, length, take, drop, slice_index, Option, None, Some, if◌then◌else◌, ◌==◌, IsTrue}
use Rattle.std.specs.List.{list_all}
use Rattle.std.specs.Hash.FoldHasher.{initial, write, finish}
use Rattle.std.specs.BTreeMap.{get}
use Rattle.std.specs.Ordering.{nat_cmp}
use Rattle.irv_base.specs.Names.{Id, is_name, is_same}
use Rattle.ballot_ids.specs.declared.page.Page.{Page}
use Rattle.ballot_ids.specs.declared.page.TheConstants.{COUNTED_BYTES}
use Rattle.ballot_ids.specs.declared.pages.Pages.{Pages}

-- a page is four words, each the sum of 2 ^ bit over those of its 64 bits that are set
abbrev pub has_bit : List ℕ → ℕ → Bool
has_bit words bit = (slice_index words (bit / 64) / 2 ^ (bit % 64)) % 2 == 1

abbrev pub no_bits : List ℕ
no_bits = 0 ∷ 0 ∷ 0 ∷ 0 ∷ []

-- The last bytes of an id are read as a number. Four bits of the last byte and four of the one before it are the id's bit on a page. The
-- rest is added to the digest of the other bytes and gives the number of the page. So if ids count up in decimal digits, as those of
-- ballots do, up to a hundred are on a page, and the next page is found next to the last one. Ids with different page numbers or bits
-- differ. Two ids that differ may share both; then they differ in length or in their first bytes, by which a page knows its ids.

abbrev pub digest : Id → ℕ
digest id = finish (write initial id)

-- the number that bytes are, the first of them most significant, after a number that is already there; it wraps at 2 ^ 64
abbrev pub number_behind : ℕ → List ℕ → ℕ
number_behind n [] = n
number_behind n (b ∷ bytes) = number_behind ((n * 2 ^ 8 % 2 ^ 64 + b) % 2 ^ 64) bytes

-- what the last bytes of an id count
abbrev pub counted : Id → ℕ
counted id = number_behind 0 (drop (length id - COUNTED_BYTES) id)

-- what comes before the bytes that are counted
abbrev pub front : Id → Id
front id = take (length id - COUNTED_BYTES) id

abbrev pub page_number : Id → ℕ
page_number id =
    (digest (front id) + (counted id / 4096 * 16 + counted id / 16 % 16)) % 2 ^ 64

-- the bit if the last bytes count this much
abbrev pub bit_of : ℕ → ℕ
bit_of count = count % 16 + count / 256 % 16 * 16

abbrev pub AreBytes : Id → Type 0
AreBytes id = IsTrue (list_all (λ b. nat_lt b 256) id)

-- ---- what is on a page

-- an id has the same number of bytes as another one, and the same front
abbrev pub is_like : Option Id → Id → Bool
is_like None id = false
is_like (Some like) id = (length like == length id) && is_same (front like) (front id)

-- a page is for ids like the one that it keeps
abbrev pub is_of : Page → Id → Bool
is_of page id = is_like page.like id

abbrev pub is_on : Option Page → Id → Bool
is_on None id = false
is_on (Some page) id = is_of page id && has_bit page.bits (bit_of (counted id))

abbrev pub is_for_others : Option Page → Id → Bool
is_for_others None id = false
is_for_others (Some page) id = not (is_of page id)

-- ---- the pages

abbrev pub page_at : Pages → ℕ → Option Page
page_at pages number =
    if number == pages.open then Some pages.page else get nat_cmp pages.closed number

-- the id is marked on its page
abbrev pub is_paged : Pages → Id → Bool
is_paged pages id = is_on (page_at pages (page_number id)) id

-- the id's page is there, and is for other ids
abbrev pub is_elsewhere : Pages → Id → Bool
is_elsewhere pages id = is_for_others (page_at pages (page_number id)) id

-- the page with this number is now open, as it was, or as a new one for ids like this one if there was none; the others are as they were
pub record HasTurned (old new : Pages) (number : ℕ) (id : Id) : Type 0 where
  pub lies : new.open ≡ number
  pub others : (n : ℕ) → n ≢ number → page_at new n ≡ page_at old n
  pub found : (page : Page) → page_at old number ≡ Some page → new.page ≡ page
  pub blank : page_at old number ≡ None → new.page.bits ≡ no_bits
  pub own : page_at old number ≡ None → IsTrue (is_name id) → IsTrue (is_of new.page id)
