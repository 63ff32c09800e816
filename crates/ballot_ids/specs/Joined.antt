-- Ids that were met side by side, and are joined by their pages.
use Rattle.std.specs.Prelude.{◌≡◌, ◌&&◌, ◌==◌, ℕ, Bool, true, false, List, [], ◌∷◌, map, slice_index, Option, None, Some, is_some, IsTrue, bit_and, bit_or, if◌then◌else◌}
use Rattle.std.specs.List.{list_all}
use Rattle.irv_base.specs.Names.{Id}
use Rattle.ballot_ids.specs.Ids.{is_like, page_at}
use Rattle.ballot_ids.specs.declared.noted.Noted.{Noted}
use Rattle.ballot_ids.specs.declared.page.Page.{Page}
use Rattle.ballot_ids.specs.declared.pages.Pages.{Pages}

-- ---- bits on two pages

-- word by word
abbrev pub of_each : (ℕ → ℕ → ℕ) → List ℕ → List ℕ → List ℕ
of_each of own its =
    map (λ i. of (slice_index own i) (slice_index its i)) (0 ∷ 1 ∷ 2 ∷ 3 ∷ [])

-- no bit is set on both
abbrev pub share_none : List ℕ → List ℕ → Bool
share_none own its = list_all (λ word. word == 0) (of_each bit_and own its)

-- ---- two pages with one number

-- both pages keep an id, and these ids are alike
abbrev pub are_alike : Option Id → Option Id → Bool
are_alike own None = false
are_alike own (Some like) = is_like own like

-- one is for no ids, or both are for ids alike and no bit is set on both
abbrev pub are_pages_apart : Page → Page → Bool
are_pages_apart own its =
    if is_some own.like && is_some its.like
    then are_alike own.like its.like && share_none own.bits its.bits
    else true

-- the bits of both pages, if both are for ids alike
abbrev pub page_of_both : Page → Page → Page
page_of_both own its =
    if is_some own.like && is_some its.like
    then record { like = own.like; bits = of_each bit_or own.bits its.bits }
    else (if is_some own.like then own else its)

-- ---- two pages with one number, each of which may be missing

abbrev pub are_apart : Option Page → Option Page → Bool
are_apart own None = true
are_apart None (Some its) = true
are_apart (Some own) (Some its) = are_pages_apart own its

abbrev pub of_both : Option Page → Option Page → Option Page
of_both own None = own
of_both None (Some its) = Some its
of_both (Some own) (Some its) = Some (page_of_both own its)

-- ---- all pages

-- pages with the same number are apart, whatever the number
abbrev pub AreAllApart : Pages → Pages → Type 0
AreAllApart own its = (number : ℕ) → IsTrue (are_apart (page_at own number) (page_at its number))

-- the pages of `all` are for the ids of both
abbrev pub AreOfBoth : Pages → Pages → Pages → Type 0
AreOfBoth own its all =
    (number : ℕ) → page_at all number ≡ of_both (page_at own number) (page_at its number)

-- all ids are on pages, and these pages are apart
pub record ArePagesApart (own its : Noted) : Type 0 where
  pub apart : AreAllApart own.pages its.pages
  pub own_here : own.elsewhere ≡ []
  pub its_here : its.elsewhere ≡ []
