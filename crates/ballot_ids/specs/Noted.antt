-- How it is recorded which ids have been met: by pages, or by a list of ids if their page is for others.
use Rattle.std.specs.Prelude.{◌≡◌, ◌||◌, true, Bool, List}
use Rattle.irv_base.specs.Names.{Id, is_among}
use Rattle.ballot_ids.specs.Ids.{AreBytes, is_elsewhere, is_paged}
use Rattle.ballot_ids.specs.declared.noted.Noted.{Noted}

abbrev pub is_noted : Noted → Id → Bool
is_noted noted id = is_paged noted.pages id || is_among noted.elsewhere id

-- exactly these ids were met; the page of each that is in the list is there, and is for others
pub record AreNoted (met : List Id) (noted : Noted) : Type 0 where
  pub exact : (id : Id) → AreBytes id → is_noted noted id ≡ is_among met id
  pub away : (id : Id) → is_among noted.elsewhere id ≡ true → is_elsewhere noted.pages id ≡ true
