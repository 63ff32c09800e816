-- Lists stored back to back in one list, with a second list of the places where they begin.
use Rattle.std.specs.Prelude.{◌≡◌, ◌≤◌, ◌-◌, ℕ, List, [], ◌∷◌, take, drop, length}

-- where a list ends if these lists begin after it and the last of them ends at place n
abbrev pub end_before : List ℕ → ℕ → ℕ
end_before [] n = n
end_before (begin ∷ begins) n = begin

-- each list ends where the next one begins, and the last list ends where the elements end
abbrev pub lists_between : {X : Type 0} → List ℕ → List X → List (List X)
lists_between [] elements = []
lists_between (begin ∷ begins) elements =
    take (end_before begins (length elements) - begin) (drop begin elements) ∷ lists_between begins elements

-- the begins never decrease, and none is greater than n
abbrev pub AreBegins : List ℕ → ℕ → Type 0
AreBegins [] n = Unit {0}
AreBegins (begin ∷ begins) n = (begin ≤ end_before begins n) × AreBegins begins n

-- the begins never decrease, none is greater than n, and no element comes before the first list
pub record ArePlaces (begins : List ℕ) (n : ℕ) : Type 0 where
  pub rise : AreBegins begins n
  pub first : end_before begins n ≡ 0
