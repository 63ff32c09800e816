-- One more argument of a command.
use Rattle.std.proofs.Common.{◌≡◌, ◌∙◌, ◌+◌, ◌<◌, ℕ, List, [], ◌∷◌, length, map, take, get_or, refl, ap}
use Rattle.std.specs.Borrow.{Bor}
use Rattle.std.proofs.lemmas.List.{map_more}
use Rattle.std.proofs.lemmas.List.Sums.{fold-append}
use Rattle.clap.specs.Simple.{App, new_rule, with_rule}
use Rattle.clap.specs.Walk.{Rule}
use Rattle.command_line.specs.OneForm.{with_rules}

pub with_more : {X : Type 0} (f : X → Rule) (app : App) (xs : List X) (i : ℕ) (d : X) → i < length xs
    → with_rules app (map f (take (i + 1) xs)) ≡ with_rule (with_rules app (map f (take i xs))) (f (get_or xs i d))
with_more f app xs i d h = ap (with_rules app) (map_more f xs i d h) ∙ fold-append with_rule app (map f (take i xs)) (f (get_or xs i d) ∷ [])

pub rules-of_files : (names : List (Bor (List ℕ))) → map (λ name. new_rule name.now) names ≡ map new_rule (map (λ name. name.now) names)
rules-of_files [] = refl
rules-of_files (name ∷ names) = ap (λ rules. new_rule name.now ∷ rules) (rules-of_files names)
