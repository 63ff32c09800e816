use Rattle.std.proofs.Common.{[], ◌∷◌, refl}
use Rattle.std.specs.Fmt.{digits}
use Rattle.hex.specs.Hex.{encode_with}
use Rattle.serde_json.proofs.OnLiterals.{serde_json_on_literals}
use Rattle.session_file.specs.Examples.{five_draws, four_draws}
use Rattle.session_file.specs.Text.{session_value}
use Rattle.session_file.proofs.OneCard.{one_card_is_sound}
use Rattle.session_file.proofs.examples.one_card.Goals as goal

pub returns : goal.returns
unfolding session_value encode_with digits serde_json_on_literals
returns c = record { sound = one_card_is_sound _ _ _ (1 ∷ []) (four_draws ∷ five_draws ∷ []) refl refl; begun = refl; four = refl; five = refl }
