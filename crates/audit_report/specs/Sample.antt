-- What a seed draws from a manifest, one line for each draw.
use Rattle.std.specs.Prelude.{ℕ, ◌-◌, List, [], ◌++◌, map, length, flat_map, slice_index_or, codes}
use Rattle.std.specs.Fmt.{decimal}
use Rattle.std.specs.List.{range_with_len}
use Rattle.irv_base.specs.Names.{Id}
use Rattle.manifest.specs.Cards.{Batches, card_id, cards_of}
use Rattle.sampler.specs.Draws.{drawn_card}

-- the number of a draw, the number of the card that is drawn, and that card's id
abbrev pub draw_line : ℕ → ℕ → Id → List ℕ
draw_line k card id = decimal k ++ codes "," ++ decimal card ++ codes "," ++ id ++ codes "\n"

-- the id of the card with this number, counted from 1
abbrev pub id_of_card : Batches → ℕ → Id
id_of_card batches card = slice_index_or (map card_id (cards_of batches)) (card - 1) []

-- the line of draw number k, counted from 1
abbrev pub line_of_draw : Batches → List ℕ → ℕ → List ℕ
line_of_draw batches seed k =
    let card = drawn_card seed k (length (cards_of batches)) in
    draw_line k card (id_of_card batches card)

-- the lines of this many draws
abbrev pub sample_table : Batches → List ℕ → ℕ → List ℕ
sample_table batches seed draws = flat_map (line_of_draw batches seed) (range_with_len 1 draws)
