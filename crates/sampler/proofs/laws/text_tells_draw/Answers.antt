use Rattle.sampler.proofs.DrawTexts.{text-tells-draw}
use Rattle.sampler.proofs.laws.text_tells_draw.Goals as goal

pub returns : goal.returns
returns c = text-tells-draw
