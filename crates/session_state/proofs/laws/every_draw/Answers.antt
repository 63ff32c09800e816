use Rattle.session_state.proofs.Rounds.{every_draw_law}
use Rattle.session_state.proofs.laws.every_draw.Goals as goal

pub returns : goal.returns
returns c = every_draw_law
