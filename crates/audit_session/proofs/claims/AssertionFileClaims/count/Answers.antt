use Rattle.session_state.proofs.Claims.{file-assorters}
use Rattle.audit_session.proofs.claims.AssertionFileClaims.count.Goals as goal

pub returns-clause-assorters : goal.returns-clause-assorters
returns-clause-assorters c = file-assorters c.args.self.now
