-- `response::chess_response_u8_patch` meets its contract: without a margin all cells are computed. Assumes nothing.
use Rattle.response.proofs.Outcome.{all-patched}
use Rattle.response.proofs.chess_response_u8_patch.Goals as goal

pub returns : goal.returns
returns c = all-patched _ _ _ _ _ c.inner_patch.ensures
