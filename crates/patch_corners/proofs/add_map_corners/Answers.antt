-- `patch_corners::add_map_corners` meets its contract: all rows are the map's. Assumes nothing.
use Rattle.patch_corners.proofs.OfRows.{all-rows}
use Rattle.patch_corners.proofs.add_map_corners.Goals as goal

pub returns-clause-added : goal.returns-clause-added
returns-clause-added c = all-rows c.args.p c.args.exact c.args.map.now _ _ _ _ _ _ c.add_row_corners.ensures.added
