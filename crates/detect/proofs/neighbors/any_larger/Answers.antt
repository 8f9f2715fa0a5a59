-- `detect::neighbors::any_larger` meets its contract. Assumes nothing.
use Rattle.std.proofs.Common.{◌&&◌, rules, tests}
use Rattle.std.proofs.lemmas.Iterator.{YieldsList-from_slice}
use Rattle.std.proofs.lemmas.Iterator.Search.{any_from_yields_List}
use lib.Ieee.{lt}
use Rattle.detect.proofs.Listed.{any-listed}
use Rattle.detect.proofs.neighbors.any_larger.Goals as goal

pub returns : goal.returns
returns c =
    rw any-listed
    (any_from_yields_List (λ u. lt c.args.v u && lt c.args.bar u) _ _ _ c.any.ensures.ran (YieldsList-from_slice c.args.cells.now cc)
    (λ x b q k. search (rules, tests)))
