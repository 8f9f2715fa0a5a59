-- `merge_settle::search::lowest_of_two` meets its contract. Assumes nothing.
use native.Mathlib.Omega.{arith}
use Rattle.merge_settle.proofs.First.{among_two}
use Rattle.merge_settle.proofs.Slots.{home-in, home-slots}
use Rattle.merge_settle.proofs.search.lowest_of_two.Goals as goal

pub lowest_from-low-requires : goal.lowest_from-low-requires
lowest_from-low-requires c = (home-in _ _ _ _ c.requires.0 c.home_of-home.ensures, omega arith)

pub lowest_from-requires : goal.lowest_from-requires
lowest_from-requires c = (home-in _ _ _ _ c.requires.0 c.home_of-home-2.ensures, omega (arith, c.lowest_from-low.ensures.at_most))

pub returns : goal.returns
returns c =
    among_two _ _ _ _ _ _ _ _ _ (home-slots c.args.table.now _ _ _ c.home_of-home.ensures)
    (home-slots c.args.table.now _ _ _ c.home_of-home-2.ensures)
    c.lowest_from-low.ensures c.lowest_from.ensures
