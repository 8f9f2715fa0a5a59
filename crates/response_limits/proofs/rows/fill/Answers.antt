-- `response_limits::rows::fill` meets its contract. After y rows the front of each buffer holds the rows' limits, and the rest is as it
-- was. Assumes nothing.
use mathlib.Core.Path.{refl}
use Prim.Native.Nat.{◌+◌, ◌*◌, ◌≤◌}
use native.Mathlib.Nat.{zero-mul}
use native.Mathlib.Omega.{arith}
use lib.ListN.{length}
use Rattle.lists.proofs.Tab.{grid-none, grid-put, grid-all, row-end, part_length}
use Rattle.response.proofs.Indices.{row_below}
use borrow.Author.Rules.{rules}
use Rattle.response_limits.proofs.rows.fill.Goals as goal
use Rattle.response_limits.proofs.rows.fill.Goals.{In-loop-y}

pub loop-y-init : goal.loop-y-init
loop-y-init c = (refl, refl, rw zero-mul (grid-none _ _ _), rw zero-mul (grid-none _ _ _))

-- in a turn the next row lies in both buffers
module _ (c : In-loop-y) where
  in-lows : c.loop-y.y * c.args.w + c.args.w ≤ length c.args.lows.now
  in-lows = row-end _ _ _ _ _ c.loop-y-test.true refl c.requires.w_in_bounds.0

  in-highs : c.loop-y.y * c.args.w + c.args.w ≤ length c.args.highs.now
  in-highs = row-end _ _ _ _ _ c.loop-y-test.true refl c.requires.w_in_bounds.1

pub row-requires : goal.row-requires
row-requires c =
    record {
      image_with_table = (
        record { image = c.requires.sized.0; table = c.ring_offsets-t.ensures; own_radius = c.requires.sized.2 },
        record { image = c.requires.sized.1; table = c.ring_offsets-t.ensures; own_radius = c.requires.sized.2 },
      );
      lows_len = (
        part_length (c.loop-y.y * c.args.w) c.args.w c.loop-y.lows
            (omega (arith, in-lows (goal.at.row-requires c).In-loop-y, c.loop-y.invariant.0)),
        part_length (c.loop-y.y * c.args.w) c.args.w c.loop-y.highs
            (omega (arith, in-highs (goal.at.row-requires c).In-loop-y, c.loop-y.invariant.1)),
        c.loop-y-test.true,
      );
    }

pub loop-y-preserved : goal.loop-y-preserved
loop-y-preserved c = (
  search rules,
  search rules,
  rw row_below (grid-put _ _ _ _ _ _ _ _ c.loop-y.invariant.2 refl c.row.ensures.lows_after refl),
  rw row_below (grid-put _ _ _ _ _ _ _ _ c.loop-y.invariant.3 refl c.row.ensures.highs_after refl),
)

pub returns : goal.returns
returns c =
    record {
      lows_after = grid-all _ _ _ _ _ _ _ c.loop-y.invariant.2 refl (search rules);
      highs_after = grid-all _ _ _ _ _ _ _ c.loop-y.invariant.3 refl (search rules);
    }
