-- Demand 3: "and any two responses with different exact values stand in the same order as those values, also across
-- images, boxes and rings".
use Rattle.std.specs.Prelude.{T, ◌<ℤ◌}
use Rattle.std.specs.Float.Ieee.{lt}
use Rattle.lists.specs.Places.{Place}
use Rattle.demands.specs.ResponseCall.{ResponseCall, InMap, computed_at, exact_at}
use Rattle.demands.specs.AnyRing.{AnyMap, HasCell, computed_in, exact_in}

pub record ResponsesOrdered : Type 0 where
  -- in what two calls left
  pub calls : (c d : ResponseCall) (p q : Place) → InMap c p → InMap d q → exact_at c p <ℤ exact_at d q
      → T (lt (computed_at c p) (computed_at d q))
  -- and in maps with any two ring tables
  pub any_ring : (a b : AnyMap) (p q : Place) → HasCell a p → HasCell b q → exact_in a p <ℤ exact_in b q
      → T (lt (computed_in a p) (computed_in b q))
