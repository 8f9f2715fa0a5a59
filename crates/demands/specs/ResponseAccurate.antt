-- Demand 3: "Whatever the image, box and ring, every computed response is within 1/1024 of the paper's exact value and
-- has its sign, 0 for 0".
use Rattle.lists.specs.Places.{Place}
use Rattle.accuracy.specs.Accurate.{Accurate}
use Rattle.demands.specs.ResponseCall.{ResponseCall, InMap, computed_at, exact_at}
use Rattle.demands.specs.AnyRing.{AnyMap, HasCell, computed_in, exact_in}

pub record ResponseAccurate : Type 0 where
  -- each cell of the map that a call left in its buffer
  pub call : (c : ResponseCall) (p : Place) → InMap c p → Accurate (computed_at c p) (exact_at c p)
  -- and of a map with any ring table
  pub any_ring : (a : AnyMap) (p : Place) → HasCell a p → Accurate (computed_in a p) (exact_in a p)
