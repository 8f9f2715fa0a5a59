-- Laws of the parameters' faults. Assumes nothing.
use Prim.Native.Nat.{ℕ}
use mathlib.Core.Path.{◌≡◌, refl, sym}
use mathlib.Core.Bool.{Bool, true, false, cond}
use mathlib.Core.List.{[], ◌∷◌}
use lib.Ieee.{Float, binary32, of_bits}
use Rattle.std.specs.Result.{result_and}
use Rattle.lists.specs.Refusals.{lowest, verdict}
use Rattle.merge_radius.specs.MergeRadius.{radius_outside}
use Rattle.frame_params.specs.Ranges.{range_outside}
use Rattle.stream.specs.Stream.{parameters_fault}
use Rattle.stream.specs.Internal.{range_fault, radius_fault}

-- the range before the radius
pub range-first : (ring window centroid merge : ℕ)
    → result_and (verdict (range_fault ring window centroid)) (verdict (radius_fault merge))
    ≡ verdict (parameters_fault ring window centroid merge)
unfolding range_fault radius_fault parameters_fault
range-first ring window centroid merge = pick (range_outside ring window centroid) (radius_outside (of_bits binary32 merge))
  where
    pick : (a b : Bool) → result_and (verdict (lowest ((a, 3) ∷ []))) (verdict (lowest ((b, 5) ∷ [])))
        ≡ verdict (lowest ((a, 3) ∷ (b, 5) ∷ []))
    pick true b = refl
    pick false b = refl

-- the radius of a pattern, by the test on it
pub radius-judged : (bits : ℕ) (r : Float) → r ≡ of_bits binary32 bits → (b : Bool) → radius_outside r ≡ b → cond b 5 0 ≡ radius_fault bits
unfolding radius_fault
radius-judged bits r e true z = rw (sym e, z)
radius-judged bits r e false z = rw (sym e, z)
