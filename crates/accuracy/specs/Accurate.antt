-- What is promised about a computed response and its exact value.
use Rattle.std.specs.Prelude.{◌*◌, ◌≡◌, ◌↔◌, T, ℤ, pos, ◌*ℤ◌, ◌<ℤ◌, Float}
use Rattle.std.specs.Float.Ieee.{lt}
use Rattle.float32.specs.Float32.{zero}
use Rattle.float32.specs.Value.{IsValue, Within, plus_part, minus_part}
pub use Rattle.response.specs.Response.{Bytes}

-- about the float x, for an exact value of E fifths
pub record Accurate (x : Float) (E : ℤ) : Type 0 where
  -- x is finite, and |x - E / 5| ≤ 1 / 1024
  pub near : Within x (1024 * plus_part E) (1024 * minus_part E) (5 * 1024) 5
  -- x has E's sign, and is +0.0 if E is 0
  pub positive : T (lt zero x) ↔ (pos 0 <ℤ E)
  pub negative : T (lt x zero) ↔ (E <ℤ pos 0)
  pub level : E ≡ pos 0 → x ≡ zero
  -- if E / 5 is an integer z, x is z
  pub exact : (z : ℤ) → E ≡ pos 5 *ℤ z → IsValue x (plus_part z) (minus_part z) 1
