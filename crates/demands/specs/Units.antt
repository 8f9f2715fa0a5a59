-- Request 2: "The two 256th columns become nearest, half away from zero". They are `units_of` of x and of y.
use Rattle.std.specs.Prelude.{ℕ, ◌+◌, ◌*◌, ◌≤◌, ◌<◌, ◌≡◌, true, List, [], ◌∷◌, take, Float}
use Rattle.std.specs.Float.{binary32}
use Rattle.std.specs.Float.Ieee.{fits}
use Rattle.std.specs.Float.Ieee.Positive.{num, den}
use Rattle.lists.specs.Places.{All}
use Rattle.float32.specs.Float32.{zero, between}
use Rattle.accuracy.specs.Accurate.{Bytes}
use Rattle.corner_list.specs.CornerList.{largest_coordinate}
use Rattle.corner_list.specs.declared.Corner.{Corner}
use Rattle.frame_params.specs.declared.FrameParams.{FrameParams}
use Rattle.patch_corners.specs.OneMap.{Choice, computed_choice}
use Rattle.listing.specs.Text.{units_of, decimal, fields}
use Rattle.demands.specs.FrameExact.{CallBy, frame_list}
use Rattle.demands.specs.Program.{PrintsCorners, corners_by}

-- (2 u - 1) / 512 ≤ x < (2 u + 1) / 512, where x is num x / den x: u is the nearest 256th, and halves round up
pub record Nearest (x : Float) (u : ℕ) : Type 0 where
  pub at_least : 2 * u * den x ≤ 512 * num x + den x
  pub below : 512 * num x < (2 * u + 1) * den x

-- for a corner: the first two columns of its line (listing, `fields`) are such numbers, in decimal
pub record ColumnsNearest (c : Corner) : Type 0 where
  pub across : ℕ
  pub down : ℕ
  pub columns : take 2 (fields c) ≡ decimal across ∷ decimal down ∷ []
  pub x_near : Nearest c.x across
  pub y_near : Nearest c.y down

pub record UnitsNearest : Type 0 where
  -- any f32 from 0 to the largest coordinate
  pub coordinate : (x : Float) → fits binary32 x ≡ true → between zero largest_coordinate x ≡ true
      → Nearest x (units_of x)
  -- and so each corner that a finished frame leaves
  pub frame : (choose : FrameParams → Choice) (c : CallBy choose) → All ColumnsNearest (frame_list c)
  -- and each that the program prints, for pixels of type u8
  pub printed : (input : List ℕ) (l : PrintsCorners input) → Bytes l.pixels
      → All ColumnsNearest (corners_by computed_choice l.header l.pixels)
