-- A call of `chess_response_u8_patch` that answered a map of pw by ph cells: what it was given, what it left, and its
-- promise, word for word as in its contract.
use Rattle.std.specs.Prelude.{ℕ, ◌+◌, ◌*◌, ◌<◌, List, get_or, take, ℤ, Float, Ok}
use Rattle.std.specs.Float.{nan}
use Rattle.lists.specs.Places.{Place}
use Rattle.ring.specs.Ring.{ring_of}
use Rattle.response.specs.Patch.{View, Patched}
use Rattle.response.specs.Exact.{fifths_in}
use Rattle.accuracy.specs.Accurate.{Bytes}

-- the box x0, y0, x1, y1 of an image of w by h pixels, with the ring that a radius selects
abbrev pub view_of : List ℕ → ℕ → ℕ → ℕ → ℕ → ℕ → ℕ → ℕ → View
view_of img w h ring x0 y0 x1 y1 =
    record { img = img; w = w; h = h; ring = ring_of ring; x0 = x0; y0 = y0; x1 = x1; y1 = y1 }

pub record ResponseCall : Type 0 where
  pub img : List ℕ
  pub w : ℕ
  pub h : ℕ
  pub ring : ℕ
  pub x0 : ℕ
  pub y0 : ℕ
  pub x1 : ℕ
  pub y1 : ℕ
  -- the pixels have type u8
  pub bytes : Bytes img
  -- the buffer before and after
  pub before : List Float
  pub after : List Float
  pub pw : ℕ
  pub ph : ℕ
  pub promise : Patched (view_of img w h ring x0 y0 x1 y1) ring before
      (Ok (record { w = pw; h = ph })) after

-- a cell of the map, by column and row
abbrev pub InMap : ResponseCall → Place → Type 0
InMap c p = (p.x < c.pw) × (p.y < c.ph)

-- its response in the buffer, in row order
abbrev pub computed_at : ResponseCall → Place → Float
computed_at c p = get_or c.after (p.y * c.pw + p.x) nan

-- and the paper's exact value, in fifths
abbrev pub view_in : ResponseCall → View
view_in c = view_of c.img c.w c.h c.ring c.x0 c.y0 c.x1 c.y1

abbrev pub exact_at : ResponseCall → Place → ℤ
exact_at c p = fifths_in (view_in c) p.x p.y

-- the map that it left: the first cells of the buffer
abbrev pub map_of : ResponseCall → List Float
map_of c = take (c.ph * c.pw) c.after
