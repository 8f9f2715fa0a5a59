-- What the private functions promise, and which cells of a map are read.
use Rattle.std.specs.Prelude.{ℕ, ◌+◌, min, ◌≡◌}
use Rattle.lists.specs.Tab.{tab}
use Rattle.corner_list.specs.CornerList.{Slices, corner_at, placed_corners}
use Rattle.corner_list.specs.declared.Corner.{Corner}
use Rattle.std.specs.Float.{binary32}
use Rattle.std.specs.Float.Ieee.{add}
use Rattle.float32.specs.Float32.{float_of}
use Rattle.frame_params.specs.declared.FrameParams.{FrameParams}
use Rattle.patch_corners.specs.OneMap.{at_place}

-- each of the n corners after the first `held` of a buffer, replaced by f of it: `centre_all`
pub record Changed (f : Corner → Corner) (held n : ℕ) (b b' : Slices) : Type 0 where
  pub is : b' ≡ placed_corners held (tab n (λ i. f (corner_at b (held + i)))) b

-- a corner moved down by some rows: `lower`
abbrev pub lowered : ℕ → Corner → Corner
lowered rows c = at_place c.x (add binary32 c.y (float_of rows)) c

-- RULES 9.8: the margin of a map. No cell nearer to an edge is read: a peak is at least ring + window + centroid radius
-- away from each edge, and from there its window and that of its centre of mass reach no further than the larger of the
-- two radii
abbrev pub margin_of : FrameParams → ℕ
margin_of p = p.ring + min p.window p.centroid_radius
