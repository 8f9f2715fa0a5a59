-- Parameters that are in their ranges, one by one. Assumes nothing.
use Prim.Native.Nat.{ℕ, ◌≤◌}
use mathlib.Core.Path.{◌≡◌}
use mathlib.Core.Bool.{true, false, not, ◌||◌}
use lib.Dec.{leb, ltb}
use borrow.Author.Tests.{ltb-false, leb-true, not-true, not-false}
use Rattle.lists.specs.Limits.{largest_radius, largest_search}
use Rattle.lists.proofs.Tests.{and_parts, or-neither}
use Rattle.ring.specs.Ring.{is_ring}
use Rattle.frame_params.specs.declared.FrameParams.{FrameParams}
use Rattle.frame_params.specs.Ranges.{range_outside, parameters_fit}

-- ring, window and centroid radius
pub record Inside (ring window centroid : ℕ) : Type 0 where
  pub ring_is : is_ring ring ≡ true
  pub in_window : window ≤ largest_radius
  pub in-radius : centroid ≤ largest_radius

pub inside : (ring window centroid : ℕ) → range_outside ring window centroid ≡ false → Inside ring window centroid
inside ring window centroid e =
    let parts = or-neither (not (is_ring ring)) (ltb largest_radius window || ltb largest_radius centroid) e in
    let radii = or-neither (ltb largest_radius window) (ltb largest_radius centroid) parts.1 in
    record {
      ring_is = not-false (is_ring ring) parts.0;
      in_window = ltb-false largest_radius window radii.0;
      in-radius = ltb-false largest_radius centroid radii.1;
    }

-- the parameters of a frame
pub record Ranges (p : FrameParams) : Type 0 where
  pub ring : is_ring p.ring ≡ true
  pub window : p.window ≤ largest_radius
  pub centroid_radius : p.centroid_radius ≤ largest_radius
  pub search_radius : p.search_radius ≤ largest_search

pub ranges : (p : FrameParams) → parameters_fit p ≡ true → Ranges p
unfolding parameters_fit
ranges p e =
    let outside = range_outside p.ring p.window p.centroid_radius in
    let parts = and_parts (not outside) (leb p.search_radius largest_search) e in
    let i = inside p.ring p.window p.centroid_radius (not-true outside parts.0) in
    record {
      ring = i.ring_is;
      window = i.in_window;
      centroid_radius = i.in-radius;
      search_radius = leb-true p.search_radius largest_search parts.1;
    }
