-- Corners that the box and the merge take: by their coordinates, and by bounds on them. Assumes nothing.
use mathlib.Core.Path.{◌≡◌, refl, sym, ◌∙◌}
use mathlib.Core.Bool.{true}
use Prim.Native.Nat.{ℕ, ◌≤◌}
use Rattle.lists.specs.Limits.{largest_side}
use Rattle.lists.proofs.Tests.{and_parts, and-on}
use Rattle.float32.specs.Float32.{zero, between}
use Rattle.float32.proofs.Bounds.{UpTo, upto-between}
use Rattle.corner_list.specs.declared.Corner.{Corner}
use Rattle.corner_list.specs.CornerList.{largest_coordinate, is_inside}

module _ (c : Corner) where
  pub inside-parts : is_inside c ≡ true → (between zero largest_coordinate c.x ≡ true) × (between zero largest_coordinate c.y ≡ true)
  unfolding is_inside
  inside-parts e = and_parts (between zero largest_coordinate c.x) (between zero largest_coordinate c.y) e

  -- a corner of an image with sides up to the largest
  pub inside-upto : (w h : ℕ) → w ≤ largest_side → h ≤ largest_side → UpTo c.x w → UpTo c.y h → is_inside c ≡ true
  unfolding is_inside
  inside-upto w h p q u v =
      sym (and-on (between zero largest_coordinate c.x) (between zero largest_coordinate c.y)
      (upto-between c.x largest_coordinate w largest_side p (refl, refl) u))
      ∙ upto-between c.y largest_coordinate h largest_side q (refl, refl) v
