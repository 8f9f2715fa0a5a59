-- The limits of the rules, by name (RULES 1.7, 2.2). Those of one crate alone are in its own specs/.
use Rattle.std.specs.Prelude.{ℕ, suc, ◌+◌, ◌*◌}

-- 1: the largest side of an image or a map
abbrev pub largest_side : ℕ
largest_side = 4096

-- the cells of the largest map
abbrev pub largest_map : ℕ
largest_map = largest_side * largest_side

-- 3: the largest radius of a ring (RULES 3.1)
abbrev pub largest_ring : ℕ
largest_ring = 10

-- 3: the largest radius of a peak's window, and of a centre of mass
abbrev pub largest_radius : ℕ
largest_radius = 16

-- 3: the largest search radius
abbrev pub largest_search : ℕ
largest_search = 255

-- 3: the last level that a seed's box is computed for; the largest side is 1 pixel there
abbrev pub last_level : ℕ
last_level = 12

-- the most levels that an image has, itself included (RULES 6.2)
abbrev pub most_levels : ℕ
most_levels = suc last_level

-- the largest border, ring + window + centroid radius (RULES 7.1)
abbrev pub largest_border : ℕ
largest_border = largest_ring + largest_radius + largest_radius

-- the cells of the largest window (RULES 4.2)
abbrev pub largest_window : ℕ
largest_window = (2 * largest_radius + 1) * (2 * largest_radius + 1)

-- the most ties of a map: every cell a peak, with every cell of its window (RULES 23)
abbrev pub most_ties : ℕ
most_ties = largest_map * largest_window
