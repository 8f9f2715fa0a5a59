-- The worked case of merging (RULES 14), by computation: with radius 1 the corners (1 - 2^-24, 0), (2, 0) and (0, 100) all stay, though the
-- first two are as near as the radius: the cell numbers 0 and 2 keep them apart. By distance alone two would be left. Assumes nothing.
use Prim.Native.Nat.{ℕ}
use mathlib.Core.Path.{◌≡◌, refl}
use mathlib.Core.Bool.{Bool, true, false, cond}
use mathlib.Core.List.{List, [], ◌∷◌}
use lib.IntN.{pos, negsuc}
use lib.Ieee.{Float, fin, lt, le, add, sub, mul, div, to_unsigned}
use Rattle.float32.specs.Float32.{zero}
use Rattle.corner_list.specs.declared.Corner.{Corner}
use Rattle.merge_radius.specs.MergeRadius.{is_off}
use Rattle.merge_grid.specs.Grid.{position_of, squared, grid_of, near, adjacent_cells}
use Rattle.merge_settle.specs.Settle.{merged}
use Rattle.merge.specs.Merge.{result_of}

module _ (s t u : Float) (k m n : ℕ) where
  abbrev first : Corner
  first = record { x = fin false 16777215 (negsuc 23); y = zero; strength = s; neighbours = k }

  abbrev second : Corner
  second = record { x = fin false 1 (pos 1); y = zero; strength = t; neighbours = m }

  abbrev third : Corner
  third = record { x = zero; y = fin false 25 (pos 2); strength = u; neighbours = n }

  abbrev given : List Corner
  given = first ∷ second ∷ third ∷ []

  abbrev one : Float
  one = fin false 1 (pos 0)

  pub all_stay : result_of one given ≡ given
  unfolding result_of is_off grid_of near adjacent_cells lt le add sub mul div to_unsigned
  all_stay = refl

  -- by distance alone
  abbrev pub near_by : Corner → Corner → Bool
  near_by c o = near (squared one) (position_of c) (position_of o)

  pub two-by-distance : (b : Bool) → lt s t ≡ b → merged near_by [] given ≡ cond b second first ∷ third ∷ []
  unfolding near le add sub mul
  two-by-distance true e = rw e
  two-by-distance false e = rw e
