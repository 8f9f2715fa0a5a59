-- Wrong roads that lead to a wrong value (RULES 15.3), for the finder; those of the tools beside it are in
-- ToolRoads.antt.
use Rattle.std.specs.Prelude.{ℕ, ◌+◌, ◌-◌, ◌*◌, ◌/◌, min, Bool, true, false, cond, not, ◌&&◌, List, [], ◌∷◌, ◌++◌, map}
use Rattle.std.specs.Prelude.{eqb, ltb, length, get_or, set, replicate, Ok, ℤ, pos, negsuc, nat_abs, Float}
use Rattle.std.specs.Float.{nan, fin, binary32}
use Rattle.std.specs.Float.Ieee.{add, sub, mul, div, lt, le, to_bits, to_unsigned}
use Rattle.lists.specs.Places.{Place, block, any, keep, count, sum_of}
use Rattle.lists.specs.Tab.{grid}
use Rattle.float32.specs.Float32.{zero, lift, round_half_away, nearest_whole, float_of}
use Rattle.float32.specs.Value.{dist, total}
use Rattle.ring.specs.Ring.{ring5, ring_of}
use Rattle.response.specs.Response.{sr_of, dr_of, ring_sum_of, response_of, is_within}
use Rattle.response.specs.OnePass.{passed_after}
use Rattle.response.specs.Exact.{fifths_at}
use Rattle.pyramid.specs.Pyramid.{box_of}
use Rattle.corner_list.specs.declared.Corner.{Corner}
use Rattle.corner_list.specs.CornerList.{Slices, slices, places_of, front_corners}
use Rattle.detect.specs.declared.Search.{Search}
use Rattle.detect.specs.Peaks.{
  CellTests,
  same,
  square,
  window,
  beaten,
  equals,
  positives,
  is_peak,
  peak_places,
  value_at,
  larger_in,
  equal_in,
  positive_in,
  computed,
}
use Rattle.detect.specs.Exact.{exact}
use Rattle.detect.specs.Detect.{search_of, peaks_in, ties_at, ties_in}
use Rattle.detect.specs.Enough.{rows_to, rows_for, enough_of, values_of as answers}
use Rattle.center_of_mass.specs.CenterOfMass.{refined, values_of}
use Rattle.multiscale.specs.declared.RoiContext.{RoiContext}
use Rattle.multiscale.specs.Multiscale.{roi_radius}
use Rattle.merge_grid.specs.Grid.{cell_of}
use Rattle.merge_settle.specs.Settle.{stronger, merged}
use Rattle.merge.specs.Merge.{result_of}
use Rattle.merge_naive.specs.MergeNaive.{naive_of}
use Rattle.merge_naive.specs.Case.{one, three}
use Rattle.listing.specs.Text.{units_by, units_of}
use Rattle.tolerance.specs.Tolerance.{summed_cells, exact_mass}
use Rattle.demands.specs.Cases.{whole_case}
use Rattle.demands.specs.Roads.{Road, road, Wrong, told, place, corner, holding}
use Rattle.demands.specs.ToolRoads.{tool_roads}

-- ---- floats: 1/2, and a float from 0 to 2^22 rounded half to even, by adding 2^23
abbrev half : Float
half = fin false 1 (negsuc 0)

abbrev large : Float
large = fin false 1 (pos 23)

abbrev to_even : Float → Float
to_even x = sub binary32 (add binary32 x large) large

-- ---- the rules before the requests

-- "above the threshold" (RULES 4.3): a NaN is not
abbrev above_only : List Float → ℕ → Float → CellTests
above_only m w t = record { above = λ p. lt t (value_at m w p); larger = larger_in m w; positive = positive_in m w }

-- how many peaks a map of 11 by 11, all one value, has by some reading: the centre, or none
abbrev peaks_of : CellTests → ℕ
peaks_of v = length (peak_places v 11 11 5 0 0)

abbrev all : Float → List Float
all v = replicate 121 v

-- the column of the centre of mass, with radius 0, around a seed in two cells of 1 in a row
abbrev centred : Float → ℕ
centred x = nearest_whole (get_or (values_of (refined 0 x zero true (one ∷ one ∷ []) 2 1)) 0 nan)

-- a search radius of 20 pixels of level 1
abbrev context : RoiContext
context =
    record { width = 200; height = 200; ring = 5; window = 2; centroid_radius = 2; search_radius = 20; level = 1 }

-- the kept corners with c, which replaces the last one that it joins
abbrev settle_last : (Corner → Corner → Bool) → List Corner → Corner → List Corner
settle_last j [] c = c ∷ []
settle_last j (o ∷ kept) c = cond (j c o && not (any (j c) kept)) (stronger c o ∷ kept) (o ∷ settle_last j kept c)

-- corners in columns 0 and 2, and a stronger one between them, which joins both
abbrev joins_all : Corner → Corner → Bool
joins_all c o = true

abbrev pair : List Corner
pair = corner 0 0 1 0 ∷ corner 2 0 1 0 ∷ []

abbrev middle : Corner
middle = corner 1 0 2 0

abbrev first_column : List Corner → ℕ
first_column [] = 0
first_column (c ∷ cs) = nearest_whole c.x

-- two corners that join, with radius 3
abbrev joining : List Corner
joining = corner 1 1 3 0 ∷ corner 2 1 4 0 ∷ []

-- two cells in a row, both of 24 fifths, the first float the larger (RULES 14)
abbrev level : List Float
level = response_of 8 0 1600 501 ∷ response_of 8 0 32 11 ∷ []

-- how many peaks a map of 3 by 3 has, of which the cells inside a margin are read and the others taken for 0: the first
-- cell is 2, and the centre, the one place inside the border of ring 0, window 1 and centroid radius 0, is 1
abbrev first_larger : List Float
first_larger = float_of 2 ∷ zero ∷ zero ∷ zero ∷ one ∷ zero ∷ zero ∷ zero ∷ zero ∷ []

abbrev peaks_inside : ℕ → ℕ
peaks_inside margin =
    length
    (peaks_in (grid 3 3 (λ x y. cond (is_within margin 3 3 x y) (value_at first_larger 3 (place x y)) zero))
    (search_of 3 3 0 zero 1 0 0))

abbrev base : List Road
base =
    -- "merging by distance alone" (RULES 8.3), one of the four wrong roads
    road (length (result_of one three)) 3 (length (naive_of one three)) 2
    -- "'above the threshold' for 'not at or below it'" (RULES 4.3), another: a NaN
    ∷ road (peaks_of (computed (all nan) 11 zero)) 1 (peaks_of (above_only (all nan) 11 zero)) 0
    -- "rounding seeds half to even" (RULES 5.1), the third: 1/2. The fourth is a wrong statement
    ∷ road (centred half) 1 (centred (to_even half)) 0
    -- "chosen by exact values": by floats, of which one is larger (RULES 10.1)
    ∷ road (length (peak_places (exact (λ p. pos 24) zero) 2 1 0 1 0)) 2
    (length (peak_places (computed level 2 zero) 2 1 0 1 0)) 1
    -- "Threshold: NaN and negatives become 0": a cell of 0, and -1 unchanged (RULES 4.1)
    ∷ road (peaks_of (computed (all zero) 11 (lift (fin true 1 (pos 0))))) 0
    (peaks_of (computed (all zero) 11 (fin true 1 (pos 0)))) 1
    -- "A centre is beaten only by a strictly larger cell": by an equal one (RULES 4.3)
    ∷ road (told (beaten (larger_in (one ∷ one ∷ []) 2) 2 1 1 (place 0 0))) 0
    (told (beaten (λ q p. le (value_at (one ∷ one ∷ []) 2 p) (value_at (one ∷ one ∷ []) 2 q)) 2 1 1 (place 0 0))) 1
    -- "has enough neighbours": more than the least number (RULES 4.3)
    ∷ road (told (is_peak (computed (large ∷ one ∷ []) 2 zero) 2 1 1 1 (place 0 0))) 1
    (told (ltb 1 (positives (positive_in (large ∷ one ∷ []) 2) 2 1 1 (place 0 0)))) 0
    -- "every other number selects radius 5": the second ring (RULES 3.1)
    ∷ road (ring_of 7).radius 5 (cond (eqb 7 5) 5 10) 10
    -- "(sum of four + 2) div 4": cut off (RULES 6.1)
    ∷ road (box_of 0 0 1 1) 1 ((0 + 0 + 1 + 1) / 4) 0
    -- the search radius, which is in pixels of the seed's level, taken as pixels of the base (RULES 7.2)
    ∷ road (roi_radius context) 40 context.search_radius 20
    -- "(coordinate − least ..) × (1/radius), in f32": divided by the radius, here 41 (RULES 8.2)
    ∷ road (cell_of zero (div binary32 one (float_of 41)) (float_of 41)) 0
    (to_unsigned 64 (div binary32 (sub binary32 (float_of 41) zero) (float_of 41))) 1
    -- "for the lowest place": the last one is replaced (RULES 8.4)
    ∷ road (first_column (merged joins_all pair (middle ∷ []))) 1 (first_column (settle_last joins_all pair middle)) 0
    -- "if strictly stronger": if equally strong (RULES 8.4); the neighbours tell which is left
    ∷ road (stronger (corner 2 1 3 2) (corner 1 1 3 7)).neighbours 7
    (cond (le (corner 1 1 3 7).strength (corner 2 1 3 2).strength) (corner 2 1 3 2) (corner 1 1 3 7)).neighbours 2
    -- "then merge": the list before it (RULES 9.4)
    ∷ road (length (result_of (float_of 3) joining)) 1 (length joining) 2
    -- "than ring + the lesser of window and centroid radius": one cell further in (RULES 9.8)
    ∷ road (peaks_inside (0 + min 1 0)) 0 (peaks_inside (0 + min 1 0 + 1)) 1
    ∷ []

-- ---- request 2, "nearest, half away from zero" (RULES 21.1): 3/4 and 1/2 of a 256th, and the largest float below 1/2
abbrev three_quarters : Float
three_quarters = fin false 3 (negsuc 9)

abbrev tie : Float
tie = fin false 1 (negsuc 8)

abbrev below_tie : Float
below_tie = fin false 16777215 (negsuc 32)

abbrev units_in : Float → Float
units_in x = mul binary32 x (fin false 1 (pos 8))

abbrev columns : List Road
columns =
    -- cut off
    road (units_of three_quarters) 1 (to_unsigned 64 (units_in three_quarters)) 0
    -- half to even
    ∷ road (units_of tie) 1 (units_by (units_in tie) (round_half_away (to_even (units_in tie)))) 0
    -- a half added, then cut off: the sum is rounded
    ∷ road (units_of below_tie) 0 (to_unsigned 64 (add binary32 (units_in below_tie) half)) 1
    ∷ []

-- ---- request 3, ring sums in one pass (RULES 22.2): sixteen samples that are 0 except at one place, or at places 0
-- and 8
abbrev single : ℕ → List ℕ
single k = set (replicate 16 0) k 1

abbrev ring_sums : List Road
ring_sums =
    -- "at the end all three are the paper's": SR before the last pair
    road (sr_of (single 7)) 1 (passed_after (single 7) 7).sr 0
    -- "the eight opposite pairs": twice the samples of one side
    ∷ road (ring_sum_of (single 8)) 1 (total (λ k. get_or (single 8) k 0 + get_or (single 8) k 0) 8) 0
    -- pairs a quarter turn apart
    ∷ road (dr_of (set (single 0) 8 1)) 0
    (total (λ k. dist (get_or (set (single 0) 8 1) k 0) (get_or (set (single 0) 8 1) (k + 4) 0)) 8) 2
    ∷ []

-- ---- request 4, ties (RULES 23.1): a map of one cell; of a NaN and a 0; of two NaN; and of two rows, 0 and 1 above 1
-- and 0
abbrev cell : List Float
cell = zero ∷ []

abbrev nan_first : List Float
nan_first = nan ∷ zero ∷ []

abbrev nans : List Float
nans = nan ∷ nan ∷ []

abbrev diagonal : List Float
diagonal = zero ∷ one ∷ one ∷ zero ∷ []

-- three equal cells in a row, searched to the edge
abbrev equal_row : List Float
equal_row = replicate 3 one

abbrev search_row : Search
search_row = record { w = 3; h = 1; border = 0; window = 1; threshold = zero; least_neighbours = 0; exact = false }

abbrev ties : List Road
ties =
    -- "the number of equal cells in the clipped window": the centre too
    road (equals (equal_in cell 1) 1 1 0 (place 0 0)) 0
    (count (λ q. equal_in cell 1 q (place 0 0)) (square 1 1 0 (place 0 0))) 1
    -- in a window that is not clipped, and runs on into the next row
    ∷ road (equals (equal_in diagonal 2) 2 2 1 (place 1 0)) 1
    (count (λ q. equal_in diagonal 2 q (place 1 0)) (keep (λ q. not (same q (place 1 0))) (block 0 3 0 2))) 2
    -- "A NaN centre is top": beaten by whatever is not at most as large
    ∷ road (told (beaten (larger_in nan_first 2) 2 1 1 (place 0 0))) 0
    (told (beaten (λ q p. not (le (value_at nan_first 2 q) (value_at nan_first 2 p))) 2 1 1 (place 0 0))) 1
    -- "with 0 ties": equal if their bits are
    ∷ road (equals (equal_in nans 2) 2 1 1 (place 0 0)) 0
    (equals (λ q p. eqb (to_bits binary32 (value_at nans 2 q)) (to_bits binary32 (value_at nans 2 p))) 2 1 1
    (place 0 0)) 1
    -- "its sum over the peaks it adds": how many of them have a tie (RULES 23.2)
    ∷ road (ties_in equal_row search_row) 4
    (count (λ p. ltb 0 (ties_at equal_row search_row p)) (peaks_in equal_row search_row)) 3
    -- "defined from the computed maps": by exact values
    ∷ road (equals (equal_in level 2) 2 1 1 (place 0 0)) 0 (equals (λ q p. true) 2 1 1 (place 0 0)) 1
    ∷ []

-- ---- request 5, neighbours (RULES 24)

-- a corner that replaces another keeps the other's neighbours
abbrev keeping : Corner → Corner → Corner
keeping c o =
    cond (lt o.strength c.strength)
    (record { x = c.x; y = c.y; strength = c.strength; neighbours = o.neighbours }) o

abbrev one_and_zero : List Float
one_and_zero = one ∷ zero ∷ []

-- slices of 2, 2, 2 and 1 places
abbrev uneven : Slices
uneven = slices (replicate 2 zero) (replicate 2 zero) (replicate 2 zero) (replicate 1 0)

abbrev neighbours : List Road
neighbours =
    -- "a merge that replaces a corner takes the newcomer's count" (RULES 24.2)
    road (stronger (corner 2 1 4 2) (corner 1 1 3 7)).neighbours 2
    (keeping (corner 2 1 4 2) (corner 1 1 3 7)).neighbours 7
    -- "the positive-neighbour count": a 0 too (RULES 24.1)
    ∷ road (positives (positive_in one_and_zero 2) 2 1 1 (place 0 0)) 0
    (count (λ q. le zero (value_at one_and_zero 2 q)) (window 2 1 1 (place 0 0))) 1
    -- the peak itself too
    ∷ road (positives (positive_in one_and_zero 2) 2 1 1 (place 0 0)) 0
    (count (positive_in one_and_zero 2) (square 2 1 1 (place 0 0))) 1
    -- "the shortest of the four counting": of the three of floats (RULES 24.3)
    ∷ road (places_of uneven) 1 (min (length uneven.xs) (min (length uneven.ys) (length uneven.strengths))) 2
    ∷ []

-- ---- request 6, merging apart (RULES 25.3): those two corners, into two places that are all 7
abbrev sevens : Slices
sevens = holding (corner 7 7 7 7 ∷ corner 7 7 7 7 ∷ [])

abbrev second_x : Slices → ℕ
second_x b = nearest_whole (get_or b.xs 1 nan)

abbrev apart : List Road
apart =
    -- "Give the list a merge would leave": a copy that is merged in place, with what that leaves after its list
    road (second_x (front_corners (result_of (float_of 3) joining) sevens)) 7
    (second_x (front_corners (result_of (float_of 3) joining) (front_corners joining sevens))) 2
    ∷ []

-- ---- request 7, enough corners (RULES 26): a map of 11 by 13 with border 5, and peaks in rows 5 to 7
abbrev tall : Search
tall = search_of 11 13 5 zero 0 0 0

abbrev narrow : Search
narrow = search_of 10 13 5 zero 0 0 0

abbrev peaks : List Place
peaks = place 5 5 ∷ place 5 6 ∷ place 5 7 ∷ []

abbrev enough : List Road
enough =
    -- "at least N": more than N (RULES 26.1)
    road (get_or (answers (Ok (enough_of tall 3 peaks))) 0 0) 1 (told (ltb 3 (length peaks))) 0
    -- "counted from the first row inside the border": from the map's first (RULES 26.2)
    ∷ road (rows_for tall 1 peaks) 1 ((place 5 5).y + 1) 6
    -- "all rows inside it when there are fewer": all of the map
    ∷ road (rows_for tall 4 peaks) 3 tall.h 13
    -- "0 where N is 0": up to the first peak
    ∷ road (rows_for tall 0 peaks) 0 (rows_to tall peaks) 1
    -- "0 where .. a side is at most twice the border": the rows inside it, for a map of 10 by 13
    ∷ road (rows_for narrow 1 []) 0 (narrow.h - 2 * narrow.border) 3
    ∷ []

-- ---- request 12, merge without cells (RULES 31.4): (82/64, 0), (123/64, 0) and (0, 0)
abbrev sixty_fourths : ℕ → Float
sixty_fourths n = mul binary32 (float_of n) (fin false 1 (negsuc 5))

abbrev in_line : List Corner
in_line = map (λ (n : ℕ). record { x = sixty_fourths n; y = zero; strength = one; neighbours = 0 }) (82 ∷ 123 ∷ 0 ∷ [])

abbrev without_cells : List Road
without_cells =
    -- "the radius is a power of two": 41/64. That finer coordinates are too fine is the first road of the table
    road (length (result_of (sixty_fourths 41) in_line)) 3 (length (naive_of (sixty_fourths 41) in_line)) 2
    ∷ []

-- ---- request 14, how far the centre may be off (RULES 33.1): the whole case's centre, with radius 0, and a cell of
-- -16 fifths
abbrev whole_fifths : Place → ℤ
whole_fifths p = fifths_at whole_case 11 11 ring5 p.x p.y

abbrev sixteen_below : Place → ℤ
sixteen_below p = negsuc 15

abbrev centres : List Road
centres =
    -- "centre included": left out
    road (exact_mass whole_fifths (summed_cells 0 (float_of 5) (float_of 5))) 10160
    (exact_mass whole_fifths (keep (λ q. not (same q (place 5 5))) (summed_cells 0 (float_of 5) (float_of 5)))) 0
    -- "the exact fifths above 0": those below 0 by their absolute value
    ∷ road (exact_mass sixteen_below (place 0 0 ∷ [])) 0 (sum_of (λ p. nat_abs (sixteen_below p)) (place 0 0 ∷ [])) 16
    ∷ []

-- ---- the table, with those of the tools beside the finder
unfoldable pub wrong_values : List Road
wrong_values =
    base ++ columns ++ ring_sums ++ ties ++ neighbours ++ apart ++ enough ++ without_cells ++ centres ++ tool_roads

abbrev pub WrongValues : Type 0
WrongValues = Wrong wrong_values
