-- The search by exact values finds the exact peaks of every map of accurate, modest cells, and so of every response map. Assumes nothing.
use Prim.Native.Nat.{ℕ, ◌<◌, ◌≤◌}
use native.Mathlib.Nat.{le_trans}
use native.Mathlib.Omega.{arith}
use mathlib.Core.Path.{◌≡◌, sym, ◌∙◌}
use mathlib.Core.Bool.{true}
use mathlib.Core.List.{List}
use lib.Dec.{T, lit≤}
use lib.IntN.{ℤ}
use lib.Ieee.{Float, nan}
use Rattle.lists.specs.Places.{Place}
use Rattle.float32.specs.Float32.{lift}
use Rattle.float32.specs.Value.{plus_part}
use Rattle.float32.proofs.Classes.{plus, lift-plus}
use Rattle.response.specs.Patch.{View, map_width, map_height, cells}
use Rattle.response.specs.Exact.{fifths_in}
use Rattle.accuracy.specs.Accurate.{Bytes}
use Rattle.accuracy.proofs.Cells.{map-accurate, fifths-small, fifths-deep}
use Rattle.detect.specs.Peaks.{CellTests, peak_places, value_at, reading}
use Rattle.detect.specs.Fifths.{between_fifths}
use Rattle.detect.specs.Detect.{search_by, search_of, peaks_in}
use Rattle.detect.specs.Exact.{exact, exact_peaks}
use Rattle.detect.proofs.Agreement.{Stands, peak-stands, peaks_alike}
use Rattle.agreement.proofs.Place.{CellsAccurate, positive-both}
use Rattle.agreement.proofs.Slack.{Modest, beats-exactly, either}
use Rattle.agreement.proofs.Between.{above-exactly}

-- ---- two readings that answer alike at every place of a map have the same peaks
record Same (u v : CellTests) (w h : ℕ) : Type 0 where
  pub above : (p : Place) → p.x < w → p.y < h → u.above p ≡ v.above p
  pub larger : (q p : Place) → q.x < w → q.y < h → p.x < w → p.y < h → u.larger q p ≡ v.larger q p
  pub positive : (q : Place) → q.x < w → q.y < h → u.positive q ≡ v.positive q

turned : (u v : CellTests) (w h : ℕ) → Same u v w h → Same v u w h
turned u v w h s = record {
  above = λ p px py. sym (s.above p px py);
  larger = λ q p qx qy px py. sym (s.larger q p qx qy px py);
  positive = λ q qx qy. sym (s.positive q qx qy);
}

stands : (u v : CellTests) (w h : ℕ) → Same u v w h → Stands u v w h
stands u v w h s = record {
  above = λ p px py e. sym (s.above p px py) ∙ e;
  larger = λ q p qx qy px py e. s.larger q p qx qy px py ∙ e;
  positive = λ q qx qy e. sym (s.positive q qx qy) ∙ e;
}

peaks-same : (u v : CellTests) (w h border r least : ℕ) → Same u v w h → peak_places u w h border r least ≡ peak_places v w h border r least
peaks-same u v w h border r least s =
    (peaks_alike u v w h border r least (stands u v w h s)).1
    (λ p i. peak-stands v u w h r least (stands v u w h (turned u v w h s)) p (omega (arith, i.right)) (omega (arith, i.bottom)))

-- ---- by exact values, on a map of accurate cells, for a lifted threshold t
exact_same : (m : List Float) (fifths : Place → ℤ) (t : Float) (w h : ℕ) → T (plus t) → CellsAccurate m fifths w h
    → ((p : Place) → Modest (fifths p) × (plus_part (fifths p) ≤ 10200)) → Same (reading true m w (between_fifths t)) (exact fifths t) w h
exact_same m fifths t w h plain cells small = record {
  above = λ p px py. above-exactly t (value_at m w p) (fifths p) plain (small p).1 (cells p px py);
  larger = λ q p qx qy px py. beats-exactly (value_at m w p) (value_at m w q) (fifths p) (fifths q) (small p).0 (cells p px py)
      (cells q qx qy);
  positive = λ q qx qy. either _ _ (positive-both m fifths w h cells q qx qy);
}

-- ---- a response map
module _ (v : View) (bytes : Bytes v.img) where
  cell-small : (i j : ℕ) → Modest (fifths_in v i j) × (plus_part (fifths_in v i j) ≤ 10200)
  cell-small i j =
      let l = fifths-small v.img v.w v.h v.ring _ _ bytes in
      (record { plus = le_trans l (lit≤ tt); minus = fifths-deep v.img v.w v.h v.ring _ _ bytes }, l)

  pub found-exactly : (ring : ℕ) (threshold : Float) (window least radius : ℕ)
      → peaks_in (cells v) (search_by true (map_width v) (map_height v) ring threshold window least radius)
      ≡ exact_peaks (λ q. fifths_in v q.x q.y) (search_of (map_width v) (map_height v) ring threshold window least radius)
  found-exactly ring threshold window least radius =
      peaks-same _ _ (map_width v) (map_height v) _ window least
      (exact_same (cells v) (λ q. fifths_in v q.x q.y) (lift threshold) (map_width v) (map_height v) (lift-plus threshold)
      (λ q x y. map-accurate v bytes q.x q.y nan x y) (λ q. cell-small q.x q.y))
