-- A part of a map, some of its rows as a map of its own: its peaks are those of the map, so many rows further down, with their ties and
-- what they start as. Assumes nothing.
use Prim.Native.Nat.{ℕ, zero, suc, ◌+◌, ◌-◌, ◌*◌, ◌<◌, ◌≤◌, min}
use native.Mathlib.Nat.{add-mul, mul-le-mul_right, suc-mul}
use native.Mathlib.Omega.{arith}
use native.Mathlib.Decide.{dec_lt}
use mathlib.Core.Path.{◌≡◌, refl, sym, ap, ap₂, ◌∙◌}
use mathlib.Core.Bool.{Bool, true, false, not, cond, ◌&&◌}
use mathlib.Core.List.{List, [], ◌∷◌, ◌++◌, map, map-append}
use lib.ListN.{length, take, drop, get_or}
use lib.Seq.{get_or-take, get_or-drop}
use lib.Dec.{eqb, leb}
use lib.Ieee.{Float, nan, lt, eq, binary32, add}
use borrow.Author.Tests.{eq-eqb, eqb-true}
use Rattle.std.specs.Prelude.{None, Some}
use Rattle.lists.specs.Places.{Place, counted, range, row, rows_from, block, any, keep, count, sum_of, All}
use Rattle.lists.proofs.Places.{block-end}
use Rattle.lists.proofs.Scan.{any-map, keep-map, count_map}
use Rattle.lists.proofs.Members.{all_of, all_map, all-block, keep-alike}
use Rattle.float32.specs.Float32.{float_of}
use Rattle.float32.specs.Float32 as float32
use Rattle.float32.proofs.Values.{of_int-value}
use Rattle.float32.proofs.Approx.{add-whole}
use Rattle.corner_list.specs.declared.Corner.{Corner}
use Rattle.detect.specs.declared.Search.{Search}
use Rattle.detect.specs.Peaks.{same, square, window, beaten, equals, window_test, ties_of, positives, is_peak, peak_places, value_at}
use Rattle.detect.specs.Peaks.{equal_in}
use Rattle.detect.specs.Peaks.{beats, larger_by, positive_in, is_low}
use Rattle.detect.specs.Internal.{Inside, place}
use Rattle.detect.specs.Detect.{read_in, peak_in, peaks_in, neighbours_at, start_at, ties_at}
use Rattle.detect.proofs.Window.{window-in}
use Rattle.detect.proofs.Choice.{peaks-are}
use Rattle.detect.proofs.Nearby.{any-alike}
use Rattle.frame_params.specs.declared.FrameParams.{FrameParams}
use Rattle.patch_corners.specs.MapCorners.{search_with}
use Rattle.patch_corners.specs.Internal.{lowered}

-- ---- places so many rows further down
module _ (t : ℕ) where
  abbrev pub down : Place → Place
  down q = place q.x (q.y + t)

  counted-down : (a n : ℕ) → counted (a + t) n ≡ map (λ (y : ℕ). y + t) (counted a n)
  unfolding counted
  counted-down a zero = refl
  counted-down a (suc n) =
      let e : suc (a + t) ≡ suc a + t = omega arith in
      ap (λ (l : List ℕ). (a + t) ∷ l) (ap (λ (k : ℕ). counted k n) e ∙ counted-down (suc a) n)

  row-down : (y a b : ℕ) → row (y + t) a b ≡ map down (row y a b)
  unfolding row
  row-down y a b = each (range a b)
    where
      each : (l : List ℕ) → map (λ (x : ℕ). place x (y + t)) l ≡ map down (map (λ (x : ℕ). place x y) l)
      each [] = refl
      each (x ∷ l) = ap (λ (k : List Place). place x (y + t) ∷ k) (each l)

  rows-down : (a b : ℕ) (ys : List ℕ) → rows_from a b (map (λ (y : ℕ). y + t) ys) ≡ map down (rows_from a b ys)
  unfolding rows_from
  rows-down a b [] = refl
  rows-down a b (y ∷ ys) =
      ap₂ (λ (k l : List Place). k ++ l) (row-down y a b) (rows-down a b ys) ∙ sym (map-append down (row y a b) (rows_from a b ys))

  pub block-down : (a b c e : ℕ) → block a b (c + t) (e + t) ≡ map down (block a b c e)
  unfolding block range
  block-down a b c e =
      let k : e + t - (c + t) ≡ e - c = omega arith in
      ap (λ (n : ℕ). rows_from a b (counted (c + t) n)) k ∙ ap (rows_from a b) (counted-down c (e - c)) ∙ rows-down a b (counted c (e - c))

  eqb-down : (a b : ℕ) → eqb (a + t) (b + t) ≡ eqb a b
  eqb-down a b = pick (eqb (a + t) (b + t)) (eqb a b) refl refl
    where
      pick : (u v : Bool) → eqb (a + t) (b + t) ≡ u → eqb a b ≡ v → u ≡ v
      pick true true e f = refl
      pick false false e f = refl
      pick true false e f = let k : a ≡ b = omega (arith, eqb-true (a + t) (b + t) e) in sym (eq-eqb a b k) ∙ f
      pick false true e f = let k : a + t ≡ b + t = omega (arith, eqb-true a b f) in sym e ∙ eq-eqb (a + t) (b + t) k

  -- a window that is not clipped above or below
  module _ (w h n r : ℕ) (within : n + t ≤ h) (q : Place) (top : r ≤ q.y) (bottom : q.y + r < n) where
    square-down : square w h r (down q) ≡ map down (square w n r q)
    unfolding square
    square-down =
        let a : q.y + t - r ≡ q.y - r + t = omega arith in
        let b : min (q.y + t + r + 1) h ≡ min (q.y + r + 1) n + t = omega arith in
        ap₂ (λ (c e : ℕ). block (q.x - r) (min (q.x + r + 1) w) c e) a b
        ∙ block-down (q.x - r) (min (q.x + r + 1) w) (q.y - r) (min (q.y + r + 1) n)

    pub window-down : window w h r (down q) ≡ map down (window w n r q)
    unfolding window
    window-down =
        ap (keep (λ u. not (same u (down q)))) square-down
        ∙ keep-map (λ u. not (same u (down q))) down (square w n r q)
        ∙ ap (map down)
        (keep-alike (λ u. not (same (down u) (down q))) (λ u. not (same u q)) (square w n r q)
        (all_of (λ u. not (same (down u) (down q)) ≡ not (same u q))
        (λ u. ap (λ (b : Bool). not (eqb u.x q.x && b)) (eqb-down u.y q.y)) (square w n r q)))

-- whole numbers up to 4,096 are added exactly
pub whole_row : (y t : ℕ) → y ≤ 4096 → t ≤ 4096 → add binary32 (float_of y) (float_of t) ≡ float_of (y + t)
whole_row y t k l =
    add-whole binary32 (float_of y) (float_of t) y t (of_int-value binary32 y (omega arith)) (of_int-value binary32 t (omega arith))

-- ---- the rows t up to e of a map
module _ (w t e : ℕ) (m : List Float) (order : t ≤ e) where
  abbrev pub part : List Float
  part = take (e * w - t * w) (drop (t * w) m)

  pub part-size : e * w - t * w ≡ (e - t) * w
  part-size = let k : e ≡ e - t + t = omega arith in omega (arith, ap (λ (n : ℕ). n * w) k, add-mul (e - t) t w)

  part-value : (x y : ℕ) → x < w → y < e - t → value_at part w (place x y) ≡ value_at m w (place x (y + t))
  part-value x y i j =
      let k : y * w + x < e * w - t * w = omega (arith, part-size, mul-le-mul_right w j, suc-mul y w) in
      let at : t * w + (y * w + x) ≡ (y + t) * w + x = omega (arith, add-mul y t w) in
      get_or-take (e * w - t * w) (drop (t * w) m) (y * w + x) nan k
      ∙ get_or-drop (t * w) m (y * w + x) nan
      ∙ ap (λ (i : ℕ). get_or m i nan) at

-- ---- its peaks
module _ (p : FrameParams) (exact : Bool) (w h t e : ℕ) (m : List Float) (order : t ≤ e) (within : e ≤ h) (low : h ≤ 4096) where
  abbrev Part : List Float
  Part = part w t e m order

  abbrev There : Search
  There = search_with p exact w h

  abbrev Here : Search
  Here = search_with p exact w (e - t)

  abbrev r : ℕ
  r = p.window

  module _ (q : Place) (i : Inside w (e - t) Here.border q) where
    value : value_at Part w q ≡ value_at m w (down t q)
    value = part-value w t e m order q.x q.y (omega (arith, i.right)) (omega (arith, i.bottom))

    around : window w h r (down t q) ≡ map (down t) (window w (e - t) r q)
    around = window-down t w h (e - t) r (omega arith) q (omega (arith, i.top)) (omega (arith, i.bottom))

    near : (P : Place → Type 0) → ((u : Place) → value_at Part w u ≡ value_at m w (down t u) → P u) → All P (window w (e - t) r q)
    near P f = window-in P w (e - t) r q (λ u x y. f u (part-value w t e m order u.x u.y x y))

    beaten-there : (b : Bool) → beaten (larger_by b m w) w h r (down t q) ≡ beaten (larger_by b Part w) w (e - t) r q
    unfolding beaten
    beaten-there b =
        ap (any (λ u. larger_by b m w u (down t q))) around
        ∙ any-map (λ u. larger_by b m w u (down t q)) (down t) (window w (e - t) r q)
        ∙ any-alike (λ u. larger_by b m w (down t u) (down t q)) (λ u. larger_by b Part w u q) (window w (e - t) r q)
        (near (λ u. larger_by b m w (down t u) (down t q) ≡ larger_by b Part w u q) (λ u k. ap₂ (beats b) (sym value) (sym k)))

    equals-there : equals (equal_in m w) w h r (down t q) ≡ equals (equal_in Part w) w (e - t) r q
    unfolding equals count
    equals-there =
        ap (count (λ u. equal_in m w u (down t q))) around
        ∙ count_map (λ u. equal_in m w u (down t q)) (down t) (window w (e - t) r q)
        ∙ ap length
        (keep-alike (λ u. equal_in m w (down t u) (down t q)) (λ u. equal_in Part w u q) (window w (e - t) r q)
        (near (λ u. equal_in m w (down t u) (down t q) ≡ equal_in Part w u q) (λ u k. ap₂ eq (sym value) (sym k))))

    neighbours-there : neighbours_at m There (down t q) ≡ neighbours_at Part Here q
    unfolding positives count
    neighbours-there =
        ap (count (positive_in m w)) around
        ∙ count_map (positive_in m w) (down t) (window w (e - t) r q)
        ∙ ap length
        (keep-alike (λ u. positive_in m w (down t u)) (positive_in Part w) (window w (e - t) r q)
        (near (λ u. positive_in m w (down t u) ≡ positive_in Part w u) (λ u k. ap (lt float32.zero) (sym k))))

    peak-there : peak_in m There (down t q) ≡ peak_in Part Here q
    unfolding is_peak
    peak-there =
        ap₂ (λ (b c : Bool). b && c) (ap (λ (v : Float). not (is_low There.threshold v)) (sym value))
        (ap₂ (λ (b : Bool) (n : ℕ). not b && leb p.least_neighbours n) (beaten-there exact) neighbours-there)

    ties-there : ties_at m There (down t q) ≡ ties_at Part Here q
    unfolding window_test
    ties-there = ap₂ (λ (b : Bool) (n : ℕ). ties_of (cond b None (Some n))) (beaten-there false) equals-there

    row-there : lowered t (start_at Part Here q) ≡ start_at m There (down t q)
    row-there = rw (whole_row q.y t (omega (arith, i.bottom)) (omega arith), value, ← neighbours-there)

  pub peaks-there : keep (peak_in m There) (block There.border (w - There.border) (There.border + t) (e - There.border))
      ≡ map (down t) (peaks_in Part Here)
  unfolding peak_places
  peaks-there =
      ap (keep (peak_in m There)) (rows_are ∙ block-down t There.border (w - There.border) There.border (e - t - There.border))
      ∙ keep-map (peak_in m There) (down t) places
      ∙ ap (map (down t))
      (keep-alike (λ q. peak_in m There (down t q)) (peak_in Part Here) places
      (all-block (λ q. peak_in m There (down t q) ≡ peak_in Part Here q) There.border (w - There.border) There.border
      (e - t - There.border)
      (λ x y a b c d.
      let i : Inside w (e - t) There.border (place x y) = record { left = a; right = omega arith; top = c; bottom = omega arith } in
      peak-there (place x y) i)))
    where
      places : List Place
      places = block There.border (w - There.border) There.border (e - t - There.border)

      rows_are : block There.border (w - There.border) (There.border + t) (e - There.border)
          ≡ block There.border (w - There.border) (There.border + t) (e - t - There.border + t)
      rows_are = rows-to There.border
        where
          rows-to : (b : ℕ) → block b (w - b) (b + t) (e - b) ≡ block b (w - b) (b + t) (e - t - b + t)
          rows-to b =
              elim (dec_lt (e - t) b) [
                | yes l ↦ block-end b (w - b) (b + t) (e - b) (omega arith)
                    ∙ sym (block-end b (w - b) (b + t) (e - t - b + t) (omega arith))
                | no g ↦ ap (block b (w - b) (b + t)) (omega arith)
              ]

  -- what each place inside the border has, each peak has
  pub each-peak : (P : Place → Type 0) → ((q : Place) → Inside w (e - t) Here.border q → P q) → All P (peaks_in Part Here)
  each-peak P f =
      all_map (λ q. Inside w (e - t) Here.border q × (peak_in Part Here q ≡ true)) P (λ q k. f q k.0) (peaks_in Part Here)
      (peaks-are (read_in Part Here) w (e - t) Here.border p.window p.least_neighbours)

  pub starts-there : (f : Corner → Corner)
      → map (λ c. f (lowered t c)) (map (start_at Part Here) (peaks_in Part Here))
      ≡ map f (map (start_at m There) (map (down t) (peaks_in Part Here)))
  starts-there f = go (peaks_in Part Here) (each-peak (λ q. lowered t (start_at Part Here q) ≡ start_at m There (down t q)) row-there)
    where
      go : (l : List Place) → All (λ q. lowered t (start_at Part Here q) ≡ start_at m There (down t q)) l
          → map (λ c. f (lowered t c)) (map (start_at Part Here) l) ≡ map f (map (start_at m There) (map (down t) l))
      go [] k = refl
      go (q ∷ l) k = ap₂ (λ (c : Corner) (s : List Corner). f c ∷ s) k.0 (go l k.1)

  pub sum-there : sum_of (ties_at Part Here) (peaks_in Part Here) ≡ sum_of (ties_at m There) (map (down t) (peaks_in Part Here))
  sum-there = go (peaks_in Part Here) (each-peak (λ q. ties_at m There (down t q) ≡ ties_at Part Here q) ties-there)
    where
      go : (l : List Place) → All (λ q. ties_at m There (down t q) ≡ ties_at Part Here q) l
          → sum_of (ties_at Part Here) l ≡ sum_of (ties_at m There) (map (down t) l)
      go [] k = refl
      go (q ∷ l) k = ap₂ (λ (a b : ℕ). a + b) (sym k.0) (go l k.1)
