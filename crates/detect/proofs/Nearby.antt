-- Which cells of a map a search reads: for one cell its window, and for a whole map the cells no nearer to an edge than
-- the border minus the window's radius. Assumes nothing.
use Rattle.std.proofs.Common.{◌≡◌, ℕ, ◌+◌, ◌-◌, ◌<◌, ◌≤◌, Bool, true, false, cond, not, ◌&&◌, ◌||◌, leb, List, [], ◌∷◌, map, length, refl}
use Rattle.std.proofs.Common.{ap, ◌∙◌, ap₂, arith, None, Some}
use lib.Ieee.{Float, lt, eq}
use Rattle.lists.specs.Places.{Place, block, any, count, sum_of, All}
use Rattle.lists.proofs.Members.{all_map, all-block, keep-alike}
use Rattle.float32.specs.Float32 as float32
use Rattle.detect.specs.declared.Search.{Search}
use Rattle.detect.specs.Peaks.{window, beaten, equals, window_test, ties_of, positives, is_peak, peak_places}
use Rattle.detect.specs.Peaks.{value_at, equal_in, beats, larger_by, positive_in, is_low}
use Rattle.detect.specs.Internal.{Inside, place}
use Rattle.detect.specs.Detect.{read_in, peak_in, peaks_in, neighbours_at, start_at, starts_in, ties_at, ties_in}
use Rattle.detect.proofs.Window.{Near, window-near}
use Rattle.detect.proofs.Choice.{peaks-are}

-- ---- lists

-- tests, and other functions, that agree at each member
pub any-alike : {A : Type 0} (f g : A → Bool) (l : List A) → All (λ a. f a ≡ g a) l → any f l ≡ any g l
any-alike f g [] h = refl
any-alike f g (a ∷ l) h = ap₂ (λ (b c : Bool). b || c) h.0 (any-alike f g l h.1)

pub map-alike : {A B : Type 0} (f g : A → B) (l : List A) → All (λ a. f a ≡ g a) l → map f l ≡ map g l
map-alike f g [] h = refl
map-alike {B = B} f g (a ∷ l) h = ap₂ (λ (b : B) (k : List B). b ∷ k) h.0 (map-alike f g l h.1)

pub sum_alike : {A : Type 0} (X Y : A → ℕ) (l : List A) → All (λ a. X a ≡ Y a) l → sum_of X l ≡ sum_of Y l
sum_alike X Y [] h = refl
sum_alike X Y (a ∷ l) h = ap₂ (λ (i j : ℕ). i + j) h.0 (sum_alike X Y l h.1)

-- ---- a cell of two maps that are alike near it
module _ (m m' : List Float) (s : Search) (p : Place)
    (same : (q : Place) → q.x < s.w → Near s.window p q → value_at m s.w q ≡ value_at m' s.w q) (px : p.x < s.w) where
  here : value_at m s.w p ≡ value_at m' s.w p
  here = same p px (record { left = omega arith; right = omega arith; above = omega arith; below = omega arith })

  beaten-alike : (b : Bool)
      → beaten (larger_by b m s.w) s.w s.h s.window p ≡ beaten (larger_by b m' s.w) s.w s.h s.window p
  unfolding beaten
  beaten-alike b =
      any-alike (λ q. larger_by b m s.w q p) (λ q. larger_by b m' s.w q p) (window s.w s.h s.window p)
      (window-near (λ q. larger_by b m s.w q p ≡ larger_by b m' s.w q p) s.w s.h s.window p
      (λ q i j n. ap₂ (beats b) here (same q i n)))

  equals-alike : equals (equal_in m s.w) s.w s.h s.window p ≡ equals (equal_in m' s.w) s.w s.h s.window p
  unfolding equals count
  equals-alike =
      ap length
      (keep-alike (λ q. equal_in m s.w q p) (λ q. equal_in m' s.w q p) (window s.w s.h s.window p)
      (window-near (λ q. equal_in m s.w q p ≡ equal_in m' s.w q p) s.w s.h s.window p
      (λ q i j n. ap₂ eq here (same q i n))))

  neighbours-alike : neighbours_at m s p ≡ neighbours_at m' s p
  unfolding positives count
  neighbours-alike =
      ap length
      (keep-alike (positive_in m s.w) (positive_in m' s.w) (window s.w s.h s.window p)
      (window-near (λ q. positive_in m s.w q ≡ positive_in m' s.w q) s.w s.h s.window p
      (λ q i j n. ap (lt float32.zero) (same q i n))))

  pub peak-alike : peak_in m s p ≡ peak_in m' s p
  unfolding is_peak
  peak-alike =
      ap₂ (λ (b c : Bool). b && c) (ap (λ (v : Float). not (is_low s.threshold v)) here)
      (ap₂ (λ (b : Bool) (n : ℕ). not b && leb s.least_neighbours n) (beaten-alike s.exact) neighbours-alike)

  ties-alike : ties_at m s p ≡ ties_at m' s p
  unfolding window_test
  ties-alike = ap₂ (λ (b : Bool) (n : ℕ). ties_of (cond b None (Some n))) (beaten-alike false) equals-alike

  start-alike : start_at m s p ≡ start_at m' s p
  start-alike =
      ap₂ (λ (v : Float) (n : ℕ). record { x = float32.float_of p.x; y = float32.float_of p.y; strength = v; neighbours = n }) here
      neighbours-alike

-- ---- two maps that are alike in the cells no nearer to an edge than a margin, from which no window of a peak reaches further out
module _ (m m' : List Float) (s : Search) (margin : ℕ) (reach : margin + s.window ≤ s.border)
    (same : (q : Place) → Inside s.w s.h margin q → value_at m s.w q ≡ value_at m' s.w q) where
  module _ (p : Place) (i : Inside s.w s.h s.border p) where
    about : (q : Place) → q.x < s.w → Near s.window p q → value_at m s.w q ≡ value_at m' s.w q
    about q l n =
        same q
        (record {
          left = omega (arith, i.left, n.left);
          right = omega (arith, i.right, n.right);
          top = omega (arith, i.top, n.above);
          bottom = omega (arith, i.bottom, n.below);
        })

    column : p.x < s.w
    column = omega (arith, i.right)

  -- what each place inside the border has, each peak has
  each-peak : (P : Place → Type 0) → ((p : Place) → Inside s.w s.h s.border p → P p) → All P (peaks_in m s)
  each-peak P f =
      all_map (λ p. Inside s.w s.h s.border p × (peak_in m s p ≡ true)) P (λ p k. f p k.0) (peaks_in m s)
      (peaks-are (read_in m s) s.w s.h s.border s.window s.least_neighbours)

  same-peaks : peaks_in m s ≡ peaks_in m' s
  unfolding peak_places
  same-peaks =
      keep-alike (peak_in m s) (peak_in m' s) (block s.border (s.w - s.border) s.border (s.h - s.border))
      (all-block (λ p. peak_in m s p ≡ peak_in m' s p) s.border (s.w - s.border) s.border (s.h - s.border)
      (λ x y a b c d.
      let i : Inside s.w s.h s.border (place x y) = record { left = a; right = omega arith; top = c; bottom = omega arith } in
      peak-alike m m' s (place x y) (about (place x y) i) (column (place x y) i)))

  -- the corners that their peaks start as, and their ties, are the same
  pub same-starts : starts_in m s ≡ starts_in m' s
  same-starts =
      map-alike (start_at m s) (start_at m' s) (peaks_in m s)
      (each-peak (λ p. start_at m s p ≡ start_at m' s p) (λ p i. start-alike m m' s p (about p i) (column p i)))
      ∙ ap (map (start_at m' s)) same-peaks

  pub same-ties : ties_in m s ≡ ties_in m' s
  same-ties =
      sum_alike (ties_at m s) (ties_at m' s) (peaks_in m s)
      (each-peak (λ p. ties_at m s p ≡ ties_at m' s p) (λ p i. ties-alike m m' s p (about p i) (column p i)))
      ∙ ap (sum_of (ties_at m' s)) same-peaks
