-- Cells at or below the threshold, at the front of a list and along a row of a map: a search may pass over them. Assumes nothing.
use Rattle.std.proofs.Common.{◌≡◌, ℕ, ◌+◌, ◌-◌, ◌*◌, ◌<◌, ◌≤◌, true, false, not, List, length, get_or, take, drop, sym, refl, ap, ◌∙◌}
use Rattle.std.proofs.Common.{arith, length-drop, length-take, get_or-drop, get_or-take}
use native.Mathlib.Decide.{dec_lt}
use lib.Ieee.{Float, nan, le}
use borrow.Author.Count as passed
use Rattle.lists.specs.Places.{count, keep}
use Rattle.lists.proofs.Scan.{count-every}
use Rattle.lists.proofs.Rows.{row_part}
use Rattle.lists.proofs.Places.{keep-le}
use Rattle.detect.specs.declared.Search.{Search}
use Rattle.detect.specs.Peaks.{value_at, is_low}
use Rattle.detect.specs.Detect.{read_in, peak_in}
use Rattle.detect.specs.Internal.{place, ahead_in, peaks_from, Below, LowRow, LowRows, PlacesSkipped}
use Rattle.detect.proofs.Ahead.{keep-skip, keep-miss, ahead-row}
use Rattle.detect.proofs.Choice.{peak-below}

-- the element at k of a part
part_at : (m : List Float) (a e k : ℕ) → k < e - a → get_or (take (e - a) (drop a m)) k nan ≡ get_or m (a + k) nan
part_at m a e k h = get_or-take (e - a) (drop a m) k nan h ∙ get_or-drop a m k nan

-- ---- the front of a list
module _ (cells : List Float) (t : Float) where
  pub below_none : Below cells t 0
  below_none = record { within = omega arith; below = passed.below_none (λ k. le (get_or cells k nan) t ≡ true) }

  pub below_more : (i : ℕ) → Below cells t i → i < length cells → le (get_or cells i nan) t ≡ true → Below cells t (i + 1)
  below_more i b h e = record { within = omega arith; below = passed.below_more (λ k. le (get_or cells k nan) t ≡ true) i b.below e }

  -- a part more
  pub below-part : (i e n : ℕ) → Below cells t i → e ≤ length cells
      → n ≡ count (is_low t) (take (e - i) (drop i cells)) → n ≡ e - i → Below cells t e
  below-part i e n b h p q = record { within = h; below = at }
    where
      long : length (take (e - i) (drop i cells)) ≡ e - i
      long = simp (length-take, length-drop) (omega arith)

      at : (k : ℕ) → k < e → le (get_or cells k nan) t ≡ true
      at k l =
          elim (dec_lt k i) [
            | yes o ↦ b.below k o
            | no o ↦
                let z : i + (k - i) ≡ k = omega arith in
                ap (λ (j : ℕ). le (get_or cells j nan) t) (sym z)
                ∙ ap (λ (x : Float). le x t) (sym (part_at cells i e (k - i) (omega arith)))
                ∙ count-every (is_low t) (take (e - i) (drop i cells)) (k - i) nan (sym p ∙ q ∙ sym long) (rw long (omega arith))
          ]

-- ---- along a row
module _ (m : List Float) (s : Search) (x y : ℕ) where
  pub skipped-none : PlacesSkipped m s (place x y) (place x y)
  skipped-none = record { onward = omega arith; same_ahead = refl }

  -- the first n of a row's cells up to x1
  pub below-few : (x1 n : ℕ) (t : Float) → Below (row_part m s.w y x x1) t n → n ≤ x1 - x
  below-few x1 n t b = omega (arith, simp (length-take, length-drop) at b.within)

  -- n cells of which none is a peak
  pub skipped-each : (n : ℕ) → x + n ≤ s.w - s.border → y < s.h - s.border
      → ((k : ℕ) → k < n → peak_in m s (place (x + k) y) ≡ false) → PlacesSkipped m s (place x y) (place (x + n) y)
  skipped-each n l j none = record { onward = omega arith; same_ahead = keep-skip s x y n l j (peak_in m s) none }

  pub skipped-below : (x1 n : ℕ) → x1 ≡ s.w - s.border → x < x1 → y < s.h - s.border
      → Below (row_part m s.w y x x1) s.threshold n
      → PlacesSkipped m s (place x y) (place (x + n) y)
  skipped-below x1 n e l j b =
      let most = below-few x1 n s.threshold b in
      skipped-each n (omega arith) j
      (λ k i. sym (peak-below (read_in m s) s.w s.h s.window s.least_neighbours (place (x + k) y) (ap not (at k i))))
    where
      at : (k : ℕ) → k < n → le (value_at m s.w (place (x + k) y)) s.threshold ≡ true
      at k i =
          let z : y * s.w + x + k ≡ y * s.w + (x + k) = omega arith in
          let in-part : k < y * s.w + x1 - (y * s.w + x) = omega (arith, simp (length-take, length-drop) at b.within) in
          ap (λ (j : ℕ). le (get_or m j nan) s.threshold) (sym z)
          ∙ ap (λ (v : Float). le v s.threshold) (sym (part_at m (y * s.w + x) (y * s.w + x1) k in-part))
          ∙ b.below k i

  -- and then further, over a cell that is no peak or over others
  module _ (x' : ℕ) (a : PlacesSkipped m s (place x y) (place x' y)) where
    pub skipped-on : (z : ℕ) → PlacesSkipped m s (place x' y) (place z y) → PlacesSkipped m s (place x y) (place z y)
    skipped-on z b = record { onward = omega (arith, a.onward, b.onward); same_ahead = a.same_ahead ∙ b.same_ahead }

    pub skipped-cell : x' < s.w - s.border → y < s.h - s.border → peak_in m s (place x' y) ≡ false
        → PlacesSkipped m s (place x y) (place (x' + 1) y)
    skipped-cell l j e = record { onward = omega (arith, a.onward); same_ahead = a.same_ahead ∙ keep-miss s x' y l j (peak_in m s) e }

  -- in a row that is known to be low
  pub skipped-low : (x1 : ℕ) → x1 ≡ s.w - s.border → x < x1 → y < s.h - s.border → s.border ≤ x → LowRow m s y
      → PlacesSkipped m s (place x y) (place x1 y)
  skipped-low x1 e l j o k = record {
    onward = omega arith;
    same_ahead = k.same_ahead x o j ∙ sym (ap (keep (peak_in m s)) (ahead-row s x1 y (omega arith) j));
  }

-- a row of which as many cells inside the border are low as there are
module _ (m : List Float) (s : Search) (y n : ℕ) (wide : s.border ≤ s.w - s.border) (in_map : y * s.w + (s.w - s.border) ≤ length m)
    (counted : n ≡ count (is_low s.threshold) (row_part m s.w y s.border (s.w - s.border)))
    (all : s.w - s.border - s.border ≤ n) where
  abbrev right : ℕ
  right = s.w - s.border

  abbrev cells : List Float
  cells = row_part m s.w y s.border right

  long : length cells ≡ right - s.border
  long = simp (length-take, length-drop) (omega arith)

  every : count (is_low s.threshold) cells ≡ length cells
  unfolding count
  every = omega (arith, counted, long, keep-le (is_low s.threshold) cells)

  cell-low : (x : ℕ) → s.border ≤ x → x < right → le (value_at m s.w (place x y)) s.threshold ≡ true
  cell-low x a b =
      let z : y * s.w + s.border + (x - s.border) ≡ y * s.w + x = omega arith in
      ap (λ (j : ℕ). le (get_or m j nan) s.threshold) (sym z)
      ∙ ap (λ (v : Float). le v s.threshold) (sym (part_at m (y * s.w + s.border) (y * s.w + right) (x - s.border) (omega arith)))
      ∙ count-every (is_low s.threshold) cells (x - s.border) nan every (rw long (omega arith))

  peak-low-at : (x : ℕ) → s.border ≤ x → x < right → false ≡ peak_in m s (place x y)
  peak-low-at x a b = peak-below (read_in m s) s.w s.h s.window s.least_neighbours (place x y) (ap not (cell-low x a b))

  pub low-row : LowRow m s y
  low-row = record { same_ahead = at }
    where
      at : (x : ℕ) → s.border ≤ x → y < s.h - s.border → peaks_from m s (place x y) ≡ peaks_from m s (place s.border (y + 1))
      at x o j =
          elim (dec_lt x right) [
            | yes l ↦
                let end : x + (right - x) ≡ right = omega arith in
                keep-skip s x y (right - x) (omega arith) j (peak_in m s)
                (λ k i. sym (peak-low-at (x + k) (omega arith) (omega arith)))
                ∙ ap (λ (k : ℕ). keep (peak_in m s) (ahead_in s (place k y))) end
                ∙ ap (keep (peak_in m s)) (ahead-row s right y (omega arith) j)
            | no l ↦ ap (keep (peak_in m s)) (ahead-row s x y (omega arith) j)
          ]

-- ---- rows that are known to be low
module _ (m : List Float) (s : Search) (low y : ℕ) where
  pub low-none : y < low → LowRows m s low y
  low-none o k a b = absurd (let no : ⊥ = omega arith in no)

  pub low-fewer : (z : ℕ) → LowRows m s low y → z ≤ y → LowRows m s low z
  low-fewer z g o k a b = g k a (omega arith)

  pub low-more : (z : ℕ) → z ≡ y + 1 → LowRows m s low y → LowRow m s z → LowRows m s low z
  low-more z n g l k a b =
      elim (dec_lt y k) [
        | yes o ↦ let e : k ≡ z = omega arith in rw e l
        | no o ↦ g k a (omega arith)
      ]
