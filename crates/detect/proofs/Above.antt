-- The cells inside the border that are not at or below the threshold, counted row by row: there are at most as many
-- peaks. Assumes nothing.
use Rattle.std.proofs.Common.{◌≡◌, ℕ, ◌+◌, ◌-◌, ◌*◌, ◌<◌, ◌≤◌, Bool, not, List, length, ap, ◌∙◌, arith, length-drop, length-take}
use lib.Ieee.{Float, nan}
use Rattle.lists.specs.Limits.{largest_map}
use Rattle.lists.specs.Places.{Place, block, count}
use Rattle.lists.proofs.Members.{Implies, all_of, keep-fewer}
use Rattle.lists.proofs.Places.{count-block-le}
use Rattle.lists.proofs.Scan.{count-rest}
use Rattle.lists.proofs.Rows.{row_part, CountRows, rows_next, rows_all}
use Rattle.detect.specs.declared.Search.{Search}
use Rattle.detect.specs.Peaks.{peak_places, value_at, is_low}
use Rattle.detect.specs.Detect.{read_in, peak_in, peaks_in}
use Rattle.detect.specs.Internal.{Searchable}
use Rattle.detect.proofs.Cells.{row_in}
use Rattle.detect.proofs.Choice.{peak-above, none-narrow}

module _ (m : List Float) (s : Search) where
  -- the column and the row past the last inside the border, and what is counted
  abbrev right : ℕ
  right = s.w - s.border

  abbrev bottom : ℕ
  bottom = s.h - s.border

  abbrev high : Float → Bool
  high u = not (is_low s.threshold u)

  -- n were counted above row y
  abbrev pub HighRows : ℕ → ℕ → Type 0
  HighRows n y = CountRows high m s.w nan s.border right s.border bottom n y

  -- ---- at a row, of which t cells are low
  module _ (k : Searchable m s) (wide : s.border < right) (n y : ℕ) (a : HighRows n y) (l : y < bottom)
      (x1 : ℕ) (q : x1 ≡ right) (t : ℕ) (e : t ≡ count (is_low s.threshold) (row_part m s.w y s.border x1)) where
    told : t ≡ count (is_low s.threshold) (row_part m s.w y s.border right)
    told = e ∙ ap (λ (b : ℕ). count (is_low s.threshold) (row_part m s.w y s.border b)) q

    within : y * s.w + right ≤ length m
    within = row_in m s k y (omega arith) right (omega arith)

    rest : t + count high (row_part m s.w y s.border right) ≡ right - s.border
    rest =
        let long : length (row_part m s.w y s.border right) ≡ right - s.border
        = simp (length-take, length-drop) (omega (arith, within))
        in
        omega (arith, told, long, count-rest (is_low s.threshold) (row_part m s.w y s.border right))

    pub high-some : t ≤ x1 - s.border
    high-some = omega (arith, rest)

    pub high-next : HighRows (n + (x1 - s.border - t)) (y + 1)
    high-next =
        rows_next high m s.w nan s.border right s.border bottom n y a (omega arith) l within
        (x1 - s.border - t) (omega (arith, rest))

    pub high-few : n + (x1 - s.border - t) ≤ largest_map
    high-few =
        let most = count-block-le (λ q. high (value_at m s.w q)) s.border right s.border bottom 4096 4096
        (omega (arith, k.wide)) (omega (arith, k.high)) in
        omega (arith, high-next.sum, most)

  -- ---- after the last row
  pub high-all : (n y : ℕ) → HighRows n y → bottom ≤ y → length (peaks_in m s) ≤ n
  unfolding peak_places count
  high-all n y a l =
      let f : Place → Bool = λ q. high (value_at m s.w q) in
      let cells = block s.border right s.border bottom in
      let fewer = keep-fewer (peak_in m s) f cells
      (all_of (Implies (peak_in m s) f) (λ q. peak-above (read_in m s) s.w s.h s.window s.least_neighbours q) cells) in
      omega (arith, fewer, rows_all high m s.w nan s.border right s.border bottom n y a l)

  -- and where the border leaves no column
  pub high-none : right ≤ s.border → length (peaks_in m s) ≤ 0
  high-none l =
      let none = none-narrow (read_in m s) s.w s.h s.border s.window s.least_neighbours (omega arith) in
      omega (arith, ap length none)
