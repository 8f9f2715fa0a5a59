-- Laws of halving a level that may lie in the buffer that is written: what is read stands before what is written, so it is as it was; a
-- block of a row, a row and a level are each placed behind what is done. Assumes nothing.
use Prim.Native.Nat.{ℕ, zero, suc, ◌+◌, ◌-◌, ◌*◌, ◌/◌, ◌<◌, ◌≤◌}
use native.Mathlib.Nat.{mul-le-mul_right, suc-mul}
use native.Mathlib.Numerals.{add-one}
use native.Mathlib.Omega.{arith}
use mathlib.Core.Path.{◌≡◌, refl, sym, ap, ap₂, ◌∙◌}
use mathlib.Core.List.{List}
use lib.ListN.{length, get_or, take, drop}
use lib.Seq.{get_or-drop, get_or-take}
use borrow.Rule.Slice.PartMut.{put_mid}
use Rattle.lists.specs.Tab.{tab, grid}
use Rattle.lists.specs.Buffer.{placed}
use Rattle.lists.proofs.Tab.{length-tab, tab-ext, tab-add, length-grid, grid-ext}
use Rattle.lists.proofs.Buffer.{placed-none, placed-more, placed-before, put-placed}
use Rattle.pyramid.specs.Pyramid.{box_of, half_pixel, halved}
use Rattle.pyramid.specs.Internal.{pixels_at_once, holder_of, box_at, Halving, MeansMade, Run, RunHalved, RowHalved, LevelHalved}

-- the slice that is read keeps its length, and its length is a usize
holder-length : (base d s : List ℕ) (k : ℕ) → length s ≡ length d → length (holder_of base s k) ≡ length (holder_of base d k)
holder-length base d s zero e = refl
holder-length base d s (suc k) e = e

pub holder-short : (base d : List ℕ) (k most : ℕ) → length base < most → length d < most → length (holder_of base d k) < most
holder-short base d zero most p q = p
holder-short base d (suc k) most p q = q

-- what is read is as it was
kept : (base d vs : List ℕ) (k to i j : ℕ) → to ≤ length d → i ≡ j → ((k ≡ 0 → ⊥) → j < to)
    → get_or (holder_of base (placed to vs d) k) i 0 ≡ get_or (holder_of base d k) j 0
kept base d vs zero to i j h e l = ap (λ (n : ℕ). get_or base n 0) e
kept base d vs (suc k) to i j h e l = ap (λ (n : ℕ). get_or (placed to vs d) n 0) e ∙ placed-before to vs d j 0 h (l (λ z. omega arith))

-- a half-size pixel of the two rows that begin at `from`, by its four places
half_at : (s : List ℕ) (from w x : ℕ)
    → half_pixel (drop from s) w x 0 ≡ box_of (get_or s (from + 2 * x) 0) (get_or s (from + 2 * x + 1) 0) (get_or s (from + w + 2 * x) 0)
    (get_or s (from + w + 2 * x + 1) 0)
unfolding half_pixel
half_at s from w x =
    rw (
      at (0 * w + 2 * x) (from + 2 * x) (omega arith),
      at (0 * w + (2 * x + 1)) (from + 2 * x + 1) (omega arith),
      at (1 * w + 2 * x) (from + w + 2 * x) (omega arith),
      at (1 * w + (2 * x + 1)) (from + w + 2 * x + 1) (omega arith),
    )
  where
    at : (i j : ℕ) → from + i ≡ j → get_or (drop from s) i 0 ≡ get_or s j 0
    at i j p = get_or-drop from s i 0 ∙ ap (λ (n : ℕ). get_or s n 0) p

-- images whose pairs of rows agree have the same half-size pixels there
half-alike : (s t : List ℕ) (w x y y' : ℕ) → ((i : ℕ) → i < 2 * w → get_or s (2 * y * w + i) 0 ≡ get_or t (2 * y' * w + i) 0) → x < w / 2
    → half_pixel s w x y ≡ half_pixel t w x y'
unfolding half_pixel
half-alike s t w x y y' e l =
    rw (
      at (2 * x) (2 * y * w + 2 * x) (2 * y' * w + 2 * x) (omega arith) (omega arith) (omega arith),
      at (2 * x + 1) (2 * y * w + (2 * x + 1)) (2 * y' * w + (2 * x + 1)) (omega arith) (omega arith) (omega arith),
      at (w + 2 * x) ((2 * y + 1) * w + 2 * x) ((2 * y' + 1) * w + 2 * x) (omega arith) (omega arith) (omega arith),
      at (w + (2 * x + 1)) ((2 * y + 1) * w + (2 * x + 1)) ((2 * y' + 1) * w + (2 * x + 1)) (omega arith) (omega arith) (omega arith),
    )
  where
    at : (i p q : ℕ) → i < 2 * w → p ≡ 2 * y * w + i → q ≡ 2 * y' * w + i → get_or s p 0 ≡ get_or t q 0
    at i p q l c d = ap (λ (n : ℕ). get_or s n 0) c ∙ e i l ∙ ap (λ (n : ℕ). get_or t n 0) (sym d)

-- ---- a run of n pairs of columns

-- its half-size pixels, made apart and put at their place
pub run-put : (base d : List ℕ) (k top w to n : ℕ) (made : List ℕ) → n ≤ pixels_at_once
    → MeansMade (holder_of base d k) top (top + w) n made
    → RunHalved base d k top w to n (put_mid to (to + n - to) d (take n made))
run-put base d k top w to n made few p =
    let row = box_at (holder_of base d k) top (top + w) in
    let l : to + n - to ≡ length (tab n row) = omega (arith, length-tab n row) in
    record { is = rw p.front (put-placed to (to + n - to) (tab n row) d l) }

-- ---- a run of m pairs from column x on, of the two rows that begin at `from`

pub row-none : (base d : List ℕ) (k from w to : ℕ) → RowHalved base d k from w to 0 d
unfolding tab
row-none base d k from w to = record { is = placed-none to d }

module _ (base d : List ℕ) (k from w to : ℕ) (ok : Halving base d k from w 2 to) where
  abbrev row_of : ℕ → ℕ
  row_of x = half_pixel (drop from (holder_of base d k)) w x 0

  -- what is read of the buffer as it is by then
  block_read : (vs : List ℕ) (a b : ℕ) → a ≡ b → b < from + w * 2
      → get_or (holder_of base (placed to vs d) k) a 0 ≡ get_or (holder_of base d k) b 0
  block_read vs a b e l = kept base d vs k to a b (omega (arith, ok.fits)) e (λ z. omega (arith, ok.behind z))

  run-pixel : (x m : ℕ) (vs : List ℕ) → x + m ≤ w / 2 → (i : ℕ) → i < m
      → box_at (holder_of base (placed to vs d) k) (from + 2 * x) (from + 2 * x + w) i ≡ row_of (x + i)
  run-pixel x m vs p i l =
      rw (
        block_read vs (from + 2 * x + 2 * i) (from + 2 * (x + i)) (omega arith) (omega arith),
        block_read vs (from + 2 * x + 2 * i + 1) (from + 2 * (x + i) + 1) (omega arith) (omega arith),
        block_read vs (from + 2 * x + w + 2 * i) (from + w + 2 * (x + i)) (omega arith) (omega arith),
        block_read vs (from + 2 * x + w + 2 * i + 1) (from + w + 2 * (x + i) + 1) (omega arith) (omega arith),
      ) (sym (half_at (holder_of base d k) from w (x + i)))

  -- its columns lie in the two rows, and there is a place for it
  pub run_ok : (s : List ℕ) (x m : ℕ) → length s ≡ length d → x + m ≤ w / 2 → m ≤ pixels_at_once
      → Run base s k (from + 2 * x) w (to + x) m
  run_ok s x m e p few =
      record {
        few = few;
        inside = omega (arith, ok.inside, holder-length base d s k e);
        fits = omega (arith, ok.fits);
      }

  -- the run behind the columns before it
  pub row_put : (x m : ℕ) (s s' : List ℕ) → RowHalved base d k from w to x s → x + m ≤ w / 2
      → RunHalved base s k (from + 2 * x) w (to + x) m s' → RowHalved base d k from w to (x + m) s'
  row_put x m s s' e p r =
      record {
        is =
            r.is
            ∙ ap₂ (placed (to + x)) z e.is
            ∙ placed-more to (to + x) (tab x row_of) (tab m (λ i. row_of (x + i))) d (omega (arith, ok.fits))
            (omega (arith, length-tab x row_of))
            ∙ ap (λ (v : List ℕ). placed to v d) (sym (tab-add x m row_of));
      }
    where
      z : tab m (box_at (holder_of base s k) (from + 2 * x) (from + 2 * x + w)) ≡ tab m (λ i. row_of (x + i))
      z = tab-ext m _ _ (rw e.is (run-pixel x m (tab x row_of) p))

-- ---- row y of the level that begins at `from`

-- its two rows end within the level, and its half-size pixels within the new one
pub row_below : (from w h y a : ℕ) → y < h / 2 → a ≡ from + 2 * y * w → a + 2 * w ≤ from + w * h
row_below from w h y a l p = omega (arith, mul-le-mul_right w (let z : 2 * (y + 1) ≤ h = omega arith in z))

pub row-end : (to w h y at : ℕ) → y < h / 2 → at ≡ to + y * (w / 2) → at + w / 2 ≤ to + w / 2 * (h / 2)
row-end to w h y at l q = omega (arith, mul-le-mul_right (w / 2) l, suc-mul y (w / 2))

pub level-none : (base d : List ℕ) (k from w to : ℕ) → LevelHalved base d k from w to 0 d
unfolding grid
level-none base d k from w to = record { is = placed-none to d }

module _ (base d : List ℕ) (k from w h to : ℕ) (ok : Halving base d k from w h to) (s : List ℕ) (y a at : ℕ) (long : length s ≡ length d)
    (l : y < h / 2) (p : a ≡ from + 2 * y * w) (q : at ≡ to + y * (w / 2)) where
  pub row_ok : Halving base s k a w 2 at
  row_ok =
      record {
        inside = omega (arith, row_below from w h y a l p, ok.inside, holder-length base d s k long);
        behind = λ z. omega (arith, row_below from w h y a l p, ok.behind z);
        fits = omega (arith, row-end to w h y at l q, ok.fits);
      }

  abbrev pixel_of : ℕ → ℕ → ℕ
  pixel_of = half_pixel (drop from (holder_of base d k)) w

  -- what is read of the buffer as it is by then
  row_read : LevelHalved base d k from w to y s → (i : ℕ) → i < 2 * w
      → get_or (drop a (holder_of base s k)) (2 * 0 * w + i) 0 ≡ get_or (drop from (holder_of base d k)) (2 * y * w + i) 0
  row_read e i t =
      get_or-drop a (holder_of base s k) (2 * 0 * w + i) 0
      ∙ rw e.is
      (kept base d (grid (w / 2) y pixel_of) k to (a + (2 * 0 * w + i)) (from + (2 * y * w + i)) (omega (arith, ok.fits)) (omega arith)
      (λ z. omega (arith, row_below from w h y a l p, ok.behind z)))
      ∙ sym (get_or-drop from (holder_of base d k) (2 * y * w + i) 0)

  -- the row behind the rows before it
  pub row_more : (s' : List ℕ) → LevelHalved base d k from w to y s → RowHalved base s k a w at (w / 2) s'
      → LevelHalved base d k from w to (y + 1) s'
  unfolding grid
  row_more s' e r =
      record {
        is =
            r.is
            ∙ ap₂ (placed at) (tab-ext (w / 2) _ _
            (λ x t. half-alike (drop a (holder_of base s k)) (drop from (holder_of base d k)) w x 0 y (row_read e) t)) e.is
            ∙ placed-more to at (grid (w / 2) y pixel_of) (tab (w / 2) (λ x. pixel_of x y)) d (omega (arith, ok.fits))
            (omega (arith, length-grid (w / 2) y pixel_of))
            ∙ rw add-one;
      }

-- an image is read no further than its last pixel
pub halved-take : (s : List ℕ) (w h : ℕ) → halved (take (w * h) s) w h ≡ halved s w h
unfolding halved
halved-take s w h =
    grid-ext (w / 2) (h / 2) _ _
    (λ x y i j.
    half-alike (take (w * h) s) s w x y y
    (λ k l. get_or-take (w * h) s (2 * y * w + k) 0 (omega (arith, row_below 0 w h y (2 * y * w) j (omega arith)))) i)
