-- The response of a cell in a tile is that of the cell in the image. Assumes nothing.
use mathlib.Core.Path.{◌≡◌, refl, sym, ap, ◌∙◌, subst}
use mathlib.Core.List.{List}
use Prim.Native.Nat.{ℕ, ◌+◌, ◌*◌, ◌-◌, ◌<◌, ◌≤◌}
use native.Mathlib.Nat.{mul_comm, mul-le-mul_right}
use native.Mathlib.Omega.{arith}
use native.Mathlib.Decide.{dec_lt}
use lib.Ieee.{Float}
use prog.Memory.{up}
use lib.ListN.{length, get_or, set, length-set}
use lib.Seq.{get_or-set_same, get_or-set_other}
use Rattle.lists.specs.Limits.{largest_side, largest_map}
use Rattle.float32.specs.Float32.{zero}
use Rattle.lists.specs.Tab.{tab, pixel}
use Rattle.lists.proofs.Tab.{tab-ext}
use Rattle.ring.specs.Ring.{Ring, ring5, ring_of, dx, dy, IsRing}
use Rattle.ring.proofs.Places.{dx-le, dy-le, radius-pos, radius-small, selects-first}
use Rattle.ring.proofs.Table.{ring_of-is}
use Rattle.response.specs.declared.rows.Field.{Field}
use Rattle.response.specs.declared.runs.RowSums.{RowSums}
use Rattle.response.specs.Response.{samples, cross_of, response}
use Rattle.response.specs.Internal.{offset_at, ImageWithOffsets, Inner, CellsSummed, PlacesWritten, Filled, Placed, InnerPart}
use Rattle.response.specs.Internal.{responses, response_from, tile_rows, large_row}
use Rattle.response.proofs.Filling.{row-after, row-filled, then-below}
use Rattle.response.proofs.Indices.{area-le}
use Rattle.response.proofs.Inside.{at-inside}
use Rattle.response.proofs.Samples.{assembled}

-- a list with rows of s places that has the pixels of n columns from column X on and m rows from row Y on of an image w wide
module _ (img tile : List ℕ) (w s X Y n m : ℕ) (same : (u v : ℕ) → u < n → v < m → pixel tile s u v ≡ pixel img w (X + u) (Y + v)) where
  at : (u v u₁ v₁ : ℕ) → u < n → v < m → u₁ ≡ X + u → v₁ ≡ Y + v → pixel tile s u v ≡ pixel img w u₁ v₁
  at u v u₁ v₁ a b e g = same u v a b ∙ rw (e, g)

  pub tile-response : (t : Ring) → IsRing t → (r : ℕ) → t.radius ≡ r → (x y : ℕ) → r ≤ x → x + r < n → r ≤ y → y + r < m
      → response tile s t x y ≡ response img w t (X + x) (Y + y)
  unfolding response
  tile-response t is r own x y l p a b = rw (ring, cross)
    where
      ring : samples tile s t x y ≡ samples img w t (X + x) (Y + y)
      ring =
          unfold samples in
          (tab-ext 16 _ _ (λ c k.
          at (x - t.radius + dx t c) (y - t.radius + dy t c) _ _ (omega (arith, dx-le t is c)) (omega (arith, dy-le t is c))
          (omega arith) (omega arith)))

      one : 1 ≤ r
      one = omega (arith, radius-pos t is)

      cross : cross_of tile s x y ≡ cross_of img w (X + x) (Y + y)
      cross =
          rw (
            at x y (X + x) (Y + y) (omega arith) (omega arith) (omega arith) (omega arith),
            at x (y - 1) (X + x) (Y + y - 1) (omega arith) (omega arith) (omega arith) (omega (arith, one)),
            at x (y + 1) (X + x) (Y + y + 1) (omega arith) (omega (arith, one)) (omega arith) (omega arith),
            at (x + 1) y (X + x + 1) (Y + y) (omega (arith, one)) (omega arith) (omega arith) (omega arith),
            at (x - 1) y (X + x - 1) (Y + y) (omega arith) (omega arith) (omega (arith, one)) (omega arith),
          )

-- ---- the places of a tile fit in memory
pub tile-fits : (s n : ℕ) → n ≡ s * tile_rows → s ≤ large_row → up 2 (0 + n * 2) < 9223372036854775808
tile-fits s n e narrow = omega arith

-- ---- where a block lies
pub tile-framed : (tile : List ℕ) (s r : ℕ) (off : List ℕ) → length tile ≡ s * tile_rows → s ≤ large_row → (ring_of r).radius ≡ r
    → off ≡ tab 16 (offset_at (ring_of r) s) → ImageWithOffsets tile s tile_rows (ring_of r) r off
tile-framed tile s r off long narrow own e =
    record {
      image = record { narrow = omega (arith, narrow); low = omega arith; sized = long };
      is-ring = ring_of-is r;
      own_radius = own;
      offsets = e;
    }

-- a radius that selects a ring of that radius is 5 or 10
pub other-ring : (r : ℕ) → (ring_of r).radius ≡ r → (r ≡ 5 → ⊥) → r ≡ 10
unfolding ring5
other-ring r own first = elim (dec_lt r 10) [
  | yes l ↦ absurd (first (sym own ∙ ap (λ (t : Ring). t.radius) (selects-first r (λ e. absurd (omega arith)))))
  | no g ↦ omega (arith, own, radius-small r)
]

pub placed-still : (pixels : ℕ) (f : Field) (n m : ℕ) → Placed pixels f n → m ≡ n → Placed pixels f m
placed-still pixels f n m p e = subst (λ (k : ℕ). Placed pixels f k) (sym e) p

pub part_of : (f : Field) (a b c e a' b' c' e' : ℕ) → InnerPart f a b c e → a ≤ a' → b' ≤ b → c ≤ c' → e' ≤ e → InnerPart f a' b' c' e'
part_of f a b c e a' b' c' e' p l r u v =
    record {
      across = omega (arith, p.across);
      down = omega (arith, p.down);
      inner = λ i j x y z w. p.inner i j (omega arith) (omega arith) (omega arith) (omega arith);
    }

module _ (pixels places : ℕ) (f : Field) (p : Placed pixels f places) where
  pub radius-le : f.radius ≤ 10
  radius-le = omega (arith, radius-small f.radius, p.own_radius)

  pub map-small : f.ph * f.pw ≤ largest_map
  map-small = area-le f.ph f.pw (omega (arith, p.down, p.image.low)) (omega (arith, p.across, p.image.narrow))

  module _ (i j n m : ℕ) (part : InnerPart f i (i + n) j (j + m)) (wide : 0 < n) (high : 0 < m) where
    first_cell : Inner f.w f.h f.radius (f.x + i) (f.y + j)
    first_cell = part.inner i j (omega arith) (omega arith) (omega arith) (omega arith)

    last-cell : Inner f.w f.h f.radius (f.x + (i + (n - 1))) (f.y + (j + (m - 1)))
    last-cell = part.inner (i + (n - 1)) (j + (m - 1)) (omega arith) (omega arith) (omega arith) (omega arith)

    pub from-left : f.radius ≤ f.x + i
    from-left = first_cell.left

    pub from-top : f.radius ≤ f.y + j
    from-top = first_cell.above

    pub columns-in : f.x + i - f.radius + (n + f.radius + f.radius) ≤ f.w
    columns-in = omega (arith, from-left, last-cell.right)

    rows_in : f.y + j - f.radius + (m + f.radius + f.radius) ≤ f.h
    rows_in = omega (arith, from-top, last-cell.below)

    pub rows-low : f.y + j - f.radius + (m + f.radius + f.radius) ≤ largest_side
    rows-low = omega (arith, rows_in, p.image.low)

    pub pixels-in : (f.y + j - f.radius + (m + f.radius + f.radius)) * f.w ≤ pixels
    pixels-in = rw (p.image.sized, mul_comm f.w f.h) (mul-le-mul_right f.w rows_in)

    pub row_in : (k : ℕ) → k < m → ((j + k) * f.pw + i + n ≤ places) × ((j + k) * f.pw + i + n ≤ largest_map)
    row_in k l =
        let within : (j + k) * f.pw + i + n ≤ f.ph * f.pw =
        omega (arith, row-after f.pw (j + k) f.ph (omega (arith, part.down)), part.across) in
        (omega (arith, p.enough), omega (arith, map-small))

    pub corner-small : (f.x + i ≤ largest_side) × (f.y + j ≤ largest_side)
    corner-small = (
      omega (arith, p.across, part.across, p.image.narrow),
      omega (arith, p.down, part.down, p.image.low),
    )

  pub pixels-few : pixels ≤ largest_map
  pixels-few = omega (arith, p.image.sized, area-le f.w f.h p.image.narrow p.image.low)

-- ---- a row of a block
module _ (img tile : List ℕ) (w : ℕ) (f : Field) (i j n m : ℕ) (is-ring : IsRing (ring_of f.radius))
    (own : (ring_of f.radius).radius ≡ f.radius)
    (part : InnerPart f i (i + n) j (j + m)) (some : 0 < n) (k : ℕ) (below : k < m)
    (same : (u v : ℕ) → u < n + f.radius + f.radius → v < m + f.radius + f.radius
    → pixel tile w u v ≡ pixel img f.w (f.x + i - f.radius + u) (f.y + j - f.radius + v)) where
  in_image : (p : ℕ) → p < n → Inner f.w f.h f.radius (f.x + (i + p)) (f.y + (j + k))
  in_image p l = part.inner (i + p) (j + k) (omega arith) (omega arith) (omega arith) (omega arith)

  cell-is : (p : ℕ) → p < n → response tile w (ring_of f.radius) (f.radius + p) (f.radius + k) ≡ responses img f (i + p) (j + k)
  cell-is p l =
      let first = part.inner i j (omega arith) (omega arith) (omega arith) (omega arith) in
      let column : f.x + i - f.radius + (f.radius + p) ≡ f.x + (i + p) = omega (arith, first.left) in
      let row : f.y + j - f.radius + (f.radius + k) ≡ f.y + (j + k) = omega (arith, first.above) in
      tile-response img tile f.w w (f.x + i - f.radius) (f.y + j - f.radius) (n + f.radius + f.radius)
      (m + f.radius + f.radius) same
      (ring_of f.radius) is-ring f.radius own (f.radius + p) (f.radius + k) (omega arith) (omega arith) (omega arith) (omega arith)
      ∙ (rw (column, row))
      ∙ sym (at-inside f.w f.h (ring_of f.radius) (f.x + (i + p)) (f.y + (j + k)) img f.radius own (in_image p l))

  pub block-step : (r : RowSums) (z at : ℕ) (s₀ s t : List Float) → n ≤ z
      → CellsSummed tile w (ring_of f.radius) f.radius (f.radius + k) z r
      → PlacesWritten zero at n (response_from r) s t → at ≡ (j + k) * f.pw + i
      → Filled zero f.pw f.ph (responses img f) i (i + n) j (j + k) s₀ s
      → Filled zero f.pw f.ph (responses img f) i (i + n) j (j + (k + 1)) s₀ t
  block-step r z at s₀ s t l sums wr is before =
      let next : j + k + 1 ≡ j + (k + 1) = omega arith in
      subst (λ (e : ℕ). Filled zero f.pw f.ph (responses img f) i (i + n) j e s₀ t) next
      (then-below zero f.pw f.ph (responses img f) i (i + n) j (j + k) (j + k + 1) s₀ s t before
      (row-filled zero f.pw f.ph (responses img f) at n i (i + n) (j + k) (response_from r) s t wr is refl part.across
      (omega (arith, part.down))
      (λ p q. assembled tile w (ring_of f.radius) (f.radius + p) (f.radius + k) _ _ _ _ (sums.cells p (omega arith)) refl
      ∙ cell-is p q)))

-- ---- a row more of a tile
pub tile-row : (img : List ℕ) (w k x y n j o : ℕ) (s t u : List ℕ) → j < tile_rows → n ≤ k → o ≡ (y + j) * w + x
    → Filled 0 k tile_rows (λ p q. pixel img w (x + p) (y + q)) 0 n 0 j s t → PlacesWritten 0 (j * k) n (λ i. get_or img (o + i) 0) t u
    → Filled 0 k tile_rows (λ p q. pixel img w (x + p) (y + q)) 0 n 0 (j + 1) s u
tile-row img w k x y n j o s t u l fits is before wr =
    let f : ℕ → ℕ → ℕ = λ p q. pixel img w (x + p) (y + q) in
    then-below 0 k tile_rows f 0 n 0 j (j + 1) s t u before
    (row-filled 0 k tile_rows f (j * k) n 0 n j (λ i. get_or img (o + i) 0) t u wr (omega arith) (omega arith) fits l
    (λ i q. ap (λ (v : ℕ). get_or img v 0) (omega arith)))

-- ---- one cell
written_one : (at : ℕ) (v : Float) (s : List Float) → at < length s → PlacesWritten zero at 1 (λ _. v) s (set s at v)
written_one at v s l =
    record {
      long = length-set s at v;
      within = λ i p. let e : at + i ≡ at = omega arith in rw e (get_or-set_same s at v zero l);
      before = λ i p. get_or-set_other s at i v zero (λ q. absurd (omega arith));
      behind = λ i p. get_or-set_other s at i v zero (λ q. absurd (omega arith));
    }

pub single-filled : (img : List ℕ) (f : Field) (i j : ℕ) (v : Float) (s : List Float) → (ring_of f.radius).radius ≡ f.radius
    → InnerPart f i (i + 1) j (j + 1) → v ≡ response img f.w (ring_of f.radius) (f.x + i) (f.y + j) → f.ph * f.pw ≤ length s
    → Filled zero f.pw f.ph (responses img f) i (i + 1) j (j + 1) s (set s (j * f.pw + i) v)
single-filled img f i j v s own part is enough =
    let lies : j * f.pw + i < length s = omega (arith, row-after f.pw j f.ph (omega (arith, part.down)), part.across) in
    row-filled zero f.pw f.ph (responses img f) (j * f.pw + i) 1 i (i + 1) j (λ _. v) s (set s (j * f.pw + i) v)
    (written_one (j * f.pw + i) v s lies) refl refl part.across (omega (arith, part.down)) here
  where
    here : (p : ℕ) → p < 1 → v ≡ responses img f (i + p) j
    here p l =
        let e : i + p ≡ i = omega arith in
        rw e
        (is ∙ sym (at-inside f.w f.h (ring_of f.radius) (f.x + i) (f.y + j) img f.radius own
        (part.inner i j (omega arith) (omega arith) (omega arith) (omega arith))))
