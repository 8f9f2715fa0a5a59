-- Where a cell's ring lies in the image, what the response of a cell is there and elsewhere, and which cells of a row those are. Assumes
-- nothing.
use mathlib.Core.Path.{◌≡◌}
use mathlib.Core.Bool.{true, false}
use mathlib.Core.List.{List}
use Prim.Native.Nat.{ℕ, ◌+◌, ◌-◌, ◌<◌, ◌≤◌, min, max}
use native.Mathlib.Nat.{le_refl}
use native.Mathlib.Omega.{arith}
use borrow.Author.Tests.{lt-ltb, le-ltb, le-leb, lt-leb}
use Rattle.lists.proofs.Tests.{and_none}
use Rattle.float32.specs.Float32.{zero}
use Rattle.ring.specs.Ring.{Ring}
use Rattle.response.specs.Response.{is_within, inside, response, response_at}
use Rattle.response.specs.Internal.{Inner, InnerSpan}

module _ (r w h x y : ℕ) where
  pub near-left : x < r → is_within r w h x y ≡ false
  near-left l = rw (lt-leb _ _ l)

  pub near-right : w ≤ x + r → is_within r w h x y ≡ false
  near-right l = rw (le-ltb _ _ l, and_none)

  pub near-above : y < r → is_within r w h x y ≡ false
  near-above l = rw (lt-leb _ _ l, and_none, and_none)

  pub near-below : h ≤ y + r → is_within r w h x y ≡ false
  near-below l = rw (le-ltb _ _ l, and_none, and_none, and_none)

  pub far-off : r ≤ x → x + r < w → r ≤ y → y + r < h → is_within r w h x y ≡ true
  far-off a b c d = rw (le-leb _ _ a, lt-ltb _ _ b, le-leb _ _ c, lt-ltb _ _ d)

module _ (w h : ℕ) (t : Ring) (x y : ℕ) where
  pub out-left : x < t.radius → inside w h t x y ≡ false
  out-left = near-left t.radius w h x y

  pub out-right : w ≤ x + t.radius → inside w h t x y ≡ false
  out-right = near-right t.radius w h x y

  pub out-above : y < t.radius → inside w h t x y ≡ false
  out-above = near-above t.radius w h x y

  pub out_below : h ≤ y + t.radius → inside w h t x y ≡ false
  out_below = near-below t.radius w h x y

  pub at-outside : (img : List ℕ) → inside w h t x y ≡ false → response_at img w h t x y ≡ zero
  unfolding response_at
  at-outside img e = rw e

  pub at-inside : (img : List ℕ) (r : ℕ) → t.radius ≡ r → Inner w h r x y → response_at img w h t x y ≡ response img w t x y
  unfolding response_at
  at-inside img r e n = rw (e, le-leb _ _ n.left, lt-ltb _ _ n.right, le-leb _ _ n.above, lt-ltb _ _ n.below)

-- ---- which cells of a row have their ring in the image

-- how far the lower edge is
pub near-edge : (h y radius : ℕ) → h - y ≤ radius → h ≤ y + radius
near-edge h y radius l = omega arith

pub off-edge : (h y radius : ℕ) → radius < h - y → y + radius < h
off-edge h y radius l = omega arith

module _ (w h : ℕ) (t : Ring) (radius x0 y n : ℕ) (e : t.radius ≡ radius) where
  -- none, where the row is too near the upper or the lower edge
  span_none : ((i : ℕ) → inside w h t (x0 + i) y ≡ false) → InnerSpan w h t radius x0 y n n n
  span_none out =
      record {
        ordered = le_refl n;
        ends = le_refl n;
        outer_left = λ i p. out i;
        inner = λ i p q. absurd (omega arith);
        outer_right = λ i p q. out i;
      }

  pub span-above : y < radius → InnerSpan w h t radius x0 y n n n
  span-above l = span_none (λ i. out-above w h t (x0 + i) y (rw e l))

  pub span_below : h ≤ y + radius → InnerSpan w h t radius x0 y n n n
  span_below l = span_none (λ i. out_below w h t (x0 + i) y (rw e l))

  -- else those that lie the radius and more from either end, as the code finds them
  pub span-row : (l a r s m b : ℕ) → radius ≤ y → y + radius < h → l ≡ radius - x0 → a ≡ min n l → r ≡ w - radius → s ≡ r - x0
      → m ≡ min n s → b ≡ max a m
      → InnerSpan w h t radius x0 y n a b
  span-row l a r s m b above below el ea er es em eb =
      record {
        ordered = omega arith;
        ends = omega arith;
        outer_left = λ i p. out-left w h t (x0 + i) y (rw e (omega arith));
        inner = λ i p q. record { left = omega arith; right = omega arith; above = above; below = below };
        outer_right = λ i p q. out-right w h t (x0 + i) y (rw e (omega arith));
      }
