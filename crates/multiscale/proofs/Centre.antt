-- A seed's coordinate times 2 ^ level is exact, so its centre is the whole number nearest to that product, a half rounded up. Assumes
-- nothing.
use mathlib.Core.Path.{◌≡◌, refl, sym, ap, ◌∙◌}
use mathlib.Core.Bool.{Bool, true, false, true≢false}
use Prim.Native.Nat.{ℕ, ◌+◌, ◌*◌, ◌/◌, ◌^◌, ◌≤◌}
use native.Mathlib.Nat.{zero-mul, mul-le-mul, le_trans, le_of_eq}
use native.Mathlib.Omega.{arith}
use lib.IntN.{ℤ, pos}
use lib.Pow.{pow_mono}
use lib.Ieee.{Float, nan, inf, fin, binary32, up, down, le, mul, fits}
use lib.Ieee.Fits.{down_pos}
use lib.Ieee.Positive.{num, den}
use Rattle.lists.specs.Limits.{largest_side, last_level}
use Rattle.lists.proofs.Tests.{and_parts, to-T}
use Rattle.float32.specs.declared.Rounded.TheVariants.{Natural}
use Rattle.float32.specs.Float32.{zero, between}
use Rattle.float32.specs.Value.{IsValue, gain, loss}
use Rattle.float32.proofs.Values.{of-HasValue, le-value}
use Rattle.float32.proofs.Approx.{own}
use Rattle.float32.proofs.Bounds.{whole-over}
use Rattle.float32.proofs.Scale.{power-float, scaled}
use Rattle.float32.proofs.HalfAway.{natural-of-value}
use Rattle.corner_list.specs.CornerList.{largest_coordinate}
use Rattle.multiscale.specs.Multiscale.{centre_of}

-- ---- a coordinate from 0 to the largest is at most the largest side, and 0 where its sign is set
module _ (s : Bool) (m : ℕ) (e : ℤ) (h : between zero largest_coordinate (fin s m e) ≡ true) where
  at_least : loss (fin s m e) ≤ gain (fin s m e)
  at_least =
      let p = and_parts (le zero (fin s m e)) (le (fin s m e) largest_coordinate) h in
      let v = (le-value zero (fin s m e) 0 0 (gain (fin s m e)) (loss (fin s m e)) (down e) (down_pos e) nought
      (own (fin s m e) tt)).0 (to-T p.0) in
      omega arith
    where
      nought : IsValue zero 0 0 (down e)
      nought = record { is_finite = tt; equal = omega arith }

  at_most : gain (fin s m e) ≤ largest_side * down e + loss (fin s m e)
  at_most =
      let p = and_parts (le zero (fin s m e)) (le (fin s m e) largest_coordinate) h in
      let v = of-HasValue largest_coordinate false (largest_side * down e) (down e)
      (whole-over largest_coordinate largest_side (down e) (refl, refl)) in
      let l = (le-value (fin s m e) largest_coordinate (gain (fin s m e)) (loss (fin s m e)) (largest_side * down e) 0 (down e) (down_pos e)
      (own (fin s m e) tt) v).0 (to-T p.1) in
      omega arith

unsigned : (s : Bool) (m : ℕ) (e : ℤ) → between zero largest_coordinate (fin s m e) ≡ true → s ≡ true → m * up e ≡ 0
unsigned true m e h q = let l = at_least true m e h in omega arith
unsigned false m e h q = absurd (true≢false (sym q))

small : (s : Bool) (m : ℕ) (e : ℤ) → between zero largest_coordinate (fin s m e) ≡ true → m * up e ≤ 2 ^ 12 * down e
small true m e h = let l = unsigned true m e h refl in omega arith
small false m e h = let l = at_most false m e h in omega arith

grown : (n d p : ℕ) → n ≤ 2 ^ 12 * d → p ≤ 2 ^ 12 → n * p ≤ 2 ^ 24 * d
grown n d p h l = le_trans (mul-le-mul h l) (le_of_eq (omega arith))

pub centre-is : (x : Float) (k : ℕ) → fits binary32 x ≡ true → between zero largest_coordinate x ≡ true → k ≤ last_level
    → centre_of k x ≡ Natural ((2 * (num x * 2 ^ k) + den x) / (2 * den x))
unfolding centre_of le
centre-is nan k f h l = absurd (true≢false (sym h))
centre-is (inf true) k f h l = absurd (true≢false (sym h))
centre-is (inf false) k f h l = absurd (true≢false (sym h))
centre-is (fin s m e) k f h l =
    let g = grown (m * up e) (down e) (2 ^ k) (small s m e h) (pow_mono l) in
    rw (power-float k (omega arith))
    (natural-of-value (mul binary32 (fin s m e) (fin false 1 (pos k))) s (m * up e * 2 ^ k) (down e) (down_pos e) g
    (λ q. ap (λ (n : ℕ). n * 2 ^ k) (unsigned s m e h q) ∙ zero-mul (2 ^ k))
    (scaled s m e k f g))
