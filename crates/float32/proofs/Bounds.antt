-- Bounds by whole numbers go through a rounding unharmed, since the format holds the whole number: sums and quotients of what is not
-- negative. Assumes nothing.
use Rattle.std.proofs.Common.{◌≡◌, ℕ, zero as none, suc, ◌+◌, ◌*◌, ◌^◌, ◌<◌, ◌≤◌, Bool, true, false, cond, T, eqb, pos, sym, refl, ap, ◌∙◌}
use Rattle.std.proofs.Common.{subst, true≢false, le_trans, le_of_eq, lt_of_le_of_lt, mul-le-mul_right, mul_comm, mul-le-mul_left}
use Rattle.std.proofs.Common.{mul-lt-mul_of_pos_right, mul-pos, zero-mul, mul-one, mul_right_comm, le_of_mul-le-mul_right, arith, lit<}
use Rattle.std.proofs.Common.{pow_pos}
use native.Mathlib.Nat.{eq_of_mul-eq-mul_right}
use lib.Ieee.{Float, nan, inf, fin, Format, binary32, prec, emax, low, up, down, round, add, div, of_int, lt, le}
use lib.Ieee.Fits.{down_pos}
use lib.Ieee.Exact.{HasValue}
use lib.Ieee.Order.{round_mono, le_of_values}
use lib.Ieee.Positive.{first_pos}
use lib.Ieee.Scale.{grid, finite, round_same}
use Rattle.lists.proofs.Tests.{from-T, and-on}
use Rattle.float32.specs.Float32.{zero, between}
use Rattle.float32.specs.Value.{IsValue}
use Rattle.float32.proofs.Poly.{poly}
use Rattle.float32.proofs.Rounding.{grid-under, round_val}
use Rattle.float32.proofs.Values.{of-HasValue, of_int-value, lt-value, le-value, not_eqb}
use Rattle.float32.proofs.Units.{add-round}
use Rattle.float32.proofs.Running.{Nearly, Near}

-- x is finite, its sign is +, and x ≤ n
pub record UpTo (x : Float) (n : ℕ) : Type 0 where
  pub top : ℕ
  pub bottom : ℕ
  pub bottom-pos : 0 < bottom
  pub value : HasValue x false top bottom
  pub at_most : top ≤ n * bottom

-- ---- what it gives
pub upto-finite : (x : Float) (n : ℕ) → UpTo x n → T (finite x)
upto-finite x n u = (of-HasValue x false u.top u.bottom u.value).is_finite

pub upto-below : (x y : Float) (n : ℕ) → HasValue y false n 1 → UpTo x n → T (le x y)
upto-below x y n v u =
    le_of_values x y u.top u.bottom n 1 u.bottom-pos (lit< tt) u.value v (le_trans (le_of_eq (mul-one u.top)) u.at_most)

pub upto-above : (x : Float) (n : ℕ) → UpTo x n → T (le zero x)
upto-above x n u =
    le_of_values zero x 0 1 u.top u.bottom (lit< tt) u.bottom-pos (refl, refl) u.value (omega (arith, zero-mul u.bottom))

pub upto-more : (x : Float) (n m : ℕ) → n ≤ m → UpTo x n → UpTo x m
upto-more x n m h u =
    record {
      top = u.top;
      bottom = u.bottom;
      bottom-pos = u.bottom-pos;
      value = u.value;
      at_most = le_trans u.at_most (mul-le-mul_right u.bottom h);
    }

-- it is in a range from 0 that ends at n or later
pub upto-between : (x top : Float) (n b : ℕ) → n ≤ b → HasValue top false b 1 → UpTo x n → between zero top x ≡ true
upto-between x top n b l v u =
    sym (and-on (le zero x) (le x top) (from-T (le zero x) (upto-above x n u)))
    ∙ from-T (le x top) (upto-below x top b v (upto-more x n b l u))

pub whole-upto : (f : Format) (n : ℕ) → n < 2 ^ prec f → UpTo (of_int f (pos n)) n
whole-upto f n h = record { top = n; bottom = 1; bottom-pos = lit< tt; value = of_int-value f n h; at_most = le_of_eq (sym (mul-one n)) }

-- ---- a / c ≤ n, rounded
prec-in : (f : Format) → prec f ≤ emax f
prec-in Format.binary32 = omega arith
prec-in Format.binary64 = omega arith

-- the order of two values over one denominator
pub value-le : (x y : Float) (a b c : ℕ) → 0 < c → HasValue x false a c → HasValue y false b c → T (le x y) → a ≤ b
value-le x y a b c C v w h =
    let k = (le-value x y a 0 b 0 c C (of-HasValue x false a c v) (of-HasValue y false b c w)).0 h in
    omega arith

-- the whole number n over any denominator
pub whole-over : (x : Float) (n c : ℕ) → HasValue x false n 1 → HasValue x false (n * c) c
whole-over nan n c h = absurd h
whole-over (inf s) n c h = absurd h
whole-over (fin s m e) n c h = (h.0, ap (λ (z : ℕ). z * c) (sym (mul-one (m * up e)) ∙ h.1) ∙ mul_right_comm n (down e) c)

round-upto : (f : Format) (a c n : ℕ) → 0 < c → n < 2 ^ prec f → a ≤ n * c → UpTo (round f false a c) n
unfolding of_int
round-upto f a c n C h l =
    let v = round_val f false a c (grid-under f a c (prec f) C (prec-in f) (lt_of_le_of_lt l (mul-lt-mul_of_pos_right h C))) in
    record {
      top = grid f a c;
      bottom = 2 ^ low f;
      bottom-pos = pow_pos (low f);
      value = v;
      at_most =
          value-le (round f false a c) (of_int f (pos n)) (grid f a c) (n * 2 ^ low f) (2 ^ low f) (pow_pos (low f)) v
          (whole-over (of_int f (pos n)) n (2 ^ low f) (of_int-value f n h))
          (round_mono f a c n 1 C (lit< tt) (le_trans (le_of_eq (mul-one a)) l));
    }

-- ---- sums
pub add-upto : (f : Format) (x y : Float) (n m : ℕ) → n + m < 2 ^ prec f → UpTo x n → UpTo y m → UpTo (add f x y) (n + m)
add-upto f x y n m h u v =
    subst (λ (z : Float). UpTo z (n + m))
    (sym (add-round f x y u.top u.bottom v.top v.bottom u.bottom-pos v.bottom-pos u.value v.value))
    (round-upto f (u.top * v.bottom + v.top * u.bottom) (u.bottom * v.bottom) (n + m) (mul-pos u.bottom-pos v.bottom-pos) h
    (both u.top u.bottom v.top v.bottom u.at_most v.at_most))
  where
    both : (a c b d : ℕ) → a ≤ n * c → b ≤ m * d → a * d + b * c ≤ (n + m) * (c * d)
    both a c b d p q =
        let x = simp poly at (mul-le-mul_right d p) in
        let y = simp poly at (mul-le-mul_right c q) in
        simp poly (omega arith)

-- ---- quotients
pub div-round : (f : Format) (x y : Float) (a b L : ℕ) → 0 < L → 0 < b → HasValue x false a L → HasValue y false b L
    → div f x y ≡ round f false a b
unfolding div
div-round f nan y a b L K B v w = absurd v
div-round f (inf s) y a b L K B v w = absurd v
div-round f (fin s m e) nan a b L K B v w = absurd w
div-round f (fin s m e) (inf t) a b L K B v w = absurd w
div-round f (fin true m e) (fin t n i) a b L K B v w = absurd (true≢false v.0)
div-round f (fin false m e) (fin true n i) a b L K B v w = absurd (true≢false w.0)
div-round f (fin false m e) (fin false n i) a b L K B v w =
    ap (λ (z : Bool). cond z (cond (eqb m 0) nan (inf false)) (round f false (m * up e * down i) (n * up i * down e)))
    (not_eqb n (first_pos n (up i) Y))
    ∙ round_same f false (m * up e * down i) (n * up i * down e) a b (mul-pos Y (down_pos e)) B
    (cross (m * up e) (down e) (n * up i) (down i) v.1 w.1)
  where
    Y : 0 < n * up i
    Y = first_pos (n * up i) L (subst (λ (z : ℕ). 0 < z) (sym w.1) (mul-pos B (down_pos i)))

    cross : (X E Y I : ℕ) → X * L ≡ a * E → Y * L ≡ b * I → X * I * b ≡ a * (Y * E)
    cross X E Y I p q =
        eq_of_mul-eq-mul_right L K (X * I * b) (a * (Y * E))
        (let x = simp poly at (ap (λ (z : ℕ). z * (I * b)) p) in
        let y = simp poly at (ap (λ (z : ℕ). z * (a * E)) q) in
        simp poly (omega arith))

-- the quotient of two running sums whose exact quotient is at most M
pub above_zero : (W Y d : ℕ) → 0 < Y → d < 16775168 → Near W Y d → 0 < W
above_zero W Y d P h n = let s : d * Y < 16775168 * Y = mul-lt-mul_of_pos_right h P in omega (arith, mul_comm d Y)

quotient-bound : (A W X Y c d M : ℕ) → X ≤ M * Y → M * (c + d) + d ≤ 16775168 → Near A X c → Near W Y d → A ≤ (M + 1) * W
quotient-bound A W X Y c d M h r n m =
    let a : X * c ≤ M * Y * c = mul-le-mul_right c h in
    let b : (M + 1) * (Y * 16775168) ≤ (M + 1) * (W * 16775168 + Y * d) = mul-le-mul_left (M + 1) m.1 in
    let k : (M * (c + d) + d) * Y ≤ 16775168 * Y = mul-le-mul_right Y r in
    let a' = simp poly at a in
    let b' = simp poly at b in
    let k' = simp poly at k in
    let h' = simp poly at h in
    le_of_mul-le-mul_right {k = 16775168} (simp poly (omega (arith, n.0))) (lit< tt)

pub quotient-upto : (x y : Float) (X Y c d M : ℕ) → 0 < Y → X ≤ M * Y → d < 16775168 → M * (c + d) + d ≤ 16775168 → M < 16777215
    → Nearly x X c → Nearly y Y d → UpTo (div binary32 x y) (M + 1)
quotient-upto x y X Y c d M P h k r s u v =
    let W = above_zero v.size Y d P k v.near in
    subst (λ (z : Float). UpTo z (M + 1))
    (sym (div-round binary32 x y u.size v.size (2 ^ low binary32) (pow_pos (low binary32)) W u.units v.units))
    (round-upto binary32 u.size v.size (M + 1) W (omega arith) (quotient-bound u.size v.size X Y c d M h r u.near v.near))

-- a running sum whose exact value is above 0 is above 0
pub nearly-positive : (y : Float) (Y d : ℕ) → 0 < Y → d < 16775168 → Nearly y Y d → T (lt zero y)
nearly-positive y Y d P k v =
    let L = 2 ^ low binary32 in
    (lt-value zero y 0 0 v.size 0 L (pow_pos (low binary32)) nought (of-HasValue y false v.size L v.units)).1
    (more v.size (above_zero v.size Y d P k v.near))
  where
    nought : IsValue zero 0 0 (2 ^ low binary32)
    nought = record { is_finite = tt; equal = refl }

    more : (n : ℕ) → 0 < n → 0 + 0 < n + 0
    more n h = omega arith

pub nearly-positive-only : (y : Float) (Y d : ℕ) → T (lt zero y) → Nearly y Y d → 0 < Y
nearly-positive-only y Y d h v =
    let L = 2 ^ low binary32 in
    not_none v.size Y d ((lt-value zero y 0 0 v.size 0 L (pow_pos (low binary32)) (record { is_finite = tt; equal = refl })
    (of-HasValue y false v.size L v.units)).0 h) v.near.0
  where
    not_none : (A Y d : ℕ) → 0 + 0 < A + 0 → A * 16775168 ≤ Y * 16775168 + Y * d → 0 < Y
    not_none A none d p q = absurd (omega (arith, zero-mul d))
    not_none A (suc Y) d p q = omega arith
