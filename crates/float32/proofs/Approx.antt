-- How the operators carry approximations (`Within x p n c r`: |x - (p - n) / c| ≤ r / c), and where they are exact. All in the numbers p,
-- n, c, r of the statement:
-- no law here shows the format's smallest value, so at literals the conditions are small numbers. Assumes nothing.
use Rattle.std.proofs.Common.{◌≡◌, ℕ, suc, ◌+◌, ◌-◌, ◌*◌, ◌^◌, ◌<◌, ◌≤◌, Bool, true, false, cond, T, pos, sym, refl, ap, ◌∙◌, subst}
use Rattle.std.proofs.Common.{true≢false, le_trans, le_of_eq, lt_of_lt_of_le, add-zero, mul-le-mul_right, mul_assoc, mul_comm, add-mul}
use Rattle.std.proofs.Common.{le_antisymm, lt_of_mul-lt-mul_right, mul-le-mul_left, mul-lt-mul_of_pos_right, mul-pos, one-mul, pow-suc}
use Rattle.std.proofs.Common.{zero-mul, mul-one, mul_right_comm, le_of_mul-le-mul_right, mul_left_comm, arith, lit<, pow_pos, pow_mono}
use Rattle.std.proofs.Common.{pow-add}
use native.Mathlib.Nat.{eq_of_mul-eq-mul_right}
use lib.Ieee.{Float, nan, inf, fin, Format, prec, emax, low, up, down, round, neg, add, sub, mul, div, of_int, lt}
use lib.Ieee.Fits.{down_pos, reach}
use lib.Ieee.Exact.{HasValue, round_exact}
use lib.Ieee.Positive.{den, den_pos}
use lib.Ieee.Scale.{grid, finite, round_under, round_same}
use Rattle.float32.specs.Float32.{abs}
use Rattle.float32.specs.Value.{gain, loss, IsValue, Within, dist}
use Rattle.float32.proofs.Poly.{poly}
use Rattle.float32.proofs.Rounding.{HalfNear, ulp, grid-near, grid-under, round_val}
use Rattle.float32.proofs.Values.{IsFrac, SignedFrac, of-HasValue, rescale, add-frac, sub-frac, within-value, lt-value, spread}
use Rattle.float32.proofs.Values.{mul-frac, div-frac, mul-round}

-- ---- a float's own fraction
pub own : (x : Float) → T (finite x) → IsValue x (gain x) (loss x) (den x)
own x h = record { is_finite = h; equal = refl }

-- ---- fractions near one another: |(P - N) / D - (p - n) / c| ≤ r / c
abbrev pub FracWithin : ℕ → ℕ → ℕ → ℕ → ℕ → ℕ → ℕ → Type 0
FracWithin P N D p n c r = (P * c + n * D ≤ (p + r) * D + N * c) × (p * D + N * c ≤ P * c + (n + r) * D)

-- ±a / C is (P - N) / D, which is near (p - n) / c
near-frac : (s : Bool) (a C P N D p n c r : ℕ) → 0 < D → IsFrac s a C P N D → FracWithin P N D p n c r
    → FracWithin (cond s 0 a) (cond s a 0) C p n c r
near-frac s a C P N D p n c r E e h = (
  le_of_mul-le-mul_right
      (let x = simp poly at (ap (λ (z : ℕ). z * c) e) in
      let y = simp poly at (mul-le-mul_right C h.0) in
      simp poly (omega arith))
      E,
  le_of_mul-le-mul_right
      (let x = simp poly at (ap (λ (z : ℕ). z * c) e) in
      let y = simp poly at (mul-le-mul_right C h.1) in
      simp poly (omega arith))
      E,
)

frac-small : (s : Bool) (a C p n c r M : ℕ) → 0 < C → FracWithin (cond s 0 a) (cond s a 0) C p n c r → p + r < n + M * c
    → n + r < p + M * c → a < M * C
frac-small true a C p n c r M K e h k =
    lt_of_mul-lt-mul_right c
    (let x = simp poly at (mul-lt-mul_of_pos_right k K) in
    let y = simp poly at e.1 in
    simp poly (omega arith))
frac-small false a C p n c r M K e h k =
    lt_of_mul-lt-mul_right c
    (let x = simp poly at (mul-lt-mul_of_pos_right h K) in
    let y = simp poly at e.0 in
    simp poly (omega arith))

-- half a unit in the last place is at most h / c
fill : (x p : ℕ) → p ≤ x → x ≡ x - p + p
fill x p h = omega arith

half-ulp : (f : Format) (c j h : ℕ) → prec f ≤ low f + j → c * 2 ^ j ≤ h * 2 ^ suc (prec f) → ulp f j * c ≤ 2 ^ low f * h * 2
half-ulp f c j h J H =
    let u = ulp f j in
    let L = 2 ^ low f in
    let P = 2 ^ prec f in
    let e : u * P ≡ L * 2 ^ j = sym (pow-add 2 (low f + j - prec f) (prec f)) ∙ ap (λ (z : ℕ). 2 ^ z) (sym (fill (low f + j) (prec f) J))
    ∙ pow-add 2 (low f) j in
    let H' : c * 2 ^ j ≤ h * (P * 2) = le_trans H (le_of_eq (ap (λ (z : ℕ). h * z) (pow-suc 2 (prec f)))) in
    le_of_mul-le-mul_right
    (le_trans (le_of_eq (mul_right_comm u c P ∙ ap (λ (z : ℕ). z * c) e ∙ mul_assoc L (2 ^ j) c
    ∙ ap (λ (z : ℕ). L * z) (mul_comm (2 ^ j) c)))
    (le_trans (mul-le-mul_left L H') (le_of_eq (simp (mul_assoc, mul_comm, mul_left_comm)))))
    (pow_pos (prec f))

-- a fraction a / C, near (p - n) / c, moved to g / L
rounded-near : (g a L C u p n c r h : ℕ) → 0 < C → HalfNear (g * C) (a * L) (C * u) → u * c ≤ L * h * 2
    → (a * c + n * C ≤ (p + r) * C) × (p * C ≤ a * c + (n + r) * C)
    → (g * c + n * L ≤ (p + (r + h)) * L) × (p * L ≤ g * c + (n + (r + h)) * L)
rounded-near g a L C u p n c r h K e l m = (
  le_of_mul-le-mul_right
      (let x = simp poly at (mul-le-mul_right c e.0) in
      let y = simp poly at (mul-le-mul_right (L * 2) m.0) in
      let z = simp poly at (mul-le-mul_right C l) in
      simp poly (omega arith))
      (mul-pos K (two_pos)),
  le_of_mul-le-mul_right
      (let x = simp poly at (mul-le-mul_right c e.1) in
      let y = simp poly at (mul-le-mul_right (L * 2) m.1) in
      let z = simp poly at (mul-le-mul_right C l) in
      simp poly (omega arith))
      (mul-pos K (two_pos)),
)
  where
    two_pos : 0 < 2
    two_pos = omega arith

-- ---- what a rounding asks: (p - n) / c, known to r / c, lies below 2 ^ j in size, and half a unit in the last place there is at most h /
-- c. At literals one `omega arith` proves it.
pub record Binade (f : Format) (p n c r j h : ℕ) : Type 0 where
  pub under : p + r < n + 2 ^ j * c
  pub over : n + r < p + 2 ^ j * c
  pub half : c * 2 ^ j ≤ h * 2 ^ suc (prec f)
  pub in-range : j ≤ emax f
  pub normal : prec f ≤ low f + j

pub round-within : (f : Format) (s : Bool) (a C p n c r j h : ℕ) → 0 < C → FracWithin (cond s 0 a) (cond s a 0) C p n c r
    → Binade f p n c r j h → Within (round f s a C) p n c (r + h)
round-within f s a C p n c r j h K e m = go s e
  where
    small : a < 2 ^ j * C
    small = frac-small s a C p n c r (2 ^ j) K e m.under m.over

    val : (t : Bool) → IsValue (round f t a C) (cond t 0 (grid f a C)) (cond t (grid f a C) 0) (2 ^ low f)
    val t = of-HasValue (round f t a C) t (grid f a C) (2 ^ low f) (round_val f t a C (grid-under f a C j K m.in-range small))

    near : (p n : ℕ) → (a * c + n * C ≤ (p + r) * C) × (p * C ≤ a * c + (n + r) * C)
        → (grid f a C * c + n * 2 ^ low f ≤ (p + (r + h)) * 2 ^ low f) × (p * 2 ^ low f ≤ grid f a C * c + (n + (r + h)) * 2 ^ low f)
    near p n =
        rounded-near (grid f a C) a (2 ^ low f) C (ulp f j) p n c r h K (grid-near f a C j K small) (half-ulp f c j h m.normal m.half)

    go : (t : Bool) → FracWithin (cond t 0 a) (cond t a 0) C p n c r → Within (round f t a C) p n c (r + h)
    go true x =
        let w = near n p (omega arith) in
        within-value (round f true a C) 0 (grid f a C) (2 ^ low f) p n c (r + h) (pow_pos (low f)) (val true) (omega arith) (omega arith)
    go false x =
        let w = near p n (omega arith) in
        within-value (round f false a C) (grid f a C) 0 (2 ^ low f) p n c (r + h) (pow_pos (low f)) (val false) (omega arith) (omega arith)

frac-within : (f : Format) (x : Float) (P N D p n c r j h : ℕ) → 0 < D → SignedFrac f x P N D → FracWithin P N D p n c r
    → Binade f p n c r j h → Within x p n c (r + h)
frac-within f x P N D p n c r j h E s e m =
    subst (λ (z : Float). Within z p n c (r + h)) (sym s.is)
    (round-within f s.sign s.top s.bottom p n c r j h s.bottom-pos
    (near-frac s.sign s.top s.bottom P N D p n c r E s.frac e) m)

-- ---- sums and differences
own-over : (x : Float) (k : ℕ) → T (finite x) → IsValue x (gain x * k) (loss x * k) (den x * k)
own-over x k h =
    rescale x (gain x) (loss x) (den x) (gain x * k) (loss x * k) (den x * k) (den_pos x)
    (simp (mul_assoc, mul_comm, mul_left_comm)) (own x h)

sum_near : (G L D G' L' D' p n q m c r s : ℕ) → FracWithin G L D p n c r → FracWithin G' L' D' q m c s
    → FracWithin (G * D' + G' * D) (L * D' + L' * D) (D * D') (p + q) (n + m) c (r + s)
sum_near G L D G' L' D' p n q m c r s e k = (
  (let x = simp poly at (mul-le-mul_right D' e.0) in
      let y = simp poly at (mul-le-mul_right D k.0) in
      simp poly (omega arith)),
  (let x = simp poly at (mul-le-mul_right D' e.1) in
      let y = simp poly at (mul-le-mul_right D k.1) in
      simp poly (omega arith)),
)

pub add-within : (f : Format) (x y : Float) (p n q m c r s j h : ℕ) → Within x p n c r → Within y q m c s
    → Binade f (p + q) (n + m) c (r + s) j h → Within (add f x y) (p + q) (n + m) c (r + s + h)
add-within f x y p n q m c r s j h v w o =
    frac-within f (add f x y) (gain x * den y + gain y * den x) (loss x * den y + loss y * den x) (den x * den y) (p + q) (n + m) c
    (r + s) j h (mul-pos (den_pos x) (den_pos y))
    (add-frac f x y (gain x * den y) (loss x * den y) (gain y * den x) (loss y * den x) (den x * den y) (own-over x (den y) v.is_finite)
    (subst (λ (z : ℕ). IsValue y (gain y * den x) (loss y * den x) z) (mul_comm (den y) (den x)) (own-over y (den x) w.is_finite)))
    (sum_near (gain x) (loss x) (den x) (gain y) (loss y) (den y) p n q m c r s (v.at_most, v.at_least) (w.at_most, w.at_least))
    o

neg-within : (x : Float) (p n c r : ℕ) → Within x p n c r → Within (neg x) n p c r
unfolding neg
neg-within nan p n c r v = absurd v.is_finite
neg-within (inf s) p n c r v = absurd v.is_finite
neg-within (fin true m i) p n c r v = record { is_finite = tt; at_most = omega (arith, v.at_least); at_least = omega (arith, v.at_most) }
neg-within (fin false m i) p n c r v = record { is_finite = tt; at_most = omega (arith, v.at_least); at_least = omega (arith, v.at_most) }

pub sub_within : (f : Format) (x y : Float) (p n q m c r s j h : ℕ) → Within x p n c r → Within y q m c s
    → Binade f (p + m) (n + q) c (r + s) j h → Within (sub f x y) (p + m) (n + q) c (r + s + h)
unfolding sub
sub_within f x y p n q m c r s j h v w o = add-within f x (neg y) p n m q c r s j h v (neg-within y q m c s w) o

-- ---- products and quotients
-- an integer q - m times an approximation
scaled-near : (q m G L D p n c r : ℕ) → FracWithin G L D p n c r
    → FracWithin (q * G + m * L) (q * L + m * G) (1 * D) (q * p + m * n) (q * n + m * p) c ((q + m) * r)
scaled-near q m G L D p n c r e = (
  (let x = simp poly at (mul-le-mul_left q e.0) in
      let y = simp poly at (mul-le-mul_left m e.1) in
      simp (one-mul, poly) (omega arith)),
  (let x = simp poly at (mul-le-mul_left q e.1) in
      let y = simp poly at (mul-le-mul_left m e.0) in
      simp (one-mul, poly) (omega arith)),
)

pub mul-within : (f : Format) (y x : Float) (q m p n c r j h : ℕ) → IsValue y q m 1 → Within x p n c r
    → Binade f (q * p + m * n) (q * n + m * p) c ((q + m) * r) j h
    → Within (mul f y x) (q * p + m * n) (q * n + m * p) c ((q + m) * r + h)
mul-within f y x q m p n c r j h v w o =
    frac-within f (mul f y x) (q * gain x + m * loss x) (q * loss x + m * gain x) (1 * den x) (q * p + m * n) (q * n + m * p) c
    ((q + m) * r) j h (mul-pos (lit< tt) (den_pos x))
    (mul-frac f y x q m 1 (gain x) (loss x) (den x) v (own x w.is_finite))
    (scaled-near q m (gain x) (loss x) (den x) p n c r (w.at_most, w.at_least))
    o

pub div-within : (f : Format) (x y : Float) (k p n c r j h : ℕ) → 0 < k → HasValue y false k 1 → Within x p n c r
    → Binade f p n (k * c) r j h → Within (div f x y) p n (k * c) (r + h)
div-within f x y k p n c r j h K v w o =
    frac-within f (div f x y) (gain x) (loss x) (k * den x) p n (k * c) r j h (mul-pos K (den_pos x))
    (div-frac f x y k (gain x) (loss x) (den x) K v (own x w.is_finite))
    (divided (gain x) (loss x) (den x) (w.at_most, w.at_least))
    o
  where
    divided : (G L D : ℕ) → FracWithin G L D p n c r → FracWithin G L (k * D) p n (k * c) r
    divided G L D e = (
      (let x = simp poly at (mul-le-mul_left k e.0) in simp poly (omega arith)),
      (let x = simp poly at (mul-le-mul_left k e.1) in simp poly (omega arith)),
    )

-- ---- the absolute value
dist-mul : (a b k : ℕ) → dist a b * k ≡ dist (a * k) (b * k)
dist-mul a b k = omega (arith, add-mul (a - b) (b - a) k, spread k a b, spread k b a)

-- g / D is the size of (p - n), to r
size-near : (g D p n r : ℕ) → g + n * D ≤ (p + r) * D → p * D ≤ g + (n + r) * D
    → (g + 0 * D ≤ (dist p n + r) * D) × (dist p n * D ≤ g + (0 + r) * D)
size-near g D p n r e k = omega (arith, dist-mul p n D, add-mul (dist p n) r D, add-mul p r D, add-mul n r D, add-mul 0 r D)

pub abs-within : (x : Float) (p n c r : ℕ) → Within x p n c r → Within (abs x) (dist p n) 0 c r
unfolding abs
abs-within nan p n c r w = absurd w.is_finite
abs-within (inf s) p n c r w = absurd w.is_finite
abs-within (fin true m i) p n c r w =
    let z = size-near (m * up i * c) (down i) n p r (omega (arith, w.at_least)) (omega (arith, w.at_most)) in
    let e : dist n p ≡ dist p n = omega arith in
    subst (λ (q : ℕ). Within (fin false m i) q 0 c r) e (record { is_finite = tt; at_most = omega arith; at_least = omega arith })
abs-within (fin false m i) p n c r w =
    let z = size-near (m * up i * c) (down i) p n r (omega (arith, w.at_most)) (omega (arith, w.at_least)) in
    record { is_finite = tt; at_most = omega arith; at_least = omega arith }

-- ---- an exact value is an approximation, and one approximation implies another
pub value-within : (x : Float) (p n c : ℕ) → IsValue x p n c → Within x p n c 0
value-within x p n c v = record {
  is_finite = v.is_finite;
  at_most = omega (arith, v.equal, add-mul p 0 (den x));
  at_least = omega (arith, v.equal, add-mul n 0 (den x));
}

-- (p - n ± r) / c lies within (q - m ± s) / d
pub restate : (x : Float) (p n c r q m d s : ℕ) → 0 < c → (p + r) * d + m * c ≤ (q + s) * c + n * d
    → q * c + (n + r) * d ≤ p * d + (m + s) * c → Within x p n c r → Within x q m d s
restate x p n c r q m d s C e k w = record {
  is_finite = w.is_finite;
  at_most =
      le_of_mul-le-mul_right
      (let y = simp poly at (mul-le-mul_right d w.at_most) in
      let z = simp poly at (mul-le-mul_right (den x) e) in
      simp poly (omega arith))
      C;
  at_least =
      le_of_mul-le-mul_right
      (let y = simp poly at (mul-le-mul_right d w.at_least) in
      let z = simp poly at (mul-le-mul_right (den x) k) in
      simp poly (omega arith))
      C;
}

-- ---- the order: two approximations that do not overlap
pub lt-within : (x y : Float) (p n q m c r s : ℕ) → 0 < c → Within x p n c r → Within y q m c s → p + m + (r + s) < q + n → T (lt x y)
lt-within x y p n q m c r s C v w h =
    (lt-value x y (gain x * den y) (loss x * den y) (gain y * den x) (loss y * den x) (den x * den y) (mul-pos (den_pos x) (den_pos y))
    (own-over x (den y) v.is_finite)
    (subst (λ (z : ℕ). IsValue y (gain y * den x) (loss y * den x) z) (mul_comm (den y) (den x)) (own-over y (den x) w.is_finite))
    ).1
    (apart (gain x) (loss x) (den x) (gain y) (loss y) (den y) (den_pos x) (den_pos y) v.at_most w.at_least)
  where
    apart : (G L D G' L' D' : ℕ) → 0 < D → 0 < D' → G * c + n * D ≤ (p + r) * D + L * c → q * D' + L' * c ≤ G' * c + (m + s) * D'
        → G * D' + L' * D < G' * D + L * D'
    apart G L D G' L' D' P P' e k =
        lt_of_mul-lt-mul_right c
        (let x = simp poly at (mul-le-mul_right D' e) in
        let y = simp poly at (mul-le-mul_right D k) in
        let z = simp poly at (mul-lt-mul_of_pos_right h (mul-pos P P')) in
        simp poly (omega arith))

-- ---- exact results: a multiple (p - n) / 2 ^ i of 2 ^ -i with no more digits than the format keeps. At literals one `omega arith` proves
-- `Digits`.
pub record Digits (f : Format) (p n i : ℕ) : Type 0 where
  pub under : p < n + 2 ^ prec f
  pub over : n < p + 2 ^ prec f
  pub fine : i ≤ low f

gap_below : (x y z : ℕ) → y ≤ x → x < y + z → x - y < z
gap_below x y z l h = omega arith

pub round-exact-at : (f : Format) (s : Bool) (a C p n i : ℕ) → 0 < C → IsFrac s a C p n (2 ^ i) → Digits f p n i
    → IsValue (round f s a C) p n (2 ^ i)
round-exact-at f s a C p n i K e d = go s e
  where
    split : 2 ^ low f ≡ 2 ^ i * 2 ^ (low f - i)
    split = ap (λ (z : ℕ). 2 ^ z) (parts (low f) i d.fine) ∙ pow-add 2 i (low f - i)
      where
        parts : (x y : ℕ) → y ≤ x → x ≡ y + (x - y)
        parts x y h = omega arith

    -- of size q / 2 ^ i
    val : (t : Bool) (q : ℕ) → q < 2 ^ prec f → a * 2 ^ i ≡ q * C → HasValue (round f t a C) t a C
    val t q h m =
        round_exact f t a C q (low f - i) K h
        (lt_of_lt_of_le (mul-lt-mul_of_pos_right h (pow_pos (low f - i)))
        (le_trans (le_of_eq (sym (pow-add 2 (prec f) (low f - i)))) (pow_mono (enough (prec f) (low f) i (suc (emax f)) (reach f)))))
        (ap (λ (z : ℕ). a * z) split ∙ sym (mul_assoc a (2 ^ i) (2 ^ (low f - i))) ∙ ap (λ (z : ℕ). z * 2 ^ (low f - i)) m
        ∙ mul_right_comm q C (2 ^ (low f - i)))
      where
        enough : (p l i e : ℕ) → p ≤ e → p + (l - i) ≤ l + e
        enough p l i e h = omega arith

    go : (t : Bool) → IsFrac t a C p n (2 ^ i) → IsValue (round f t a C) p n (2 ^ i)
    go true x =
        let h : p ≤ n = le_of_mul-le-mul_right (omega arith) K in
        rescale (round f true a C) 0 a C p n (2 ^ i) K (omega arith)
        (of-HasValue (round f true a C) true a C (val true (n - p) (gap_below n p (2 ^ prec f) h d.over) (omega (arith, spread C n p))))
    go false x =
        let h : n ≤ p = le_of_mul-le-mul_right (omega arith) K in
        rescale (round f false a C) a 0 C p n (2 ^ i) K (omega arith)
        (of-HasValue (round f false a C) false a C
        (val false (p - n) (gap_below p n (2 ^ prec f) h d.under) (omega (arith, spread C p n))))

pub frac-exact : (f : Format) (x : Float) (P N D p n i : ℕ) → 0 < D → SignedFrac f x P N D → P * 2 ^ i + n * D ≡ p * D + N * 2 ^ i
    → Digits f p n i → IsValue x p n (2 ^ i)
frac-exact f x P N D p n i E s e d =
    subst (λ (z : Float). IsValue z p n (2 ^ i)) (sym s.is)
    (round-exact-at f s.sign s.top s.bottom p n i s.bottom-pos
    (turn (cond s.sign 0 s.top) (cond s.sign s.top 0) s.bottom s.frac) d)
  where
    turn : (A B C : ℕ) → A * D + N * C ≡ P * C + B * D → A * 2 ^ i + n * C ≡ p * C + B * 2 ^ i
    turn A B C m =
        eq_of_mul-eq-mul_right D E (A * 2 ^ i + n * C) (p * C + B * 2 ^ i)
        (let x = simp poly at (ap (λ (z : ℕ). z * 2 ^ i) m) in
        let y = simp poly at (ap (λ (z : ℕ). z * C) e) in
        simp poly (omega arith))

pub sub-exact : (f : Format) (x y : Float) (p n q m i : ℕ) → IsValue x p n (2 ^ i) → IsValue y q m (2 ^ i) → Digits f (p + m) (n + q) i
    → IsValue (sub f x y) (p + m) (n + q) (2 ^ i)
sub-exact f x y p n q m i v w d =
    frac-exact f (sub f x y) (p + m) (n + q) (2 ^ i) (p + m) (n + q) i (pow_pos i) (sub-frac f x y p n q m (2 ^ i) v w) refl d

pub scale-exact : (f : Format) (y x : Float) (k p n i : ℕ) → IsValue y k 0 1 → IsValue x p n (2 ^ i) → Digits f (k * p) (k * n) i
    → IsValue (mul f y x) (k * p) (k * n) (2 ^ i)
scale-exact f y x k p n i v w d =
    frac-exact f (mul f y x) (k * p + 0 * n) (k * n + 0 * p) (1 * 2 ^ i) (k * p) (k * n) i (mul-pos (lit< tt) (pow_pos i))
    (mul-frac f y x k 0 1 p n (2 ^ i) v w) (simp (zero-mul, one-mul, add-zero)) d

-- a quotient that divides
pub div-exact : (f : Format) (x y : Float) (k p n c q m i : ℕ) → 0 < k → 0 < c → HasValue y false k 1 → IsValue x p n c
    → p * 2 ^ i + m * (k * c) ≡ q * (k * c) + n * 2 ^ i → Digits f q m i → IsValue (div f x y) q m (2 ^ i)
div-exact f x y k p n c q m i K C v w e d = frac-exact f (div f x y) p n (k * c) q m i (mul-pos K C) (div-frac f x y k p n c K v w) e d

pub abs-exact : (x : Float) (p n c : ℕ) → IsValue x p n c → IsValue (abs x) (dist p n) 0 c
abs-exact x p n c v =
    let w = abs-within x p n c 0 (value-within x p n c v) in
    record {
      is_finite = w.is_finite;
      equal = le_antisymm (omega (arith, w.at_most, add-mul (dist p n) 0 (den (abs x))))
          (omega (arith, w.at_least, add-mul (dist p n) 0 (den (abs x))));
    }

pub lt-asym : (x y : Float) → T (finite x) → T (finite y) → T (lt x y) → T (lt y x) → ⊥
lt-asym x y h k l m =
    let v = own-over x (den y) h in
    let w = subst (λ (z : ℕ). IsValue y (gain y * den x) (loss y * den x) z) (mul_comm (den y) (den x)) (own-over y (den x) k) in
    let a = (lt-value x y (gain x * den y) (loss x * den y) (gain y * den x) (loss y * den x) (den x * den y)
    (mul-pos (den_pos x) (den_pos y)) v w).0 l in
    let b = (lt-value y x (gain y * den x) (loss y * den x) (gain x * den y) (loss x * den y) (den x * den y)
    (mul-pos (den_pos x) (den_pos y)) w v).0 m in
    omega arith

-- ---- the sign of what is not below 0
-- a product of two floats of the sign + has it
pub plus-of-product : (f : Format) (x y : Float) (a c b d p k : ℕ) → 0 < c → 0 < d → HasValue x false a c → HasValue y false b d
    → IsValue (mul f x y) p 0 k → HasValue (mul f x y) false p k
plus-of-product f x y a c b d p k C D v w m =
    let e = mul-round f x y false false a c b d C D v w in
    let h : T (finite (round f false (a * b) (c * d))) = subst (λ (z : Float). T (finite z)) e m.is_finite in
    given (mul f x y) (grid f (a * b) (c * d)) (2 ^ low f)
    (subst (λ (z : Float). HasValue z false (grid f (a * b) (c * d)) (2 ^ low f)) (sym e)
    (round_val f false (a * b) (c * d) (round_under f (a * b) (c * d) h))) m
  where
    given : (z : Float) (g l : ℕ) → HasValue z false g l → IsValue z p 0 k → HasValue z false p k
    given nan g l h m = absurd h
    given (inf s) g l h m = absurd h
    given (fin true a i) g l h m = absurd (true≢false h.0)
    given (fin false a i) g l h m = (refl, omega (arith, m.equal))

pub plus-of-abs : (x : Float) (p k : ℕ) → IsValue (abs x) p 0 k → HasValue (abs x) false p k
unfolding abs
plus-of-abs nan p k m = absurd m.is_finite
plus-of-abs (inf s) p k m = absurd m.is_finite
plus-of-abs (fin s a i) p k m = (refl, omega (arith, m.equal))

-- ---- a sum of whole numbers is the float of the sum: whatever the order of summing, as long as no sum passes 2 ^ prec
pub add-whole : (f : Format) (x y : Float) (a b : ℕ) → HasValue x false a 1 → HasValue y false b 1 → add f x y ≡ of_int f (pos (a + b))
unfolding of_int add
add-whole f nan y a b v w = absurd v
add-whole f (inf s) y a b v w = absurd v
add-whole f (fin s m e) nan a b v w = absurd w
add-whole f (fin s m e) (inf t) a b v w = absurd w
add-whole f (fin true m e) (fin t n d) a b v w = absurd (true≢false v.0)
add-whole f (fin false m e) (fin true n d) a b v w = absurd (true≢false w.0)
add-whole f (fin false m e) (fin false n d) a b v w =
    round_same f false (m * up e * down d + n * up d * down e) (down e * down d) (a + b) 1 (mul-pos (down_pos e) (down_pos d)) (lit< tt)
    (let x : m * up e * down d ≡ a * (down e * down d) =
    ap (λ (z : ℕ). z * down d) (sym (mul-one (m * up e)) ∙ v.1) ∙ mul_assoc a (down e) (down d) in
    let y : n * up d * down e ≡ b * (down e * down d) = ap (λ (z : ℕ). z * down e) (sym (mul-one (n * up d)) ∙ w.1)
    ∙ mul_assoc b (down d) (down e) ∙ ap (λ (z : ℕ). b * z) (mul_comm (down d) (down e)) in
    omega (arith, add-mul a b (down e * down d)))
