-- Laws of the operators on the numbers that floats are. `HasValue x s a c` is a sign and a size, good for products and quotients;
-- `IsValue x p n c` is a difference, good for sums: no law on it goes by the signs. Assumes nothing.
use Rattle.std.proofs.Common.{◌≡◌, ℕ, zero, suc, ◌+◌, ◌-◌, ◌*◌, ◌^◌, ◌<◌, ◌≤◌, Bool, true, false, cond, not, ◌&&◌, ◌||◌, T, eqb, ltb, ◌⊎◌}
use Rattle.std.proofs.Common.{◌↔◌, pos, sym, refl, ap, ◌∙◌, subst, inl, inr, ⊎_elim, true≢false, le_trans, le_of_eq, lt_of_lt_of_le}
use Rattle.std.proofs.Common.{le_of_lt, lt_irrefl, mul-le-mul_right, mul_comm, add-mul, eq-zero-or-pos, le_antisymm, lt_of_mul-lt-mul_right}
use Rattle.std.proofs.Common.{eq-or-lt_of_le, mul-lt-mul_of_pos_right, mul-pos, mul-zero, zero-mul, mul-one, mul-add, mul_right_comm}
use Rattle.std.proofs.Common.{le_of_mul-le-mul_right, arith, eqb→eq, ltb→lt, lt→ltb, nltb→le, pow_pos, pow_mono, pow-add}
use native.Mathlib.Nat.{eq_of_mul-eq-mul_right, mul-mul-mul_comm, mul-sub}
use lib.Dec.{eqb-suc-zero}
use lib.Ieee.{Float, nan, inf, fin, Format, binary32, binary64, prec, emax, low, up, down, unlike, round, neg, sum, add, sub, mul, div}
use lib.Ieee.{of_int, lt, eq, le}
use lib.Ieee.Fits.{down_pos, reach, and_i, and_l, and_r, eq→eqb}
use lib.Ieee.Exact.{HasValue, round_exact}
use lib.Ieee.Positive.{den, den_pos, first_pos}
use lib.Ieee.Scale.{finite, round_same}
use Rattle.float32.specs.Value.{gain, loss, IsValue, Within, dist}
use Rattle.float32.proofs.Poly.{poly}

-- ---- ±a / c = (p - n) / d
abbrev pub IsFrac : Bool → ℕ → ℕ → ℕ → ℕ → ℕ → Type 0
IsFrac s a c p n d = cond s 0 a * d + n * c ≡ p * c + cond s a 0 * d

pub of-HasValue : (x : Float) (s : Bool) (a c : ℕ) → HasValue x s a c → IsValue x (cond s 0 a) (cond s a 0) c
of-HasValue nan s a c h = absurd h
of-HasValue (inf t) s a c h = absurd h
of-HasValue (fin true m e) true a c h = record { is_finite = tt; equal = let v = h.1 in omega arith }
of-HasValue (fin true m e) false a c h = absurd (true≢false h.0)
of-HasValue (fin false m e) true a c h = absurd (true≢false (sym h.0))
of-HasValue (fin false m e) false a c h = record { is_finite = tt; equal = let v = h.1 in omega arith }

-- two fractions that one value is
pub value-unique : (x : Float) (s : Bool) (a c b d : ℕ) → HasValue x s a c → HasValue x s b d → a * d ≡ b * c
value-unique nan s a c b d h k = absurd h
value-unique (inf t) s a c b d h k = absurd h
value-unique (fin t m e) s a c b d h k =
    eq_of_mul-eq-mul_right (down e) (down_pos e) (a * d) (b * c)
    (mul_right_comm a d (down e) ∙ ap (λ (z : ℕ). z * d) (sym h.1) ∙ mul_right_comm (m * up e) c d ∙ ap (λ (z : ℕ). z * c) k.1
    ∙ mul_right_comm b (down e) c)

-- ---- the same number as another fraction
-- (p - n) / c = (q - m) / d
rescale-eq : (G L D c d p n q m : ℕ) → 0 < c → p * d + m * c ≡ q * c + n * d → G * c + n * D ≡ p * D + L * c → G * d + m * D ≡ q * D + L * d
rescale-eq G L D c d p n q m C e v =
    eq_of_mul-eq-mul_right c C (G * d + m * D) (q * D + L * d)
    (let x = simp poly at (ap (λ (z : ℕ). z * d) v) in
    let y = simp poly at (ap (λ (z : ℕ). z * D) e) in
    simp poly (omega arith))

pub rescale : (x : Float) (p n c q m d : ℕ) → 0 < c → p * d + m * c ≡ q * c + n * d → IsValue x p n c → IsValue x q m d
rescale x p n c q m d C e v = record {
  is_finite = v.is_finite;
  equal = rescale-eq (gain x) (loss x) (den x) c d p n q m C e v.equal;
}

pub spread : (k P N : ℕ) → (P - N) * k ≡ P * k - N * k
spread k P N = mul_comm (P - N) k ∙ mul-sub k P N ∙ ap (λ (z : ℕ). z - k * N) (mul_comm k P) ∙ ap (λ (z : ℕ). P * k - z) (mul_comm k N)

-- ---- what an operation hands to `round`: x is (p - n) / d rounded
pub record SignedFrac (f : Format) (x : Float) (p n d : ℕ) : Type 0 where
  pub sign : Bool
  pub top : ℕ
  pub bottom : ℕ
  pub bottom-pos : 0 < bottom
  pub is : x ≡ round f sign top bottom
  pub frac : IsFrac sign top bottom p n d

alike : (s : Bool) (a b c p n q m d : ℕ) → IsFrac s a c p n d → IsFrac s b c q m d → IsFrac s (a + b) c (p + q) (n + m) d
alike true a b c p n q m d e k = omega (arith, add-mul a b d, add-mul p q c, add-mul n m c)
alike false a b c p n q m d e k = omega (arith, add-mul a b d, add-mul p q c, add-mul n m c)

-- a / c - b / c, by the sign of the difference
down_to : (a b c p n q m d : ℕ) → b ≤ a → IsFrac false a c p n d → IsFrac true b c q m d → IsFrac false (a - b) c (p + q) (n + m) d
down_to a b c p n q m d h e k = omega (arith, spread d a b, mul-le-mul_right d h, add-mul p q c, add-mul n m c)

down-past : (a b c p n q m d : ℕ) → a ≤ b → IsFrac false a c p n d → IsFrac true b c q m d → IsFrac true (b - a) c (p + q) (n + m) d
down-past a b c p n q m d h e k = omega (arith, spread d b a, mul-le-mul_right d h, add-mul p q c, add-mul n m c)

swap : (s : Bool) (a c p n q m d : ℕ) → IsFrac s a c (q + p) (m + n) d → IsFrac s a c (p + q) (n + m) d
swap s a c p n q m d e = omega (arith, add-mul p q c, add-mul n m c, add-mul q p c, add-mul m n c)

sum-frac : (f : Format) (s : Bool) (a : ℕ) (t : Bool) (b c p n q m d : ℕ) → 0 < c → IsFrac s a c p n d → IsFrac t b c q m d
    → SignedFrac f (sum f s a t b c) (p + q) (n + m) d
unfolding sum
sum-frac f true a true b c p n q m d C e k =
    record { sign = true; top = a + b; bottom = c; bottom-pos = C; is = refl; frac = alike true a b c p n q m d e k }
sum-frac f false a false b c p n q m d C e k =
    record { sign = false; top = a + b; bottom = c; bottom-pos = C; is = refl; frac = alike false a b c p n q m d e k }
sum-frac f false a true b c p n q m d C e k = go (ltb a b) (ltb→lt a b) (nltb→le a b)
  where
    go : (w : Bool) → (T w → a < b) → (T (not w) → b ≤ a)
        → SignedFrac f (cond w (round f true (b - a) c) (round f false (a - b) c)) (p + q) (n + m) d
    go true h l =
        record { sign = true; top = b - a; bottom = c; bottom-pos = C; is = refl; frac = down-past a b c p n q m d (le_of_lt (h tt)) e k }
    go false h l = record { sign = false; top = a - b; bottom = c; bottom-pos = C; is = refl; frac = down_to a b c p n q m d (l tt) e k }
sum-frac f true a false b c p n q m d C e k = go (ltb a b) (ltb b a) (ltb→lt a b) (nltb→le a b) (nltb→le b a)
  where
    go : (w v : Bool) → (T w → a < b) → (T (not w) → b ≤ a) → (T (not v) → a ≤ b)
        → SignedFrac f (cond w (round f false (b - a) c) (round f v (a - b) c)) (p + q) (n + m) d
    go true v h l l' =
        record {
          sign = false;
          top = b - a;
          bottom = c;
          bottom-pos = C;
          is = refl;
          frac = swap false (b - a) c p n q m d (down_to b a c q m p n d (le_of_lt (h tt)) k e);
        }
    go false true h l l' =
        record {
          sign = true;
          top = a - b;
          bottom = c;
          bottom-pos = C;
          is = refl;
          frac = swap true (a - b) c p n q m d (down-past b a c q m p n d (l tt) k e);
        }
    go false false h l l' =
        record {
          sign = false;
          top = a - b;
          bottom = c;
          bottom-pos = C;
          is = refl;
          frac = let x : a ≡ b = le_antisymm (l' tt) (l tt) in
              let y : a - b ≡ b - a = ap (λ (z : ℕ). z - b) x ∙ ap (λ (z : ℕ). b - z) (sym x) in
              subst (λ (z : ℕ). IsFrac false z c (p + q) (n + m) d) (sym y)
              (swap false (b - a) c p n q m d (down_to b a c q m p n d (l' tt) k e));
        }

-- a value's own fraction, over a larger denominator
times : (s : Bool) (x e c p n k : ℕ) → IsFrac s x e p n c → IsFrac s (x * k) (e * k) p n c
times true x e c p n k h = let y = simp poly at (ap (λ (z : ℕ). z * k) h) in simp poly (omega arith)
times false x e c p n k h = let y = simp poly at (ap (λ (z : ℕ). z * k) h) in simp poly (omega arith)

pub add-frac : (f : Format) (x y : Float) (p n q m d : ℕ) → IsValue x p n d → IsValue y q m d → SignedFrac f (add f x y) (p + q) (n + m) d
unfolding add
add-frac f nan y p n q m d e k = absurd e.is_finite
add-frac f (inf s) y p n q m d e k = absurd e.is_finite
add-frac f (fin s a i) nan p n q m d e k = absurd k.is_finite
add-frac f (fin s a i) (inf t) p n q m d e k = absurd k.is_finite
add-frac f (fin s a i) (fin t b o) p n q m d e k =
    sum-frac f s (a * up i * down o) t (b * up o * down i) (down i * down o) p n q m d (mul-pos (down_pos i) (down_pos o))
    (times s (a * up i) (down i) d p n (down o) e.equal)
    (subst (λ (z : ℕ). IsFrac t (b * up o * down i) z q m d) (mul_comm (down o) (down i))
    (times t (b * up o) (down o) d q m (down i) k.equal))

neg_value : (x : Float) (p n c : ℕ) → IsValue x p n c → IsValue (neg x) n p c
unfolding neg
neg_value nan p n c e = absurd e.is_finite
neg_value (inf s) p n c e = absurd e.is_finite
neg_value (fin true m i) p n c e = record { is_finite = tt; equal = let x = e.equal in omega arith }
neg_value (fin false m i) p n c e = record { is_finite = tt; equal = let x = e.equal in omega arith }

pub sub-frac : (f : Format) (x y : Float) (p n q m d : ℕ) → IsValue x p n d → IsValue y q m d → SignedFrac f (sub f x y) (p + m) (n + q) d
unfolding sub
sub-frac f x y p n q m d e k = add-frac f x (neg y) p n m q d e (neg_value y q m d k)

-- ---- products
-- (A - B) (A' - B') = (p - n) (q - m), from the two factors' equations
product : (A B p n A' B' q m : ℕ) → A + n ≡ p + B → A' + m ≡ q + B' → A * A' + B * B' + (p * m + n * q) ≡ p * q + n * m + (A * B' + B * A')
product A B p n A' B' q m e k =
    let x = simp add-mul at (ap (λ (z : ℕ). z * A') e) in
    let y = simp add-mul at (ap (λ (z : ℕ). z * B') e) in
    let z = simp mul-add at (ap (λ (z : ℕ). p * z) k) in
    let w = simp mul-add at (ap (λ (z : ℕ). n * z) k) in
    omega arith

product-frac : (s t : Bool) (X Y D E p n q m c d : ℕ) → IsFrac s X D p n c → IsFrac t Y E q m d
    → IsFrac (unlike s t) (X * Y) (D * E) (p * q + n * m) (p * m + n * q) (c * d)
product-frac true true X Y D E p n q m c d e k =
    let h = simp (zero-mul, mul-zero, poly) at (product (0 * c) (X * c) (p * D) (n * D) (0 * d) (Y * d) (q * E) (m * E) e k) in
    simp (zero-mul, poly) (omega arith)
product-frac true false X Y D E p n q m c d e k =
    let h = simp (zero-mul, mul-zero, poly) at (product (0 * c) (X * c) (p * D) (n * D) (Y * d) (0 * d) (q * E) (m * E) e k) in
    simp (zero-mul, poly) (omega arith)
product-frac false true X Y D E p n q m c d e k =
    let h = simp (zero-mul, mul-zero, poly) at (product (X * c) (0 * c) (p * D) (n * D) (0 * d) (Y * d) (q * E) (m * E) e k) in
    simp (zero-mul, poly) (omega arith)
product-frac false false X Y D E p n q m c d e k =
    let h = simp (zero-mul, mul-zero, poly) at (product (X * c) (0 * c) (p * D) (n * D) (Y * d) (0 * d) (q * E) (m * E) e k) in
    simp (zero-mul, poly) (omega arith)

pub mul-frac : (f : Format) (x y : Float) (p n c q m d : ℕ) → IsValue x p n c → IsValue y q m d
    → SignedFrac f (mul f x y) (p * q + n * m) (p * m + n * q) (c * d)
unfolding mul
mul-frac f nan y p n c q m d e k = absurd e.is_finite
mul-frac f (inf s) y p n c q m d e k = absurd e.is_finite
mul-frac f (fin s a i) nan p n c q m d e k = absurd k.is_finite
mul-frac f (fin s a i) (inf t) p n c q m d e k = absurd k.is_finite
mul-frac f (fin s a i) (fin t b o) p n c q m d e k = record {
  sign = unlike s t;
  top = a * up i * (b * up o);
  bottom = down i * down o;
  bottom-pos = mul-pos (down_pos i) (down_pos o);
  is = refl;
  frac = product-frac s t (a * up i) (b * up o) (down i) (down o) p n q m c d e.equal k.equal;
}

no_zero : (Y b d Dd : ℕ) → 0 < b → 0 < Dd → Y * d ≡ b * Dd → 0 < Y
no_zero Y b d Dd B D e = first_pos Y d (subst (λ (z : ℕ). 0 < z) (sym e) (mul-pos B D))

pub not_eqb : (n : ℕ) → 0 < n → eqb n 0 ≡ false
not_eqb zero h = absurd (lt_irrefl 0 h)
not_eqb (suc n) h = eqb-suc-zero n

-- ---- quotients by a whole number k above 0
quotient-frac : (s : Bool) (X D Y E k p n c : ℕ) → Y * 1 ≡ k * E → IsFrac s X D p n c → IsFrac s (X * E) (Y * D) p n (k * c)
quotient-frac true X D Y E k p n c v e = let x = simp poly at (ap (λ (z : ℕ). z * (k * E)) e) in
    let y : Y ≡ k * E = sym (mul-one Y) ∙ v in
    rw y (simp poly (omega arith))
quotient-frac false X D Y E k p n c v e = let x = simp poly at (ap (λ (z : ℕ). z * (k * E)) e) in
    let y : Y ≡ k * E = sym (mul-one Y) ∙ v in
    rw y (simp poly (omega arith))

pub same_sign : (s : Bool) → unlike s false ≡ s
same_sign true = refl
same_sign false = refl

pub div-frac : (f : Format) (x y : Float) (k p n c : ℕ) → 0 < k → HasValue y false k 1 → IsValue x p n c
    → SignedFrac f (div f x y) p n (k * c)
unfolding div
div-frac f nan y k p n c K v e = absurd e.is_finite
div-frac f (inf s) y k p n c K v e = absurd e.is_finite
div-frac f (fin s a i) nan k p n c K v e = absurd v
div-frac f (fin s a i) (inf t) k p n c K v e = absurd v
div-frac f (fin s a i) (fin true b o) k p n c K v e = absurd (true≢false v.0)
div-frac f (fin s a i) (fin false b o) k p n c K v e = record {
  sign = s;
  top = a * up i * down o;
  bottom = b * up o * down i;
  bottom-pos = mul-pos Y (down_pos i);
  is =
      ap (λ (z : Bool). cond z (cond (eqb a 0) nan (inf (unlike s false)))
      (round f (unlike s false) (a * up i * down o) (b * up o * down i))) (not_eqb b (first_pos b (up o) Y))
      ∙ ap (λ (z : Bool). round f z (a * up i * down o) (b * up o * down i)) (same_sign s);
  frac = quotient-frac s (a * up i) (down i) (b * up o) (down o) k p n c v.1 e.equal;
}
  where
    Y : 0 < b * up o
    Y = no_zero (b * up o) k 1 (down o) K (down_pos o) v.1

-- ---- a product by sign and size
cross-mul : (X De Y Dd a c b d : ℕ) → X * c ≡ a * De → Y * d ≡ b * Dd → X * Y * (c * d) ≡ a * b * (De * Dd)
cross-mul X De Y Dd a c b d h k =
    mul-mul-mul_comm X Y c d ∙ ap (λ (z : ℕ). z * (Y * d)) h ∙ ap (λ (z : ℕ). a * De * z) k ∙ mul-mul-mul_comm a De b Dd

pub mul-round : (f : Format) (x y : Float) (s t : Bool) (a c b d : ℕ) → 0 < c → 0 < d → HasValue x s a c → HasValue y t b d
    → mul f x y ≡ round f (unlike s t) (a * b) (c * d)
unfolding mul
mul-round f nan y s t a c b d C D h k = absurd h
mul-round f (inf u) y s t a c b d C D h k = absurd h
mul-round f (fin u m e) nan s t a c b d C D h k = absurd k
mul-round f (fin u m e) (inf v) s t a c b d C D h k = absurd k
mul-round f (fin u m e) (fin v n i) s t a c b d C D h k =
    ap (λ (z : Bool). round f (unlike z v) (m * up e * (n * up i)) (down e * down i)) h.0
    ∙ ap (λ (z : Bool). round f (unlike s z) (m * up e * (n * up i)) (down e * down i)) k.0
    ∙ round_same f (unlike s t) (m * up e * (n * up i)) (down e * down i) (a * b) (c * d) (mul-pos (down_pos e) (down_pos i)) (mul-pos C D)
    (cross-mul (m * up e) (down e) (n * up i) (down i) a c b d h.1 k.1)

-- ---- whole numbers
pub of_int-value : (f : Format) (n : ℕ) → n < 2 ^ prec f → HasValue (of_int f (pos n)) false n 1
unfolding of_int
of_int-value f n h =
    round_exact f false n 1 n (low f) (pow_pos 0) h
    (lt_of_lt_of_le (mul-lt-mul_of_pos_right h (pow_pos (low f)))
    (le_trans (le_of_eq (mul_comm (2 ^ prec f) (2 ^ low f) ∙ sym (pow-add 2 (low f) (prec f))))
    (pow_mono (more (low f) (prec f) (suc (emax f)) (reach f)))))
    (sym (mul-one (n * 2 ^ low f)))
  where
    more : (l p e : ℕ) → p ≤ e → l + p ≤ l + e
    more l p e h = omega arith

-- ---- signs
size_of : (x c d hi lo : ℕ) → 0 < d → hi * d ≡ lo * d + x * c → (x * c ≡ (hi - lo) * d) × (hi - lo + lo ≡ hi)
size_of x c d hi lo D e =
    let h : lo ≤ hi = le_of_mul-le-mul_right (omega arith) D in
    (omega (arith, spread d hi lo), omega arith)

-- above 0, x has the sign +
pub plus-of-above : (x : Float) (p n c : ℕ) → n < p → IsValue x p n c → HasValue x false (p - n) c
plus-of-above nan p n c h e = absurd e.is_finite
plus-of-above (inf s) p n c h e = absurd e.is_finite
plus-of-above (fin true m i) p n c h e = absurd (let x = mul-lt-mul_of_pos_right h (down_pos i) in omega (arith, e.equal))
plus-of-above (fin false m i) p n c h e = (refl, (size_of (m * up i) c (down i) p n (down_pos i) (omega (arith, e.equal))).0)

-- the sign and the size of any value: what has the sign - is not above 0
pub record Sized (x : Float) (p n c : ℕ) : Type 0 where
  pub sign : Bool
  pub value : HasValue x sign (dist p n) c
  pub minus : sign ≡ true → p ≤ n

pub sized : (x : Float) (p n c : ℕ) → IsValue x p n c → Sized x p n c
sized nan p n c e = absurd e.is_finite
sized (inf s) p n c e = absurd e.is_finite
sized (fin true m i) p n c e =
    let s = size_of (m * up i) c (down i) n p (down_pos i) (omega (arith, e.equal)) in
    let d : dist p n ≡ n - p = omega (arith, s.1) in
    record { sign = true; value = (refl, rw d s.0); minus = λ _. omega (arith, s.1) }
sized (fin false m i) p n c e =
    let s = size_of (m * up i) c (down i) p n (down_pos i) (omega (arith, e.equal)) in
    let d : dist p n ≡ p - n = omega (arith, s.1) in
    record { sign = false; value = (refl, rw d s.0); minus = λ q. absurd (true≢false (sym q)) }

-- a difference of two equal values of the sign + is +0
round-zero : (f : Format) → round f false 0 1 ≡ fin false 0 (pos 0)
unfolding round
round-zero binary32 = refl
round-zero binary64 = refl

sum-equal : (f : Format) (a b c : ℕ) → 0 < c → a ≡ b → sum f false a true b c ≡ fin false 0 (pos 0)
unfolding sum
sum-equal f a b c C e = go (ltb a b) (ltb→lt a b)
  where
    none : (a b : ℕ) → a ≡ b → a - b ≡ 0
    none a b e = omega arith

    go : (w : Bool) → (T w → a < b) → cond w (round f true (b - a) c) (round f false (a - b) c) ≡ fin false 0 (pos 0)
    go true h = absurd (let x = h tt in omega arith)
    go false h = ap (λ (z : ℕ). round f false z c) (none a b e) ∙ round_same f false 0 c 0 1 C (pow_pos 0) (sym (zero-mul c)) ∙ round-zero f

pub sub-equal : (f : Format) (x y : Float) (a c : ℕ) → 0 < c → HasValue x false a c → HasValue y false a c → sub f x y ≡ fin false 0 (pos 0)
unfolding sub
sub-equal f nan y a c C h k = absurd h
sub-equal f (inf s) y a c C h k = absurd h
sub-equal f (fin s m e) nan a c C h k = absurd k
sub-equal f (fin s m e) (inf t) a c C h k = absurd k
sub-equal f (fin true m e) (fin t n d) a c C h k = absurd (true≢false h.0)
sub-equal f (fin false m e) (fin true n d) a c C h k = absurd (true≢false k.0)
sub-equal f (fin false m e) (fin false n d) a c C h k =
    sum-equal f (m * up e * down d) (n * up d * down e) (down e * down d) (mul-pos (down_pos e) (down_pos d))
    (eq_of_mul-eq-mul_right c C (m * up e * down d) (n * up d * down e)
    (mul_right_comm (m * up e) (down d) c ∙ ap (λ (z : ℕ). z * down d) h.1 ∙ mul_right_comm a (down e) (down d)
    ∙ ap (λ (z : ℕ). z * down e) (sym k.1) ∙ mul_right_comm (n * up d) c (down e)))

-- ---- the order
lt-parts : (x y : Float) → T (finite x) → T (finite y) → (T (lt x y) ↔ (gain x * den y + loss y * den x < gain y * den x + loss x * den y))
unfolding lt
lt-parts nan y h k = absurd h
lt-parts (inf s) y h k = absurd h
lt-parts (fin s m e) nan h k = absurd k
lt-parts (fin s m e) (inf t) h k = absurd k
lt-parts (fin false m e) (fin false n d) h k = (
  λ l. let z = ltb→lt (m * up e * down d) (n * up d * down e) l in omega arith,
  λ l. lt→ltb (m * up e * down d) (n * up d * down e) (omega arith),
)
lt-parts (fin false m e) (fin true n d) h k = (λ l. absurd l, λ l. absurd (omega arith))
lt-parts (fin true m e) (fin false n d) h k = (
  λ l. let z = ltb→lt 0 (m * up e * down d + n * up d * down e) l in omega arith,
  λ l. lt→ltb 0 (m * up e * down d + n * up d * down e) (omega arith),
)
lt-parts (fin true m e) (fin true n d) h k = (
  λ l. let z = ltb→lt (n * up d * down e) (m * up e * down d) l in omega arith,
  λ l. lt→ltb (n * up d * down e) (m * up e * down d) (omega arith),
)

-- over any common denominator
order-eq : (G L D G' L' D' p n q m c : ℕ) → 0 < c → 0 < D → 0 < D' → G * c + n * D ≡ p * D + L * c → G' * c + m * D' ≡ q * D' + L' * c
    → (G * D' + L' * D < G' * D + L * D') ↔ (p + m < q + n)
order-eq G L D G' L' D' p n q m c C P Q e k =
    let x : G * D' * c + n * (D * D') ≡ p * (D * D') + L * D' * c = simp poly (simp poly at (ap (λ (z : ℕ). z * D') e)) in
    let y : G' * D * c + m * (D * D') ≡ q * (D * D') + L' * D * c = simp poly (simp poly at (ap (λ (z : ℕ). z * D) k)) in (
      λ l. lt_of_mul-lt-mul_right (D * D')
          (let w = mul-lt-mul_of_pos_right l C in
          omega (arith, add-mul (G * D') (L' * D) c, add-mul (G' * D) (L * D') c, add-mul p m (D * D'), add-mul q n (D * D'))),
      λ l. lt_of_mul-lt-mul_right c (let w = mul-lt-mul_of_pos_right l (mul-pos P Q) in omega
          (arith, add-mul (G * D') (L' * D) c, add-mul (G' * D) (L * D') c, add-mul p m (D * D'), add-mul q n (D * D'))),
    )

pub lt-value : (x y : Float) (p n q m c : ℕ) → 0 < c → IsValue x p n c → IsValue y q m c → T (lt x y) ↔ (p + m < q + n)
lt-value x y p n q m c C e k =
    let a = lt-parts x y e.is_finite k.is_finite in
    let b = order-eq (gain x) (loss x) (den x) (gain y) (loss y) (den y) p n q m c C (den_pos x) (den_pos y) e.equal k.equal in
    (λ l. b.0 (a.0 l), λ l. a.1 (b.1 l))

-- `<=` is the other order's failure, for finite values
or-iff : (a b : Bool) → T (a || b) ↔ (T a ⊎ T b)
or-iff true b = (λ t. inl tt, λ t. tt)
or-iff false b = (λ t. inr t, λ t. ⊎_elim (λ x. absurd x) (λ x. x) t)

level-same : (a b : ℕ) → T (eqb a b && true) ↔ (a ≡ b)
level-same a b = (λ l. eqb→eq a b (and_l (eqb a b) true l), λ e. and_i (eqb a b) true (eq→eqb e) tt)

level-other : (a b : ℕ) → T (eqb a b && eqb a 0) ↔ (a + b ≡ 0)
level-other a b = (
  λ l. omega (arith, eqb→eq a b (and_l (eqb a b) (eqb a 0) l), eqb→eq a 0 (and_r (eqb a b) (eqb a 0) l)),
  λ e. let x : a ≡ b = omega arith in let y : a ≡ 0 = omega arith in and_i (eqb a b) (eqb a 0) (eq→eqb x) (eq→eqb y),
)

eq-parts : (x y : Float) → T (finite x) → T (finite y) → (T (eq x y) ↔ (gain x * den y + loss y * den x ≡ gain y * den x + loss x * den y))
unfolding eq
eq-parts nan y h k = absurd h
eq-parts (inf s) y h k = absurd h
eq-parts (fin s m e) nan h k = absurd k
eq-parts (fin s m e) (inf t) h k = absurd k
eq-parts (fin false m e) (fin false n d) h k = let o = level-same (m * up e * down d) (n * up d * down e) in
    (λ l. omega (arith, o.0 l), λ l. o.1 (omega arith))
eq-parts (fin true m e) (fin true n d) h k = let o = level-same (m * up e * down d) (n * up d * down e) in
    (λ l. omega (arith, o.0 l), λ l. o.1 (omega arith))
eq-parts (fin false m e) (fin true n d) h k = let o = level-other (m * up e * down d) (n * up d * down e) in
    (λ l. omega (arith, o.0 l), λ l. o.1 (omega arith))
eq-parts (fin true m e) (fin false n d) h k = let o = level-other (m * up e * down d) (n * up d * down e) in
    (λ l. omega (arith, o.0 l), λ l. o.1 (omega arith))

at_most : (a b : ℕ) → (b < a → ⊥) → a ≤ b
at_most a b h = ⊎_elim (λ z. omega arith) (λ z. absurd (h (omega arith))) (eq-zero-or-pos (a - b))

le_parts : (x y : Float) → T (finite x) → T (finite y) → (T (le x y) ↔ (gain x * den y + loss y * den x ≤ gain y * den x + loss x * den y))
unfolding le
le_parts x y h k =
    let a = lt-parts x y h k in
    let b = eq-parts x y h k in
    let o = or-iff (lt x y) (eq x y) in (
      λ t. ⊎_elim (λ p. le_of_lt (a.0 p)) (λ p. le_of_eq (b.0 p)) (o.0 t),
      λ l. o.1 (⊎_elim (λ p. inr (b.1 p)) (λ p. inl (a.1 p)) (eq-or-lt_of_le l)),
    )

-- an order turned round
turned : (a b c d : ℕ) → (b < a) ↔ (d < c) → (a ≤ b) ↔ (c ≤ d)
turned a b c d i = (λ l. at_most c d (λ z. omega (arith, i.1 z)), λ l. at_most a b (λ z. omega (arith, i.0 z)))

pub le-value : (x y : Float) (p n q m c : ℕ) → 0 < c → IsValue x p n c → IsValue y q m c → T (le x y) ↔ (p + m ≤ q + n)
le-value x y p n q m c C e k =
    let a = le_parts x y e.is_finite k.is_finite in
    let b = turned (gain x * den y + loss y * den x) (gain y * den x + loss x * den y) (p + m) (q + n)
    (order-eq (gain y) (loss y) (den y) (gain x) (loss x) (den x) q m p n c C (den_pos y) (den_pos x) k.equal e.equal) in
    (λ t. b.0 (a.0 t), λ l. a.1 (b.1 l))

pub le_not_lt : (x y : Float) → T (finite x) → T (finite y) → T (le x y) ↔ (T (lt y x) → ⊥)
le_not_lt x y h k =
    let a = le_parts x y h k in
    let b = lt-parts y x k h in
    (λ t l. omega (arith, a.0 t, b.0 l), λ n. a.1 (at_most _ _ (λ l. n (b.1 (omega (arith, l))))))

-- ---- near another fraction
within-le : (G L D c d p n q m : ℕ) → 0 < c → G * c + n * D ≡ p * D + L * c → p * d + m * c ≤ q * c + n * d → G * d + m * D ≤ q * D + L * d
within-le G L D c d p n q m C v e =
    le_of_mul-le-mul_right
    (let x = simp poly at (ap (λ (z : ℕ). z * d) v) in
    let y = simp poly at (mul-le-mul_right D e) in
    simp poly (omega arith))
    C

within-ge : (G L D c d p n q m : ℕ) → 0 < c → G * c + n * D ≡ p * D + L * c → q * c + n * d ≤ p * d + m * c → q * D + L * d ≤ G * d + m * D
within-ge G L D c d p n q m C v e =
    le_of_mul-le-mul_right
    (let x = simp poly at (ap (λ (z : ℕ). z * d) v) in
    let y = simp poly at (mul-le-mul_right D e) in
    simp poly (omega arith))
    C

-- (p - n) / c is within r / d of (q - m) / d
pub within-value : (x : Float) (p n c q m d r : ℕ) → 0 < c → IsValue x p n c → p * d + m * c ≤ (q + r) * c + n * d
    → q * c + n * d ≤ p * d + (m + r) * c → Within x q m d r
within-value x p n c q m d r C v h k = record {
  is_finite = v.is_finite;
  at_most = within-le (gain x) (loss x) (den x) c d p n (q + r) m C v.equal h;
  at_least = within-ge (gain x) (loss x) (den x) c d p n q (m + r) C v.equal k;
}
