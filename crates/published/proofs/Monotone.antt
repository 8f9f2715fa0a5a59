-- Numbers that are not negative: their differences, products and whole parts grow with them, however they are rounded. Assumes nothing.
use mathlib.Core.Path.{◌≡◌, refl, sym, ap}
use mathlib.Core.Logic.{◌↔◌, inl, inr}
use mathlib.Core.Bool.{Bool, true, false, true≢false}
use Prim.Native.Nat.{ℕ, ◌+◌, ◌-◌, ◌*◌, ◌/◌, ◌^◌, ◌≤◌, ◌<◌}
use native.Mathlib.Nat.{zero-mul, mul-zero, mul-pos, mul-le-mul_right, le_of_mul-le-mul_right, eq-zero-or-pos, zero-div, div-eq_of_lt}
use native.Mathlib.Nat.{lt_of_le_of_lt}
use native.Mathlib.Omega.{arith}
use lib.Dec.{T, lit<, le→leb}
use lib.IntN.{ℤ, pos}
use lib.Ieee.{Float, nan, inf, fin, binary32, up, down, le, round, sub, mul, of_int, in_float, to_unsigned}
use lib.Ieee.Fits.{down_pos}
use lib.Ieee.Back.{unsigned_back}
use lib.Ieee.Order.{round_mono}
use lib.Ieee.Positive.{num, den}
use lib.Ieee.Scale.{finite}
use Rattle.float32.specs.Float32.{zero as zero32}
use Rattle.float32.specs.Value.{IsValue}
use Rattle.float32.proofs.Poly.{poly}
use Rattle.float32.proofs.Values.{IsFrac, SignedFrac, rescale, spread, sub-frac, mul-frac, le-value}
use Rattle.float32.proofs.Approx.{own}
use Rattle.published.specs.Rust.{whole_float, floor_f, cut_usize}
use Rattle.published.proofs.Maximum.{at_zero, le-zero, zero-le}
use Rattle.published.proofs.Sums.{round-none}

-- x is a / c: finite, and not negative
abbrev pub Is : Float → ℕ → ℕ → Type 0
Is x a c = IsValue x a 0 c

pub is-scaled : (x : Float) (a c k : ℕ) → 0 < c → 0 < k → Is x a c → Is x (a * k) (c * k)
is-scaled x a c k p q h = rescale x a 0 c (a * k) 0 (c * k) p (simp (zero-mul, poly)) h

pub order : (x y : Float) (a b c : ℕ) → 0 < c → Is x a c → Is y b c → T (le x y) ↔ (a ≤ b)
order x y a b c p h k = let l = le-value x y a 0 b 0 c p h k in (λ t. omega (arith, l.0 t), λ q. l.1 (omega arith))

-- ---- x is n / d, rounded
pub record Rounds (x : Float) (n d : ℕ) : Type 0 where
  pub sign : Bool
  pub top : ℕ
  pub bottom : ℕ
  pub bottom-pos : 0 < bottom
  pub is : x ≡ round binary32 sign top bottom
  pub none : sign ≡ true → top ≡ 0
  pub frac : top * d ≡ n * bottom

rounds-of : (x : Float) (p n d : ℕ) → 0 < d → n ≤ p → SignedFrac binary32 x p n d → Rounds x (p - n) d
rounds-of x p n d D l s = record {
  sign = s.sign;
  top = s.top;
  bottom = s.bottom;
  bottom-pos = s.bottom-pos;
  is = s.is;
  none = λ e. no_size s.sign s.top s.bottom e s.frac;
  frac = sized s.sign s.top s.bottom s.frac;
}
  where
    nothing : (a : ℕ) → a * d ≤ 0 → a ≡ 0
    nothing a h = elim (eq-zero-or-pos a) [ inl z ↦ z | inr q ↦ absurd (let k = mul-pos q D in let no : ⊥ = omega arith in no) ]

    no_size : (t : Bool) (a c : ℕ) → t ≡ true → IsFrac t a c p n d → a ≡ 0
    no_size true a c e h = nothing a (omega (arith, h, mul-le-mul_right c l, zero-mul d))
    no_size false a c e h = absurd (true≢false (sym e))

    sized : (t : Bool) (a c : ℕ) → IsFrac t a c p n d → a * d ≡ (p - n) * c
    sized true a c h = omega (arith, h, mul-le-mul_right c l, zero-mul d, spread c p n)
    sized false a c h = omega (arith, h, mul-le-mul_right c l, zero-mul d, spread c p n)

-- ---- the sign of a zero does not show
plain-left : (s : Bool) (a c : ℕ) (y : Float) → 0 < c → (s ≡ true → a ≡ 0) → le (round binary32 s a c) y ≡ le (round binary32 false a c) y
plain-left false a c y p h = refl
plain-left true a c y p h = rw (h refl, round-none true c p, round-none false c p) (zero-le y (fin true 0 (pos 0)) refl)

plain-right : (s : Bool) (a c : ℕ) (x : Float) → 0 < c → (s ≡ true → a ≡ 0) → le x (round binary32 s a c) ≡ le x (round binary32 false a c)
plain-right false a c x p h = refl
plain-right true a c x p h = rw (h refl, round-none true c p, round-none false c p) (le-zero x (fin true 0 (pos 0)) refl)

pub rounds-le : (x y : Float) (n d m e : ℕ) → 0 < d → 0 < e → Rounds x n d → Rounds y m e → n * e ≤ m * d → T (le x y)
rounds-le x y n d m e D E r s l =
    let first = plain-left r.sign r.top r.bottom (round binary32 s.sign s.top s.bottom) r.bottom-pos r.none in
    let second = plain-right s.sign s.top s.bottom (round binary32 false r.top r.bottom) s.bottom-pos s.none in
    let less = cross r.top r.bottom s.top s.bottom r.frac s.frac in
    rw (r.is, s.is, first, second) (round_mono binary32 r.top r.bottom s.top s.bottom r.bottom-pos s.bottom-pos less)
  where
    cross : (a c b k : ℕ) → a * d ≡ n * c → b * e ≡ m * k → a * k ≤ b * c
    cross a c b k p q =
        le_of_mul-le-mul_right
        (let x = simp poly at (ap (λ (z : ℕ). z * (k * e)) p) in
        let y = simp poly at (ap (λ (z : ℕ). z * (c * d)) q) in
        let z = simp poly at (mul-le-mul_right (c * k) l) in
        simp poly (omega arith))
        (mul-pos D E)

-- ---- at least 0, and at most a whole number
rounds-zero : Rounds zero32 0 1
rounds-zero = record { sign = false; top = 0; bottom = 1; bottom-pos = lit< tt; is = unfold round in refl; none = λ e. refl; frac = refl }

pub rounds-above : (x : Float) (n d : ℕ) → 0 < d → Rounds x n d → T (le zero32 x)
rounds-above x n d D r = rounds-le zero32 x 0 1 n d (lit< tt) D rounds-zero r (omega arith)

pub rounds-most : (x : Float) (n d k : ℕ) → 0 < d → n ≤ k * d → Rounds x n d → T (le x (whole_float false k))
rounds-most x n d k D l r = rounds-le x (whole_float false k) n d k 1 D (lit< tt) r whole (omega arith)
  where
    whole : Rounds (whole_float false k) k 1
    whole =
        record { sign = false; top = k; bottom = 1; bottom-pos = lit< tt; is = refl; none = λ e. absurd (true≢false (sym e)); frac = refl }

pub finite-below : (x y : Float) → T (le zero32 x) → T (le x y) → T (finite y) → T (finite x)
unfolding le
finite-below nan y p q f = absurd p
finite-below (inf true) y p q f = absurd p
finite-below (inf false) nan p q f = absurd f
finite-below (inf false) (inf t) p q f = absurd f
finite-below (inf false) (fin t n d) p q f = absurd q
finite-below (fin s m e) y p q f = tt

no_minus : (m : ℕ) (e : ℤ) → T (le zero32 (fin true m e)) → m * up e ≡ 0
no_minus m e p =
    let l = (le-value zero32 (fin true m e) 0 0 0 (m * up e) (down e) (down_pos e) (at_zero zero32 (down e) refl)
    (own (fin true m e) tt)).0 p in
    omega arith

pub own_is : (x : Float) → T (le zero32 x) → T (finite x) → Is x (num x) (den x)
own_is nan p f = absurd f
own_is (inf s) p f = absurd f
own_is (fin false m e) p f = own (fin false m e) tt
own_is (fin true m e) p f = let z = no_minus m e p in record { is_finite = tt; equal = simp (z, zero-mul) }

-- ---- differences and products
pub sub-rounds : (x y : Float) (a b c : ℕ) → 0 < c → b ≤ a → Is x a c → Is y b c → Rounds (sub binary32 x y) (a - b) c
sub-rounds x y a b c p l h k =
    let less : a + 0 - (0 + b) ≡ a - b = omega arith in
    rw less at (rounds-of (sub binary32 x y) (a + 0) (0 + b) c p (omega arith) (sub-frac binary32 x y a 0 b 0 c h k))

pub mul-rounds : (x y : Float) (a c b d : ℕ) → 0 < c → 0 < d → Is x a c → Is y b d → Rounds (mul binary32 x y) (a * b) (c * d)
mul-rounds x y a c b d p q h k =
    let all : a * b + 0 * 0 - (a * 0 + 0 * b) ≡ a * b = omega (arith, mul-zero a, zero-mul b) in
    let least : a * 0 + 0 * b ≤ a * b + 0 * 0 = omega (arith, mul-zero a, zero-mul b) in
    rw all at (rounds-of (mul binary32 x y) (a * b + 0 * 0) (a * 0 + 0 * b) (c * d) (mul-pos p q) least
    (mul-frac binary32 x y a 0 c b 0 d h k))

-- ---- whole parts
pub cut-is : (x : Float) → T (le zero32 x) → T (finite x) → num x / den x < 2 ^ 64 → cut_usize x ≡ num x / den x
unfolding to_unsigned
cut-is nan p f l = absurd f
cut-is (inf s) p f l = absurd f
cut-is (fin false m e) p f l = omega arith
cut-is (fin true m e) p f l = rw (no_minus m e p) (sym (zero-div (down e)))

pub floor-is : (x : Float) → T (le zero32 x) → T (finite x) → num x / den x ≤ 2 ^ 24 → cut_usize (floor_f x) ≡ num x / den x
unfolding floor_f
floor-is nan p f l = absurd f
floor-is (inf s) p f l = absurd f
floor-is (fin false m e) p f l = back (m * up e / down e) l
  where
    back : (n : ℕ) → n ≤ 2 ^ 24 → cut_usize (whole_float false n) ≡ n
    back n l = unfold of_int in_float in (unsigned_back binary32 64 n (le→leb n (2 ^ 24) l) (lt_of_le_of_lt l (lit< tt))).1
floor-is (fin true m e) p f l =
    let none : (0 + (down e - 1)) / down e ≡ 0 = div-eq_of_lt (let d = down_pos e in omega arith) in
    rw (no_minus m e p, none, zero-div (down e)) (unfold to_unsigned round in refl)
