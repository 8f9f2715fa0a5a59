-- Floats that are not negative as whole numbers of units, the format's smallest value 2 ^ -low. A sum of two, and a product with a whole
-- number, are whole numbers of units
-- before they are rounded, so the relative error is at most one part in 2 ^ prec everywhere, subnormal results included. Assumes nothing.
use Rattle.std.proofs.Common.{◌≡◌, ℕ, suc, ◌+◌, ◌-◌, ◌*◌, ◌/◌, ◌^◌, ◌<◌, ◌≤◌, true, false, ℤ, sym, refl, ap, ◌∙◌, subst, ⊎_elim, true≢false}
use Rattle.std.proofs.Common.{le_trans, le_of_eq, lt_of_lt_of_le, mul_assoc, mul_comm, eq-zero-or-pos, mul-pos, one-mul, mul-one}
use Rattle.std.proofs.Common.{le_of_mul-le-mul_right, mul-div_cancel, arith, lit<, pow_pos, pow_mono}
use native.Mathlib.Nat.{eq_of_mul-eq-mul_right}
use lib.Ieee.{Float, nan, inf, fin, Format, binary32, fits, prec, emax, low, up, down, size, round, sum, add, mul}
use lib.Ieee.Digits.{size-lt}
use lib.Ieee.Fits.{down_pos, reach}
use lib.Ieee.Exact.{HasValue, round_exact}
use lib.Ieee.Scale.{grid, overflow, round_same}
use Rattle.float32.proofs.Poly.{poly}
use Rattle.float32.proofs.Rounding.{HalfNear, grid-under, round_val, grid-relative}
use Rattle.float32.proofs.Values.{value-unique, mul-round}
use Rattle.float32.proofs.Canonical.{rest, down-rest, own-low}

-- ---- a whole number s of units, rounded
abbrev pub rounded : Format → ℕ → ℕ
rounded f s = grid f s (2 ^ low f)

lighter : (g s L P : ℕ) → 0 < L → HalfNear (g * L * P) (s * L * P) (s * L) → HalfNear (g * P) (s * P) s
lighter g s L P K h = (
  le_of_mul-le-mul_right (let x = simp poly at h.0 in simp poly (omega arith)) K,
  le_of_mul-le-mul_right (let x = simp poly at h.1 in simp poly (omega arith)) K,
)

units-exact : (f : Format) (s : ℕ) → s < 2 ^ prec f → rounded f s ≡ s
units-exact f s h =
    let L = 2 ^ low f in
    let o : s * 2 ^ 0 < overflow f = lt_of_lt_of_le (subst (λ (z : ℕ). z < 2 ^ prec f) (sym (mul-one s)) h)
    (pow_mono (more (prec f) (low f) (suc (emax f)) (reach f))) in
    let e : HasValue (round f false s L) false s L = round_exact f false s L s 0 (pow_pos (low f)) h o
    (ap (λ (z : ℕ). z * L) (sym (mul-one s))) in
    let g : rounded f s < overflow f = grid-under f s L 0 (pow_pos (low f)) (none (emax f))
    (lt_of_lt_of_le h (le_trans (pow_mono (fewer f)) (le_of_eq (sym (one-mul L))))) in
    eq_of_mul-eq-mul_right L (pow_pos (low f)) (rounded f s) s
    (value-unique (round f false s L) false (rounded f s) L s L (round_val f false s L g) e)
  where
    more : (p l e : ℕ) → p ≤ e → p ≤ l + e
    more p l e h = omega arith

    none : (e : ℕ) → 0 ≤ e
    none e = omega arith

    fewer : (f : Format) → prec f ≤ low f
    fewer Format.binary32 = omega arith
    fewer Format.binary64 = omega arith

level : (s P : ℕ) → HalfNear (s * P) (s * P) s
level s P = omega arith

-- |rounded s - s| ≤ s / 2 ^ prec
pub units-near : (f : Format) (s : ℕ) → HalfNear (rounded f s * 2 ^ (prec f - 1)) (s * 2 ^ (prec f - 1)) s
units-near f s = ⊎_elim normal small (eq-zero-or-pos (prec f - size (s * 2 ^ low f / 2 ^ low f)))
  where
    none_left : (p z : ℕ) → p - z ≡ 0 → p ≤ z
    none_left p z h = omega arith

    some_left : (p z : ℕ) → 0 < p - z → z ≤ p
    some_left p z h = omega arith

    normal : prec f - size (s * 2 ^ low f / 2 ^ low f) ≡ 0 → HalfNear (rounded f s * 2 ^ (prec f - 1)) (s * 2 ^ (prec f - 1)) s
    normal h =
        lighter (rounded f s) s (2 ^ low f) (2 ^ (prec f - 1)) (pow_pos (low f))
        (grid-relative f s (2 ^ low f) (pow_pos (low f)) (none_left (prec f) (size (s * 2 ^ low f / 2 ^ low f)) h))

    small : 0 < prec f - size (s * 2 ^ low f / 2 ^ low f) → HalfNear (rounded f s * 2 ^ (prec f - 1)) (s * 2 ^ (prec f - 1)) s
    small h =
        let e : s * 2 ^ low f / 2 ^ low f ≡ s = mul-div_cancel s (pow_pos (low f)) in
        let l : s < 2 ^ prec f = lt_of_lt_of_le (size-lt s)
        (pow_mono (some_left (prec f) (size s) (subst (λ (z : ℕ). 0 < prec f - size z) e h))) in
        subst (λ (z : ℕ). HalfNear (z * 2 ^ (prec f - 1)) (s * 2 ^ (prec f - 1)) s) (sym (units-exact f s l)) (level s (2 ^ (prec f - 1)))

-- ---- x is g units, and not negative
abbrev pub Units : Format → Float → ℕ → Type 0
Units f x g = HasValue x false g (2 ^ low f)

-- the units of a float that binary32 holds
unfoldable pub units_of : Float → ℕ
units_of nan = 0
units_of (inf s) = 0
units_of (fin s m e) = m * up e * 2 ^ rest e

pub own-units : (m : ℕ) (e : ℤ) → fits binary32 (fin false m e) ≡ true → Units binary32 (fin false m e) (units_of (fin false m e))
unfolding units_of
own-units m e f = (refl, ap (λ (z : ℕ). m * up e * z) (sym (down-rest e (own-low false m e f))) ∙ regroup (m * up e) (down e) (2 ^ rest e))
  where
    regroup : (n d t : ℕ) → n * (d * t) ≡ n * t * d
    regroup n d t = simp (mul_assoc, mul_comm)

-- far below overflow
abbrev pub BelowOverflow : Format → ℕ → Type 0
BelowOverflow f s = s < 2 ^ emax f * 2 ^ low f

pub round-units : (f : Format) (s : ℕ) → BelowOverflow f s → Units f (round f false s (2 ^ low f)) (rounded f s)
round-units f s h = round_val f false s (2 ^ low f) (grid-under f s (2 ^ low f) (emax f) (pow_pos (low f)) (same (emax f)) h)
  where
    same : (e : ℕ) → e ≤ e
    same e = omega arith

-- a sum of two that are not negative
pub add-round : (f : Format) (x y : Float) (a c b d : ℕ) → 0 < c → 0 < d → HasValue x false a c → HasValue y false b d
    → add f x y ≡ round f false (a * d + b * c) (c * d)
unfolding add sum
add-round f nan y a c b d C D v w = absurd v
add-round f (inf s) y a c b d C D v w = absurd v
add-round f (fin s m e) nan a c b d C D v w = absurd w
add-round f (fin s m e) (inf t) a c b d C D v w = absurd w
add-round f (fin true m e) (fin t n i) a c b d C D v w = absurd (true≢false v.0)
add-round f (fin false m e) (fin true n i) a c b d C D v w = absurd (true≢false w.0)
add-round f (fin false m e) (fin false n i) a c b d C D v w =
    round_same f false (m * up e * down i + n * up i * down e) (down e * down i) (a * d + b * c) (c * d)
    (mul-pos (down_pos e) (down_pos i)) (mul-pos C D)
    (cross (m * up e) (down e) (n * up i) (down i) v.1 w.1)
  where
    cross : (X E Y I : ℕ) → X * c ≡ a * E → Y * d ≡ b * I → (X * I + Y * E) * (c * d) ≡ (a * d + b * c) * (E * I)
    cross X E Y I p q =
        let x = simp poly at (ap (λ (z : ℕ). z * (I * d)) p) in
        let y = simp poly at (ap (λ (z : ℕ). z * (E * c)) q) in
        simp poly (omega arith)

pub add-units : (f : Format) (x y : Float) (a b : ℕ) → Units f x a → Units f y b → BelowOverflow f (a + b)
    → Units f (add f x y) (rounded f (a + b))
add-units f x y a b v w h =
    subst (λ (z : Float). Units f z (rounded f (a + b)))
    (sym (add-round f x y a (2 ^ low f) b (2 ^ low f) (pow_pos (low f)) (pow_pos (low f)) v w ∙ over (2 ^ low f) (pow_pos (low f))))
    (round-units f (a + b) h)
  where
    over : (L : ℕ) → 0 < L → round f false (a * L + b * L) (L * L) ≡ round f false (a + b) L
    over L K = round_same f false (a * L + b * L) (L * L) (a + b) L (mul-pos K K) K (simp poly)

pub scale-units : (f : Format) (x y : Float) (k b : ℕ) → HasValue x false k 1 → Units f y b → BelowOverflow f (k * b)
    → Units f (mul f x y) (rounded f (k * b))
scale-units f x y k b v w h =
    subst (λ (z : Float). Units f z (rounded f (k * b)))
    (sym (mul-round f x y false false k 1 b (2 ^ low f) (lit< tt) (pow_pos (low f)) v w
    ∙ ap (λ (z : ℕ). round f false (k * b) z) (one-mul (2 ^ low f))))
    (round-units f (k * b) h)
