-- A float cut off to a whole number (`to_unsigned`, Rust's `as`): within its range and at its ends. Assumes nothing.
use Rattle.std.proofs.Common.{◌≡◌, ℕ, ◌-◌, ◌*◌, ◌/◌, ◌^◌, ◌<◌, ◌≤◌, min, Bool, true, false, sym, ◌∙◌, true≢false, le_trans}
use Rattle.std.proofs.Common.{le_of_eq, lt_of_le_of_lt, mul_comm, arith, pow_mono}
use native.Mathlib.Nat.{div-le_of_le-mul, div-eq_of_lt}
use lib.Ieee.{Float, nan, inf, fin, up, down, to_unsigned}
use lib.Ieee.Fits.{down_pos}
use lib.Ieee.Nearest.{div_same}
use lib.Ieee.Exact.{HasValue}
use Rattle.float32.proofs.Bounds.{UpTo}

-- ---- within it: the whole part of a value ±a / c above -1
pub cut-value : (w : ℕ) (v : Float) (s : Bool) (a c : ℕ) → 0 < c → (s ≡ true → a < c) → a / c < 2 ^ w → HasValue v s a c
    → to_unsigned w v ≡ a / c
unfolding to_unsigned
cut-value w nan s a c p n l h = absurd h
cut-value w (inf t) s a c p n l h = absurd h
cut-value w (fin true m e) s a c p n l h = sym (div-eq_of_lt (n (sym h.0)))
cut-value w (fin false m e) s a c p n l h =
    let q : m * up e / down e ≡ a / c = div_same (m * up e) (down e) a c (down_pos e) p h.1 in
    omega arith

-- a value from 0 to n
pub cut-upto : (w : ℕ) (v : Float) (n : ℕ) → n < 2 ^ w → UpTo v n → to_unsigned w v ≤ n
cut-upto w v n h u =
    let q : u.top / u.bottom ≤ n = div-le_of_le-mul u.bottom (le_trans u.at_most (le_of_eq (mul_comm n u.bottom))) in
    rw (cut-value w v false u.top u.bottom u.bottom-pos (λ e. absurd (true≢false (sym e))) (lt_of_le_of_lt q h) u.value) q

-- ---- to fewer bits: the same below 2 ^ w
cut-narrower : (w u : ℕ) (v : Float) → w ≤ u → to_unsigned w v ≡ min (to_unsigned u v) (2 ^ w - 1)
unfolding to_unsigned
cut-narrower w u nan h = omega arith
cut-narrower w u (inf true) h = omega arith
cut-narrower w u (inf false) h = let k : 2 ^ w ≤ 2 ^ u = pow_mono h in omega arith
cut-narrower w u (fin true m e) h = omega arith
cut-narrower w u (fin false m e) h = let k : 2 ^ w ≤ 2 ^ u = pow_mono h in omega arith

pub cut-same : (w u : ℕ) (v : Float) → w ≤ u → to_unsigned u v < 2 ^ w → to_unsigned w v ≡ to_unsigned u v
cut-same w u v h l = cut-narrower w u v h ∙ omega (arith, l)
