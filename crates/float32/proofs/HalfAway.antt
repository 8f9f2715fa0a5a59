-- Rounding half away from zero: twice a float is exact, so half of one more than twice |x|, cut off, is the nearest whole number with a
-- half up. And a float that is a / c, as any fraction, rounds to what that fraction rounds to. Assumes nothing.
use Rattle.std.proofs.Common.{◌≡◌, ℕ, suc, ◌+◌, ◌*◌, ◌/◌, ◌^◌, ◌<◌, ◌≤◌, Bool, true, false, cond, [], ◌∷◌, ℤ, pos, neg_ℤ, sym, refl, ap}
use Rattle.std.proofs.Common.{◌∙◌, subst, true≢false, mul_comm, div-lt_iff_lt-mul, mul-pos, zero-mul, arith, lit<, le-ltb}
use native.Mathlib.Nat.{eq_of_mul-eq-mul_right, add-div_right, div-div-eq-div-mul}
use lib.Ieee.{Float, nan, inf, fin, binary32, up, down, lt, le, round, add, sum, fits, to_unsigned}
use lib.Ieee.Fits.{down_pos}
use lib.Ieee.Nearest.{div_same}
use lib.Ieee.Order.{le_of_values}
use lib.Ieee.Exact.{HasValue}
use lib.Ieee.Scale.{round_same}
use lib.Ieee.Positive.{num, den, den_pos}
use Rattle.lists.proofs.Tests.{to-T, from-T}
use Rattle.float32.specs.declared.Rounded.{Rounded}
use Rattle.float32.specs.declared.Rounded.TheVariants.{Natural, Negative, Beyond}
use Rattle.float32.specs.Float32.{zero, abs, nearest_whole, largest_rounded, is_judged, judged, signed, round_half_away, number_of}
use Rattle.float32.specs.Float32.{values_of, Rounds}
use Rattle.float32.proofs.Bounds.{value-le, whole-over}
use Rattle.float32.proofs.Canonical.{fits-plain, far-below, round-shifted}
use Rattle.float32.proofs.Poly.{poly}
use Rattle.float32.proofs.Truncation.{cut-value}

-- ---- the sum of a float with itself is exact
doubled : (m : ℕ) (e : ℤ) → fits binary32 (fin false m e) ≡ true → m * up e ≤ 2 ^ 24 * down e
    → HasValue (add binary32 (fin false m e) (fin false m e)) false (2 * (m * up e)) (down e)
unfolding add sum
doubled m e f small =
    let d = down_pos e in
    subst (λ (z : Float). HasValue z false (2 * (m * up e)) (down e)) (sym (over-one (m * up e) (down e) d))
    (round-shifted false m e 1 f (far-below (m * up e * 2) (down e) d (omega (arith, small))) (2 * (m * up e)) (down e) d
    (ap (λ (z : ℕ). z * down e) (mul_comm 2 (m * up e))))
  where
    over-one : (n d : ℕ) → 0 < d → round binary32 false (n * d + n * d) (d * d) ≡ round binary32 false (2 * n) d
    over-one n d p = round_same binary32 false (n * d + n * d) (d * d) (2 * n) d (mul-pos p p) p (simp poly (omega arith))

-- ---- the nearest whole number, a half up, by twice the float
half_up : (n d : ℕ) → 0 < d → (2 * n / d + 1) / 2 ≡ (2 * n + d) / (2 * d)
half_up n d p =
    ap (λ (z : ℕ). z / 2) (sym (add-div_right (2 * n) p)) ∙ div-div-eq-div-mul (2 * n + d) d 2
    ∙ ap (λ (z : ℕ). (2 * n + d) / z) (mul_comm d 2)

twice-small : (n d : ℕ) → 0 < d → n ≤ 2 ^ 24 * d → 2 * n / d < 2 ^ 26
twice-small n d p h = (div-lt_iff_lt-mul {k = d} {x = 2 * n} {y = 2 ^ 26} p).1 (omega arith)

pub size-within : (m : ℕ) (e : ℤ) → le (fin false m e) largest_rounded ≡ true → m * up e ≤ 2 ^ 24 * down e
size-within m e h =
    value-le (fin false m e) largest_rounded (m * up e) (2 ^ 24 * down e) (down e) (down_pos e) (refl, refl)
    (whole-over largest_rounded (2 ^ 24) (down e) (refl, refl)) (to-T h)

whole_twice : (x : Float) → fits binary32 x ≡ true → le (abs x) largest_rounded ≡ true
    → (to_unsigned 64 (add binary32 (abs x) (abs x)) ≡ 2 * num x / den x) × (2 * num x / den x < 2 ^ 26)
unfolding abs le
whole_twice nan f h = absurd (true≢false (sym h))
whole_twice (inf s) f h = absurd (true≢false (sym h))
whole_twice (fin s m e) f h =
    let small = size-within m e h in
    let l = twice-small (m * up e) (down e) (down_pos e) small in (
      cut-value 64 (add binary32 (fin false m e) (fin false m e)) false (2 * (m * up e)) (down e) (down_pos e)
          (λ t. absurd (true≢false (sym t))) (omega (arith, l))
          (doubled m e (sym (fits-plain s m e) ∙ f) small),
      l,
    )

-- ---- what `round_half_away` finds: n is twice |x|, cut off
pub rounds : (x a : Float) (n : ℕ) → fits binary32 x ≡ true → a ≡ abs x → le a largest_rounded ≡ true
    → n ≡ to_unsigned 64 (add binary32 a a)
    → (n < 2 ^ 26) × (signed (lt x zero) ((n + 1) / 2) ≡ round_half_away x)
unfolding round_half_away nearest_whole
rounds x a n f p h q =
    let h' : le (abs x) largest_rounded ≡ true = rw p at h in
    let w = whole_twice x f h' in
    let k : n ≡ 2 * num x / den x = q ∙ ap (λ (z : Float). to_unsigned 64 (add binary32 z z)) p ∙ w.0 in
    (omega (arith, w.1), rw (h', k, half_up (num x) (den x) (den_pos x)))

pub beyond : (x a : Float) → a ≡ abs x → le a largest_rounded ≡ false → Beyond ≡ round_half_away x
unfolding round_half_away
beyond x a p h = let h' : le (abs x) largest_rounded ≡ false = rw p at h in rw h'

pub signed-negative : (k : ℕ) → (k ≡ 0 → ⊥) → Negative k ≡ signed true k
signed-negative ℕ.zero h = absurd (h refl)
signed-negative (suc k) h = refl

-- ---- the promise by its answer
judged-values : (judge negative : Bool) (n : ℕ)
    → values_of (judged judge (signed negative n)) ≡ cond judge (cond negative (neg_ℤ (pos n)) (pos n) ∷ []) []
judged-values true true ℕ.zero = refl
judged-values true true (suc n) = refl
judged-values true false n = refl
judged-values false negative n = refl

no_number : (r : Rounded) → number_of r ≡ 0
no_number (Natural n) = refl
no_number (Negative n) = refl
no_number Beyond = refl

pub rounded : (x : Float) (r : Rounded) → r ≡ round_half_away x → Rounds x r
unfolding round_half_away
rounded x r e =
    record { answer = e; number = no_number r; values = ap values_of e ∙ judged-values (is_judged x) (lt x zero) (nearest_whole x) }

-- ---- the rounding of a value that is a / c, not negative
judged-small : (m : ℕ) (e : ℤ) (a c : ℕ) → 0 < c → a ≤ 2 ^ 24 * c → m * up e * c ≡ a * down e → le (fin false m e) largest_rounded ≡ true
judged-small m e a c p l h =
    from-T _ (le_of_values (fin false m e) largest_rounded a c (2 ^ 24) 1 p (lit< tt) (refl, h) (refl, refl) (omega arith))

same-nearest : (n d a c : ℕ) → 0 < d → 0 < c → n * c ≡ a * d → (2 * n + d) / (2 * d) ≡ (2 * a + c) / (2 * c)
same-nearest n d a c D C h =
    div_same (2 * n + d) (2 * d) (2 * a + c) (2 * c) (omega arith) (omega arith) (let x = simp poly at h in simp poly (omega arith))

not_below : (t : Bool) (m : ℕ) (e : ℤ) → (t ≡ true → m * up e ≡ 0) → lt (fin t m e) zero ≡ false
unfolding lt
not_below false m e z = le-ltb (m * up e * 1) (0 * 1 * down e) (omega (arith, zero-mul (down e)))
not_below true m e z = le-ltb 0 (m * up e * 1 + 0 * 1 * down e) (omega (arith, zero-mul (down e), z refl))

pub natural-of-value : (v : Float) (s : Bool) (a c : ℕ) → 0 < c → a ≤ 2 ^ 24 * c → (s ≡ true → a ≡ 0) → HasValue v s a c
    → round_half_away v ≡ Natural ((2 * a + c) / (2 * c))
unfolding round_half_away
natural-of-value nan s a c p l z h = absurd h
natural-of-value (inf t) s a c p l z h = absurd h
natural-of-value (fin t m e) s a c p l z h =
    rw (
      judged-small m e a c p l h.1,
      not_below t m e (λ q. zero-size (m * up e) (down e) a c p h.1 (z (sym h.0 ∙ q))),
      same-nearest (m * up e) (down e) a c (down_pos e) p h.1,
    )
  where
    zero-size : (n d a c : ℕ) → 0 < c → n * c ≡ a * d → a ≡ 0 → n ≡ 0
    zero-size n d a c p q z = eq_of_mul-eq-mul_right c p n 0 (q ∙ ap (λ (x : ℕ). x * d) z ∙ zero-mul d ∙ sym (zero-mul c))
