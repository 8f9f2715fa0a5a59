-- `x.max(0.0)`: it is the lifted x, or a zero where the lifted x is one; and no comparison can tell two zeros apart. Assumes nothing.
use mathlib.Core.Path.{◌≡◌, refl, sym, ap, ◌∙◌}
use mathlib.Core.Logic.{◌⊎◌, inl, inr}
use mathlib.Core.Bool.{Bool, true, false, cond, true≢false}
use Prim.Native.Nat.{ℕ, ◌+◌, ◌*◌, ◌≤◌}
use native.Mathlib.Nat.{zero-mul, mul-pos, eq-zero-or-pos}
use native.Mathlib.Omega.{arith}
use lib.Dec.{T}
use lib.IntN.{ℤ}
use lib.Ieee.{Float, nan, inf, fin, up, down, lt, le, is_nan}
use lib.Ieee.Fits.{up_pos, down_pos}
use borrow.Author.Tests.{ltb-false}
use Rattle.lists.proofs.Tests.{is_false}
use Rattle.float32.specs.Float32.{zero, lift}
use Rattle.float32.specs.Value.{IsValue}
use Rattle.float32.proofs.Values.{le-value}
use Rattle.float32.proofs.Approx.{own}
use Rattle.published.specs.Rust.{IsMax}

-- a zero, of either sign
abbrev pub IsZero : Float → Type 0
IsZero nan = ⊥
IsZero (inf s) = ⊥
IsZero (fin s m e) = m ≡ 0

-- what `x.max(0.0)` may give
abbrev pub Lifted : Float → Float → Type 0
Lifted x r = (r ≡ lift x) ⊎ (IsZero r × (lift x ≡ zero))

none : (m : ℕ) (e : ℤ) → m * up e ≤ 0 → m ≡ 0
none m e h = elim (eq-zero-or-pos m) [ inl z ↦ z | inr l ↦ absurd (let k = mul-pos l (up_pos e) in let no : ⊥ = omega arith in no) ]

neither : (x : Float) → is_nan x ≡ false → lt zero x ≡ false → lt x zero ≡ false → IsZero x
unfolding lt is_nan
neither nan n p q = absurd (true≢false n)
neither (inf true) n p q = absurd (true≢false q)
neither (inf false) n p q = absurd (true≢false p)
neither (fin true m e) n p q = none m e (omega (arith, ltb-false 0 (m * up e * 1 + 0 * 1 * down e) q))
neither (fin false m e) n p q = none m e (omega (arith, ltb-false (0 * 1 * down e) (m * up e * 1) p, zero-mul (down e)))

pub max-lifts : (x r : Float) → IsMax x zero r → Lifted x r
unfolding lift is_nan
max-lifts x r h = go (lt zero x) refl h.either
  where
    number : is_nan r ≡ false
    number = is_false (is_nan r) (λ t. let f : is_nan zero ≡ true = (h.no_nan t).1 in true≢false (sym f))

    go : (b : Bool) → lt zero x ≡ b → (r ≡ x) ⊎ (r ≡ zero) → (r ≡ cond b x zero) ⊎ (IsZero r × (cond b x zero ≡ zero))
    go true e (inl p) = inl p
    go true e (inr p) = absurd (true≢false (sym e ∙ ap (λ (z : Float). lt z x) (sym p) ∙ h.not_below.0))
    go false e (inr p) = inl p
    go false e (inl p) = inr (neither r number (rw p e) h.not_below.1, refl)

-- ---- a comparison with a zero
same : (a b : Bool) → (T a → T b) → (T b → T a) → a ≡ b
same true true f g = refl
same true false f g = absurd (f tt)
same false true f g = absurd (g tt)
same false false f g = refl

pub at_zero : (z : Float) (c : ℕ) → IsZero z → IsValue z 0 0 c
at_zero nan c h = absurd h
at_zero (inf s) c h = absurd h
at_zero (fin true m e) c h = record { is_finite = tt; equal = simp (h, zero-mul) }
at_zero (fin false m e) c h = record { is_finite = tt; equal = simp (h, zero-mul) }

pub le-zero : (v z : Float) → IsZero z → le v z ≡ le v zero
unfolding le
le-zero v nan h = absurd h
le-zero v (inf t) h = absurd h
le-zero nan (fin t m e) h = refl
le-zero (inf s) (fin t m e) h = refl
le-zero (fin s n d) (fin t m e) h =
    let v = own (fin s n d) tt in
    let a = le-value (fin s n d) (fin t m e) _ _ 0 0 (down d) (down_pos d) v (at_zero (fin t m e) (down d) h) in
    let b = le-value (fin s n d) zero _ _ 0 0 (down d) (down_pos d) v (at_zero zero (down d) refl) in
    same (le (fin s n d) (fin t m e)) (le (fin s n d) zero) (λ q. b.1 (a.0 q)) (λ q. a.1 (b.0 q))

pub zero-le : (v z : Float) → IsZero z → le z v ≡ le zero v
unfolding le
zero-le v nan h = absurd h
zero-le v (inf t) h = absurd h
zero-le nan (fin t m e) h = refl
zero-le (inf s) (fin t m e) h = refl
zero-le (fin s n d) (fin t m e) h =
    let v = own (fin s n d) tt in
    let a = le-value (fin t m e) (fin s n d) 0 0 _ _ (down d) (down_pos d) (at_zero (fin t m e) (down d) h) v in
    let b = le-value zero (fin s n d) 0 0 _ _ (down d) (down_pos d) (at_zero zero (down d) refl) v in
    same (le (fin t m e) (fin s n d)) (le zero (fin s n d)) (λ q. b.1 (a.0 q)) (λ q. a.1 (b.0 q))

-- so a threshold's zero does not show
pub le-lifted : (v x r : Float) → Lifted x r → le v r ≡ le v (lift x)
le-lifted v x r (inl p) = ap (le v) p
le-lifted v x r (inr (z, p)) = le-zero v r z ∙ ap (le v) (sym p)
