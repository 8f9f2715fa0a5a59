-- The window's centre on one axis: the tests that find it, and what it then is. Assumes nothing.
use mathlib.Core.Path.{◌≡◌, refl}
use mathlib.Core.Logic.{inl, inr}
use mathlib.Core.Bool.{Bool, true, false, ◌||◌, cond}
use mathlib.Core.List.{[], ◌∷◌}
use Prim.Native.Nat.{ℕ, ◌+◌, ◌-◌, ◌≤◌, ◌<◌}
use native.Mathlib.Omega.{arith}
use lib.Dec.{leb, ltb}
use lib.Ieee.{Float}
use types.Run.{OneOf}
use denote.Enum.Declared.{tag_of}
use borrow.Author.Tests.{le-ltb, lt-leb, leb-false, ltb-false}
use Rattle.float32.specs.contracts.Rounded.{the_type as rounded-type}
use Rattle.float32.specs.Float32.{round_half_away}
use Rattle.float32.specs.declared.Rounded.{Rounded}
use Rattle.float32.specs.declared.Rounded.TheVariants.{Natural, Negative, Beyond}
use Rattle.std.specs.Prelude.{None, Some}
use Rattle.center_of_mass.specs.CenterOfMass.{centre_from, centre_on}

pub not-natural : (r side : ℕ) (o : Rounded) → OneOf (1 ∷ 2 ∷ []) (tag_of rounded-type o) → None ≡ centre_from r side o
not-natural r side (Natural p) (inl h) = absurd (omega arith)
not-natural r side (Natural p) (inr h) = absurd (omega arith)
not-natural r side (Negative n) h = refl
not-natural r side Beyond h = refl

module _ (r side p : ℕ) where
  pub in_place : r ≤ p → p + r < side → Some p ≡ centre_from r side (Natural p)
  in_place h k = rw (le-ltb p r h, lt-leb (side - r) p (omega arith))

-- where there is a centre, it is the rounded seed, and the window lies within the side
placed-in : (r side p : ℕ) (o : Rounded) → Some p ≡ centre_from r side o → (o ≡ Natural p) × (r ≤ p) × (p + r < side)
placed-in r side p (Natural q) h = go (ltb q r) (leb (side - r) q) refl refl h
  where
    go : (a b : Bool) → ltb q r ≡ a → leb (side - r) q ≡ b → Some p ≡ cond (a || b) None (Some q)
        → (Natural q ≡ Natural p) × (r ≤ p) × (p + r < side)
    go true b s t e = absurd (let z : ◌≡◌ {A = ℕ} 0 1 = cc in omega arith)
    go false true s t e = absurd (let z : ◌≡◌ {A = ℕ} 0 1 = cc in omega arith)
    go false false s t e = let k : p ≡ q = cc in ((cc), omega (arith, ltb-false q r s), omega (arith, leb-false (side - r) q t))
placed-in r side p (Negative n) h = absurd (let z : ◌≡◌ {A = ℕ} 0 1 = cc in omega arith)
placed-in r side p Beyond h = absurd (let z : ◌≡◌ {A = ℕ} 0 1 = cc in omega arith)

module _ (r side p : ℕ) (x : Float) (h : Some p ≡ centre_on r side x) where
  pub centre-rounded : round_half_away x ≡ Natural p
  unfolding centre_on
  centre-rounded = (placed-in r side p (round_half_away x) h).0

  pub window-in : (r ≤ p) × (p + r < side)
  unfolding centre_on
  window-in = let k = placed-in r side p (round_half_away x) h in (k.1, k.2)
