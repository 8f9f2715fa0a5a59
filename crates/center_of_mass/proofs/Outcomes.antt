-- The outcome from its parts: the centre's column and row, and the sums. Assumes nothing.
use mathlib.Core.Path.{◌≡◌, refl}
use mathlib.Core.Bool.{true, false}
use mathlib.Core.List.{List}
use Prim.Native.Nat.{ℕ}
use lib.Ieee.{Float, binary32, div, lt}
use Rattle.float32.specs.Float32.{zero}
use Rattle.center_of_mass.specs.declared.Sums.{Sums}
use Rattle.std.specs.Prelude.{Option, None, Some}
use Rattle.center_of_mass.specs.declared.Outcome.TheVariants.{Accepted, OutOfBounds, IllConditioned}
use Rattle.center_of_mass.specs.CenterOfMass.{window_sums, centre_on, weighed, outcome_of}

module _ (r : ℕ) (x y : Float) (m : List Float) (w h : ℕ) where
  pub no-column : centre_on r w x ≡ None → OutOfBounds x y ≡ outcome_of r x y m w h
  unfolding outcome_of
  no-column e = rw e

  pub no_row : centre_on r h y ≡ None → OutOfBounds x y ≡ outcome_of r x y m w h
  unfolding outcome_of
  no_row e = rw e (go (centre_on r w x))
    where
      go : (a : Option ℕ) → OutOfBounds x y ≡ weighed r x y m w a None
      go (Some cx) = refl
      go None = refl

  module _ (cx cy : ℕ) (p : centre_on r w x ≡ Some cx) (q : centre_on r h y ≡ Some cy) (s : Sums) (e : s ≡ window_sums r m w cx cy) where
    pub with-mass : lt zero s.sw ≡ true
        → Accepted (div binary32 s.sx s.sw) (div binary32 s.sy s.sw) s.sw ≡ outcome_of r x y m w h
    unfolding outcome_of
    with-mass k = rw (p, q, ← e, k)

    pub no-mass : lt zero s.sw ≡ false → IllConditioned x y ≡ outcome_of r x y m w h
    unfolding outcome_of
    no-mass k = rw (p, q, ← e, k)
