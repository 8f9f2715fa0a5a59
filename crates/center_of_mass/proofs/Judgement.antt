-- The refusals: what the tests on the way say of the table, and what holds where nothing is refused. Assumes nothing.
use mathlib.Core.Path.{◌≡◌, sym}
use mathlib.Core.Logic.{◌⊎◌, inl, inr}
use mathlib.Core.Bool.{Bool, true, false, cond, not, ◌&&◌, true≢false}
use Prim.Native.Nat.{ℕ, ◌≤◌, ◌<◌}
use lib.Dec.{ltb, lit<}
use lib.Ieee.{Float}
use borrow.Author.Tests.{lt-ltb, le-ltb, ltb-false}
use Rattle.lists.specs.Limits.{largest_radius}
use Rattle.lists.specs.Places.{All}
use Rattle.std.specs.Prelude.{Err}
use Rattle.lists.specs.declared.refusal.Refusal.{Refusal}
use Rattle.lists.specs.declared.refusal.Refusal.TheVariants.{OutOfRange, PositionOutside}
use Rattle.lists.specs.Refusals.{is_large, is_misfit, verdict}
use Rattle.lists.specs.Internal.{Sized}
use Rattle.lists.proofs.Refusals.{all-clear, sized_of}
use Rattle.image_size.specs.ImageSize.{refusal_of as image_refusal}
use Rattle.image_size.proofs.Judged.{refused, passed}
use Rattle.center_of_mass.specs.CenterOfMass.{seed_fits, conditions, refusal_of}

module _ (r : ℕ) (x y : Float) (cells w h : ℕ) where
  -- ---- a map that is refused
  pub by_map : (e : Refusal) → Err e ≡ verdict (image_refusal cells w h) → Err e ≡ verdict (refusal_of r x y true cells w h)
  unfolding refusal_of
  by_map e q = refused cells w h tt e _ q

  -- the map is one that can be judged, or there is none
  abbrev pub MapFits : Bool → Type 0
  MapFits has_map = ((has_map ≡ true) × Sized cells w h) ⊎ (has_map ≡ false)

  -- ---- the radius and the seed
  module _ (has_map : Bool) (f : MapFits has_map) where
    seed-only : refusal_of r x y has_map cells w h ≡ cond (ltb largest_radius r) 3 (cond (not (seed_fits x && seed_fits y)) 4 0)
    unfolding refusal_of
    seed-only = go f
      where
        go : MapFits has_map → refusal_of r x y has_map cells w h
            ≡ cond (ltb largest_radius r) 3 (cond (not (seed_fits x && seed_fits y)) 4 0)
        go (inl g) = rw g.0 (passed cells w h _ g.1)
        go (inr g) = rw g

    pub large : largest_radius < r → Err OutOfRange ≡ verdict (refusal_of r x y has_map cells w h)
    large k = rw (seed-only, lt-ltb largest_radius r k)

    pub seed-far : r ≤ largest_radius → (seed_fits x && seed_fits y) ≡ false
        → Err PositionOutside ≡ verdict (refusal_of r x y has_map cells w h)
    seed-far k e = rw (seed-only, le-ltb largest_radius r k, e)

    pub none : r ≤ largest_radius → true ≡ seed_fits x → true ≡ seed_fits y → 0 ≡ refusal_of r x y has_map cells w h
    none k p q = rw (seed-only, le-ltb largest_radius r k, ← p, ← q)

  -- ---- nothing is refused
  module _ (has_map : Bool) (e : refusal_of r x y has_map cells w h ≡ 0) where
    clear : All (λ c. c.0 ≡ false) (conditions r x y has_map cells w h)
    unfolding refusal_of
    clear = all-clear (conditions r x y has_map cells w h) (lit< tt, (lit< tt, (lit< tt, (lit< tt, tt)))) e

    pub radius-small : r ≤ largest_radius
    radius-small = ltb-false largest_radius r clear.1.1.0

    pub map-fits : has_map ≡ true → Sized cells w h
    map-fits m = go has_map m clear.0 clear.1.0
      where
        go : (b : Bool) → b ≡ true → (b && is_large w h) ≡ false → (b && is_misfit cells w h) ≡ false → Sized cells w h
        go true q s t = sized_of cells w h s t
        go false q s t = absurd (true≢false (sym q))
