-- Which pyramids are refused, and which levels: the tables by the tests, and what holds where nothing refuses. Assumes nothing.
use Prim.Native.Nat.{ℕ, ◌<◌, ◌≤◌}
use native.Mathlib.Omega.{arith}
use mathlib.Core.Path.{◌≡◌, sym, ◌∙◌}
use mathlib.Core.List.{[], ◌∷◌}
use borrow.Author.Tests.{lt-ltb, le-ltb, le-leb, lt-leb, ltb-false, leb-false}
use Rattle.std.specs.Prelude.{Ok, Err}
use Rattle.lists.specs.Limits.{most_levels}
use Rattle.lists.specs.declared.refusal.Refusal.TheVariants.{OutOfRange, LevelsTooShort}
use Rattle.lists.specs.Refusals.{verdict}
use Rattle.lists.specs.Internal.{Sized}
use Rattle.lists.proofs.Refusals.{lowest-none, sized-none}
use Rattle.image_size.proofs.Judged.{passed}
use Rattle.pyramid_levels.specs.Levels.{cells_above, capped}
use Rattle.pyramid_levels.specs.Refusals.{Ask, levels_of, is_absent, is_level_buffer_short, build_refusal_of, level_refusal_of}
use Rattle.pyramid_levels.specs.Internal.{LevelsAccepted}
use Rattle.pyramid_levels.proofs.Sides.{count-few}
use Rattle.pyramid_levels.proofs.Cells.{cells-exact}

module _ (a : Ask) where
  -- ---- building
  -- the base is an image, so no count is cut off
  module _ (s : Sized a.pixels a.w a.h) where
    exact : capped (cells_above a.w a.h (levels_of a)) ≡ cells_above a.w a.h (levels_of a)
    exact = cells-exact a.w a.h (levels_of a) s.narrow s.low

    pub build-short : a.places < capped (cells_above a.w a.h (levels_of a)) → Err LevelsTooShort ≡ verdict (build_refusal_of a)
    unfolding build_refusal_of
    build-short l = rw (passed _ _ _ _ s, lt-ltb _ _ (rw exact at l))

    pub build-long : capped (cells_above a.w a.h (levels_of a)) ≤ a.places → Ok tt ≡ verdict (build_refusal_of a)
    unfolding build_refusal_of
    build-long l = rw (passed _ _ _ _ s, le-ltb _ _ (rw exact at l))

  pub accepts : LevelsAccepted a → build_refusal_of a ≡ 0
  unfolding build_refusal_of
  accepts l = rw (passed _ _ _ _ l.image, le-ltb _ _ l.fits)

  pub accepted : build_refusal_of a ≡ 0 → LevelsAccepted a
  unfolding build_refusal_of
  accepted e =
      let q = sized-none a.pixels a.w a.h ((is_level_buffer_short a, 9) ∷ []) e in
      record { image = q.0; fits = ltb-false _ _ (lowest-none (is_level_buffer_short a) 9 [] (omega arith) q.1).0 }

  -- ---- level k
  module _ (k : ℕ) where
    pub level-there : k < levels_of a
        → build_refusal_of a ≡ level_refusal_of a k
    unfolding build_refusal_of level_refusal_of
    level-there l = simp (lt-leb _ _ l)

    pub level-absent : Sized a.pixels a.w a.h → levels_of a ≤ k → Err OutOfRange ≡ verdict (level_refusal_of a k)
    unfolding level_refusal_of
    level-absent s l = rw (passed _ _ _ _ s, le-leb _ _ l)

    pub level-accepts : LevelsAccepted a → k < levels_of a
        → level_refusal_of a k ≡ 0
    level-accepts f l = sym (level-there l) ∙ accepts f

    pub level-accepted : level_refusal_of a k ≡ 0
        → LevelsAccepted a × (k < levels_of a)
    unfolding level_refusal_of
    level-accepted e =
        let q = sized-none a.pixels a.w a.h ((is_absent a k, 3) ∷ (is_level_buffer_short a, 9) ∷ []) e in
        let r = lowest-none (is_absent a k) 3 ((is_level_buffer_short a, 9) ∷ []) (omega arith) q.1 in (
          record { image = q.0; fits = ltb-false _ _ (lowest-none (is_level_buffer_short a) 9 [] (omega arith) r.1).0 },
          leb-false _ _ r.0,
        )

    -- there are at most so many levels
    pub level-few : level_refusal_of a k ≡ 0 → k < most_levels
    level-few e =
        let f = level-accepted e in
        omega (arith, f.1, count-few a.w a.h a.count a.minimum_side f.0.image.narrow)
