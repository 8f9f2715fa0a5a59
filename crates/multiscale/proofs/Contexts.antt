-- Contexts: what the tests say of the table of refusals, what holds of a context that is not refused, and that a sound one never is.
-- Assumes nothing.
use mathlib.Core.Path.{◌≡◌, ◌∙◌}
use mathlib.Core.Bool.{true, false}
use Prim.Native.Nat.{◌*◌, ◌%◌, ◌^◌, ◌≤◌}
use native.Mathlib.Nat.{mul-le-mul, one-mul}
use native.Mathlib.Omega.{arith}
use lib.Dec.{leb, lit<}
use lib.Pow.{pow_mono, shl_exact}
use borrow.Author.Tests.{le-ltb, le-leb, leb-true, not-false}
use Rattle.lists.specs.Limits.{largest_side, largest_radius, largest_search, last_level, largest_border}
use Rattle.std.specs.Prelude.{Err}
use Rattle.lists.specs.declared.refusal.Refusal.TheVariants.{SideTooLarge, OutOfRange, PositionOutside}
use Rattle.lists.specs.Refusals.{is_large, verdict}
use Rattle.lists.proofs.Tests.{and_parts}
use Rattle.lists.proofs.Refusals.{all-clear, sides-small}
use Rattle.ring.proofs.Places.{ring-small}
use Rattle.corner_list.specs.CornerList.{is_inside}
use Rattle.corner_list.specs.declared.Corner.{Corner}
use Rattle.multiscale.specs.declared.RoiContext.{RoiContext}
use Rattle.multiscale.specs.Multiscale.{parameters_fit, conditions, refusal_of, border, roi_radius}
use Rattle.multiscale.specs.Internal.{SoundContext}

-- ---- the sizes of a sound context are small
module _ (c : RoiContext) (s : SoundContext c) where
  pub border-small : border c ≤ largest_border
  border-small = omega (arith, ring-small c.ring s.ring, s.window, s.centroid_radius)

  search-small : c.search_radius * 2 ^ c.level ≤ largest_search * largest_side
  search-small = mul-le-mul s.search_radius (pow_mono {j = last_level} s.level)

  pub radius-small : roi_radius c ≤ largest_search * largest_side
  unfolding roi_radius
  radius-small = omega (arith, search-small, border-small)

  -- the search radius, shifted by the level
  pub search-shifted : c.search_radius * 2 ^ c.level % 2 ^ 32 ≡ c.search_radius * 2 ^ c.level
  search-shifted = shl_exact {a = c.search_radius} 8 c.level 32 (omega (arith, s.search_radius)) (omega (arith, s.level))

  -- the scale
  pub scale-is : 1 * 2 ^ c.level % 2 ^ 32 ≡ 2 ^ c.level
  scale-is = shl_exact {a = 1} 1 c.level 32 (omega arith) (omega (arith, s.level)) ∙ one-mul (2 ^ c.level)

  sound-fits : parameters_fit c ≡ true
  unfolding parameters_fit
  sound-fits =
      rw (
        le-leb c.window largest_radius s.window,
        le-leb c.centroid_radius largest_radius s.centroid_radius,
        le-leb c.search_radius largest_search s.search_radius,
        le-leb c.level last_level s.level,
      ) s.ring

-- ---- the table, by the tests
module _ (c : RoiContext) (s : Corner) where
  pub large : is_large c.width c.height ≡ true → Err SideTooLarge ≡ verdict (refusal_of c s)
  unfolding refusal_of
  large l = rw l

  module _ (l : is_large c.width c.height ≡ false) where
    pub unfit : parameters_fit c ≡ false → Err OutOfRange ≡ verdict (refusal_of c s)
    unfolding refusal_of
    unfit e = rw (l, e)

    module _ (e : parameters_fit c ≡ true) where
      pub outside : is_inside s ≡ false → Err PositionOutside ≡ verdict (refusal_of c s)
      unfolding refusal_of
      outside i = rw (l, e, i)

      pub none : is_inside s ≡ true → refusal_of c s ≡ 0
      unfolding refusal_of
      none i = rw (l, e, i)

  -- ---- nothing is refused
  pub sound : refusal_of c s ≡ 0 → SoundContext c
  unfolding refusal_of parameters_fit
  sound e =
      let clear = all-clear (conditions c s) (lit< tt, (lit< tt, (lit< tt, tt))) e in
      let sides = sides-small c.width c.height clear.0 in
      let p = and_parts (leb c.window largest_radius) _ (not-false (parameters_fit c) clear.1.0) in
      let q = and_parts (leb c.centroid_radius largest_radius) _ p.1 in
      let r = and_parts (leb c.search_radius largest_search) _ q.1 in
      let t = and_parts (leb c.level last_level) _ r.1 in
      record {
        width = sides.0;
        height = sides.1;
        ring = t.1;
        window = leb-true c.window largest_radius p.0;
        centroid_radius = leb-true c.centroid_radius largest_radius q.0;
        search_radius = leb-true c.search_radius largest_search r.0;
        level = leb-true c.level last_level t.0;
      }

  -- a sound context refuses no seed that is inside
  pub never-refused : SoundContext c → is_inside s ≡ true → refusal_of c s ≡ 0
  never-refused k i = none (rw (le-ltb _ _ k.width, le-ltb _ _ k.height)) (sound-fits c k) i
