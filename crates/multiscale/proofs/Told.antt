-- The box in terms that other crates have: by the tests of a seed's centre on either axis. Assumes nothing.
use mathlib.Core.Path.{◌≡◌, refl}
use mathlib.Core.Bool.{Bool, true, false, cond, ◌||◌}
use Prim.Native.Nat.{ℕ, ◌+◌, ◌-◌, ◌*◌}
use lib.Dec.{ltb, leb}
use Rattle.float32.specs.declared.Rounded.TheVariants.{Natural}
use Rattle.lists.specs.Refusals.{judged}
use Rattle.corner_list.specs.declared.Corner.{Corner}
use Rattle.multiscale.specs.declared.RoiContext.{RoiContext}
use Rattle.multiscale.specs.declared.Roi.{Roi}
use Rattle.std.specs.Prelude.{None, Some, Option, Ok}
use Rattle.multiscale.specs.Multiscale.{refusal_of, border, roi_radius, centre_of, low_end, high_end, span_about, span_on, bounds, roi_of}

-- nothing about a centre p on one axis
abbrev pub is_off : ℕ → ℕ → ℕ → ℕ → Bool
is_off b r side p = ltb p (b + 1) || (leb (side - (b + 1)) p || leb (high_end b r side p - low_end b r p) (2 * b))

pub roi-told : (c : RoiContext) (s : Corner) (p q : ℕ) → refusal_of c s ≡ 0 → centre_of c.level s.x ≡ Natural p
    → centre_of c.level s.y ≡ Natural q
    → let b = border c in
    let r = roi_radius c in
    roi_of c s
    ≡ Ok (cond (is_off b r c.width p || is_off b r c.height q) None
    (Some (record { x0 = low_end b r p; y0 = low_end b r q; x1 = high_end b r c.width p; y1 = high_end b r c.height q })))
unfolding roi_of span_on span_about
roi-told c s p q e column row =
    rw (e, column, row) (go _ _ _ _ (is_off (border c) (roi_radius c) c.width p) (is_off (border c) (roi_radius c) c.height q))
  where
    go : (x0 x1 y0 y1 : ℕ) (a b : Bool)
        → judged 0 (bounds (cond a None (Some (x0, x1))) (cond b None (Some (y0, y1))))
        ≡ Ok (cond {A = Option Roi} (a || b) None (Some (record { x0 = x0; y0 = y0; x1 = x1; y1 = y1 })))
    go x0 x1 y0 y1 true b = refl
    go x0 x1 y0 y1 false true = refl
    go x0 x1 y0 y1 false false = refl
