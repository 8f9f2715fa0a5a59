-- What a caller has of the answer: a box lies between the image's borders and is wider than two of them, and a sound context refuses no
-- seed that is inside. Assumes nothing.
use mathlib.Core.Path.{◌≡◌, sym, ◌∙◌}
use mathlib.Core.Bool.{true}
use Prim.Native.Nat.{ℕ, ◌≤◌, ◌<◌}
use native.Mathlib.Omega.{arith}
use lib.Ieee.{Float}
use Rattle.lists.specs.declared.refusal.Refusal.{Refusal}
use Rattle.lists.proofs.Judged.{judged-ok}
use Rattle.float32.specs.declared.Rounded.{Rounded}
use Rattle.float32.specs.declared.Rounded.TheVariants.{Natural, Negative, Beyond}
use Rattle.corner_list.specs.CornerList.{is_inside}
use Rattle.corner_list.specs.declared.Corner.{Corner}
use Rattle.multiscale.specs.declared.RoiContext.{RoiContext}
use Rattle.multiscale.specs.declared.Roi.{Roi}
use Rattle.std.specs.Prelude.{Option, None, Some, Ok, Err}
use Rattle.multiscale.specs.Multiscale.{refusal_of, border, roi_radius, centre_of, span_at, span_on, bounds, roi_of}
use Rattle.multiscale.specs.Internal.{SoundContext}
use Rattle.multiscale.proofs.Axis.{Between, ends-between}
use Rattle.multiscale.proofs.Contexts.{never-refused}

-- ---- one axis
span_between : (c : RoiContext) (side : ℕ) (x : Float) (low high : ℕ) → span_on c side x ≡ Some (low, high)
    → Between (border c) side low high
unfolding span_on
span_between c side x low high e = go (centre_of c.level x) e
  where
    go : (o : Rounded) → span_at (border c) (roi_radius c) side o ≡ Some (low, high) → Between (border c) side low high
    go (Natural p) e = ends-between (border c) (roi_radius c) side p low high e
    go (Negative n) e = absurd (let z : ◌≡◌ {A = ℕ} 0 1 = cc in omega arith)
    go Beyond e = absurd (let z : ◌≡◌ {A = ℕ} 0 1 = cc in omega arith)

bounds-are : (s t : Option (ℕ × ℕ)) (b : Roi) → bounds s t ≡ Some b → (s ≡ Some (b.x0, b.x1)) × (t ≡ Some (b.y0, b.y1))
bounds-are (Some x) (Some y) b e = (grind arith, grind arith)
bounds-are (Some x) None b e = absurd (let no : ⊥ = grind arith in no)
bounds-are None t b e = absurd (let no : ⊥ = grind arith in no)

-- ---- a box
module _ (c : RoiContext) (s : Corner) where
  module _ (b : Roi) (e : roi_of c s ≡ Ok (Some b)) where
    pub box-between : Between (border c) c.width b.x0 b.x1 × Between (border c) c.height b.y0 b.y1
    unfolding roi_of
    box-between =
        let due = bounds (span_on c c.width s.x) (span_on c c.height s.y) in
        let r = bounds-are (span_on c c.width s.x) (span_on c c.height s.y) b (sym (judged-ok (refusal_of c s) due (Some b) (sym e)).1) in
        (span_between c c.width s.x b.x0 b.x1 r.0, span_between c c.height s.y b.y0 b.y1 r.1)

    -- it is not empty, and lies within the image
    pub box-inside : (b.x0 < b.x1) × (b.x1 ≤ c.width) × (b.y0 < b.y1) × (b.y1 ≤ c.height)
    box-inside = let k = box-between in (omega arith, omega arith, omega arith, omega arith)

  -- ---- no refusal
  module _ (k : SoundContext c) (i : is_inside s ≡ true) where
    pub answered : roi_of c s ≡ Ok (bounds (span_on c c.width s.x) (span_on c c.height s.y))
    unfolding roi_of
    answered = rw (never-refused c s k i)

    pub not-refused : (e : Refusal) → roi_of c s ≡ Err e → ⊥
    not-refused e p = let q = sym answered ∙ p in grind arith
