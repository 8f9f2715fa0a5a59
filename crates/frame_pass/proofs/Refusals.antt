-- The refusals of a frame before its pass: what holds where there is none, and that 10 is not among them. Assumes nothing.
use Prim.Native.Nat.{ℕ, ◌*◌, ◌<◌, ◌≤◌}
use native.Mathlib.Omega.{arith}
use mathlib.Core.Path.{◌≡◌, refl, ◌∙◌}
use mathlib.Core.Logic.{◌⊎◌, inl, inr}
use mathlib.Core.Bool.{Bool, true, false, not, ◌&&◌}
use mathlib.Core.List.{List}
use lib.ListN.{length}
use borrow.Author.Tests.{ltb-false, not-false, lt-ltb, le-ltb}
use Rattle.lists.specs.Places.{All}
use Rattle.lists.specs.Refusals.{lowest}
use Rattle.lists.specs.Internal.{Sized}
use Rattle.lists.proofs.Refusals.{all-clear, lowest-le, sized_of}
use Rattle.accuracy.specs.Accurate.{Bytes}
use Rattle.pyramid_levels.specs.Levels.{level_count, cells_above, capped}
use Rattle.pyramid_levels.specs.Refusals.{ask, is_level_buffer_short}
use Rattle.pyramid_levels.proofs.Cells.{cells-exact}
use Rattle.pyramid_levels.specs.Internal.{LevelsAccepted}
use Rattle.merge_radius.specs.MergeRadius.{is_off, is_sized}
use Rattle.frame_params.specs.declared.FrameParams.{FrameParams}
use Rattle.frame_params.specs.Ranges.{parameters_fit}
use Rattle.frame_pass.specs.Refusals.{conditions}
use Rattle.frame_pass.specs.Theorems.{SoundFrame}

-- a merge radius that is not refused
radius-fits : (off sized : Bool) → (not off && not sized) ≡ false → (off ≡ true) ⊎ ((off ≡ false) × (sized ≡ true))
radius-fits true sized e = inl refl
radius-fits false true e = inr (refl, refl)
radius-fits false false e = let z : ◌≡◌ {A = Bool} true false = e in absurd (let y : ◌≡◌ {A = ℕ} 0 1 = cc in let no : ⊥ = omega arith in no)

-- no refusal before the pass
pub record Admitted (p : FrameParams) (pixels w h cells places : ℕ) : Type 0 where
  pub accepted : LevelsAccepted (ask pixels places w h p.levels p.minimum_side)
  pub fit : parameters_fit p ≡ true
  pub radius : (is_off p.merge_radius ≡ true) ⊎ ((is_off p.merge_radius ≡ false) × (is_sized p.merge_radius ≡ true))
  pub enough : w * h ≤ cells

module _ (p : FrameParams) (pixels w h cells places : ℕ) where
  pub numbered : All (λ c. 0 < c.1) (conditions p pixels w h cells places)
  unfolding conditions
  numbered = (omega arith, (omega arith, (omega arith, (omega arith, (omega arith, (omega arith, tt))))))

  pub not-ten : lowest (conditions p pixels w h cells places) < 10
  unfolding conditions
  not-ten =
      let l = lowest-le (conditions p pixels w h cells places) 9
      (omega arith, (omega arith, (omega arith, (omega arith, (omega arith, (omega arith, tt)))))) in
      omega arith

  pub admitted : lowest (conditions p pixels w h cells places) ≡ 0 → Admitted p pixels w h cells places
  unfolding conditions
  admitted e =
      let q = all-clear (conditions p pixels w h cells places) numbered e in record {
        accepted = record { image = sized_of pixels w h q.0 q.1.0; fits = ltb-false _ _ q.1.1.1.1.1.0 };
        fit = not-false (parameters_fit p) q.1.1.0;
        radius = radius-fits (is_off p.merge_radius) (is_sized p.merge_radius) q.1.1.1.0;
        enough = ltb-false cells (w * h) q.1.1.1.1.0;
      }

-- ---- the number by the tests
-- of an image the count of its levels' pixels, n, is exact
module _ (p : FrameParams) (pixels w h places : ℕ) (image : Sized pixels w h) (n : ℕ)
    (e : n ≡ capped (cells_above w h (level_count w h p.levels p.minimum_side))) where
  exactly : n ≡ cells_above w h (level_count w h p.levels p.minimum_side)
  exactly = e ∙ cells-exact w h (level_count w h p.levels p.minimum_side) image.narrow image.low

  pub short : places < n → is_level_buffer_short (ask pixels places w h p.levels p.minimum_side) ≡ true
  short l = lt-ltb places _ (rw exactly at l)

  pub enough : n ≤ places → is_level_buffer_short (ask pixels places w h p.levels p.minimum_side) ≡ false
  enough l = le-ltb places _ (rw exactly at l)

pub admitted-sound : (p : FrameParams) (img : List ℕ) (w h cells places : ℕ) → Admitted p (length img) w h cells places
    → Bytes img → SoundFrame p img w h
admitted-sound p img w h cells places a b =
    record {
      fit = a.fit;
      narrow = a.accepted.image.narrow;
      low = a.accepted.image.low;
      sized = a.accepted.image.sized;
      bytes = b;
    }
