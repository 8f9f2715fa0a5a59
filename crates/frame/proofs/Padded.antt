-- Buffers that are cleared behind a list with which they begin. Assumes nothing.
use Prim.Native.Nat.{ℕ, ◌-◌, ◌≤◌}
use native.Mathlib.Omega.{arith}
use mathlib.Core.Path.{◌≡◌, refl, sym, ap, ◌∙◌}
use mathlib.Core.List.{List, [], ◌++◌, map}
use lib.ListN.{length, replicate, length-map}
use Rattle.lists.specs.Buffer.{front, wiped_from}
use Rattle.lists.proofs.Buffer.{wiped-front}
use Rattle.float32.specs.Float32.{zero}
use Rattle.corner_list.specs.declared.Corner.{Corner}
use Rattle.corner_list.specs.CornerList.{Slices, x_of, y_of, strength_of, neighbours_of, places_of, front_corners}
use Rattle.corner_list.proofs.Corners.{slices-alike}
use Rattle.frame.specs.Frame.{padded, padded_corners}
use Rattle.frame.specs.Internal.{SameLengths}
use Rattle.clearing.specs.Clearing.{cleared_from}

-- ---- one slice
module _ {A : Type 0} (z : A) where
  pub padded-front : (vs d d' : List A) (n : ℕ) → n ≡ length vs → length vs ≤ length d → length d' ≡ length d
      → wiped_from n z (front vs d') ≡ padded z vs d
  padded-front vs d d' n e h l = wiped-front vs d' z n e (rw l h) ∙ ap (λ (k : ℕ). vs ++ replicate (k - length vs) z) l

  pub padded-none : (d d' : List A) → length d' ≡ length d → wiped_from 0 z d' ≡ wiped_from 0 z d
  padded-none d d' l = padded-front [] d d' 0 refl (omega arith) l

-- ---- a buffer of corners
module _ (b b' : Slices) (same : SameLengths b b') where
  pub cleared-front : (cs : List Corner) (n : ℕ) → n ≡ length cs → n ≤ places_of b
      → cleared_from n (front_corners cs b') ≡ padded_corners cs b
  cleared-front cs n e h =
      slices-alike (each zero x_of b.xs b'.xs (omega arith) same.xs) (each zero y_of b.ys b'.ys (omega arith) same.ys)
      (each zero strength_of b.strengths b'.strengths (omega arith) same.strengths)
      (each 0 neighbours_of b.neighbours b'.neighbours (omega arith) same.neighbours)
    where
      each : {A : Type 0} (z : A) (g : Corner → A) (d d' : List A) → n ≤ length d → length d' ≡ length d
          → wiped_from n z (front (map g cs) d') ≡ padded z (map g cs) d
      each z g d d' k l = padded-front z (map g cs) d d' n (e ∙ sym (length-map cs g)) (omega (arith, length-map cs g)) l

  pub cleared-none : cleared_from 0 b' ≡ cleared_from 0 b
  cleared-none =
      slices-alike (padded-none zero b.xs b'.xs same.xs) (padded-none zero b.ys b'.ys same.ys)
      (padded-none zero b.strengths b'.strengths same.strengths)
      (padded-none 0 b.neighbours b'.neighbours same.neighbours)
