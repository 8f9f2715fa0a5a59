-- What `compute_roi` promises, by its answer. Assumes nothing.
use mathlib.Core.Path.{◌≡◌}
use native.Mathlib.Omega.{arith}
use Rattle.std.specs.Prelude.{Option, Result, Ok, Err}
use Rattle.lists.specs.declared.refusal.Refusal.{Refusal}
use Rattle.lists.specs.Refusals.{verdict}
use Rattle.lists.proofs.Judged.{number-judged, values-judged, judged-err}
use Rattle.corner_list.specs.declared.Corner.{Corner}
use Rattle.multiscale.specs.declared.RoiContext.{RoiContext}
use Rattle.multiscale.specs.declared.Roi.{Roi}
use Rattle.multiscale.specs.Multiscale.{refusal_of, span_on, bounds, roi_of}
use Rattle.multiscale.specs.Promise.{Boxed}

promised : (c : RoiContext) (s : Corner) (a : Result (Option Roi) Refusal) → a ≡ roi_of c s → Boxed c s a
unfolding roi_of refusal_of
promised c s a e = record { answer = e; number = number-judged _ _ e (grind arith); values = values-judged _ _ _ e }

module _ (c : RoiContext) (s : Corner) where
  pub refused : (e : Refusal) → Err e ≡ verdict (refusal_of c s) → Boxed c s (Err e)
  unfolding roi_of
  refused e p = promised c s (Err e) (judged-err (refusal_of c s) tt _ e p)

  pub answered : refusal_of c s ≡ 0 → Boxed c s (Ok (bounds (span_on c c.width s.x) (span_on c c.height s.y)))
  unfolding roi_of
  answered p = promised c s _ (rw p)
