-- What `compute_roi` promises (RULES 7.3).
use Rattle.std.specs.Prelude.{◌≡◌, Option, Result}
use Rattle.lists.specs.declared.refusal.Refusal.{Refusal}
use Rattle.lists.specs.Refusals.{number_of, values_unless}
use Rattle.corner_list.specs.declared.Corner.{Corner}
use Rattle.multiscale.specs.declared.RoiContext.{RoiContext}
use Rattle.multiscale.specs.declared.Roi.{Roi}
use Rattle.multiscale.specs.Multiscale.{refusal_of, span_on, bounds, roi_of, ends_of, values_of}

pub record Boxed (c : RoiContext) (s : Corner) (a : Result (Option Roi) Refusal) : Type 0 where
  pub answer : a ≡ roi_of c s
  pub number : number_of a ≡ refusal_of c s
  pub values : values_of a ≡ values_unless (refusal_of c s)
      (ends_of (bounds (span_on c c.width s.x) (span_on c c.height s.y)))
