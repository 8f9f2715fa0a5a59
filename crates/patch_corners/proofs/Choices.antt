-- What the search of a map finds is the choice that was asked for, by computed or by exact values. Assumes nothing.
use mathlib.Core.Path.{◌≡◌, refl}
use mathlib.Core.Logic.{inl, inr}
use mathlib.Core.Bool.{Bool, true, false}
use Rattle.response.specs.Patch.{View, map_height, map_width, cells}
use Rattle.accuracy.specs.Accurate.{Bytes}
use Rattle.detect.specs.Detect.{peaks_in}
use Rattle.agreement.proofs.Exactly.{found-exactly}
use Rattle.frame_params.specs.declared.FrameParams.{FrameParams}
use Rattle.patch_corners.specs.OneMap.{IsChoice, choice_of}
use Rattle.patch_corners.specs.MapCorners.{search_with}

pub chosen : (p : FrameParams) (v : View) → Bytes v.img → (exact : Bool)
    → peaks_in (cells v) (search_with p exact (map_width v) (map_height v)) ≡ choice_of p exact v
chosen p v bytes false = refl
chosen p v bytes true = found-exactly v bytes p.ring p.threshold p.window p.least_neighbours p.centroid_radius

pub one_of_two : (p : FrameParams) (exact : Bool) → IsChoice p (choice_of p exact)
one_of_two p false = inl refl
one_of_two p true = inr refl
