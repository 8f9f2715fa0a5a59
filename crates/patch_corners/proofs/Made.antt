-- Of a map that the response made, the corners and ties that `add_map_corners` adds are those of the map in a frame. Assumes nothing.
use mathlib.Core.Path.{◌≡◌, sym, ap, ◌∙◌}
use mathlib.Core.Bool.{Bool}
use mathlib.Core.List.{List, map}
use Rattle.lists.specs.Places.{Place, sum_of}
use Rattle.response.specs.Patch.{View, map_height, map_width, cells}
use Rattle.detect.specs.Detect.{start_at, ties_at}
use Rattle.frame_params.specs.declared.FrameParams.{FrameParams}
use Rattle.patch_corners.specs.OneMap.{search_on, choice_of, corners_in, ties_on}
use Rattle.patch_corners.specs.MapCorners.{centred, centres_in, ties_with}
use Rattle.patch_corners.proofs.Fine.{Fine}
use Rattle.patch_corners.proofs.Choices.{chosen, one_of_two}
use Rattle.patch_corners.proofs.Accepting.{corners-centred}

module _ (p : FrameParams) (v : View) (f : Fine p v) (exact : Bool) where
  -- none is dropped in a frame, and none stays where it stands here: every centre is accepted
  pub made-corners : centres_in p exact (cells v) (map_width v) (map_height v) ≡ corners_in p (choice_of p exact) v
  made-corners =
      ap (λ (l : List Place). map (centred p.centroid_radius (cells v) (map_width v) (map_height v))
      (map (start_at (cells v) (search_on p v)) l))
      (chosen p v f.bytes exact)
      ∙ sym (corners-centred p v (choice_of p exact) f (one_of_two p exact))

  pub made-ties : ties_with p exact (cells v) (map_width v) (map_height v) ≡ ties_on p (choice_of p exact) v
  made-ties = ap (sum_of (ties_at (cells v) (search_on p v))) (chosen p v f.bytes exact)
