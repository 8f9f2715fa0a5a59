-- What `zakdomp_find_corners_pgm` and `zakdomp_find_exact_corners_pgm` promise, by the promise of `find_pgm_corners`.
use Rattle.std.specs.Prelude.{ℕ, Bool, List}
use Rattle.frame_params.specs.declared.FrameParams.{FrameParams}
use Rattle.patch_corners.specs.OneMap.{choice_of}
use Rattle.frame.specs.Frame.{Buffers, TakenApart}
use Rattle.pgm_frame.specs.PgmFrame.{pass_on, PhotographFound}

-- r is the number of the answer, and the buffers, the count and the ties are the answer's too
pub record PhotographCorners (exact : Bool) (p : FrameParams) (upload : List ℕ) (b : Buffers)
    (count ties r : ℕ) (b' : Buffers)
    (count' ties' : ℕ) : Type 0 where
  pub parts : TakenApart (λ a. PhotographFound (choice_of p exact) p upload b a b')
      (pass_on (choice_of p exact) p upload)
      count ties r count' ties'
