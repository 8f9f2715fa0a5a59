-- What `zakdomp_find_corners` and `zakdomp_find_exact_corners` promise, by the promise of `find_corners`.
use Rattle.std.specs.Prelude.{ℕ, Bool, List}
use Rattle.frame_params.specs.declared.FrameParams.{FrameParams}
use Rattle.patch_corners.specs.OneMap.{choice_of}
use Rattle.frame_pass.specs.Pass.{frame_pass}
use Rattle.frame.specs.Frame.{Buffers, FrameFound, TakenApart}

-- r is the number of the answer, and the buffers, the count and the ties are the answer's too
pub record CornersFound (exact : Bool) (p : FrameParams) (img : List ℕ) (w h : ℕ) (b : Buffers)
    (count ties r : ℕ) (b' : Buffers)
    (count' ties' : ℕ) : Type 0 where
  pub parts : TakenApart (λ a. FrameFound (choice_of p exact) p img w h b a b')
      (frame_pass p img w h (choice_of p exact))
      count ties r count' ties'
