-- The frame of an uploaded photograph (RULES 20.7): "The frame is the image's pixels as a part of the uploaded bytes,
-- with the parameters given beside it."
use Rattle.std.specs.Prelude.{ℕ, zero, suc, ◌≡◌, List, [], ◌∷◌, length, Result}
use Rattle.lists.specs.declared.refusal.Refusal.{Refusal}
use Rattle.lists.specs.Refusals.{number_of, values_unless, judged, result_or}
use Rattle.frame_params.specs.declared.FrameParams.{FrameParams}
use Rattle.patch_corners.specs.OneMap.{Choice}
use Rattle.frame_pass.specs.Pass.{Pass, frame_pass}
use Rattle.frame.specs.declared.Found.{Found}
use Rattle.frame.specs.Frame.{Buffers, buffers_after, found_in, values_of}
use Rattle.frame.specs.Frame as frames
use Rattle.pgm.specs.Header.{width_of, height_of}
use Rattle.pgm.specs.Pgm.{pixels_in}
use Rattle.pgm.specs.Pgm as pgm

-- the first of two numbers unless it is 0, otherwise the second
abbrev pub first_of : ℕ → ℕ → ℕ
first_of zero n = n
first_of (suc k) n = suc k

module _ (choose : Choice) (p : FrameParams) (upload : List ℕ) where
  -- the pass over the pixels of an upload
  abbrev pub pass_on : Pass
  pass_on = frame_pass p (pixels_in upload) (width_of upload) (height_of upload) choose

  -- "1 .., then 12, then 13, all before 2": the upload's number, then that of the frame of its pixels
  unfoldable pub refusal_of : Buffers → ℕ
  refusal_of b =
      first_of (pgm.refusal_of upload)
      (frames.refusal_of choose p (pixels_in upload) (width_of upload) (height_of upload) b)

  -- What is promised about the frame of an upload, for a choice of peaks: the answer, its number and values, and the
  -- buffers after, as the frame of the upload's pixels leaves them; a refusal of the upload changes none
  pub record PhotographFound (b : Buffers) (r : Result Found Refusal) (b' : Buffers) : Type 0 where
    pub answer : r ≡ judged (refusal_of b) (found_in pass_on)
    pub number : number_of r ≡ refusal_of b
    pub values : values_of r ≡ values_unless (refusal_of b) (length pass_on.corners ∷ pass_on.ties ∷ [])
    pub left : b' ≡ result_or (pgm.refusal_of upload)
        (buffers_after choose p (pixels_in upload) (width_of upload) (height_of upload) b) b
