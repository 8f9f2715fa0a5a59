-- The promise of `find_pgm_corners` from those of the reader and of the frame. Assumes nothing.
use Prim.Native.Nat.{ℕ, zero, suc}
use mathlib.Core.Path.{◌≡◌, refl, sym, ◌∙◌}
use mathlib.Core.List.{List}
use Rattle.std.specs.Prelude.{Result, Ok, Err}
use Rattle.lists.specs.declared.refusal.Refusal.{Refusal}
use Rattle.lists.proofs.Judged.{judged-err, values-refused, refused-some, refused-stays}
use Rattle.frame_params.specs.declared.FrameParams.{FrameParams}
use Rattle.patch_corners.specs.OneMap.{Choice}
use Rattle.frame.specs.declared.Found.{Found}
use Rattle.frame.specs.Frame.{Buffers, FrameFound, found_in}
use Rattle.frame.specs.Frame as frames
use Rattle.pgm.specs.Header.{width_of, height_of}
use Rattle.pgm.specs.declared.PgmImage.{PgmImage}
use Rattle.pgm.specs.Pgm.{pixels_in, PgmRead}
use Rattle.pgm.specs.Pgm as upload
use Rattle.pgm.proofs.Judging.{located}
use Rattle.pgm_frame.specs.PgmFrame.{first_of, pass_on, refusal_of, PhotographFound}

first-is : (n k : ℕ) → (n ≡ 0 → ⊥) → first_of n k ≡ n
first-is zero k h = absurd (h refl)
first-is (suc n) k h = refl

module _ (choose : Choice) (p : FrameParams) (bytes : List ℕ) (b : Buffers) where
  pub photograph-refused : (e : Refusal) → PgmRead bytes (Err e) → PhotographFound choose p bytes b (Err e) b
  unfolding refusal_of
  photograph-refused e read =
      let of_pixels = frames.refusal_of choose p (pixels_in bytes) (width_of bytes) (height_of bytes) b in
      let first = first-is (upload.refusal_of bytes) of_pixels (refused-some _ _ e read.answer) in
      record {
        answer = rw first (judged-err _ _ (found_in (pass_on choose p bytes)) e read.answer);
        number = rw first read.number;
        values = rw first (values-refused _ _ e _ read.answer);
        left = sym (refused-stays _ _ e _ _ read.answer);
      }

  pub photograph-found : (i : PgmImage) → PgmRead bytes (Ok i) → (img : List ℕ) → img ≡ pixels_in bytes
      → (answer : Result Found Refusal) (b' : Buffers) → FrameFound choose p img i.w i.h b answer b'
      → PhotographFound choose p bytes b answer b'
  unfolding refusal_of
  photograph-found i read img pixels answer b' f =
      let l = located bytes i read in
      record {
        answer = f.answer ∙ rw (l.none, pixels, l.width, l.height);
        number = f.number ∙ rw (l.none, pixels, l.width, l.height);
        values = f.values ∙ rw (l.none, pixels, l.width, l.height);
        left = f.left ∙ rw (l.none, pixels, l.width, l.height);
      }
