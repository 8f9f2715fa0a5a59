-- Request 1, "PGM photographs": what a call of `find_pgm_corners` leaves is what the frame of the upload's pixels
-- leaves, so demands 2 and 3 hold for it; and what the reader `read_pgm` makes of uploads. `Total` says which numbers
-- they give.
use Rattle.std.specs.Prelude.{ℕ, ◌+◌, ◌*◌, ◌≤◌, ◌≡◌, List, [], ◌∷◌, ◌++◌, map, length, take, replicate, Result, Ok, Err}
use Rattle.lists.specs.declared.refusal.Refusal.{Refusal}
use Rattle.lists.specs.Limits.{largest_side}
use Rattle.lists.specs.Refusals.{refusal_with, values_unless}
use Rattle.accuracy.specs.Accurate.{Bytes}
use Rattle.listing.specs.Text.{decimal, space, newline}
use Rattle.frame_params.specs.declared.FrameParams.{FrameParams}
use Rattle.patch_corners.specs.OneMap.{Choice}
use Rattle.frame.specs.declared.Found.{Found}
use Rattle.frame.specs.Frame.{Buffers, FrameFound}
use Rattle.pgm.specs.declared.PgmImage.{PgmImage}
use Rattle.pgm.specs.Header.{width_of, height_of, raster_at}
use Rattle.pgm.specs.Pgm.{refusal_of, pixels_in, PgmRead}
use Rattle.pgm_frame.specs.PgmFrame.{PhotographFound}
use Rattle.demands.specs.Texts.{bytes_of}

-- ---- the frame of a photograph

-- a call of `find_pgm_corners` that finished, with its promise word for word: by computed or by exact values, as its
-- flag says
pub record PhotographCall (choose : FrameParams → Choice) : Type 0 where
  pub parameters : FrameParams
  pub upload : List ℕ
  -- the upload has type u8
  pub bytes : Bytes upload
  -- the buffers before and after, how many corners were found, and the ties
  pub before : Buffers
  pub after : Buffers
  pub count : ℕ
  pub ties : ℕ
  pub promise : PhotographFound (choose parameters) parameters upload before
      (Ok (record { corners = count; ties = ties })) after

-- "The frame is the image's pixels": it is a call of `find_corners` on them (`CallBy`), to which demands 2 and 3 and
-- request 14 apply
pub record OnPixels {choose : FrameParams → Choice} (c : PhotographCall choose) : Type 0 where
  pub accepted : refusal_of c.upload ≡ 0
  pub pixels : Bytes (pixels_in c.upload)
  pub promise : FrameFound (choose c.parameters) c.parameters (pixels_in c.upload)
      (width_of c.upload) (height_of c.upload) c.before
      (Ok (record { corners = c.count; ties = c.ties })) c.after

pub record PhotographIsFrame : Type 0 where
  pub finished : (choose : FrameParams → Choice) (c : PhotographCall choose) → OnPixels c
  -- finished or not: an accepted upload has the frame's promise; a refused one its own number, and no buffer changes
  pub accepted : (choose : Choice) (p : FrameParams) (upload : List ℕ) (b b' : Buffers)
      (r : Result Found Refusal)
      → PhotographFound choose p upload b r b'
      → refusal_of upload ≡ 0 → FrameFound choose p (pixels_in upload) (width_of upload) (height_of upload) b r b'
  pub refused : (choose : Choice) (p : FrameParams) (upload : List ℕ) (b b' : Buffers)
      (r : Result Found Refusal)
      → PhotographFound choose p upload b r b'
      → (refusal_of upload ≡ 0 → ⊥) → (r ≡ Err (refusal_with (refusal_of upload))) × (b' ≡ b)

-- ---- the reader

-- what `read_pgm` answers, and `pgm_pixels` returns
pub record ReadAs (upload : List ℕ) (at w h : ℕ) (pixels : List ℕ) : Type 0 where
  pub image : (r : Result PgmImage Refusal) → PgmRead upload r
      → r ≡ Ok (record { at = at; w = w; h = h })
  pub part : pixels_in upload ≡ pixels

-- a header as most programs write it: P5, the sides and 255, each number plainly in decimal
abbrev pub plain_header : ℕ → ℕ → List ℕ
plain_header w h = 80 ∷ 53 ∷ newline ∷ (decimal w ++ (space ∷ (decimal h ++ (newline ∷ 50 ∷ 53 ∷ 53 ∷ newline ∷ []))))

-- every size is read back, "A side of 0 .. like any other"
abbrev pub PlainHeaderRead : Type 0
PlainHeaderRead =
    (w h : ℕ) (pixels behind : List ℕ) → w ≤ largest_side → h ≤ largest_side → length pixels ≡ w * h
    → ReadAs (plain_header w h ++ (pixels ++ behind)) (length (plain_header w h)) w h pixels

-- "Bytes after the pixels are not read": other bytes in their place
abbrev pub with_behind : List ℕ → List ℕ → List ℕ
with_behind upload behind = take (raster_at upload + width_of upload * height_of upload) upload ++ behind

-- change nothing
pub record BehindUnread : Type 0 where
  -- in what the reader makes of it
  pub reader : (upload : List ℕ) → refusal_of upload ≡ 0 → (behind : List ℕ)
      → ReadAs (with_behind upload behind) (raster_at upload) (width_of upload) (height_of upload) (pixels_in upload)
  -- and in what a call of `find_pgm_corners` answers and leaves in the same buffers, finished or not
  pub frame : (choose : Choice) (p : FrameParams) (upload : List ℕ) → refusal_of upload ≡ 0
      → (behind : List ℕ) (b b₁ b₂ : Buffers) (r₁ r₂ : Result Found Refusal)
      → PhotographFound choose p upload b r₁ b₁ → PhotographFound choose p (with_behind upload behind) b r₂ b₂
      → (r₂ ≡ r₁) × (b₂ ≡ b₁)

-- ---- a table of uploads, and what is read from each: its number; if that is 0, also the pixels' place, both sides and
-- the pixels
pub record Upload : Type 0 where
  pub bytes : List ℕ
  pub said : List ℕ

abbrev pub told : List ℕ → List ℕ
told u = refusal_of u ∷ values_unless (refusal_of u) (raster_at u ∷ width_of u ∷ height_of u ∷ pixels_in u)

abbrev reads : List ℕ → ℕ → ℕ → ℕ → List ℕ → Upload
reads bytes at w h pixels = record { bytes = bytes; said = 0 ∷ at ∷ w ∷ h ∷ pixels }

abbrev refuses : List ℕ → ℕ → Upload
refuses bytes number = record { bytes = bytes; said = number ∷ [] }

unfoldable pub uploads : List Upload
uploads =
    reads (bytes_of "P5 1 1 255\nA") 11 1 1 (65 ∷ [])
    ∷ reads (bytes_of "P5 0001 01 0255\nA") 16 1 1 (65 ∷ [])
    -- the raster begins after one whitespace character: what follows is a pixel
    ∷ reads (bytes_of "P5 1 1 255\r\nA") 11 1 1 (10 ∷ [])
    ∷ reads (bytes_of "P5 1 1 255\n#") 11 1 1 (35 ∷ [])
    ∷ reads (bytes_of "P5\t1\r1\n255\u{b}A") 11 1 1 (65 ∷ [])
    ∷ reads (bytes_of "P5 0 0 255\n") 11 0 0 []
    ∷ refuses (bytes_of "P5 0 0 255") 12
    -- a comment is ignored together with its line end, also in a number, and does not count as whitespace
    ∷ reads (bytes_of "P5 #c\n1 1 255\nA") 14 1 1 (65 ∷ [])
    ∷ reads (bytes_of "P5 1#c\n1 1 255\n" ++ replicate 11 7) 15 11 1 (replicate 11 7)
    ∷ reads (bytes_of "P5 1 1 255#c\r\nA") 14 1 1 (65 ∷ [])
    ∷ refuses (bytes_of "P5#c\n1 1 255\nA") 12
    ∷ refuses (bytes_of "P5 1 1 255#c\nA") 12
    -- 1 if both sides can be read, whatever follows the height's last digit
    ∷ refuses (bytes_of "P5 4097 1") 1
    ∷ refuses (bytes_of "P5 1 4097#") 1
    ∷ refuses (bytes_of "P5 409#\n7 1x") 1
    ∷ refuses (bytes_of "P5 18446744073709551617 1 255\nA") 1
    ∷ refuses (bytes_of "P5 4097 ") 12
    ∷ refuses (bytes_of "P5 4097 x") 12
    -- 12: not in that form, or fewer bytes than pixels
    ∷ refuses (bytes_of "P51 1 255\nA") 12
    ∷ refuses (bytes_of "P5 1 1 256x") 12
    ∷ refuses (bytes_of "P5 +1 1 255\nA") 12
    ∷ refuses (bytes_of "P5\0 1 1 255\nA") 12
    ∷ refuses (bytes_of "P2 1 1 255\nA") 12
    ∷ refuses (bytes_of "P5 4096 4096 255\n") 12
    ∷ refuses (bytes_of "P5 2 1 65535\nA") 12
    ∷ refuses (bytes_of "P5 1 1 0\n") 12
    ∷ refuses (bytes_of "") 12
    -- 13: any maxval but 255, one byte a pixel
    ∷ refuses (bytes_of "P5 2 1 65535\nAB") 13
    ∷ refuses (bytes_of "P5 1 1 0\nA") 13
    ∷ refuses (bytes_of "P5 1 1 18446744073709551871\nA") 13
    ∷ []

abbrev pub UploadsRead : Type 0
UploadsRead = map (λ (u : Upload). told u.bytes) uploads ≡ map (λ (u : Upload). u.said) uploads
