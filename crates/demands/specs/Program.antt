-- Demands 1 and 3 for what the program `corners` prints: `output_of` of its input bytes. `find` of finder promises to
-- leave it in the buffer that the program writes.
use Rattle.std.specs.Prelude.{ℕ, ◌+◌, ◌<◌, ◌≤◌, ◌≡◌, ◌⊎◌, List, [], ◌∷◌, ◌++◌, length, take}
use Rattle.lists.specs.Places.{All}
use Rattle.corner_list.specs.declared.Corner.{Corner}
use Rattle.frame_params.specs.declared.FrameParams.{FrameParams}
use Rattle.patch_corners.specs.OneMap.{Choice, computed_choice, exact_choice}
use Rattle.frame_pass.specs.Pass.{frame_pass, looked_at}
use Rattle.frame.specs.Frame.{refusal_of}
use Rattle.stream.specs.declared.Header.{Header}
use Rattle.stream.specs.Stream.{longest_stream, accepted, read_frame}
use Rattle.stream.specs.Wanted.{wanted}
use Rattle.stream.specs.RoundTrip.{RoundTrip}
use Rattle.listing.specs.Text.{corners_text, refused_text}
use Rattle.finder.specs.Finder.{params_of, program_buffers, output_of}
use Rattle.demands.specs.Numbers.{OneOf}
use Rattle.demands.specs.FrameExact.{Alike}

-- it reads at most 9,527 bytes: later ones decide nothing
abbrev pub ProgramReads : Type 0
ProgramReads = (input : List ℕ) → output_of (take longest_stream input) ≡ output_of input

-- some bytes that may follow make it print something else
pub record ProgramUndecided (input : List ℕ) : Type 0 where
  pub more : List ℕ
  pub bytes : All (λ v. v < 256) more
  pub differs : output_of (input ++ more) ≡ output_of input → ⊥

-- "bytes after that 4 are not read": it reads `wanted` more bytes at a time, until that is 0. Then what follows changes
-- nothing, and with fewer bytes it may
pub record Reads (input : List ℕ) : Type 0 where
  pub decided : wanted input ≡ 0 → (t : List ℕ) → output_of (input ++ t) ≡ output_of input
  pub undecided : (t : List ℕ) → length t < wanted input → ProgramUndecided (input ++ t)
  pub most : 0 < wanted input → length input + wanted input ≤ longest_stream

abbrev pub ProgramDecided : Type 0
ProgramDecided = (input : List ℕ) → Reads input

-- the corners that a pass by a choice of peaks finds in a frame, and their listing
abbrev pub corners_by : (FrameParams → Choice) → Header → List ℕ → List Corner
corners_by choose h pixels = (frame_pass (params_of h) pixels h.width h.height (choose (params_of h))).corners

abbrev pub text_by : (FrameParams → Choice) → Header → List ℕ → List ℕ
text_by choose h pixels = corners_text (corners_by choose h pixels)

-- the input is a frame stream, and its frame is not refused: the program prints the frame's corners
pub record PrintsCorners (input : List ℕ) : Type 0 where
  pub header : Header
  pub pixels : List ℕ
  pub reading : read_frame input ≡ accepted header pixels
  pub finished : refusal_of (computed_choice (params_of header)) (params_of header) pixels header.width
      header.height program_buffers ≡ 0
  pub prints : output_of input ≡ text_by computed_choice header pixels

-- it prints `refused` and a number. 2, 8 and 9 do not occur, since its buffers are large enough for what the reader
-- accepts; neither does 4
pub record PrintsRefusal (input : List ℕ) : Type 0 where
  pub number : ℕ
  pub numbered : OneOf number (1 ∷ 3 ∷ 5 ∷ 6 ∷ 7 ∷ 10 ∷ 11 ∷ [])
  pub prints : output_of input ≡ refused_text number

-- demand 1: "comes back as a finished corner list or as one of eleven numbered refusals"
abbrev pub ProgramTotal : Type 0
ProgramTotal = (input : List ℕ) → PrintsCorners input ⊎ PrintsRefusal input

-- demand 3: "its whole corner list is the one that exact peak choice leads to"
abbrev pub ProgramExact : Type 0
ProgramExact =
    (input : List ℕ) (l : PrintsCorners input)
    → All (Alike (params_of l.header))
    (looked_at (params_of l.header) l.pixels l.header.width l.header.height
    (exact_choice (params_of l.header)))
    → output_of input ≡ text_by exact_choice l.header l.pixels

-- "A frame handed in": every frame that the stream's form allows has a stream, and each stream stands for one frame
abbrev pub ProgramStreams : Type 0
ProgramStreams = RoundTrip
