-- The program `corners` as a function from its input bytes to its output bytes: reader, frame pass and listing
-- composed.
use Rattle.std.specs.Prelude.{ℕ, ◌/◌, List, replicate}
use Rattle.std.specs.Float.{binary32}
use Rattle.std.specs.Float.Ieee.{of_bits}
use Rattle.lists.specs.Refusals.{unless}
use Rattle.float32.specs.Float32 as float32
use Rattle.corner_list.specs.CornerList.{Slices, slices}
use Rattle.frame_params.specs.declared.FrameParams.{FrameParams}
use Rattle.frame_params.specs.Params.{params}
use Rattle.patch_corners.specs.OneMap.{computed_choice}
use Rattle.frame.specs.Frame.{Buffers, buffers, refusal_of, pass_of}
use Rattle.stream.specs.declared.Header.{Header}
use Rattle.stream.specs.Stream.{most_pixels, Reading, accepted, refused, read_frame}
use Rattle.listing.specs.Text.{corners_text, refused_text}
use Rattle.listing.specs.Answer.{most_corners}

-- the parameters that a header states; the floats are those with its bits, and every NaN pattern is the one NaN
abbrev pub params_of : Header → FrameParams
params_of h =
    params h.ring (of_bits binary32 h.threshold_bits) h.window h.least_neighbours h.centroid_radius
    (of_bits binary32 h.merge_bits) h.levels h.minimum_side h.search_radius

-- what `corners` has places for (RULES 12.4): as many seeds, and as many corners, as a listing has; the map of the
-- largest frame, and its levels, which have at most a third of its pixels
abbrev pub list_places : Slices
list_places =
    slices (replicate most_corners float32.zero) (replicate most_corners float32.zero)
    (replicate most_corners float32.zero)
    (replicate most_corners 0)

abbrev pub program_buffers : Buffers
program_buffers = buffers (replicate most_pixels float32.zero) (replicate (most_pixels / 3) 0) list_places list_places

-- the listing of a frame: the text of its corners, or of the number of its refusal
unfoldable pub frame_text : Header → List ℕ → List ℕ
frame_text h pixels =
    let p = params_of h in
    unless refused_text (refusal_of (computed_choice p) p pixels h.width h.height program_buffers)
    (corners_text (pass_of p pixels h.width h.height).corners)

-- and the listing for what was read
abbrev pub reading_text : Reading → List ℕ
reading_text (accepted h pixels) = frame_text h pixels
reading_text (refused number) = refused_text number

-- what `corners` prints for its input
unfoldable pub output_of : List ℕ → List ℕ
output_of input = reading_text (read_frame input)
