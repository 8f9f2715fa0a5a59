-- Each number of each function's list is given by a call, by computation. Assumes nothing.
use mathlib.Core.Path.{refl}
use lib.Ieee.{sub, mul, div, of_bits}
use Rattle.lists.specs.Places.{counted, range, row, rows_from, block, count}
use Rattle.float32.specs.Value.{total}
use Rattle.ring.specs.Ring.{ring_of}
use Rattle.response.specs.Response.{response_at}
use Rattle.response.specs.Exact.{fifths_at}
use Rattle.response.specs.Patch as response
use Rattle.pyramid_levels.specs.Levels.{level_count, cells_above}
use Rattle.pyramid_levels.specs.Refusals.{build_refusal_of, level_refusal_of}
use Rattle.pyramid.specs.Pyramid.{level_pixels}
use Rattle.detect.specs.Peaks.{square, window, beaten, positives, is_peak, peak_places}
use Rattle.detect.specs.Exact.{fifths_above}
use Rattle.detect.specs.Detect as detect
use Rattle.center_of_mass.specs.CenterOfMass.{seed_fits, refined}
use Rattle.multiscale.specs.Multiscale as multiscale
use Rattle.merge_radius.specs.MergeRadius.{is_off, is_sized}
use Rattle.merge_refusal.specs.Refusals as merge
use Rattle.merge.specs.Apart.{refusal_apart}
use Rattle.merge_slice.specs.MergeSlice.{refusal_for}
use Rattle.corner_strike.specs.Showing as showing
use Rattle.corner_strike.specs.Striking as striking
use Rattle.frame_params.specs.Ranges.{parameters_fit}
use Rattle.frame.specs.Frame as frame
use Rattle.pgm.specs.Header.{bare, field_of}
use Rattle.pgm.specs.Pgm.{pixels_in}
use Rattle.pgm_frame.specs.PgmFrame as photograph
use Rattle.stream.specs.Stream.{read_frame}
use Rattle.stream.specs.RoundTrip.{frame_bytes}
use Rattle.frame_writer.specs.FrameWriter as writer
use Rattle.retouch.specs.Promise as retouch
use Rattle.response_limits.specs.Promise as limits
use Rattle.sure_peak.specs.Promise as sure
use Rattle.retention.specs.Retention as retention
use Rattle.demands.specs.Occurring.{occurring, NumbersOccur}

pub numbers_occur : NumbersOccur
unfolding occurring sub mul div of_bits counted range row rows_from block count total ring_of response_at fifths_at response.cells
    response.refusal_of
    level_count cells_above build_refusal_of level_refusal_of level_pixels square window beaten positives is_peak peak_places fifths_above
    detect.conditions
    detect.refusal_of seed_fits refined multiscale.refusal_of is_off is_sized merge.refusal_of refusal_apart refusal_for showing.refusal_of
    striking.refusal_of
    parameters_fit frame.refusal_of bare field_of pixels_in photograph.refusal_of read_frame frame_bytes writer.refusal_of
    retouch.refusal_of
    limits.refusal_of sure.refusal_of retention.refusal_of
numbers_occur = refl
