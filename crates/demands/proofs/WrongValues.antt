-- The rows of the table of wrong values, by computation. Assumes nothing.
use mathlib.Core.Path.{refl}
use lib.Ieee.{lt, le, add, sub, mul, div, of_int, of_bits, to_bits, to_unsigned}
use Rattle.lists.specs.Places.{counted, range, row, rows_from, block, count}
use Rattle.lists.specs.Tab.{tab, grid}
use Rattle.float32.specs.Float32.{abs, lift, nearest_whole, round_half_away}
use Rattle.float32.specs.Value.{total}
use Rattle.ring.specs.Ring.{ring5, ring_of}
use Rattle.response.specs.Response.{samples, response_of, response, response_at}
use Rattle.response.specs.OnePass.{with_pair, passed_after}
use Rattle.response.specs.Exact.{fifths_at}
use Rattle.response.specs.Patch.{cells}
use Rattle.corner_list.specs.CornerList.{without_corner}
use Rattle.detect.specs.Peaks.{square, window, beaten, equals, positives, is_peak, peak_places, window_test}
use Rattle.detect.specs.Exact.{fifths_above}
use Rattle.detect.specs.Enough.{rows_inside, enough_of}
use Rattle.center_of_mass.specs.CenterOfMass.{with_cells, seed_fits, refusal_of, centre_on, outcome_of, refined}
use Rattle.multiscale.specs.Multiscale.{roi_radius}
use Rattle.merge_radius.specs.MergeRadius.{is_off}
use Rattle.merge_grid.specs.Grid.{grid_of, near, adjacent_cells}
use Rattle.merge.specs.Merge.{result_of}
use Rattle.merge_naive.specs.MergeNaive.{naive_of}
use Rattle.pgm.specs.Header.{bare, field_of}
use Rattle.pgm.specs.Pgm as pgm
use Rattle.listing.specs.Text.{units_of, decimal, digits, places, digit_of, refused_text}
use Rattle.retouch.specs.Retouch.{redone}
use Rattle.response_limits.specs.Limits.{low_at}
use Rattle.sure_peak.specs.SurePeak.{is_sure}
use Rattle.corner_strike.specs.Striking as striking
use Rattle.stream.specs.RoundTrip.{pixel_bytes, frame_bytes}
use Rattle.retention.specs.Retention.{stays, state_of}
use Rattle.retention.specs.Stream.{time_fault, lines_from, output_of}
use Rattle.demands.specs.ToolRoads.{tool_roads}
use Rattle.demands.specs.WrongValues.{wrong_values, WrongValues}
use Rattle.demands.proofs.Roads.{differ}

pub wrong-values : WrongValues
unfolding wrong_values tool_roads lt le add sub mul div of_int of_bits to_bits to_unsigned counted range row rows_from block count tab
    abs lift nearest_whole
    round_half_away total ring5 ring_of samples response_of with_pair passed_after fifths_at without_corner square window beaten equals
    positives is_peak
    peak_places fifths_above rows_inside enough_of with_cells seed_fits refusal_of centre_on outcome_of refined roi_radius is_off
    grid_of near
    adjacent_cells result_of
    naive_of bare field_of pgm.conditions pgm.refusal_of pgm.pixels_in units_of low_at is_sure striking.refusal_of pixel_bytes frame_bytes
    stays state_of
    response response_at cells grid redone window_test time_fault lines_from output_of decimal digits places digit_of refused_text
wrong-values = record { ours = refl; wrong = refl; differ = differ wrong_values refl }
