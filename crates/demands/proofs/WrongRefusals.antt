-- The rows of the table of wrong refusals, by computation. Assumes nothing.
use mathlib.Core.Path.{refl}
use lib.Ieee.{lt, le, add, sub, mul, div, of_int, of_bits, to_unsigned}
use Rattle.lists.specs.Tab.{tab}
use Rattle.corner_list.specs.CornerList.{is_inside}
use Rattle.center_of_mass.specs.CenterOfMass.{seed_fits}
use Rattle.center_of_mass.specs.CenterOfMass as center
use Rattle.merge_radius.specs.MergeRadius.{is_off, is_sized}
use Rattle.merge_refusal.specs.Refusals as merge
use Rattle.merge_grid.specs.Grid.{grid_of, near, adjacent_cells}
use Rattle.merge.specs.Merge.{result_of}
use Rattle.merge.specs.Apart.{refusal_apart}
use Rattle.stream.specs.Stream.{body_length, read_frame}
use Rattle.stream.specs.RoundTrip.{pixel_bytes, frame_bytes}
use Rattle.pgm.specs.Header.{bare, field_of}
use Rattle.pgm.specs.Pgm as pgm
use Rattle.retouch.specs.Promise as retouch
use Rattle.response_limits.specs.Promise as limits
use Rattle.corner_strike.specs.Striking as striking
use Rattle.frame_writer.specs.FrameWriter as writer
use Rattle.retention.specs.Retention as retention
use Rattle.demands.specs.WrongRefusals.{wrong_refusals, WrongRefusals}
use Rattle.demands.proofs.Roads.{differ}

pub wrong-refusals : WrongRefusals
unfolding wrong_refusals lt le add sub mul div of_int of_bits to_unsigned tab is_inside seed_fits center.refusal_of is_off is_sized
    merge.refusal_of grid_of near
    adjacent_cells result_of refusal_apart body_length read_frame pixel_bytes frame_bytes bare field_of pgm.conditions pgm.refusal_of
    limits.refusal_of striking.refusal_of writer.conditions writer.refusal_of retention.refusal_of retouch.refusal_of
wrong-refusals = record { ours = refl; wrong = refl; differ = differ wrong_refusals refl }
