-- The proof of each statement. Assumes nothing.
use Rattle.demands.specs.Demands.{Demands}
use Rattle.demands.proofs.Total.{total}
use Rattle.demands.proofs.Occurring.{numbers_occur}
use Rattle.demands.proofs.Program.{program_total, program_reads, program_decided, program_streams, program_exact}
use Rattle.demands.proofs.BitForBit.{bit_for_bit}
use Rattle.demands.proofs.AsPublished.{as_published}
use Rattle.demands.proofs.Cases.{cases_hold}
use Rattle.demands.proofs.AnyRing.{own_rings}
use Rattle.demands.proofs.ResponseAccurate.{response_accurate}
use Rattle.demands.proofs.ResponsesOrdered.{responses_ordered}
use Rattle.demands.proofs.PeaksAlike.{peaks_alike}
use Rattle.demands.proofs.Units.{units_nearest}
use Rattle.demands.proofs.RingPass.{ring_one_pass}
use Rattle.demands.proofs.Apart.{apart_is_merge}
use Rattle.demands.proofs.Enough.{enough_is_counting, looks_no_further}
use Rattle.demands.proofs.Strike.{raised_by_strikes_only, later_move_up, shown_is_struck}
use Rattle.demands.proofs.Writing.{read_back, written_back}
use Rattle.demands.proofs.MergeNaive.{naive_alike, naive_refuses_alike, naive_off, naive_case}
use Rattle.demands.proofs.Retention.{held_when, retained_total, retained_reads}
use Rattle.demands.proofs.Retouch.{only_touched, at_most_21, fresh_again, moves_little}
use Rattle.demands.proofs.Limits.{limits_contain, limits_exact, sure_peak_exact}
use Rattle.demands.proofs.FrameExact.{frame_exact, alike_by_name, maps_searched, maps_alike, frame_without_ties, four_never}
use Rattle.demands.proofs.FrameExact.{peaks_kept}
use Rattle.demands.proofs.Photographs.{photograph_is_frame, plain_header_read, behind_unread, uploads_read}
use Rattle.demands.proofs.OnePrice.{exact_frame, one_price, nothing_tipped}
use Rattle.demands.proofs.Ties.{nan_top, peak_ties, frame_ties, maps_alike_without_equals}
use Rattle.demands.proofs.Neighbours.{neighbours_kept, counts_exact}
use Rattle.demands.proofs.Tolerance.{centre_tolerance, frame_tolerance}
use Rattle.demands.proofs.WrongValues.{wrong-values}
use Rattle.demands.proofs.WrongRefusals.{wrong-refusals}
use Rattle.demands.proofs.WrongStatements.{wrong_statements}

pub demands : Demands
demands = record {
  total = total;
  numbers_occur = numbers_occur;
  four_never = four_never;
  peaks_kept = peaks_kept;
  program_total = program_total;
  program_reads = program_reads;
  program_decided = program_decided;
  program_streams = program_streams;
  bit_for_bit = bit_for_bit;
  as_published = as_published;
  cases_hold = cases_hold;
  own_rings = own_rings;
  response_accurate = response_accurate;
  responses_ordered = responses_ordered;
  peaks_alike = peaks_alike;
  frame_exact = frame_exact;
  program_exact = program_exact;
  alike_by_name = alike_by_name;
  maps_searched = maps_searched;
  maps_alike = maps_alike;
  frame_without_ties = frame_without_ties;
  exact_frame = exact_frame;
  one_price = one_price;
  nothing_tipped = nothing_tipped;
  photograph_is_frame = photograph_is_frame;
  plain_header_read = plain_header_read;
  behind_unread = behind_unread;
  uploads_read = uploads_read;
  units_nearest = units_nearest;
  ring_one_pass = ring_one_pass;
  nan_top = nan_top;
  peak_ties = peak_ties;
  frame_ties = frame_ties;
  maps_alike_without_equals = maps_alike_without_equals;
  neighbours_kept = neighbours_kept;
  counts_exact = counts_exact;
  apart_is_merge = apart_is_merge;
  enough_is_counting = enough_is_counting;
  looks_no_further = looks_no_further;
  only_touched = only_touched;
  at_most_21 = at_most_21;
  fresh_again = fresh_again;
  moves_little = moves_little;
  limits_contain = limits_contain;
  limits_exact = limits_exact;
  sure_peak_exact = sure_peak_exact;
  raised_by_strikes_only = raised_by_strikes_only;
  later_move_up = later_move_up;
  shown_is_struck = shown_is_struck;
  read_back = read_back;
  written_back = written_back;
  naive_alike = naive_alike;
  naive_refuses_alike = naive_refuses_alike;
  naive_off = naive_off;
  naive_case = naive_case;
  held_when = held_when;
  retained_total = retained_total;
  retained_reads = retained_reads;
  centre_tolerance = centre_tolerance;
  frame_tolerance = frame_tolerance;
  wrong-values = wrong-values;
  wrong-refusals = wrong-refusals;
  wrong_statements = wrong_statements;
}
