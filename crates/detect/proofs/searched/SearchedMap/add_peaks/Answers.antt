-- `detect::searched::SearchedMap::add_peaks` meets its contract: the corners of the peaks passed stand in the buffer, and their ties are
-- summed. Assumes nothing.
use Rattle.std.proofs.Common.{◌+◌, ◌<◌, arith, rules}
use Rattle.corner_list.specs.CornerList.{Slices, places_of}
use Rattle.corner_list.specs.Buffer.{contents}
use Rattle.detect.proofs.Answers.{fits-behind, short-behind, found-short}
use Rattle.detect.proofs.Writing.{writing-first, writing-place, writing-few, writing-less, writing-next, writing-all}
use Rattle.detect.proofs.searched.SearchedMap.add_peaks.Goals as goal
use Rattle.detect.proofs.searched.SearchedMap.add_peaks.Goals.{In-Some, Start}

abbrev buffer : Start → Slices
buffer c = contents c.args.list.now

-- in a turn there is a place for the next peak's corner
space : (c : In-Some) → c.args.held + c.loop-peak.i < places_of (buffer (goal.at.In-Some c).Start)
space c = writing-place _ _ _ _ _ _ _ _ _ _ c.loop-peak.invariant.1 _ c.in-Some.ensures

pub returns-then-are_too_many-clause-added : goal.returns-then-are_too_many-clause-added
returns-then-are_too_many-clause-added c =
    found-short _ _ _ _
    (short-behind c.args.self.now.cells.now c.args.self.now.search (buffer (goal.at.returns-then-are_too_many-clause-added c).Start)
    _ _ c.places.ensures _ c.are_too_many.ensures c.if-are_too_many.true)

pub loop-peak-init : goal.loop-peak-init
loop-peak-init c = (
  search rules,
  writing-first _ _ _ _ _ _
      (fits-behind c.args.self.now.cells.now c.args.self.now.search (buffer (goal.at.loop-peak-init c).Start)
      _ _ c.places.ensures _ c.are_too_many.ensures c.if-are_too_many.false),
)

pub peak_at-requires : goal.peak_at-requires
peak_at-requires c = record { peaks_listed = c.list_peaks-n.ensures; search_start = c.loop-peak.invariant.1.search-start }

pub returns-clause-added : goal.returns-clause-added
returns-clause-added c = writing-all _ _ _ _ _ _ _ _ _ _ c.loop-peak.invariant.1 c.in_default.ensures

pub overflow_add-held : goal.overflow_add-held
overflow_add-held c = omega (arith, space (goal.at.overflow_add-held c).In-Some, c.well_formed)

pub overflow_add-ties : goal.overflow_add-ties
overflow_add-ties c =
    omega (arith, writing-few _ _ _ _ _ _ _ _ _ _ c.loop-peak.invariant.1 _ c.in-Some.ensures c.args.self.now.searchable)

pub overflow_add-i : goal.overflow_add-i
overflow_add-i c = omega (arith, space (goal.at.overflow_add-i c).In-Some, c.well_formed)

pub loop-peak-smaller : goal.loop-peak-smaller
loop-peak-smaller c = writing-less _ _ _ _ _ _ _ _ _ _ c.loop-peak.invariant.1 _ c.in-Some.ensures

pub loop-peak-preserved : goal.loop-peak-preserved
loop-peak-preserved c = (
  search rules,
  rw c.from-ties.ensures
      (writing-next _ _ _ _ _ _ _ _ _ _ c.loop-peak.invariant.1 _ c.in-Some.ensures _ c.start_at.ensures _ c.put.ensures.put),
)
