-- `detect::searched::SearchedMap::are_too_many` meets its contract: what is counted and the peaks ahead make all peaks. Assumes nothing.
use Rattle.std.proofs.Common.{◌+◌, ◌<◌, ◌≤◌, length, sym, arith, le-ltb, lt-ltb}
use Rattle.detect.specs.Detect.{peaks_in}
use Rattle.detect.proofs.FirstPeaks.{counting-first, counting-next, counting-few, counting-fit, counting-many}
use Rattle.detect.proofs.searched.SearchedMap.are_too_many.Goals as goal

pub returns-then-places-held : goal.returns-then-places-held
returns-then-places-held c =
    let more : c.args.places < c.args.held + length (peaks_in c.args.self.now.cells.now c.args.self.now.search) = omega arith in
    sym (lt-ltb _ _ more)

pub returns-then-are_sure_to_fit : goal.returns-then-are_sure_to_fit
returns-then-are_sure_to_fit c =
    let few = c.are_sure_to_fit.ensures c.if-are_sure_to_fit.true in
    let most : c.args.held + length (peaks_in c.args.self.now.cells.now c.args.self.now.search) ≤ c.args.places = omega (arith, few) in
    sym (le-ltb _ _ most)

pub loop-peak-init : goal.loop-peak-init
loop-peak-init c = (counting-first _ _ _ _, omega arith)

pub peak_at-requires : goal.peak_at-requires
peak_at-requires c = record { peaks_listed = c.requires; search_start = c.loop-peak.invariant.0.search-start }

pub overflow_add-i : goal.overflow_add-i
overflow_add-i c = omega (arith, counting-few _ _ _ _ _ _ c.args.self.now.searchable c.loop-peak.invariant.0)

pub returns-then-free-i : goal.returns-then-free-i
returns-then-free-i c =
    counting-many _ _ _ _ _ _ (counting-next _ _ _ _ _ _ c.loop-peak.invariant.0 _ c.in-Some.ensures) _ _ (omega arith)

pub loop-peak-preserved : goal.loop-peak-preserved
loop-peak-preserved c = (counting-next _ _ _ _ _ _ c.loop-peak.invariant.0 _ c.in-Some.ensures, omega arith)

pub returns : goal.returns
returns c = counting-fit _ _ _ _ _ _ c.loop-peak.invariant.0 c.in_default.ensures _ _ (omega (arith, c.loop-peak.invariant.1))
