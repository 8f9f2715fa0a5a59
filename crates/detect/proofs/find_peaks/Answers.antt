-- `detect::find_peaks` meets its contract, answer by answer. Assumes nothing.
use Rattle.std.proofs.Common.{ℕ, Bool, List, [], length, refl}
use lib.Ieee.{Float}
use Rattle.std.specs.Prelude.{Result}
use Rattle.lists.specs.declared.refusal.Refusal.{Refusal}
use Rattle.lists.proofs.Judged.{judged-ok, passed-on}
use Rattle.corner_list.specs.CornerList.{Slices}
use Rattle.corner_list.specs.Buffer.{contents}
use Rattle.detect.specs.declared.Search.{Search}
use Rattle.detect.specs.declared.Peaks.{Peaks}
use Rattle.detect.specs.Detect.{search_by, starts_in, ties_in, conditions, PeaksAdded}
use Rattle.detect.specs.Internal.{Searchable}
use Rattle.detect.proofs.Answers.{Clear, clear, searchable, found-refused, found-clear}
use Rattle.detect.proofs.find_peaks.Goals as goal
use Rattle.detect.proofs.find_peaks.Goals.{After-search_of-search, In_ok-refusal}

-- ---- what it was given
abbrev conditions-of : In_ok-refusal → List (Bool × ℕ)
conditions-of c = conditions (length c.args.map.now) c.args.w c.args.h c.args.ring c.args.window c.args.refine_radius

abbrev map_of : In_ok-refusal → List Float
map_of c = c.args.map.now

abbrev search-of : In_ok-refusal → Search
search-of c =
    search_by c.args.exact c.args.w c.args.h c.args.ring c.args.threshold c.args.window c.args.least_neighbours c.args.refine_radius

abbrev buffer-of : In_ok-refusal → Slices
buffer-of c = contents c.args.list.now

-- ---- none of the conditions on the input holds, so its map can be searched
fine : (c : In_ok-refusal) → Clear (conditions-of c)
fine c = clear _ _ _ _ _ _ (judged-ok _ _ _ c.in_ok-refusal.ensures).0

can-search : (c : After-search_of-search) → Searchable (map_of (goal.at.After-search_of-search c).In_ok-refusal) c.search_of-search.result
can-search c = rw c.search_of-search.ensures (searchable _ _ _ _ _ _ _ _ _ (fine (goal.at.After-search_of-search c).In_ok-refusal))

-- what is added is what the function promises
adds : (c : After-search_of-search) (answer : Result Peaks Refusal) (b' : Slices)
    → PeaksAdded [] (starts_in (map_of (goal.at.After-search_of-search c).In_ok-refusal) c.search_of-search.result)
    (ties_in (map_of (goal.at.After-search_of-search c).In_ok-refusal) c.search_of-search.result) c.args.held
    (buffer-of (goal.at.After-search_of-search c).In_ok-refusal) answer b'
    → PeaksAdded (conditions-of (goal.at.After-search_of-search c).In_ok-refusal)
    (starts_in (map_of (goal.at.After-search_of-search c).In_ok-refusal) (search-of (goal.at.After-search_of-search c).In_ok-refusal))
    (ties_in (map_of (goal.at.After-search_of-search c).In_ok-refusal)
    (search-of (goal.at.After-search_of-search c).In_ok-refusal)) c.args.held
    (buffer-of (goal.at.After-search_of-search c).In_ok-refusal) answer b'
adds c =
    found-clear (map_of (goal.at.After-search_of-search c).In_ok-refusal) c.search_of-search.result
    (search-of (goal.at.After-search_of-search c).In_ok-refusal) c.search_of-search.ensures
    (conditions-of (goal.at.After-search_of-search c).In_ok-refusal) (fine (goal.at.After-search_of-search c).In_ok-refusal)
    c.args.held (buffer-of (goal.at.After-search_of-search c).In_ok-refusal)

pub returns-in_err-refusal-clause-added : goal.returns-in_err-refusal-clause-added
unfolding conditions
returns-in_err-refusal-clause-added c =
    rw (passed-on _ c.from_residual.ensures.1) (found-refused _ _ _ _ _ _ (refl, (refl, (refl, tt))) c.in_err-refusal.ensures)

pub invariant_of-searched : goal.invariant_of-searched
invariant_of-searched c = record { searchable = can-search (goal.at.invariant_of-searched c).After-search_of-search }

pub returns-then-map-lt-LARGE_MAP-clause-added : goal.returns-then-map-lt-LARGE_MAP-clause-added
returns-then-map-lt-LARGE_MAP-clause-added c =
    adds (goal.at.returns-then-map-lt-LARGE_MAP-clause-added c).After-search_of-search c.add_peaks.result _ c.add_peaks.ensures.added

pub invariant_of-searched-2 : goal.invariant_of-searched-2
invariant_of-searched-2 c = record { searchable = can-search (goal.at.invariant_of-searched-2 c).After-search_of-search }

pub returns-clause-added : goal.returns-clause-added
returns-clause-added c =
    adds (goal.at.returns-clause-added c).After-search_of-search c.add_peaks-2.result _ c.add_peaks-2.ensures.added
