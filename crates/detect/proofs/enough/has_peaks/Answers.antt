-- `detect::enough::has_peaks` meets its contract, refused or not. Assumes nothing.
use Rattle.std.proofs.Common.{◌≡◌, length, refl}
use Rattle.lists.specs.Refusals.{lowest}
use Rattle.lists.proofs.Judged.{judged-ok, passed-on}
use Rattle.detect.specs.Detect.{conditions}
use Rattle.detect.proofs.Answers.{clear, searchable}
use Rattle.detect.proofs.Counting.{enough-refused, enough-found}
use Rattle.detect.proofs.enough.has_peaks.Goals as goal
use Rattle.detect.proofs.enough.has_peaks.Goals.{After-search_of-search}

pub returns-in_err-refusal : goal.returns-in_err-refusal
unfolding conditions
returns-in_err-refusal c =
    rw (passed-on _ c.from_residual.ensures.1) (enough-refused _ _ _ _ _ (refl, (refl, (refl, tt))) c.in_err-refusal.ensures)

-- none of the conditions on the input holds
none : (c : After-search_of-search)
    → lowest (conditions (length c.args.map.now) c.args.w c.args.h c.args.ring c.args.window c.args.refine_radius) ≡ 0
none c = (judged-ok _ _ _ c.in_ok-refusal.ensures).0

pub invariant_of-searched : goal.invariant_of-searched
invariant_of-searched c =
    record { searchable = rw c.search_of-search.ensures (searchable _ _ _ _ _ _ _ _ _ (clear _ _ _ _ _ _ (none c))) }

pub returns : goal.returns
returns c = enough-found _ _ _ _ (none (goal.at.returns c).After-search_of-search) _ c.search_of-search.ensures _ c.search_for.ensures
