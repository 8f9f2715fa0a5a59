-- `frame::find_corners` meets its contract, by the laws of `Entry`. Assumes nothing.
use native.Mathlib.Omega.{arith}
use mathlib.Core.Path.{◌≡◌, sym, ◌∙◌}
use lib.ListN.{length}
use Rattle.lists.specs.Refusals.{lowest}
use Rattle.lists.proofs.Judged.{judged-ok, passed-on}
use Rattle.pyramid.specs.Internal.{LevelsComplete}
use Rattle.pyramid.proofs.Levels.{built, builds}
use Rattle.corner_list.specs.CornerList.{places_of}
use Rattle.corner_list.specs.Buffer.{contents}
use Rattle.merge.specs.Merge.{refusal_of}
use Rattle.patch_corners.specs.OneMap.{choice_of}
use Rattle.frame_pass.specs.Refusals.{conditions}
use Rattle.frame_pass.specs.Theorems.{SoundFrame}
use Rattle.frame_pass.proofs.Inside.{corners-inside}
use Rattle.frame_pass.proofs.Refusals.{Admitted, admitted, admitted-sound}
use Rattle.frame.proofs.Entry.{found-refused, entry-short, merge-free, merge-never, entry-merged}
use Rattle.frame.proofs.find_corners.Goals as goal
use Rattle.frame.proofs.find_corners.Goals.{In_ok-refusal, In_ok-n, In-Ok}

pub returns-in_err-refusal-clause-found : goal.returns-in_err-refusal-clause-found
returns-in_err-refusal-clause-found c =
    rw (passed-on _ c.from_residual.ensures.1) (found-refused _ _ _ _ _ _ _ c.in_err-refusal.ensures)

-- nothing refuses the frame
none : (c : In_ok-refusal)
    → lowest (conditions c.args.p (length c.args.img.now) c.args.w c.args.h (length c.args.map.now) (length c.args.levels.now)) ≡ 0
none c = (judged-ok _ _ _ c.in_ok-refusal.ensures).0

taken : (c : In_ok-refusal)
    → Admitted c.args.p (length c.args.img.now) c.args.w c.args.h (length c.args.map.now) (length c.args.levels.now)
taken c = admitted c.args.p (length c.args.img.now) c.args.w c.args.h (length c.args.map.now) (length c.args.levels.now) (none c)

sound : (c : In_ok-refusal) → SoundFrame c.args.p c.args.img.now c.args.w c.args.h
sound c =
    admitted-sound c.args.p c.args.img.now c.args.w c.args.h _ _ (taken c)
    (λ i. (c.shared_slice_known-1.given i).fits)

-- its levels are built
pub returns-in_err-n-clause-found : goal.returns-in_err-n-clause-found
returns-in_err-n-clause-found c =
    absurd (let z =
    sym (builds _ _ _ _ _ _ _ _ c.build_pyramid.ensures (taken (goal.at.returns-in_err-n-clause-found c).In_ok-refusal).accepted)
    ∙ c.in_err-n.was in
    let no : ⊥ = grind arith in no)

pub invariant_of-frame : goal.invariant_of-frame
invariant_of-frame c = record { sound = sound (goal.at.invariant_of-frame c).In_ok-refusal }

pub find_lists-requires-clause-enough : goal.find_lists-requires-clause-enough
find_lists-requires-clause-enough c = (taken (goal.at.find_lists-requires-clause-enough c).In_ok-refusal).enough

levels : (c : In_ok-n)
    → LevelsComplete c.args.img.now c.args.w c.args.h c.args.p.levels c.args.p.minimum_side c.args.levels.now c.build_pyramid.new.levels
    c.in_ok-n.n
levels c = built _ _ _ _ _ _ _ _ c.build_pyramid.ensures _ c.in_ok-n.was

pub find_lists-requires-clause-built_levels : goal.find_lists-requires-clause-built_levels
find_lists-requires-clause-built_levels c =
    record { before = _; complete = levels (goal.at.find_lists-requires-clause-built_levels c).In_ok-n }

-- both lists fit: merging is not refused
free : (c : In-Ok)
    → refusal_of c.args.p.merge_radius (places_of (contents c.find_lists.new.corners)) c.in-Ok.lists.corners
    (contents c.find_lists.new.corners) ≡ 0
free c =
    let k = (goal.at.In-Ok c).In_ok-refusal in
    merge-free (choice_of c.args.p c.args.exact) _ _ _ _ _ _ _ _ _ (levels (goal.at.In-Ok c).In_ok-n).counted _ _ _
    c.find_lists.ensures.searched (none k) c.find_lists.new.map (omega (arith, c.find_lists.auto)) _ c.in-Ok.is (taken k)
    (corners-inside c.args.p c.args.img.now c.args.w c.args.h (choice_of c.args.p c.args.exact) (sound k)).1

pub returns-in_err-left-in-Ok-clause-found : goal.returns-in_err-left-in-Ok-clause-found
returns-in_err-left-in-Ok-clause-found c =
    let k = (goal.at.returns-in_err-left-in-Ok-clause-found c).In_ok-refusal in
    let n = (goal.at.returns-in_err-left-in-Ok-clause-found c).In_ok-n in
    absurd (merge-never (choice_of c.args.p c.args.exact) _ _ _ _ _ _ _ _ _ (levels n).counted _ _ _ c.find_lists.ensures.searched
    (none k) c.find_lists.new.map (omega (arith, c.find_lists.auto)) _ c.in-Ok.is
    (free (goal.at.returns-in_err-left-in-Ok-clause-found c).In-Ok) _ _ _
    c.merge_by_table.ensures.merged _ c.in_err-left-in-Ok.was)

pub returns-in_ok-left-in-Ok-clause-found : goal.returns-in_ok-left-in-Ok-clause-found
returns-in_ok-left-in-Ok-clause-found c =
    let k = (goal.at.returns-in_ok-left-in-Ok-clause-found c).In_ok-refusal in
    let n = (goal.at.returns-in_ok-left-in-Ok-clause-found c).In_ok-n in
    rw (c.clear_list.ensures.cleared, c.clear_list-in-Ok.ensures.cleared)
    (entry-merged (choice_of c.args.p c.args.exact) _ _ _ _ _ _ _ _ _ (levels n).counted _ _ _ c.find_lists.ensures.searched
    (none k) c.find_lists.new.map (omega (arith, c.find_lists.auto)) _ c.in-Ok.is
    (free (goal.at.returns-in_ok-left-in-Ok-clause-found c).In-Ok) _ _ _
    c.merge_by_table.ensures.merged _ c.in_ok-left-in-Ok.was _ (levels n).fills)

-- one does not
pub returns-in-Err-clause-found : goal.returns-in-Err-clause-found
returns-in-Err-clause-found c =
    let k = (goal.at.returns-in-Err-clause-found c).In_ok-refusal in
    let n = (goal.at.returns-in-Err-clause-found c).In_ok-n in
    rw (c.clear.ensures, c.clear-in-Err.ensures, c.clear_list-in-Err.ensures.cleared, c.clear_list-in-Err-2.ensures.cleared)
    (entry-short (choice_of c.args.p c.args.exact) _ _ _ _ _ _ _ _ _ (levels n).counted _ _ _ c.find_lists.ensures.searched
    (none k) c.find_lists.new.map (omega (arith, c.find_lists.auto)) _ c.in-Err.is _ (levels n).long)
