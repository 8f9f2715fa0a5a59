-- `pyramid::build_pyramid` meets its contract: a refusal is passed on, and where nothing refuses the level buffer is filled. Assumes
-- nothing.
use mathlib.Core.Path.{◌≡◌}
use lib.ListN.{length}
use Rattle.lists.proofs.Judged.{judged-ok, passed-on}
use Rattle.pyramid_levels.specs.Refusals.{ask, build_refusal_of}
use Rattle.pyramid_levels.proofs.Refusals.{accepted}
use Rattle.pyramid.proofs.Building.{built-refused, built-filled}
use Rattle.pyramid.proofs.build_pyramid.Goals as goal
use Rattle.pyramid.proofs.build_pyramid.Goals.{In_ok-build_refusal}

pub returns-in_err-build_refusal : goal.returns-in_err-build_refusal
returns-in_err-build_refusal c =
    rw (passed-on _ c.from_residual.ensures.1) (built-refused _ _ _ _ _ _ _ c.in_err-build_refusal.ensures)

-- nothing refuses
free : (c : In_ok-build_refusal)
    → build_refusal_of (ask (length c.args.base.now)
    (length c.args.levels.now) c.args.width c.args.height c.args.num_levels c.args.min_size) ≡ 0
free c = (judged-ok _ _ _ c.in_ok-build_refusal.ensures).0

pub fill_levels-requires : goal.fill_levels-requires
fill_levels-requires c =
    let a = accepted _ (free (goal.at.fill_levels-requires c).In_ok-build_refusal) in
    (a.image.sized, rw c.level_count-n.ensures a.fits)

pub returns : goal.returns
returns c =
    built-filled _ _ _ _ _ _ _ _ (free (goal.at.returns c).In_ok-build_refusal) c.level_count-n.ensures
    c.fill_levels.ensures
