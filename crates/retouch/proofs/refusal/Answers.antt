-- `retouch::refusal` meets its contract: each return is the first condition of the table that holds. Assumes nothing.
use mathlib.Core.Path.{◌∙◌}
use Rattle.lists.specs.Internal.{Sized}
use Rattle.lists.proofs.Judged.{passed-on}
use Rattle.image_size.proofs.Judged.{sized}
use Rattle.retouch.proofs.Judging.{by-image, by_map, by-rest}
use Rattle.retouch.proofs.refusal.Goals as goal
use Rattle.retouch.proofs.refusal.Goals.{In_ok-refusal, In_ok-refusal-2}

pub returns-in_err-refusal : goal.returns-in_err-refusal
returns-in_err-refusal c = passed-on _ c.from_residual.ensures.1 ∙ by-image _ _ _ _ _ _ _ c.in_err-refusal.ensures

-- past the test of the image, and past that of the map
image : (c : In_ok-refusal) → Sized c.args.pixels c.args.w c.args.h
image c = sized _ _ _ _ c.in_ok-refusal.ensures

map : (c : In_ok-refusal-2) → Sized c.args.cells c.args.w c.args.h
map c = sized _ _ _ _ c.in_ok-refusal-2.ensures

pub returns-in_err-refusal-2 : goal.returns-in_err-refusal-2
returns-in_err-refusal-2 c =
    passed-on _ c.from_residual-in_err-refusal-2.ensures.1
    ∙ by_map _ _ _ _ _ _ _ (image (goal.at.returns-in_err-refusal-2 c).In_ok-refusal) c.in_err-refusal-2.ensures

pub returns-then-not-is_ring : goal.returns-then-not-is_ring
returns-then-not-is_ring c =
    rw (
      by-rest _ _ _ _ _ _ (image (goal.at.returns-then-not-is_ring c).In_ok-refusal) (map
          (goal.at.returns-then-not-is_ring c).In_ok-refusal-2),
      ← c.is_ring.ensures,
      c.if-not-is_ring.true-raw,
    )

pub returns-then-is_outside : goal.returns-then-is_outside
returns-then-is_outside c =
    rw (
      by-rest _ _ _ _ _ _ (image (goal.at.returns-then-is_outside c).In_ok-refusal)
          (map (goal.at.returns-then-is_outside c).In_ok-refusal-2),
      ← c.is_ring.ensures,
      c.if-not-is_ring.false-raw,
      ← c.is_outside.ensures,
      c.if-is_outside.true,
    )

pub returns : goal.returns
returns c =
    rw (
      by-rest _ _ _ _ _ _ (image (goal.at.returns c).In_ok-refusal) (map (goal.at.returns c).In_ok-refusal-2),
      ← c.is_ring.ensures,
      c.if-not-is_ring.false-raw,
      ← c.is_outside.ensures,
      c.if-is_outside.false,
    )
