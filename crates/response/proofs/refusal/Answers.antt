-- `response::refusal` meets its contract: each return is the first condition of the table that holds. Assumes nothing.
use native.Mathlib.Nat.{le_trans}
use native.Mathlib.Omega.{arith}
use mathlib.Core.Path.{◌∙◌}
use borrow.Author.Tests.{lt-ltb, le-ltb}
use Rattle.lists.specs.Internal.{Sized}
use Rattle.lists.proofs.Judged.{passed-on}
use Rattle.image_size.proofs.Judged.{refused, sized, passed}
use Rattle.response.specs.Internal.{refusal_for}
use Rattle.response.proofs.Indices.{area-le}
use Rattle.response.proofs.refusal.Goals as goal
use Rattle.response.proofs.refusal.Goals.{In_ok-refusal}

pub returns-in_err-refusal : goal.returns-in_err-refusal
unfolding refusal_for
returns-in_err-refusal c = passed-on _ c.from_residual.ensures.1 ∙ refused _ _ _ _ _ _ c.in_err-refusal.ensures

-- past the test of the image
image : (c : In_ok-refusal) → Sized c.args.pixels c.args.w c.args.h
image c = sized _ _ _ _ c.in_ok-refusal.ensures

pub returns-then-not-is_ring : goal.returns-then-not-is_ring
unfolding refusal_for
returns-then-not-is_ring c =
    rw (passed _ _ _ _ (image (goal.at.returns-then-not-is_ring c).In_ok-refusal), ← c.is_ring.ensures, c.if-not-is_ring.true-raw)

pub overflow_mul-ph : goal.overflow_mul-ph
overflow_mul-ph c =
    let s = image (goal.at.overflow_mul-ph c).In_ok-refusal in
    omega (arith, area-le _ _ (le_trans c.requires.1 s.low) (le_trans c.requires.0 s.narrow))

pub returns-then-places-ph : goal.returns-then-places-ph
unfolding refusal_for
returns-then-places-ph c =
    rw (
      passed _ _ _ _ (image (goal.at.returns-then-places-ph c).In_ok-refusal),
      ← c.is_ring.ensures,
      c.if-not-is_ring.false-raw,
      lt-ltb _ _ c.if-places-ph.true,
    )

pub returns : goal.returns
unfolding refusal_for
returns c =
    rw (
      passed _ _ _ _ (image (goal.at.returns c).In_ok-refusal),
      ← c.is_ring.ensures,
      c.if-not-is_ring.false-raw,
      le-ltb _ _ c.if-places-ph.false,
    )
