-- `response_limits::refusal` meets its contract: each return is the first condition of the table that holds. Assumes nothing.
use mathlib.Core.Path.{◌≡◌, ◌∙◌}
use mathlib.Core.Bool.{not, ◌||◌}
use mathlib.Core.List.{[], ◌∷◌}
use Prim.Native.Nat.{◌*◌}
use native.Mathlib.Omega.{arith}
use lib.Dec.{ltb}
use lib.ListN.{length}
use Rattle.lists.specs.Refusals.{lowest}
use Rattle.lists.specs.Internal.{Sized}
use Rattle.lists.proofs.Judged.{passed-on}
use Rattle.image_size.proofs.Judged.{refused, sized}
use Rattle.ring.specs.Ring.{is_ring}
use Rattle.response.proofs.Indices.{area-le}
use Rattle.response_limits.specs.Promise.{is_crossed, refusal_of}
use Rattle.response_limits.proofs.Judging.{by_length, by-rest}
use Rattle.response_limits.proofs.refusal.Goals as goal
use Rattle.response_limits.proofs.refusal.Goals.{Else-high-low, In_ok-refusal}

pub returns-in_err-refusal : goal.returns-in_err-refusal
unfolding refusal_of
returns-in_err-refusal c = passed-on _ c.from_residual.ensures.1 ∙ refused _ _ _ _ _ _ c.in_err-refusal.ensures

-- past the test of the low image
image : (c : In_ok-refusal) → Sized (length c.args.low.now) c.args.w c.args.h
image c = sized _ _ _ _ c.in_ok-refusal.ensures

pub returns-then-high-low : goal.returns-then-high-low
returns-then-high-low c = rw (by_length _ _ _ _ _ _ _ (image (goal.at.returns-then-high-low c).In_ok-refusal) c.if-high-low.true)

-- past that of the high one, what is left of the table
rest : (c : Else-high-low)
    → refusal_of c.args.low.now c.args.high.now c.args.w c.args.h c.args.ring c.args.lows c.args.highs
    ≡ lowest ((is_crossed c.args.low.now c.args.high.now, 15) ∷ (not (is_ring c.args.ring), 3)
    ∷ (ltb c.args.lows (c.args.w * c.args.h) || ltb c.args.highs (c.args.w * c.args.h), 8)
    ∷ [])
rest c = by-rest _ _ _ _ _ _ _ (sized _ _ _ _ c.in_ok-refusal.ensures) c.if-high-low.false

pub returns-then-are_crossed : goal.returns-then-are_crossed
returns-then-are_crossed c = rw (rest (goal.at.returns-then-are_crossed c).Else-high-low, ← c.are_crossed.ensures, c.if-are_crossed.true)

pub returns-then-not-is_ring : goal.returns-then-not-is_ring
returns-then-not-is_ring c =
    rw (
      rest (goal.at.returns-then-not-is_ring c).Else-high-low,
      ← c.are_crossed.ensures,
      c.if-are_crossed.false,
      ← c.is_ring.ensures,
      c.if-not-is_ring.true-raw,
    )

pub overflow_mul-w : goal.overflow_mul-w
overflow_mul-w c = let s = image (goal.at.overflow_mul-w c).In_ok-refusal in omega (arith, area-le _ _ s.narrow s.low)

pub returns-then-is_short : goal.returns-then-is_short
returns-then-is_short c =
    rw (
      rest (goal.at.returns-then-is_short c).Else-high-low,
      ← c.are_crossed.ensures,
      c.if-are_crossed.false,
      ← c.is_ring.ensures,
      c.if-not-is_ring.false-raw,
      ← c.is_short.ensures,
      c.if-is_short.true,
    )

pub returns : goal.returns
returns c =
    rw (
      rest (goal.at.returns c).Else-high-low,
      ← c.are_crossed.ensures,
      c.if-are_crossed.false,
      ← c.is_ring.ensures,
      c.if-not-is_ring.false-raw,
      ← c.is_short.ensures,
      c.if-is_short.false,
    )
