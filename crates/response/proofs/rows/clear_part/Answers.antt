-- `response::rows::clear_part` meets its contract. Assumes nothing.
use mathlib.Core.Path.{◌≡◌}
use Prim.Native.Nat.{ℕ, ◌+◌, ◌-◌, ◌*◌, ◌<◌, ◌≤◌}
use native.Mathlib.Omega.{arith}
use borrow.Author.Rules.{rules}
use lib.ListN.{length}
use lib.Ieee.{of_bits}
use Rattle.lists.specs.Limits.{largest_map}
use Rattle.float32.specs.Float32.{zero}
use Rattle.response.proofs.Filling.{cleared-none, cleared-row, cleared-end, row-after, written-fill}
use Rattle.response.proofs.rows.clear_part.Goals as goal
use Rattle.response.proofs.rows.clear_part.Goals.{Start}

pub loop-j-init : goal.loop-j-init
loop-j-init c = cleared-none _ _ _ _ _

-- where a row ends
row-end : (c : Start) (j : ℕ) → j < c.args.e
    → (j * c.args.w + c.args.w ≤ length c.args.map.now) × (j * c.args.w + c.args.w ≤ largest_map)
row-end c j l =
    let row = row-after c.args.w j c.args.e l in
    (omega (arith, row, c.requires.3), omega (arith, row, c.requires.4))

pub overflow_mul-j : goal.overflow_mul-j
overflow_mul-j c = omega (arith, row-end (goal.at.overflow_mul-j c).Start c.loop-j.j (search rules))

pub overflow_add-j : goal.overflow_add-j
overflow_add-j c =
    omega (arith, row-end (goal.at.overflow_add-j c).Start c.loop-j.j (search rules), c.requires.0, c.requires.1)

pub loop-j-preserved : goal.loop-j-preserved
unfolding of_bits
loop-j-preserved c =
    let row = row-end (goal.at.loop-j-preserved c).Start c.loop-j.j c.loop-j-test.true in
    let end : c.loop-j.j * c.args.w + c.args.b ≡ c.loop-j.j * c.args.w + c.args.a + (c.args.b - c.args.a) = omega (arith, c.requires.0) in
    cleared-row _ _ _ _ _ _ _ _ c.requires.0 c.requires.1 c.loop-j.auto.j c.loop-j.invariant
    (rw end
    (written-fill zero zero _ (c.args.b - c.args.a) _ _ (omega (arith, row, c.requires.1, c.loop-j.auto.map))
    (rw end at (c.fill.ensures.after (λ y e. e)))))

pub returns : goal.returns
returns c = cleared-end _ _ _ _ _ _ _ _ c.loop-j.invariant (search rules)
