-- `frame::shifting::shift` meets its contract. Assumes nothing.
use Prim.Native.Nat.{ℕ, ◌+◌, ◌-◌, ◌<◌}
use native.Mathlib.Omega.{arith}
use mathlib.Core.Path.{◌≡◌, refl, ap, ◌∙◌}
use mathlib.Core.List.{List}
use lib.ListN.{get_or, take, drop}
use lib.Ieee.{Float, nan, binary32, add}
use lib.Seq.{get_or-drop, get_or-take}
use Rattle.std.proofs.Common.{get_or-set_other, ◌≢◌}
use Rattle.lists.specs.Buffer.{placed}
use Rattle.lists.proofs.Tab.{part_length, prefix-none, prefix-set, prefix-all}
use Rattle.lists.proofs.Buffer.{put-placed}
use Rattle.frame.proofs.shifting.shift.Goals as goal

-- a part of a list, place by place
part_at : (a n : ℕ) (d : List Float) (i : ℕ) → i < n → get_or (take (a + n - a) (drop a d)) i nan ≡ get_or d (a + i) nan
part_at a n d i h = get_or-take (a + n - a) (drop a d) i nan (omega arith) ∙ get_or-drop a d i nan

pub loop-x-init : goal.loop-x-init
loop-x-init c = (prefix-none _ _ _ (part_length c.args.held c.args.n c.args.d.now c.requires), λ i h. refl)

pub loop-x-preserved : goal.loop-x-preserved
loop-x-preserved c =
    let part = part_length c.args.held c.args.n c.args.d.now c.requires in
    let at : c.loop-x.x-index < c.args.n = omega (arith, part, c.loop-x-test.true) in (
      prefix-set _ _ _ _ _ c.loop-x.invariant.0 at
          (ap (λ (z : Float). add binary32 z c.args.by)
          (c.loop-x.invariant.1 _ (omega arith) ∙ part_at c.args.held c.args.n c.args.d.now _ at)),
      λ i h. let ne : i ≢ c.loop-x.x-index = omega arith in rw get_or-set_other (c.loop-x.invariant.1 i (omega arith)),
    )

pub returns : goal.returns
returns c =
    let part = part_length c.args.held c.args.n c.args.d.now c.requires in
    let long = c.loop-x.invariant.0.long in
    put-placed c.args.held _ c.loop-x.x-items c.args.d.now (omega (arith, long))
    ∙ ap (λ (ys : List Float). placed c.args.held ys c.args.d.now)
    (prefix-all _ _ c.loop-x.x-index _ _ c.loop-x.invariant.0 (omega (arith, part, c.loop-x-test.false, c.loop-x.auto.x-index-end)) refl)
