-- `frame::checked::CheckedFrame::add_image_corners` meets its contract: a small map is one box; of a large one the corners of the rows that
-- are complete stand first in the buffer, and their peaks' ties are summed. Assumes nothing.
use borrow.Author.Rules.{rules}
use Prim.Native.Nat.{◌+◌, ◌<◌}
use native.Mathlib.Omega.{arith}
use mathlib.Core.Path.{◌≡◌, refl}
use Rattle.std.specs.Prelude.{Ok}
use Rattle.corner_list.specs.Buffer.{contents}
use Rattle.lists.proofs.Judged.{passed-on}
use Rattle.frame.specs.Internal.{AddsCorners, Band}
use Rattle.frame.proofs.InBands.{some-sides, rows_none, band-next, bands-none, bands-more, bands-full, bands-all}
use Rattle.frame.proofs.InBands.{bands-tied, corners_to, ties_to}
use Rattle.frame.proofs.checked.CheckedFrame.add_image_corners.Goals as goal
use Rattle.frame.proofs.checked.CheckedFrame.add_image_corners.Goals.{After-min-e, At-loop-j, In_ok-more}

-- an image of so many pixels has rows and columns
sides : (c : At-loop-j) → (0 < c.args.self.now.w) × (0 < c.args.self.now.h)
sides c = some-sides _ _ _ c.args.self.now.sound.sized (omega (arith, c.if-self-le-ONE_MAP.false))

-- the next band
band : (c : After-min-e) →
    Band c.args.self.now.w c.args.self.now.h c.loop-j.j c.min-e.result
band c = band-next _ _ _ _ (sides (goal.at.After-min-e c).At-loop-j).0 c.loop-j-test.true c.min-e.ensures

pub loop-j-init : goal.loop-j-init
loop-j-init c =
    (search rules, omega arith, refl, rows_none _ _ _, bands-none c.args.self.now.p c.args.self.now.img.now _ _ c.args.self.now.exact _)

pub overflow_add-j : goal.overflow_add-j
overflow_add-j c = omega (arith, c.loop-j.invariant.1, c.args.self.now.sound.low)

pub add_band-requires : goal.add_band-requires
add_band-requires c = (
  omega (arith, c.requires, c.loop-j.invariant.2),
  band (goal.at.add_band-requires c).After-min-e,
  c.loop-j.invariant.3,
)

pub returns-in_err-more-clause-added : goal.returns-in_err-more-clause-added
returns-in_err-more-clause-added c =
    let some = sides (goal.at.returns-in_err-more-clause-added c).At-loop-j in
    let rows = (band (goal.at.returns-in_err-more-clause-added c).After-min-e).some in
    rw (passed-on _ c.from_residual.ensures.1, ← c.in_err-more.was)
    (bands-all c.args.self.now.p c.args.self.now.img.now c.args.self.now.w c.args.self.now.h c.args.self.now.exact some.0 some.1 _
    (record { sound = c.args.self.now.sound; enough = c.requires }) _ (omega arith)
    (omega arith) _ _ _
    (bands-full c.args.self.now.p c.args.self.now.img.now c.args.self.now.w c.args.self.now.h c.args.self.now.exact _ _ _ _
    (omega arith) _ _ c.loop-j.invariant.4 _ _
    c.add_band.ensures.added _ c.in_err-more.was (band (goal.at.returns-in_err-more-clause-added c).After-min-e).within))

pub overflow_add-held : goal.overflow_add-held
overflow_add-held c =
    let some = (band (goal.at.overflow_add-held c).After-min-e).some in
    let more = bands-more c.args.self.now.p c.args.self.now.img.now c.args.self.now.w c.args.self.now.h c.args.self.now.exact _ _
    _ _ (omega arith) _ _ c.loop-j.invariant.4 _ _
    c.add_band.ensures.added _ c.in_ok-more.was in
    omega (arith, (more.added _ refl).1, c.well_formed)

pub overflow_add-ties : goal.overflow_add-ties
overflow_add-ties c =
    let some = sides (goal.at.overflow_add-ties c).At-loop-j in
    let rows = (band (goal.at.overflow_add-ties c).After-min-e).some in
    let more = bands-more c.args.self.now.p c.args.self.now.img.now c.args.self.now.w c.args.self.now.h c.args.self.now.exact _ _
    _ _ (omega arith) _ _ c.loop-j.invariant.4 _ _
    c.add_band.ensures.added _ c.in_ok-more.was in
    omega (
      arith,
      (more.added _ refl).3,
      bands-tied c.args.self.now.p c.args.self.now.img.now c.args.self.now.w c.args.self.now.h c.args.self.now.exact some.0 some.1
          _ (record { sound = c.args.self.now.sound; enough = c.requires })
          c.min-e.result (band (goal.at.overflow_add-ties c).After-min-e).within,
    )

-- the rows up to the end of the band are complete
more : (c : In_ok-more)
    → AddsCorners
    (corners_to c.args.self.now.p c.args.self.now.img.now c.args.self.now.w c.args.self.now.h c.args.self.now.exact c.min-e.result)
    (ties_to c.args.self.now.p c.args.self.now.img.now c.args.self.now.w c.args.self.now.h c.args.self.now.exact c.min-e.result) 0
    (contents c.args.list.now) (Ok (record
    { count = c.loop-j.held + c.in_ok-more.more.count; ties = c.loop-j.ties + c.in_ok-more.more.ties }))
    (contents c.add_band.new.list)
more c =
    let some = (band (goal.at.In_ok-more c).After-min-e).some in
    bands-more c.args.self.now.p c.args.self.now.img.now c.args.self.now.w c.args.self.now.h c.args.self.now.exact _ _ _ _ (omega arith)
    _ _ c.loop-j.invariant.4 _ _ c.add_band.ensures.added _ c.in_ok-more.was

pub loop-j-preserved : goal.loop-j-preserved
loop-j-preserved c =
    let k = (goal.at.loop-j-preserved c).In_ok-more in
    let e : c.min-e.result ≡ c.loop-j.j + 64 = omega (arith, c.min-e.ensures) in (
      search rules,
      omega (arith, c.min-e.ensures),
      omega (arith, c.add_band.auto, c.loop-j.invariant.2),
      rw e at c.add_band.ensures.rows_held,
      rw e at (more k),
    )

pub returns-in_ok-more-clause-added : goal.returns-in_ok-more-clause-added
returns-in_ok-more-clause-added c =
    let k = (goal.at.returns-in_ok-more-clause-added c).In_ok-more in
    let some = sides (goal.at.returns-in_ok-more-clause-added c).At-loop-j in
    bands-all c.args.self.now.p c.args.self.now.img.now c.args.self.now.w c.args.self.now.h c.args.self.now.exact some.0 some.1 _
    (record { sound = c.args.self.now.sound; enough = c.requires }) _ (omega (arith, c.min-e.ensures))
    (omega (arith, c.min-e.ensures)) _ _ _
    (more k)

pub returns-else-self-le-ONE_MAP-clause-added : goal.returns-else-self-le-ONE_MAP-clause-added
returns-else-self-le-ONE_MAP-clause-added c =
    let some = sides (goal.at.returns-else-self-le-ONE_MAP-clause-added c).At-loop-j in
    bands-all c.args.self.now.p c.args.self.now.img.now c.args.self.now.w c.args.self.now.h c.args.self.now.exact some.0 some.1 _
    (record { sound = c.args.self.now.sound; enough = c.requires }) _ c.loop-j.invariant.1 (omega arith) _ _ _ c.loop-j.invariant.4
