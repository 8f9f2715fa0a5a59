-- `center_of_mass::centre_of_mass` meets its contract: what the two centres and the sums ensure, put together. Assumes nothing.
use mathlib.Core.Path.{◌≡◌, sym, ◌∙◌}
use Prim.Native.Nat.{ℕ, ◌+◌, ◌≤◌, ◌<◌}
use native.Mathlib.Omega.{arith}
use lib.Ieee.{of_bits}
use Rattle.std.specs.Prelude.{Some}
use Rattle.center_of_mass.specs.CenterOfMass.{centre_on}
use Rattle.center_of_mass.proofs.Window.{rows_in}
use Rattle.center_of_mass.proofs.Axis.{window-in}
use Rattle.center_of_mass.proofs.Outcomes.{no-column, no_row, with-mass, no-mass}
use Rattle.center_of_mass.proofs.centre_of_mass.Goals as goal
use Rattle.center_of_mass.proofs.centre_of_mass.Goals.{In-Some-centre_on}

pub returns-in_default : goal.returns-in_default
returns-in_default c =
    no-column c.args.r c.args.x c.args.y c.args.map.now c.args.w c.args.h (sym c.centre_on.ensures ∙ c.in_default.is)

pub returns-in_default-centre_on : goal.returns-in_default-centre_on
returns-in_default-centre_on c =
    no_row c.args.r c.args.x c.args.y c.args.map.now c.args.w c.args.h (sym c.centre_on-2.ensures ∙ c.in_default-centre_on.is)

abbrev cx : In-Some-centre_on → ℕ
cx c = c.in-Some.cx

abbrev cy : In-Some-centre_on → ℕ
cy c = c.in-Some-centre_on.cy

column-at : (c : In-Some-centre_on) → centre_on c.args.r c.args.w c.args.x ≡ Some (cx c)
column-at c =
    sym c.centre_on.ensures
    ∙ c.in-Some.is

row_at : (c : In-Some-centre_on) → centre_on c.args.r c.args.h c.args.y ≡ Some (cy c)
row_at c = sym c.centre_on-2.ensures ∙ c.in-Some-centre_on.is

columns-in : (c : In-Some-centre_on) → (c.args.r ≤ cx c) × (cx c + c.args.r < c.args.w)
columns-in c = window-in _ _ _ _ (sym (column-at c))

rows-in-map : (c : In-Some-centre_on) → (c.args.r ≤ cy c) × (cy c + c.args.r < c.args.h)
rows-in-map c = window-in _ _ _ _ (sym (row_at c))

pub overflow_sub-cx : goal.overflow_sub-cx
overflow_sub-cx c = (columns-in c).0

pub overflow_add-cx : goal.overflow_add-cx
overflow_add-cx c = record { fits = omega (arith, columns-in c, c.requires) }

pub overflow_add-cx-2 : goal.overflow_add-cx-2
overflow_add-cx-2 c = record { fits = omega (arith, columns-in c, c.requires) }

pub overflow_sub-cy : goal.overflow_sub-cy
overflow_sub-cy c = (rows-in-map c).0

pub overflow_add-cy : goal.overflow_add-cy
overflow_add-cy c = record { fits = omega (arith, rows-in-map c, c.requires) }

pub overflow_add-cy-2 : goal.overflow_add-cy-2
overflow_add-cy-2 c = record { fits = omega (arith, rows-in-map c, c.requires) }

pub window_sums-s-requires : goal.window_sums-s-requires
window_sums-s-requires c =
    let k = columns-in c in
    let l = rows-in-map c in (
      omega arith,
      c.requires.1,
      omega arith,
      rows_in (cy c + c.args.r + 1) c.args.w c.args.h _ (omega arith) c.requires.3,
    )

pub returns-then-s : goal.returns-then-s
unfolding of_bits
returns-then-s c =
    with-mass c.args.r c.args.x c.args.y c.args.map.now c.args.w c.args.h (cx (goal.at.returns-then-s c).In-Some-centre_on)
    (cy (goal.at.returns-then-s c).In-Some-centre_on) (column-at (goal.at.returns-then-s c).In-Some-centre_on)
    (row_at (goal.at.returns-then-s c).In-Some-centre_on)
    c.window_sums-s.result c.window_sums-s.ensures
    c.if-s.true

pub returns : goal.returns
unfolding of_bits
returns c =
    no-mass c.args.r c.args.x c.args.y c.args.map.now c.args.w c.args.h (cx (goal.at.returns c).In-Some-centre_on)
    (cy (goal.at.returns c).In-Some-centre_on) (column-at (goal.at.returns c).In-Some-centre_on)
    (row_at (goal.at.returns c).In-Some-centre_on) c.window_sums-s.result
    c.window_sums-s.ensures c.if-s.false
