-- `frame::checked::CheckedFrame::add_band` meets its contract, by the laws of `InBands`. Assumes nothing.
use Prim.Native.Nat.{ℕ, ◌-◌}
use native.Mathlib.Nat.{mul_comm}
use native.Mathlib.Omega.{arith}
use mathlib.Core.Path.{ap, ◌∙◌}
use borrow.Author.Rules.{rules}
use Rattle.frame.proofs.InBands.{band-order, band-end, band-small, band-free, band-held, band-adds}
use Rattle.frame.proofs.checked.CheckedFrame.add_band.Goals as goal
use Rattle.frame.proofs.checked.CheckedFrame.add_band.Goals.{After-border-b}

pub overflow_mul-j : goal.overflow_mul-j
overflow_mul-j c =
    omega (
      arith,
      band-order c.args.self.now.p c.args.self.now.img.now _ _ _ _ c.requires.1,
      band-small c.args.self.now.p c.args.self.now.img.now _ _ _ _ c.requires.1 c.args.map.now
          (record { sound = c.args.self.now.sound; enough = c.requires.0 }),
    )

pub overflow_mul-e : goal.overflow_mul-e
overflow_mul-e c =
    omega (
      arith,
      band-order c.args.self.now.p c.args.self.now.img.now _ _ _ _ c.requires.1,
      band-small c.args.self.now.p c.args.self.now.img.now _ _ _ _ c.requires.1 c.args.map.now
          (record { sound = c.args.self.now.sound; enough = c.requires.0 }),
    )

pub offset_bounds-map-j : goal.offset_bounds-map-j
offset_bounds-map-j c =
    omega (
      arith,
      band-order c.args.self.now.p c.args.self.now.img.now _ _ _ _ c.requires.1,
      band-small c.args.self.now.p c.args.self.now.img.now _ _ _ _ c.requires.1 c.args.map.now
          (record { sound = c.args.self.now.sound; enough = c.requires.0 }),
    )

pub slice_bounds-chess_response_u8_patch-count : goal.slice_bounds-chess_response_u8_patch-count
slice_bounds-chess_response_u8_patch-count c = band-order c.args.self.now.p c.args.self.now.img.now _ _ _ _ c.requires.1

pub slice_bounds-chess_response_u8_patch-start : goal.slice_bounds-chess_response_u8_patch-start
slice_bounds-chess_response_u8_patch-start c = band-order c.args.self.now.p c.args.self.now.img.now _ _ _ _ c.requires.1

pub slice_bounds-chess_response_u8_patch-end : goal.slice_bounds-chess_response_u8_patch-end
slice_bounds-chess_response_u8_patch-end c =
    band-end _ _ _ _ _ _ c.requires.1 c.args.map.now (record { sound = c.args.self.now.sound; enough = c.requires.0 })

pub slice_bounds-add_row_corners-end : goal.slice_bounds-add_row_corners-end
slice_bounds-add_row_corners-end c = search rules

pub returns-in_err-chess_response_u8_patch-clause-added : goal.returns-in_err-chess_response_u8_patch-clause-added
returns-in_err-chess_response_u8_patch-clause-added c =
    absurd (band-free c.args.self.now.p c.args.self.now.img.now _ _ _ _ c.requires.1 c.args.map.now
    (record { sound = c.args.self.now.sound; enough = c.requires.0 }) _ _
    c.chess_response_u8_patch.ensures c.requires.2 _
    c.in_err-chess_response_u8_patch.was)

pub returns-in_err-chess_response_u8_patch-clause-rows_held : goal.returns-in_err-chess_response_u8_patch-clause-rows_held
returns-in_err-chess_response_u8_patch-clause-rows_held c =
    absurd (band-free c.args.self.now.p c.args.self.now.img.now _ _ _ _ c.requires.1 c.args.map.now
    (record { sound = c.args.self.now.sound; enough = c.requires.0 }) _ _
    c.chess_response_u8_patch.ensures c.requires.2 _
    c.in_err-chess_response_u8_patch.was)

pub returns-clause-added : goal.returns-clause-added
returns-clause-added c =
    let held = band-held c.args.self.now.p c.args.self.now.img.now _ _ _ _ c.requires.1 c.args.map.now
    (record { sound = c.args.self.now.sound; enough = c.requires.0 }) _ _
    c.chess_response_u8_patch.ensures c.requires.2 in
    let long = slice_bounds-add_row_corners-end (goal.at.returns-clause-added c).After-border-b in
    band-adds c.args.self.now.p c.args.self.now.img.now _ _ _ _ c.requires.1 _
    (record { sound = c.args.self.now.sound; enough = omega (arith, long, mul_comm c.args.self.now.w c.args.self.now.h) })
    c.args.self.now.exact held _ _
    (c.saturating_sub.ensures ∙ ap (λ (k : ℕ). c.args.j - k) c.border-b.ensures)
    (c.saturating_sub-2.ensures ∙ ap (λ (k : ℕ). c.args.e - k) c.border-b.ensures) _ _ _ _
    c.add_row_corners.ensures.added

pub returns-clause-rows_held : goal.returns-clause-rows_held
returns-clause-rows_held c =
    band-held c.args.self.now.p c.args.self.now.img.now _ _ _ _ c.requires.1 c.args.map.now
    (record { sound = c.args.self.now.sound; enough = c.requires.0 }) _ _ c.chess_response_u8_patch.ensures c.requires.2
