-- `detect::searching::cells_passed` meets its contract: the cells before the lowest mark are passed over. Assumes nothing.
use Rattle.std.proofs.Common.{◌+◌, ◌^◌, refl, ◌∙◌, one-mul, arith, pow_mono, shl_exact}
use lib.Count.{trailing_le}
use Rattle.detect.specs.Internal.{Passed}
use Rattle.detect.proofs.Passing.{without-mark}
use Rattle.detect.proofs.Marks.{Marked, marked-none, marked_next, marked_all}
use Rattle.detect.proofs.searching.cells_passed.Goals as goal
use Rattle.detect.proofs.searching.cells_passed.Goals.{After-mark_of-marks}

pub loop-i-init : goal.loop-i-init
loop-i-init c = (omega arith, marked-none _)

-- the marks with that of one cell more
next : (c : After-mark_of-marks)
    → Marked (λ k. Passed c.args.map.now c.args.w c.args.t c.args.beside c.args.exact (c.args.at + k)) (c.loop-i.i + 1)
    (c.loop-i.marks + c.mark_of-marks.result)
next c =
    marked_next _ c.loop-i.i c.loop-i.marks _ _ _ c.loop-i.invariant.1
    (shl_exact {a = 1} 1 c.loop-i.i 32 (omega arith) (omega arith) ∙ one-mul (2 ^ c.loop-i.i))
    c.mark_of-marks.ensures
    (without-mark c.args.map.now c.args.w c.args.t c.args.beside c.args.exact (c.args.at + c.loop-i.i) _ c.rival-u.ensures _
    c.bar_of.ensures)

pub overflow_add-k : goal.overflow_add-k
overflow_add-k c = omega (arith, c.requires.within, c.well_formed)

pub rival-u-requires : goal.rival-u-requires
rival-u-requires c =
    record {
      i_in_bounds = omega (arith, c.requires.within);
      le_w = λ e. let around = c.requires.around e in
          (around.0, omega (arith, around.1), omega (arith, around.2));
    }

pub bounds-map-k : goal.bounds-map-k
bounds-map-k c = omega (arith, c.requires.within)

pub overflow_add-marks : goal.overflow_add-marks
overflow_add-marks c = omega (arith, (next c).small, pow_mono {i = c.loop-i.i + 1} {j = 16} (omega arith))

pub loop-i-preserved : goal.loop-i-preserved
loop-i-preserved c = (omega arith, next c)

pub overflow_add-result : goal.overflow_add-result
overflow_add-result c = omega (arith, c.loop-i.invariant.1.small, pow_mono {i = c.loop-i.i} {j = 16} (omega arith))

pub overflow_cast-result : goal.overflow_cast-result
overflow_cast-result c = omega (arith, trailing_le 32 (c.loop-i.marks + 65536))

pub returns : goal.returns
returns c = let all = marked_all _ _ _ _ c.loop-i.invariant.1 (omega arith) refl in record { within = all.0; each = all.1 }
