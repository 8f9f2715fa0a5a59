-- `patch_corners::add_row_corners` meets its contract, by the laws of `OfRows` and `Centring`. Assumes nothing.
use Prim.Native.Nat.{ℕ, ◌+◌, min}
use native.Mathlib.Omega.{arith}
use mathlib.Core.Path.{◌≡◌, refl, ap, ◌∙◌}
use lib.ListN.{length}
use Rattle.lists.specs.Refusals.{lowest}
use Rattle.lists.proofs.Judged.{judged-ok, passed-on}
use Rattle.detect.specs.Detect.{conditions}
use Rattle.detect.proofs.Answers.{clear, found-refused}
use Rattle.patch_corners.proofs.Centring.{found-not, found-fits, found-changed}
use Rattle.patch_corners.proofs.OfRows.{low, border-small, Cut, part_end, part_small, part-order, low-top, rows-added}
use Rattle.patch_corners.proofs.add_row_corners.Goals as goal
use Rattle.patch_corners.proofs.add_row_corners.Goals.{After-min-top, In_ok-refusal}

-- the map has no fault
none : (c : In_ok-refusal)
    → lowest (conditions (length c.args.map.now) c.args.w c.args.h c.args.p.ring c.args.p.window c.args.p.centroid_radius) ≡ 0
none c = (judged-ok _ _ _ c.in_ok-refusal.ensures).0

-- the rows that are searched
cut : (c : After-min-top)
    → Cut c.args.p c.args.map.now c.args.w c.args.h c.args.a c.args.b c.min-end.result c.min-top.result
cut c =
    record {
      none = none (goal.at.After-min-top c).In_ok-refusal;
      end_is = c.min-end.ensures
          ∙ ap (λ (k : ℕ). min (k + (c.args.p.ring + c.args.p.window + c.args.p.centroid_radius)) c.args.h)
          c.min.ensures;
      top-is = c.min-top.ensures ∙ ap (λ (k : ℕ). min k c.min-end.result) c.saturating_sub.ensures;
    }

pub returns-in_err-refusal-clause-added : goal.returns-in_err-refusal-clause-added
unfolding conditions
returns-in_err-refusal-clause-added c =
    rw (passed-on _ c.from_residual.ensures.1) (found-refused _ _ _ _ _ _ (refl, (refl, (refl, tt))) c.in_err-refusal.ensures)

pub overflow_add-min : goal.overflow_add-min
overflow_add-min c =
    let fine = none (goal.at.overflow_add-min c).In_ok-refusal in
    omega (arith, c.min.ensures, low c.args.p _ _ _ fine, border-small c.args.p _ _ _ fine)

pub overflow_mul-top : goal.overflow_mul-top
overflow_mul-top c =
    omega (
      arith,
      part-order _ c.args.exact _ _ _ _ _ _ _ (cut c),
      part_small _ c.args.exact _ _ _ _ _ _ _ (cut c),
    )

pub overflow_mul-end : goal.overflow_mul-end
overflow_mul-end c =
    omega (
      arith,
      part-order _ c.args.exact _ _ _ _ _ _ _ (cut c),
      part_small _ c.args.exact _ _ _ _ _ _ _ (cut c),
    )

pub offset_bounds-map-top : goal.offset_bounds-map-top
offset_bounds-map-top c =
    omega (
      arith,
      part-order _ c.args.exact _ _ _ _ _ _ _ (cut c),
      part_small _ c.args.exact _ _ _ _ _ _ _ (cut c),
    )

pub slice_bounds-find_peaks-count : goal.slice_bounds-find_peaks-count
slice_bounds-find_peaks-count c = part-order _ c.args.exact _ _ _ _ _ _ _ (cut c)

pub slice_bounds-find_peaks-start : goal.slice_bounds-find_peaks-start
slice_bounds-find_peaks-start c = part-order _ c.args.exact _ _ _ _ _ _ _ (cut c)

pub slice_bounds-find_peaks-end : goal.slice_bounds-find_peaks-end
slice_bounds-find_peaks-end c = part_end _ c.args.exact _ _ _ _ _ _ _ (cut c)

pub returns-in_err-peaks-clause-added : goal.returns-in_err-peaks-clause-added
returns-in_err-peaks-clause-added c =
    rw (passed-on _ c.from_residual-in_err-peaks.ensures.1, ← c.in_err-peaks.was)
    (rows-added _ c.args.exact _ _ _ _ _ _ _ (cut (goal.at.returns-in_err-peaks-clause-added c).After-min-top) _ _ _ _
    (found-not _ _ _ _ _ _ _ _ c.find_peaks.ensures.added _ c.in_err-peaks.was))

pub centre_all-requires : goal.centre_all-requires
centre_all-requires c = (
  found-fits (λ z. z) _ _ _ _ _ _ _ c.find_peaks.ensures.added (clear _ _ _ _ _ _) _ c.in_ok-peaks.was,
  low-top _ c.args.exact _ _ _ _ _ _ _ (cut (goal.at.centre_all-requires c).After-min-top),
)

pub returns-clause-added : goal.returns-clause-added
returns-clause-added c =
    rows-added _ c.args.exact _ _ _ _ _ _ _ (cut (goal.at.returns-clause-added c).After-min-top) _ _ _ _
    (found-changed _ _ _ _ _ _ _ _ c.find_peaks.ensures.added (clear _ _ _ _ _ _) _ c.in_ok-peaks.was _
    c.centre_all.ensures.changed)
