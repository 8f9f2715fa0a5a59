-- `response_limits::rows::run` meets its contract. The loop fills the naturals from the front. Assumes nothing.
use mathlib.Core.Path.{refl, ap, ◌∙◌}
use native.Mathlib.Omega.{arith}
use Rattle.lists.proofs.Tab.{tab-ext, prefix-none, prefix-set, prefix-at}
use Rattle.response_limits.specs.declared.cell.CellLimits.{CellLimits}
use Rattle.response_limits.proofs.Samples.{limits-found, low-found, high-found}
use borrow.Author.Rules.{rules}
use Rattle.response_limits.proofs.rows.run.Goals as goal

pub loop-j-init : goal.loop-j-init
loop-j-init c = (prefix-none _ _ _ refl, prefix-none _ _ _ refl, prefix-none _ _ _ refl, prefix-none _ _ _ refl)

pub samples-p-requires : goal.samples-p-requires
samples-p-requires c = record { image_with_table = c.requires.image_with_table.0; inner = c.requires.by_index _ c.loop-j-test.true }

pub samples-q-requires : goal.samples-q-requires
samples-q-requires c = record { image_with_table = c.requires.image_with_table.1; inner = c.requires.by_index _ c.loop-j-test.true }

pub limits-l-requires : goal.limits-l-requires
limits-l-requires c = (c.samples-p.ensures.cross_small, c.samples-q.ensures.cross_small)

pub loop-j-preserved : goal.loop-j-preserved
loop-j-preserved c =
    let found = limits-found _ _ _ _ _ _ _ _ c.samples-p.ensures c.samples-q.ensures _ c.limits-l.ensures in (
      prefix-set _ _ _ _ _ c.loop-j.invariant.0 (search rules) (ap (λ (l : CellLimits). l.low_gain) found),
      prefix-set _ _ _ _ _ c.loop-j.invariant.1 (search rules) (ap (λ (l : CellLimits). l.low_cost) found),
      prefix-set _ _ _ _ _ c.loop-j.invariant.2 (search rules) (ap (λ (l : CellLimits). l.high_gain) found),
      prefix-set _ _ _ _ _ c.loop-j.invariant.3 (search rules) (ap (λ (l : CellLimits). l.high_cost) found),
    )

pub returns : goal.returns
returns c =
    record {
      lows_are = c.differences.ensures
          ∙ tab-ext _ _ _ (λ i l.
          low-found _ _ _ _ _ _ _ c.requires.image_with_table.0.own_radius (c.requires.by_index i l) _ _
          (prefix-at _ _ _ _ _ _ c.loop-j.invariant.0 (omega arith)) (prefix-at _ _ _ _ _ _ c.loop-j.invariant.1 (omega arith)) _ refl);
      highs_are = c.differences-2.ensures
          ∙ tab-ext _ _ _ (λ i l.
          high-found _ _ _ _ _ _ _ c.requires.image_with_table.0.own_radius
          (c.requires.by_index i (omega (arith, c.requires.lows_len_bound.1))) _ _
          (prefix-at _ _ _ _ _ _ c.loop-j.invariant.2 (omega (arith, c.requires.lows_len_bound.1)))
          (prefix-at _ _ _ _ _ _ c.loop-j.invariant.3 (omega (arith, c.requires.lows_len_bound.1))) _ refl);
    }
