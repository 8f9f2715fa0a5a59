-- `response_limits::rows::row` meets its contract: the inner cells stand between edges that are 0. Assumes nothing.
use mathlib.Core.Path.{◌≡◌, sym, ◌∙◌, subst}
use Prim.Native.Nat.{ℕ, ◌-◌}
use native.Mathlib.Omega.{arith}
use lib.ListN.{length, take, drop}
use mathlib.Core.List.{List}
use lib.IntN.{ℤ}
use Rattle.lists.proofs.Tab.{part-length-to}
use Rattle.response_limits.specs.Internal.{EdgesCleared}
use Rattle.response_limits.proofs.Edges.{span-inner, lows-put, highs-put}
use Rattle.response_limits.proofs.rows.row.Goals as goal
use Rattle.response_limits.proofs.rows.row.Goals.{After-clear_edges-2}

-- where both edges are cleared
module _ (c : After-clear_edges-2) where
  abbrev from : ℕ
  from = c.reach-s.result.start

  abbrev to : ℕ
  to = c.reach-s.result.end

  abbrev lows : List ℤ
  lows = c.clear_edges.new.out

  abbrev highs : List ℤ
  highs = c.clear_edges-2.new.out

  lows-cleared : EdgesCleared from to c.args.w lows
  lows-cleared = subst (λ (n : ℕ). EdgesCleared from to n lows) c.requires.lows_len.0 c.clear_edges.ensures

  highs-cleared : EdgesCleared from to c.args.w highs
  highs-cleared = subst (λ (n : ℕ). EdgesCleared from to n highs) c.requires.lows_len.1 c.clear_edges-2.ensures

  part-long : (s : List ℤ) → EdgesCleared from to c.args.w s → length (take (to - from) (drop from s)) ≡ to - from
  part-long s e = part-length-to from to s (omega (arith, e.long, c.reach-s.ensures.ends))

pub inner-requires : goal.inner-requires
inner-requires c =
    let low = part-long (goal.at.inner-requires c).After-clear_edges-2 (lows (goal.at.inner-requires c).After-clear_edges-2)
    (lows-cleared (goal.at.inner-requires c).After-clear_edges-2) in
    let high = part-long (goal.at.inner-requires c).After-clear_edges-2 (highs (goal.at.inner-requires c).After-clear_edges-2)
    (highs-cleared (goal.at.inner-requires c).After-clear_edges-2) in
    record {
      image_with_table = c.requires.image_with_table;
      highs_len = (high ∙ sym low, rw low (omega (arith, c.reach-s.ensures.ordered, c.reach-s.ensures.ends)));
      by_index = λ i l. span-inner _ _ _ _ _ _ _ c.reach-s.ensures i (omega (arith, low));
    }

pub returns : goal.returns
returns c = record {
  lows_after = lows-put _ _ _ _ _ _ _ _ _ c.reach-s.ensures _ (lows-cleared (goal.at.returns c).After-clear_edges-2) _ _
      (part-long (goal.at.returns c).After-clear_edges-2 (lows (goal.at.returns c).After-clear_edges-2)
      (lows-cleared (goal.at.returns c).After-clear_edges-2)) c.inner.ensures.lows_are;
  highs_after = highs-put _ _ _ _ _ _ _ _ _ c.reach-s.ensures _ (highs-cleared (goal.at.returns c).After-clear_edges-2) _ _
      (part-long (goal.at.returns c).After-clear_edges-2 (highs (goal.at.returns c).After-clear_edges-2)
      (highs-cleared (goal.at.returns c).After-clear_edges-2)) c.inner.ensures.highs_are;
}
