-- The test of a place by what led to its answer, and what its answer says. Assumes nothing.
use Rattle.std.proofs.Common.{◌≡◌, ℕ, ◌<◌, ◌≤◌, Bool, true, false, cond, not, List, Option, Some, None, is_some, sym, refl, ap, ◌∙◌, le-leb}
use mathlib.Core.Bool.{false≢true}
use lib.Ieee.{Float, le}
use borrow.Author.Tests.{not-true, not-false}
use Rattle.lists.specs.Places.{Place}
use Rattle.lists.proofs.Tests.{is_false, and_parts}
use Rattle.lists.proofs.Members.{Implies, any-more, all_of}
use Rattle.detect.specs.declared.Search.{Search}
use Rattle.detect.specs.declared.searching.Spot.{Spot}
use Rattle.detect.specs.Peaks.{value_at, window, larger_in, larger_by, beaten, equals, equal_in, window_test}
use Rattle.detect.specs.Detect.{peak_in, neighbours_at, test_at, ties_at}
use Rattle.detect.specs.Internal.{peak_test}
use Rattle.detect.proofs.Choice.{cell_below, cell-few, cell-beaten, cell-counted}

module _ (m : List Float) (s : Search) (p : Place) where
  -- ---- what led to the answer
  abbrev lost : Bool → Bool
  lost b = beaten (larger_by b m s.w) s.w s.h s.window p

  top-told : (t : Option ℕ) → t ≡ test_at m s p → is_some t ≡ not (lost false)
  unfolding window_test
  top-told t e = ap is_some e ∙ pick (beaten (larger_in m s.w) s.w s.h s.window p)
    where
      pick : (b : Bool) → is_some (cond b None (Some (equals (equal_in m s.w) s.w s.h s.window p))) ≡ not b
      pick true = refl
      pick false = refl

  -- what is not larger is not larger by more than the slack
  fewer-beat : (b : Bool) → lost false ≡ false → lost b ≡ false
  unfolding beaten
  fewer-beat false e = e
  fewer-beat true e =
      is_false (lost true)
      (λ t. false≢true
      (sym e ∙ any-more (λ q. larger_by true m s.w q p) (λ q. larger_in m s.w q p) (window s.w s.h s.window p)
      (all_of (Implies (λ q. larger_by true m s.w q p) (λ q. larger_in m s.w q p)) (λ q g. (and_parts _ _ g).0)
      (window s.w s.h s.window p)) t))

  -- beaten, by the window test and where that is asked by exact values
  pub lost-not : (t : Option ℕ) → t ≡ test_at m s p → is_some t ≡ true → false ≡ lost s.exact
  lost-not t told is = sym (fewer-beat s.exact (not-true (lost false) (sym (top-told t told) ∙ is)))

  pub lost-exactly : s.exact ≡ true → (b : Bool) → b ≡ not (lost true) → not b ≡ lost s.exact
  lost-exactly x b e = rw (x, e) (not-not (lost true))
    where
      not-not : (c : Bool) → not (not c) ≡ c
      not-not true = refl
      not-not false = refl

  pub lost-plainly : s.exact ≡ false → (t : Option ℕ) → t ≡ test_at m s p → is_some t ≡ false → true ≡ lost s.exact
  lost-plainly x t told is = rw x (sym (not-false (lost false) (sym (top-told t told) ∙ is)))

  -- the peak there, if it is one
  abbrev here : Spot
  here = record { x = p.x; y = p.y; neighbours = neighbours_at m s p; ties = ties_at m s p }

  tested-no : false ≡ peak_in m s p → None ≡ peak_test m s p
  tested-no e = rw (← e)

  module _ (u : Float) (e : u ≡ value_at m s.w p) where
    pub tested_low : le u s.threshold ≡ true → None ≡ peak_test m s p
    tested_low l = tested-no (cell_below m s p u e l)

    pub tested-beaten : (b : Bool) → b ≡ lost s.exact → b ≡ true → None ≡ peak_test m s p
    tested-beaten b told is = tested-no (cell-beaten m s p u e (not b) (ap not told) (ap not is))

    module _ (n : ℕ) (c : n ≡ neighbours_at m s p) where
      pub tested-few : n < s.least_neighbours → None ≡ peak_test m s p
      tested-few o = tested-no (cell-few m s p u e n c o)

      pub tested-peak : le u s.threshold ≡ false → s.least_neighbours ≤ n → (b : Bool) → b ≡ lost s.exact → b ≡ false
          → (k : ℕ) → k ≡ ties_at m s p
          → Some (record { x = p.x; y = p.y; neighbours = n; ties = k }) ≡ peak_test m s p
      tested-peak l o b told is k tied =
          let enough = cell-counted m s p u e (not b) (ap not told) l (ap not is) n c in
          rw (← (sym (le-leb s.least_neighbours n o) ∙ enough), c, tied)

  -- ---- what the answer says
  module _ (o : Option Spot) (told : o ≡ peak_test m s p) where
    pub test-none : o ≡ None → peak_in m s p ≡ false
    test-none is = pick (peak_in m s p) (sym told ∙ is)
      where
        pick : (b : Bool) → cond b (Some here) None ≡ None → b ≡ false
        pick true e = cc
        pick false e = refl

    pub test-some : (f : Spot) → o ≡ Some f → (peak_in m s p ≡ true) × (f ≡ here)
    test-some f is = pick (peak_in m s p) (sym told ∙ is)
      where
        pick : (b : Bool) → cond b (Some here) None ≡ Some f → (b ≡ true) × (f ≡ here)
        pick true e = (refl, cc)
        pick false e = cc
