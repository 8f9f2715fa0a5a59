-- The search for the next peak: places that were passed over are no peaks. Assumes nothing.
use Rattle.std.proofs.Common.{◌≡◌, ℕ, ◌+◌, ◌-◌, ◌<◌, ◌≤◌, List, [], Option, Some, None, subst, sym, refl, ap, ◌∙◌, arith}
use lib.Ieee.{Float}
use Rattle.lists.specs.Places.{Place, keep}
use Rattle.detect.specs.declared.Search.{Search}
use Rattle.detect.specs.declared.searching.Spot.{Spot}
use Rattle.detect.specs.Peaks.{peak_places}
use Rattle.detect.specs.Internal.{Inside}
use Rattle.detect.specs.Detect.{peak_in, peaks_in}
use Rattle.detect.specs.Internal.{place, peaks_from, peak_test, PlacesSkipped, FirstFrom}
use Rattle.detect.proofs.Ahead.{keep-hit, keep-miss, ahead-start, ahead-row, ahead-end}
use Rattle.detect.proofs.Tested.{test-none, test-some}

-- from p on, the places before q are no peaks, and q lies behind the border's left and upper part
pub record Passed (m : List Float) (s : Search) (p q : Place) : Type 0 where
  pub left : s.border ≤ q.x
  pub top : s.border ≤ q.y
  pub same_ahead : peaks_from m s p ≡ peaks_from m s q

pub passed_none : (m : List Float) (s : Search) (p : Place) → s.border ≤ p.x → s.border ≤ p.y → Passed m s p p
passed_none m s p l t = record { left = l; top = t; same_ahead = refl }

module _ (m : List Float) (s : Search) (p : Place) (x y : ℕ) (a : Passed m s p (place x y)) where
  pub passed-skip : (x' : ℕ) → PlacesSkipped m s (place x y) (place x' y) → Passed m s p (place x' y)
  passed-skip x' k = record { left = omega (arith, a.left, k.onward); top = a.top; same_ahead = a.same_ahead ∙ k.same_ahead }

  -- at a cell inside the border
  module _ (i : x < s.w - s.border) (j : y < s.h - s.border) where
    pub passed-inside : Inside s.w s.h s.border (place x y)
    passed-inside = record { left = a.left; right = omega arith; top = a.top; bottom = omega arith }

    module _ (o : Option Spot) (told : o ≡ peak_test m s (place x y)) where
      pub passed-cell : o ≡ None → Passed m s p (place (x + 1) y)
      passed-cell e = record {
        left = omega (arith, a.left);
        top = a.top;
        same_ahead = a.same_ahead ∙ keep-miss s x y i j (peak_in m s) (test-none m s (place x y) o told e);
      }

      pub passed-peak : (f : Spot) → o ≡ Some f → FirstFrom m s p f
      passed-peak f e =
          let is = test-some m s (place x y) o told f e in
          subst (FirstFrom m s p) (sym is.1)
          (record {
            inside = passed-inside;
            counted = record { neighbours = refl; ties = refl };
            ahead = a.same_ahead ∙ keep-hit s x y i j (peak_in m s) is.0;
          })

  -- at the end of a row
  pub passed-row : s.w - s.border ≤ x → y < s.h - s.border → Passed m s p (place s.border (y + 1))
  passed-row i j = record {
    left = omega arith;
    top = omega (arith, a.top);
    same_ahead = a.same_ahead ∙ ap (keep (peak_in m s)) (ahead-row s x y i j);
  }

  -- behind the last row
  pub passed-all : s.h - s.border ≤ y → peaks_from m s p ≡ []
  passed-all j = a.same_ahead ∙ ap (keep (peak_in m s)) (ahead-end s x y j)

pub peaks-start : (m : List Float) (s : Search) → peaks_in m s ≡ peaks_from m s (place s.border s.border)
unfolding peak_places
peaks-start m s = ap (keep (peak_in m s)) (ahead-start s s.border)
