-- When a map's peaks by computed values are those by exact values, for any map of accurate cells: from each place to the lists. Assumes
-- nothing.
use Prim.Native.Nat.{ℕ, ◌-◌}
use native.Mathlib.Omega.{arith}
use mathlib.Core.Path.{◌≡◌}
use mathlib.Core.Logic.{◌↔◌}
use mathlib.Core.Bool.{Bool, true, false, cond, false≢true}
use mathlib.Core.List.{List, [], ◌∷◌}
use lib.IntN.{ℤ}
use lib.Ieee.{Float}
use Rattle.lists.specs.Places.{Place, block, keep, All}
use Rattle.lists.proofs.Members.{at_block, all_map}
use Rattle.float32.specs.Value.{IsWhole}
use Rattle.detect.specs.Peaks.{window, is_peak, peak_places, computed}
use Rattle.detect.specs.Internal.{Inside}
use Rattle.detect.specs.Exact.{exact}
use Rattle.detect.proofs.Choice.{peaks-are}
use Rattle.detect.proofs.Agreement as readings
use Rattle.agreement.specs.Agreement.{Tied, NoTie}
use Rattle.agreement.proofs.Place.{CellsAccurate, stands, peak-both}

-- a fact of each member that passes a test
kept : {A : Type 0} (P : A → Type 0) (f : A → Bool) (l : List A) → All P (keep f l) → All (λ a. f a ≡ true → P a) l
kept P f [] h = tt
kept P f (a ∷ l) h = pick (f a) (kept P f l) h
  where
    pick : (b : Bool) → (All P (keep f l) → All (λ a. f a ≡ true → P a) l) → All P (cond b (a ∷ keep f l) (keep f l))
        → (b ≡ true → P a) × All (λ a. f a ≡ true → P a) l
    pick true rest h = (λ _. h.0, rest h.1)
    pick false rest h = (λ e. absurd (false≢true e), rest h)

-- of each peak of a list, at its place
peak-at : (P : Place → Type 0) (f : Place → Bool) (w h border : ℕ) → All P (keep f (block border (w - border) border (h - border)))
    → (p : Place) → Inside w h border p → f p ≡ true → P p
peak-at P f w h border a p i e =
    at_block (λ q. f q ≡ true → P q) border (w - border) border (h - border) (kept P f (block border (w - border) border (h - border)) a)
    p.x p.y i.left (omega (arith, i.right)) i.top (omega (arith, i.bottom)) e

-- at a whole threshold t the two lists are alike exactly when no tie of the exact one is broken by rounding
pub peaks_alike : (m : List Float) (fifths : Place → ℤ) (t : Float) (k w h border r least : ℕ) → IsWhole t k → CellsAccurate m fifths w h
    → (peak_places (computed m w t) w h border r least ≡ peak_places (exact fifths t) w h border r least)
    ↔ NoTie m fifths w h r (peak_places (exact fifths t) w h border r least)
peaks_alike m fifths t k w h border r least whole cells = (
  λ e. all_map _ _ (λ p c. (both p c.0 c.1).0 (alike.0 e p c.0 c.1)) (peak_places (exact fifths t) w h border r least)
      (peaks-are (exact fifths t) w h border r least),
  λ n. alike.1 (λ p i top. (both p i top).1 (at n p i top)),
)
  where
    alike : (peak_places (computed m w t) w h border r least ≡ peak_places (exact fifths t) w h border r least)
        ↔ ((p : Place) → Inside w h border p → is_peak (exact fifths t) w h r least p ≡ true
        → is_peak (computed m w t) w h r least p ≡ true)
    alike = readings.peaks_alike (computed m w t) (exact fifths t) w h border r least (stands m fifths t k w h whole cells)

    both : (p : Place) → Inside w h border p → is_peak (exact fifths t) w h r least p ≡ true
        → (is_peak (computed m w t) w h r least p ≡ true) ↔ All (λ q. Tied m fifths w p q → ⊥) (window w h r p)
    both p i = peak-both m fifths t k w h whole cells r least p (omega (arith, i.right)) (omega (arith, i.bottom))

    at : NoTie m fifths w h r (peak_places (exact fifths t) w h border r least) → (p : Place) → Inside w h border p
        → is_peak (exact fifths t) w h r least p ≡ true
        → All (λ q. Tied m fifths w p q → ⊥) (window w h r p)
    at n = unfold peak_places in
        (peak-at (λ p. All (λ q. Tied m fifths w p q → ⊥) (window w h r p)) (is_peak (exact fifths t) w h r least) w h border n)
