-- A peak by what is sure, from the counts of its window. Assumes nothing.
use mathlib.Core.Path.{◌≡◌, refl, sym, ◌∙◌}
use mathlib.Core.Bool.{Bool, true, false, cond, ◌||◌}
use mathlib.Core.List.{List, [], ◌∷◌}
use Prim.Native.Nat.{ℕ, ◌*◌}
use native.Mathlib.Omega.{arith}
use lib.Dec.{leb}
use lib.ListN.{length}
use lib.IntN.{ℤ, pos}
use lib.Signed.{lt_z}
use Rattle.lists.specs.Places.{Place, any, keep, count}
use Rattle.detect.specs.Peaks.{window, beaten, positives, is_peak}
use Rattle.sure_peak.specs.SurePeak.{stored_fifths}
use Rattle.sure_peak.specs.Internal.{sure}

-- ---- one passes a test exactly if their number is not 0
module _ {A : Type 0} (f : A → Bool) where
  pub none-counted : (l : List A) → count f l ≡ 0 → any f l ≡ false
  unfolding count
  none-counted [] e = refl
  none-counted (a ∷ l) e = pick (f a) e (none-counted l)
    where
      pick : (b : Bool) → length (cond b (a ∷ keep f l) (keep f l)) ≡ 0 → (length (keep f l) ≡ 0 → any f l ≡ false) → (b || any f l) ≡ false
      pick true e r = absurd (let no : ⊥ = omega arith in no)
      pick false e r = r e

  pub some-counted : (l : List A) → (count f l ≡ 0 → ⊥) → any f l ≡ true
  unfolding count
  some-counted [] n = absurd (n refl)
  some-counted (a ∷ l) n = pick (f a) n (some-counted l)
    where
      pick : (b : Bool) → (length (cond b (a ∷ keep f l) (keep f l)) ≡ 0 → ⊥) → ((length (keep f l) ≡ 0 → ⊥) → any f l ≡ true)
          → (b || any f l) ≡ true
      pick true n r = refl
      pick false n r = r n

-- ---- the three tests, of the low number of p
module _ (lows highs : List ℤ) (w h r threshold least : ℕ) (p : Place) (low : ℤ) (e : low ≡ stored_fifths lows w p) where
  abbrev peak : Bool
  peak = is_peak (sure lows highs w threshold) w h r least p

  pub when-low : lt_z (pos (5 * threshold)) low ≡ false → false ≡ peak
  unfolding is_peak
  when-low a = sym (rw (← e, a))

  module _ (above : lt_z (pos (5 * threshold)) low ≡ true) (n : ℕ)
      (larger : n ≡ count (λ q. lt_z low (stored_fifths highs w q)) (window w h r p)) where
    pub when-beaten : (n ≡ 0 → ⊥) → false ≡ peak
    unfolding is_peak beaten
    when-beaten z =
        sym (rw (← e, above, some-counted (λ q. lt_z low (stored_fifths highs w q)) (window w h r p) (λ c. z (larger ∙ c))))

    pub when-top : n ≡ 0 → (m : ℕ) → m ≡ count (λ q. lt_z (pos 0) (stored_fifths lows w q)) (window w h r p) → leb least m ≡ peak
    unfolding is_peak beaten positives
    when-top z m c =
        sym (rw (← e, above, none-counted (λ q. lt_z low (stored_fifths highs w q)) (window w h r p) (sym larger ∙ z), c))
