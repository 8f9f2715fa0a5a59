-- The first corners of a buffer copied into another, one after the other. Assumes nothing.
use Prim.Native.Nat.{ℕ, ◌+◌, ◌<◌, ◌≤◌}
use native.Mathlib.Numerals.{add-one}
use native.Mathlib.Omega.{arith}
use mathlib.Core.Path.{◌≡◌, sym, ap, ◌∙◌}
use mathlib.Core.List.{List, [], ◌∷◌, ◌++◌}
use lib.ListN.{length}
use Rattle.lists.specs.Tab.{tab}
use Rattle.corner_list.specs.declared.Corner.{Corner}
use Rattle.corner_list.specs.CornerList.{Slices, places_of, corner_at, corners_of, with_corner, front_corners}
use Rattle.corner_list.proofs.Corners.{corners-length, corners-same, corners-next}

-- the first i corners of b stand first in d, which was d₀
pub record Copied (b : Slices) (i : ℕ) (d₀ d : Slices) : Type 0 where
  pub fits : i ≤ places_of d₀
  pub is : d ≡ front_corners (corners_of b i) d₀

pub copied_none : (b d : Slices) → Copied b 0 d d
unfolding tab
copied_none b d = record { fits = omega arith; is = corners-same d 0 (omega arith) }

module _ (b : Slices) (i : ℕ) (d₀ d : Slices) (at : Copied b i d₀ d) where
  abbrev Done : List Corner
  Done = corners_of b i

  many : i ≡ length Done
  many = sym (corners-length b i)

  -- the next corner is copied
  pub copied_more : (n : ℕ) → n ≤ places_of d₀ → i < n → (c : Corner) → c ≡ corner_at b i → (d' : Slices) → d' ≡ with_corner i c d
      → Copied b (i + 1) d₀ d'
  unfolding tab
  copied_more n fit h c read d' put = record {
    fits = omega arith;
    is =
        put ∙ ap (with_corner i c) at.is ∙ corners-next Done d₀ i c many (omega arith)
        ∙ ap (λ (o : Corner). front_corners (Done ++ (o ∷ [])) d₀) read
        ∙ ap (λ (m : ℕ). front_corners (corners_of b m) d₀) (sym (add-one i));
  }

  pub copied_all : (n : ℕ) → n ≤ i → i ≤ n → d ≡ front_corners (corners_of b n) d₀
  copied_all n h g = let e : i ≡ n = omega arith in at.is ∙ ap (λ (m : ℕ). front_corners (corners_of b m) d₀) e
