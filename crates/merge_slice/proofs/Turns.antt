-- Laws of the exchange: after the first i places each list is as long as it was, its place i is as it was, and one turn is one place more.
-- Assumes nothing.
use Prim.Native.Nat.{ℕ, ◌+◌, ◌<◌, ◌≤◌}
use native.Mathlib.Numerals.{add-one}
use native.Mathlib.Omega.{arith}
use mathlib.Core.Path.{◌≡◌, sym, ap, ◌∙◌}
use mathlib.Core.List.{List, [], ◌∷◌, ◌++◌}
use lib.ListN.{length, take, get_or, set}
use lib.Seq.{length-take-le, take-suc}
use lib.Ieee.{nan}
use Rattle.lists.specs.Buffer.{front}
use Rattle.lists.proofs.Buffer.{front_length, front-behind, front-tab}
use Rattle.corner_list.specs.declared.Corner.{Corner}
use Rattle.corner_list.specs.CornerList.{Slices, places_of, with_corner, corner_at, corners_of, front_corners}
use Rattle.corner_list.proofs.Corners.{corners-length, corners-behind, corners-next}

-- what a place past the end of a slice of corners is taken for
abbrev pub nowhere : Corner
nowhere = record { x = nan; y = nan; strength = nan; neighbours = 0 }

-- ---- the corners after i places
abbrev pub corners_upto : List Corner → Slices → ℕ → List Corner
corners_upto cs b i = front (corners_of b i) cs

module _ (cs : List Corner) (b : Slices) (i : ℕ) where
  pub corners-long : i ≤ length cs → length (corners_upto cs b i) ≡ length cs
  corners-long h = front_length (corners_of b i) cs (omega (arith, corners-length b i))

  pub corners-ahead : get_or (corners_upto cs b i) i nowhere ≡ get_or cs i nowhere
  corners-ahead = front-behind (corners_of b i) cs i nowhere (omega (arith, corners-length b i))

  pub corners-turn : i < length cs → i ≤ length cs
      → set (corners_upto cs b i) i (corner_at (front_corners (take i cs) b) i) ≡ corners_upto cs b (i + 1)
  corners-turn l h =
      ap (set (corners_upto cs b i) i) (corners-behind (take i cs) b i (omega (arith, length-take-le i cs h)))
      ∙ front-tab (corner_at b) cs i l

  -- ---- the buffer after a place more
  pub buffer-turn : i < length cs → i < places_of b
      → with_corner i (get_or (corners_upto cs b i) i nowhere) (front_corners (take i cs) b) ≡ front_corners (take (i + 1) cs) b
  buffer-turn l h =
      ap (λ (c : Corner). with_corner i c (front_corners (take i cs) b)) corners-ahead
      ∙ corners-next (take i cs) b i (get_or cs i nowhere) (sym (length-take-le i cs (omega arith))) h
      ∙ ap (λ (l : List Corner). front_corners l b) (sym more)
    where
      more : take (i + 1) cs ≡ take i cs ++ (get_or cs i nowhere ∷ [])
      more = rw (add-one i) (take-suc cs i nowhere l)
