-- Corners that were placed behind others are read back. Assumes nothing.
use Prim.Native.Nat.{ℕ, ◌+◌, ◌<◌, ◌≤◌}
use native.Mathlib.Omega.{arith}
use mathlib.Core.Path.{◌≡◌, ◌∙◌}
use mathlib.Core.List.{List, map}
use lib.ListN.{length, get_or, length-map, get_or-map}
use lib.Seq.{ext_get_or}
use lib.Ieee.{nan}
use Rattle.lists.specs.Tab.{tab}
use Rattle.lists.specs.Buffer.{placed}
use Rattle.lists.proofs.Tab.{get_d_any, length-tab, get_d-tab}
use Rattle.lists.proofs.Buffer.{placed_at}
use Rattle.corner_list.specs.declared.Corner.{Corner}
use Rattle.corner_list.specs.CornerList.{Slices, x_of, y_of, strength_of, neighbours_of, places_of, corner_at, placed_corners}

module _ (held : ℕ) (cs : List Corner) (b : Slices) (h : held ≤ places_of b) where
  field-placed : {A : Type 0} (z : A) (g : Corner → A) (s : List A) (i : ℕ) (d : Corner) → held ≤ length s → i < length cs
      → get_or (placed held (map g cs) s) (held + i) z ≡ g (get_or cs i d)
  field-placed z g s i d q l =
      let k : i < length (map g cs) = rw (length-map cs g) l in
      placed_at held (map g cs) s i z q k ∙ get_d_any (map g cs) i z (g d) k ∙ get_or-map g cs i d

  pub corner-placed : (i : ℕ) (d : Corner) → i < length cs → corner_at (placed_corners held cs b) (held + i) ≡ get_or cs i d
  corner-placed i d l =
      rw (
        field-placed nan x_of b.xs i d (omega arith) l,
        field-placed nan y_of b.ys i d (omega arith) l,
        field-placed nan strength_of b.strengths i d (omega arith) l,
        field-placed 0 neighbours_of b.neighbours i d (omega arith) l,
      )

  -- all of them
  pub corners-placed : (n : ℕ) → n ≡ length cs → tab n (λ i. corner_at (placed_corners held cs b) (held + i)) ≡ cs
  corners-placed n e =
      let read : ℕ → Corner = λ i. corner_at (placed_corners held cs b) (held + i) in
      let z = corner_at b 0 in
      ext_get_or z (tab n read) cs (length-tab n read ∙ e)
      (λ i l.
      let k : i < n = rw (length-tab n read) at l in
      get_d-tab n read i z k ∙ corner-placed i z (omega arith))
