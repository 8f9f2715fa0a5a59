-- What callers use of merging: how long the list is that is left, what its corners are, and the answer where nothing is refused. Assumes
-- nothing.
use Prim.Native.Nat.{ℕ, ◌+◌, ◌≤◌}
use native.Mathlib.Omega.{arith}
use mathlib.Core.Path.{◌≡◌}
use mathlib.Core.Bool.{Bool, true, false, cond}
use mathlib.Core.List.{List, [], ◌∷◌}
use lib.ListN.{length}
use lib.Ieee.{Float, lt}
use Rattle.std.specs.Prelude.{Result, Ok}
use Rattle.lists.specs.declared.refusal.Refusal.{Refusal}
use Rattle.lists.specs.Places.{All}
use Rattle.corner_list.specs.declared.Corner.{Corner}
use Rattle.corner_list.specs.CornerList.{Slices, corners_of, front_corners}
use Rattle.merge_radius.specs.MergeRadius.{is_off}
use Rattle.merge_refusal.specs.Refusals.{refusal_of}
use Rattle.merge_grid.specs.Grid.{grid_of, joins}
use Rattle.merge_settle.specs.Settle.{stronger, settle, merged}
use Rattle.merge.specs.Merge.{result_of, Leaves, Merges}
use Rattle.merge_settle.proofs.Settle.{settle-one}

-- ---- no corner is added
merged-length : (j : Corner → Corner → Bool) (kept cs : List Corner) → length (merged j kept cs) ≤ length kept + length cs
merged-length j kept [] = omega arith
merged-length j kept (c ∷ cs) = omega (arith, settle-one j c kept, merged-length j (settle j kept c) cs)

pub result-length : (radius : Float) (cs : List Corner) → length (result_of radius cs) ≤ length cs
unfolding result_of
result-length radius cs = pick (is_off radius) (omega (arith, merged-length (joins (grid_of radius cs)) [] cs))
  where
    pick : (b : Bool) → length (merged (joins (grid_of radius cs)) [] cs) ≤ length cs
        → length (cond b cs (merged (joins (grid_of radius cs)) [] cs)) ≤ length cs
    pick true h = omega arith
    pick false h = h

-- ---- each corner is one of those given: what holds of each of these holds of each that is left
module _ (P : Corner → Type 0) where
  one_of : (c o : Corner) → P c → P o → P (stronger c o)
  one_of c o pc po = pick (lt o.strength c.strength)
    where
      pick : (b : Bool) → P (cond b c o)
      pick true = pc
      pick false = po

  pub settle-all : (j : Corner → Corner → Bool) (kept : List Corner) (c : Corner) → P c → All P kept → All P (settle j kept c)
  settle-all j [] c pc h = (pc, tt)
  settle-all j (o ∷ kept) c pc h = pick (j c o) (settle-all j kept c pc h.1)
    where
      pick : (b : Bool) → All P (settle j kept c) → All P (cond b (stronger c o ∷ kept) (o ∷ settle j kept c))
      pick true r = (one_of c o pc h.0, h.1)
      pick false r = (h.0, r)

  merged-all : (j : Corner → Corner → Bool) (kept cs : List Corner) → All P kept → All P cs → All P (merged j kept cs)
  merged-all j kept [] h k = h
  merged-all j kept (c ∷ cs) h k = merged-all j (settle j kept c) cs (settle-all j kept c k.0 h) k.1

  pub result-all : (radius : Float) (cs : List Corner) → All P cs → All P (result_of radius cs)
  unfolding result_of
  result-all radius cs h = pick (is_off radius) (merged-all (joins (grid_of radius cs)) [] cs tt h)
    where
      pick : (b : Bool) → All P (merged (joins (grid_of radius cs)) [] cs) → All P (cond b cs (merged (joins (grid_of radius cs)) [] cs))
      pick true r = h
      pick false r = r

-- ---- where nothing is refused (proofs/Judged.antt) the answer is the number of corners left, which stand first in the buffer
pub leaves-done : (number : ℕ) (left : List Corner) (b : Slices) (answer : Result ℕ Refusal) (b' : Slices) → number ≡ 0
    → Leaves number left b answer b'
    → (answer ≡ Ok (length left)) × (b' ≡ front_corners left b)
leaves-done number left b answer b' none m = (rw none at m.answer, rw none at m.buffer)

pub merges-done : (radius : Float) (places count : ℕ) (b b' : Slices) (answer : Result ℕ Refusal) (cs : List Corner)
    → corners_of b count ≡ cs → refusal_of radius places count b ≡ 0 → Merges radius places count b answer b'
    → (answer ≡ Ok (length (result_of radius cs))) × (b' ≡ front_corners (result_of radius cs) b)
merges-done radius places count b b' answer cs is none m =
    rw is at (leaves-done (refusal_of radius places count b) (result_of radius (corners_of b count)) b answer b' none m)
