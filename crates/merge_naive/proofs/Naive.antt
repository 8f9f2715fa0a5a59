-- What merging by distance alone leaves of a list: all of it, as it came, or what merging leaves; and the call with a radius that is off.
-- Assumes nothing.
use Prim.Native.Nat.{ℕ, ◌≤◌}
use mathlib.Core.Path.{◌≡◌, sym, ap, ◌∙◌, subst}
use mathlib.Core.Bool.{true, false}
use mathlib.Core.List.{List, []}
use lib.ListN.{length}
use lib.Ieee.{Float}
use Rattle.corner_list.specs.declared.Corner.{Corner}
use Rattle.corner_list.specs.CornerList.{Slices, places_of, corner_at, corners_of, front_corners}
use Rattle.corner_list.proofs.Corners.{corners-length, corners-same}
use Rattle.merge_radius.specs.MergeRadius.{is_off}
use Rattle.std.specs.Prelude.{Option, Result, Ok}
use Rattle.lists.specs.declared.refusal.Refusal.{Refusal}
use Rattle.merge_grid.specs.declared.Position.{Position}
use Rattle.merge_grid.specs.Grid.{position_of, position_at, squared, near}
use Rattle.merge_settle.specs.Internal.{FirstPasses}
use Rattle.merge_settle.specs.Settle.{merged}
use Rattle.merge_settle.specs.Settle.{Left}
use Rattle.merge_refusal.proofs.Judged.{judged-none-off}
use Rattle.merge.proofs.Answer.{left-all}
use Rattle.merge.proofs.Result.{leaves-done}
use Rattle.merge_naive.specs.MergeNaive.{near_by, naive_of, MergesNaive}

module _ (radius : Float) where
  pub naive_off : (cs : List Corner) → is_off radius ≡ true → cs ≡ naive_of radius cs
  unfolding naive_of
  naive_off cs e = rw e

  pub naive-on : (cs : List Corner) → is_off radius ≡ false → merged (near_by (squared radius)) [] cs ≡ naive_of radius cs
  unfolding naive_of
  naive-on cs e = rw e

  pub left-off : (b : Slices) (n : ℕ) → is_off radius ≡ true → n ≤ places_of b → Left (naive_of radius (corners_of b n)) b n b
  left-off b n e h = subst (λ (cs : List Corner). Left cs b n b) (naive_off (corners_of b n) e) (left-all b n h)

  pub left-on : (b : Slices) (n k : ℕ) (b' : Slices) → is_off radius ≡ false
      → Left (merged (near_by (squared radius)) [] (corners_of b n)) b k b'
      → Left (naive_of radius (corners_of b n)) b k b'
  left-on b n k b' e l = subst (λ (cs : List Corner). Left cs b k b') (naive-on (corners_of b n) e) l

  -- ---- the call with a radius that is off, where the buffer has the list
  pub off-returns : (b : Slices) (n : ℕ) → is_off radius ≡ true → n ≤ places_of b → (answer : Result ℕ Refusal) (b' : Slices)
      → MergesNaive radius n b answer b'
      → (answer ≡ Ok n) × (b' ≡ b)
  off-returns b n e h answer b' m =
      let same = sym (naive_off (corners_of b n) e) in
      let done = leaves-done _ (naive_of radius (corners_of b n)) b answer b' (judged-none-off radius (places_of b) n b h e) m in (
        done.0 ∙ ap (λ (l : List Corner). Ok (length l)) same ∙ ap Ok (corners-length b n),
        done.1 ∙ ap (λ (l : List Corner). front_corners l b) same ∙ sym (corners-same b n h),
      )

-- ---- the first corner that is near another, seen in a view
pub found-viewed : (square : Float) (k : ℕ) (joined : Option ℕ) (p : Position) (c : Corner) (s s' : Slices) → s ≡ s'
    → p ≡ position_of c → FirstPasses (λ i. near square p (position_at s.xs s.ys i)) k joined
    → FirstPasses (λ m. near_by square c (corner_at s' m)) k joined
found-viewed square k joined p c s s' e q f = rw (e, q) at f
