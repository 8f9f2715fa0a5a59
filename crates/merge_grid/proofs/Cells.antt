-- The least of a list's coordinates, and the grid made of it. Assumes nothing.
use Prim.Native.Nat.{ℕ, zero, suc, ◌+◌, ◌<◌}
use native.Mathlib.Decide.{dec_lt}
use native.Mathlib.Omega.{arith}
use mathlib.Core.Path.{◌≡◌, refl, sym, ap, ◌∙◌}
use mathlib.Core.Bool.{false, cond}
use mathlib.Core.List.{List, [], ◌∷◌, ◌++◌}
use lib.ListN.{length, take, get_or, get_or-eq_default}
use lib.Seq.{take-suc, take_all}
use Rattle.std.proofs.lemmas.List.{take_more}
use lib.IntN.{pos}
use lib.Ieee.{Float, nan, inf, fin, binary32, lt, div}
use Rattle.lists.specs.Tab.{tab}
use Rattle.lists.proofs.Tab.{map-tab}
use Rattle.corner_list.specs.CornerList.{Slices, x_of, y_of, corner_at, corners_of}
use Rattle.merge_grid.specs.Grid.{squared, least_from, grid_of}

-- ---- the least of a list

least-append : (m : Float) (s t : List Float) → least_from m (s ++ t) ≡ least_from (least_from m s) t
least-append m [] t = refl
least-append m (v ∷ s) t = least-append (cond (lt v m) v m) s t

pub least_next : (m : Float) (s : List Float) (i : ℕ) → i < length s → least_from m (take (i + 1) s)
    ≡ cond (lt (get_or s i nan) (least_from m (take i s))) (get_or s i nan) (least_from m (take i s))
least_next m s i h = rw (take_more s i nan h) (least-append m (take i s) (get_or s i nan ∷ []))

-- the first n numbers of a list; past its end stand NaNs, which are never the least
abbrev pub numbers : List Float → ℕ → List Float
numbers vs n = tab n (λ i. get_or vs i nan)

module _ (vs : List Float) (m : Float) where
  one-more : (n : ℕ) → least_from m (take (suc n) vs) ≡ least_from (least_from m (take n vs)) (get_or vs n nan ∷ [])
  unfolding lt
  one-more n =
      elim (dec_lt n (length vs)) [
        | yes h ↦ rw (take-suc vs n nan h) (least-append m (take n vs) (get_or vs n nan ∷ []))
        | no h ↦ rw (take_all (suc n) vs (omega arith), take_all n vs (omega arith), get_or-eq_default vs nan {n = n} (omega arith)) refl
      ]

  pub least-numbers : (n : ℕ) → least_from m (take n vs) ≡ least_from m (numbers vs n)
  unfolding tab
  least-numbers zero = refl
  least-numbers (suc n) =
      one-more n ∙ ap (λ (u : Float). least_from u (get_or vs n nan ∷ [])) (least-numbers n)
      ∙ sym (least-append m (numbers vs n) (get_or vs n nan ∷ []))

-- ---- the grid, by its fields
pub grid-is : (b : Slices) (n : ℕ) (radius left top : Float) → left ≡ least_from (inf false) (take n b.xs)
    → top ≡ least_from (inf false) (take n b.ys)
    → record { left = left; top = top; inverse = div binary32 (fin false 1 (pos 0)) radius; square = squared radius }
    ≡ grid_of radius (corners_of b n)
unfolding grid_of
grid-is b n radius left top p q =
    rw (
      p,
      q,
      least-numbers b.xs (inf false) n,
      least-numbers b.ys (inf false) n,
      map-tab x_of (corner_at b) n,
      map-tab y_of (corner_at b) n,
    )
