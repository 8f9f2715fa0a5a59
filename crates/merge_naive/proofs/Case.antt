-- The case by both merges: of a buffer that has its three corners first, two are left by distance alone, and three by cells. Assumes
-- nothing.
use Prim.Native.Nat.{ℕ, ◌≤◌}
use mathlib.Core.Path.{◌≡◌, refl, sym, ap, ◌∙◌}
use mathlib.Core.Bool.{true, false}
use mathlib.Core.List.{List}
use lib.Ieee.{lt, le}
use lib.ListN.{length}
use Rattle.lists.specs.Places.{All}
use Rattle.corner_list.specs.declared.Corner.{Corner}
use Rattle.corner_list.specs.CornerList.{Slices, is_inside, places_of, corners_of}
use Rattle.corner_list.proofs.Corners.{corners-front}
use Rattle.merge_radius.specs.MergeRadius.{is_off, is_sized}
use Rattle.std.specs.Prelude.{Result, Ok}
use Rattle.lists.specs.declared.refusal.Refusal.{Refusal}
use Rattle.merge_refusal.specs.Refusals.{refusal_of}
use Rattle.merge.specs.Merge.{result_of, Leaves, Merges}
use Rattle.merge_refusal.proofs.Judged.{judged-none-on}
use Rattle.merge.proofs.Result.{leaves-done}
use Rattle.merge.proofs.Cases.{all_stay, two-by-distance}
use Rattle.merge_naive.specs.MergeNaive.{naive_of, MergesNaive}
use Rattle.merge_naive.specs.Case.{one, three, two}
use Rattle.merge_naive.proofs.Naive.{naive-on}

-- ---- the lists: radius 1 is on and in range, and so are the corners
on : is_off one ≡ false
unfolding is_off le
on = refl

in-range : is_sized one ≡ true
unfolding is_sized le
in-range = refl

inside : All (λ c. is_inside c ≡ true) three
unfolding is_inside le
inside = (refl, (refl, (refl, tt)))

no-stronger : lt one one ≡ false
unfolding lt
no-stronger = refl

three-stay : result_of one three ≡ three
three-stay = all_stay one one one 0 0 0

two-stay : naive_of one three ≡ two
two-stay = sym (naive-on one three on) ∙ two-by-distance one one one 0 0 0 false no-stronger

-- ---- the calls
module _ (b : Slices) (fits : 3 ≤ places_of b) (is : corners_of b 3 ≡ three) where
  none : refusal_of one (places_of b) 3 b ≡ 0
  none = judged-none-on one (places_of b) 3 b fits on in-range (rw is inside)

  left_is : (left due : List Corner) (answer : Result ℕ Refusal) (b' : Slices) → left ≡ due
      → Leaves (refusal_of one (places_of b) 3 b) left b answer b'
      → (answer ≡ Ok (length due)) × (corners_of b' (length due) ≡ due)
  left_is left due answer b' e m =
      let done = leaves-done _ left b answer b' none m in (
        done.0 ∙ ap (λ (l : List Corner). Ok (length l)) e,
        ap (λ (d : Slices). corners_of d (length due)) done.1
            ∙ corners-front left b (length due) (sym (ap length e)) ∙ e,
      )

  pub by-distance : (answer : Result ℕ Refusal) (b' : Slices) → MergesNaive one 3 b answer b' → (answer ≡ Ok 2) × (corners_of b' 2 ≡ two)
  by-distance answer b' m = left_is (naive_of one (corners_of b 3)) two answer b' (ap (naive_of one) is ∙ two-stay) m

  pub by-cells : (answer : Result ℕ Refusal) (b' : Slices) → Merges one (places_of b) 3 b answer b'
      → (answer ≡ Ok 3) × (corners_of b' 3 ≡ three)
  by-cells answer b' m = left_is (result_of one (corners_of b 3)) three answer b' (ap (result_of one) is ∙ three-stay) m
