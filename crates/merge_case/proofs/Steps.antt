-- The case in a buffer: its corners put there, and what each merge leaves. Assumes nothing.
use Rattle.std.proofs.Common.{ℕ, ◌≤◌, ◌≡◌, refl, ap, ◌∙◌, Bool, true, false, cond, [], ◌∷◌, arith}
use Rattle.corner_list.specs.declared.Corner.{Corner}
use Rattle.corner_list.specs.CornerList.{Slices, places_of, corners_of, with_corner, front_corners}
use Rattle.corner_list.proofs.Corners.{same-places, corners-front, corners-next, front-xs, front-ys, front-strengths, front-neighbours}
use Rattle.std.specs.Prelude.{Result}
use Rattle.std.specs.Result.{result_unwrap_or}
use Rattle.lists.specs.declared.refusal.Refusal.{Refusal}
use Rattle.merge.specs.Merge.{Merges}
use Rattle.merge_naive.specs.MergeNaive.{MergesNaive}
use Rattle.merge_naive.specs.Case.{one, first, second, third, three, two}
use Rattle.merge_naive.proofs.Case.{by-distance, by-cells}

-- ---- the three corners, one behind the other, in a buffer with the places that it had
module _ (b b₁ b₂ b₃ : Slices) (c d e : Corner) (fits : 3 ≤ places_of b) (is-first : c ≡ first) (is-second : d ≡ second)
    (is-third : e ≡ third) (put : b₁ ≡ with_corner 0 c b) (put' : b₂ ≡ with_corner 1 d b₁) (put'' : b₃ ≡ with_corner 2 e b₂) where
  stand : b₃ ≡ front_corners three b
  stand =
      put'' ∙ ap (λ (k : Corner). with_corner 2 k b₂) is-third ∙ ap (with_corner 2 third)
      (put' ∙ ap (λ (k : Corner). with_corner 1 k b₁) is-second ∙ ap (with_corner 1 second)
      (put ∙ ap (λ (k : Corner). with_corner 0 k b) is-first ∙ corners-next [] b 0 first refl (omega arith))
      ∙ corners-next (first ∷ []) b 1 second refl (omega arith))
      ∙ corners-next (first ∷ second ∷ []) b 2 third refl (omega arith)

  pub three-put : corners_of b₃ 3 ≡ three
  three-put = rw stand (corners-front three b 3 refl)

  pub three-fit : 3 ≤ places_of b₃
  three-fit =
      let same = same-places (front_corners three b) b (front-xs three b 3 refl fits) (front-ys three b 3 refl fits)
      (front-strengths three b 3 refl fits) (front-neighbours three b 3 refl fits) in
      rw (stand, same) fits

-- ---- what is left of them
module _ (b : Slices) (fits : 3 ≤ places_of b) (is : corners_of b 3 ≡ three) (cells : Bool) (answer : Result ℕ Refusal) (r : ℕ)
    (kept : r ≡ result_unwrap_or answer 0) (b' : Slices) where
  pub left-by-cells : cells ≡ true → Merges one (places_of b) 3 b answer b' → corners_of b' r ≡ cond cells three two
  left-by-cells e m = let done = by-cells b fits is answer b' m in rw (kept, done.0, e) done.1

  pub left-by-distance : cells ≡ false → MergesNaive one 3 b answer b' → corners_of b' r ≡ cond cells three two
  left-by-distance e m = let done = by-distance b fits is answer b' m in rw (kept, done.0, e) done.1
