-- Two choices that are alike on each map that the second's pass looks at give one pass. Assumes nothing.
use Prim.Native.Nat.{ℕ, zero, suc, ◌+◌}
use mathlib.Core.Path.{◌≡◌, refl, ap, ap₂, ◌∙◌}
use mathlib.Core.List.{List, [], ◌∷◌}
use Rattle.lists.specs.Places.{flat_map, sum_of, All}
use Rattle.lists.proofs.Members.{all_map, flat_map-alike, all-unflat}
use Rattle.response.specs.Patch.{View}
use Rattle.corner_list.specs.declared.Corner.{Corner}
use Rattle.frame_params.specs.declared.FrameParams.{FrameParams}
use Rattle.patch_corners.specs.OneMap.{Choice, computed_choice, exact_choice, corners_in, ties_on}
use Rattle.frame_pass.specs.Pass.{levels_in, level_view, seed_patch, corners_on, corners_about, seeds_of, found_of, ties_about, ties_found}
use Rattle.frame_pass.specs.Pass.{frame_pass}
use Rattle.frame_pass.specs.Pass.{maps_of, looked_at}

-- sums of two numbers of each member, alike for each
sum_alike : {A : Type 0} (X Y : A → ℕ) (l : List A) → All (λ a. X a ≡ Y a) l → sum_of X l ≡ sum_of Y l
sum_alike X Y [] e = refl
sum_alike X Y (a ∷ l) e = ap₂ (λ (m n : ℕ). m + n) e.0 (sum_alike X Y l e.1)

module _ (p : FrameParams) (img : List ℕ) (w h : ℕ) (a b : Choice) where
  abbrev Alike : View → Type 0
  Alike v = a v ≡ b v

  map_same : (v : View) → a v ≡ b v → corners_in p a v ≡ corners_in p b v
  unfolding corners_in
  map_same v e = rw e

  patch-same : (v : View) → a v ≡ b v → corners_on p img w h a v ≡ corners_on p img w h b v
  patch-same v e = rw (map_same v e)

  about-same : (k : ℕ) (s : Corner) → All Alike (seed_patch p img w h k s) → corners_about p img w h a k s ≡ corners_about p img w h b k s
  about-same k s e =
      flat_map-alike (corners_on p img w h a) (corners_on p img w h b) (seed_patch p img w h k s)
      (all_map Alike (λ v. corners_on p img w h a v ≡ corners_on p img w h b v) patch-same (seed_patch p img w h k s) e)

  ties-same : (v : View) → a v ≡ b v → ties_on p a v ≡ ties_on p b v
  ties-same v e = rw e

  tied-same : (k : ℕ) (s : Corner) → All Alike (seed_patch p img w h k s) → ties_about p img w h a k s ≡ ties_about p img w h b k s
  tied-same k s e =
      sum_alike (ties_on p a) (ties_on p b) (seed_patch p img w h k s)
      (all_map Alike (λ v. ties_on p a v ≡ ties_on p b v) ties-same (seed_patch p img w h k s) e)

  -- ---- by the number of levels
  seeds-same : (n : ℕ) → All Alike (maps_of p img w h b n) → seeds_of p img w h a n ≡ seeds_of p img w h b n
  unfolding seeds_of maps_of
  seeds-same zero e = refl
  seeds-same (suc zero) e = refl
  seeds-same (suc (suc k)) e = map_same (level_view p img w h (suc k)) e.0

  found-same : (n : ℕ) → All Alike (maps_of p img w h b n) → found_of p img w h a n ≡ found_of p img w h b n
  unfolding found_of maps_of
  found-same zero e = refl
  found-same (suc zero) e = map_same (level_view p img w h 0) e.0
  found-same (suc (suc k)) e =
      let seeds = seeds_of p img w h b (suc (suc k)) in
      ap (flat_map (corners_about p img w h a (suc k))) (seeds-same (suc (suc k)) e)
      ∙ flat_map-alike (corners_about p img w h a (suc k)) (corners_about p img w h b (suc k)) seeds
      (all_map (λ s. All Alike (seed_patch p img w h (suc k) s))
      (λ s. corners_about p img w h a (suc k) s ≡ corners_about p img w h b (suc k) s)
      (about-same (suc k)) seeds
      (all-unflat Alike (seed_patch p img w h (suc k)) seeds e.1))

  sum_same : (n : ℕ) → All Alike (maps_of p img w h b n) → ties_found p img w h a n ≡ ties_found p img w h b n
  unfolding ties_found maps_of
  sum_same zero e = refl
  sum_same (suc zero) e = ties-same (level_view p img w h 0) e.0
  sum_same (suc (suc k)) e =
      let seeds = seeds_of p img w h b (suc (suc k)) in
      ap (sum_of (ties_about p img w h a (suc k))) (seeds-same (suc (suc k)) e)
      ∙ sum_alike (ties_about p img w h a (suc k)) (ties_about p img w h b (suc k)) seeds
      (all_map (λ s. All Alike (seed_patch p img w h (suc k) s)) (λ s. ties_about p img w h a (suc k) s ≡ ties_about p img w h b (suc k) s)
      (tied-same (suc k)) seeds
      (all-unflat Alike (seed_patch p img w h (suc k)) seeds e.1))

  pub choices-same : All (λ (v : View). a v ≡ b v) (looked_at p img w h b) → frame_pass p img w h a ≡ frame_pass p img w h b
  unfolding frame_pass looked_at
  choices-same e = let n = levels_in p img w h in rw (seeds-same n e, found-same n e, sum_same n e)

-- the two choices of peaks
pub pass_same : (p : FrameParams) (img : List ℕ) (w h : ℕ)
    → All (λ (v : View). computed_choice p v ≡ exact_choice p v) (looked_at p img w h (exact_choice p))
    → frame_pass p img w h (computed_choice p) ≡ frame_pass p img w h (exact_choice p)
pass_same p img w h e = choices-same p img w h (computed_choice p) (exact_choice p) e
