-- The two merges on one buffer: the same number always, and, at multiples of 1/64 with a radius that is a power of two, the same answer and
-- buffer. Assumes nothing.
use Prim.Native.Nat.{ℕ, min, zero, suc}
use native.Mathlib.Omega.{arith}
use mathlib.Core.Path.{◌≡◌, refl, sym, ap, ◌∙◌}
use mathlib.Core.Bool.{Bool, true, false}
use mathlib.Core.List.{List}
use lib.ListN.{length}
use lib.Ieee.{Float}
use Rattle.std.specs.Prelude.{Result}
use Rattle.lists.specs.declared.refusal.Refusal.{Refusal}
use Rattle.lists.specs.Refusals.{number_of, judged, result_or}
use Rattle.lists.specs.Places.{All}
use Rattle.lists.proofs.Members.{all_map, all_both}
use Rattle.corner_list.specs.declared.Corner.{Corner}
use Rattle.corner_list.specs.CornerList.{Slices, places_of, corners_of, front_corners}
use Rattle.merge_radius.specs.MergeRadius.{is_off}
use Rattle.merge_refusal.specs.Refusals.{refusal_of}
use Rattle.merge.specs.Merge.{result_of, Leaves, Merges}
use Rattle.merge_refusal.proofs.Judged.{judged-fits, judged-allowed}
use Rattle.merge_naive.specs.MergeNaive.{naive_of, MergesNaive}
use Rattle.merge_alike.specs.Alike.{IsPower, OnMultiples}
use Rattle.merge_alike.proofs.Multiples.{placed}
use Rattle.merge_alike.proofs.Lists.{merged-alike}

-- ---- two calls with one number, that leave the same where it is 0
module _ (k : ℕ) (left left' : List Corner) (b : Slices) (r s : Result ℕ Refusal) (b₁ b₂ : Slices) (p : Leaves k left b r b₁)
    (q : Leaves k left' b s b₂) where
  leaves_alike : (k ≡ 0 → left ≡ left') → (r ≡ s) × (b₁ ≡ b₂)
  leaves_alike h = (
    p.answer ∙ by_number k (λ m l. judged m (length l)) (λ m l l'. refl) h ∙ sym q.answer,
    p.buffer ∙ by_number k (λ m l. result_or m (front_corners l b) b) (λ m l l'. refl) h ∙ sym q.buffer,
  )
    where
      -- where refused, whatever would be left
      by_number : {A : Type 0} (k : ℕ) (f : ℕ → List Corner → A) → ((m : ℕ) (l l' : List Corner) → f (suc m) l ≡ f (suc m) l')
          → (k ≡ 0 → left ≡ left')
          → f k left ≡ f k left'
      by_number zero f z h = ap (f zero) (h refl)
      by_number (suc m) f z h = z m left left'

module _ (radius : Float) (count : ℕ) (b : Slices) where
  abbrev number : ℕ
  number = refusal_of radius (places_of b) count b

  -- the corners that are judged, and those that are merged
  left-alike : IsPower radius → All OnMultiples (corners_of b (min count (places_of b))) → number ≡ 0
      → naive_of radius (corners_of b count) ≡ result_of radius (corners_of b count)
  unfolding naive_of result_of
  left-alike power on e = pick (is_off radius) refl
    where
      cs : List Corner
      cs = corners_of b count

      given : All OnMultiples cs
      given = let all : min count (places_of b) ≡ count = omega (arith, judged-fits radius (places_of b) count b e) in rw all at on

      pick : (t : Bool) → is_off radius ≡ t → naive_of radius cs ≡ result_of radius cs
      pick true off = rw off
      pick false off =
          let inside = (judged-allowed radius (places_of b) count b e off).1 in
          rw off (merged-alike radius power cs (all_map _ _ (λ c t. placed c t.0 t.1) cs (all_both _ _ cs given inside)))

  module _ (r s : Result ℕ Refusal) (b₁ b₂ : Slices) (p : MergesNaive radius count b r b₁)
      (q : Merges radius (places_of b) count b s b₂) where
    pub numbers-alike : number_of r ≡ number_of s
    numbers-alike = p.number ∙ sym q.number

    pub merges-alike : IsPower radius → All OnMultiples (corners_of b (min count (places_of b))) → (r ≡ s) × (b₁ ≡ b₂)
    merges-alike power on =
        leaves_alike number (naive_of radius (corners_of b count)) (result_of radius (corners_of b count)) b r s b₁ b₂ p q
        (left-alike power on)
