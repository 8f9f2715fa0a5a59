-- The answers and refusals of merging in one slice are those of merging in four that hold the same corners, if the scratch is long enough.
-- Assumes nothing.
use Prim.Native.Nat.{ℕ, zero, suc, ◌<◌, ◌≤◌, min}
use native.Mathlib.Omega.{arith}
use mathlib.Core.Path.{◌≡◌, refl, sym, ap, ◌∙◌}
use mathlib.Core.List.{List, [], ◌∷◌, map}
use lib.ListN.{length, take, get_or, length-map, get_or-map}
use lib.Seq.{length-take-le, ext_get_or, get_or-take}
use lib.Ieee.{Float}
use Rattle.lists.specs.Buffer.{front}
use Rattle.std.specs.Prelude.{Result, Ok}
use Rattle.lists.specs.declared.refusal.Refusal.{Refusal}
use Rattle.lists.specs.Refusals.{values_unless, judged, result_or}
use Rattle.lists.proofs.Buffer.{map-front}
use Rattle.corner_list.specs.declared.Corner.{Corner}
use Rattle.corner_list.specs.CornerList.{Slices, slices, x_of, y_of, strength_of, neighbours_of, places_of, corner_at, corners_of}
use Rattle.corner_list.specs.CornerList.{front_corners}
use Rattle.corner_list.proofs.Corners.{slices-alike, corners-length, corners-at}
use Rattle.merge.specs.Merge.{result_of, refusal_of, Merges}
use Rattle.merge_refusal.proofs.Judged.{judged-fits}
use Rattle.merge_slice.specs.MergeSlice.{refusal_for, MergesSlice}
use Rattle.std.proofs.lemmas.List.{take_min}
use Rattle.merge_slice.proofs.Turns.{nowhere}

-- ---- the corners of a slice as four slices hold them: the first n, those that stand first, and how many there are
abbrev pub columns : List Corner → Slices
columns cs = slices (map x_of cs) (map y_of cs) (map strength_of cs) (map neighbours_of cs)

columns-corners : (cs : List Corner) (n : ℕ) → n ≤ length cs → corners_of (columns cs) n ≡ take n cs
columns-corners cs n h =
    ext_get_or nowhere (corners_of (columns cs) n) (take n cs) (corners-length (columns cs) n ∙ sym (length-take-le n cs h))
    (λ i l.
    let k : i < n = rw (corners-length (columns cs) n) at l in
    corners-at (columns cs) n i nowhere k ∙ here i ∙ sym (get_or-take n cs i nowhere k))
  where
    here : (i : ℕ) → corner_at (columns cs) i ≡ get_or cs i nowhere
    here i =
        rw (
          get_or-map x_of cs i nowhere,
          get_or-map y_of cs i nowhere,
          get_or-map strength_of cs i nowhere,
          get_or-map neighbours_of cs i nowhere,
        )

columns-front : (us cs : List Corner) → front_corners us (columns cs) ≡ columns (front us cs)
columns-front us cs =
    slices-alike (map-front x_of us cs) (map-front y_of us cs) (map-front strength_of us cs) (map-front neighbours_of us cs)

columns-places : (cs : List Corner) → places_of (columns cs) ≡ length cs
columns-places cs = rw (length-map cs x_of, length-map cs y_of, length-map cs strength_of, length-map cs neighbours_of) (omega arith)

all-shared : (n places : ℕ) → n ≤ places → min n places ≡ n
all-shared n places h = omega arith

module _ (radius : Float) (count : ℕ) (cs : List Corner) where
  abbrev number : ℕ
  number = refusal_of radius (places_of (columns cs)) count (columns cs)

  -- what is left, of the slice and of four
  abbrev left : List Corner
  left = result_of radius (take count cs)

  abbrev left-four : List Corner
  left-four = result_of radius (corners_of (columns cs) count)

  -- the corners that are judged
  same-judged : corners_of (columns cs) (min count (places_of (columns cs))) ≡ take count cs
  same-judged =
      columns-corners cs (min count (places_of (columns cs))) (omega (arith, columns-places cs))
      ∙ ap (λ (k : ℕ). take (min count k) cs) (columns-places cs)
      ∙ take_min count cs

  same_number : (scratch : Slices) → length cs ≤ places_of scratch → refusal_for radius count cs scratch ≡ number
  unfolding refusal_for refusal_of
  same_number scratch h =
      rw (same-judged, all-shared (length cs) (places_of scratch) h ∙ sym (columns-places cs))

  -- where nothing is refused, the first corners of the slice
  same-result : number ≡ 0 → left ≡ left-four
  same-result e =
      ap (result_of radius) (sym (columns-corners cs count
      (omega (arith, columns-places cs, judged-fits radius (places_of (columns cs)) count (columns cs) e))))

  same_answer : (k : ℕ) → number ≡ k → judged k (length left) ≡ judged k (length left-four)
  same_answer zero e = ap (λ (l : List Corner). Ok (length l)) (same-result e)
  same_answer (suc k) e = refl

  same-values : (k : ℕ) → number ≡ k → values_unless k (length left ∷ []) ≡ values_unless k (length left-four ∷ [])
  same-values zero e = ap (λ (l : List Corner). length l ∷ []) (same-result e)
  same-values (suc k) e = refl

  same-buffer : (k : ℕ) → number ≡ k
      → columns (result_or k (front left cs) cs) ≡ result_or k (front_corners left-four (columns cs)) (columns cs)
  same-buffer zero e = sym (columns-front left cs) ∙ ap (λ (l : List Corner). front_corners l (columns cs)) (same-result e)
  same-buffer (suc k) e = refl

  pub as_core : (scratch scratch' : Slices) (answer : Result ℕ Refusal) (cs' : List Corner) → length cs ≤ places_of scratch
      → MergesSlice radius count cs scratch answer cs' scratch'
      → Merges radius (places_of (columns cs)) count (columns cs) answer (columns cs')
  as_core scratch scratch' answer cs' h m =
      let same = same_number scratch h in record {
        answer = m.answer ∙ ap (λ (k : ℕ). judged k (length left)) same ∙ same_answer number refl;
        number = m.number ∙ same;
        values = m.values ∙ ap (λ (k : ℕ). values_unless k (length left ∷ [])) same ∙ same-values number refl;
        buffer = ap columns (m.corners ∙ ap (λ (k : ℕ). result_or k (front left cs) cs) same) ∙ same-buffer number refl;
      }
