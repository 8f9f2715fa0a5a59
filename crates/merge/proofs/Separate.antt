-- Merging apart: its number by that of the original's own merge, and that the two leave the same list. Assumes nothing.
use Prim.Native.Nat.{ℕ, zero, suc, ◌<◌, ◌≤◌, min}
use native.Mathlib.Omega.{arith}
use mathlib.Core.Path.{◌≡◌, refl, sym, ap, ◌∙◌}
use mathlib.Core.Bool.{Bool, true, false, not, cond, ◌&&◌, ◌||◌}
use mathlib.Core.List.{List, [], ◌∷◌}
use lib.ListN.{length}
use lib.Dec.{ltb}
use borrow.Author.Tests.{lt-ltb, le-ltb, ltb-false}
use lib.Ieee.{Float}
use Rattle.std.specs.Prelude.{Result, Ok, Err}
use Rattle.lists.specs.declared.refusal.Refusal.{Refusal}
use Rattle.lists.specs.Places.{any}
use Rattle.lists.specs.Refusals.{lowest, number_of, judged, verdict}
use Rattle.lists.proofs.Judged.{Known, judged-ok, refused-some}
use Rattle.corner_list.specs.declared.Corner.{Corner}
use Rattle.corner_list.specs.CornerList.{Slices, places_of, corner_at, corners_of}
use Rattle.corner_list.proofs.Corners.{corners-front, corners-behind}
use Rattle.merge_radius.specs.MergeRadius.{is_off, radius_outside}
use Rattle.merge_refusal.specs.Refusals.{corner_outside, refusal_of}
use Rattle.merge_refusal.proofs.Judged.{judged-fits}
use Rattle.merge.specs.Merge.{result_of, Merges}
use Rattle.merge.specs.Apart.{refusal_apart, or_else, MergedApart}
use Rattle.merge.proofs.Answer.{conditions-known}

-- ---- the number

-- two tables that differ in the last condition: one more reason for it
more-reasons : (four five ten more : Bool)
    → lowest ((four, 4) ∷ (five, 5) ∷ (ten || more, 10) ∷ []) ≡ or_else (lowest ((four, 4) ∷ (five, 5) ∷ (ten, 10) ∷ [])) (cond more 10 0)
more-reasons true five ten more = refl
more-reasons false true ten more = refl
more-reasons false false true more = refl
more-reasons false false false true = refl
more-reasons false false false false = refl

-- that of the merge in place, and where that is none, 10 if the count does not fit the separate buffer
pub apart-number : (radius : Float) (places count : ℕ) (b : Slices)
    → refusal_apart radius places count b ≡ or_else (refusal_of radius (places_of b) count b) (cond (ltb places count) 10 0)
unfolding refusal_apart refusal_of
apart-number radius places count b =
    more-reasons (not (is_off radius) && any corner_outside (corners_of b (min count (places_of b)))) (radius_outside radius)
    (ltb (places_of b) count) (ltb places count)

or-else-refused : (k m : ℕ) (e : Refusal) → Err e ≡ verdict k → Err e ≡ verdict (or_else k m)
or-else-refused zero m e p = absurd (refused-some 0 tt e p refl)
or-else-refused (suc k) m e p = p

or_else_none : (k : ℕ) → or_else k 0 ≡ k
or_else_none zero = refl
or_else_none (suc k) = refl

or-else-zero : (k m : ℕ) → or_else k m ≡ 0 → m ≡ 0
or-else-zero zero m e = e
or-else-zero (suc k) m e = absurd (let no : ⊥ = omega arith in no)

module _ (radius : Float) (places count : ℕ) (b : Slices) where
  pub apart-known : Known (refusal_apart radius places count b)
  unfolding refusal_apart
  apart-known = conditions-known radius (corners_of b (min count (places_of b))) (ltb (places_of b) count || ltb places count)

  -- what refuses the merge in place refuses this one
  pub apart-refused : (e : Refusal) → Err e ≡ verdict (refusal_of radius (places_of b) count b)
      → Err e ≡ verdict (refusal_apart radius places count b)
  apart-refused e p = rw apart-number (or-else-refused _ _ e p)

  -- no refusal: the separate buffer has the places
  apart_fits : refusal_apart radius places count b ≡ 0 → count ≤ places
  apart_fits e =
      let own : ℕ = refusal_of radius (places_of b) count b in
      ltb-false places count (none (ltb places count) (or-else-zero own _ (sym (apart-number radius places count b) ∙ e)))
    where
      none : (t : Bool) → ◌≡◌ {A = ℕ} (cond t 10 0) 0 → t ≡ false
      none false e = refl
      none true e = absurd (let no : ⊥ = omega arith in no)

  -- a count that fits the separate buffer is judged as in place, and one that does not is refused
  pub apart-as-own : count ≤ places → refusal_apart radius places count b ≡ refusal_of radius (places_of b) count b
  apart-as-own h =
      apart-number radius places count b
      ∙ ap (λ (t : Bool). or_else (refusal_of radius (places_of b) count b) (cond t 10 0)) (le-ltb places count h)
      ∙ or_else_none _

  -- so a list that is not refused has its places in both
  pub apart_both : refusal_apart radius places count b ≡ 0 → (count ≤ places_of b) × (count ≤ places)
  apart_both e =
      let fits = apart_fits e in
      (judged-fits radius (places_of b) count b (sym (apart-as-own fits) ∙ e), fits)

  pub apart-crowded : places < count → refusal_apart radius places count b ≡ or_else (refusal_of radius (places_of b) count b) 10
  apart-crowded h =
      apart-number radius places count b
      ∙ ap (λ (t : Bool). or_else (refusal_of radius (places_of b) count b) (cond t 10 0)) (lt-ltb places count h)

-- the number does not change with another name for the places
pub judged-places : (radius : Float) (free places count : ℕ) (b : Slices) (r : Result (Unit {0}) Refusal) → free ≡ places
    → r ≡ verdict (refusal_apart radius free count b) → r ≡ verdict (refusal_apart radius places count b)
judged-places radius free places count b r e p = rw e at p

-- ---- a call of `merge_apart`
module _ (radius : Float) (count : ℕ) (b d : Slices) (r : Result ℕ Refusal) (d' : Slices) (apart : MergedApart radius count b d r d') where
  abbrev left : List Corner
  left = result_of radius (corners_of b count)

  -- behind the list the separate buffer is as it was
  pub same-behind : (n : ℕ) → r ≡ Ok n → (i : ℕ) → n ≤ i → corner_at d' i ≡ corner_at d i
  same-behind n e i h =
      let q = judged-ok _ _ n (sym e ∙ apart.answer) in
      rw (apart.buffer, q.0) (corners-behind left d i (omega (arith, q.1)))

  -- ---- and one of `merge_corners_simple` on the same corners, with the same count and radius
  module _ (m : Result ℕ Refusal) (b' : Slices) (own : Merges radius (places_of b) count b m b') where
    -- the count fits the separate buffer: the same answer
    pub same_answer : count ≤ places_of d → r ≡ m
    same_answer h =
        apart.answer ∙ ap (λ (k : ℕ). judged k (length left)) (apart-as-own radius (places_of d) count b h) ∙ sym own.answer

    -- and the same list
    pub same_list : count ≤ places_of d → (n : ℕ) → r ≡ Ok n → corners_of d' n ≡ corners_of b' n
    same_list h n e =
        let q = judged-ok _ _ n (sym e ∙ apart.answer) in
        let z : refusal_of radius (places_of b) count b ≡ 0 = sym (apart-as-own radius (places_of d) count b h) ∙ q.0 in
        rw (apart.buffer, own.buffer, q.0, z) (corners-front left d n q.1 ∙ sym (corners-front left b n q.1))

    -- the count does not fit it: the merge's number, or else 10
    pub crowded-number : places_of d < count → number_of r ≡ or_else (number_of m) 10
    crowded-number h = apart.number ∙ apart-crowded radius (places_of d) count b h ∙ ap (λ (k : ℕ). or_else k 10) (sym own.number)
