-- Merging in one slice is merging in four: exchanged, merged and exchanged again, the corners are what the core leaves of them, and the
-- scratch is as it was. Number 4 is judged of all that are counted, before the core's number. Assumes nothing.
use Prim.Native.Nat.{ℕ, zero, suc, ◌≤◌, min}
use native.Mathlib.Decide.{dec_lt}
use native.Mathlib.Omega.{arith}
use mathlib.Core.Path.{◌≡◌, refl, sym, ap, ap₂, ◌∙◌, subst}
use mathlib.Core.Bool.{Bool, true, false, not, ◌&&◌, ◌||◌}
use mathlib.Core.List.{List, [], ◌∷◌, map}
use lib.Dec.{ltb}
use borrow.Author.Tests.{lt-ltb, le-ltb, ltb-false}
use lib.ListN.{length, take, drop, take-append-drop, length-map}
use lib.Seq.{length-take-le, take-take}
use lib.Ieee.{Float}
use Rattle.lists.specs.Buffer.{front}
use Rattle.lists.specs.Places.{any}
use Rattle.lists.proofs.Buffer.{front_length, front-take, front_same, front-again, front-over, map-front}
use Rattle.lists.proofs.Places.{any_append}
use Rattle.lists.proofs.Refusals.{lowest-none}
use Rattle.lists.proofs.Tests.{or-neither}
use Rattle.corner_list.specs.declared.Corner.{Corner}
use Rattle.corner_list.specs.CornerList.{Slices, x_of, y_of, strength_of, neighbours_of, places_of, corners_of, front_corners}
use Rattle.corner_list.proofs.Corners.{slices-alike, same-places, corners-length, corners-front, corners-same, corners-again}
use Rattle.corner_list.proofs.Corners.{front-xs, front-ys, front-strengths, front-neighbours}
use Rattle.merge_radius.specs.MergeRadius.{is_off, radius_outside}
use Rattle.merge_refusal.specs.Refusals.{corner_outside}
use Rattle.merge.specs.Merge.{result_of, refusal_of, Merges}
use Rattle.merge.proofs.Answer.{conditions-known}
use Rattle.merge.proofs.Result.{result-length}
use Rattle.merge_slice.specs.MergeSlice.{shared_places, refusal_for, MergesSlice}
use Rattle.std.specs.Prelude.{Result, Ok, Err}
use Rattle.lists.specs.declared.refusal.Refusal.{Refusal}
use Rattle.lists.specs.declared.refusal.Refusal.TheVariants.{PositionOutside}
use Rattle.lists.specs.Refusals.{judged, result_or}
use Rattle.lists.proofs.Judged.{Known, number-judged, values-judged}

-- ---- corners over more of them that stand first
corners-over : (us cs : List Corner) (b : Slices) → length us ≤ length cs
    → front_corners us (front_corners cs b) ≡ front_corners (front us cs) b
corners-over us cs b h =
    slices-alike (over x_of b.xs) (over y_of b.ys) (over strength_of b.strengths) (over neighbours_of b.neighbours)
  where
    over : {A : Type 0} (g : Corner → A) (d : List A) → front (map g us) (front (map g cs) d) ≡ front (map g (front us cs)) d
    over {A} g d =
        front-over (map g us) (map g cs) d (omega (arith, length-map us g, length-map cs g))
        ∙ ap (λ (l : List A). front l d) (map-front g us cs)

-- ---- numbers: n corners are exchanged, and the core is told of n places
few : (count c p k n : ℕ) → n ≡ min count (min c p) → k ≡ p → min n k ≡ n
few count c p k n e f = omega arith

few-fit : (count p n : ℕ) → n ≡ min count p → count ≤ p → n ≡ count
few-fit count p n e h = omega arith

few-test : (count p n : ℕ) → n ≡ min count p → ltb n count ≡ ltb p count
few-test count p n e =
    elim (dec_lt p count) [
      | yes l ↦ lt-ltb n count (omega arith) ∙ sym (lt-ltb p count l)
      | no g ↦ le-ltb n count (omega arith) ∙ sym (le-ltb p count (omega arith))
    ]

-- ---- what no element of a list passes, none of its first passes
any-first : (f : Corner → Bool) (n m : ℕ) (l : List Corner) → n ≤ m → any f (take m l) ≡ false → any f (take n l) ≡ false
any-first f n m l h e =
    let rest = drop n (take m l) in
    (or-neither (any f (take n l)) (any f rest)
    (ap (λ (t : List Corner). any f t || any f rest) (sym (take-take n m l h)) ∙ sym (any_append f (take n (take m l)) rest)
    ∙ ap (any f) (take-append-drop n (take m l)) ∙ e)
    ).0

and-fewer : (a b b' : Bool) → (b ≡ false → b' ≡ false) → (a && b) ≡ false → (a && b') ≡ false
and-fewer true b b' h e = h e
and-fewer false b b' h e = refl

-- ---- 4 comes first: refused, and all is as it was
pub slice-refused : (radius : Float) (count : ℕ) (cs : List Corner) (scratch : Slices)
    → (not (is_off radius) && any corner_outside (take count cs)) ≡ true
    → MergesSlice radius count cs scratch (Err PositionOutside) cs scratch
slice-refused radius count cs scratch e =
    let four : refusal_for radius count cs scratch ≡ 4 = unfold refusal_for in rw e in
    record { answer = rw four; number = sym four; values = rw four; corners = rw four; given_back = refl }

-- ---- the core on the corners in the scratch
module _ (radius : Float) (count : ℕ) (cs : List Corner) (scratch : Slices) (n : ℕ) (is : n ≡ min count (shared_places cs scratch)) where
  -- the scratch with the corners, the core's number and the entry's, and what is left where there is none
  abbrev inside : Slices
  inside = front_corners (take n cs) scratch

  abbrev core : ℕ
  core = refusal_of radius n count inside

  abbrev number : ℕ
  number = refusal_for radius count cs scratch

  abbrev left : List Corner
  left = result_of radius (take count cs)

  -- what the core leaves
  abbrev core-left : List Corner
  core-left = result_of radius (corners_of inside count)

  -- whether 4 refuses a list
  abbrev refused : List Corner → Bool
  refused l = not (is_off radius) && any corner_outside l

  abbrev outside : Bool
  outside = refused (take count cs)

  in-corners : n ≤ length cs
  in-corners = omega arith

  in-scratch : n ≤ places_of scratch
  in-scratch = omega arith

  taken : length (take n cs) ≡ n
  taken = length-take-le n cs in-corners

  inside-corners : corners_of inside n ≡ take n cs
  inside-corners = corners-front (take n cs) scratch n (sym taken)

  inside-places : places_of inside ≡ places_of scratch
  inside-places =
      same-places inside scratch (front-xs (take n cs) scratch n (sym taken) in-scratch)
      (front-ys (take n cs) scratch n (sym taken) in-scratch)
      (front-strengths (take n cs) scratch n (sym taken) in-scratch) (front-neighbours (take n cs) scratch n (sym taken) in-scratch)

  -- the core judges the corners in the scratch
  seen : corners_of inside (min count n) ≡ take n cs
  seen = ap (corners_of inside) (omega arith) ∙ inside-corners

  -- where nothing is refused the count is n, and the corners that are merged are the first of the slice
  module _ (none : number ≡ 0) where
    fits : count ≤ shared_places cs scratch
    unfolding refusal_for
    fits =
        let count-test : List (Bool × ℕ) = (ltb (shared_places cs scratch) count, 10) ∷ [] in
        let first = lowest-none outside 4 ((radius_outside radius, 5) ∷ count-test) (omega arith) none in
        let second = lowest-none (radius_outside radius) 5 count-test (omega arith) first.1 in
        ltb-false (shared_places cs scratch) count (lowest-none (ltb (shared_places cs scratch) count) 10 [] (omega arith) second.1).0

    all : n ≡ count
    all = few-fit count (shared_places cs scratch) n is fits

    same-corners : corners_of inside count ≡ take count cs
    same-corners = subst (λ (k : ℕ). corners_of inside k ≡ take k cs) all inside-corners

    left-fits : length left ≤ length (take n cs)
    left-fits = subst (λ (k : ℕ). length left ≤ length (take k cs)) (sym all) (result-length radius (take count cs))

  -- the first n corners after
  abbrev after : ℕ → List Corner
  after k = result_or k (front left (take n cs)) (take n cs)

  after-length : (k : ℕ) → number ≡ k → length (after k) ≡ n
  after-length zero e = front_length left (take n cs) (left-fits e) ∙ taken
  after-length (suc k) e = taken

  after_front : (k : ℕ) → number ≡ k → front (after k) cs ≡ result_or k (front left cs) cs
  after_front zero e = sym (front-over left (take n cs) cs (left-fits e)) ∙ ap (front left) (sym (front_same n cs in-corners))
  after_front (suc k) e = sym (front_same n cs in-corners)

  -- the core's answer and what it leaves in the scratch, by the definitions over the slice
  same_answer : (k : ℕ) → number ≡ k → judged k (length core-left) ≡ judged k (length left)
  same_answer zero e = ap (λ (l : List Corner). Ok (length (result_of radius l))) (same-corners e)
  same_answer (suc k) e = refl

  same-buffer : (k : ℕ) → number ≡ k → result_or k (front_corners core-left inside) inside ≡ front_corners (after k) scratch
  same-buffer zero e =
      ap (λ (l : List Corner). front_corners (result_of radius l) inside) (same-corners e)
      ∙ corners-over left (take n cs) scratch (left-fits e)
  same-buffer (suc k) e = refl

  number-known : Known number
  unfolding refusal_for
  number-known = conditions-known radius (take count cs) (ltb (shared_places cs scratch) count)

  -- where 4 does not refuse, the core's number is that of the entry
  module _ (free : outside ≡ false) where
    same_number : core ≡ number
    unfolding refusal_of refusal_for
    same_number =
        let fewer = any-first corner_outside n count cs (omega arith) in
        let none : refused (take n cs) ≡ false = and-fewer (not (is_off radius)) (any corner_outside (take count cs))
        (any corner_outside (take n cs)) fewer free in
        rw (seen, none, few-test count (shared_places cs scratch) n is, free)

    -- the corners exchanged, and merged
    module _ (b₁ b₂ : Slices) (answer : Result ℕ Refusal) (e : b₁ ≡ inside)
        (m : Merges radius (min n (places_of b₁)) count b₁ answer b₂) where
      own : Merges radius n count inside answer b₂
      own =
          subst (λ (k : ℕ). Merges radius k count inside answer b₂)
          (few count (length cs) (places_of scratch) (places_of inside) n is inside-places)
          (subst (λ (b : Slices). Merges radius (min n (places_of b)) count b answer b₂) e m)

      answered : answer ≡ judged number (length left)
      answered = own.answer ∙ ap (λ (k : ℕ). judged k (length core-left)) same_number ∙ same_answer number refl

      buffer : b₂ ≡ front_corners (after number) scratch
      buffer =
          own.buffer ∙ ap (λ (k : ℕ). result_or k (front_corners core-left inside) inside) same_number ∙ same-buffer number refl

      long : n ≡ length (after number)
      long = sym (after-length number refl)

      pub places-stay : n ≤ places_of b₂
      places-stay =
          let same = same-places (front_corners (after number) scratch) scratch (front-xs (after number) scratch n long in-scratch)
          (front-ys (after number) scratch n long in-scratch) (front-strengths (after number) scratch n long in-scratch)
          (front-neighbours (after number) scratch n long in-scratch) in
          omega (arith, ap places_of buffer, same)

      -- and exchanged again
      pub slice-merged : (cs₁ cs₂ : List Corner) (b₃ : Slices) → cs₁ ≡ front (corners_of scratch n) cs
          → (cs₂ ≡ front (corners_of b₂ n) cs₁) × (b₃ ≡ front_corners (take n cs₁) b₂)
          → MergesSlice radius count cs scratch answer cs₂ b₃
      slice-merged cs₁ cs₂ b₃ d f = record {
        answer = answered;
        number = number-judged number (length left) answered number-known;
        values = values-judged (λ k. k ∷ []) number (length left) answered;
        corners = corners;
        given_back = given_back;
      }
        where
          read : corners_of b₂ n ≡ after number
          read = ap (λ (b : Slices). corners_of b n) buffer ∙ corners-front (after number) scratch n long

          corners : cs₂ ≡ result_or number (front left cs) cs
          corners =
              f.0 ∙ ap (front (corners_of b₂ n)) d
              ∙ front-again (corners_of scratch n) (corners_of b₂ n) cs (omega (arith, corners-length scratch n, corners-length b₂ n))
              ∙ ap (λ (l : List Corner). front l cs) read
              ∙ after_front number refl

          given_back : b₃ ≡ scratch
          given_back =
              f.1 ∙ ap (λ (l : List Corner). front_corners (take n l) b₂) d
              ∙ ap₂ front_corners (front-take (corners_of scratch n) cs n (sym (corners-length scratch n))) buffer
              ∙ corners-again (after number) scratch (corners_of scratch n) (omega (arith, corners-length scratch n, long))
              ∙ sym (corners-same scratch n in-scratch)
