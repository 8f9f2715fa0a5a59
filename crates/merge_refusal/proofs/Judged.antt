-- The refusals of merging: what each test says of the number, and what the number 0 says. Assumes nothing.
use Prim.Native.Nat.{ℕ, ◌≤◌, min}
use native.Mathlib.Omega.{arith}
use mathlib.Core.Path.{◌≡◌, sym, ap, ◌∙◌}
use mathlib.Core.Bool.{Bool, true, false, not, cond, ◌&&◌, true≢false}
use mathlib.Core.List.{List, [], ◌∷◌}
use lib.Dec.{ltb}
use borrow.Author.Tests.{ltb-false, le-ltb, not-true, not-false}
use lib.Ieee.{Float}
use Rattle.std.specs.Prelude.{Result}
use Rattle.lists.specs.declared.refusal.Refusal.{Refusal}
use Rattle.lists.specs.Refusals.{verdict}
use Rattle.lists.specs.Places.{any, All}
use Rattle.lists.proofs.Tests.{is_false}
use Rattle.lists.proofs.Members.{all_map, none_any, any_none}
use Rattle.lists.proofs.Refusals.{lowest-none}
use Rattle.corner_list.specs.declared.Corner.{Corner}
use Rattle.corner_list.specs.CornerList.{Slices, is_inside, corners_of, places_of}
use Rattle.merge_radius.specs.MergeRadius.{is_off, is_sized}
use Rattle.merge_refusal.specs.Refusals.{corner_outside, refusal_of}

-- ---- the number does not change with another name for the places
pub judged-held : (radius : Float) (held places count : ℕ) (b : Slices) (r : Result (Unit {0}) Refusal)
    → r ≡ verdict (refusal_of radius held count b) → held ≡ places → r ≡ verdict (refusal_of radius places count b)
judged-held radius held places count b r e is = e ∙ ap (λ (n : ℕ). verdict (refusal_of radius n count b)) is

module _ (radius : Float) (places count : ℕ) (b : Slices) where
  -- ---- the number, by the tests
  pub judged-off : is_off radius ≡ true → cond (ltb places count) 10 0 ≡ refusal_of radius places count b
  unfolding refusal_of
  judged-off off = rw off

  module _ (on : is_off radius ≡ false) where
    pub judged-corner : any corner_outside (corners_of b (min count places)) ≡ true → 4 ≡ refusal_of radius places count b
    unfolding refusal_of
    judged-corner e = rw (on, e)

    module _ (inside : any corner_outside (corners_of b (min count places)) ≡ false) where
      pub judged-radius : is_sized radius ≡ false → 5 ≡ refusal_of radius places count b
      unfolding refusal_of
      judged-radius e = rw (on, inside, e)

      pub judged-count : is_sized radius ≡ true → cond (ltb places count) 10 0 ≡ refusal_of radius places count b
      unfolding refusal_of
      judged-count e = rw (on, inside, e)

  -- ---- no refusal: no test is met
  tests-none : refusal_of radius places count b ≡ 0
      → (not (is_off radius) && any corner_outside (corners_of b (min count places))) ≡ false
      × (not (is_off radius) && not (is_sized radius)) ≡ false
      × ltb places count ≡ false
  unfolding refusal_of
  tests-none e =
      let on = not (is_off radius) in
      let count-test : List (Bool × ℕ) = (ltb places count, 10) ∷ [] in
      let radius-test : List (Bool × ℕ) = (on && not (is_sized radius), 5) ∷ count-test in
      let first = lowest-none (on && any corner_outside (corners_of b (min count places))) 4 radius-test (omega arith) e in
      let second = lowest-none (on && not (is_sized radius)) 5 count-test (omega arith) first.1 in
      (first.0, second.0, (lowest-none (ltb places count) 10 [] (omega arith) second.1).0)

  -- the buffer has the corners
  pub judged-fits : refusal_of radius places count b ≡ 0 → count ≤ places
  judged-fits e = ltb-false places count (tests-none e).2

  -- and with a radius that is on, that is in range, and so are their coordinates
  pub judged-allowed : refusal_of radius places count b ≡ 0 → is_off radius ≡ false
      → (is_sized radius ≡ true) × All (λ c. is_inside c ≡ true) (corners_of b count)
  judged-allowed e on =
      let tests = tests-none e in
      let all : min count places ≡ count = omega (arith, judged-fits e) in
      let none : any corner_outside (corners_of b count) ≡ false = rw (on, all) at tests.0 in (
        not-false (is_sized radius) (rw on at tests.1),
        all_map _ _ inside (corners_of b count) (any_none corner_outside (corners_of b count) none),
      )
    where
      inside : (c : Corner) → (corner_outside c ≡ true → ⊥) → is_inside c ≡ true
      inside c n = not-false (is_inside c) (is_false (corner_outside c) n)

  -- ---- a list that the buffer has is not refused with an off radius, nor with a radius in range where its coordinates are
  module _ (fits : count ≤ places) where
    none : ◌≡◌ {A = ℕ} (cond (ltb places count) 10 0) 0
    none = ap (λ (t : Bool). cond t 10 0) (le-ltb places count fits)

    pub judged-none-off : is_off radius ≡ true → refusal_of radius places count b ≡ 0
    judged-none-off off = sym (judged-off off) ∙ none

    pub judged-none-on : is_off radius ≡ false → is_sized radius ≡ true → All (λ c. is_inside c ≡ true) (corners_of b count)
        → refusal_of radius places count b ≡ 0
    judged-none-on on sized inside =
        let few : min count places ≡ count = omega arith in
        let each : any corner_outside (corners_of b count) ≡ false = none_any corner_outside (corners_of b count)
        (all_map _ _ (λ c e o. true≢false (sym e ∙ not-true (is_inside c) o)) (corners_of b count) inside) in
        sym (judged-count on (ap (λ (n : ℕ). any corner_outside (corners_of b n)) few ∙ each) sized) ∙ none

-- ---- the answer by a view is that by the buffer
pub judged-viewed : (radius : Float) (places count : ℕ) (b b' : Slices) (r : Result (Unit {0}) Refusal) → b ≡ b'
    → r ≡ verdict (refusal_of radius (min places (places_of b)) count b)
    → r ≡ verdict (refusal_of radius (min places (places_of b')) count b')
judged-viewed radius places count b b' r e p = rw e at p
