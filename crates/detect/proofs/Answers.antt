-- Inputs without a fault, and the answers of peak finding: each from the tests that lead to it, and what a caller learns from it.
-- Assumes nothing.
use Rattle.std.proofs.Common.{◌≡◌, ℕ, zero, suc, ◌+◌, ◌*◌, ◌<◌, ◌≤◌, Bool, true, false, not, ltb, List, [], ◌∷◌, length, sym, refl, ap, ◌∙◌}
use Rattle.std.proofs.Common.{ap₂, ⊎_elim, eq-zero-or-pos, arith, ltb-false, ltb-true, le-ltb, lt-ltb, eq-eqb}
use native.Mathlib.Decide.{dec_lt}
use lib.ListN.{length-map}
use lib.Ieee.{Float}
use borrow.Author.Tests.{not-false}
use Rattle.lists.specs.Limits.{largest_side}
use Rattle.lists.specs.Places.{All}
use Rattle.std.specs.Prelude.{Result, Ok, Err}
use Rattle.lists.specs.declared.refusal.Refusal.{Refusal}
use Rattle.lists.specs.declared.refusal.Refusal.TheVariants.{ListTooLong}
use Rattle.lists.specs.Refusals.{lowest, number_of, values_unless, judged, verdict, result_or}
use Rattle.lists.proofs.Judged.{Known, number-judged, values-judged, lowest-known, judged-ok, judged-err, refused-some, refused-stays}
use Rattle.lists.proofs.Tests.{or-neither}
use Rattle.lists.proofs.Refusals.{all-clear, lowest-some, lowest-before, lowest-past, sized_of}
use Rattle.ring.proofs.Places.{ring-small}
use Rattle.corner_list.specs.CornerList.{Slices, places_of, placed_corners}
use Rattle.corner_list.specs.declared.Corner.{Corner}
use Rattle.detect.specs.declared.Search.{Search}
use Rattle.detect.specs.declared.Peaks.{Peaks}
use Rattle.ring.specs.Ring.{is_ring}
use Rattle.detect.specs.Detect.{search_by, peaks_in, start_at, starts_in, ties_in}
use Rattle.detect.specs.Detect.{conditions, refusal_of, PeaksAdded}
use Rattle.detect.specs.Internal.{Searchable}

-- ---- inputs

-- a table of conditions of which none holds
pub record Clear (conds : List (Bool × ℕ)) : Type 0 where
  pub numbered : All (λ c. 0 < c.1) conds
  pub none : lowest conds ≡ 0

-- an input of which none of them holds
pub record Sound (size w h ring window radius : ℕ) : Type 0 where
  pub wide : w ≤ largest_side
  pub high : h ≤ largest_side
  pub whole : size ≡ w * h
  pub ring_is : is_ring ring ≡ true
  pub in_window : window ≤ 16
  pub in-radius : radius ≤ 16

module _ (size w h ring window radius : ℕ) where
  pub clear : lowest (conditions size w h ring window radius) ≡ 0 → Clear (conditions size w h ring window radius)
  unfolding conditions
  clear e = record { numbered = (omega arith, (omega arith, (omega arith, tt))); none = e }

  pub sound : Clear (conditions size w h ring window radius) → Sound size w h ring window radius
  unfolding conditions
  sound c =
      let none = all-clear (conditions size w h ring window radius) c.numbered c.none in
      let image = sized_of size w h none.0 none.1.0 in
      let ring-and = or-neither (not (is_ring ring)) _ none.1.1.0 in
      let radii = or-neither (ltb 16 window) (ltb 16 radius) ring-and.1 in record {
        wide = image.narrow;
        high = image.low;
        whole = image.sized;
        ring_is = not-false (is_ring ring) ring-and.0;
        in_window = ltb-false 16 window radii.0;
        in-radius = ltb-false 16 radius radii.1;
      }

  pub sound-clear : Sound size w h ring window radius → Clear (conditions size w h ring window radius)
  unfolding conditions
  sound-clear k =
      let in_window = le-ltb 16 window k.in_window in
      let in-radius = le-ltb 16 radius k.in-radius in
      clear
      (rw (
        le-ltb largest_side w k.wide,
        le-ltb largest_side h k.high,
        eq-eqb size (w * h) k.whole,
        k.ring_is,
        in_window,
        in-radius,
      ))

-- so its map can be searched
pub searchable : (m : List Float) (exact : Bool) (w h ring : ℕ) (t : Float) (window least radius : ℕ)
    → Clear (conditions (length m) w h ring window radius) → Searchable m (search_by exact w h ring t window least radius)
searchable m exact w h ring t window least radius e =
    let k = sound (length m) w h ring window radius e in record {
      size = k.whole;
      wide = k.wide;
      high = k.high;
      radius = k.in_window;
      inside = omega arith;
      narrow = omega (arith, ring-small ring k.ring_is, k.in_window, k.in-radius);
    }

-- ---- whether the corners fit a buffer b of so many places, by the test of the peaks' number
module _ (m : List Float) (s : Search) (b : Slices) (places held : ℕ) (is : places ≡ places_of b)
    (t : Bool) (e : t ≡ ltb places (held + length (peaks_in m s))) where
  pub fits-behind : t ≡ false → held + length (starts_in m s) ≤ places_of b
  fits-behind q = omega (arith, length-map (peaks_in m s) (start_at m s), ltb-false places (held + length (peaks_in m s)) (sym e ∙ q))

  pub short-behind : t ≡ true → places_of b < held + length (starts_in m s)
  short-behind q = omega (arith, length-map (peaks_in m s) (start_at m s), ltb-true places (held + length (peaks_in m s)) (sym e ∙ q))

-- ---- refusals, by the conditions on the input and the buffer's places
module _ (places held n : ℕ) where
  pub refusal-input : (cs : List (Bool × ℕ)) → (lowest cs ≡ 0 → ⊥) → refusal_of cs places held n ≡ lowest cs
  unfolding refusal_of
  refusal-input cs e = lowest-some cs _ e

  module _ (cs : List (Bool × ℕ)) (c : Clear cs) where
    pub refusal-short : places < held + n → refusal_of cs places held n ≡ 10
    unfolding refusal_of
    refusal-short l = lowest-past cs _ c.numbered c.none ∙ rw (lt-ltb places (held + n) l)

    pub refusal-none : held + n ≤ places → refusal_of cs places held n ≡ 0
    unfolding refusal_of
    refusal-none l = lowest-past cs _ c.numbered c.none ∙ rw (le-ltb places (held + n) l)

-- ---- answers, by what led to them
module _ (conds : List (Bool × ℕ)) (cs : List Corner) (ties held : ℕ) (b : Slices) where
  abbrev pub due : Peaks
  due = record { count = length cs; ties = ties }

  -- by the refusal's number
  pub found-by : (k : ℕ) → refusal_of conds (places_of b) held (length cs) ≡ k → (answer : Result Peaks Refusal) (b' : Slices)
      → answer ≡ judged k due → number_of answer ≡ k → b' ≡ result_or k (placed_corners held cs b) b
      → PeaksAdded conds cs ties held b answer b'
  found-by k e answer b' p n q = record {
    answer = p ∙ ap (λ (r : ℕ). judged r due) (sym e);
    number = n ∙ sym e;
    values = values-judged _ k due p ∙ ap (λ (r : ℕ). values_unless r (length cs ∷ ties ∷ [])) (sym e);
    buffer = q ∙ ap (λ (r : ℕ). result_or r (placed_corners held cs b) b) (sym e);
  }

  pub found-refused : (e : Refusal) → All (λ c. Known c.1) conds → Err e ≡ verdict (lowest conds)
      → PeaksAdded conds cs ties held b (Err e) b
  found-refused e known p =
      let number = refusal-input (places_of b) held (length cs) conds (refused-some _ _ e p) in
      let answer = judged-err _ _ due e p in
      found-by (lowest conds) number (Err e) b answer (number-judged _ _ answer (lowest-known conds known))
      (sym (refused-stays _ _ e _ _ p))

-- where there are no conditions
module _ (cs : List Corner) (ties held : ℕ) (b : Slices) where
  none : Clear []
  none = record { numbered = tt; none = refl }

  pub found-short : places_of b < held + length cs → PeaksAdded [] cs ties held b (Err ListTooLong) b
  found-short l = found-by [] cs ties held b 10 (refusal-short (places_of b) held (length cs) [] none l) _ b refl refl refl

  pub found-added : held + length cs ≤ places_of b → (n t : ℕ) (b' : Slices) → n ≡ length cs → t ≡ ties → b' ≡ placed_corners held cs b
      → PeaksAdded [] cs ties held b (Ok (record { count = n; ties = t })) b'
  found-added l n t b' e f w =
      found-by [] cs ties held b 0 (refusal-none (places_of b) held (length cs) [] none l) _ b' (rw (e, f)) refl w

-- and where they do not hold
pub found-clear : (m : List Float) (s t : Search) → s ≡ t → (conds : List (Bool × ℕ)) → Clear conds
    → (held : ℕ) (b : Slices) (answer : Result Peaks Refusal) (b' : Slices)
    → PeaksAdded [] (starts_in m s) (ties_in m s) held b answer b' → PeaksAdded conds (starts_in m t) (ties_in m t) held b answer b'
found-clear m s t same conds clear held b answer b' f =
    let places = places_of b in
    let n = length (starts_in m s) in
    rw (← same)
    (found-by conds (starts_in m s) (ties_in m s) held b (refusal_of [] places held n) (past places n) answer b' f.answer f.number f.buffer)
  where
    past : (places n : ℕ) → refusal_of conds places held n ≡ refusal_of [] places held n
    past places n = unfold refusal_of in (lowest-past conds _ clear.numbered clear.none)

-- ---- and what they tell

-- where corners were added, no condition on the input holds
pub unrefused : (conds : List (Bool × ℕ)) (cs : List Corner) (ties held : ℕ) (b : Slices) (p : Peaks) (b' : Slices)
    → PeaksAdded conds cs ties held b (Ok p) b' → lowest conds ≡ 0
unfolding refusal_of
unrefused conds cs ties held b p b' f = lowest-before conds _ (judged-ok _ _ p f.answer).0

-- where the conditions on the input do not hold
pub record Fitted (cs : List Corner) (ties held : ℕ) (b : Slices) (n t : ℕ) (b' : Slices) : Type 0 where
  pub count : n ≡ length cs
  pub tied : t ≡ ties
  pub fits : held + n ≤ places_of b
  pub buffer : b' ≡ placed_corners held cs b

pub record Short (cs : List Corner) (held : ℕ) (b : Slices) (e : Refusal) (b' : Slices) : Type 0 where
  pub refusal : e ≡ ListTooLong
  pub short : places_of b < held + length cs
  pub buffer : b' ≡ b

module _ (conds : List (Bool × ℕ)) (clear : Clear conds) (cs : List Corner) (ties held : ℕ) (b : Slices)
    (answer : Result Peaks Refusal) (b' : Slices) (f : PeaksAdded conds cs ties held b answer b') where
  by_number : (k : ℕ) → refusal_of conds (places_of b) held (length cs) ≡ k
      → (answer ≡ judged k (due conds cs ties held b)) × (b' ≡ result_or k (placed_corners held cs b) b)
  by_number k r = (
    f.answer ∙ ap (λ (j : ℕ). judged j (due conds cs ties held b)) r,
    f.buffer ∙ ap (λ (j : ℕ). result_or j (placed_corners held cs b) b) r,
  )

  pub added-tells : (p : Peaks) → answer ≡ Ok p → Fitted cs ties held b p.count p.ties b'
  added-tells p q =
      elim (dec_lt (places_of b) (held + length cs)) [
        | yes l ↦ absurd (let z = sym q ∙ (by_number 10 (refusal-short (places_of b) held (length cs) conds clear l)).0 in
            let no : ⊥ = grind arith in no)
        | no g ↦
            let r = by_number 0 (refusal-none (places_of b) held (length cs) conds clear (omega arith)) in
            let same = (judged-ok 0 _ p (sym q ∙ r.0)).1 in
            record {
              count = ap (λ (p : Peaks). p.count) same;
              tied = ap (λ (p : Peaks). p.ties) same;
              fits = rw same (omega arith);
              buffer = r.1;
            }
      ]

  pub refused-tells : (e : Refusal) → answer ≡ Err e → Short cs held b e b'
  refused-tells e q =
      elim (dec_lt (places_of b) (held + length cs)) [
        | yes l ↦
            let r = by_number 10 (refusal-short (places_of b) held (length cs) conds clear l) in
            let z = sym q ∙ r.0 in
            record { refusal = grind arith; short = l; buffer = r.1 }
        | no g ↦ absurd (let z = sym q ∙ (by_number 0 (refusal-none (places_of b) held (length cs) conds clear (omega arith))).0 in
            let no : ⊥ = grind arith in no)
      ]
