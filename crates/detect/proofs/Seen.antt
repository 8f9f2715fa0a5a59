-- What a search for so many peaks can see: two maps that are alike near the rows it looks at have the same answer. Assumes nothing.
use Rattle.std.proofs.Common.{◌≡◌, ℕ, zero, suc, ◌+◌, ◌-◌, ◌*◌, ◌<◌, ◌≤◌, Bool, true, List, [], ◌∷◌, ◌++◌, length, get_or, take, drop, sym}
use Rattle.std.proofs.Common.{refl, ap, ◌∙◌, subst, ap₂, arith, length-append, take-append-drop, drop-cons, le-leb}
use native.Mathlib.Decide.{dec_lt}
use lib.Seq.{drop-append-le, drop-append-add}
use lib.Ieee.{Float}
use borrow.Author.Tests.{lt-leb}
use Rattle.lists.specs.Places.{Place, block, keep, All}
use Rattle.lists.proofs.Members.{all_map, all_right, all_keep, all-block, keep-alike}
use Rattle.lists.proofs.Places.{keep_append}
use Rattle.lists.proofs.Parts.{block-split}
use Rattle.detect.specs.declared.Search.{Search}
use Rattle.detect.specs.declared.enough.Enough.TheVariants.{Yes}
use Rattle.detect.specs.Peaks.{peak_places}
use Rattle.detect.specs.Internal.{Inside}
use Rattle.detect.specs.Detect.{read_in, peak_in, peaks_in}
use Rattle.detect.specs.Enough.{rows_inside, rows_to, rows_for, answer_of, enough_of, SameNear}
use Rattle.detect.specs.Internal.{place}
use Rattle.detect.proofs.Choice.{peaks-are}
use Rattle.detect.proofs.Nearby.{peak-alike}

-- ---- lists

-- the first behind n members
all-next : {A : Type 0} (P : A → Type 0) (l : List A) (n : ℕ) (a : A) (t : List A) → All P l → drop n l ≡ a ∷ t → P a
all-next P l n a t h e =
    (subst (All P) e (all_right P (take n l) (drop n l) (subst (All P) (sym (take-append-drop n l)) h))).0

-- ---- the peaks of a map above row y, and those from it on
module _ (s : Search) where
  abbrev right : ℕ
  right = s.w - s.border

  abbrev bottom : ℕ
  bottom = s.h - s.border

  abbrev upper : ℕ → List Float → List Place
  upper y m = keep (peak_in m s) (block s.border right s.border y)

  abbrev lower : ℕ → List Float → List Place
  lower y m = keep (peak_in m s) (block s.border right y bottom)

  parts : (y : ℕ) → s.border ≤ y → y ≤ bottom → (m : List Float) → peaks_in m s ≡ upper y m ++ lower y m
  unfolding peak_places
  parts y a b m =
      ap (keep (peak_in m s)) (block-split s.border right s.border y bottom a b)
      ∙ keep_append (peak_in m s) (block s.border right s.border y) (block s.border right y bottom)

  lower-from : (y : ℕ) (m : List Float) → All (λ p. y ≤ p.y) (lower y m)
  lower-from y m =
      all_map (λ p. (y ≤ p.y) × (peak_in m s p ≡ true)) (λ p. y ≤ p.y) (λ p k. k.0) (lower y m)
      (all_keep (λ p. y ≤ p.y) (peak_in m s) (block s.border right y bottom)
      (all-block (λ p. y ≤ p.y) s.border right y bottom (λ u v a b c d. c)))

  -- a peak above row y is one of the upper ones, whatever follows
  upper-has : (y : ℕ) (m : List Float) (k : ℕ) (q : Place) (t : List Place) → peaks_in m s ≡ upper y m ++ lower y m
      → drop k (peaks_in m s) ≡ q ∷ t → q.y < y → k < length (upper y m)
  upper-has y m k q t two e l =
      elim (dec_lt k (length (upper y m))) [
        | yes o ↦ o
        | no o ↦
            let n = k - length (upper y m) in
            let at : length (upper y m) + n ≡ k = omega arith in
            let later = sym (drop-append-add (upper y m) (lower y m) n)
            ∙ ap (λ (i : ℕ). drop i (upper y m ++ lower y m)) at ∙ ap (drop k) (sym two) ∙ e in
            let low = all-next (λ p. y ≤ p.y) (lower y m) n q t (lower-from y m) later in
            absurd (let no : ⊥ = omega arith in no)
      ]

  -- and decides the answer
  enough-upper : (d : Place) (l t : List Place) (k : ℕ) → k < length l
      → enough_of s (suc k) (l ++ t) ≡ Yes ((get_or l k d).y - s.border + 1)
  unfolding enough_of
  enough-upper d l t k h =
      ap₂ answer_of (le-leb (suc k) (length (l ++ t)) (omega (arith, length-append l t)))
      (ap (rows_to s) (drop-append-le k l t (omega arith) ∙ ap (λ (u : List Place). u ++ t) (drop-cons l k d h)))

  enough-none : (l : List Place) → enough_of s 0 l ≡ Yes 0
  unfolding enough_of
  enough-none l = ap (λ (b : Bool). answer_of b 0) (le-leb 0 (length l) (omega arith))

  -- a map that is wide enough has all its rows inside the border
  rows-wide : 2 * s.border < s.w → rows_inside s ≡ s.h - 2 * s.border
  unfolding rows_inside
  rows-wide l = rw (lt-leb s.w (2 * s.border) l)

-- ---- two maps
module _ (m m' : List Float) (s : Search) where
  -- alike near the first n rows inside the border, they have the same peaks there
  near_same : (n y : ℕ) → SameNear s n m m' → ((x v : ℕ) → s.border ≤ x → x < right s → v < y → v < s.border + n)
      → upper s y m ≡ upper s y m'
  near_same n y same f =
      keep-alike (peak_in m s) (peak_in m' s) (block s.border (right s) s.border y)
      (all-block (λ p. peak_in m s p ≡ peak_in m' s p) s.border (right s) s.border y
      (λ x v a b c d.
      let l = f x v a b d in
      peak-alike m m' s (place x v)
      (λ q i n. same q.x q.y (v - s.border) (omega arith) i (omega (arith, n.above)) (omega (arith, n.below))) (omega arith)))

  same_after : (k : ℕ) (l : List Place) → drop k (peaks_in m s) ≡ l → SameNear s (rows_to s l) m m'
      → enough_of s (suc k) (peaks_in m s) ≡ enough_of s (suc k) (peaks_in m' s)
  same_after k [] e same =
      ap (enough_of s (suc k))
      (unfold peak_places in (near_same (rows_inside s) (bottom s) same (λ x v a b d. omega (arith, rows-wide s (omega arith)))))
  same_after k (q ∷ t) e same =
      let peaks = peaks-are (read_in m s) s.w s.h s.border s.window s.least_neighbours in
      let inside = (all-next (λ p. Inside s.w s.h s.border p × (peak_in m s p ≡ true)) (peaks_in m s) k q t peaks e).0 in
      let y = s.border + (q.y - s.border + 1) in
      let two = parts s y (omega (arith, inside.top)) (omega (arith, inside.top, inside.bottom)) in
      let has = upper-has s y m k q t (two m) e (omega (arith, inside.top)) in
      let by = enough-upper s q (upper s y m) in
      ap (enough_of s (suc k)) (two m) ∙ by (lower s y m) k has
      ∙ sym
      (ap (enough_of s (suc k)) (two m'
      ∙ ap (λ (u : List Place). u ++ lower s y m') (sym (near_same (q.y - s.border + 1) y same (λ x v a b d. d))))
      ∙ by (lower s y m') k has)

  pub same_answer : (wanted : ℕ) → SameNear s (rows_for s wanted (peaks_in m s)) m m'
      → enough_of s wanted (peaks_in m s) ≡ enough_of s wanted (peaks_in m' s)
  same_answer zero same = enough-none s (peaks_in m s) ∙ sym (enough-none s (peaks_in m' s))
  same_answer (suc k) same = same_after k (drop k (peaks_in m s)) refl same
