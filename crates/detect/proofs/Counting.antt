-- Peaks searched for one after the other until there are as many as wanted: where the search stands, and the answer. Assumes nothing.
use Rattle.std.proofs.Common.{◌≡◌, ℕ, zero, suc, ◌+◌, ◌-◌, ◌<◌, ◌≤◌, Bool, true, false, cond, leb, List, [], ◌∷◌}
use Rattle.std.proofs.Common.{length, drop, sym, refl, Ok, Err}
use Rattle.std.proofs.Common.{ap, ◌∙◌, add-one, arith, length-drop, drop_of_length-le, drop-cons, le-leb}
use mathlib.Core.List.{tail-eq_of_cons-eq}
use lib.Ieee.{Float}
use borrow.Author.Tests.{lt-leb}
use Rattle.lists.specs.declared.refusal.Refusal.{Refusal}
use Rattle.lists.specs.Places.{Place, All}
use Rattle.lists.specs.Refusals.{lowest, verdict}
use Rattle.lists.proofs.Judged.{Known, lowest-known, judged-err, number-judged, values-refused}
use Rattle.detect.specs.declared.Search.{Search}
use Rattle.detect.specs.declared.enough.Enough.{Enough}
use Rattle.detect.specs.declared.enough.Enough.TheVariants.{Yes, No}
use Rattle.detect.specs.Detect.{peaks_in}
use Rattle.detect.specs.Enough.{rows_inside, rows_to, rows_for, answer_of, enough_of, values_of, EnoughFound}
use Rattle.detect.specs.declared.searching.Spot.{Spot}
use Rattle.detect.specs.Internal.{place, place_of, place_behind, peaks_from, FirstFrom}
use Rattle.detect.proofs.Scanning.{peaks-start}

-- what stands behind the place i of a list
drop-next : {A : Type 0} (l : List A) (i : ℕ) (a : A) (t : List A) → drop i l ≡ a ∷ t → drop (i + 1) l ≡ t
drop-next l i a t e =
    let in_list : i < length l = omega (arith, length-drop i l, ap length e) in
    ap (λ (k : ℕ). drop k l) (add-one i) ∙ tail-eq_of_cons-eq (sym (drop-cons l i a in_list) ∙ e)

-- ---- i peaks are found, the last of them in the last of so many rows, and the search goes on at p
pub record Searching (m : List Float) (s : Search) (rows i : ℕ) (p : Place) : Type 0 where
  pub left : s.border ≤ p.x
  pub top : s.border ≤ p.y
  pub ahead : drop i (peaks_in m s) ≡ peaks_from m s p
  pub found : i ≤ length (peaks_in m s)
  pub looked : rows ≡ rows_for s i (peaks_in m s)

pub searching-first : (m : List Float) (s : Search) → Searching m s 0 0 (place s.border s.border)
searching-first m s = record { left = omega arith; top = omega arith; ahead = peaks-start m s; found = omega arith; looked = refl }

module _ (m : List Float) (s : Search) (rows i : ℕ) (p : Place) (a : Searching m s rows i p) where
  -- no more are wanted
  pub searching-yes : (wanted : ℕ) → i ≡ wanted → Yes rows ≡ enough_of s wanted (peaks_in m s)
  unfolding enough_of
  searching-yes wanted e =
      let peaks = peaks_in m s in
      let enough = le-leb wanted (length peaks) (omega (arith, a.found)) in
      ap Yes (a.looked ∙ ap (λ (n : ℕ). rows_for s n peaks) e) ∙ ap (λ (b : Bool). answer_of b (rows_for s wanted peaks)) (sym enough)

  -- one more is found
  pub searching-next : (q : Spot) → FirstFrom m s p q → (rows' : ℕ) → rows' ≡ q.y - s.border + 1
      → Searching m s rows' (i + 1) (place_behind (place_of q))
  searching-next q f rows' e =
      let here = a.ahead ∙ f.ahead in record {
        left = omega (arith, f.inside.left);
        top = f.inside.top;
        ahead = drop-next (peaks_in m s) i (place_of q) (peaks_from m s (place_behind (place_of q))) here;
        found = omega (arith, length-drop i (peaks_in m s), ap length here);
        looked = e ∙ ap (rows_to s) (sym here) ∙ ap (λ (n : ℕ). rows_for s n (peaks_in m s)) (sym (add-one i));
      }

  -- there is none, and another was wanted
  pub searching-no : peaks_from m s p ≡ [] → (wanted : ℕ) → i < wanted
      → (rows' : ℕ) → rows' ≡ rows_inside s → No rows' ≡ enough_of s wanted (peaks_in m s)
  unfolding enough_of
  searching-no f zero o rows' e = absurd (let no : ⊥ = omega arith in no)
  searching-no f (suc n) o rows' e =
      let peaks = peaks_in m s in
      let all : length peaks ≤ i = omega (arith, length-drop i peaks, ap length (a.ahead ∙ f)) in
      let none = drop_of_length-le peaks {i = n} (omega arith) in
      let few = lt-leb (suc n) (length peaks) (omega arith) in
      ap No (e ∙ ap (rows_to s) (sym none)) ∙ ap (λ (b : Bool). answer_of b (rows_to s (drop n peaks))) (sym few)

-- ---- the promise
module _ (conds : List (Bool × ℕ)) (m : List Float) (s : Search) (wanted : ℕ) where
  pub enough-refused : (e : Refusal) → All (λ c. Known c.1) conds → Err e ≡ verdict (lowest conds) → EnoughFound conds m s wanted (Err e)
  enough-refused e known p =
      let answer = judged-err _ _ (enough_of s wanted (peaks_in m s)) e p in
      record {
        answer = answer;
        number = number-judged _ _ answer (lowest-known conds known);
        values = values-refused _ _ e _ p;
      }

  -- where none of the conditions holds, by the search with t
  pub enough-found : lowest conds ≡ 0 → (t : Search) → t ≡ s → (r : Enough) → r ≡ enough_of t wanted (peaks_in m t)
      → EnoughFound conds m s wanted (Ok r)
  enough-found z t same r is =
      let e = is ∙ ap (λ (u : Search). enough_of u wanted (peaks_in m u)) same in record {
        answer = rw (e, z);
        number = sym z;
        values = ap (λ (a : Enough). values_of (Ok a)) e ∙ unfold enough_of in
            (values (leb wanted (length (peaks_in m s))) (rows_for s wanted (peaks_in m s))) ∙ rw z;
      }
    where
      values : (b : Bool) (rows : ℕ) → values_of (Ok (answer_of b rows)) ≡ cond b 1 0 ∷ rows ∷ []
      values true rows = refl
      values false rows = refl
