-- From the laws of detect: an answer that is not refused is that of counting, and what was not looked at does not change it. Assumes
-- nothing.
use Prim.Native.Nat.{ℕ, zero, suc, ◌≤◌}
use mathlib.Core.Path.{◌≡◌, refl, sym, ap, subst, ◌∙◌}
use mathlib.Core.Logic.{◌↔◌}
use mathlib.Core.Bool.{Bool, true, false}
use mathlib.Core.List.{List}
use lib.ListN.{length, length-map}
use lib.Dec.{leb}
use lib.Ieee.{Float}
use borrow.Author.Tests.{leb-true, le-leb}
use Rattle.std.specs.Prelude.{Result, Ok}
use Rattle.lists.specs.declared.refusal.Refusal.{Refusal}
use Rattle.lists.specs.Refusals.{lowest, judged}
use Rattle.lists.proofs.Tab.{length-tab}
use Rattle.detect.specs.declared.Search.{Search}
use Rattle.detect.specs.declared.enough.Enough.{Enough}
use Rattle.detect.specs.Detect.{search_of, peaks_in, start_at, conditions}
use Rattle.detect.specs.Enough.{rows_for, answer_of, enough_of, EnoughFound, SameNear}
use Rattle.detect.proofs.Seen.{same_answer}
use Rattle.demands.specs.PeakCall.{PeakCall, search_in}
use Rattle.demands.specs.Enough.{is_yes, rows_of, EnoughIsCounting, LooksNoFurther}
use Rattle.demands.proofs.Added.{no-fault, added-are}

-- ---- yes and rows of an answer that is not refused

yes-is : (b : Bool) (rows : ℕ) → is_yes (Ok (answer_of b rows)) ≡ b
yes-is true rows = refl
yes-is false rows = refl

rows_are : (b : Bool) (rows : ℕ) → rows_of (Ok (answer_of b rows)) ≡ rows
rows_are true rows = refl
rows_are false rows = refl

-- ---- counting
module _ (conds : List (Bool × ℕ)) (m : List Float) (s : Search) (wanted : ℕ) (r : Result Enough Refusal)
    (f : EnoughFound conds m s wanted r)
    (none : lowest conds ≡ 0) where
  counted : is_yes r ≡ leb wanted (length (peaks_in m s))
  unfolding enough_of
  counted =
      ap is_yes (f.answer ∙ ap (λ (k : ℕ). judged k (enough_of s wanted (peaks_in m s))) none)
      ∙ yes-is (leb wanted (length (peaks_in m s))) (rows_for s wanted (peaks_in m s))

  counts : (is_yes r ≡ true) ↔ (wanted ≤ length (peaks_in m s))
  counts = (
    λ y. leb-true wanted (length (peaks_in m s)) (sym counted ∙ y),
    λ l. counted ∙ le-leb wanted (length (peaks_in m s)) l,
  )

-- as many as a call of peak finding added
number-added : (m : List Float) (w h : ℕ) (p : PeakCall m w h) → length (peaks_in m (search_in p)) ≡ p.added
number-added m w h p =
    sym (length-map (peaks_in m (search_in p)) (start_at m (search_in p))) ∙ sym (ap length (added-are m w h p)) ∙ length-tab p.added _

pub enough_is_counting : EnoughIsCounting
enough_is_counting = record {
  by_peaks = λ m w h ring threshold window least radius wanted r f e. counts
      (conditions (length m) w h ring window radius) m (search_of w h ring threshold window least radius) wanted r f (sym f.number ∙ e);
  by_call = λ m w h p wanted r f. subst
      (λ (n : ℕ). (is_yes r ≡ true) ↔ (wanted ≤ n)) (number-added m w h p)
      (counts (conditions (length m) w h p.ring p.window p.radius) m (search_in p) wanted r f (no-fault m w h p).none);
}

-- ---- what is not looked at
module _ (m m' : List Float) (s : Search) (wanted : ℕ) (r r' : Result Enough Refusal) (same : SameNear s (rows_of r) m m') where
  looked : r ≡ Ok (enough_of s wanted (peaks_in m s)) → rows_of r ≡ rows_for s wanted (peaks_in m s)
  unfolding enough_of
  looked e = ap rows_of e ∙ rows_are (leb wanted (length (peaks_in m s))) (rows_for s wanted (peaks_in m s))

  -- by the number of the two calls
  same_by : (k : ℕ) → r ≡ judged k (enough_of s wanted (peaks_in m s))
      → r' ≡ judged k (enough_of s wanted (peaks_in m' s)) → r ≡ r'
  same_by zero e e' = e ∙ ap Ok (same_answer m m' s wanted (subst (λ (n : ℕ). SameNear s n m m') (looked e) same)) ∙ sym e'
  same_by (suc k) e e' = e ∙ sym e'

pub looks_no_further : LooksNoFurther
looks_no_further m m' w h ring threshold window least radius wanted r r' f f' long same =
    let s = search_of w h ring threshold window least radius in
    same_by m m' s wanted r r' same (lowest (conditions (length m) w h ring window radius)) f.answer
    (f'.answer
    ∙ ap (λ (n : ℕ). judged (lowest (conditions n w h ring window radius)) (enough_of s wanted (peaks_in m' s))) (sym long))
