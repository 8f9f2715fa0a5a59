-- The least of a list of multiples of 1/64 is one of them, and at most each. Assumes nothing.
use Prim.Native.Nat.{ℕ, ◌-◌, ◌≤◌, ◌<◌}
use native.Mathlib.Nat.{eq-zero-or-pos}
use native.Mathlib.Omega.{arith}
use mathlib.Core.Path.{◌≡◌, refl, sym, subst}
use mathlib.Core.Logic.{⊎_elim}
use mathlib.Core.Bool.{Bool, true, false, cond}
use mathlib.Core.List.{List, [], ◌∷◌}
use lib.Dec.{T, lit<}
use lib.Ieee.{Float, nan, inf, fin, lt}
use Rattle.lists.specs.Places.{All}
use Rattle.float32.specs.Value.{IsValue}
use Rattle.float32.proofs.Values.{lt-value}
use Rattle.merge_grid.specs.Grid.{least_from}
use Rattle.merge_alike.proofs.Multiples.{Sixtyfourths, only-count}

-- at most x, in 64ths, however these are counted
abbrev pub AtMost : ℕ → Float → Type 0
AtMost n x = (k : ℕ) → IsValue x k 0 64 → n ≤ k

-- the least of m and a list, where m is n 64ths: so many 64ths, at most n and each of the list
pub record Least (least : Float) (n : ℕ) (l : List Float) : Type 0 where
  pub count : ℕ
  pub value : IsValue least count 0 64
  pub first : count ≤ n
  pub each : All (AtMost count) l

-- ---- two in order
module _ (x m : Float) (k n : ℕ) (v : IsValue x k 0 64) (w : IsValue m n 0 64) where
  below : lt x m ≡ true → k < n
  below e = let a = (lt-value x m k 0 n 0 64 (lit< tt) v w).0 (subst T (sym e) tt) in omega arith

  not_below : lt x m ≡ false → n ≤ k
  not_below e = ⊎_elim (λ (z : n - k ≡ 0). omega arith) (λ (z : 0 < n - k). absurd (no (omega arith))) (eq-zero-or-pos (n - k))
    where
      no : k < n → ⊥
      no l = subst T e ((lt-value x m k 0 n 0 64 (lit< tt) v w).1 (omega arith))

pub least-from : (m : Float) (n : ℕ) → IsValue m n 0 64 → (l : List Float) → All Sixtyfourths l → Least (least_from m l) n l
least-from m n v [] h = record { count = n; value = v; first = omega arith; each = tt }
least-from m n v (x ∷ l) h = go (lt x m) refl (least-from x h.0.count h.0.value l h.1) (least-from m n v l h.1)
  where
    k : ℕ
    k = h.0.count

    go : (b : Bool) → lt x m ≡ b → Least (least_from x l) k l → Least (least_from m l) n l → Least (least_from (cond b x m) l) n (x ∷ l)
    go true e r q = record {
      count = r.count;
      value = r.value;
      first = omega (arith, r.first, below x m k n h.0.value v e);
      each = ((λ i w. omega (arith, r.first, only-count x k i h.0.value w)), r.each);
    }
    go false e q r = record {
      count = r.count;
      value = r.value;
      first = r.first;
      each = ((λ i w. omega (arith, r.first, not_below x m k n h.0.value v e, only-count x k i h.0.value w)), r.each);
    }

-- ---- the least of a list of which one is given: the loop begins with infinity
below_inf : (x : Float) (k : ℕ) → IsValue x k 0 64 → lt x (inf false) ≡ true
unfolding lt
below_inf nan k v = absurd v.is_finite
below_inf (inf s) k v = absurd v.is_finite
below_inf (fin s m e) k v = refl

pub least-of : (x : Float) (l : List Float) (h : All Sixtyfourths (x ∷ l)) → Least (least_from (inf false) (x ∷ l)) h.0.count (x ∷ l)
least-of x l h =
    let k = h.0.count in
    let r = least-from x k h.0.value l h.1 in
    subst (λ (b : Bool). Least (least_from (cond b x (inf false)) l) k (x ∷ l)) (sym (below_inf x k h.0.value))
    (record {
      count = r.count;
      value = r.value;
      first = r.first;
      each = ((λ i w. omega (arith, r.first, only-count x k i h.0.value w)), r.each);
    })
