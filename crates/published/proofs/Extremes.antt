-- The least and the greatest of numbers that are finite and not negative, and that each lies between the two. Assumes nothing.
use mathlib.Core.Path.{◌≡◌, refl}
use mathlib.Core.Logic.{◌↔◌}
use mathlib.Core.Bool.{Bool, true, false, cond}
use mathlib.Core.List.{List, [], ◌∷◌}
use Prim.Native.Nat.{◌*◌, ◌≤◌}
use native.Mathlib.Nat.{mul-pos, mul_comm}
use native.Mathlib.Omega.{arith}
use lib.Dec.{T, T_not}
use lib.Ieee.{Float, nan, inf, fin, lt, le}
use lib.Ieee.Positive.{num, den, den_pos, through}
use lib.Ieee.Scale.{finite}
use Rattle.lists.specs.Places.{All}
use Rattle.lists.proofs.Tests.{to-T-not}
use Rattle.lists.proofs.Members.{all_both}
use Rattle.float32.specs.Float32.{zero}
use Rattle.float32.proofs.Values.{le_not_lt}
use Rattle.merge_grid.specs.Grid.{least_from}
use Rattle.published.specs.MergeRs.{greatest_from}
use Rattle.published.proofs.Monotone.{Is, is-scaled, order, own_is}

-- finite, and not negative
pub record Plain (x : Float) : Type 0 where
  pub above : T (le zero x)
  pub bounded : T (finite x)

-- over a denominator that two share
shared : (x y : Float) → Plain x → Plain y → Is x (num x * den y) (den x * den y) × Is y (num y * den x) (den x * den y)
shared x y p q = (
  is-scaled x (num x) (den x) (den y) (den_pos x) (den_pos y) (own_is x p.above p.bounded),
  rw (mul_comm (den x) (den y)) (is-scaled y (num y) (den y) (den x) (den_pos y) (den_pos x) (own_is y q.above q.bounded)),
)

pub crossed : (x y : Float) → Plain x → Plain y → T (le x y) ↔ (num x * den y ≤ num y * den x)
crossed x y p q = let s = shared x y p q in
    order x y (num x * den y) (num y * den x) (den x * den y) (mul-pos (den_pos x) (den_pos y)) s.0 s.1

le_trans : (x y z : Float) → Plain x → Plain y → Plain z → T (le x y) → T (le y z) → T (le x z)
le_trans x y z p q r a b =
    (crossed x z p r).1 (through (num x) (num y) (num z) (den x) (den y) (den z) (den_pos y) ((crossed x y p q).0 a)
    ((crossed y z q r).0 b))

le-self : (x : Float) → Plain x → T (le x x)
le-self x p = (crossed x x p p).1 (omega arith)

le_of_lt : (x y : Float) → lt x y ≡ true → T (le x y)
unfolding le
le_of_lt x y e = rw e tt

le-of-not : (x y : Float) → Plain x → Plain y → lt x y ≡ false → T (le y x)
le-of-not x y p q e = (le_not_lt y x q.bounded p.bounded).1 (λ t. T_not (lt x y) (to-T-not e) t)

-- ---- one of a list, chosen step by step
chosen : (Float → Float → Float) → Float → List Float → Float
chosen f m [] = m
chosen f m (v ∷ l) = chosen f (f m v) l

-- ahead of every number of the list
record Ahead (R : Float → Float → Type 0) (m : Float) (l : List Float) (x : Float) : Type 0 where
  plain : Plain x
  first : R x m
  each : All (R x) l

module _ (R : Float → Float → Type 0) (f : Float → Float → Float)
    (self : (x : Float) → Plain x → R x x)
    (trans : (x y z : Float) → Plain x → Plain y → Plain z → R x y → R y z → R x z)
    (stays : (m v : Float) → Plain m → Plain v → Plain (f m v))
    (left : (m v : Float) → Plain m → Plain v → R (f m v) m)
    (right : (m v : Float) → Plain m → Plain v → R (f m v) v) where
  chosen-ahead : (m : Float) (l : List Float) → Plain m → All Plain l → Ahead R m l (chosen f m l)
  unfolding chosen
  chosen-ahead m [] p a = record { plain = p; first = self m p; each = tt }
  chosen-ahead m (v ∷ l) p a =
      let q = stays m v p a.0 in
      let r = chosen-ahead (f m v) l q a.1 in
      record {
        plain = r.plain;
        first = trans _ (f m v) m r.plain q p r.first (left m v p a.0);
        each = (trans _ (f m v) v r.plain q a.0 r.first (right m v p a.0), r.each);
      }

either : (b : Bool) (m v : Float) → Plain m → Plain v → Plain (cond b v m)
either true m v p q = q
either false m v p q = p

-- ---- the least
abbrev lower : Float → Float → Float
lower m v = cond (lt v m) v m

least-is : (m : Float) (l : List Float) → least_from m l ≡ chosen lower m l
unfolding chosen
least-is m [] = refl
least-is m (v ∷ l) = least-is (lower m v) l

least-ahead : (m : Float) (l : List Float) → Plain m → All Plain l → Ahead (λ x y. T (le x y)) m l (least_from m l)
least-ahead m l p a =
    rw (least-is m l)
    (chosen-ahead (λ x y. T (le x y)) lower le-self le_trans (λ m v. either (lt v m) m v)
    (λ m v p q. by_left m v p q (lt v m) refl) (λ m v p q. by_right m v p q (lt v m) refl) m l p a)
  where
    by_left : (m v : Float) → Plain m → Plain v → (b : Bool) → lt v m ≡ b → T (le (cond b v m) m)
    by_left m v p q true e = le_of_lt v m e
    by_left m v p q false e = le-self m p

    by_right : (m v : Float) → Plain m → Plain v → (b : Bool) → lt v m ≡ b → T (le (cond b v m) v)
    by_right m v p q true e = le-self v q
    by_right m v p q false e = le-of-not v m q p e

-- ---- the greatest
abbrev higher : Float → Float → Float
higher m v = cond (lt m v) v m

greatest-is : (m : Float) (l : List Float) → greatest_from m l ≡ chosen higher m l
unfolding chosen
greatest-is m [] = refl
greatest-is m (v ∷ l) = greatest-is (higher m v) l

greatest-ahead : (m : Float) (l : List Float) → Plain m → All Plain l → Ahead (λ x y. T (le y x)) m l (greatest_from m l)
greatest-ahead m l p a =
    rw (greatest-is m l)
    (chosen-ahead (λ x y. T (le y x)) higher le-self (λ x y z p q r a b. le_trans z y x r q p b a) (λ m v. either (lt m v) m v)
    (λ m v p q. by_left m v p q (lt m v) refl) (λ m v p q. by_right m v p q (lt m v) refl) m l p a)
  where
    by_left : (m v : Float) → Plain m → Plain v → (b : Bool) → lt m v ≡ b → T (le m (cond b v m))
    by_left m v p q true e = le_of_lt m v e
    by_left m v p q false e = le-self m p

    by_right : (m v : Float) → Plain m → Plain v → (b : Bool) → lt m v ≡ b → T (le v (cond b v m))
    by_right m v p q true e = le-self v q
    by_right m v p q false e = le-of-not m v p q e

-- ---- of a list of which one is given: the loops begin with the infinities
pub record Extremes (l : List Float) (low high : Float) : Type 0 where
  pub least : Plain low
  pub greatest : Plain high
  pub between : All (λ v. T (le low v) × T (le v high)) l

from-inf : (v : Float) → Plain v → (lt v (inf false) ≡ true) × (lt (inf true) v ≡ true)
unfolding lt
from-inf nan p = absurd p.bounded
from-inf (inf s) p = absurd p.bounded
from-inf (fin s m e) p = (refl, refl)

pub extremes : (v : Float) (l : List Float) → All Plain (v ∷ l)
    → Extremes (v ∷ l) (least_from (inf false) (v ∷ l)) (greatest_from (inf true) (v ∷ l))
extremes v l a =
    let i = from-inf v a.0 in
    let s = least-ahead v l a.0 a.1 in
    let t = greatest-ahead v l a.0 a.1 in
    rw (i.0, i.1) (record { least = s.plain; greatest = t.plain; between = ((s.first, t.first), all_both _ _ l s.each t.each) })

-- and what holds of each holds of the greatest
chosen-keeps : (P : Float → Type 0) (f : Float → Float → Float) → ((m v : Float) → P m → P v → P (f m v))
    → (m : Float) (l : List Float) → P m → All P l → P (chosen f m l)
unfolding chosen
chosen-keeps P f h m [] p a = p
chosen-keeps P f h m (v ∷ l) p a = chosen-keeps P f h (f m v) l (h m v p a.0) a.1

pub greatest-keeps : (P : Float → Type 0) (v : Float) (l : List Float) → Plain v → All P (v ∷ l) → P (greatest_from (inf true) (v ∷ l))
greatest-keeps P v l p a = rw ((from-inf v p).1, greatest-is v l) (chosen-keeps P higher (λ m u. pick m u (lt m u)) v l a.0 a.1)
  where
    pick : (m u : Float) (b : Bool) → P m → P u → P (cond b u m)
    pick m u true p q = q
    pick m u false p q = p
