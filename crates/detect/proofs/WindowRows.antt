-- A window inside the border, row by row: whether a cell is larger than the centre's value v, and how many pass a test, as being above 0 or
-- equal to v; and how many ties there can be. Assumes nothing.
use Rattle.std.proofs.Common.{◌≡◌, ℕ, ◌+◌, ◌-◌, ◌*◌, ◌<◌, ◌≤◌, Bool, true, false, cond, not, ◌&&◌, eqb, leb, List, length, sym, refl, ap}
use Rattle.std.proofs.Common.{◌∙◌, arith, eqb-true, leb-true}
use lib.Ieee.{Float, nan, binary32, add, lt, eq}
use Rattle.lists.specs.Places.{Place, block, any, count}
use Rattle.lists.proofs.Places.{count-block-le}
use Rattle.lists.proofs.Rows.{row_part, AnyRows, CountRows, any_found, any_next, any-nowhere, rows_next, rows_all}
use Rattle.float32.specs.Float32.{zero}
use Rattle.detect.specs.declared.Search.{Search}
use Rattle.detect.specs.Peaks.{window, beaten, equals, positives, value_at, slack, beats, larger_by, equal_in, positive_in}
use Rattle.detect.specs.Internal.{Inside}
use Rattle.detect.specs.Internal.{place, Searchable}
use Rattle.detect.proofs.Cells.{row_in}
use Rattle.detect.proofs.Window.{over-bar, beaten-whole, count-whole}

-- the first column or row of the window about x, and the one past its last
abbrev pub from : Search → ℕ → ℕ
from s x = x - s.window

abbrev pub past : Search → ℕ → ℕ
past s x = x + s.window + 1

-- the part of row yy of a map that lies in the window about column x
abbrev pub part : List Float → Search → ℕ → ℕ → List Float
part m s x yy = row_part m s.w yy (from s x) (past s x)

module _ (m : List Float) (s : Search) (x y : ℕ) where
  -- what the rows of the window about (x, y) before row yy have said: that none has a cell above v, and that n cells pass a test
  abbrev NoneAbove : Bool → Float → ℕ → Type 0
  NoneAbove b v yy = AnyRows (beats b v) m s.w nan (from s x) (past s x) (from s y) (past s y) yy

  abbrev Counted : (Float → Bool) → ℕ → ℕ → Type 0
  Counted f n yy = CountRows f m s.w nan (from s x) (past s x) (from s y) (past s y) n yy

  -- what the two tests are to answer
  abbrev unbeaten : Bool → Bool
  unbeaten b = not (beaten (larger_by b m s.w) s.w s.h s.window (place x y))

  abbrev passing : (Float → Bool) → ℕ
  passing f = count (λ q. f (value_at m s.w q)) (window s.w s.h s.window (place x y))

-- the square about a place has at most 1,089 cells
few-about : (m : List Float) (s : Search) (x y : ℕ) → Searchable m s → (f : Place → Bool)
    → count f (block (from s x) (past s x) (from s y) (past s y)) ≤ 1089
few-about m s x y k f =
    let narrow : past s x - from s x ≤ 33 = omega (arith, k.radius) in
    let low : past s y - from s y ≤ 33 = omega (arith, k.radius) in
    count-block-le f (from s x) (past s x) (from s y) (past s y) 33 33 narrow low

module _ (m : List Float) (s : Search) (x y : ℕ) (v : Float) (k : Searchable m s)
    (i : Inside s.w s.h s.border (place x y)) (e : v ≡ value_at m s.w (place x y)) where
  -- ---- at a row of the window
  module _ (yy : ℕ) (l : yy < past s y) where
    row_within : yy * s.w + past s x ≤ length m
    row_within = row_in m s k yy (omega (arith, i.bottom, k.inside)) (past s x) (omega (arith, i.right, k.inside))

    module _ (b : Bool) (bar : Float) (is : bar ≡ cond b (add binary32 v slack) v) (a : NoneAbove m s x y b v yy)
        (t : Bool) (found : t ≡ any (λ u. lt v u && lt bar u) (part m s x yy)) where
      beating : t ≡ any (beats b v) (part m s x yy)
      beating = found ∙ over-bar b v bar is (part m s x yy)

      pub larger-here : t ≡ true → false ≡ unbeaten m s x y b
      larger-here q =
          ap not
          (sym (any_found (beats b v) m s.w nan (from s x) (past s x) (from s y) (past s y) yy a (omega arith) l row_within t beating q)
          ∙ beaten-whole m s.w s.h s.border s.window (place x y) v k.inside i e b)

      pub larger-next : t ≡ false → NoneAbove m s x y b v (yy + 1)
      larger-next q =
          any_next (beats b v) m s.w nan (from s x) (past s x) (from s y) (past s y) yy a (omega arith) l row_within t beating q

    module _ (f : Float → Bool) (n : ℕ) (a : Counted m s x y f n yy) (t : ℕ) (found : t ≡ count f (part m s x yy)) where
      pub count_next : Counted m s x y f (n + t) (yy + 1)
      count_next = rows_next f m s.w nan (from s x) (past s x) (from s y) (past s y) n yy a (omega arith) l row_within t found

      pub count_fits : n + t ≤ 1089
      count_fits = omega (arith, count_next.sum, few-about m s x y k (λ q. f (value_at m s.w q)))

  -- ---- behind the last
  module _ (yy : ℕ) (l : past s y ≤ yy) where
    pub larger-nowhere : (b : Bool) → NoneAbove m s x y b v yy → true ≡ unbeaten m s x y b
    larger-nowhere b a =
        ap not
        (sym (any-nowhere (beats b v) m s.w nan (from s x) (past s x) (from s y) (past s y) yy a l)
        ∙ beaten-whole m s.w s.h s.border s.window (place x y) v k.inside i e b)

    module _ (f : Float → Bool) (n : ℕ) (a : Counted m s x y f n yy) where
      pub count-all : n ≡ passing m s x y f + cond (f v) 1 0
      count-all =
          rows_all f m s.w nan (from s x) (past s x) (from s y) (past s y) n yy a l
          ∙ count-whole m s.w s.h s.border s.window (place x y) v k.inside i e f

  -- the cells above 0 are the centre's positive neighbours, and those that equal v its ties
  pub positives-are : passing m s x y (lt zero) ≡ positives (positive_in m s.w) s.w s.h s.window (place x y)
  unfolding positives
  positives-are = refl

  pub equals-are : passing m s x y (eq v) ≡ equals (equal_in m s.w) s.w s.h s.window (place x y)
  unfolding equals
  equals-are = ap (λ (u : Float). passing m s x y (eq u)) e

-- n cells of the square are counted, k of the window, and the centre where b holds: it is taken off
module _ (n k : ℕ) (b : Bool) (e : n ≡ k + cond b 1 0) where
  pub centre-in : b ≡ true → 1 ≤ n
  centre-in q = omega (arith, rw q at e)

  pub centre-off : b ≡ true → n - 1 ≡ k
  centre-off q = omega (arith, rw q at e)

  pub centre-not : b ≡ false → n ≡ k
  centre-not q = omega (arith, rw q at e)

  -- as a cell that is counted is
  pub with-centre : b ≡ true → n ≡ k + 1
  with-centre q = omega (arith, rw q at e)

-- and where it was: how few the others are
module _ (n k : ℕ) (e : n ≡ k + 1) where
  pub others-few : (l j : ℕ) → k ≡ j → leb n l ≡ true → j < l
  others-few l j f g = omega (arith, e, f, leb-true n l g)

  pub others-none : eqb n 1 ≡ true → k ≡ 0
  others-none g = omega (arith, e, eqb-true n 1 g)
