-- What a corner joins is listed in one of four homes: those of its cell's pair each way, and of the next. Assumes nothing.
use Prim.Native.Nat.{ℕ, ◌+◌, ◌/◌, ◌<◌, ◌≤◌}
use native.Mathlib.Decide.{dec_lt}
use native.Mathlib.Omega.{arith}
use mathlib.Core.Path.{◌≡◌, sym, ap, ◌∙◌, subst}
use mathlib.Core.Logic.{◌⊎◌, inl, inr, ⊎_elim}
use mathlib.Core.Bool.{true}
use mathlib.Core.List.{List}
use lib.Ieee.{Float}
use Rattle.merge_grid.specs.declared.Grid.{Grid}
use Rattle.merge_grid.specs.declared.Position.{Position}
use Rattle.merge_grid.specs.Grid.{position_at, column_of, row_of}
use Rattle.merge_grid.proofs.Joined.{Beside, joined-cells}
use Rattle.merge_settle.specs.Internal.{joins_at, empty, pair_of, ListedAt, Indexed}

pairs-near : (a n : ℕ) → Beside a n → (pair_of n ≡ a / 2) ⊎ (pair_of n ≡ a / 2 + 1)
pairs-near a n w = elim (dec_lt (a / 2) (pair_of n)) [ yes l ↦ inr (omega arith) | no l ↦ inl (omega arith) ]

module _ (g : Grid) (floor : ℕ) (table : List ℕ) (xs ys : List Float) (k : ℕ) (index : Indexed g floor table xs ys k)
    (p : Position) (x y : ℕ)
    (ex : x ≡ column_of g p / 2) (ey : y ≡ row_of g p / 2) where
  -- one of the four homes
  abbrev Near : ℕ → Type 0
  Near i = (ListedAt table x y i ⊎ ListedAt table (x + 1) y i) ⊎ (ListedAt table x (y + 1) i ⊎ ListedAt table (x + 1) (y + 1) i)

  pub all_near : k ≤ empty → floor ≤ row_of g p → (i : ℕ) → i < k → joins_at g p xs ys i ≡ true → Near i
  all_near small low i l t =
      let q = position_at xs ys i in
      let beside = joined-cells g p q t in
      ⊎_elim (λ far. absurd (let no : ⊥ = omega (arith, beside.1.up) in no)) (by-pairs q beside) (index.each i l (omega arith))
    where
      next : (m n : ℕ) → m ≡ n → n + 1 ≡ m + 1
      next m n e = ap (λ (q : ℕ). q + 1) (sym e)

      by-pairs : (q : Position) → Beside (column_of g p) (column_of g q) × Beside (row_of g p) (row_of g q)
          → ListedAt table (pair_of (column_of g q)) (pair_of (row_of g q)) i → Near i
      by-pairs q beside d =
          let u : ℕ = pair_of (column_of g q) in
          let v : ℕ = pair_of (row_of g q) in
          let across = pairs-near (column_of g p) (column_of g q) beside.0 in
          let down = pairs-near (row_of g p) (row_of g q) beside.1 in
          let to : (m n : ℕ) → u ≡ m → v ≡ n → ListedAt table m n i
          = λ m n p q. subst (λ (m : ℕ). ListedAt table m n i) p (subst (λ (n : ℕ). ListedAt table u n i) q d) in
          let ex' = next x _ ex in
          let ey' = next y _ ey in
          ⊎_elim
          (λ a. ⊎_elim (λ d. inl (inl (to x y (a ∙ sym ex) (d ∙ sym ey)))) (λ d. inr (inl (to x (y + 1) (a ∙ sym ex) (d ∙ ey')))) down)
          (λ a. ⊎_elim (λ d. inl (inr (to (x + 1) y (a ∙ ex') (d ∙ sym ey))))
          (λ d. inr (inr (to (x + 1) (y + 1) (a ∙ ex') (d ∙ ey')))) down)
          across
