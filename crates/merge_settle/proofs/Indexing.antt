-- The kept corners stay indexed when one is put and listed, in the place of one of them or behind them; and the index made anew, corner by
-- corner. Assumes nothing.
use Prim.Native.Nat.{ℕ, ◌+◌, ◌<◌, ◌≤◌}
use native.Mathlib.Nat.{eq-or-lt_of_le}
use native.Mathlib.Decide.{ℕ_discrete}
use native.Mathlib.Omega.{arith}
use mathlib.Core.Path.{◌≡◌, sym, ap, ap₂, ◌∙◌, subst}
use mathlib.Core.Logic.{◌⊎◌, inl, inr, ⊎_elim}
use mathlib.Core.Bool.{Bool, cond}
use mathlib.Core.List.{List}
use lib.ListN.{length}
use lib.Ieee.{Float}
use borrow.Author.Count.{below_more}
use borrow.Author.Tests.{eq-eqb, ne_eqb}
use Rattle.corner_list.specs.declared.Corner.{Corner}
use Rattle.corner_list.specs.CornerList.{Slices, places_of, corner_at, with_corner}
use Rattle.corner_list.proofs.Corners.{with-here, with-there}
use Rattle.merge_grid.specs.declared.Grid.{Grid}
use Rattle.merge_grid.specs.declared.Position.{Position}
use Rattle.merge_grid.specs.Grid.{position_of, position_at, row_of, joins}
use Rattle.std.specs.Prelude.{Option, None, Some, IfSome}
use Rattle.merge_settle.specs.Settle.{count_with, put_at}
use Rattle.merge_settle.specs.Internal.{FirstPasses, joins_at, empty, home_at, PlaceListed, ListsAt, InIndex, Indexed}

pub indexed-none : (g : Grid) (floor : ℕ) (table : List ℕ) (xs ys : List Float) → 0 < length table → Indexed g floor table xs ys 0
indexed-none g floor table xs ys h = record { some = h; each = λ i l. absurd (let no : ⊥ = omega arith in no) }

module _ (g : Grid) (floor : ℕ) where
  -- a table with a place more: what was in the index still is, and the place is too
  module _ (table : List ℕ) (p : Position) (at : ℕ) (table' : List ℕ) (lists : ListsAt g p at table table') where
    again : (q : Position) (i : ℕ) → i < empty → InIndex g floor table q i → InIndex g floor table' q i
    again q i small =
        ⊎_elim inl (λ d. inr (subst (λ (m : ℕ). PlaceListed table' (home_at g m q) i) (sym lists.long)
        (lists.still (home_at g (length table) q) i small d)))

    listed : (q : Position) → p ≡ q → at < empty → InIndex g floor table' q at
    listed q e small = inr (subst (λ (h : ℕ). PlaceListed table' h at) (ap₂ (home_at g) (sym lists.long) e) (lists.listed small))

  -- a corner put in the place that it takes, and listed
  indexed-put : (table : List ℕ) (b : Slices) (k : ℕ) → Indexed g floor table b.xs b.ys k → (at : ℕ) (c : Corner)
      → at < places_of b
      → (table' : List ℕ) (b' : Slices) → b' ≡ with_corner at c b → (p : Position) → p ≡ position_of c → ListsAt g p at table table'
      → (n : ℕ) → n ≡ count_with k (Some at) → Indexed g floor table' b'.xs b'.ys n
  indexed-put table b k index at c fit table' b' put p is lists n e =
      record { some = omega (arith, lists.long, index.some); each = each }
    where
      old : (i : ℕ) → i < n → (i ≡ at → ⊥) → i < k
      old i l d =
          elim (ℕ_discrete at k) [
            | yes q ↦
                let m : n ≡ k + 1 = e ∙ ap (λ (t : Bool). cond t (k + 1) k) (eq-eqb at k q) in
                ⊎_elim (λ (p : i ≡ k). absurd (d (p ∙ sym q))) (λ l. l) (eq-or-lt_of_le (omega arith))
            | no q ↦ let m : n ≡ k = e ∙ ap (λ (t : Bool). cond t (k + 1) k) (ne_eqb at k q) in omega arith
          ]

      -- where the corner at a place is now
      now-at : (i : ℕ) → position_at b'.xs b'.ys i ≡ position_at (with_corner at c b).xs (with_corner at c b).ys i
      now-at i = ap (λ (d : Slices). position_at d.xs d.ys i) put

      here : at < empty → InIndex g floor table' (position_at b'.xs b'.ys at) at
      here small =
          listed table p at table' lists _ (is ∙ sym (now-at at ∙ ap position_of (with-here b at c fit))) small

      each : (i : ℕ) → i < n → i < empty → InIndex g floor table' (position_at b'.xs b'.ys i) i
      each i l small =
          elim (ℕ_discrete i at) [
            | yes e ↦ subst (λ (m : ℕ). InIndex g floor table' (position_at b'.xs b'.ys m) m) (sym e) (here (omega arith))
            | no e ↦
                subst (λ (q : Position). InIndex g floor table' q i) (sym (now-at i ∙ ap position_of (with-there b at c i e)))
                (again table p at table' lists _ i small (index.each i (old i l e) small))
          ]

  -- by the place that it takes, if it takes one
  module _ (table : List ℕ) (b : Slices) (k : ℕ) (index : Indexed g floor table b.xs b.ys k) (c : Corner) (place : Option ℕ) (b' : Slices)
      (put : b' ≡ put_at place c b) where
    pub indexed-dropped : place ≡ None → Indexed g floor table b'.xs b'.ys k
    indexed-dropped is = let same : b' ≡ b = put ∙ ap (λ (r : Option ℕ). put_at r c b) is in rw same index

    pub indexed-placed : (at : ℕ) → place ≡ Some at → IfSome place (λ r. r < places_of b) → (p : Position) → p ≡ position_of c
        → (table' : List ℕ) → ListsAt g p at table table' → (n : ℕ) → n ≡ count_with k (Some at) → Indexed g floor table' b'.xs b'.ys n
    indexed-placed at is fit p e table' lists n m =
        let inside : at < places_of b = rw is at fit in
        indexed-put table b k index at c inside table' b' (put ∙ ap (λ (r : Option ℕ). put_at r c b) is) p e lists n m

  -- ---- the index made anew, corner by corner
  module _ (table : List ℕ) (xs ys : List Float) (k : ℕ) (index : Indexed g floor table xs ys k) (p : Position)
      (is : p ≡ position_at xs ys k) where
    listed-too : (table' : List ℕ) → ListsAt g p k table table' → Indexed g floor table' xs ys (k + 1)
    listed-too table' lists = record {
      some = omega (arith, lists.long, index.some);
      each =
          below_more _ k
          (λ i l small. again table p k table' lists (position_at xs ys i) i small (index.each i l small))
          (listed table p k table' lists (position_at xs ys k) is);
    }

    left_out : row_of g p + 1 < floor → Indexed g floor table xs ys (k + 1)
    left_out h = record {
      some = index.some;
      each = below_more _ k index.each (λ small. inl (subst (λ (q : Position). row_of g q + 1 < floor) is h));
    }

    pub indexed-turn : (table' : List ℕ) → ((row_of g p + 1 < floor) × (table' ≡ table)) ⊎ ListsAt g p k table table'
        → Indexed g floor table' xs ys (k + 1)
    indexed-turn table' =
        ⊎_elim (λ w. subst (λ (t : List ℕ). Indexed g floor t xs ys (k + 1)) (sym w.1) (left_out w.0)) (listed-too table')

  pub indexed-fewer : (table : List ℕ) (xs ys : List Float) (k n : ℕ) → Indexed g floor table xs ys k → n ≤ k
      → Indexed g floor table xs ys n
  indexed-fewer table xs ys k n index h = record { some = index.some; each = λ i l. index.each i (omega arith) }

-- the slices of a view are those of the buffer
pub indexed-viewed : {g : Grid} {floor : ℕ} {slots : List ℕ} {k : ℕ} (s s' : Slices) → s ≡ s' → Indexed g floor slots s.xs s.ys k
    → Indexed g floor slots s'.xs s'.ys k
indexed-viewed {g} {floor} {slots} {k} s s' e i = subst (λ (d : Slices). Indexed g floor slots d.xs d.ys k) e i

-- the first that a corner joins, seen in a view
pub found-viewed : (g : Grid) (k : ℕ) (joined : Option ℕ) (p : Position) (c : Corner) (s s' : Slices) → s ≡ s' → p ≡ position_of c
    → FirstPasses (joins_at g p s.xs s.ys) k joined → FirstPasses (λ m. joins g c (corner_at s' m)) k joined
found-viewed g k joined p c s s' e q f = rw (e, q) at f
