-- What a caller of the patch function can use: the answer taken apart, and the buffer by column and row. Assumes nothing.
use mathlib.Core.Path.{◌≡◌, sym, ap, ◌∙◌}
use mathlib.Core.List.{List}
use Prim.Native.Nat.{ℕ, ◌+◌, ◌*◌, ◌<◌, ◌≤◌, ◌-◌}
use native.Mathlib.Omega.{arith}
use native.Mathlib.Nat.{mul_comm}
use borrow.Author.Tests.{ne_eqb}
use lib.Ieee.{Float}
use lib.ListN.{length, get_or, take, drop, get_or-append}
use Rattle.lists.specs.Places.{All}
use Rattle.lists.specs.Buffer.{front}
use Rattle.lists.proofs.Tab.{length-grid, get_d-grid}
use Rattle.lists.proofs.Places.{in_map}
use Rattle.lists.proofs.Members.{all-grid}
use Rattle.lists.proofs.Buffer.{front_length, front-take}
use Rattle.ring.specs.Ring.{Ring}
use Rattle.response.specs.Patch.{View, whole, side_of, map_width, map_height, left, top, response_in, cells, inner_in, inner_cells}
use Rattle.response.specs.Patch.{refusal_of, MapMade}
use Rattle.response.specs.declared.Patch.{Patch}
use Rattle.response.proofs.Inside.{far-off}
use Rattle.response.proofs.Outcome.{number_of, taken}
use Rattle.std.specs.Prelude.{Result, Ok, Err}
use Rattle.lists.specs.declared.refusal.Refusal.{Refusal}
use Rattle.lists.specs.Refusals.{refusal_number}
use Rattle.lists.specs.Refusals as answers
use Rattle.lists.proofs.Judged.{judged-ok, refused-some, refused-stays}

-- the buffer d after a map of pw by ph with the cells cs was made
pub record Made (v : View) (cs d e : List Float) (pw ph : ℕ) : Type 0 where
  pub cols-are : pw ≡ map_width v
  pub rows_are : ph ≡ map_height v
  pub enough : ph * pw ≤ length d
  pub fills : e ≡ front cs d

-- with all of its cells
abbrev pub Filled : View → List Float → List Float → ℕ → ℕ → Type 0
Filled v = Made v (cells v)

-- ---- the answer
module _ (v : View) {cs : List Float} (radius : ℕ) (d e : List Float) (r : Result Patch Refusal) (p : MapMade v cs radius d r e) where
  -- a map was made
  pub filled : (pw ph : ℕ) → r ≡ Ok (record { w = pw; h = ph }) → Made v cs d e pw ph
  filled pw ph c =
      let q = judged-ok _ _ _ (sym c ∙ p.answer) in
      let cols = ap (λ (m : Patch). m.w) q.1 in
      let rows = ap (λ (m : Patch). m.h) q.1 in
      record {
        cols-are = cols;
        rows_are = rows;
        enough = rw (cols, rows) (taken _ _ _ _ _ _ (sym (number_of v radius (length d)) ∙ q.0)).enough;
        fills = p.buffer ∙ rw q.0;
      }

  -- or refused, and the buffer is as it was
  pub refused : (x : Refusal) → r ≡ Err x → (refusal_of v radius (length d) ≡ refusal_number x) × (e ≡ d)
  refused x c = (sym p.number ∙ ap answers.number_of c, p.buffer ∙ refused-stays _ _ x _ _ (sym c ∙ p.answer))

  -- where nothing refuses, a map is made
  module _ (none : refusal_of v radius (length d) ≡ 0) where
    pub accepted : r ≡ Ok (record { w = map_width v; h = map_height v })
    accepted = p.answer ∙ rw none

    pub never-refused : (x : Refusal) → r ≡ Err x → ⊥
    never-refused x c = refused-some _ _ x (sym c ∙ p.answer) none

-- ---- the map
pub cells-length : (v : View) → length (cells v) ≡ map_height v * map_width v
unfolding cells
cells-length v = length-grid (map_width v) (map_height v) (response_in v)

-- the cell of column i and row j
pub cells_at : (v : View) (i j : ℕ) (x : Float) → i < map_width v → j < map_height v
    → get_or (cells v) (j * map_width v + i) x ≡ response_in v i j
unfolding cells
cells_at v i j x p q = get_d-grid (map_width v) (map_height v) (response_in v) i j x p q

-- what holds of each cell's response
pub cells-all : (P : Float → Type 0) (v : View) → ((i j : ℕ) → i < map_width v → j < map_height v → P (response_in v i j)) → All P (cells v)
unfolding cells
cells-all P v h = all-grid P (map_width v) (map_height v) (response_in v) h

-- those inside a margin
pub inner-length : (v : View) (margin : ℕ) → length (inner_cells v margin) ≡ map_height v * map_width v
unfolding inner_cells
inner-length v margin = length-grid (map_width v) (map_height v) (inner_in v margin)

pub inner-at : (v : View) (margin i j : ℕ) (x : Float) → margin ≤ i → i + margin < map_width v → margin ≤ j → j + margin < map_height v
    → get_or (inner_cells v margin) (j * map_width v + i) x ≡ get_or (cells v) (j * map_width v + i) x
unfolding inner_cells
inner-at v margin i j x a b c d =
    let p : i < map_width v = omega arith in
    let q : j < map_height v = omega arith in
    get_d-grid (map_width v) (map_height v) (inner_in v margin) i j x p q
    ∙ rw (far-off margin (map_width v) (map_height v) i j a b c d) (sym (cells_at v i j x p q))

-- ---- the buffer, of any cells that fill the map
module _ (v : View) {cs : List Float} (long : length cs ≡ map_height v * map_width v) (d e : List Float) (pw ph : ℕ)
    (f : Made v cs d e pw ph) where
  area : ph * pw ≡ length cs
  area = rw (f.cols-are, f.rows_are) (sym long)

  pub made-length : length e ≡ length d
  made-length = rw f.fills (front_length cs d (rw (← area) f.enough))

  pub made-front : take (ph * pw) e ≡ cs
  made-front = rw f.fills (front-take cs d (ph * pw) area)

module _ (v : View) (d e : List Float) (pw ph : ℕ) (f : Filled v d e pw ph) where
  pub same_length : length e ≡ length d
  same_length = made-length v (cells-length v) d e pw ph f

  pub front-is : take (ph * pw) e ≡ cells v
  front-is = made-front v (cells-length v) d e pw ph f

  pub place_in : (i j : ℕ) → i < pw → j < ph → j * pw + i < length e
  place_in i j p q = omega (arith, same_length, f.enough, in_map pw ph i j p q, mul_comm pw ph)

  pub cell_at : (i j : ℕ) (x : Float) → i < pw → j < ph → get_or e (j * pw + i) x ≡ response_in v i j
  cell_at i j x p q =
      rw f.fills
      (get_or-append (cells v) (drop (length (cells v)) d) x (j * pw + i)
      (omega (arith, area v (cells-length v) d e pw ph f, in_map pw ph i j p q, mul_comm pw ph))
      ∙ rw f.cols-are (cells_at v i j x (omega (arith, f.cols-are)) (omega (arith, f.rows_are))))

-- ---- a box inside the image keeps its sides and its corner; and the whole image
module _ (v : View) (wide : v.x0 < v.x1) (high : v.y0 < v.y1) (in-width : v.x1 ≤ v.w) (in-height : v.y1 ≤ v.h) where
  pub box-cols : map_width v ≡ v.x1 - v.x0
  box-cols = rw (ne_eqb (side_of v.h v.y0 v.y1) 0 (λ z. let no : ⊥ = omega arith in no)) (omega arith)

  pub box-rows : map_height v ≡ v.y1 - v.y0
  box-rows = rw (ne_eqb (side_of v.w v.x0 v.x1) 0 (λ z. let no : ⊥ = omega arith in no)) (omega arith)

  pub box-left : left v ≡ v.x0
  box-left = omega arith

  pub box-top : top v ≡ v.y0
  box-top = omega arith

pub whole-cols : (img : List ℕ) (w h : ℕ) (t : Ring) → 0 < h → map_width (whole img w h t) ≡ w
whole-cols img w h t l = rw (ne_eqb (side_of h 0 h) 0 (λ z. let no : ⊥ = omega arith in no)) (omega arith)

pub whole-rows : (img : List ℕ) (w h : ℕ) (t : Ring) → 0 < w → map_height (whole img w h t) ≡ h
whole-rows img w h t l = rw (ne_eqb (side_of w 0 w) 0 (λ z. let no : ⊥ = omega arith in no)) (omega arith)
