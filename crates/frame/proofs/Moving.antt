-- The floats behind the first `held` of a slice, each replaced by a function of it, one a turn; and corners that are moved by a box's
-- corner so, their columns and then their rows. Assumes nothing.
use Prim.Native.Nat.{ℕ, ◌+◌, ◌<◌, ◌≤◌}
use native.Mathlib.Omega.{arith}
use mathlib.Core.Path.{◌≡◌, refl, sym, ap, ap₂, ◌∙◌}
use mathlib.Core.List.{List, [], ◌∷◌, map}
use lib.ListN.{length, get_or, length-map}
use lib.Seq.{ext_get_or}
use lib.Ieee.{Float, binary32, nan, add}
use Rattle.std.specs.Prelude.{Result, Ok, Err}
use Rattle.lists.specs.declared.refusal.Refusal.{Refusal}
use Rattle.lists.specs.Tab.{tab}
use Rattle.lists.specs.Buffer.{placed}
use Rattle.lists.proofs.Tab.{length-tab, get_d-tab, map-tab}
use Rattle.lists.proofs.Buffer.{placed_at}
use Rattle.float32.specs.Float32.{float_of}
use Rattle.corner_list.specs.declared.Corner.{Corner}
use Rattle.corner_list.specs.CornerList.{Slices, slices, x_of, y_of, strength_of, neighbours_of}
use Rattle.corner_list.proofs.Corners.{slices-alike}
use Rattle.detect.specs.declared.Peaks.{Peaks}
use Rattle.patch_corners.specs.OneMap.{moved}
use Rattle.patch_corners.proofs.Changing.{placed-again}
use Rattle.frame.specs.Internal.{AddsCorners}
use Rattle.frame.proofs.Adding.{adds, adds-not}

-- ---- floats that were placed, and then replaced

raised : (g : Float → Float) (held : ℕ) (vs d : List Float) → held ≤ length d → (n : ℕ) → n ≡ length vs
    → placed held (tab n (λ j. g (get_or (placed held vs d) (held + j) nan))) (placed held vs d) ≡ placed held (map g vs) d
raised g held vs d h n e =
    let read : ℕ → Float = λ j. get_or (placed held vs d) (held + j) nan in
    let back : tab n read ≡ vs =
    ext_get_or nan (tab n read) vs (length-tab n read ∙ e)
    (λ i l. let k : i < n = rw (length-tab n read) at l in get_d-tab n read i nan k ∙ placed_at held vs d i nan h (omega arith)) in
    ap (λ (l : List Float). placed held l (placed held vs d)) (sym (map-tab g read n) ∙ ap (map g) back)
    ∙ placed-again held vs d h (map g vs) (length-map vs g)

-- ---- corners that were added, and then moved: where they were refused, none is
fields : {A : Type 0} (x : Corner → A) (g : A → A) (f : Corner → Corner) → ((c : Corner) → g (x c) ≡ x (f c)) → (cs : List Corner)
    → map g (map x cs) ≡ map x (map f cs)
fields x g f e [] = refl
fields {A} x g f e (c ∷ cs) = ap₂ (λ (a : A) (l : List A). a ∷ l) (e c) (fields x g f e cs)

kept : {A : Type 0} (x : Corner → A) (f : Corner → Corner) → ((c : Corner) → x c ≡ x (f c)) → (cs : List Corner)
    → map x cs ≡ map x (map f cs)
kept x f e [] = refl
kept {A} x f e (c ∷ cs) = ap₂ (λ (a : A) (l : List A). a ∷ l) (e c) (kept x f e cs)

module _ (cs : List Corner) (ties held : ℕ) (b : Slices) where
  -- refused: none is moved
  pub moved-refused : (x0 y0 : ℕ) (answer : Result Peaks Refusal) (b' : Slices) → AddsCorners cs ties held b answer b'
      → (e : Refusal) → answer ≡ Err e → AddsCorners (map (moved x0 y0) cs) ties held b answer b'
  moved-refused x0 y0 answer b' a e z =
      let k = a.refused e z in
      adds-not (map (moved x0 y0) cs) ties held b answer e b' z k.0 (omega (arith, k.1, length-map cs (moved x0 y0))) a.lengths

  -- added, and each moved
  pub moved-added : (x0 y0 : ℕ) (answer : Result Peaks Refusal) (b' : Slices) → AddsCorners cs ties held b answer b'
      → (q : Peaks) → answer ≡ Ok q
      → (xs ys : List Float)
      → xs ≡ placed held (tab q.count (λ i. add binary32 (get_or b'.xs (held + i) nan) (float_of x0))) b'.xs
      → ys ≡ placed held (tab q.count (λ i. add binary32 (get_or b'.ys (held + i) nan) (float_of y0))) b'.ys
      → AddsCorners (map (moved x0 y0) cs) ties held b (Ok q) (slices xs ys b'.strengths b'.neighbours)
  moved-added x0 y0 answer b' a q z xs ys ex ey =
      let k = a.added q z in
      let f = moved x0 y0 in
      adds (map f cs) ties held b q (slices xs ys b'.strengths b'.neighbours) (k.0 ∙ sym (length-map cs f)) k.1
      (slices-alike
      (ex ∙ ap (λ (s : Slices). placed held (tab q.count (λ i. add binary32 (get_or s.xs (held + i) nan) (float_of x0))) s.xs) k.2
      ∙ raised (λ z. add binary32 z (float_of x0)) held (map x_of cs) b.xs (omega (arith, k.1)) q.count (k.0 ∙ sym (length-map cs x_of))
      ∙ ap (λ (l : List Float). placed held l b.xs) (fields x_of (λ z. add binary32 z (float_of x0)) f (λ c. refl) cs))
      (ey ∙ ap (λ (s : Slices). placed held (tab q.count (λ i. add binary32 (get_or s.ys (held + i) nan) (float_of y0))) s.ys) k.2
      ∙ raised (λ z. add binary32 z (float_of y0)) held (map y_of cs) b.ys (omega (arith, k.1)) q.count (k.0 ∙ sym (length-map cs y_of))
      ∙ ap (λ (l : List Float). placed held l b.ys) (fields y_of (λ z. add binary32 z (float_of y0)) f (λ c. refl) cs))
      (ap (λ (s : Slices). s.strengths) k.2 ∙ ap (λ (l : List Float). placed held l b.strengths) (kept strength_of f (λ c. refl) cs))
      (ap (λ (s : Slices). s.neighbours) k.2 ∙ ap (λ (l : List ℕ). placed held l b.neighbours) (kept neighbours_of f (λ c. refl) cs)))
      k.3
