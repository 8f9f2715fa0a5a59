-- Lists of h rows of w elements, by column and row. Assumes nothing.
use mathlib.Core.Path.{◌≡◌, sym, ap, ◌∙◌, subst}
use mathlib.Core.Logic.{⊎_elim}
use mathlib.Core.List.{List}
use Prim.Native.Nat.{ℕ, ◌+◌, ◌*◌, ◌/◌, ◌%◌, ◌<◌}
use native.Mathlib.Nat.{mul-add-div_right, div-eq_of_lt, div-add-mod', mod-lt, div-lt_iff_lt-mul, eq-zero-or-pos, mul-zero}
use native.Mathlib.Omega.{arith}
use lib.ListN.{length, get_or}
use lib.Seq.{ext_get_or}

-- a place tells its column and its row
pub same-cell : (w x y u v : ℕ) → x < w → u < w → y * w + x ≡ v * w + u → (x ≡ u) × (y ≡ v)
same-cell w x y u v p q e =
    let w-pos : 0 < w = omega arith in
    let a : (y * w + x) / w ≡ y = mul-add-div_right w-pos y x ∙ (rw (div-eq_of_lt p) (omega arith)) in
    let b : (v * w + u) / w ≡ v = mul-add-div_right w-pos v u ∙ (rw (div-eq_of_lt q) (omega arith)) in
    let row : y ≡ v = sym a ∙ ap (λ (n : ℕ). n / w) e ∙ b in
    let rows : y * w ≡ v * w = ap (λ (n : ℕ). n * w) row in
    (omega arith, row)

-- a list that has a place has a column
wide : (w h i : ℕ) → i < h * w → 0 < w
wide w h i l =
    ⊎_elim (λ (z : w ≡ 0). let n : h * w ≡ 0 = ap (λ (k : ℕ). h * k) z ∙ mul-zero h in absurd (let no : ⊥ = omega arith in no))
    (λ (g : 0 < w). g)
    (eq-zero-or-pos w)

-- two lists that agree in each column of each row
pub by-cells : {A : Type 0} (w h : ℕ) (d : A) (s t : List A) → length s ≡ h * w → length t ≡ h * w
    → ((x y : ℕ) → x < w → y < h → get_or s (y * w + x) d ≡ get_or t (y * w + x) d) → s ≡ t
by-cells w h d s t p q f =
    ext_get_or d s t (p ∙ sym q)
    (λ i l.
    let below : i < h * w = rw p at l in
    let w-pos : 0 < w = wide w h i below in
    subst (λ (k : ℕ). get_or s k d ≡ get_or t k d) (div-add-mod' i w)
    (f (i % w) (i / w) (mod-lt i w-pos) ((div-lt_iff_lt-mul w-pos).1 below)))
