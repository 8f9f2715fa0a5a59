-- The map that is redone by some places: by none, by one, and by one more. Assumes nothing.
use mathlib.Core.Path.{◌≡◌, refl, sym, ap, ◌∙◌}
use mathlib.Core.Bool.{Bool, true, false, cond, ◌||◌}
use mathlib.Core.List.{List, [], ◌∷◌, ◌++◌}
use Prim.Native.Nat.{ℕ, ◌+◌, ◌*◌, ◌<◌}
use native.Mathlib.Nat.{mul_comm}
use native.Mathlib.Omega.{arith}
use native.Mathlib.Decide.{ℕ_discrete}
use lib.ListN.{length, get_or, set, length-set}
use lib.Seq.{get_or-set_same, get_or-set_other}
use lib.Ieee.{Float}
use Rattle.float32.specs.Float32.{zero}
use Rattle.lists.specs.Places.{Place}
use Rattle.lists.proofs.Tab.{length-grid, get_d-grid}
use Rattle.lists.proofs.Places.{in_map}
use Rattle.ring.specs.Ring.{Ring}
use Rattle.response.specs.Response.{response_at}
use Rattle.retouch.specs.Retouch.{sample_places, redone}
use Rattle.retouch.specs.Internal.{touched_by, redone_by}
use Rattle.retouch.proofs.Grids.{same-cell, by-cells}
use Rattle.retouch.proofs.Touching.{cell_of, Fitting, cell-across, cell-down, touched-here, touched-only, touched-append}

module _ (img : List ℕ) (w h : ℕ) (t : Ring) (q : Place) (m : List Float) where
  pub redone-length : (ps : List (ℕ × ℕ)) → length (redone_by ps img w h t q m) ≡ h * w
  unfolding redone_by
  redone-length ps = length-grid w h _

  pub redone-at : (ps : List (ℕ × ℕ)) (x y : ℕ) → x < w → y < h
      → get_or (redone_by ps img w h t q m) (y * w + x) zero
      ≡ cond (touched_by ps w h t q (record { x = x; y = y })) (response_at img w h t x y) (get_or m (y * w + x) zero)
  unfolding redone_by
  redone-at ps x y p r = get_d-grid w h _ x y zero p r

module _ (img : List ℕ) (w h : ℕ) (t : Ring) (q : Place) (m : List Float) (long : length m ≡ h * w) where
  -- where no cell is touched
  pub redone-none : (ps : List (ℕ × ℕ)) → ((c : Place) → touched_by ps w h t q c ≡ false) → redone_by ps img w h t q m ≡ m
  redone-none ps none =
      by-cells w h zero (redone_by ps img w h t q m) m (redone-length img w h t q m ps) long
      (λ x y p r. redone-at img w h t q m ps x y p r ∙ rw (none (record { x = x; y = y })))

  -- where one is
  module _ (p : ℕ × ℕ) (f : Fitting w h t q p) where
    abbrev i : ℕ
    i = (cell_of w h t q p).x

    abbrev j : ℕ
    j = (cell_of w h t q p).y

    pub redone-one : set m (j * w + i) (response_at img w h t i j) ≡ redone_by (p ∷ []) img w h t q m
    redone-one =
        by-cells w h zero _ _ (length-set m (j * w + i) (response_at img w h t i j) ∙ long) (redone-length img w h t q m (p ∷ []))
        (λ x y a b. cell x y a b ∙ sym (redone-at img w h t q m (p ∷ []) x y a b))
      where
        other : (x y : ℕ) → x < w → y < h → (x ≡ i → y ≡ j → ⊥)
            → get_or (set m (j * w + i) (response_at img w h t i j)) (y * w + x) zero
            ≡ cond (touched_by (p ∷ []) w h t q (record { x = x; y = y })) (response_at img w h t x y) (get_or m (y * w + x) zero)
        other x y a b apart =
            get_or-set_other m (j * w + i) (y * w + x) (response_at img w h t i j) zero
            (λ e. let s = same-cell w x y i j a (cell-across w h t q p f) e in apart s.0 s.1)
            ∙ rw (touched-only w h t q p f x y apart)

        here : get_or (set m (j * w + i) (response_at img w h t i j)) (j * w + i) zero
            ≡ cond (touched_by (p ∷ []) w h t q (record { x = i; y = j })) (response_at img w h t i j) (get_or m (j * w + i) zero)
        here =
            get_or-set_same m (j * w + i) (response_at img w h t i j) zero
            (omega (arith, long, mul_comm h w, in_map w h i j (cell-across w h t q p f) (cell-down w h t q p f)))
            ∙ rw (touched-here w h t q p f)

        cell : (x y : ℕ) → x < w → y < h
            → get_or (set m (j * w + i) (response_at img w h t i j)) (y * w + x) zero
            ≡ cond (touched_by (p ∷ []) w h t q (record { x = x; y = y })) (response_at img w h t x y) (get_or m (y * w + x) zero)
        cell x y a b = elim (ℕ_discrete x i) [
          | yes d ↦ elim (ℕ_discrete y j) [
            | yes e ↦ rw (d, e) here
            | no g ↦ other x y a b (λ _ e. g e)
          ]
          | no g ↦ other x y a b (λ d _. g d)
        ]

-- first by some places and then by others
twice : (a b : Bool) (r z : Float) → cond b r (cond a r z) ≡ cond (a || b) r z
twice true true r z = refl
twice true false r z = refl
twice false true r z = refl
twice false false r z = refl

pub redone-more : (img : List ℕ) (w h : ℕ) (t : Ring) (q : Place) (m : List Float) (ps qs : List (ℕ × ℕ))
    → redone_by qs img w h t q (redone_by ps img w h t q m) ≡ redone_by (ps ++ qs) img w h t q m
redone-more img w h t q m ps qs =
    by-cells w h zero _ _ (redone-length img w h t q (redone_by ps img w h t q m) qs) (redone-length img w h t q m (ps ++ qs))
    (λ x y a b.
    let c : Place = record { x = x; y = y } in
    redone-at img w h t q (redone_by ps img w h t q m) qs x y a b
    ∙ ap (λ (z : Float). cond (touched_by qs w h t q c) (response_at img w h t x y) z) (redone-at img w h t q m ps x y a b)
    ∙ twice (touched_by ps w h t q c) (touched_by qs w h t q c) (response_at img w h t x y) (get_or m (y * w + x) zero)
    ∙ ap (λ (z : Bool). cond z (response_at img w h t x y) (get_or m (y * w + x) zero)) (sym (touched-append w h t q ps qs c))
    ∙ sym (redone-at img w h t q m (ps ++ qs) x y a b))

-- and by all of the ring and the cross
pub redone-by-all : (img : List ℕ) (w h : ℕ) (t : Ring) (q : Place) (m : List Float)
    → redone_by (sample_places t) img w h t q m ≡ redone img w h t q m
unfolding redone_by redone
redone-by-all img w h t q m = refl
