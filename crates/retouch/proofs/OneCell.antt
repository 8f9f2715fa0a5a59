-- One cell computed by a box of one pixel, and what it leaves in the map. Assumes nothing.
use mathlib.Core.Path.{◌≡◌, refl, sym, ap, ap₂, ◌∙◌, subst}
use mathlib.Core.Logic.{◌⊎◌}
use mathlib.Core.Bool.{true, false}
use mathlib.Core.List.{List, [], ◌∷◌, append_assoc}
use Prim.Native.Nat.{ℕ, ◌+◌, ◌*◌, ◌-◌, ◌<◌, ◌≤◌}
use native.Mathlib.Nat.{mul_comm}
use native.Mathlib.Numerals.{add-one}
use native.Mathlib.Omega.{arith}
use lib.ListN.{length, get_or, take, drop, set}
use lib.Seq.{set_split}
use lib.Ieee.{Float}
use borrow.Rule.Slice.PartMut.{put_mid}
use Rattle.float32.specs.Float32.{zero}
use Rattle.std.specs.Prelude.{Result}
use Rattle.lists.specs.Places.{Place}
use Rattle.lists.specs.declared.refusal.Refusal.{Refusal}
use Rattle.lists.specs.Internal.{Sized}
use Rattle.lists.proofs.Places.{in_map}
use Rattle.lists.proofs.Buffer.{put-placed}
use Rattle.ring.specs.Ring.{ring_of}
use Rattle.ring.proofs.Places.{radius-is}
use Rattle.response.specs.Response.{response_at}
use Rattle.response.specs.Patch.{View, response_in, refusal_of, Patched}
use Rattle.response.specs.declared.Patch.{Patch}
use Rattle.response.proofs.Map.{Filled, accepted, filled, same_length, cell_at, box-cols, box-rows}
use Rattle.response.proofs.Outcome.{allowed}
use Rattle.retouch.specs.Internal.{PixelChecked, fits, touched_by, count_by, redone_by}
use Rattle.retouch.proofs.Touching.{Fitting, fitting, cell-across, cell-down, none-across, none-down, count-here, count-nowhere}
use Rattle.retouch.proofs.Redoing.{redone-none, redone-one}

-- ---- lists of one element
single : {A : Type 0} (s : List A) (z : A) → length s ≡ 1 → s ≡ get_or s 0 z ∷ []
single [] z e = absurd (let no : ⊥ = omega arith in no)
single (a ∷ []) z e = refl
single (a ∷ b ∷ s) z e = absurd (let no : ⊥ = omega arith in no)

put_one : (a : ℕ) (m ys : List Float) (v : Float) → a < length m → ys ≡ v ∷ [] → put_mid a (a + 1 - a) m ys ≡ set m a v
put_one a m ys v l e =
    let k : a + 1 - a ≡ 1 = omega arith in
    rw (k, e) (put-placed a 1 (v ∷ []) m refl ∙ append_assoc (take a m) (v ∷ []) (drop (a + 1) m) ∙ rw add-one (sym (set_split m a v l)))

-- ---- the response of a box of one pixel
module _ (img : List ℕ) (w h ring : ℕ) (image : Sized (length img) w h) (known : (ring ≡ 5) ⊎ (ring ≡ 10)) (i j : ℕ)
    (across : i < w) (down : j < h) where
  abbrev box : View
  box = record { img = img; w = w; h = h; ring = ring_of ring; x0 = i; y0 = j; x1 = i + 1; y1 = j + 1 }

  taken : (places : ℕ) → places ≡ 1 → refusal_of box ring places ≡ 0
  taken places e =
      allowed box ring places
      (record {
        narrow = image.narrow;
        low = image.low;
        sized = image.sized;
        known = known;
        enough =
            rw (
              box-rows box (omega arith) (omega arith) (omega arith) (omega arith),
              box-cols box (omega arith) (omega arith) (omega arith) (omega arith),
            )
            (let one : i + 1 - i ≡ 1 = omega arith in let two : j + 1 - j ≡ 1 = omega arith in rw (one, two) (omega arith));
      })

  first_cell : (d e : List Float) (pw ph : ℕ) → Filled box d e pw ph → 0 < pw → 0 < ph → get_or e 0 zero ≡ response_in box 0 0
  first_cell d e pw ph f p q = ap (λ (n : ℕ). get_or e n zero) (omega arith) ∙ cell_at box d e pw ph f 0 0 zero p q

  one_cell : (d e : List Float) (r : Result Patch Refusal) → length d ≡ 1 → Patched box ring d r e
      → e ≡ response_at img w h (ring_of ring) i j ∷ []
  one_cell d e r l p =
      let f = filled box ring d e r p _ _ (accepted box ring d e r p (taken (length d) l)) in
      let wide = box-cols box (omega arith) (omega arith) (omega arith) (omega arith) in
      let high = box-rows box (omega arith) (omega arith) (omega arith) (omega arith) in
      single e zero (same_length box d e _ _ f ∙ l)
      ∙ ap (λ (v : Float). v ∷ [])
      (first_cell d e _ _ f (rw wide (omega arith)) (rw high (omega arith))
      ∙ ap₂ (response_at img w h (ring_of ring)) (omega arith) (omega arith))

-- ---- what the code leaves, by the place p: the map m becomes m', and it answers n
abbrev Leaves : List ℕ → ℕ → ℕ → ℕ → Place → List Float → ℕ × ℕ → List Float → ℕ → Type 0
Leaves img w h ring q m p m' n =
    (m' ≡ redone_by (p ∷ []) img w h (ring_of ring) q m) × ((n ≡ count_by (p ∷ []) w h (ring_of ring) q) × (n ≤ 1))

module _ (img : List ℕ) (w h ring : ℕ) (q : Place) (m : List Float) (g : PixelChecked img w h ring q m) (p : ℕ × ℕ) where
  own : (ring_of ring).radius ≡ ring
  own = radius-is ring g.known

  long : length m ≡ h * w
  long = g.cells ∙ mul_comm w h

  -- no cell
  module _ (none : (c : Place) → touched_by (p ∷ []) w h (ring_of ring) q c ≡ false) where
    left_alone : Leaves img w h ring q m p m 0
    left_alone =
        (sym (redone-none img w h (ring_of ring) q m long (p ∷ []) none), (sym (count-nowhere w h (ring_of ring) q p none), omega arith))

  pub alone-across : fits w ring q.x p.0 ≡ false → Leaves img w h ring q m p m 0
  alone-across e = left_alone (none-across w h (ring_of ring) q p (rw own e))

  pub alone-down : fits h ring q.y p.1 ≡ false → Leaves img w h ring q m p m 0
  alone-down e = left_alone (none-down w h (ring_of ring) q p (rw own e))

  -- or one
  module _ (wide : fits w ring q.x p.0 ≡ true) (high : fits h ring q.y p.1 ≡ true) where
    abbrev i : ℕ
    i = q.x - p.0 + ring

    abbrev j : ℕ
    j = q.y - p.1 + ring

    fit : Fitting w h (ring_of ring) q p
    fit = fitting w h (ring_of ring) q p (rw own wide) (rw own high)

    pub from_place : (p.0 ≤ q.x) × (p.1 ≤ q.y)
    from_place = (fit.from-left, fit.from-above)

    pub in_image : (i < w) × (j < h)
    in_image = (rw own at (cell-across w h (ring_of ring) q p fit), rw own at (cell-down w h (ring_of ring) q p fit))

    pub in_cells : j * w + i < length m
    in_cells = rw g.cells (in_map w h i j in_image.0 in_image.1)

    redone-here : set m (j * w + i) (response_at img w h (ring_of ring) i j) ≡ redone_by (p ∷ []) img w h (ring_of ring) q m
    redone-here =
        subst
        (λ (r : ℕ).
        set m ((q.y - p.1 + r) * w + (q.x - p.0 + r)) (response_at img w h (ring_of ring) (q.x - p.0 + r) (q.y - p.1 + r))
        ≡ redone_by (p ∷ []) img w h (ring_of ring) q m)
        own
        (redone-one img w h (ring_of ring) q m long p fit)

    pub cell-redone : (d e : List Float) (r : Result Patch Refusal) → length d ≡ 1
        → Patched (record { img = img; w = w; h = h; ring = ring_of ring; x0 = i; y0 = j; x1 = i + 1; y1 = j + 1 }) ring d r e
        → Leaves img w h ring q m p (put_mid (j * w + i) (j * w + i + 1 - (j * w + i)) m e) 1
    cell-redone d e r l f =
        let cell = one_cell img w h ring g.image g.known i j in_image.0 in_image.1 d e r l f in (
          put_one (j * w + i) m e (response_at img w h (ring_of ring) i j) in_cells cell ∙ redone-here,
          (sym (count-here w h (ring_of ring) q p fit), omega arith),
        )
