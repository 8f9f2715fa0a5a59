-- The map of a whole image as one box is the published one. Assumes nothing.
use mathlib.Core.Path.{◌≡◌, refl, ap, ap₂, ◌∙◌}
use mathlib.Core.Bool.{Bool, true, false, cond, ◌&&◌}
use mathlib.Core.List.{List, [], append-nil}
use Prim.Native.Nat.{ℕ, zero, suc, ◌+◌, ◌-◌, ◌≤◌}
use native.Mathlib.Decide.{dec_lt}
use native.Mathlib.Omega.{arith}
use lib.Dec.{ltb, leb}
use lib.IntN.{pos}
use lib.Ieee.{Float}
use borrow.Author.Tests.{lt-ltb, le-ltb, leb-true}
use Rattle.lists.specs.Tab.{tab, grid}
use Rattle.lists.proofs.Tab.{grid-ext}
use Rattle.lists.proofs.Tests.{and_parts, and-all, and_none}
use Rattle.float32.specs.Float32.{zero as zero32}
use Rattle.ring.specs.Ring.{Ring, ring_of}
use Rattle.ring.proofs.Table.{ring_of-is}
use Rattle.ring.proofs.Places.{radius-pos}
use Rattle.response.specs.Response.{response, inside, response_at}
use Rattle.response.specs.Patch.{cells}
use Rattle.response.proofs.Map.{whole-cols, whole-rows}
use Rattle.accuracy.specs.Accurate.{Bytes}
use Rattle.published.specs.RingRs.{ring_offsets, ring_radius}
use Rattle.published.specs.ResponseRs.{response_rs, whole_rs, WholeAsPublished}
use Rattle.published.proofs.Ring.{ring-as-published}
use Rattle.published.proofs.Response.{response-as-published}

-- ---- the tests of a cell
before : (n x r : ℕ) → ltb x (n - r) ≡ ltb (x + r) n
before n x r = elim (dec_lt (x + r) n) [
  | yes l ↦ rw (lt-ltb x (n - r) (omega arith), lt-ltb (x + r) n l)
  | no g ↦ rw (le-ltb x (n - r) (omega arith), le-ltb (x + r) n (omega arith))
]

in_one : (p q u v : Bool) (a z : Float) → cond (p && q) (cond (u && v) a z) z ≡ cond (u && (v && (p && q))) a z
in_one true true true v a z = rw (and-all v)
in_one true true false v a z = refl
in_one true false true v a z = rw (and_none v)
in_one true false false v a z = refl
in_one false q true v a z = rw (and_none v)
in_one false q false v a z = refl

-- ---- a cell
module _ (img : List ℕ) (w h radius : ℕ) (bytes : Bytes img) (x y : ℕ) where
  abbrev t : Ring
  t = ring_of radius

  abbrev at : Float
  at = response_rs img w (pos x) (pos y) (ring_offsets radius)

  at_is : t.radius ≤ x → t.radius ≤ y → at ≡ response img w t x y
  at_is a b =
      ap (response_rs img w (pos x) (pos y)) (ring-as-published radius).0 ∙ response-as-published img w t x y (ring_of-is radius) a b bytes

  either : (b : Bool) → inside w h t x y ≡ b → cond b at zero32 ≡ cond b (response img w t x y) zero32
  either false e = refl
  either true e =
      let p = and_parts (leb t.radius x) (ltb (x + t.radius) w && (leb t.radius y && ltb (y + t.radius) h)) e in
      let q = and_parts (ltb (x + t.radius) w) (leb t.radius y && ltb (y + t.radius) h) p.1 in
      let s = and_parts (leb t.radius y) (ltb (y + t.radius) h) q.1 in
      at_is (leb-true t.radius x p.0) (leb-true t.radius y s.0)

  cell-is : (r : ℕ) → r ≡ t.radius
      → cond (leb r y && ltb y (h - r)) (cond (leb r x && ltb x (w - r)) at zero32) zero32 ≡ response_at img w h t x y
  unfolding response_at
  cell-is r e =
      in_one (leb r y) (ltb y (h - r)) (leb r x) (ltb x (w - r)) at zero32
      ∙ rw (before w x r, before h y r, e) (either (inside w h t x y) refl)

-- a map without columns has no cells
thin : (h : ℕ) (f : ℕ → ℕ → Float) → grid 0 h f ≡ []
unfolding grid tab
thin zero f = refl
thin (suc h) f = append-nil (grid 0 h f) ∙ thin h f

pub whole-as-published : WholeAsPublished
unfolding whole_rs cells grid
whole-as-published img zero h radius bytes high wide = thin h _
whole-as-published img (suc n) h radius bytes high wide =
    let w = suc n in
    let some = radius-pos (ring_of radius) (ring_of-is radius) in
    let r = (ring-as-published radius).1 in
    rw (whole-cols img w h (ring_of radius) (omega arith), whole-rows img w h (ring_of radius) (omega arith))
    (grid-ext w h _ _ (λ x y _ _. cell-is img w h radius bytes x y (ring_radius radius) r
    ∙ ap₂ (response_at img w h (ring_of radius)) (omega arith)
    (omega arith)))
