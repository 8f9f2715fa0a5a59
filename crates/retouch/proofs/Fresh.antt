-- A cell that is not touched keeps its response and its exact value, so the map that was the image's own is so again, for any ring. Assumes
-- nothing.
use mathlib.Core.Path.{◌≡◌, refl, sym, ap₂, ◌∙◌}
use mathlib.Core.Bool.{Bool, true, false, cond, ◌&&◌}
use mathlib.Core.List.{List}
use Prim.Native.Nat.{ℕ, ◌+◌, ◌*◌, ◌<◌, ◌≤◌}
use native.Mathlib.Omega.{arith}
use lib.ListN.{length, get_or}
use Rattle.float32.specs.Float32.{zero}
use Rattle.lists.specs.Tab.{grid}
use Rattle.lists.specs.Places.{Place, any}
use Rattle.lists.proofs.Tab.{get_d-grid, grid-ext}
use Rattle.ring.specs.Ring.{Ring, IsRing}
use Rattle.response.specs.Response.{samples, cross_of, inside, response, response_at}
use Rattle.response.specs.Patch.{whole, response_in, cells}
use Rattle.response.specs.Exact.{fifths_at}
use Rattle.response.proofs.Map.{whole-cols, whole-rows}
use Rattle.retouch.specs.Retouch.{sample_places, is_at, touched, touched_count, changed, redone}
use Rattle.retouch.proofs.Sampling.{samples-apart, samples-many}
use Rattle.retouch.proofs.Touching.{within, touched-by-all, count-few}
use Rattle.retouch.proofs.Pixels.{samples-kept, cross-kept, neither}

module _ (img : List ℕ) (w h : ℕ) (sized : length img ≡ w * h) (t : Ring) (is : IsRing t) (q : Place) (across : q.x < w)
    (down : q.y < h) (v : ℕ) where
  module _ (c : Place) where
    -- the pixels of a cell that has its ring in the image, and is not touched
    same-pixels : inside w h t c.x c.y ≡ true → any (is_at t q c) (sample_places t) ≡ false
        → (samples (changed img w q v) w t c.x c.y ≡ samples img w t c.x c.y)
        × (cross_of (changed img w q v) w c.x c.y ≡ cross_of img w c.x c.y)
    same-pixels e f =
        let none = neither t q c f in
        let n = within w h t c e in
        (samples-kept img w h sized t q across down v c n is none.0, cross-kept img w h sized t q across down v c n is none.1)

    pub response-kept : touched w h t q c ≡ false → response_at (changed img w q v) w h t c.x c.y ≡ response_at img w h t c.x c.y
    response-kept e = unfold response_at in (go (inside w h t c.x c.y) refl e)
      where
        go : (b : Bool) → inside w h t c.x c.y ≡ b → (b && any (is_at t q c) (sample_places t)) ≡ false
            → cond b (response (changed img w q v) w t c.x c.y) zero ≡ cond b (response img w t c.x c.y) zero
        go true i e = let s = same-pixels i e in unfold response in (rw (s.0, s.1))
        go false i e = refl

    pub exact-kept : touched w h t q c ≡ false → fifths_at (changed img w q v) w h t c.x c.y ≡ fifths_at img w h t c.x c.y
    exact-kept e = go (inside w h t c.x c.y) refl e
      where
        go : (b : Bool) → inside w h t c.x c.y ≡ b → (b && any (is_at t q c) (sample_places t)) ≡ false
            → fifths_at (changed img w q v) w h t c.x c.y ≡ fifths_at img w h t c.x c.y
        go true i e = let s = same-pixels i e in unfold fifths_at in (rw (s.0, s.1))
        go false i e = unfold fifths_at in (rw i)

-- ---- the map of a whole image
pub whole_cells : (img : List ℕ) (w h : ℕ) (t : Ring) → 0 < w → 0 < h → cells (whole img w h t) ≡ grid w h (response_at img w h t)
unfolding cells
whole_cells img w h t p r =
    rw (whole-cols img w h t r, whole-rows img w h t p)
    (grid-ext w h (response_in (whole img w h t)) (response_at img w h t)
    (λ i j a b. ap₂ (response_at img w h t) (omega arith) (omega arith)))

module _ (img : List ℕ) (w h : ℕ) (sized : length img ≡ w * h) (t : Ring) (is : IsRing t) (q : Place) (across : q.x < w)
    (down : q.y < h) (v : ℕ) where
  -- redone from the image's own map, it is the changed image's own
  pub fresh-map : redone (changed img w q v) w h t q (cells (whole img w h t)) ≡ cells (whole (changed img w q v) w h t)
  fresh-map =
      rw (whole_cells img w h t (omega arith) (omega arith), whole_cells (changed img w q v) w h t (omega arith) (omega arith))
      (unfold redone in
      grid-ext w h _ _ (λ i j a b. go i j a b (touched w h t q (record { x = i; y = j })) refl))
    where
      go : (i j : ℕ) → i < w → j < h → (b : Bool) → touched w h t q (record { x = i; y = j }) ≡ b
          → cond b (response_at (changed img w q v) w h t i j) (get_or (grid w h (response_at img w h t)) (j * w + i) zero)
          ≡ response_at (changed img w q v) w h t i j
      go i j a b true e = refl
      go i j a b false e =
          get_d-grid w h (response_at img w h t) i j zero a b
          ∙ sym (response-kept img w h sized t is q across down v (record { x = i; y = j }) e)

-- ---- at most twenty-one
pub few-touched : (w h : ℕ) (t : Ring) → IsRing t → (q : Place) → touched_count w h t q ≤ 21
few-touched w h t is q = omega (arith, touched-by-all w h t q, samples-many t is, count-few w h t q (sample_places t) (samples-apart t is))
