-- Request 8, "Retouched pixels": what a call of `retouch` leaves, by its promise. What holds for both rings is stated
-- for any ring table.
use Rattle.std.specs.Prelude.{ℕ, ◌+◌, ◌*◌, ◌<◌, ◌≤◌, ◌≡◌, true, false, List, length, get_or, ℤ, nat_abs, ◌-ℤ◌}
use Rattle.std.specs.Prelude.{Float, Ok}
use Rattle.std.specs.Float.{nan}
use Rattle.float32.specs.Value.{dist}
use Rattle.lists.specs.Places.{Place}
use Rattle.ring.specs.Ring.{Ring, ring_of, IsRing}
use Rattle.response.specs.Response.{response_at}
use Rattle.response.specs.Patch.{View, whole, cells}
use Rattle.response.specs.Exact.{fifths_at}
use Rattle.retouch.specs.Retouch.{on_ring, in_cross, touched, touched_count, changed, redone}
use Rattle.retouch.specs.Promise.{Retouches}
use Rattle.demands.specs.ResponseCall.{ResponseCall, view_in, map_of}

-- a call of `retouch` that was not refused, with its promise word for word
pub record RetouchCall : Type 0 where
  pub w : ℕ
  pub h : ℕ
  pub ring : ℕ
  pub pixel : Place
  pub value : ℕ
  pub img : List ℕ
  pub map : List Float
  pub count : ℕ
  pub img' : List ℕ
  pub map' : List Float
  pub promise : Retouches w h ring pixel value img map (Ok count) img' map'

-- a place of an image of w by h
abbrev pub InImage : ℕ → ℕ → Place → Type 0
InImage w h p = (p.x < w) × (p.y < h)

-- the value of a cell of its map, before and after

abbrev pub cell_before : RetouchCall → Place → Float
cell_before c p = get_or c.map (p.y * c.w + p.x) nan

abbrev pub cell_after : RetouchCall → Place → Float
cell_after c p = get_or c.map' (p.y * c.w + p.x) nan

-- "only cells not within a ring radius of the edge whose sixteen or five samples contain it are recomputed ..; any
-- other map gets those cells and no more"
pub record OnlyTouched : Type 0 where
  pub pixel_changed : (c : RetouchCall) → c.img' ≡ changed c.img c.w c.pixel c.value
  pub recomputed : (c : RetouchCall) (p : Place) → InImage c.w c.h p
      → touched c.w c.h (ring_of c.ring) c.pixel p ≡ true
      → cell_after c p ≡ response_at c.img' c.w c.h (ring_of c.ring) p.x p.y
  pub kept : (c : RetouchCall) (p : Place) → InImage c.w c.h p
      → touched c.w c.h (ring_of c.ring) c.pixel p ≡ false
      → cell_after c p ≡ cell_before c p
  pub as_long : (c : RetouchCall) → length c.map' ≡ length c.map

-- "at most 21"
pub record AtMost21 : Type 0 where
  pub counted : (c : RetouchCall) → c.count ≡ touched_count c.w c.h (ring_of c.ring) c.pixel
  pub call : (c : RetouchCall) → c.count ≤ 21
  pub any_ring : (t : Ring) → IsRing t → (w h : ℕ) (q : Place) → touched_count w h t q ≤ 21

-- the whole image of a call before and after, as one box
abbrev pub view_before : RetouchCall → View
view_before c = whole c.img c.w c.h (ring_of c.ring)

abbrev pub view_after : RetouchCall → View
view_after c = whole c.img' c.w c.h (ring_of c.ring)

-- "map and image equal a fresh run where the map was that image's and ring's own before": the map was what a call of
-- the response left for the whole image, and now it is what another such call leaves for the changed image
pub record Fresh : Type 0 where
  pub call : (c : RetouchCall) (own again : ResponseCall) → view_in own ≡ view_before c → map_of own ≡ c.map
      → view_in again ≡ view_after c
      → c.map' ≡ map_of again
  pub any_ring : (t : Ring) → IsRing t → (img : List ℕ) (w h : ℕ) (q : Place) (value : ℕ) → length img ≡ w * h
      → q.x < w → q.y < h
      → redone (changed img w q value) w h t q (cells (whole img w h t)) ≡ cells (whole (changed img w q value) w h t)

-- ---- "a change of d grey levels moves the exact response by at most 15d fifths through a ring place and 16d through
-- the cross, and no other cell at all"
abbrev pub levels : RetouchCall → ℕ
levels c = dist (get_or c.img (c.pixel.y * c.w + c.pixel.x) 0) c.value

abbrev pub exact_before : RetouchCall → Ring → Place → ℤ
exact_before c t p = fifths_at c.img c.w c.h t p.x p.y

abbrev pub exact_after : RetouchCall → Ring → Place → ℤ
exact_after c t p = fifths_at c.img' c.w c.h t p.x p.y

-- with the ring t, whichever the call was given: the exact values are those of the image before and after it
pub record MovedLittle (c : RetouchCall) (t : Ring) : Type 0 where
  pub through_ring : (p : Place) → on_ring t c.pixel p ≡ true
      → nat_abs (exact_after c t p -ℤ exact_before c t p) ≤ 15 * levels c
  pub through_cross : (p : Place) → in_cross t c.pixel p ≡ true
      → nat_abs (exact_after c t p -ℤ exact_before c t p) ≤ 16 * levels c
  pub no_other : (p : Place) → touched c.w c.h t c.pixel p ≡ false → exact_after c t p ≡ exact_before c t p

pub record MovesLittle : Type 0 where
  -- with the call's own ring
  pub call : (c : RetouchCall) → MovedLittle c (ring_of c.ring)
  pub any_ring : (c : RetouchCall) (t : Ring) → IsRing t → MovedLittle c t
