-- From the laws of retouch: a call that answers a count was not refused. Assumes nothing.
use Prim.Native.Nat.{ℕ, ◌+◌, ◌*◌, ◌<◌}
use native.Mathlib.Nat.{mul_comm}
use mathlib.Core.Path.{◌≡◌, sym, ap, ◌∙◌}
use mathlib.Core.Bool.{cond}
use mathlib.Core.List.{List}
use lib.ListN.{length, get_or}
use lib.Ieee.{Float, nan}
use Rattle.float32.specs.Float32.{zero}
use Rattle.lists.specs.Places.{Place}
use Rattle.lists.proofs.Tab.{get_d_any, get_d-grid, length-grid}
use Rattle.lists.proofs.Places.{in_map}
use Rattle.ring.specs.Ring.{Ring, ring_of, IsRing}
use Rattle.ring.proofs.Table.{ring_of-is}
use Rattle.response.specs.Response.{response_at}
use Rattle.response.specs.Patch.{cells}
use Rattle.retouch.specs.Retouch.{touched, touched_count, changed, redone}
use Rattle.retouch.specs.Promise.{refusal_of}
use Rattle.retouch.specs.Internal.{PixelChecked}
use Rattle.retouch.proofs.Judging.{ready}
use Rattle.retouch.proofs.Fresh as fresh
use Rattle.retouch.proofs.Moves as moves
use Rattle.demands.specs.ResponseCall.{ResponseCall, view_in, map_of}
use Rattle.demands.specs.Retouch.{RetouchCall, InImage, cell_before, cell_after, view_before, view_after}
use Rattle.demands.specs.Retouch.{OnlyTouched, AtMost21, Fresh, MovedLittle, MovesLittle}
use Rattle.demands.proofs.BitForBit.{bit_for_bit}

-- ---- the map by column and row
module _ (img : List ℕ) (w h : ℕ) (t : Ring) (q : Place) (m : List Float) where
  redone-length : length (redone img w h t q m) ≡ h * w
  unfolding redone
  redone-length = length-grid w h _

  redone-at : (z : Float) (x y : ℕ) → x < w → y < h
      → get_or (redone img w h t q m) (y * w + x) z
      ≡ cond (touched w h t q (record { x = x; y = y })) (response_at img w h t x y) (get_or m (y * w + x) zero)
  unfolding redone
  redone-at z x y a b = get_d-grid w h _ x y z a b

-- ---- the promise taken apart
module _ (c : RetouchCall) where
  abbrev t : Ring
  t = ring_of c.ring

  none : refusal_of (length c.img) (length c.map) c.w c.h c.ring c.pixel ≡ 0
  none = sym c.promise.number

  given : PixelChecked c.img c.w c.h c.ring c.pixel c.map
  given = ready c.img c.w c.h c.ring c.pixel c.map none

  pixel_changed : c.img' ≡ changed c.img c.w c.pixel c.value
  pixel_changed = c.promise.image ∙ rw none

  map-redone : c.map' ≡ redone c.img' c.w c.h t c.pixel c.map
  map-redone = c.promise.map ∙ rw (none, pixel_changed)

  counted : c.count ≡ touched_count c.w c.h t c.pixel
  counted = let e = rw none at c.promise.values in cc

  as_long : length c.map' ≡ length c.map
  as_long = ap length map-redone ∙ redone-length c.img' c.w c.h t c.pixel c.map ∙ mul_comm c.h c.w ∙ sym given.cells

  cell-after : (p : Place) → InImage c.w c.h p
      → cell_after c p ≡ cond (touched c.w c.h t c.pixel p) (response_at c.img' c.w c.h t p.x p.y) (cell_before c p)
  cell-after p at =
      let here : p.y * c.w + p.x < length c.map = rw given.cells (in_map c.w c.h p.x p.y at.0 at.1) in
      ap (λ (m : List Float). get_or m (p.y * c.w + p.x) nan) map-redone
      ∙ redone-at c.img' c.w c.h t c.pixel c.map nan p.x p.y at.0 at.1
      ∙ ap (λ (z : Float). cond (touched c.w c.h t c.pixel p) (response_at c.img' c.w c.h t p.x p.y) z)
      (get_d_any c.map (p.y * c.w + p.x) zero nan here)

-- ---- the statements
pub only_touched : OnlyTouched
only_touched = record {
  pixel_changed = pixel_changed;
  recomputed = λ c p at e. cell-after c p at ∙ rw e;
  kept = λ c p at e. cell-after c p at ∙ rw e;
  as_long = as_long;
}

pub at_most_21 : AtMost21
at_most_21 = record {
  counted = counted;
  call = λ c. rw (counted c) (fresh.few-touched c.w c.h (ring_of c.ring) (ring_of-is c.ring) c.pixel);
  any_ring = λ t is w h q. fresh.few-touched w h t is q;
}

fresh-call : (c : RetouchCall) (own again : ResponseCall) → view_in own ≡ view_before c → map_of own ≡ c.map
    → view_in again ≡ view_after c → c.map' ≡ map_of again
fresh-call c own again v m u =
    let g = given c in
    let mine : c.map ≡ cells (view_before c) = sym m ∙ bit_for_bit.chess_response_u8_patch own ∙ ap cells v in
    let now : redone c.img' c.w c.h (ring_of c.ring) c.pixel c.map ≡ cells (view_after c) =
    rw (mine, pixel_changed c)
    (fresh.fresh-map c.img c.w c.h g.image.sized (ring_of c.ring) (ring_of-is c.ring) c.pixel g.column
    g.row c.value) in
    map-redone c ∙ now ∙ sym (bit_for_bit.chess_response_u8_patch again ∙ ap cells u)

pub fresh_again : Fresh
fresh_again = record {
  call = fresh-call;
  any_ring = λ t is img w h q value sized across down. fresh.fresh-map img w h sized t is q across down value;
}

moved-little : (c : RetouchCall) (t : Ring) → IsRing t → MovedLittle c t
moved-little c t is = let g = given c in record {
  through_ring = λ p e.
      rw (pixel_changed c) (moves.through_ring c.img c.w c.h g.image.sized t is c.pixel g.column g.row
      c.value p e);
  through_cross = λ p e.
      rw (pixel_changed c) (moves.through_cross c.img c.w c.h g.image.sized t is c.pixel g.column g.row
      c.value p e);
  no_other = λ p e.
      rw (pixel_changed c) (fresh.exact-kept c.img c.w c.h g.image.sized t is c.pixel g.column g.row c.value p e);
}

pub moves_little : MovesLittle
moves_little = record { call = λ c. moved-little c (ring_of c.ring) (ring_of-is c.ring); any_ring = moved-little }
