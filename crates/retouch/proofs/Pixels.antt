-- The pixels that a cell samples, by its places, in an image and in the image with a pixel changed. Assumes nothing.
use mathlib.Core.Path.{◌≡◌, refl, sym, ◌∙◌}
use mathlib.Core.Bool.{Bool, true, false, false≢true}
use mathlib.Core.List.{List, [], ◌∷◌}
use Prim.Native.Nat.{ℕ, ◌+◌, ◌*◌, ◌-◌, ◌<◌, ◌≤◌}
use native.Mathlib.Omega.{arith}
use lib.ListN.{length, get_or}
use lib.Seq.{get_or-set_same, get_or-set_other}
use Rattle.float32.specs.Value.{dist}
use Rattle.lists.specs.Places.{Place, any, sum_of, All}
use Rattle.lists.proofs.Tests.{or-neither}
use Rattle.lists.proofs.Tab.{get_d-tab, tab-ext}
use Rattle.lists.proofs.Members.{all-at, any_none, all_both, all_map}
use Rattle.lists.proofs.Places.{any_append, in_map}
use Rattle.ring.specs.Ring.{Ring, dx, dy, IsRing}
use Rattle.ring.proofs.Places.{radius-pos}
use Rattle.response.specs.Response.{samples, cross_of}
use Rattle.retouch.specs.Retouch.{cross_places, sample_places, is_at, on_ring, in_cross, changed}
use Rattle.retouch.proofs.Grids.{same-cell}
use Rattle.retouch.proofs.Sampling.{nth, all-nth, dx-nth, dy-nth}
use Rattle.retouch.proofs.Touching.{Within, at_place, is-at}

-- the pixel at a place of the square about a cell
abbrev pub pixel_at : List ℕ → ℕ → Ring → Place → ℕ × ℕ → ℕ
pixel_at img w t c p = get_or img ((c.y - t.radius + p.1) * w + (c.x - t.radius + p.0)) 0

module _ (img : List ℕ) (w : ℕ) (t : Ring) (c : Place) where
  pub sample-at : (k : ℕ) → k < 16 → get_or (samples img w t c.x c.y) k 0 ≡ pixel_at img w t c (nth t.places k)
  unfolding samples
  sample-at k l =
      get_d-tab 16 (λ k. get_or img ((c.y - t.radius + dy t k) * w + (c.x - t.radius + dx t k)) 0) k 0 l ∙ rw (dx-nth t k, dy-nth t k)

  pub cross-sum : 1 ≤ t.radius → t.radius ≤ c.x → t.radius ≤ c.y
      → cross_of img w c.x c.y ≡ sum_of (pixel_at img w t c) (cross_places t)
  cross-sum one left above =
      let x : c.x - t.radius + t.radius ≡ c.x = omega arith in
      let y : c.y - t.radius + t.radius ≡ c.y = omega arith in
      let up : c.y - t.radius + (t.radius - 1) ≡ c.y - 1 = omega arith in
      let down : c.y - t.radius + (t.radius + 1) ≡ c.y + 1 = omega arith in
      let right : c.x - t.radius + (t.radius + 1) ≡ c.x + 1 = omega arith in
      let before : c.x - t.radius + (t.radius - 1) ≡ c.x - 1 = omega arith in
      rw (x, y, up, down, right, before) (omega arith)

-- a place lies in the square of the ring's radius; and the pixel q does not stand there
abbrev pub InSquare : Ring → ℕ × ℕ → Type 0
InSquare t p = (p.0 ≤ 2 * t.radius) × (p.1 ≤ 2 * t.radius)

abbrev Off : Ring → Place → Place → ℕ × ℕ → Type 0
Off t q c p = is_at t q c p ≡ true → ⊥

pub in-square : (t : Ring) → IsRing t → All (InSquare t) t.places
in-square t is =
    all-nth (InSquare t) t.places
    (λ k l. (rw (← dx-nth t k) (is.across k (omega (arith, is.sixteen))), rw (← dy-nth t k) (is.down k (omega (arith, is.sixteen)))))

pub cross-in-square : (t : Ring) → 1 ≤ t.radius → All (InSquare t) (cross_places t)
cross-in-square t one = (
  (omega arith, omega arith),
  ((omega arith, omega arith), ((omega arith, omega arith), ((omega arith, omega arith), ((omega arith, omega arith), tt)))),
)

-- ---- where the pixel q becomes v
module _ (img : List ℕ) (w h : ℕ) (sized : length img ≡ w * h) (t : Ring) (q : Place) (across : q.x < w) (down : q.y < h)
    (v : ℕ) (c : Place) (n : Within w h t c) where
  abbrev before : ℕ × ℕ → ℕ
  before = pixel_at img w t c

  abbrev after : ℕ × ℕ → ℕ
  after = pixel_at (changed img w q v) w t c

  -- a place at which it does not stand
  pub kept : (p : ℕ × ℕ) → p.0 ≤ 2 * t.radius → Off t q c p → after p ≡ before p
  kept p l off =
      get_or-set_other img (q.y * w + q.x) ((c.y - t.radius + p.1) * w + (c.x - t.radius + p.0)) v 0
      (λ e.
      let s = same-cell w (c.x - t.radius + p.0) (c.y - t.radius + p.1) q.x q.y (omega (arith, n.left, n.right)) across e in
      off (is-at t q c p s.0 s.1))

  -- and any place
  pub by-levels : (p : ℕ × ℕ) → p.0 ≤ 2 * t.radius → dist (after p) (before p) ≤ dist (get_or img (q.y * w + q.x) 0) v
  by-levels p l = go (is_at t q c p) refl
    where
      go : (b : Bool) → is_at t q c p ≡ b → dist (after p) (before p) ≤ dist (get_or img (q.y * w + q.x) 0) v
      go true e =
          let s = at_place t q c p e in
          rw (s.0, s.1, get_or-set_same img (q.y * w + q.x) v 0 (rw sized (in_map w h q.x q.y across down))) (omega arith)
      go false e = rw (kept p l (λ z. false≢true (sym e ∙ z))) (omega arith)

  -- samples and cross that do not contain it
  pub samples-kept : IsRing t → on_ring t q c ≡ false → samples (changed img w q v) w t c.x c.y ≡ samples img w t c.x c.y
  unfolding samples
  samples-kept is e =
      let none = all_both (Off t q c) (InSquare t) t.places (any_none (is_at t q c) t.places e) (in-square t is) in
      tab-ext 16 _ _
      (λ k l.
      let p = all-at (λ p. Off t q c p × InSquare t p) t.places none k (0, 0) (omega (arith, is.sixteen)) in
      rw (dx-nth t k, dy-nth t k) (kept (nth t.places k) p.1.0 p.0))

  sums-alike : (X Y : ℕ × ℕ → ℕ) (l : List (ℕ × ℕ)) → All (λ p. X p ≡ Y p) l → sum_of X l ≡ sum_of Y l
  sums-alike X Y [] a = refl
  sums-alike X Y (p ∷ l) a = omega (arith, a.0, sums-alike X Y l a.1)

  pub cross-kept : IsRing t → in_cross t q c ≡ false → cross_of (changed img w q v) w c.x c.y ≡ cross_of img w c.x c.y
  cross-kept is e =
      let one = radius-pos t is in
      let none = all_both (Off t q c) (InSquare t) (cross_places t) (any_none (is_at t q c) (cross_places t) e) (cross-in-square t one) in
      cross-sum (changed img w q v) w t c one n.left n.above
      ∙ sums-alike after before (cross_places t)
      (all_map (λ p. Off t q c p × InSquare t p) (λ p. after p ≡ before p) (λ p f. kept p f.1.0 f.0) (cross_places t) none)
      ∙ sym (cross-sum img w t c one n.left n.above)

-- samples that do not contain it: neither the ring's nor the cross's
pub neither : (t : Ring) (q c : Place) → any (is_at t q c) (sample_places t) ≡ false → (on_ring t q c ≡ false) × (in_cross t q c ≡ false)
neither t q c e = or-neither (on_ring t q c) (in_cross t q c) (sym (any_append (is_at t q c) t.places (cross_places t)) ∙ e)
