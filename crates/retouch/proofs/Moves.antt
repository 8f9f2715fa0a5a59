-- By how much a changed pixel moves the exact response of a cell, for any ring. Assumes nothing.
use mathlib.Core.Path.{◌≡◌, refl, sym, ◌∙◌, subst}
use mathlib.Core.Bool.{Bool, true, false, false≢true}
use mathlib.Core.List.{List}
use Prim.Native.Nat.{ℕ, ◌+◌, ◌*◌, ◌-◌, ◌<◌, ◌≤◌}
use native.Mathlib.Nat.{mul-add, mul-le-mul_left, le_of_eq}
use native.Mathlib.Omega.{arith}
use lib.ListN.{length, get_or}
use lib.IntN.{ℤ, nat_abs, ◌-ℤ◌}
use Rattle.float32.specs.Value.{dist, total}
use Rattle.float32.proofs.Sums.{total-bound}
use Rattle.lists.specs.Places.{Place, sum_of, All}
use Rattle.lists.proofs.Members.{all_map, all_of, none_any}
use Rattle.lists.proofs.Tests.{is_false}
use Rattle.ring.specs.Ring.{Ring, IsRing}
use Rattle.ring.proofs.Places.{radius-pos}
use Rattle.response.specs.Response.{sr_of, dr_of, ring_sum_of, samples, cross_of, inside}
use Rattle.response.specs.Exact.{credit, debit, fifths, fifths_at}
use Rattle.retouch.specs.Retouch.{cross_places, is_at, on_ring, in_cross, changed}
use Rattle.retouch.proofs.Sampling.{Differ, Apart, nth, places-apart, cross-apart, ring-off-cross}
use Rattle.retouch.proofs.Touching.{Within, within, at_place, none_beside}
use Rattle.retouch.proofs.Pixels.{pixel_at, InSquare, sample-at, cross-sum, in-square, cross-in-square, kept, by-levels, samples-kept}
use Rattle.retouch.proofs.Pixels.{cross-kept}
use Rattle.retouch.proofs.Near.{Near, near-gap, near_same, near-wide, near_add, near-dist, near-total, near-sum, near_difference}
use Rattle.retouch.proofs.Near.{total-alike, sum_one, total-nth}

-- ---- the sums of sixteen samples that differ
abbrev gap : List ℕ → List ℕ → ℕ → ℕ
gap s u k = dist (get_or s k 0) (get_or u k 0)

eight : (E : ℕ → ℕ) → total (λ k. E k + E (k + 8)) 8 ≡ total E 16
unfolding total
eight E = omega arith

four : (E : ℕ → ℕ) → total (λ k. (E k + E (k + 8)) + (E (k + 4) + E (k + 12))) 4 ≡ total E 16
unfolding total
four E = omega arith

module _ (s u : List ℕ) where
  one : (k : ℕ) → Near (get_or s k 0) (get_or u k 0) (gap s u k)
  one k = near-gap (get_or s k 0) (get_or u k 0)

  two : (j k : ℕ) → Near (get_or s j 0 + get_or s k 0) (get_or u j 0 + get_or u k 0) (gap s u j + gap s u k)
  two j k = near_add _ _ _ _ _ _ (one j) (one k)

  sr-near : Near (sr_of s) (sr_of u) (total (gap s u) 16)
  sr-near =
      subst (Near (sr_of s) (sr_of u)) (four (gap s u))
      (near-total _ _ _ 4 (λ k l. near-dist _ _ _ _ _ _ (two k (k + 8)) (two (k + 4) (k + 12))))

  dr-near : Near (dr_of s) (dr_of u) (total (gap s u) 16)
  dr-near = subst (Near (dr_of s) (dr_of u)) (eight (gap s u)) (near-total _ _ _ 8 (λ k l. near-dist _ _ _ _ _ _ (one k) (one (k + 8))))

  sum_near : Near (ring_sum_of s) (ring_sum_of u) (total (gap s u) 16)
  sum_near = near-total _ _ (gap s u) 16 (λ k l. one k)

-- ---- the exact value of sums that differ
times : (k a b d : ℕ) → Near a b d → Near (k * a) (k * b) (k * d)
times k a b d n = record { most = scaled k a b d n.most; least_neighbours = scaled k b a d n.least_neighbours }
  where
    scaled : (k a b d : ℕ) → a ≤ b + d → k * a ≤ k * b + k * d
    scaled k a b d l = rw (← mul-add k b d) (mul-le-mul_left k l)

exact-near : (sr dr sum cross sr' dr' sum' cross' D C : ℕ) → Near sr sr' D → Near dr dr' D → Near sum sum' D → Near cross cross' C
    → nat_abs (fifths sr dr sum cross -ℤ fifths sr' dr' sum' cross') ≤ 15 * D + 16 * C
exact-near sr dr sum cross sr' dr' sum' cross' D C p q r s =
    let gains = times 5 sr sr' D p in
    let losses = near_add _ _ _ _ _ _ (times 5 dr dr' D q) (near-dist _ _ _ _ _ _ (times 5 sum sum' D r) (times 16 cross cross' C s)) in
    near_difference (credit sr) (debit dr sum cross) (credit sr') (debit dr' sum' cross') (15 * D + 16 * C)
    (record {
      most = omega (arith, gains.most, losses.least_neighbours);
      least_neighbours = omega (arith, gains.least_neighbours, losses.most);
    })

-- ---- a cell
module _ (img : List ℕ) (w h : ℕ) (sized : length img ≡ w * h) (t : Ring) (is : IsRing t) (q : Place) (across : q.x < w) (down : q.y < h)
    (v : ℕ) (c : Place) where
  abbrev after : List ℕ
  after = changed img w q v

  -- how many grey levels
  abbrev levels : ℕ
  levels = dist (get_or img (q.y * w + q.x) 0) v

  module _ (n : Within w h t c) where
    abbrev moved : ℕ × ℕ → ℕ
    moved p = dist (pixel_at after w t c p) (pixel_at img w t c p)

    -- the one place at which the pixel can stand
    found : (p : ℕ × ℕ) → p.0 ≤ 2 * t.radius → 0 < moved p → (p.0 ≡ q.x - (c.x - t.radius)) × (p.1 ≡ q.y - (c.y - t.radius))
    found p l g = go (is_at t q c p) refl
      where
        go : (b : Bool) → is_at t q c p ≡ b → (p.0 ≡ q.x - (c.x - t.radius)) × (p.1 ≡ q.y - (c.y - t.radius))
        go true e = let a = at_place t q c p e in (omega (arith, a.0), omega (arith, a.1))
        go false e =
            absurd (let same = kept img w h sized t q across down v c n p l (λ z. false≢true (sym e ∙ z)) in let no : ⊥ = omega arith in no)

    few : (l : List (ℕ × ℕ)) → Apart l → All (InSquare t) l → sum_of moved l ≤ levels
    few l a s =
        sum_one moved levels (q.x - (c.x - t.radius)) (q.y - (c.y - t.radius)) l a
        (all_map (InSquare t) (λ p. moved p ≤ levels) (λ p f. by-levels img w h sized t q across down v c n p f.0) l s)
        (all_map (InSquare t) (λ p. 0 < moved p → (p.0 ≡ q.x - (c.x - t.radius)) × (p.1 ≡ q.y - (c.y - t.radius)))
        (λ p f. found p f.0) l s)

    abbrev ring-moves : ℕ
    ring-moves = total (gap (samples after w t c.x c.y) (samples img w t c.x c.y)) 16

    ring-levels : ring-moves ≤ levels
    ring-levels =
        let same : ring-moves ≡ total (λ k. moved (nth t.places k)) 16 =
        total-alike _ _ 16 (λ k l. rw (sample-at after w t c k l, sample-at img w t c k l)) in
        omega (arith, rw is.sixteen at (total-nth moved t.places), few t.places (places-apart t is) (in-square t is))

    cross-levels : Near (cross_of after w c.x c.y) (cross_of img w c.x c.y) levels
    cross-levels =
        let one = radius-pos t is in
        rw (cross-sum after w t c one n.left n.above, cross-sum img w t c one n.left n.above)
        (near-wide _ _ _ levels
        (near-sum (pixel_at after w t c) (pixel_at img w t c) moved (cross_places t)
        (all_of _ (λ p. near-gap (pixel_at after w t c p) (pixel_at img w t c p)) (cross_places t)))
        (few (cross_places t) (cross-apart t is) (cross-in-square t one)))

    abbrev E : List ℕ → ℤ
    E i = let s = samples i w t c.x c.y in fifths (sr_of s) (dr_of s) (ring_sum_of s) (cross_of i w c.x c.y)

    moves : (D C : ℕ) → ring-moves ≤ D → Near (cross_of after w c.x c.y) (cross_of img w c.x c.y) C
        → nat_abs (E after -ℤ E img) ≤ 15 * D + 16 * C
    moves D C l m =
        let s = samples after w t c.x c.y in
        let u = samples img w t c.x c.y in
        exact-near _ _ _ _ _ _ _ _ D C (near-wide _ _ _ D (sr-near s u) l) (near-wide _ _ _ D (dr-near s u) l)
        (near-wide _ _ _ D (sum_near s u) l) m

  -- no cell has the pixel in its ring and in its cross
  not-both : in_cross t q c ≡ true → on_ring t q c ≡ false
  not-both e =
      none_any (is_at t q c) t.places
      (all_map (λ p. All (Differ p) (cross_places t)) (λ p. is_at t q c p ≡ true → ⊥)
      (λ p d z. false≢true (sym (none_beside t q c p (cross_places t) d z) ∙ e))
      t.places (ring-off-cross t is))

  -- ---- what is moved
  inside-or : (k : ℕ) → ((n : Within w h t c) → nat_abs (E n after -ℤ E n img) ≤ k)
      → nat_abs (fifths_at after w h t c.x c.y -ℤ fifths_at img w h t c.x c.y) ≤ k
  inside-or k f = go (inside w h t c.x c.y) refl
    where
      go : (b : Bool) → inside w h t c.x c.y ≡ b → nat_abs (fifths_at after w h t c.x c.y -ℤ fifths_at img w h t c.x c.y) ≤ k
      go true e = unfold fifths_at in (rw e (f (within w h t c e)))
      go false e = unfold fifths_at in (rw e (omega arith))

  pub through_ring : on_ring t q c ≡ true → nat_abs (fifths_at after w h t c.x c.y -ℤ fifths_at img w h t c.x c.y) ≤ 15 * levels
  through_ring e =
      inside-or (15 * levels)
      (λ n.
      let off : in_cross t q c ≡ false = is_false (in_cross t q c) (λ z. false≢true (sym (not-both z) ∙ e)) in
      omega (arith, moves n levels 0 (ring-levels n) (near_same _ _ (cross-kept img w h sized t q across down v c n is off))))

  pub through_cross : in_cross t q c ≡ true → nat_abs (fifths_at after w h t c.x c.y -ℤ fifths_at img w h t c.x c.y) ≤ 16 * levels
  through_cross e =
      inside-or (16 * levels)
      (λ n.
      let same = samples-kept img w h sized t q across down v c n is (not-both e) in
      omega (arith, moves n 0 levels (still n same) (cross-levels n)))
    where
      none : (s : List ℕ) → total (gap s s) 16 ≡ 0
      none s = omega (arith, total-bound (gap s s) 0 16 (λ k l. omega arith))

      still : (n : Within w h t c) → samples after w t c.x c.y ≡ samples img w t c.x c.y → ring-moves n ≤ 0
      still n same = rw same (le_of_eq (none (samples img w t c.x c.y)))
