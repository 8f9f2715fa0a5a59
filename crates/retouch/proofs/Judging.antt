-- What each return of the ladder gives, what no refusal tells, and what a call answers and leaves. Assumes nothing.
use mathlib.Core.Path.{◌≡◌, sym, ◌∙◌}
use mathlib.Core.Bool.{Bool, true, false, cond, not, ◌||◌}
use mathlib.Core.List.{List, [], ◌∷◌}
use Prim.Native.Nat.{ℕ, ◌+◌, ◌*◌}
use native.Mathlib.Omega.{arith}
use lib.Dec.{leb}
use lib.ListN.{length, length-set}
use lib.Ieee.{Float}
use borrow.Author.Tests.{eq-eqb, leb-false, not-false}
use Rattle.lists.specs.Places.{Place}
use Rattle.std.specs.Prelude.{Result, Ok, Err}
use Rattle.lists.specs.declared.refusal.Refusal.{Refusal}
use Rattle.lists.specs.Refusals.{lowest, is_large, is_misfit, judged, verdict, result_or}
use Rattle.lists.proofs.Judged.{number-judged, values-judged, judged-ok, judged-err, refused-stays}
use Rattle.image_size.proofs.Judged.{refused, passed}
use Rattle.lists.specs.Internal.{Sized}
use Rattle.lists.proofs.Tests.{or-neither}
use Rattle.lists.proofs.Refusals.{all-clear, sized_of}
use Rattle.image_size.specs.ImageSize as image_size
use Rattle.ring.specs.Ring.{ring_of, is_ring}
use Rattle.ring.proofs.Places.{ring_is}
use Rattle.retouch.specs.Retouch.{touched_count, changed, redone}
use Rattle.retouch.specs.Promise.{place_outside, conditions, refusal_of, Retouches}
use Rattle.retouch.specs.Internal.{PixelChecked}

-- ---- the ladder
module _ (pixels cells w h ring : ℕ) (q : Place) (x : Refusal) where
  -- the test of the image refuses
  pub by-image : Err x ≡ verdict (image_size.refusal_of pixels w h) → Err x ≡ verdict (refusal_of pixels cells w h ring q)
  unfolding refusal_of image_size.refusal_of
  by-image e = go (is_large w h) (is_misfit pixels w h) (is_misfit cells w h) _ e
    where
      go : (a b c : Bool) (rest : ℕ) → Err x ≡ verdict (cond a 1 (cond b 2 0)) → Err x ≡ verdict (cond a 1 (cond (b || c) 2 rest))
      go true b c rest e = e
      go false true c rest e = e
      go false false c rest e = absurd (let no : ⊥ = grind arith in no)

  -- else that of the map
  pub by_map : Sized pixels w h → Err x ≡ verdict (image_size.refusal_of cells w h) → Err x ≡ verdict (refusal_of pixels cells w h ring q)
  unfolding refusal_of
  by_map s e = rw (eq-eqb pixels (w * h) s.sized) (refused cells w h tt x _ e)

-- else the rest of the table
module _ (pixels cells w h ring : ℕ) (q : Place) (s : Sized pixels w h) where
  pub by-rest : Sized cells w h → refusal_of pixels cells w h ring q ≡ lowest ((not (is_ring ring), 3) ∷ (place_outside w h q, 14) ∷ [])
  unfolding refusal_of
  by-rest u = rw (eq-eqb pixels (w * h) s.sized) (passed cells w h _ u)

-- ---- no refusal
pub ready : (img : List ℕ) (w h ring : ℕ) (q : Place) (m : List Float) → refusal_of (length img) (length m) w h ring q ≡ 0
    → PixelChecked img w h ring q m
unfolding refusal_of
ready img w h ring q m e =
    let c = all-clear (conditions (length img) (length m) w h ring q) (omega arith, (omega arith, (omega arith, (omega arith, tt)))) e in
    let sizes = or-neither (is_misfit (length img) w h) (is_misfit (length m) w h) c.1.0 in
    let place = or-neither (leb w q.x) (leb h q.y) c.1.1.1.0 in
    record {
      image = sized_of (length img) w h c.0 sizes.0;
      cells = (sized_of (length m) w h c.0 sizes.1).sized;
      known = ring_is ring (not-false (is_ring ring) c.1.1.0);
      column = leb-false _ _ place.0;
      row = leb-false _ _ place.1;
    }

-- and the image with the pixel changed is as long
pub ready-changed : (img : List ℕ) (w h ring : ℕ) (q : Place) (m : List Float) (value : ℕ) → PixelChecked img w h ring q m
    → PixelChecked (changed img w q value) w h ring q m
ready-changed img w h ring q m value r =
    record {
      image = record { narrow = r.image.narrow; low = r.image.low; sized = length-set img (q.y * w + q.x) value ∙ r.image.sized };
      cells = r.cells;
      known = r.known;
      column = r.column;
      row = r.row;
    }

-- ---- what a call answers and leaves
module _ (w h ring : ℕ) (q : Place) (value : ℕ) (img : List ℕ) (m : List Float) where
  abbrev number : ℕ
  number = refusal_of (length img) (length m) w h ring q

  retouches : (r : Result ℕ Refusal) (img' : List ℕ) (m' : List Float) → r ≡ judged number (touched_count w h (ring_of ring) q)
      → img' ≡ result_or number (changed img w q value) img
      → m' ≡ result_or number (redone (changed img w q value) w h (ring_of ring) q m) m
      → Retouches w h ring q value img m r img' m'
  unfolding refusal_of
  retouches r img' m' a i b =
      record { answer = a; number = number-judged _ _ a (grind arith); values = values-judged _ _ _ a; image = i; map = b }

  pub when-refused : (e : Refusal) → Err e ≡ verdict number → Retouches w h ring q value img m (Err e) img m
  when-refused e p =
      retouches (Err e) img m (judged-err _ _ _ e p) (sym (refused-stays _ _ e _ img p)) (sym (refused-stays _ _ e _ m p))

  pub when-redone : (ok : Unit {0}) → Ok ok ≡ verdict number → (cells : ℕ) (img' : List ℕ) (m' : List Float) → img' ≡ changed img w q value
      → cells ≡ touched_count w h (ring_of ring) q → m' ≡ redone img' w h (ring_of ring) q m
      → Retouches w h ring q value img m (Ok cells) img' m'
  when-redone ok p cells img' m' i c d =
      let z = (judged-ok _ _ ok p).0 in
      retouches (Ok cells) img' m' (rw (z, c)) (rw z i) (rw z (d ∙ rw i))
