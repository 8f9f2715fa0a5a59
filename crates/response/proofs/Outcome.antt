-- What no refusal tells of a call, the clipped box in the image, and what each call answers and leaves. Assumes nothing.
use mathlib.Core.Path.{◌≡◌, refl, sym, subst, ◌∙◌}
use mathlib.Core.Logic.{◌⊎◌}
use mathlib.Core.Bool.{Bool, true, false, cond, not}
use mathlib.Core.List.{List, [], ◌∷◌, ◌++◌}
use Prim.Native.Nat.{ℕ, ◌+◌, ◌*◌, ◌≤◌}
use native.Mathlib.Nat.{mul-le-mul, mul_comm, le_trans, le_of_eq}
use native.Mathlib.Omega.{arith}
use borrow.Author.Tests.{ltb-false, not-false, eq-eqb, le-ltb}
use Rattle.std.specs.Prelude.{Result, Ok, Err}
use lib.Dec.{eqb, ltb}
use lib.Ieee.{Float}
use lib.ListN.{length, drop}
use Rattle.lists.specs.Limits.{largest_side}
use Rattle.float32.specs.Float32.{zero as zero32}
use Rattle.lists.specs.Tab.{grid}
use Rattle.lists.specs.Buffer.{front}
use Rattle.lists.specs.declared.refusal.Refusal.{Refusal}
use Rattle.lists.specs.Refusals.{judged, verdict, result_or}
use Rattle.lists.specs.Internal.{Sized}
use Rattle.lists.proofs.Refusals.{lowest-none, sized-none}
use Rattle.lists.proofs.Judged.{number-judged, values-judged, judged-ok, judged-err, refused-stays}
use Rattle.lists.proofs.Tab.{length-grid, grid-ext}
use Rattle.ring.specs.Ring.{ring_of, is_ring}
use Rattle.ring.proofs.Places.{radius-is, ring_is, ring-fits}
use Rattle.response.specs.Response.{is_within, response_at}
use Rattle.response.specs.Patch.{View, side_of, besides, map_width, map_height, left, top, response_in, cells, inner_in, inner_cells}
use Rattle.response.specs.Patch.{refusal_of, MapMade, Patched, InnerPatched}
use Rattle.response.specs.Internal.{refusal_for}
use Rattle.response.specs.declared.Patch.{Patch}
use Rattle.response.proofs.Inside.{far-off}

-- ---- no refusal: an image, one of the two rings, and places enough
pub record Taken (pixels w h radius size places : ℕ) : Type 0 where
  pub narrow : w ≤ largest_side
  pub low : h ≤ largest_side
  pub sized : pixels ≡ w * h
  pub known : (radius ≡ 5) ⊎ (radius ≡ 10)
  pub enough : size ≤ places

pub taken : (pixels w h radius size places : ℕ) → refusal_for pixels w h radius size places ≡ 0 → Taken pixels w h radius size places
unfolding refusal_for
taken pixels w h radius size places e =
    let last : List (Bool × ℕ) = (ltb places size, 8) ∷ [] in
    let p = sized-none pixels w h ((not (is_ring radius), 3) ∷ last) e in
    let q = lowest-none (not (is_ring radius)) 3 last (omega arith) p.1 in
    let r = lowest-none (ltb places size) 8 [] (omega arith) q.1 in
    record {
      narrow = p.0.narrow;
      low = p.0.low;
      sized = p.0.sized;
      known = ring_is radius (not-false _ q.0);
      enough = ltb-false _ _ r.0;
    }

-- the same of a view
pub number_of : (v : View) (radius places : ℕ)
    → refusal_of v radius places ≡ refusal_for (length v.img) v.w v.h radius (map_height v * map_width v) places
unfolding refusal_of refusal_for
number_of v radius places = refl

-- and where these hold, nothing refuses
pub allowed : (v : View) (radius places : ℕ) → Taken (length v.img) v.w v.h radius (map_height v * map_width v) places
    → refusal_of v radius places ≡ 0
unfolding refusal_of
allowed v radius places t =
    rw (le-ltb _ _ t.narrow, le-ltb _ _ t.low, eq-eqb _ _ t.sized, ring-fits radius t.known, le-ltb _ _ t.enough)

pub image : (pixels w h radius size places : ℕ) → Taken pixels w h radius size places
    → Sized pixels w h × ((ring_of radius).radius ≡ radius)
image pixels w h radius size places t = (record { sized = t.sized; narrow = t.narrow; low = t.low }, radius-is radius t.known)

-- ---- the clipped box lies in the image
besides-le : (own other : ℕ) → besides own other ≤ own
besides-le own other = pick (eqb other 0)
  where
    pick : (b : Bool) → cond b 0 own ≤ own
    pick true = omega arith
    pick false = omega arith

module _ (v : View) where
  pub cols-in : left v + map_width v ≤ v.w
  cols-in = omega (arith, besides-le (side_of v.w v.x0 v.x1) (side_of v.h v.y0 v.y1))

  pub rows_in : top v + map_height v ≤ v.h
  rows_in = omega (arith, besides-le (side_of v.h v.y0 v.y1) (side_of v.w v.x0 v.x1))

  pub cols-le : map_width v ≤ v.w
  cols-le = omega (arith, cols-in)

  pub rows-le : map_height v ≤ v.h
  rows-le = omega (arith, rows_in)

  pub area_in : map_height v * map_width v ≤ v.w * v.h
  area_in = le_trans (mul-le-mul rows-le cols-le) (le_of_eq (mul_comm v.h v.w))

-- ---- what a call answers and leaves
module _ (v : View) (radius : ℕ) (d : List Float) where
  -- by its answer
  pub made : (cs : List Float) (r : Result Patch Refusal) (e : List Float)
      → r ≡ judged (refusal_of v radius (length d)) (record { w = map_width v; h = map_height v })
      → e ≡ result_or (refusal_of v radius (length d)) (front cs d) d → MapMade v cs radius d r e
  unfolding refusal_of
  made cs r e p b = record { answer = p; number = number-judged _ _ p (grind arith); values = values-judged _ _ _ p; buffer = b }

  -- that of the box's sides
  module _ (pw ph : ℕ) (across : pw ≡ map_width v) (down : ph ≡ map_height v) where
    same : refusal_for (length v.img) v.w v.h radius (ph * pw) (length d) ≡ refusal_of v radius (length d)
    same = rw (across, down, number_of v radius (length d))

    pub when-refused : (cs : List Float) (e : Refusal) → Err e ≡ verdict (refusal_for (length v.img) v.w v.h radius (ph * pw) (length d))
        → MapMade v cs radius d (Err e) d
    when-refused cs e p =
        let q = rw same at p in
        made cs (Err e) d (judged-err _ _ _ e q) (sym (refused-stays _ _ e _ d q))

    -- what the rows fill is what the map holds
    pub when-filled : (ok : Unit {0}) → Ok ok ≡ verdict (refusal_for (length v.img) v.w v.h radius (ph * pw) (length d))
        → (margin x y : ℕ) (e : List Float) → x ≡ left v → y ≡ top v
        → e
        ≡ grid pw ph (λ i j. cond (is_within margin pw ph i j) (response_at v.img v.w v.h v.ring (x + i) (y + j)) zero32)
        ++ drop (ph * pw) d
        → InnerPatched v margin radius d (Ok (record { w = pw; h = ph })) e
    unfolding inner_cells
    when-filled ok p margin x y e l t f =
        let z = sym same ∙ (judged-ok _ _ ok p).0 in
        made (inner_cells v margin) _ e (rw (z, across, down))
        (f ∙ rw (z, across, down, l, t, length-grid (map_width v) (map_height v)))

-- ---- without a margin all cells are computed
pub inner-all : (v : View) → inner_cells v 0 ≡ cells v
unfolding cells inner_cells
inner-all v =
    grid-ext (map_width v) (map_height v) (inner_in v 0) (response_in v)
    (λ i j p q. rw (far-off 0 (map_width v) (map_height v) i j (omega arith) (omega arith) (omega arith) (omega arith)))

pub all-patched : (v : View) (radius : ℕ) (d : List Float) (r : Result Patch Refusal) (e : List Float)
    → InnerPatched v 0 radius d r e
    → Patched v radius d r e
all-patched v radius d r e p = subst (λ (cs : List Float). MapMade v cs radius d r e) (inner-all v) p
