-- Which cell a pixel touches by one place, and how many by several. Assumes nothing.
use mathlib.Core.Path.{◌≡◌, refl, sym, ap, ◌∙◌}
use mathlib.Core.Bool.{Bool, true, false, ◌&&◌, ◌||◌, false≢true}
use mathlib.Core.Logic.{inl, inr}
use mathlib.Core.List.{List, [], ◌∷◌, ◌++◌}
use Prim.Native.Nat.{ℕ, ◌+◌, ◌*◌, ◌-◌, ◌<◌, ◌≤◌}
use native.Mathlib.Omega.{arith}
use lib.Dec.{eqb, leb, ltb}
use lib.ListN.{length}
use borrow.Author.Tests.{leb-true, ltb-true, le-leb, lt-ltb, eqb-true, eq-eqb}
use Rattle.lists.specs.Places.{Place, any, count, block, sum_of, All}
use Rattle.lists.proofs.Tests.{and_parts, and_none, or-either, is_false}
use Rattle.lists.proofs.Members.{all_map, all_of, none_any, keep-alike}
use Rattle.lists.proofs.Places.{any_append}
use Rattle.lists.proofs.Parts.{keep-only}
use Rattle.ring.specs.Ring.{Ring}
use Rattle.response.specs.Response.{inside}
use Rattle.retouch.specs.Retouch.{sample_places, is_at, touched_count}
use Rattle.retouch.specs.Internal.{fits, touched_by, count_by}
use Rattle.retouch.proofs.Counting.{count_none, count-either, sum-few}
use Rattle.retouch.proofs.Sampling.{Differ, Apart}

-- ---- a test taken apart
pub record Within (w h : ℕ) (t : Ring) (c : Place) : Type 0 where
  pub left : t.radius ≤ c.x
  pub right : c.x + t.radius < w
  pub above : t.radius ≤ c.y
  pub below : c.y + t.radius < h

module _ (w h : ℕ) (t : Ring) (c : Place) where
  pub within : inside w h t c.x c.y ≡ true → Within w h t c
  within e =
      let p = and_parts (leb t.radius c.x) (ltb (c.x + t.radius) w && (leb t.radius c.y && ltb (c.y + t.radius) h)) e in
      let q = and_parts (ltb (c.x + t.radius) w) (leb t.radius c.y && ltb (c.y + t.radius) h) p.1 in
      let r = and_parts (leb t.radius c.y) (ltb (c.y + t.radius) h) q.1 in
      record { left = leb-true _ _ p.0; right = ltb-true _ _ q.0; above = leb-true _ _ r.0; below = ltb-true _ _ r.1 }

  is-inside : Within w h t c → inside w h t c.x c.y ≡ true
  is-inside n = rw (le-leb _ _ n.left, lt-ltb _ _ n.right, le-leb _ _ n.above, lt-ltb _ _ n.below)

pub at_place : (t : Ring) (q c : Place) (p : ℕ × ℕ) → is_at t q c p ≡ true
    → (c.x - t.radius + p.0 ≡ q.x) × (c.y - t.radius + p.1 ≡ q.y)
at_place t q c p e =
    let b = and_parts (eqb (c.x - t.radius + p.0) q.x) (eqb (c.y - t.radius + p.1) q.y) e in
    (eqb-true _ _ b.0, eqb-true _ _ b.1)

pub is-at : (t : Ring) (q c : Place) (p : ℕ × ℕ) → c.x - t.radius + p.0 ≡ q.x → c.y - t.radius + p.1 ≡ q.y → is_at t q c p ≡ true
is-at t q c p x y = rw (eq-eqb _ _ x, eq-eqb _ _ y)

-- where it stands at p, it does not at places that differ from p
pub none_beside : (t : Ring) (q c : Place) (p : ℕ × ℕ) (ps : List (ℕ × ℕ)) → All (Differ p) ps → is_at t q c p ≡ true
    → any (is_at t q c) ps ≡ false
none_beside t q c p ps d e =
    let here = at_place t q c p e in
    none_any (is_at t q c) ps
    (all_map (Differ p) (λ o. is_at t q c o ≡ true → ⊥)
    (λ o differ z. let n = at_place t q c o z in differ (omega (arith, n.0, here.0)) (omega (arith, n.1, here.1))) ps d)

-- ---- one place
module _ (w h : ℕ) (t : Ring) (q : Place) (p : ℕ × ℕ) where
  -- the cell at whose place p the pixel stands
  abbrev pub cell_of : Place
  cell_of = record { x = q.x - p.0 + t.radius; y = q.y - p.1 + t.radius }

  pub record Fitting : Type 0 where
    pub from-left : p.0 ≤ q.x
    pub to-right : q.x - p.0 + 2 * t.radius < w
    pub from-above : p.1 ≤ q.y
    pub to_below : q.y - p.1 + 2 * t.radius < h

  pub fitting : fits w t.radius q.x p.0 ≡ true → fits h t.radius q.y p.1 ≡ true → Fitting
  fitting d e =
      let a = and_parts (leb p.0 q.x) (ltb (q.x - p.0 + 2 * t.radius) w) d in
      let b = and_parts (leb p.1 q.y) (ltb (q.y - p.1 + 2 * t.radius) h) e in
      record {
        from-left = leb-true _ _ a.0;
        to-right = ltb-true _ _ a.1;
        from-above = leb-true _ _ b.0;
        to_below = ltb-true _ _ b.1;
      }

  -- a cell that is touched by p alone
  touched-parts : (c : Place) → touched_by (p ∷ []) w h t q c ≡ true
      → Within w h t c × (c.x - t.radius + p.0 ≡ q.x) × (c.y - t.radius + p.1 ≡ q.y)
  touched-parts c e =
      let a = and_parts (inside w h t c.x c.y) (is_at t q c p || false) e in
      let b : is_at t q c p ≡ true = elim (or-either (is_at t q c p) false a.1) [ inl x ↦ x | inr z ↦ absurd (false≢true z) ] in
      let n = at_place t q c p b in
      (within w h t c a.0, n.0, n.1)

  -- none, where the square does not lie in the image
  pub none-across : fits w t.radius q.x p.0 ≡ false → (c : Place) → touched_by (p ∷ []) w h t q c ≡ false
  none-across e c =
      is_false _ (λ z.
      let n = touched-parts c z in
      let i = n.0 in
      false≢true (sym e ∙ rw (
        le-leb p.0 q.x (omega (arith, n.1)),
        lt-ltb (q.x - p.0 + 2 * t.radius) w (omega (arith, n.1, i.left, i.right)),
      )))

  pub none-down : fits h t.radius q.y p.1 ≡ false → (c : Place) → touched_by (p ∷ []) w h t q c ≡ false
  none-down e c =
      is_false _ (λ z.
      let n = touched-parts c z in
      let i = n.0 in
      false≢true (sym e ∙ rw (
        le-leb p.1 q.y (omega (arith, n.2)),
        lt-ltb (q.y - p.1 + 2 * t.radius) h (omega (arith, n.2, i.above, i.below)),
      )))

  -- else that cell and no other
  module _ (f : Fitting) where
    pub cell-across : cell_of.x < w
    cell-across = omega (arith, f.to-right)

    pub cell-down : cell_of.y < h
    cell-down = omega (arith, f.to_below)

    pub touched-here : touched_by (p ∷ []) w h t q cell_of ≡ true
    touched-here =
        let n : Within w h t cell_of =
        record { left = omega arith; right = omega (arith, f.to-right); above = omega arith; below = omega (arith, f.to_below) } in
        rw (is-inside w h t cell_of n, is-at t q cell_of p (omega (arith, f.from-left)) (omega (arith, f.from-above)))

    pub touched-only : (u v : ℕ) → (u ≡ cell_of.x → v ≡ cell_of.y → ⊥) → touched_by (p ∷ []) w h t q (record { x = u; y = v }) ≡ false
    touched-only u v other =
        is_false _ (λ z.
        let n = touched-parts (record { x = u; y = v }) z in
        other (omega (arith, n.1, n.0.left)) (omega (arith, n.2, n.0.above)))

    pub count-here : count_by (p ∷ []) w h t q ≡ 1
    unfolding count_by count
    count-here =
        ap length
        (keep-only (touched_by (p ∷ []) w h t q) 0 w 0 h cell_of.x cell_of.y touched-here touched-only
        (omega arith) cell-across (omega arith) cell-down)

  pub count-nowhere : ((c : Place) → touched_by (p ∷ []) w h t q c ≡ false) → count_by (p ∷ []) w h t q ≡ 0
  unfolding count_by
  count-nowhere none = count_none (touched_by (p ∷ []) w h t q) (block 0 w 0 h) none

  count-one : count_by (p ∷ []) w h t q ≤ 1
  count-one = go (fits w t.radius q.x p.0) refl (fits h t.radius q.y p.1) refl
    where
      go : (a : Bool) → fits w t.radius q.x p.0 ≡ a → (b : Bool) → fits h t.radius q.y p.1 ≡ b
          → count_by (p ∷ []) w h t q ≤ 1
      go true d true e = omega (arith, count-here (fitting d e))
      go true d false e = omega (arith, count-nowhere (none-down e))
      go false d b e = omega (arith, count-nowhere (none-across d))

-- ---- several places
either-cell : (a b c : Bool) → (a && (b || c)) ≡ ((a && (b || false)) || (a && c))
either-cell true true c = refl
either-cell true false c = refl
either-cell false b c = refl

either-list : (a b c : Bool) → (a && (b || c)) ≡ ((a && b) || (a && c))
either-list true b c = refl
either-list false b c = refl

module _ (w h : ℕ) (t : Ring) (q : Place) where
  pub touched_none : (c : Place) → touched_by [] w h t q c ≡ false
  touched_none c = and_none (inside w h t c.x c.y)

  pub touched-append : (ps qs : List (ℕ × ℕ)) (c : Place)
      → touched_by (ps ++ qs) w h t q c ≡ (touched_by ps w h t q c || touched_by qs w h t q c)
  touched-append ps qs c =
      rw (any_append (is_at t q c) ps qs) (either-list (inside w h t c.x c.y) (any (is_at t q c) ps) (any (is_at t q c) qs))

  -- no cell is touched by two places that differ
  not-both : (p : ℕ × ℕ) (ps : List (ℕ × ℕ)) → All (Differ p) ps → (c : Place) → touched_by (p ∷ []) w h t q c ≡ true
      → touched_by ps w h t q c ≡ true → ⊥
  not-both p ps d c e f =
      let here = touched-parts w h t q p c e in
      let there = and_parts (inside w h t c.x c.y) (any (is_at t q c) ps) f in
      false≢true (sym (none_beside t q c p ps d (is-at t q c p here.1 here.2)) ∙ there.1)

  -- so each place counts for itself
  pub count-apart : (ps : List (ℕ × ℕ)) → Apart ps → count_by ps w h t q ≡ sum_of (λ p. count_by (p ∷ []) w h t q) ps
  unfolding count_by
  count-apart [] a = count_none (touched_by [] w h t q) (block 0 w 0 h) touched_none
  count-apart (p ∷ ps) a =
      let split : count (touched_by (p ∷ ps) w h t q) (block 0 w 0 h) ≡ count (λ c. touched_by
      (p ∷ []) w h t q c || touched_by ps w h t q c) (block 0 w 0 h) =
      unfold count in
      ap length
      (keep-alike (touched_by (p ∷ ps) w h t q) (λ c. touched_by (p ∷ []) w h t q c || touched_by ps w h t q c) (block 0 w 0 h)
      (all_of _ (λ c. either-cell (inside w h t c.x c.y) (is_at t q c p) (any (is_at t q c) ps)) (block 0 w 0 h))) in
      split
      ∙ count-either (touched_by (p ∷ []) w h t q) (touched_by ps w h t q) (block 0 w 0 h) (not-both p ps a.0)
      ∙ ap (λ (n : ℕ). count (touched_by (p ∷ []) w h t q) (block 0 w 0 h) + n) (count-apart ps a.1)

  pub count-few : (ps : List (ℕ × ℕ)) → Apart ps → count_by ps w h t q ≤ length ps
  count-few ps a = omega (arith, count-apart ps a, sum-few (λ p. count_by (p ∷ []) w h t q) ps (count-one w h t q))

  -- all places of the ring and the cross
  pub touched-by-all : touched_count w h t q ≡ count_by (sample_places t) w h t q
  unfolding touched_count count_by
  touched-by-all = refl
