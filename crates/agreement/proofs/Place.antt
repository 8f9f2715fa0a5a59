-- A place of a map of accurate cells at a whole threshold: a computed peak is an exact one, and an exact one is a computed one exactly when
-- it has no tie. Assumes nothing.
use Prim.Native.Nat.{ℕ, ◌*◌, ◌<◌, ◌≤◌}
use native.Mathlib.Nat.{le_trans}
use mathlib.Core.Path.{◌≡◌, refl, sym, ap, ◌∙◌}
use mathlib.Core.Logic.{◌↔◌}
use mathlib.Core.Bool.{Bool, true, false, not, false≢true}
use mathlib.Core.List.{List}
use borrow.Author.Tests.{not-true, le-leb}
use lib.ListN.{length}
use lib.IntN.{ℤ, pos}
use lib.Signed.{◌<ℤ◌, lt_z}
use lib.Ieee.{Float, le}
use Rattle.lists.specs.Places.{Place, count, All}
use Rattle.lists.proofs.Tests.{to-T, from-T, is_false}
use Rattle.lists.proofs.Members.{all_map, all_both, none_any, any_none, Implies, keep-fewer, alike-if}
use Rattle.float32.specs.Value.{IsWhole}
use Rattle.float32.proofs.Approx.{lt-asym}
use Rattle.accuracy.specs.Accurate.{Accurate}
use Rattle.accuracy.proofs.Judged.{ordered, at-most-whole}
use Rattle.detect.specs.Peaks.{window, beaten, positives, is_peak, value_at, larger_in, positive_in, computed}
use Rattle.detect.specs.Exact.{fifths_above, exact}
use Rattle.detect.proofs.Choice.{peak-above, peak-unbeaten, peak-supported, peak-counted}
use Rattle.detect.proofs.Window.{window-in}
use Rattle.detect.proofs.Agreement.{Stands}
use Rattle.agreement.specs.Agreement.{Tied}
use Rattle.agreement.proofs.Threshold.{less-is, level, above-whole-fifths}

-- the cells of a map of w by h are accurate for the exact values, in fifths
abbrev pub CellsAccurate : List Float → (Place → ℤ) → ℕ → ℕ → Type 0
CellsAccurate m fifths w h = (p : Place) → p.x < w → p.y < h → Accurate (value_at m w p) (fifths p)

module _ (m : List Float) (fifths : Place → ℤ) (w h : ℕ) (cells : CellsAccurate m fifths w h) where
  pub positive-both : (q : Place) → q.x < w → q.y < h → (positive_in m w q ≡ true) ↔ (lt_z (pos 0) (fifths q) ≡ true)
  positive-both q qx qy = (
    λ e. (less-is (pos 0) (fifths q)).1 ((cells q qx qy).positive.0 (to-T e)),
    λ e. from-T _ ((cells q qx qy).positive.1 ((less-is (pos 0) (fifths q)).0 e)),
  )

  -- so a place has as many positive neighbours by exact values
  pub counts-alike : (r : ℕ) (p : Place) → positives (λ q. lt_z (pos 0) (fifths q)) w h r p ≡ positives (positive_in m w) w h r p
  unfolding positives count
  counts-alike r p =
      let f : Place → Bool = λ q. lt_z (pos 0) (fifths q) in
      ap length
      (alike-if f (positive_in m w) (window w h r p)
      (window-in (Implies f (positive_in m w)) w h r p (λ q x y. (positive-both q x y).1))
      (window-in (Implies (positive_in m w) f) w h r p (λ q x y. (positive-both q x y).0)))

module _ (m : List Float) (fifths : Place → ℤ) (t : Float) (k w h : ℕ) (whole : IsWhole t k) (cells : CellsAccurate m fifths w h) where
  -- ---- the three questions, at places of the map
  above-both : (p : Place) → p.x < w → p.y < h → (not (le (value_at m w p) t) ≡ true) ↔ (fifths_above t (fifths p) ≡ true)
  above-both p px py =
      let a = at-most-whole t (value_at m w p) k (fifths p) whole (cells p px py) in
      let b = above-whole-fifths t k (fifths p) whole in (
        λ e. b.1 (decide (fifths p) (λ n. false≢true (sym (not-true (le (value_at m w p) t) e) ∙ from-T (le (value_at m w p) t) (a.1 n)))),
        λ e. ap not (is_false (le (value_at m w p) t) (λ q. a.0 (to-T q) (b.0 e))),
      )
    where
      decide : (E : ℤ) → ((pos (5 * k) <ℤ E → ⊥) → ⊥) → pos (5 * k) <ℤ E
      decide E f = go (lt_z (pos (5 * k)) E) refl
        where
          go : (b : Bool) → lt_z (pos (5 * k)) E ≡ b → pos (5 * k) <ℤ E
          go true q = (less-is _ E).0 q
          go false q = absurd (f (λ l. false≢true (sym q ∙ (less-is _ E).1 l)))

  larger-kept : (q p : Place) → q.x < w → q.y < h → p.x < w → p.y < h → lt_z (fifths p) (fifths q) ≡ true → larger_in m w q p ≡ true
  larger-kept q p qx qy px py e =
      from-T _ (ordered (value_at m w p) (value_at m w q) (fifths p) (fifths q) (cells p px py) (cells q qx qy)
      ((less-is (fifths p) (fifths q)).0 e))

  -- computed larger, and exactly not larger: equal
  equal_of : (q p : Place) → q.x < w → q.y < h → p.x < w → p.y < h → larger_in m w q p ≡ true
      → (lt_z (fifths p) (fifths q) ≡ true → ⊥) → fifths q ≡ fifths p
  equal_of q p qx qy px py l f =
      level (fifths q) (fifths p)
      (λ e. lt-asym (value_at m w p) (value_at m w q) (cells p px py).near.is_finite (cells q qx qy).near.is_finite (to-T l)
      (to-T (larger-kept p q px py qx qy e)))
      f

  -- so a computed peak is an exact one (`peak-stands`)
  pub stands : Stands (computed m w t) (exact fifths t) w h
  stands = record {
    above = λ p px py. (above-both p px py).0;
    larger = larger-kept;
    positive = λ q qx qy. (positive-both m fifths w h cells q qx qy).0;
  }

  -- ---- an exact peak is a computed one exactly when it has no tie
  module _ (r least : ℕ) (p : Place) (px : p.x < w) (py : p.y < h) (top : is_peak (exact fifths t) w h r least p ≡ true) where
    none-larger : All (λ q. lt_z (fifths p) (fifths q) ≡ true → ⊥) (window w h r p)
    unfolding beaten
    none-larger = any_none (λ q. lt_z (fifths p) (fifths q)) (window w h r p) (peak-unbeaten (exact fifths t) w h r least p top)

    unbeaten-of : All (λ q. Tied m fifths w p q → ⊥) (window w h r p) → beaten (larger_in m w) w h r p ≡ false
    unfolding beaten
    unbeaten-of u =
        none_any (λ q. larger_in m w q p) (window w h r p)
        (all_map (λ q. ((q.x < w) × (q.y < h)) × ((Tied m fifths w p q → ⊥) × (lt_z (fifths p) (fifths q) ≡ true → ⊥)))
        (λ q. larger_in m w q p ≡ true → ⊥)
        (λ q c e. c.1.0 (record { equal = equal_of q p c.0.0 c.0.1 px py e c.1.1; larger = e }))
        (window w h r p)
        (all_both _ _ (window w h r p) (window-in (λ q. (q.x < w) × (q.y < h)) w h r p (λ q a b. (a, b)))
        (all_both _ _ (window w h r p) u none-larger)))

    no-tie-of : is_peak (computed m w t) w h r least p ≡ true → All (λ q. Tied m fifths w p q → ⊥) (window w h r p)
    unfolding beaten
    no-tie-of e =
        all_map (λ q. larger_in m w q p ≡ true → ⊥) (λ q. Tied m fifths w p q → ⊥) (λ q f z. f z.larger) (window w h r p)
        (any_none (λ q. larger_in m w q p) (window w h r p) (peak-unbeaten (computed m w t) w h r least p e))

    enough : least ≤ positives (positive_in m w) w h r p
    unfolding positives count
    enough =
        le_trans (peak-supported (exact fifths t) w h r least p top)
        (keep-fewer (λ q. lt_z (pos 0) (fifths q)) (positive_in m w) (window w h r p)
        (window-in (Implies (λ q. lt_z (pos 0) (fifths q)) (positive_in m w)) w h r p
        (λ q a b. (positive-both m fifths w h cells q a b).1)))

    pub peak-both : (is_peak (computed m w t) w h r least p ≡ true) ↔ All (λ q. Tied m fifths w p q → ⊥) (window w h r p)
    peak-both = (
      no-tie-of,
      λ u.
          sym (peak-counted (computed m w t) w h r least p ((above-both p px py).1 (peak-above (exact fifths t) w h r least p top))
          (ap not (unbeaten-of u)))
          ∙ le-leb least _ enough,
    )
