-- A sure peak is a peak by exact values that lie within the limits. Assumes nothing.
use mathlib.Core.Path.{◌≡◌, refl, sym, ◌∙◌}
use mathlib.Core.Bool.{Bool, true, false, not, cond, ◌&&◌, ◌||◌, false≢true}
use mathlib.Core.List.{List, [], ◌∷◌}
use Prim.Native.Nat.{ℕ, ◌+◌, ◌-◌, ◌*◌, ◌<◌, ◌≤◌}
use native.Mathlib.Nat.{le_trans}
use native.Mathlib.Omega.{arith}
use lib.Dec.{leb, leb→le}
use lib.IntN.{ℤ, pos, negsuc}
use lib.Signed.{lt_z, ◌≤ℤ◌, <ℤ-≤ℤ_trans}
use borrow.Author.Tests.{ltb-true, lt-ltb, le-leb, leb-true, not-true}
use Rattle.lists.specs.Places.{Place, block, any, keep, count}
use Rattle.lists.proofs.Tests.{to-T, from-T, is_false, and_parts}
use Rattle.lists.proofs.Members.{Implies, any_none, at_block, any-more, keep-fewer}
use Rattle.detect.specs.Peaks.{CellTests, same, window, beaten, positives, is_peak, peak_places}
use Rattle.detect.specs.Internal.{Inside}
use Rattle.detect.proofs.Window.{same_self, window-in}
use Rattle.sure_peak.specs.SurePeak.{stored_fifths, by_limits, inside_border, is_sure}
use Rattle.sure_peak.specs.Internal.{sure}
use Rattle.sure_peak.proofs.Judging.{inside}

-- ---- tests of integers in order
lt-le : (a b c : ℤ) → lt_z a b ≡ true → b ≤ℤ c → lt_z a c ≡ true
lt-le a b c e l = from-T (lt_z a c) (<ℤ-≤ℤ_trans {a = a} {b = b} {c = c} (record { lt = to-T e }) l).lt

le-lt : (a b c : ℤ) → a ≤ℤ b → lt_z b c ≡ true → lt_z a c ≡ true
le-lt (pos a) (pos b) (pos c) l e = let x = leb→le a b l.le in let y = ltb-true b c e in lt-ltb a c (omega arith)
le-lt (pos a) (pos b) (negsuc c) l e = e
le-lt (pos a) (negsuc b) c l e = absurd l.le
le-lt (negsuc a) (pos b) (pos c) l e = refl
le-lt (negsuc a) (pos b) (negsuc c) l e = absurd (false≢true e)
le-lt (negsuc a) (negsuc b) (pos c) l e = refl
le-lt (negsuc a) (negsuc b) (negsuc c) l e = let x = leb→le b a l.le in let y = ltb-true c b e in lt-ltb c a (omega arith)

-- ---- exact values f within two maps of w by h
pub record Within (lows highs : List ℤ) (w h : ℕ) (f : Place → ℤ) : Type 0 where
  pub least : (q : Place) → q.x < w → q.y < h → stored_fifths lows w q ≤ℤ f q
  pub most : (q : Place) → q.x < w → q.y < h → f q ≤ℤ stored_fifths highs w q

module _ (lows highs : List ℤ) (w h : ℕ) (f : Place → ℤ) (v : Within lows highs w h f) (threshold r least : ℕ) (p : Place) where
  abbrev limits : CellTests
  limits = sure lows highs w threshold

  abbrev values : CellTests
  values = by_limits f f threshold

  module _ (across : p.x < w) (down : p.y < h) where
    -- a cell that is larger can be so
    larger-too : any (λ q. values.larger q p) (window w h r p) ≡ true → any (λ q. limits.larger q p) (window w h r p) ≡ true
    larger-too =
        any-more (λ q. values.larger q p) (λ q. limits.larger q p) (window w h r p)
        (window-in (Implies (λ q. values.larger q p) (λ q. limits.larger q p)) w h r p
        (λ q i j e. lt-le (stored_fifths lows w p) (f q) (stored_fifths highs w q)
        (le-lt (stored_fifths lows w p) (f p) (f q) (v.least p across down) e) (v.most q i j)))

    -- what is surely above 0 is so
    positive-too : count limits.positive (window w h r p) ≤ count values.positive (window w h r p)
    unfolding count
    positive-too =
        keep-fewer limits.positive values.positive (window w h r p)
        (window-in (Implies limits.positive values.positive) w h r p
        (λ q i j e. lt-le (pos 0) (stored_fifths lows w q) (f q) e (v.least q i j)))

    peak-too : is_peak limits w h r least p ≡ true → is_peak values w h r least p ≡ true
    unfolding is_peak beaten positives
    peak-too e =
        let a = and_parts (limits.above p) _ e in
        let b = and_parts (not (any (λ q. limits.larger q p) (window w h r p))) _ a.1 in
        let above : values.above p ≡ true = lt-le (pos (5 * threshold)) (stored_fifths lows w p) (f p) a.0 (v.least p across down) in
        let top : any (λ q. values.larger q p) (window w h r p) ≡ false =
        is_false _ (λ t. false≢true (sym (not-true _ b.0) ∙ larger-too t)) in
        let many : leb least (count values.positive (window w h r p)) ≡ true =
        le-leb _ _ (le_trans (leb-true least (count limits.positive (window w h r p)) b.1) positive-too) in
        rw (above, top, many)

-- ---- a peak inside the border is one of the list
any-kept : {A : Type 0} (f g : A → Bool) (l : List A) → any (λ a. g a && f a) l ≡ true → any f (keep g l) ≡ true
any-kept f g [] e = e
any-kept f g (a ∷ l) e = pick (g a) (f a) refl e (any-kept f g l)
  where
    pick : (b c : Bool) → f a ≡ c → ((b && c) || any (λ a. g a && f a) l) ≡ true
        → (any (λ a. g a && f a) l ≡ true → any f (keep g l) ≡ true)
        → any f (cond b (a ∷ keep g l) (keep g l)) ≡ true
    pick true true q e r = rw q
    pick true false q e r = rw q (r e)
    pick false c q e r = r e

pub listed : (v : CellTests) (w h border r least : ℕ) (p : Place) → Inside w h border p → is_peak v w h r least p ≡ true
    → any (λ q. same q p) (peak_places v w h border r least) ≡ true
unfolding peak_places
listed v w h border r least p i e = any-kept (λ q. same q p) (is_peak v w h r least) places (go (any test places) refl)
  where
    places : List Place
    places = block border (w - border) border (h - border)

    test : Place → Bool
    test q = is_peak v w h r least q && same q p

    go : (b : Bool) → any test places ≡ b → any test places ≡ true
    go true z = z
    go false z =
        absurd
        (at_block (λ q. test q ≡ true → ⊥) border (w - border) border (h - border) (any_none test places z) p.x p.y
        i.left (omega (arith, i.right)) i.top (omega (arith, i.bottom)) (rw (e, same_self p)))

-- ---- and so a sure peak is a peak of the list by exact values
module _ (lows highs : List ℤ) (w h ring threshold r least centroid : ℕ) (p : Place)
    (s : is_sure lows highs w h ring threshold r least centroid p ≡ true) where
  parts : (inside_border w h (ring + r + centroid) p ≡ true) × (is_peak (sure lows highs w threshold) w h r least p ≡ true)
  parts = and_parts _ _ (unfold is_sure in s)

  pub sure-inside : Inside w h (ring + r + centroid) p
  sure-inside = let i = and_parts _ _ parts.0 in inside w h (ring + r + centroid) p i.0 i.1

  pub sure-peak : (f : Place → ℤ) → Within lows highs w h f → is_peak (by_limits f f threshold) w h r least p ≡ true
  sure-peak f v =
      peak-too lows highs w h f v threshold r least p (omega (arith, sure-inside.right)) (omega (arith, sure-inside.bottom)) parts.1
