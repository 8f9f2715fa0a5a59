-- What each return of the ladder gives, what no refusal tells, and what a call answers. Assumes nothing.
use mathlib.Core.Path.{◌≡◌, sym, ap, ◌∙◌}
use mathlib.Core.Bool.{Bool, true, false, cond, ◌&&◌}
use mathlib.Core.List.{List}
use Prim.Native.Nat.{ℕ, ◌+◌, ◌*◌, ◌<◌, ◌≤◌}
use native.Mathlib.Omega.{arith}
use lib.Dec.{leb, ltb}
use lib.ListN.{length}
use lib.IntN.{ℤ}
use borrow.Author.Tests.{leb-true, ltb-true, leb-false, eq-eqb, ne_eqb}
use Rattle.lists.specs.Limits.{largest_ring, largest_radius}
use Rattle.std.specs.Prelude.{Result, Ok, Err}
use Rattle.lists.specs.Places.{Place}
use Rattle.lists.specs.declared.refusal.Refusal.{Refusal}
use Rattle.lists.specs.Refusals.{judged, verdict}
use Rattle.lists.proofs.Judged.{number-judged, values-judged, judged-ok, judged-err}
use Rattle.lists.specs.Internal.{Sized}
use Rattle.lists.proofs.Tests.{and_parts, and_none, or-neither}
use Rattle.lists.proofs.Refusals.{all-clear, sized_of}
use Rattle.image_size.proofs.Judged.{passed}
use Rattle.ring.proofs.Places.{ring-small}
use Rattle.frame_params.specs.Ranges.{range_outside}
use Rattle.frame_params.proofs.Ranges.{inside as inside-ranges}
use Rattle.detect.specs.Peaks.{is_peak}
use Rattle.detect.specs.Internal.{Inside}
use Rattle.retouch.specs.Promise.{place_outside}
use Rattle.sure_peak.specs.SurePeak.{is_sure}
use Rattle.sure_peak.specs.Internal.{sure}
use Rattle.sure_peak.specs.Promise.{conditions, refusal_of, SurePeakTold}

-- ---- the ladder
module _ (lows highs w h ring window centroid : ℕ) (p : Place) (s : Sized lows w h) where
  pub by_length : (highs ≡ lows → ⊥) → refusal_of lows highs w h ring window centroid p ≡ 2
  unfolding refusal_of
  by_length n = passed lows w h _ s ∙ rw (ne_eqb highs (w * h) (λ e. n (e ∙ sym s.sized)))

  module _ (same : highs ≡ lows) where
    rest : refusal_of lows highs w h ring window centroid p
        ≡ cond (range_outside ring window centroid) 3 (cond (place_outside w h p) 14 0)
    unfolding refusal_of
    rest = passed lows w h _ s ∙ rw (eq-eqb highs (w * h) (same ∙ s.sized))

    pub by-parameters : range_outside ring window centroid ≡ true → refusal_of lows highs w h ring window centroid p ≡ 3
    by-parameters b = rest ∙ ap (λ (t : Bool). cond t 3 (cond (place_outside w h p) 14 0)) b

    pub by_place : range_outside ring window centroid ≡ false
        → refusal_of lows highs w h ring window centroid p ≡ cond (place_outside w h p) 14 0
    by_place b = rest ∙ ap (λ (t : Bool). cond t 3 (cond (place_outside w h p) 14 0)) b

-- ---- no refusal: two maps, parameters in their ranges, and a place of the maps
pub record Given (lows highs w h ring window centroid : ℕ) (p : Place) : Type 0 where
  pub low-cells : Sized lows w h
  pub high-cells : Sized highs w h
  pub ring-small : ring ≤ largest_ring
  pub window-small : window ≤ largest_radius
  pub centroid-small : centroid ≤ largest_radius
  pub column : p.x < w
  pub row : p.y < h

pub given : (lows highs w h ring window centroid : ℕ) (p : Place) → refusal_of lows highs w h ring window centroid p ≡ 0
    → Given lows highs w h ring window centroid p
unfolding refusal_of
given lows highs w h ring window centroid p e =
    let c = all-clear (conditions lows highs w h ring window centroid p)
    (omega arith, (omega arith, (omega arith, (omega arith, (omega arith, tt))))) e in
    let parameters = inside-ranges ring window centroid c.1.1.1.0 in
    let place = or-neither (leb w p.x) (leb h p.y) c.1.1.1.1.0 in
    record {
      low-cells = sized_of lows w h c.0 c.1.0;
      high-cells = sized_of highs w h c.0 c.1.1.0;
      ring-small = ring-small ring parameters.ring_is;
      window-small = parameters.in_window;
      centroid-small = parameters.in-radius;
      column = leb-false w p.x place.0;
      row = leb-false h p.y place.1;
    }

-- ---- inside the border
module _ (w h border : ℕ) (p : Place) where
  abbrev across : Bool
  across = leb border p.x && ltb (p.x + border) w

  abbrev down : Bool
  down = leb border p.y && ltb (p.y + border) h

  pub inside : across ≡ true → down ≡ true → Inside w h border p
  inside a d =
      let x = and_parts (leb border p.x) (ltb (p.x + border) w) a in
      let y = and_parts (leb border p.y) (ltb (p.y + border) h) d in
      record {
        left = leb-true border p.x x.0;
        right = ltb-true (p.x + border) w x.1;
        top = leb-true border p.y y.0;
        bottom = ltb-true (p.y + border) h y.1;
      }

pub narrower : (w h border r : ℕ) (p : Place) → r ≤ border → Inside w h border p → Inside w h r p
narrower w h border r p l i =
    record {
      left = omega (arith, i.left);
      right = omega (arith, i.right);
      top = omega (arith, i.top);
      bottom = omega (arith, i.bottom);
    }

-- ---- what a call answers
module _ (lows highs : List ℤ) (w h ring threshold window least centroid : ℕ) (p : Place) where
  abbrev number : ℕ
  number = refusal_of (length lows) (length highs) w h ring window centroid p

  told : (r : Result Bool Refusal) → r ≡ judged number (is_sure lows highs w h ring threshold window least centroid p)
      → SurePeakTold lows highs w h ring threshold window least centroid p r
  unfolding refusal_of
  told r a = record { answer = a; number = number-judged _ _ a (grind arith); values = values-judged _ _ _ a }

  pub when-refused : (x : Refusal) → Err x ≡ verdict number → SurePeakTold lows highs w h ring threshold window least centroid p (Err x)
  when-refused x e = told (Err x) (judged-err _ _ _ x e)

  module _ (ok : Unit {0}) (e : Ok ok ≡ verdict number) where
    answered : (b : Bool) → is_sure lows highs w h ring threshold window least centroid p ≡ b
        → SurePeakTold lows highs w h ring threshold window least centroid p (Ok b)
    answered b s = told (Ok b) (rw ((judged-ok _ _ ok e).0, s))

    abbrev border : ℕ
    border = ring + window + centroid

    pub outside-across : across w h border p ≡ false → SurePeakTold lows highs w h ring threshold window least centroid p (Ok false)
    outside-across a = answered false (unfold is_sure in (rw a))

    pub outside-down : down w h border p ≡ false → SurePeakTold lows highs w h ring threshold window least centroid p (Ok false)
    outside-down d = answered false (unfold is_sure in (rw (d, and_none (across w h border p))))

    pub inside-border : across w h border p ≡ true → down w h border p ≡ true → (b : Bool)
        → b ≡ is_peak (sure lows highs w threshold) w h window least p
        → SurePeakTold lows highs w h ring threshold window least centroid p (Ok b)
    inside-border a d b s = answered b (unfold is_sure in (rw (a, d) (sym s)))
