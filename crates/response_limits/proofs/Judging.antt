-- What each return of the ladder gives, what no refusal tells, and what a call answers and leaves. Assumes nothing.
use mathlib.Core.Path.{◌≡◌, refl, sym, ◌∙◌}
use mathlib.Core.Bool.{Bool, true, false, not, ◌||◌}
use mathlib.Core.List.{List, [], ◌∷◌, ◌++◌}
use Prim.Native.Nat.{ℕ, ◌*◌, ◌≤◌}
use native.Mathlib.Nat.{mul_comm}
use native.Mathlib.Omega.{arith}
use lib.Dec.{ltb}
use lib.ListN.{length, drop}
use lib.IntN.{ℤ}
use borrow.Author.Tests.{ltb-false, not-false, eq-eqb, ne_eqb}
use Rattle.std.specs.Prelude.{Result, Ok, Err}
use Rattle.lists.specs.Buffer.{front}
use Rattle.lists.specs.declared.refusal.Refusal.{Refusal}
use Rattle.lists.specs.Refusals.{lowest, verdict, result_or}
use Rattle.lists.proofs.Judged.{number-judged, judged-ok, refused-stays}
use Rattle.lists.specs.Internal.{Sized}
use Rattle.lists.proofs.Refusals.{all-clear, sized_of}
use Rattle.lists.proofs.Tab.{length-grid}
use Rattle.image_size.proofs.Judged.{passed}
use Rattle.ring.specs.Ring.{ring_of, is_ring}
use Rattle.ring.proofs.Places.{ring_is, radius-is}
use Rattle.response_limits.specs.Limits.{low_at, high_at, low_map, high_map}
use Rattle.response_limits.specs.Promise.{is_crossed, conditions, refusal_of, values_of, LimitsWritten}

-- ---- the ladder
module _ (low high : List ℕ) (w h ring lows highs : ℕ) (s : Sized (length low) w h) where
  pub by_length : (length high ≡ length low → ⊥) → refusal_of low high w h ring lows highs ≡ 2
  unfolding refusal_of
  by_length n = passed (length low) w h _ s ∙ rw (ne_eqb (length high) (w * h) (λ e. n (e ∙ sym s.sized)))

  pub by-rest : length high ≡ length low
      → refusal_of low high w h ring lows highs
      ≡ lowest ((is_crossed low high, 15) ∷ (not (is_ring ring), 3) ∷ (ltb lows (w * h) || ltb highs (w * h), 8) ∷ [])
  unfolding refusal_of
  by-rest e =
      passed (length low) w h _ s
      ∙ rw (eq-eqb (length high) (w * h) (e ∙ s.sized))
      (go (is_crossed low high) (not (is_ring ring)) (ltb lows (w * h)) (ltb highs (w * h)))
    where
      go : (c r a b : Bool) → lowest ((c, 15) ∷ (r, 3) ∷ (a, 8) ∷ (b, 8) ∷ []) ≡ lowest ((c, 15) ∷ (r, 3) ∷ (a || b, 8) ∷ [])
      go true r a b = refl
      go false true a b = refl
      go false false true b = refl
      go false false false b = refl

-- ---- no refusal: two images, one of the two rings, and places enough
pub record Given (low high : List ℕ) (w h ring lows highs : ℕ) : Type 0 where
  pub low-image : Sized (length low) w h
  pub high-image : Sized (length high) w h
  pub ordered : is_crossed low high ≡ false
  pub own_radius : (ring_of ring).radius ≡ ring
  pub enough-lows : h * w ≤ lows
  pub enough-highs : h * w ≤ highs

pub given : (low high : List ℕ) (w h ring lows highs : ℕ) → refusal_of low high w h ring lows highs ≡ 0 → Given low high w h ring lows highs
unfolding refusal_of
given low high w h ring lows highs e =
    let c = all-clear (conditions low high w h ring lows highs)
    (omega arith, (omega arith, (omega arith, (omega arith, (omega arith, (omega arith, (omega arith, tt))))))) e in
    let rest = c.1.1.1 in
    let places = rest.1.1 in
    record {
      low-image = sized_of (length low) w h c.0 c.1.0;
      high-image = sized_of (length high) w h c.0 c.1.1.0;
      ordered = rest.0;
      own_radius = radius-is ring (ring_is ring (not-false (is_ring ring) rest.1.0));
      enough-lows = rw (mul_comm h w) (ltb-false lows (w * h) places.0);
      enough-highs = rw (mul_comm h w) (ltb-false highs (w * h) places.1.0);
    }

-- ---- what a call answers and leaves
module _ (low high : List ℕ) (w h ring : ℕ) (d e : List ℤ) where
  abbrev number : ℕ
  number = refusal_of low high w h ring (length d) (length e)

  limits-written : (r : Result (Unit {0}) Refusal) (lows highs : List ℤ) → r ≡ verdict number
      → lows ≡ result_or number (front (low_map low high w h (ring_of ring)) d) d
      → highs ≡ result_or number (front (high_map low high w h (ring_of ring)) e) e
      → LimitsWritten low high w h ring d e r lows highs
  unfolding refusal_of
  limits-written r lows highs q a b = record {
    answer = q;
    number = number-judged _ _ q (grind arith);
    values = none r;
    lows_are = a;
    highs_are = b;
  }
    where
      none : (r : Result (Unit {0}) Refusal) → values_of r ≡ []
      none (Ok done) = refl
      none (Err x) = refl

  pub when-refused : (x : Refusal) → Err x ≡ verdict number → LimitsWritten low high w h ring d e (Err x) d e
  when-refused x q =
      limits-written (Err x) d e q (sym (refused-stays _ _ x _ d q)) (sym (refused-stays _ _ x _ e q))

  pub when-written : (ok : Unit {0}) → Ok ok ≡ verdict number → (lows highs : List ℤ)
      → lows ≡ low_map low high w h (ring_of ring) ++ drop (h * w) d → highs ≡ high_map low high w h (ring_of ring) ++ drop (h * w) e
      → LimitsWritten low high w h ring d e (Ok tt) lows highs
  when-written ok q lows highs a b =
      let z = (judged-ok _ _ ok q).0 in
      limits-written (Ok tt) lows highs (rw z)
      (a ∙ rw (z, length-grid w h (low_at low high w h (ring_of ring))))
      (b ∙ rw (z, length-grid w h (high_at low high w h (ring_of ring))))
