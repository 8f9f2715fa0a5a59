-- Bytes written behind each other in a buffer: one law of appending, and what the loops need. Assumes nothing.
use Prim.Native.Nat.{ℕ, suc, ◌+◌, ◌-◌, ◌/◌, ◌%◌, ◌<◌, ◌≤◌}
use native.Mathlib.Nat.{add-zero}
use native.Mathlib.Omega.{arith}
use mathlib.Core.Path.{◌≡◌, sym, ap, ◌∙◌}
use mathlib.Core.List.{List, [], ◌∷◌, ◌++◌, append_assoc}
use lib.ListN.{length, set, length-append}
use Rattle.lists.specs.Buffer.{placed}
use Rattle.lists.proofs.Buffer.{placed-none, placed-more, placed-cons, placed-length}
use Rattle.listing.specs.Text.{digit_of, digits}
use Rattle.listing.specs.Internal.{Wrote}

-- ---- any bytes
pub wrote-length : {bytes : List ℕ} {at end : ℕ} {before after : List ℕ} → Wrote bytes at before end after → length after ≡ length before
wrote-length {bytes} {at} {end} {before} w = ap length w.holds ∙ placed-length at bytes before w.fits

-- one behind the other
pub wrote-more : {a b : List ℕ} {at middle end : ℕ} {before between after : List ℕ} → Wrote a at before middle between
    → Wrote b middle between end after → Wrote (a ++ b) at before end after
wrote-more {a} {b} {at} {middle} {end} {before} {between} {after} v w =
    record {
      fits = omega (arith, v.fits, v.ends, w.fits, wrote-length v, length-append a b);
      ends = omega (arith, v.ends, w.ends, length-append a b);
      holds = w.holds ∙ ap (placed middle b) v.holds ∙ placed-more at middle a b before (omega (arith, v.fits)) v.ends;
    }

-- what is left of the buffer behind bytes of at most k
pub wrote-leaves : {bytes : List ℕ} {at end : ℕ} {before after : List ℕ} → Wrote bytes at before end after → (k n : ℕ) → length bytes ≤ k
    → at + (k + n) ≤ length before → end + n ≤ length after
wrote-leaves {bytes} {at} {end} {before} {after} w k n h l = omega (arith, w.ends, wrote-length w)

-- the same bytes by another name
pub wrote_as : {a b : List ℕ} {at end : ℕ} {before after : List ℕ} → a ≡ b → Wrote a at before end after → Wrote b at before end after
wrote_as {a} {b} {at} {end} {before} {after} e w = rw e at w

-- none, and one
pub wrote_none : (at : ℕ) (before : List ℕ) → at ≤ length before → Wrote [] at before at before
wrote_none at before h = record { fits = rw (add-zero at) h; ends = sym (add-zero at); holds = placed-none at before }

-- ---- digits, from the lowest on: the i highest are ahead
pub record Ahead (base count n at i rest : ℕ) (before out : List ℕ) : Type 0 where
  pub behind : List ℕ
  pub split : digits base count n ≡ digits base i rest ++ behind
  pub long : i + length behind ≡ count
  pub fits : at + count ≤ length before
  pub holds : out ≡ placed (at + i) behind before

module _ (base count n at : ℕ) (before : List ℕ) where
  -- the next digit is written before those behind it
  module _ (i rest : ℕ) (out : List ℕ) (a : Ahead base count n at i rest before out) where
    pub ahead-next : 0 < i → (d : ℕ) → d ≡ digit_of (rest % base)
        → Ahead base count n at (i - 1) (rest / base) before (set out (at + (i - 1)) d)
    unfolding digits
    ahead-next h d e =
        let k : i ≡ suc (i - 1) = omega arith in
        let place : at + i ≡ at + (i - 1) + 1 = omega arith in
        let first : digits base i rest ≡ digits base (i - 1) (rest / base) ++ (d ∷ []) =
        ap (λ (k : ℕ). digits base k rest) k ∙ ap (λ (v : ℕ). digits base (i - 1) (rest / base) ++ (v ∷ [])) (sym e) in
        record {
          behind = d ∷ a.behind;
          split = a.split ∙ ap (λ (l : List ℕ). l ++ a.behind) first
              ∙ append_assoc (digits base (i - 1) (rest / base)) (d ∷ []) a.behind;
          long = omega (arith, a.long);
          fits = a.fits;
          holds = ap (λ (s : List ℕ). set s (at + (i - 1)) d) (a.holds ∙ ap (λ (k : ℕ). placed k a.behind before) place)
              ∙ placed-cons (at + (i - 1)) a.behind before d (omega (arith, a.long, a.fits));
        }

    pub ahead_none : i ≡ 0 → Wrote (digits base count n) at before (at + count) out
    unfolding digits
    ahead_none z =
        let all : digits base count n ≡ a.behind = a.split ∙ ap (λ (k : ℕ). digits base k rest ++ a.behind) z in
        let place : at + i ≡ at = omega arith in
        wrote_as (sym all) (record {
          fits = omega (arith, a.long, a.fits);
          ends = omega (arith, a.long);
          holds = a.holds ∙ ap (λ (k : ℕ). placed k a.behind before) place;
        })
