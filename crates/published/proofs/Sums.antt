-- Running sums of terms that are not negative are the same whichever zeros stand among the terms: no sum is ever -0.0. Assumes nothing.
use mathlib.Core.Path.{◌≡◌, refl, sym, ap, ◌∙◌}
use mathlib.Core.Logic.{◌⊎◌, inl, inr}
use mathlib.Core.Bool.{Bool, true, false, cond, not, true≢false}
use mathlib.Core.List.{List, [], ◌∷◌}
use Prim.Native.Nat.{ℕ, zero, suc, ◌+◌, ◌*◌, ◌^◌, ◌<◌}
use native.Mathlib.Nat.{zero-mul, mul-zero, add-zero, sub-zero, mul-pos}
use native.Mathlib.Omega.{arith}
use lib.Dec.{T, ltb, eqb}
use lib.IntN.{pos}
use lib.Ieee.{Float, nan, inf, fin, Format, binary32, up, down, unlike, prec, emax, low, lt, round, units, odd, sum, add, mul, fits}
use lib.Ieee.Fits.{down_pos, add-fits, round_is}
use lib.Ieee.Scale.{round_same}
use lib.Ieee.Exact.{HasValue}
use borrow.Author.Tests.{le-ltb}
use Rattle.lists.specs.Places.{All}
use Rattle.lists.proofs.Tests.{from-T}
use Rattle.float32.specs.Float32.{zero as zero32, lift}
use Rattle.float32.proofs.Poly.{poly}
use Rattle.float32.proofs.Canonical.{round-own}
use Rattle.float32.proofs.Running.{summed}
use Rattle.published.proofs.Maximum.{IsZero, Lifted}

-- ---- numbers whose sign is not set
abbrev pub upright : Float → Bool
upright nan = true
upright (inf s) = not s
upright (fin s m e) = not s

odd-upright : (d q k l : ℕ) → T (upright (odd d false q k l))
unfolding odd
odd-upright d zero k l = tt
odd-upright d (suc q) k l = tt

units-upright : (f : Format) (q k : ℕ) → T (upright (units f false q k))
unfolding units
units-upright f q k = go (ltb (q * 2 ^ k) (2 ^ (low f + suc (emax f))))
  where
    go : (b : Bool) → T (upright (cond b (odd (suc (prec f)) false q k (low f)) (inf false)))
    go true = odd-upright (suc (prec f)) q k (low f)
    go false = tt

round-upright : (f : Format) (a c : ℕ) → T (upright (round f false a c))
round-upright f a c = rw (round_is f false a c) (units-upright f _ _)

-- ---- a zero added changes nothing
pub round-none : (s : Bool) (c : ℕ) → 0 < c → round binary32 s 0 c ≡ fin s 0 (pos 0)
round-none s c p = round_same binary32 s 0 c 0 1 p (omega arith) (sym (zero-mul c)) ∙ (unfold round units odd in refl)

-- a sum: not negative, and as its format writes it
pub record Sum (s : Float) : Type 0 where
  pub stands : T (upright s)
  pub fitting : T (fits binary32 s)

unmoved : (s z : Float) → Sum s → IsZero z → add binary32 s z ≡ s
unfolding add sum
unmoved s nan h k = absurd k
unmoved s (inf t) h k = absurd k
unmoved nan (fin t n d) h k = refl
unmoved (inf s) (fin t n d) h k = refl
unmoved (fin true m e) (fin t n d) h k = absurd h.stands
unmoved (fin false m e) (fin t n d) h k =
    rw (k, zero-mul (up d), zero-mul (down e)) (go t)
  where
    own : round binary32 false (m * up e * down d) (down e * down d) ≡ fin false m e
    own =
        round_same binary32 false (m * up e * down d) (down e * down d) (m * up e) (down e) (mul-pos (down_pos e) (down_pos d))
        (down_pos e) (simp poly)
        ∙ round-own false m e (from-T _ h.fitting)

    go : (t : Bool) → sum binary32 false (m * up e * down d) t 0 (down e * down d) ≡ fin false m e
    go false = unfold sum in rw add-zero own
    go true = unfold sum in rw (le-ltb (m * up e * down d) 0 (omega arith), sub-zero (m * up e * down d)) own

sum_more : (s t : Float) → Sum s → T (upright t) → Sum (add binary32 s t)
sum_more s t h k = record { stands = go s t h.stands k; fitting = add-fits binary32 s t }
  where
    go : (s t : Float) → T (upright s) → T (upright t) → T (upright (add binary32 s t))
    go nan t h k = unfold add in tt
    go (inf true) t h k = absurd h
    go (inf false) nan h k = unfold add in tt
    go (inf false) (inf true) h k = absurd k
    go (inf false) (inf false) h k = unfold add in tt
    go (inf false) (fin t n d) h k = unfold add in tt
    go (fin true m e) t h k = absurd h
    go (fin false m e) nan h k = unfold add in tt
    go (fin false m e) (inf true) h k = absurd k
    go (fin false m e) (inf false) h k = unfold add in tt
    go (fin false m e) (fin true n d) h k = absurd k
    go (fin false m e) (fin false n d) h k = unfold add sum in
        round-upright binary32 (m * up e * down d + n * up d * down e) (down e * down d)

-- ---- terms that are the same, or both zeros
abbrev pub Alike : Float → Float → Type 0
Alike t t' = (t' ≡ t) ⊎ (IsZero t' × IsZero t)

add-alike : (s t t' : Float) → Sum s → Alike t t' → add binary32 s t' ≡ add binary32 s t
add-alike s t t' h (inl e) = ap (add binary32 s) e
add-alike s t t' h (inr (z', z)) = unmoved s t' h z' ∙ sym (unmoved s t h z)

pub sums-alike : {A : Type 0} (term term' : A → Float) (s : Float) (ps : List A) → Sum s
    → All (λ p. Alike (term p) (term' p) × T (upright (term p))) ps
    → summed term' s ps ≡ summed term s ps
unfolding summed
sums-alike term term' s [] h k = refl
sums-alike term term' s (p ∷ ps) h k =
    rw (add-alike s (term p) (term' p) h k.0.0)
    (sums-alike term term' (add binary32 s (term p)) ps (sum_more s (term p) h k.0.1) k.1)

-- ---- weights, and their products with a coordinate
pub weight-alike : (v r : Float) → Lifted v r → Alike (lift v) r
weight-alike v r (inl e) = inl e
weight-alike v r (inr (z, e)) = inr (z, rw e refl)

above-upright : (v : Float) → lt zero32 v ≡ true → T (upright v)
unfolding lt
above-upright nan e = absurd (true≢false (sym e))
above-upright (inf true) e = absurd (true≢false (sym e))
above-upright (inf false) e = tt
above-upright (fin true m d) e = absurd (true≢false (sym e))
above-upright (fin false m d) e = tt

pub weight-upright : (v : Float) → T (upright (lift v))
unfolding lift
weight-upright v = go (lt zero32 v) refl
  where
    go : (b : Bool) → lt zero32 v ≡ b → T (upright (cond b v zero32))
    go false e = tt
    go true e = above-upright v e

-- a whole number's float is finite, so its product with a zero is one
zero-product : (x z : Float) (n : ℕ) → HasValue x false n 1 → IsZero z → IsZero (mul binary32 x z)
unfolding mul
zero-product nan z n h k = absurd h
zero-product (inf s) z n h k = absurd h
zero-product (fin s m e) nan n h k = absurd k
zero-product (fin s m e) (inf t) n h k = absurd k
zero-product (fin s m e) (fin t i d) n h k =
    rw (k, zero-mul (up d), mul-zero (m * up e), round-none (unlike s t) (down e * down d) (mul-pos (down_pos e) (down_pos d))) refl

pub product-alike : (x t t' : Float) (n : ℕ) → HasValue x false n 1 → Alike t t' → Alike (mul binary32 x t) (mul binary32 x t')
product-alike x t t' n h (inl e) = inl (ap (mul binary32 x) e)
product-alike x t t' n h (inr (z', z)) = inr (zero-product x t' n h z', zero-product x t n h z)

pub product-upright : (x t : Float) (n : ℕ) → HasValue x false n 1 → T (upright t) → T (upright (mul binary32 x t))
unfolding mul
product-upright nan t n h k = absurd h
product-upright (inf s) t n h k = absurd h
product-upright (fin true m e) t n h k = absurd (true≢false h.0)
product-upright (fin false m e) nan n h k = tt
product-upright (fin false m e) (inf true) n h k = absurd k
product-upright (fin false m e) (inf false) n h k = go (eqb m 0)
  where
    go : (b : Bool) → T (upright (cond b nan (inf false)))
    go true = tt
    go false = tt
product-upright (fin false m e) (fin true i d) n h k = absurd k
product-upright (fin false m e) (fin false i d) n h k = round-upright binary32 (m * up e * (i * up d)) (down e * down d)
