-- One axis of the box: its ends by the tests, and where they lie. Assumes nothing.
use mathlib.Core.Path.{◌≡◌, refl, ap}
use mathlib.Core.Bool.{Bool, true, false, ◌||◌, cond}
use mathlib.Core.Logic.{inl, inr}
use mathlib.Core.List.{[], ◌∷◌}
use Prim.Native.Nat.{ℕ, ◌+◌, ◌-◌, ◌*◌, ◌^◌, ◌≤◌, ◌<◌}
use native.Mathlib.Omega.{arith}
use lib.Dec.{ltb, leb}
use lib.IntN.{pos}
use lib.Ieee.{Float, binary32, mul, of_int}
use types.Run.{OneOf}
use denote.Enum.Declared.{tag_of}
use borrow.Author.Tests.{leb-false}
use Rattle.float32.specs.Float32.{round_half_away}
use Rattle.float32.specs.declared.Rounded.{Rounded}
use Rattle.float32.specs.declared.Rounded.TheVariants.{Natural, Negative, Beyond}
use Rattle.float32.specs.contracts.Rounded.{the_type as rounded-type}
use Rattle.multiscale.specs.declared.RoiContext.{RoiContext}
use Rattle.std.specs.Prelude.{Option, None, Some}
use Rattle.multiscale.specs.Multiscale.{border, roi_radius, centre_of, low_end, high_end, span_about, span_at, span_on}

-- ---- where the ends lie: between the borders, and more than two borders apart
pub record Between (b side low high : ℕ) : Type 0 where
  pub start : b ≤ low
  pub width : low + 2 * b < high
  pub end : high + b ≤ side

pub ends-between : (b r side c low high : ℕ) → span_about b r side c ≡ Some (low, high) → Between b side low high
unfolding span_about
ends-between b r side c low high e =
    go (ltb c (b + 1)) (leb (side - (b + 1)) c) (leb (high_end b r side c - low_end b r c) (2 * b)) refl refl refl e
  where
    go : (p q s : Bool) → ltb c (b + 1) ≡ p → leb (side - (b + 1)) c ≡ q → leb (high_end b r side c - low_end b r c) (2 * b) ≡ s
        → cond {A = Option (ℕ × ℕ)} (p || (q || s)) None (Some (low_end b r c, high_end b r side c)) ≡ Some (low, high)
        → Between b side low high
    go true q s x y z e = absurd (let n : ◌≡◌ {A = ℕ} 0 1 = cc in omega arith)
    go false true s x y z e = absurd (let n : ◌≡◌ {A = ℕ} 0 1 = cc in omega arith)
    go false false true x y z e = absurd (let n : ◌≡◌ {A = ℕ} 0 1 = cc in omega arith)
    go false false false x y z e =
        let ends : ◌≡◌ {A = ℕ × ℕ} (low_end b r c, high_end b r side c) (low, high) = cc in
        let i = ap (λ (p : ℕ × ℕ). p.0) ends in
        let j = ap (λ (p : ℕ × ℕ). p.1) ends in
        let k = leb-false (high_end b r side c - low_end b r c) (2 * b) z in
        let l = leb-false (side - (b + 1)) c y in
        record { start = omega arith; width = omega arith; end = omega arith }

-- ---- about a seed's centre; n is the scale
module _ (c : RoiContext) (side : ℕ) (x : Float) (n : ℕ) (e : n ≡ 2 ^ c.level) (o : Rounded)
    (f : o ≡ round_half_away (mul binary32 x (of_int binary32 (pos n)))) where
  centred : o ≡ centre_of c.level x
  unfolding centre_of
  centred = rw e at f

  pub no-centre : OneOf (1 ∷ 2 ∷ []) (tag_of rounded-type o) → None ≡ span_on c side x
  unfolding span_on
  no-centre k = rw (← centred) (go o k)
    where
      go : (o : Rounded) → OneOf (1 ∷ 2 ∷ []) (tag_of rounded-type o) → None ≡ span_at (border c) (roi_radius c) side o
      go (Natural p) (inl h) = absurd (omega arith)
      go (Natural p) (inr h) = absurd (omega arith)
      go (Negative p) h = refl
      go Beyond h = refl

  pub about-centre : (p r b : ℕ) (s : Option (ℕ × ℕ)) → o ≡ Natural p → r ≡ roi_radius c → b ≡ border c → s ≡ span_about b r side p
      → s ≡ span_on c side x
  unfolding span_on
  about-centre p r b s k i j q = rw (← centred, k, ← i, ← j) q
