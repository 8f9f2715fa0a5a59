-- A map in five parts: the rows above and below, what lies left and right between them, and the cells inside. Assumes nothing.
use mathlib.Core.Path.{◌≡◌, refl, ap, ◌∙◌}
use mathlib.Core.Bool.{Bool, true, false, cond}
use mathlib.Core.List.{List, ◌++◌}
use Prim.Native.Nat.{ℕ, ◌+◌, ◌-◌, ◌*◌, ◌<◌, ◌≤◌, min, max}
use native.Mathlib.Nat.{le_refl, lt_of_lt_of_le, mul-le-mul_right}
use native.Mathlib.Decide.{dec_lt}
use native.Mathlib.Omega.{arith}
use lib.Ieee.{Float}
use lib.ListN.{length, drop}
use Rattle.lists.specs.Limits.{largest_map}
use Rattle.float32.specs.Float32.{zero}
use Rattle.lists.specs.Tab.{grid}
use Rattle.ring.specs.Ring.{ring_of}
use Rattle.response.specs.declared.rows.Field.{Field}
use Rattle.response.specs.Response.{is_within, inside}
use Rattle.response.specs.Internal.{Cleared, Filled, Stretched, Placed, InnerPart, responses, inner_responses}
use Rattle.response.proofs.Filling.{five, all-filled}
use Rattle.response.proofs.Inside.{near-left, near-right, near-above, near-below, far-off}
use Rattle.response.proofs.Inside.{out-left, out-right, out-above, out_below, at-outside}
use Rattle.response.proofs.Tiles.{map-small}

pub cleared-long : {w a b c e : ℕ} {s t : List Float} → Cleared w a b c e s t → length t ≡ length s
cleared-long {e = e} p = (p e (λ _ _. zero) (le_refl e) (λ i j l r u v. refl)).long

-- the rows above e fit
pub rows_fit : (pixels places n : ℕ) (f : Field) → Placed pixels f places → n ≡ places → (e : ℕ) → e ≤ f.ph
    → (e * f.pw ≤ n) × (e * f.pw ≤ largest_map)
rows_fit pixels places n f p same e l =
    let rows : e * f.pw ≤ f.ph * f.pw = mul-le-mul_right f.pw l in
    (omega (arith, p.enough), omega (arith, map-small pixels places f p))

-- ---- which cells of a row or a column are computed, as the code finds them

-- the first of them
module _ (radius x n margin l g from : ℕ) (el : l ≡ radius - x) (eg : g ≡ max margin l) (ef : from ≡ min g n) where
  first-in : from ≤ n
  first-in = omega arith

  from_first : (i : ℕ) → from ≤ i → i < n → (radius ≤ x + i) × (margin ≤ i)
  from_first i a b = (omega arith, omega arith)

  before-first : (i : ℕ) → i < from → radius ≤ x + i → i < margin
  before-first i a b = omega arith

-- and where they end
module _ (w radius x n margin from k r s m to : ℕ) (lies : from ≤ n) (ek : k ≡ n - margin) (er : r ≡ w - radius) (es : s ≡ r - x)
    (em : m ≡ min k s) (et : to ≡ max m from) where
  to_last : (i : ℕ) → from ≤ i → i < to → (x + i + radius < w) × (i + margin < n)
  to_last i a b = (omega arith, omega arith)

  behind-last : (i : ℕ) → to ≤ i → x + i + radius < w → n ≤ i + margin
  behind-last i a b = omega arith

  end-in : (from ≤ to) × (to ≤ n)
  end-in = (omega arith, omega arith)

pub stretched : (w radius x n margin l g from k r s m to : ℕ) → l ≡ radius - x → g ≡ max margin l → from ≡ min g n
    → k ≡ n - margin → r ≡ w - radius → s ≡ r - x → m ≡ min k s → to ≡ max m from → Stretched w radius x n margin from to
stretched w radius x n margin l g from k r s m to el eg ef ek er es em et =
    let lies = first-in radius x n margin l g from el eg ef in
    let last = to_last w radius x n margin from k r s m to lies ek er es em et in
    let end = end-in w radius x n margin from k r s m to lies ek er es em et in
    record {
      ordered = end.0;
      ends = end.1;
      inner = λ i a b.
          let first = from_first radius x n margin l g from el eg ef i a (lt_of_lt_of_le b end.1) in
          (first.0, (last i a b).0, first.1, (last i a b).1);
      left = before-first radius x n margin l g from el eg ef;
      right = λ i a b. behind-last w radius x n margin from k r s m to lies ek er es em et i a;
    }

-- where both are 0, a choice is
either-zero : (b : Bool) → cond b zero zero ≡ zero
either-zero true = refl
either-zero false = refl

module _ (img : List ℕ) (f : Field) (margin from to top end : ℕ) (own : (ring_of f.radius).radius ≡ f.radius)
    (across : Stretched f.w f.radius f.x f.pw margin from to)
    (down : Stretched f.h f.radius f.y f.ph margin top end) where
  -- a cell that is near the map's edge, or whose ring leaves the image
  near : (i j : ℕ) → is_within margin f.pw f.ph i j ≡ false → inner_responses img f margin i j ≡ zero
  near i j e = rw e

  outside : (i j : ℕ) → inside f.w f.h (ring_of f.radius) (f.x + i) (f.y + j) ≡ false → inner_responses img f margin i j ≡ zero
  outside i j e =
      ap (λ (v : Float). cond (is_within margin f.pw f.ph i j) v zero)
      (at-outside f.w f.h (ring_of f.radius) (f.x + i) (f.y + j) img e)
      ∙ either-zero (is_within margin f.pw f.ph i j)

  left-zero : (i j : ℕ) → i < from → inner_responses img f margin i j ≡ zero
  left-zero i j l =
      elim (dec_lt (f.x + i) f.radius) [
        | yes out ↦ outside i j (out-left f.w f.h (ring_of f.radius) (f.x + i) (f.y + j) (rw own out))
        | no far ↦ near i j (near-left margin f.pw f.ph i j (across.left i l (omega arith)))
      ]

  above_zero : (i j : ℕ) → j < top → inner_responses img f margin i j ≡ zero
  above_zero i j l =
      elim (dec_lt (f.y + j) f.radius) [
        | yes out ↦ outside i j (out-above f.w f.h (ring_of f.radius) (f.x + i) (f.y + j) (rw own out))
        | no far ↦ near i j (near-above margin f.pw f.ph i j (down.left j l (omega arith)))
      ]

  right_zero : (i j : ℕ) → to ≤ i → i < f.pw → inner_responses img f margin i j ≡ zero
  right_zero i j l r =
      elim (dec_lt (f.x + i + f.radius) f.w) [
        | yes far ↦ near i j (near-right margin f.pw f.ph i j (across.right i l r far))
        | no out ↦ outside i j (out-right f.w f.h (ring_of f.radius) (f.x + i) (f.y + j) (rw own (omega arith)))
      ]

  below-zero : (i j : ℕ) → end ≤ j → j < f.ph → inner_responses img f margin i j ≡ zero
  below-zero i j l r =
      elim (dec_lt (f.y + j + f.radius) f.h) [
        | yes far ↦ near i j (near-below margin f.pw f.ph i j (down.right j l r far))
        | no out ↦ outside i j (out_below f.w f.h (ring_of f.radius) (f.x + i) (f.y + j) (rw own (omega arith)))
      ]

  -- and the others
  pub part-inside : InnerPart f from to top end
  part-inside =
      record {
        across = across.ends;
        down = down.ends;
        inner =
            λ i j l r u v.
            let x = across.inner i l r in
            let y = down.inner j u v in
            record { left = x.0; right = x.1; above = y.0; below = y.1 };
      }

  computed : (i j : ℕ) → from ≤ i → i < to → top ≤ j → j < end → responses img f i j ≡ inner_responses img f margin i j
  computed i j l r u v =
      let x = across.inner i l r in
      let y = down.inner j u v in
      rw (far-off margin f.pw f.ph i j x.2 x.3 y.2 y.3)

  -- what is computed first stays, since each later step changes other cells
  pub whole-map : (s s₀ s₁ s₂ s₃ t : List Float) → Filled zero f.pw f.ph (responses img f) from to top end s s₀
      → Cleared f.pw 0 f.pw 0 top s₀ s₁ → Cleared f.pw 0 from top end s₁ s₂
      → Cleared f.pw to f.pw top end s₂ s₃ → Cleared f.pw 0 f.pw end f.ph s₃ t → f.ph * f.pw ≤ length s
      → t ≡ grid f.pw f.ph (inner_responses img f margin) ++ drop (f.ph * f.pw) s
  whole-map s s₀ s₁ s₂ s₃ t inner a b c d enough =
      let g : ℕ → ℕ → Float = inner_responses img f margin in
      let rows : top ≤ f.ph = omega (arith, down.ordered, down.ends) in
      let above = a f.ph g rows (λ i j l r u v. above_zero i j v) in
      let left = b f.ph g down.ends (λ i j l r u v. left-zero i j r) in
      let right = c f.ph g down.ends (λ i j l r u v. right_zero i j l r) in
      let below = d f.ph g (le_refl f.ph) (λ i j l r u v. below-zero i j u v) in
      let kept : Filled zero f.pw f.ph g from to top end t t =
      record {
        long = refl;
        behind = λ i l. refl;
        stays = λ i j p q e. e;
        holds = λ i j p q l r u v.
            below.stays i j p q
            (right.stays i j p q (left.stays i j p q (above.stays i j p q (inner.holds i j p q l r u v ∙ computed i j l r u v))));
      } in
      let all = five zero f.pw f.ph g from to top end s₀ s₁ s₂ s₃ t t above left right below kept in
      all-filled zero f.pw f.ph g s t
      (record {
        long = all.long ∙ inner.long;
        behind = λ i l. all.behind i l ∙ inner.behind i l;
        stays = λ i j p q e. all.holds i j p q (omega arith) p (omega arith) q;
        holds = all.holds;
      })
      enough
