-- Whether a pixel's low value is above its high one, by the most by which one is. Assumes nothing.
use mathlib.Core.Path.{◌≡◌, sym}
use mathlib.Core.Logic.{⊎_elim}
use mathlib.Core.Bool.{Bool, true, not}
use mathlib.Core.List.{List}
use Prim.Native.Nat.{ℕ, ◌+◌, ◌-◌, ◌<◌, ◌≤◌, max}
use native.Mathlib.Nat.{eq-zero-or-pos, eq-or-lt_of_le}
use native.Mathlib.Omega.{arith}
use lib.Dec.{eqb, ltb}
use lib.ListN.{length, get_or}
use borrow.Author.Tests.{lt-ltb, le-ltb, eq-eqb, ne_eqb}
use Rattle.lists.proofs.Places.{any-tab-hit, any-tab-none}
use Rattle.response_limits.specs.Limits.{Range, range_at}
use Rattle.response_limits.specs.Promise.{is_crossed}

abbrev crossed : Range → Bool
crossed r = ltb r.high r.low

-- `most` is the most by which one of the first i low values is above its high one, or 0
pub record Compared (low high : List ℕ) (most i : ℕ) : Type 0 where
  pub none : most ≡ 0 → (j : ℕ) → j < i → get_or low j 0 ≤ get_or high j 0
  pub some : 0 < most → is_crossed low high ≡ true

module _ (low high : List ℕ) where
  pub compared-none : Compared low high 0 0
  compared-none = record { none = λ e j l. absurd (let no : ⊥ = omega arith in no); some = λ l. absurd (let no : ⊥ = omega arith in no) }

  module _ (most i : ℕ) (c : Compared low high most i) where
    pub compared-next : i < length low → (d most' : ℕ) → d ≡ get_or low i 0 - get_or high i 0 → most' ≡ max most d
        → Compared low high most' (i + 1)
    compared-next l d most' e f =
        record {
          none = λ z j k.
              let up : j ≤ i = omega arith in
              ⊎_elim (λ (same : j ≡ i). rw same (omega arith)) (λ (before : j < i). c.none (omega arith) j before) (eq-or-lt_of_le up);
          some = λ p.
              ⊎_elim
              (λ (z : most ≡ 0). any-tab-hit crossed (range_at low high) (length low) i l
              (lt-ltb (get_or high i 0) (get_or low i 0) (omega arith)))
              (λ (q : 0 < most). c.some q)
              (eq-zero-or-pos most);
        }

    pub compared-all : length low ≤ i → not (eqb most 0) ≡ is_crossed low high
    compared-all l =
        ⊎_elim
        (λ (z : most ≡ 0).
        rw (eq-eqb most 0 z) (sym (any-tab-none crossed (range_at low high) (length low) (λ j k. le-ltb _ _ (c.none z j (omega arith))))))
        (λ (p : 0 < most). rw (ne_eqb most 0 (λ z. let no : ⊥ = omega arith in no)) (sym (c.some p)))
        (eq-zero-or-pos most)
