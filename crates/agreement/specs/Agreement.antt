-- Ties that rounding breaks, in any map: what makes the peaks chosen by computed values differ from those chosen by
-- exact values.
use Rattle.std.specs.Prelude.{ℕ, ◌≡◌, true, List, ℤ, Float}
use Rattle.lists.specs.Places.{Place, All}
use Rattle.detect.specs.Peaks.{window, larger_in}

-- q has an equal exact value and a larger computed one (RULES 10.4)
pub record Tied (m : List Float) (fifths : Place → ℤ) (w : ℕ) (p q : Place) : Type 0 where
  pub equal : fifths q ≡ fifths p
  pub larger : larger_in m w q p ≡ true

-- no peak of the list has such a q in its window
abbrev pub NoTie : List Float → (Place → ℤ) → ℕ → ℕ → ℕ → List Place → Type 0
NoTie m fifths w h r = All (λ p. All (λ q. Tied m fifths w p q → ⊥) (window w h r p))
