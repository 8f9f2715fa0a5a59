-- Laws of tests, as Bools. Assumes nothing.
use mathlib.Core.Path.{◌≡◌, refl, sym, ap, subst}
use mathlib.Core.Bool.{Bool, true, false, not, ◌&&◌, ◌||◌, true≢false, false≢true}
use mathlib.Core.Logic.{◌⊎◌, inl, inr}
use lib.Dec.{T}

-- ---- as a fact
pub to-T : {b : Bool} → b ≡ true → T b
to-T e = subst T (sym e) tt

pub to-T-not : {b : Bool} → b ≡ false → T (not b)
to-T-not e = subst (λ (b : Bool). T (not b)) (sym e) tt

pub from-T : (b : Bool) → T b → b ≡ true
from-T true h = refl
from-T false h = absurd h

pub is_false : (b : Bool) → (b ≡ true → ⊥) → b ≡ false
is_false true h = absurd (h refl)
is_false false h = refl

-- ---- both of two
pub and_parts : (a b : Bool) → (a && b) ≡ true → (a ≡ true) × (b ≡ true)
and_parts true b e = (refl, e)
and_parts false b e = absurd (false≢true e)

pub and-on : (a b : Bool) → a ≡ true → b ≡ (a && b)
and-on a b e = ap (λ (t : Bool). t && b) (sym e)

pub and-off : (a b : Bool) → a ≡ false → false ≡ (a && b)
and-off a b e = ap (λ (t : Bool). t && b) (sym e)

pub and_none : (a : Bool) → (a && false) ≡ false
and_none true = refl
and_none false = refl

pub and-all : (b : Bool) → (b && true) ≡ b
and-all true = refl
and-all false = refl

-- ---- one of two
pub or-neither : (a b : Bool) → (a || b) ≡ false → (a ≡ false) × (b ≡ false)
or-neither true b e = absurd (true≢false e)
or-neither false b e = (refl, e)

pub or-either : (a b : Bool) → (a || b) ≡ true → (a ≡ true) ⊎ (b ≡ true)
or-either true b e = inl refl
or-either false b e = inr e

pub or_right : (a : Bool) → (a || true) ≡ true
or_right true = refl
or_right false = refl
