-- What the operations on `f32` give, for the logic's IEEE values: a finite x is ± num x / den x (lib.Ieee.Positive).
use Rattle.std.specs.Prelude.{◌≡◌, ℕ, suc, ◌+◌, ◌*◌, ◌/◌, Bool, true, false, cond, ◌&&◌, List, [], ◌∷◌, ℤ, pos, neg_ℤ}
use lib.Ieee.{Float, nan, inf, fin, binary32, of_int, lt, le}
use Rattle.std.specs.Float.Ieee.Positive.{num, den}
use Rattle.float32.specs.declared.Rounded.{Rounded}
use Rattle.float32.specs.declared.Rounded.TheVariants.{Natural, Negative, Beyond}

-- +0.0
abbrev pub zero : Float
zero = fin false 0 (pos 0)

-- Rust's `abs`: the sign is cleared, so -0.0 becomes +0.0; a NaN stays
unfoldable pub abs : Float → Float
abs nan = nan
abs (inf s) = inf false
abs (fin s m e) = fin false m e

-- lifted (RULES 1.3), Rust's `x.max(0.0)`: NaN and negatives become 0, and so does -0.0 (Rust leaves open which zero it
-- gives there)
unfoldable pub lift : Float → Float
lift x = cond (lt zero x) x zero

-- from lo to hi, both included: -0.0 is 0 here, and a NaN is in no range
abbrev pub between : Float → Float → Float → Bool
between lo hi x = le lo x && le x hi

-- ---- Rust's `x.round()` as a whole number

-- |x| rounded to a whole number, halves up: (2 |x| + 1) / 2, cut off
unfoldable pub nearest_whole : Float → ℕ
nearest_whole x = (2 * num x + den x) / (2 * den x)

-- an absolute value with a sign; there is no negative 0
abbrev pub signed : Bool → ℕ → Rounded
signed false n = Natural n
signed true ℕ.zero = Natural 0
signed true (suc n) = Negative (suc n)

-- a number, or `Beyond` if it is not rounded
abbrev pub judged : Bool → Rounded → Rounded
judged true r = r
judged false r = Beyond

-- the largest absolute value that is rounded (RULES 1.8)
abbrev pub largest_rounded : Float
largest_rounded = fin false 1 (pos 24)

-- those above it, infinities and NaN are not rounded
abbrev pub is_judged : Float → Bool
is_judged x = le (abs x) largest_rounded

-- halves round away from zero
unfoldable pub round_half_away : Float → Rounded
unfolding abs nearest_whole
round_half_away x = judged (is_judged x) (signed (lt x zero) (nearest_whole x))

-- the same as an integer
abbrev pub whole_of : Float → ℤ
whole_of x = cond (lt x zero) (neg_ℤ (pos (nearest_whole x))) (pos (nearest_whole x))

-- number and values of each case: rounding refuses nothing, and its value is the integer, none if it is not rounded
abbrev pub number_of : Rounded → ℕ
number_of (Natural n) = 0
number_of (Negative n) = 0
number_of Beyond = 0

abbrev pub values_of : Rounded → List ℤ
values_of (Natural n) = pos n ∷ []
values_of (Negative n) = neg_ℤ (pos n) ∷ []
values_of Beyond = []

-- the promise of `round_half_away`
pub record Rounds (x : Float) (r : Rounded) : Type 0 where
  pub answer : r ≡ round_half_away x
  pub number : number_of r ≡ 0
  pub values : values_of r ≡ cond (is_judged x) (whole_of x ∷ []) []

-- the float of a whole number, rounded (RULES 1.2)
abbrev pub float_of : ℕ → Float
float_of n = of_int binary32 (pos n)
