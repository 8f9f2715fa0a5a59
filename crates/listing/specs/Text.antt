-- The text of a corner list (RULES 12.1, 12.2), as a list of bytes.
use Rattle.std.specs.Prelude.{ℕ, zero, suc, ◌+◌, ◌/◌, ◌%◌, false, cond, List, [], ◌∷◌, ◌++◌, length, ltb, pos, Float}
use Rattle.std.specs.Float.{fin, binary32}
use Rattle.std.specs.Float.Ieee.{mul, to_unsigned, to_bits}
use Rattle.lists.specs.Places.{flat_map}
use Rattle.float32.specs.declared.Rounded.{Rounded}
use Rattle.float32.specs.declared.Rounded.TheVariants.{Natural, Negative, Beyond}
use Rattle.float32.specs.Float32.{round_half_away}
use Rattle.corner_list.specs.declared.Corner.{Corner}

-- ---- numbers

-- the character of a digit: 0 to 9, then a to f
unfoldable pub digit_of : ℕ → ℕ
digit_of d = cond (ltb d 10) (48 + d) (87 + d)

-- the last k digits of n in a base, the highest first
unfoldable pub digits : ℕ → ℕ → ℕ → List ℕ
unfolding digit_of
digits base zero n = []
digits base (suc k) n = digits base k (n / base) ++ (digit_of (n % base) ∷ [])

-- how many decimal digits n has: one, and one more for each time that it can be divided by 10; at most `most` times are
-- counted, and n is enough
unfoldable pub places : ℕ → ℕ → ℕ
places zero n = 1
places (suc most) n = cond (ltb n 10) 1 (suc (places most (n / 10)))

unfoldable pub decimal : ℕ → List ℕ
unfolding digits places
decimal n = digits 10 (places n n) n

-- eight hexadecimal digits (RULES 12.1)
unfoldable pub hexadecimal : ℕ → List ℕ
unfolding digits
hexadecimal n = digits 16 8 n

-- ---- lines
abbrev pub space : ℕ
space = 32

abbrev pub newline : ℕ
newline = 10

-- 256 x as a natural number, from its rounding: the number itself; 0 for negatives; what is not rounded (above 2 ^ 24
-- and so whole, infinite or NaN) is cut off as by Rust's `as usize`
abbrev pub units_by : Float → Rounded → ℕ
units_by a (Natural n) = n
units_by a (Negative n) = 0
units_by a Beyond = to_unsigned 64 a

-- RULES 12.1 and 21.1, "nearest, half away from zero"
unfoldable pub units_of : Float → ℕ
unfolding round_half_away
units_of x = let a = mul binary32 x (fin false 1 (pos 8)) in units_by a (round_half_away a)

-- RULES 12.1: x and y in 256ths of a pixel, x, y and strength as eight hexadecimal digits of their bits, and the
-- neighbours (24.4)
abbrev pub fields : Corner → List (List ℕ)
fields c =
    decimal (units_of c.x)
    ∷ decimal (units_of c.y)
    ∷ hexadecimal (to_bits binary32 c.x)
    ∷ hexadecimal (to_bits binary32 c.y)
    ∷ hexadecimal (to_bits binary32 c.strength)
    ∷ decimal c.neighbours
    ∷ []

-- columns with a space between them, and a newline after the last
abbrev pub line : List (List ℕ) → List ℕ
line [] = newline ∷ []
line (column ∷ []) = column ++ (newline ∷ [])
line (column ∷ next ∷ more) = (column ++ (space ∷ [])) ++ line (next ∷ more)

-- ---- texts

-- "corners " and "refused "
abbrev pub corners_word : List ℕ
corners_word = 99 ∷ 111 ∷ 114 ∷ 110 ∷ 101 ∷ 114 ∷ 115 ∷ 32 ∷ []

abbrev pub refused_word : List ℕ
refused_word = 114 ∷ 101 ∷ 102 ∷ 117 ∷ 115 ∷ 101 ∷ 100 ∷ 32 ∷ []

-- a word and a number
abbrev pub heading : List ℕ → ℕ → List ℕ
heading word n = word ++ (decimal n ++ (newline ∷ []))

-- `corners N`, then a line for each corner (RULES 12.1)
unfoldable pub corners_text : List Corner → List ℕ
corners_text cs = heading corners_word (length cs) ++ flat_map (λ c. line (fields c)) cs

-- `refused N` alone (RULES 12.2)
unfoldable pub refused_text : ℕ → List ℕ
refused_text n = heading refused_word n
