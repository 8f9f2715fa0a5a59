-- Laws of numbers as digits: how many there are. Assumes nothing.
use Prim.Native.Nat.{ℕ, zero, suc, ◌+◌, ◌*◌, ◌/◌, ◌%◌, ◌^◌, ◌<◌, ◌≤◌}
use native.Mathlib.Decide.{dec_lt}
use native.Mathlib.Omega.{arith}
use mathlib.Core.Path.{◌≡◌, refl, ◌∙◌}
use mathlib.Core.List.{[], ◌∷◌}
use lib.ListN.{length, length-append}
use borrow.Author.Tests.{lt-ltb, le-ltb}
use Rattle.listing.specs.Text.{digit_of, digits, places, decimal, hexadecimal}

pub length_digits : (base k n : ℕ) → length (digits base k n) ≡ k
unfolding digits
length_digits base zero n = refl
length_digits base (suc k) n =
    length-append (digits base k (n / base)) (digit_of (n % base) ∷ []) ∙ omega (arith, length_digits base k (n / base))

-- ---- how many decimal digits
pub places-one : (most n : ℕ) → n < 10 → places most n ≡ 1
unfolding places
places-one zero n h = refl
places-one (suc most) n h = rw (lt-ltb n 10 h)

places-more : (most n : ℕ) → 10 ≤ n → places (suc most) n ≡ suc (places most (n / 10))
unfolding places
places-more most n h = rw (le-ltb n 10 h)

places-some : (most n : ℕ) → 0 < places most n
unfolding places
places-some zero n = omega arith
places-some (suc most) n =
    elim (dec_lt n 10) [
      | yes l ↦ omega (arith, places-one (suc most) n l)
      | no g ↦ let m : 10 ≤ n = omega arith in omega (arith, places-more most n m)
    ]

pub places-most : (k most n : ℕ) → n < 10 ^ suc k → places most n ≤ suc k
unfolding places
places-most k zero n h = omega arith
places-most zero (suc most) n h = omega (arith, places-one (suc most) n h)
places-most (suc k) (suc most) n h =
    elim (dec_lt n 10) [
      | yes l ↦ omega (arith, places-one (suc most) n l)
      | no g ↦ let m : 10 ≤ n = omega arith in omega (arith, places-more most n m, places-most k most (n / 10) (omega arith))
    ]

pub places-word : (n : ℕ) → n < 2 ^ 64 → places n n ≤ 20
places-word n h = places-most 19 n n (omega arith)

pub places-half-word : (n : ℕ) → n < 2 ^ 32 → places n n ≤ 10
places-half-word n h = places-most 9 n n (omega arith)

ten-pos : (k : ℕ) → 0 < 10 ^ k
ten-pos zero = omega arith
ten-pos (suc k) = omega (arith, ten-pos k)

-- by the highest power of ten that is not above n
pub places-tens : (k most n : ℕ) → n ≤ most → 10 ^ k ≤ n → n < 10 * 10 ^ k → places most n ≡ 1 + k
places-tens zero most n e low high = places-one most n high
places-tens (suc k) zero n e low high = let some : 0 < 10 ^ k = ten-pos k in absurd (let no : ⊥ = omega arith in no)
places-tens (suc k) (suc most) n e low high =
    let some : 0 < 10 ^ k = ten-pos k in
    let ten : 10 ≤ n = omega arith in
    omega (arith, places-more most n ten, places-tens k most (n / 10) (omega arith) (omega arith) (omega arith))

-- ---- columns
pub decimal-long : (k n : ℕ) → n < 10 ^ suc k → length (decimal n) ≤ suc k
unfolding decimal
decimal-long k n h = omega (arith, length_digits 10 (places n n) n, places-most k n n h)

pub hexadecimal-long : (n : ℕ) → length (hexadecimal n) ≡ 8
unfolding hexadecimal
hexadecimal-long n = length_digits 16 8 n
