-- Tests of a character. Assumes nothing.
use Prim.Native.Nat.{ℕ, ◌≤◌}
use native.Mathlib.Omega.{arith}
use mathlib.Core.Path.{◌≡◌}
use mathlib.Core.Bool.{true, false}
use lib.Dec.{leb}
use borrow.Author.Tests.{leb-true, ne_eqb}
use Rattle.lists.proofs.Tests.{and_parts}
use Rattle.pgm.specs.Header.{is_space, is_digit}

-- a blank, TAB, LF, VT, FF and CR, which are 9 to 13, are all
pub space-none : (c : ℕ) → (c ≡ 32 → ⊥) → (9 ≤ c → c ≤ 13 → ⊥) → false ≡ is_space c
space-none c blank control =
    rw (
      ne_eqb c 32 blank,
      ne_eqb c 13 (λ e. control (omega arith) (omega arith)),
      ne_eqb c 10 (λ e. control (omega arith) (omega arith)),
      ne_eqb c 9 (λ e. control (omega arith) (omega arith)),
      ne_eqb c 11 (λ e. control (omega arith) (omega arith)),
      ne_eqb c 12 (λ e. control (omega arith) (omega arith)),
    )

-- a digit is at least that of 0
pub digit-least : (c : ℕ) → is_digit c ≡ true → 48 ≤ c
digit-least c e = leb-true 48 c (and_parts (leb 48 c) (leb c 57) e).0
