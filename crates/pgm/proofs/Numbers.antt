-- Numbers that are kept up to 65,536. Assumes nothing.
use Prim.Native.Nat.{ℕ, ◌+◌, ◌-◌, ◌*◌, ◌≤◌}
use native.Mathlib.Decide.{dec_lt}
use native.Mathlib.Omega.{arith}
use mathlib.Core.Path.{◌≡◌, refl, sym, ap, ◌∙◌}
use mathlib.Core.List.{List, [], ◌∷◌}
use lib.Dec.{ltb, eqb}
use borrow.Author.Tests.{lt-ltb, le-ltb, ne_eqb}
use Rattle.lists.specs.Limits.{largest_side}
use Rattle.pgm.specs.Header.{Character, is_digit, leading, number_from}
use Rattle.pgm.specs.Internal.{largest_kept, capped, bare_from, Plain, CommentsSkipped, DigitHere}
use Rattle.pgm.proofs.Scanning.{Passing, passing-none, passing-next, leading-past}

-- one digit more
capped-more : (n d : ℕ) → capped (10 * capped n + d) ≡ capped (10 * n + d)
capped-more n d = omega arith

-- and any
pub capped-from : (n : ℕ) (cs : List Character) → capped (number_from (capped n) cs) ≡ capped (number_from n cs)
capped-from n [] = omega arith
capped-from n (c ∷ cs) =
    let d = c.code - 48 in
    sym (capped-from (10 * capped n + d) cs)
    ∙ ap (λ (k : ℕ). capped (number_from k cs)) (capped-more n d)
    ∙ capped-from (10 * n + d) cs

-- tests that do not see the difference
pub large-capped : (n : ℕ) → ltb largest_side (capped n) ≡ ltb largest_side n
large-capped n =
    elim (dec_lt largest_side n) [
      | yes l ↦ lt-ltb largest_side (capped n) (omega arith) ∙ sym (lt-ltb largest_side n l)
      | no g ↦ le-ltb largest_side (capped n) (omega arith) ∙ sym (le-ltb largest_side n (omega arith))
    ]

pub maxval-capped : (n : ℕ) → eqb (capped n) 255 ≡ eqb n 255
maxval-capped n =
    elim (dec_lt n largest_kept) [
      | yes l ↦ let same : capped n ≡ n = omega arith in rw same
      | no g ↦ ne_eqb (capped n) 255 (λ e. let no : ⊥ = omega arith in no) ∙ sym (ne_eqb n 255 (λ e. let no : ⊥ = omega arith in no))
    ]

-- ---- the digits from a place on, of which some are read
module _ (upload : List ℕ) where
  pub record Reading (from number at : ℕ) : Type 0 where
    pub passing : Passing upload is_digit from at
    pub few : number ≤ largest_kept
    pub same : capped (number_from number (leading is_digit (bare_from upload at)))
        ≡ capped (number_from 0 (leading is_digit (bare_from upload from)))

  reading-none : (from : ℕ) → Plain upload from → Reading from 0 from
  reading-none from plain = record { passing = passing-none upload is_digit from plain; few = omega arith; same = refl }

  module _ (from number at : ℕ) (r : Reading from number at) where
    pub reading-next : (digit : ℕ) → DigitHere upload at digit → (number' : ℕ) → number' ≡ capped (10 * number + digit)
        → (next : ℕ) → CommentsSkipped upload (at + 1) next → Reading from number' next
    reading-next digit d number' n next skipped =
        record {
          passing = passing-next upload is_digit from at r.passing d.here next skipped;
          few = rw n (omega arith);
          same =
              rw n
              (capped-from (10 * number + digit) (leading is_digit (bare_from upload next))
              ∙ ap (λ (cs : List Character). capped (number_from (10 * number + digit) (leading is_digit cs))) skipped.reaches.same
              ∙ rw d.value
              (ap (λ (cs : List Character). capped (number_from number cs))
              (sym (leading-past upload is_digit at r.passing.plain d.here)))
              ∙ r.same);
        }

  -- the first digit is read
  pub reading-one : (from : ℕ) → Plain upload from → (digit : ℕ) → DigitHere upload from digit → (next : ℕ)
      → CommentsSkipped upload (from + 1) next → Reading from digit next
  reading-one from plain digit d next skipped =
      let few : digit ≡ capped (10 * 0 + digit) = omega (arith, d.few) in
      reading-next from 0 from (reading-none from plain) digit d digit few next skipped
