-- The fields of a header from their parts, and where the characters of an upload stand. Assumes nothing.
use Prim.Native.Nat.{ℕ, suc, ◌+◌, ◌<◌, ◌≤◌}
use native.Mathlib.Omega.{arith}
use mathlib.Core.Path.{◌≡◌, subst}
use mathlib.Core.Bool.{Bool, true, false, cond, ◌||◌}
use mathlib.Core.List.{List, [], ◌∷◌}
use lib.Dec.{eqb}
use lib.ListN.{length}
use Rattle.std.specs.Prelude.{Option, Some, None}
use Rattle.lists.specs.Places.{All}
use Rattle.lists.proofs.Members.{all_map}
use Rattle.pgm.specs.declared.header.Number.{Number}
use Rattle.pgm.specs.Header.{Character, in_comment, bare, is_space, is_digit, begins, trailing, field_of}
use Rattle.pgm.specs.Header.{behind_first}
use Rattle.pgm.specs.Internal.{bare_from, Reaches, NumberRead, FieldRead}

-- no field without whitespace before it
pub field-none : (cs : List Character) → begins is_space cs ≡ false → (field_of cs).there ≡ false
unfolding field_of
field-none cs e = rw e

module _ (upload : List ℕ) where
  -- ---- a field
  pub field-read : (from first : ℕ) → begins is_space (bare_from upload from) ≡ true
      → Reaches upload (trailing is_space (bare_from upload from)) first
      → (r : Option Number) → NumberRead upload (bare_from upload first) r → FieldRead upload (field_of (bare_from upload from)) r
  unfolding field_of
  field-read from first spaced reached None read = rw (spaced, ← reached.same) read
  field-read from first spaced reached (Some n) read =
      record {
        there_is = rw (spaced, ← reached.same) read.there_is;
        value = rw (← reached.same) read.value;
        end = rw (← reached.same) read.end;
      }

  -- from a place where some characters begin
  pub field-from : (cs : List Character) (at : ℕ) → Reaches upload cs at → (r : Option Number)
      → FieldRead upload (field_of (bare_from upload at)) r → FieldRead upload (field_of cs) r
  field-from cs at reached r = subst (λ (l : List Character). FieldRead upload (field_of l) r) reached.same

-- ---- a fact of each character
module _ (P : Character → Type 0) where
  pub all-trailing : (f : ℕ → Bool) (cs : List Character) → All P cs → All P (trailing f cs)
  all-trailing f [] h = tt
  all-trailing f (c ∷ cs) h = go (f c.code) (all-trailing f cs h.1)
    where
      go : (b : Bool) → All P (trailing f cs) → All P (cond b (trailing f cs) (c ∷ cs))
      go true r = r
      go false r = h

  pub all_rest : (cs : List Character) → All P cs → All P (field_of cs).rest
  unfolding field_of
  all_rest cs h = all-trailing is_digit (trailing is_space cs) (all-trailing is_space cs h)

-- where they stand: from a place on, and before another
abbrev pub Within : ℕ → ℕ → Character → Type 0
Within at end c = (at ≤ c.place) × (c.place < end)

pub bare-within : (inside : Bool) (at : ℕ) (s : List ℕ) → All (Within at (at + length s)) (bare inside at s)
unfolding bare
bare-within inside at [] = tt
bare-within inside at (c ∷ s) =
    go (inside || eqb c 35)
    (all_map (Within (suc at) (suc at + length s)) (Within at (at + suc (length s))) (λ c h. (omega (arith, h.0), omega (arith, h.1)))
    (bare (in_comment inside c) (suc at) s) (bare-within (in_comment inside c) (suc at) s))
  where
    go : (b : Bool) → All (Within at (at + suc (length s))) (bare (in_comment inside c) (suc at) s)
        → All (Within at (at + suc (length s)))
        (cond b (bare (in_comment inside c) (suc at) s) (record { code = c; place = at } ∷ bare (in_comment inside c) (suc at) s))
    go true h = h
    go false h = ((omega arith, omega arith), h)

-- the first of them
pub first-within : (f : ℕ → Bool) (at end : ℕ) (cs : List Character) → begins f cs ≡ true → All (Within at end) cs
    → (at < behind_first cs) × (behind_first cs ≤ end)
first-within f at end [] e h = absurd (let z : ◌≡◌ {A = ℕ} 0 1 = cc in let no : ⊥ = omega arith in no)
first-within f at end (c ∷ cs) e h = (omega (arith, h.0.0), omega (arith, h.0.1))
