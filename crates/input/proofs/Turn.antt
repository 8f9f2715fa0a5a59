-- A turn of a reader that reads what it wants, again and again. Assumes nothing.
use Rattle.std.proofs.Common.{ℕ, zero, suc, ◌+◌, ◌-◌, ◌<◌, ◌≤◌, ◌≡◌, refl, sym, ap, ◌∙◌, subst, List, length, take, ℤ, pos, negsuc, arith}
use lib.Seq.{length-take-le}
use Rattle.input.specs.declared.Input.{Input}
use Rattle.input.specs.Input.{came_by, start_of, asked_of, ReadOn}
use Rattle.input.specs.Reading.{Ends, Read}

-- a read brought bytes, or there was none yet
abbrev pub Brought : ℤ → Type 0
Brought (pos zero) = ⊥
Brought (pos (suc k)) = Unit
Brought (negsuc k) = ⊥

brought-ends : (z : ℤ) (w : ℕ) → Brought z → w ≡ 0 → Ends z w
brought-ends (pos zero) w b e = absurd b
brought-ends (pos (suc k)) w b e = e
brought-ends (negsuc k) w b e = absurd b

none-ends : (z : ℤ) (w : ℕ) → came_by z ≡ 0 → 0 < w → Ends z w
none-ends (pos zero) w e p = p
none-ends (pos (suc k)) w e p = absurd (omega (arith, e))
none-ends (negsuc k) w e p = p

some-brought : (z : ℤ) → (came_by z ≡ 0 → ⊥) → Brought z
some-brought (pos zero) n = n refl
some-brought (pos (suc k)) n = tt
some-brought (negsuc k) n = n refl

-- nothing more is wanted of what came
pub decided : (wanted : List ℕ → ℕ) (i : Input) (s : List ℕ) → i.count ≤ length s → Brought i.answer
    → wanted (take i.count s) ≡ 0 → Read wanted i s
decided wanted i s fits b e = record { fits = fits; ends = brought-ends i.answer _ b e }

-- a read of wanted bytes, which all have their places
module _
    (i : Input)
    (more : ℕ)
    (s : List ℕ)
    (r : Input)
    (after : List ℕ)
    (read : ReadOn i more s r after)
    (fits : i.count + more ≤ length s) where
  starts : start_of i s ≡ i.count
  starts = omega (arith, fits)

  asks : asked_of i more s ≡ more
  asks = omega (arith, fits, starts)

  pub as_before : take i.count after ≡ take i.count s
  as_before = subst (λ (n : ℕ). take n after ≡ take n s) starts read.before

  counted : r.count ≡ i.count + came_by r.answer
  counted = read.counted ∙ ap (λ (n : ℕ). n + came_by r.answer) starts

  pub most : r.count ≤ i.count + more
  most = omega (arith, counted, read.most, asks)

  -- it brought some
  module _ (grows : r.count ≡ i.count → ⊥) where
    came : came_by r.answer ≡ 0 → ⊥
    came e = grows (omega (arith, counted, e))

    pub brought : Brought r.answer
    brought = some-brought r.answer came

    pub more-came : i.count < r.count
    more-came = omega (arith, counted, came)

  -- it brought none
  pub none_came : (wanted : List ℕ → ℕ) → 0 < more → more ≡ wanted (take i.count s) → r.count ≡ i.count → Read wanted r after
  none_came wanted some wants same = record {
    fits = omega (arith, same, fits, read.long);
    ends =
        none-ends r.answer _ (omega (arith, counted, same))
        (rw (ap (λ (n : ℕ). take n after) same ∙ as_before, ← wants) some);
  }

-- ---- the turns of a reader with a buffer of `longest` bytes: what came lies in it
pub record Came (longest : ℕ) (s : List ℕ) (i : Input) : Type 0 where
  pub long : length s ≡ longest
  pub few : i.count ≤ longest
  pub some : Brought i.answer

-- one turn, with n bytes in the buffer and `more` wanted, never more than have their places
module _ (wanted : List ℕ → ℕ) (longest : ℕ) (within : (s : List ℕ) → 0 < wanted s → length s + wanted s ≤ longest) (s : List ℕ)
    (i : Input) (came : Came longest s i) (n : ℕ) (counts : n ≡ i.count) (more : ℕ) (told : more ≡ wanted (take n s)) where
  wants : more ≡ wanted (take i.count s)
  wants = told ∙ ap (λ (m : ℕ). wanted (take m s)) counts

  pub all-came : more ≡ 0 → Read wanted i s
  all-came z = decided wanted i s (omega (arith, came.long, came.few)) came.some (sym wants ∙ z)

  module _ (some : more ≡ 0 → ⊥) where
    pub room : i.count + more ≤ length s
    room =
        omega (
          arith,
          wants,
          within (take i.count s) (omega (arith, wants)),
          length-take-le i.count s (omega (arith, came.long, came.few)),
          came.long,
        )

    -- what a read leaves
    module _ (j : Input) (after : List ℕ) (read : ReadOn i more s j after) (m : ℕ) (recounts : m ≡ j.count) where
      pub ended : m ≡ n → Read wanted j after
      ended same = none_came i more s j after read room wanted (omega arith) wants (sym recounts ∙ same ∙ counts)

      module _ (grows : m ≡ n → ⊥) where
        grown : j.count ≡ i.count → ⊥
        grown e = grows (recounts ∙ e ∙ sym counts)

        pub goes_on : Came longest after j
        goes_on = record {
          long = read.long ∙ came.long;
          few = omega (arith, most i more s j after read room, room, came.long);
          some = brought i more s j after read room grown;
        }

        pub less : longest - j.count < longest - i.count
        less = omega (arith, more-came i more s j after read room grown, goes_on.few)
