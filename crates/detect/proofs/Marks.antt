-- The marks of a run: each cell that is not passed over sets its binary digit, so the cells before the lowest digit that is set are passed
-- over. Assumes nothing.
use Rattle.std.proofs.Common.{◌≡◌, ℕ, zero, suc, ◌+◌, ◌-◌, ◌*◌, ◌/◌, ◌%◌, ◌^◌, ◌<◌, ◌≤◌, Bool, true, false, cond, sym, refl, ap, ◌∙◌, subst}
use Rattle.std.proofs.Common.{ap₂, mod-eq_of_lt, mul_assoc, add-one, arith, pow_pos, pow_mono, pow-add}
use native.Mathlib.Nat.{mod-one, zero-mod, add-mul-mod_self_right}
use native.Mathlib.Decide.{dec_lt}
use lib.Count.{count_trailing_zeros, under}
use lib.Pow.{mod-pow-add}
use Rattle.detect.specs.Internal.{run_cells}

-- ---- a number is a multiple of 2 to the power of its trailing zeros
trailing-mod : (d n : ℕ) → n % 2 ^ count_trailing_zeros d n ≡ 0
unfolding count_trailing_zeros
trailing-mod zero n = mod-one n
trailing-mod (suc d) n = go (n % 2) refl (trailing-mod d (n / 2))
  where
    go : (r : ℕ) → n % 2 ≡ r → n / 2 % 2 ^ count_trailing_zeros d (n / 2) ≡ 0 → n % 2 ^ under r (count_trailing_zeros d (n / 2)) ≡ 0
    go zero e ih =
        let t = count_trailing_zeros d (n / 2) in
        ap (λ (k : ℕ). n % 2 ^ k) (sym (add-one t)) ∙ mod-pow-add n t 1 ∙ ap₂ (λ (a b : ℕ). a * 2 + b) ih e
    go (suc r) e ih = mod-one n

-- a higher power does not change the rest
past : (b k n i : ℕ) → n ≤ i → (b + k * 2 ^ i) % 2 ^ n ≡ b % 2 ^ n
past b k n i l =
    let e : i ≡ i - n + n = omega arith in
    ap (λ (j : ℕ). (b + k * 2 ^ j) % 2 ^ n) e
    ∙ ap (λ (j : ℕ). (b + k * j) % 2 ^ n) (pow-add 2 (i - n) n)
    ∙ ap (λ (j : ℕ). (b + j) % 2 ^ n) (sym (mul_assoc k (2 ^ (i - n)) (2 ^ n)))
    ∙ add-mul-mod_self_right b (k * 2 ^ (i - n)) (2 ^ n)

-- ---- b has the digits of the first i cells: if its lowest n digits are 0, the first n cells have the property
module _ (P : ℕ → Type 0) where
  pub record Marked (i b : ℕ) : Type 0 where
    pub small : b < 2 ^ i
    pub each : (n : ℕ) → n ≤ i → b % 2 ^ n ≡ 0 → (k : ℕ) → k < n → P k

  pub marked-none : Marked 0 0
  marked-none = record { small = omega arith; each = λ n l e k m. absurd (let no : ⊥ = omega arith in no) }

  pub marked_next : (i b d r : ℕ) (t : Bool) → Marked i b → d ≡ 2 ^ i → r ≡ cond t 0 d → (t ≡ true → P i) → Marked (i + 1) (b + r)
  marked_next i b d r true a digit e here = record {
    small = omega (arith, a.small, e, double);
    each = λ n l z k m.
        elim (dec_lt n (i + 1)) [
          | yes o ↦ a.each n (omega arith) (ap (λ (c : ℕ). c % 2 ^ n) (omega (arith, e)) ∙ z) k m
          | no o ↦
              elim (dec_lt k i) [
                | yes q ↦ a.each i (omega arith) (none n (omega arith) z) k q
                | no q ↦ subst P (omega arith) (here refl)
              ]
        ];
  }
    where
      double : 2 ^ (i + 1) ≡ 2 ^ i * 2
      double = pow-add 2 i 1

      none : (n : ℕ) → n ≡ i + 1 → (b + r) % 2 ^ n ≡ 0 → b % 2 ^ i ≡ 0
      none n f z =
          let same : b ≡ (b + r) % 2 ^ n = omega (arith, e) ∙ sym (mod-eq_of_lt (le n f)) in
          ap (λ (c : ℕ). c % 2 ^ i) (same ∙ z) ∙ zero-mod (2 ^ i)
        where
          le : (n : ℕ) → n ≡ i + 1 → b + r < 2 ^ n
          le n f = subst (λ (j : ℕ). b + r < 2 ^ j) (sym f) (omega (arith, a.small, e, double))
  marked_next i b d r false a digit e here = record {
    small = below;
    each = λ n l z k m.
        elim (dec_lt n (i + 1)) [
          | yes o ↦ a.each n (omega arith)
              (sym (past b 1 n i (omega arith)) ∙ ap (λ (c : ℕ). (b + c) % 2 ^ n) (omega (arith, e, digit)) ∙ z) k m
          | no o ↦ absurd (set n (omega arith) z)
        ];
  }
    where
      double : 2 ^ (i + 1) ≡ 2 ^ i * 2
      double = pow-add 2 i 1

      below : b + r < 2 ^ (i + 1)
      below = omega (arith, a.small, e, digit, double)

      set : (n : ℕ) → n ≡ i + 1 → (b + r) % 2 ^ n ≡ 0 → ⊥
      set n f z =
          let none : b + r ≡ 0 = sym (mod-eq_of_lt (subst (λ (j : ℕ). b + r < 2 ^ j) (sym f) below)) ∙ z in
          omega (arith, e, digit, pow_pos i)

  -- ---- all cells of a run
  pub marked_all : (i b n : ℕ) → Marked i b → i ≡ run_cells → n ≡ count_trailing_zeros 32 (b + 65536)
      → (n ≤ run_cells) × ((k : ℕ) → k < n → P k)
  marked_all i b n a all e = (few, a.each n (omega (arith, few)) (sym (past b 1 n 16 few) ∙ zeros))
    where
      small : b < 2 ^ 16
      small = subst (λ (j : ℕ). b < 2 ^ j) all a.small

      zeros : (b + 65536) % 2 ^ n ≡ 0
      zeros = ap (λ (j : ℕ). (b + 65536) % 2 ^ j) e ∙ trailing-mod 32 (b + 65536)

      few : n ≤ 16
      few =
          elim (dec_lt 16 n) [
            | yes o ↦
                let high : 131072 ≤ 2 ^ n = pow_mono {i = 17} {j = n} (omega arith) in
                let none : b + 65536 ≡ 0 = sym (mod-eq_of_lt (omega (arith, high, small))) ∙ zeros in
                absurd (let no : ⊥ = omega arith in no)
            | no o ↦ omega arith
          ]
