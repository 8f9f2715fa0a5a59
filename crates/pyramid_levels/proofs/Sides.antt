-- Laws of the levels' sides and of how many levels there are. Assumes nothing.
use Prim.Native.Nat.{ℕ, zero, suc, ◌+◌, ◌-◌, ◌/◌, ◌^◌, ◌<◌, ◌≤◌}
use native.Mathlib.Nat.{div-div-eq-div-mul, div-one, div-le_self, div-eq_of_lt, pow-suc, pow-le-pow_right, mul_comm, le_of_suc-le-suc}
use native.Mathlib.Nat.{pos_of_ne-zero}
use native.Mathlib.Decide.{dec_lt}
use native.Mathlib.Numerals.{one-add}
use native.Mathlib.Omega.{arith}
use mathlib.Core.Path.{◌≡◌, refl, sym, ap, ◌∙◌}
use mathlib.Core.Bool.{Bool, true, false, cond, ◌||◌}
use lib.Dec.{ltb, eqb}
use borrow.Author.Tests.{ltb-false, eqb-false}
use Rattle.lists.specs.Limits.{largest_side, most_levels}
use Rattle.lists.proofs.Tests.{or-neither}
use Rattle.pyramid_levels.specs.Levels.{level_side, is_below, is_too_small, halvings, level_count}

-- ---- sides

-- level 0 has the base's sides, and each level half those of the level below it
pub side-base : (side : ℕ) → side ≡ level_side side 0
side-base side = sym (div-one side)

pub side-next : (side k s : ℕ) → s ≡ level_side side k → s / 2 ≡ level_side side (suc k)
side-next side k s e = ap (λ (n : ℕ). n / 2) e ∙ div-div-eq-div-mul side (2 ^ k) 2 ∙ ap (λ (n : ℕ). side / n) (sym (pow-suc 2 k))

pub side-le : (side k : ℕ) → level_side side k ≤ side
side-le side k = div-le_self side (2 ^ k)

-- a side below 2^s has nothing left from level s on
pub side-few : (side s k : ℕ) → side < 2 ^ s → 0 < level_side side k → k < s
side-few side s k l p =
    elim (dec_lt k s) [
      | yes m ↦ m
      | no g ↦
          let more : 2 ^ s ≤ 2 ^ k = pow-le-pow_right {n = 2} (omega arith) {i = s} {j = k} (omega arith) in
          let none : level_side side k ≡ 0 = div-eq_of_lt (omega arith) in
          absurd (let no : ⊥ = omega arith in no)
    ]

-- ---- how many levels

-- N levels in all, of which n are counted, the last of them of w by h: no more where the next is too small or the count is reached, else
-- one more
module _ (N n most w h minimum_side : ℕ) (e : N ≡ n + halvings (most - n) w h minimum_side) where
  pub counted_stop : is_too_small (w / 2) (h / 2) minimum_side ≡ true → n ≡ N
  counted_stop t = omega (arith, stop (most - n))
    where
      stop : (k : ℕ) → halvings k w h minimum_side ≡ 0
      stop zero = unfold halvings in refl
      stop (suc k) = unfold halvings in (rw t)

  pub counted-all : most ≤ n → n ≡ N
  unfolding halvings
  counted-all p = let z : most - n ≡ 0 = omega arith in let q : N ≡ n + 0 = rw z at e in omega arith

  pub counted-more : n < most → is_too_small (w / 2) (h / 2) minimum_side ≡ false
      → N ≡ n + 1 + halvings (most - (n + 1)) (w / 2) (h / 2) minimum_side
  unfolding halvings
  counted-more p t =
      let z : most - n ≡ suc (most - (n + 1)) = omega arith in
      let q : N ≡ n + suc (halvings (most - (n + 1)) (w / 2) (h / 2) minimum_side) = rw (z, t) at e in
      omega arith

pub count_none : (w h n minimum_side : ℕ) → n ≡ 0 → level_count w h n minimum_side ≡ 0
unfolding level_count
count_none w h n minimum_side e = rw e

pub count-below : (w h n minimum_side : ℕ) → is_below w h minimum_side ≡ true → level_count w h n minimum_side ≡ 0
unfolding level_count
count-below w h zero minimum_side e = refl
count-below w h (suc n) minimum_side e = rw e

-- the base, and the levels above it
pub count-some : (w h n minimum_side : ℕ) → (n ≡ 0 → ⊥) → is_below w h minimum_side ≡ false
    → level_count w h n minimum_side ≡ 1 + halvings (n - 1) w h minimum_side
unfolding level_count
count-some w h zero minimum_side z e = absurd (z refl)
count-some w h (suc n) minimum_side z e = let p : suc n - 1 ≡ n = omega arith in rw (e, p, one-add)

-- ---- a level that is built

-- no side is below the minimum size, and none of a level above the base is 0
pub record LargeEnough (w h minimum_side k : ℕ) : Type 0 where
  pub cols : minimum_side ≤ level_side w k
  pub rows : minimum_side ≤ level_side h k
  pub some-cols : (k ≡ 0 → ⊥) → 0 < level_side w k
  pub some-rows : (k ≡ 0 → ⊥) → 0 < level_side h k

half-side : (side k : ℕ) → level_side (side / 2) k ≡ level_side side (suc k)
half-side side k = div-div-eq-div-mul side 2 (2 ^ k) ∙ ap (λ (n : ℕ). side / n) (mul_comm 2 (2 ^ k) ∙ sym (pow-suc 2 k))

-- each level above one of w by h
halving-large : (n w h minimum_side k : ℕ) → k < halvings n w h minimum_side
    → is_too_small (level_side w (suc k)) (level_side h (suc k)) minimum_side ≡ false
unfolding halvings
halving-large zero w h minimum_side k l = absurd (let none : ⊥ = omega arith in none)
halving-large (suc n) w h minimum_side k l =
    go (is_too_small (w / 2) (h / 2) minimum_side) refl (halving-large n (w / 2) (h / 2) minimum_side) k l
  where
    go : (t : Bool) → is_too_small (w / 2) (h / 2) minimum_side ≡ t
        → ((k : ℕ) → k < halvings n (w / 2) (h / 2) minimum_side
        → is_too_small (level_side (w / 2) (suc k)) (level_side (h / 2) (suc k)) minimum_side ≡ false)
        → (k : ℕ) → k < cond t 0 (suc (halvings n (w / 2) (h / 2) minimum_side))
        → is_too_small (level_side w (suc k)) (level_side h (suc k)) minimum_side ≡ false
    go true e f k l = absurd (let none : ⊥ = omega arith in none)
    go false e f zero l = e
    go false e f (suc k) l = rw (half-side w (suc k), half-side h (suc k)) at (f k (le_of_suc-le-suc l))

below_none : (w h minimum_side : ℕ) → is_below w h minimum_side ≡ false → (minimum_side ≤ w) × (minimum_side ≤ h)
below_none w h minimum_side e = let p = or-neither (ltb w minimum_side) (ltb h minimum_side) e in
    (ltb-false w minimum_side p.0, ltb-false h minimum_side p.1)

pub built-level : (w h count minimum_side k : ℕ) → k < level_count w h count minimum_side → LargeEnough w h minimum_side k
unfolding level_count
built-level w h zero minimum_side k l = absurd (let none : ⊥ = omega arith in none)
built-level w h (suc n) minimum_side k l = go (is_below w h minimum_side) refl k l
  where
    go : (t : Bool) → is_below w h minimum_side ≡ t → (k : ℕ) → k < cond t 0 (suc (halvings n w h minimum_side))
        → LargeEnough w h minimum_side k
    go true e k l = absurd (let none : ⊥ = omega arith in none)
    go false e zero l =
        let p = below_none w h minimum_side e in
        record {
          cols = rw (← side-base w) p.0;
          rows = rw (← side-base h) p.1;
          some-cols = λ z. absurd (z refl);
          some-rows = λ z. absurd (z refl);
        }
    go false e (suc k) l =
        let a = level_side w (suc k) in
        let b = level_side h (suc k) in
        let p = or-neither (eqb a 0 || eqb b 0) (is_below a b minimum_side) (halving-large n w h minimum_side k (le_of_suc-le-suc l)) in
        let q = or-neither (eqb a 0) (eqb b 0) p.0 in
        let r = below_none a b minimum_side p.1 in
        record {
          cols = r.0;
          rows = r.1;
          some-cols = λ z. pos_of_ne-zero (eqb-false a 0 q.0);
          some-rows = λ z. pos_of_ne-zero (eqb-false b 0 q.1);
        }

-- a side below 2^s makes at most s levels
pub count-le : (w h count minimum_side s : ℕ) → 0 < s → w < 2 ^ s → level_count w h count minimum_side ≤ s
count-le w h count minimum_side s p l =
    elim (dec_lt s (level_count w h count minimum_side)) [
      | yes m ↦ absurd (let e : level_side w s ≡ 0 = div-eq_of_lt l in let none : ⊥ = omega
          (arith, (built-level w h count minimum_side s m).some-cols (λ z. omega arith)) in none)
      | no g ↦ omega arith
    ]

-- up to the largest side there are at most so many
pub count-few : (w h count minimum_side : ℕ) → w ≤ largest_side → level_count w h count minimum_side ≤ most_levels
count-few w h count minimum_side l = count-le w h count minimum_side most_levels (omega arith) (omega arith)

-- and never more than asked for
halvings-le : (n w h minimum_side : ℕ) → halvings n w h minimum_side ≤ n
unfolding halvings
halvings-le zero w h minimum_side = omega arith
halvings-le (suc n) w h minimum_side = pick (is_too_small (w / 2) (h / 2) minimum_side) (halvings-le n (w / 2) (h / 2) minimum_side)
  where
    pick : (t : Bool) → halvings n (w / 2) (h / 2) minimum_side ≤ n → cond t 0 (suc (halvings n (w / 2) (h / 2) minimum_side)) ≤ suc n
    pick true l = omega arith
    pick false l = omega arith

pub count-le-count : (w h count minimum_side : ℕ) → level_count w h count minimum_side ≤ count
unfolding level_count
count-le-count w h zero minimum_side = omega arith
count-le-count w h (suc n) minimum_side = pick (is_below w h minimum_side)
  where
    pick : (t : Bool) → cond t 0 (suc (halvings n w h minimum_side)) ≤ suc n
    pick true = omega arith
    pick false = omega (arith, halvings-le n w h minimum_side)
