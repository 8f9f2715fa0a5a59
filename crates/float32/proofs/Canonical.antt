-- How binary32 writes a finite number: m * 2 ^ e with m odd, or 0 with the exponent 0. So a number is written in one way, and rounding
-- leaves what the format holds as it is, also times a power of two. Assumes nothing.
use Rattle.std.proofs.Common.{◌≡◌, ℕ, zero, suc, ◌+◌, ◌-◌, ◌*◌, ◌%◌, ◌^◌, ◌<◌, ◌≤◌, Bool, true, false, ◌&&◌, eqb, ltb, leb, ℤ, pos, negsuc}
use Rattle.std.proofs.Common.{sym, refl, ap, ◌∙◌, le_of_eq, lt_of_lt_of_le, lt_of_le_of_lt, zero-lt-suc, mul_assoc, mul_comm}
use Rattle.std.proofs.Common.{mul-lt-mul_of_pos_right, mul-pos, one-mul, zero-mul, mul-one, mul_right_comm, mul_left_comm, arith, lit<}
use Rattle.std.proofs.Common.{lit≤, pow_pos, pow-add, ltb-true, eqb-true, leb-false, leb-true}
use native.Mathlib.Nat.{mul-mul-mul_comm, pow-succ'}
use native.Mathlib.Nat.{eq_of_mul-eq-mul_right, two-pow-succ}
use lib.Pow.{pow-lt}
use lib.Ieee.{Float, nan, inf, fin, binary32, up, down, round, fits}
use lib.Ieee.Fits.{up_pos, down_pos, round-fits}
use lib.Ieee.Exact.{HasValue, round_exact}
use Rattle.lists.proofs.Tests.{from-T, and_parts}

-- 2 ^ e is 1 only at 0
unit-power : (e : ℤ) → up e * down e ≡ 1 → e ≡ pos 0
unit-power (pos zero) h = refl
unit-power (pos (suc k)) h = absurd (omega (arith, mul-one (2 ^ suc k), two-pow-succ k, pow_pos k))
unit-power (negsuc k) h = absurd (omega (arith, one-mul (2 ^ suc k), two-pow-succ k, pow_pos k))

-- ---- what `fits` says of a float's own number
pub own-zero : (s : Bool) (e : ℤ) → fits binary32 (fin s zero e) ≡ true → e ≡ pos 0
unfolding fits
own-zero s e h = unit-power e (eqb-true (up e * down e) 1 h)

own-parts : (s : Bool) (m : ℕ) (e : ℤ) → fits binary32 (fin s (suc m) e) ≡ true
    → (suc m % 2 ≡ 1) × (suc m < 2 ^ 24) × (down e ≤ 2 ^ 149) × (suc m * up e < 2 ^ 128 * down e)
unfolding fits
own-parts s m e h =
    let A = eqb (suc m % 2) 1 in
    let B = ltb (suc m) (2 ^ 24) in
    let C = leb (down e) (2 ^ 149) in
    let D = ltb (suc m * up e) (2 ^ 128 * down e) in
    let p = and_parts (A && B && C) D h in
    let q = and_parts (A && B) C p.0 in
    let r = and_parts A B q.0 in (
      eqb-true (suc m % 2) 1 r.0,
      ltb-true (suc m) (2 ^ 24) r.1,
      leb-true (down e) (2 ^ 149) q.1,
      ltb-true (suc m * up e) (2 ^ 128 * down e) p.1,
    )

pub own : (s : Bool) (m : ℕ) (e : ℤ) → fits binary32 (fin s m e) ≡ true → (m < 2 ^ 24) × (down e ≤ 2 ^ 149) × (m * up e < 2 ^ 128 * down e)
own s zero e h = rw (own-zero s e h) (pow_pos 24, lit≤ tt, pow_pos 128)
own s (suc m) e h = let p = own-parts s m e h in (p.1, p.2, p.3)

pub own-low : (s : Bool) (m : ℕ) (e : ℤ) → fits binary32 (fin s m e) ≡ true → down e ≤ 2 ^ 149
own-low s m e h = (own s m e h).1

-- `fits` asks nothing of the sign
pub fits-plain : (s : Bool) (m : ℕ) (e : ℤ) → fits binary32 (fin s m e) ≡ fits binary32 (fin false m e)
unfolding fits
fits-plain s zero e = refl
fits-plain s (suc m) e = refl

-- ---- 2 ^ e in units of 2 ^ -149, the format's smallest value: 2 ^ place e of them. Where the format holds 2 ^ e, rest e digits are free
-- below it
place : ℤ → ℕ
place (pos k) = k + 149
place (negsuc k) = 149 - suc k

pub rest : ℤ → ℕ
rest (pos k) = 149
rest (negsuc k) = 149 - suc k

up-place : (e : ℤ) → up e * 2 ^ rest e ≡ 2 ^ place e
unfolding rest place
up-place (pos k) = sym (pow-add 2 k 149)
up-place (negsuc k) = one-mul (2 ^ (149 - suc k))

pub exponent-le : (j k : ℕ) → 2 ^ j ≤ 2 ^ k → j ≤ k
exponent-le j k h = go (leb j k) refl
  where
    go : (b : Bool) → leb j k ≡ b → j ≤ k
    go true p = leb-true j k p
    go false p = absurd (omega (arith, pow-lt {i = k} {j = j} (leb-false j k p)))

pub down-rest : (e : ℤ) → down e ≤ 2 ^ 149 → down e * 2 ^ rest e ≡ 2 ^ 149
unfolding rest
down-rest (pos k) h = one-mul (2 ^ 149)
down-rest (negsuc k) h =
    let l = exponent-le (suc k) 149 h in
    let r : suc k + (149 - suc k) ≡ 149 = omega arith in
    sym (pow-add 2 (suc k) (149 - suc k)) ∙ ap (λ (n : ℕ). 2 ^ n) r

place-unique : (e g : ℤ) → down e ≤ 2 ^ 149 → down g ≤ 2 ^ 149 → place e ≡ place g → e ≡ g
unfolding place
place-unique (pos j) (pos k) h l q = let r : j ≡ k = omega arith in ap pos r
place-unique (pos j) (negsuc k) h l q = absurd (let no : ⊥ = omega arith in no)
place-unique (negsuc j) (pos k) h l q = absurd (let no : ⊥ = omega arith in no)
place-unique (negsuc j) (negsuc k) h l q =
    let a = exponent-le (suc j) 149 h in
    let b = exponent-le (suc k) 149 l in
    let r : j ≡ k = omega arith in
    ap negsuc r

-- ---- a number is written in one way
twice_power : (n b : ℕ) → n * 2 ^ suc b ≡ 2 * (n * 2 ^ b)
twice_power n b = ap (λ (z : ℕ). n * z) (pow-succ' 2 b) ∙ mul_left_comm n 2 (2 ^ b)

not-even : (m t : ℕ) → m % 2 ≡ 1 → m * 1 ≡ 2 * t → ⊥
not-even m t o h = omega arith

odd_pow : (m n a b : ℕ) → m % 2 ≡ 1 → n % 2 ≡ 1 → m * 2 ^ a ≡ n * 2 ^ b → (m ≡ n) × (a ≡ b)
odd_pow m n zero zero o p h = (omega arith, refl)
odd_pow m n zero (suc b) o p h = absurd (not-even m (n * 2 ^ b) o (h ∙ twice_power n b))
odd_pow m n (suc a) zero o p h = absurd (not-even n (m * 2 ^ a) p (sym h ∙ twice_power m a))
odd_pow m n (suc a) (suc b) o p h =
    let r = odd_pow m n a b o p (omega (arith, twice_power m a, twice_power n b)) in
    (r.0, ap suc r.1)

-- X / E = Y / G, where E and G divide L
over-units : (X E R Y G Q L : ℕ) → 0 < L → E * R ≡ L → G * Q ≡ L → X * G ≡ Y * E → X * R ≡ Y * Q
over-units X E R Y G Q L p h k e =
    eq_of_mul-eq-mul_right L p (X * R) (Y * Q)
    (ap (λ (z : ℕ). X * R * z) (sym k) ∙ mul-mul-mul_comm X R G Q ∙ ap (λ (z : ℕ). z * (R * Q)) e ∙ regroup ∙ ap (λ (z : ℕ). Y * Q * z) h)
  where
    regroup : Y * E * (R * Q) ≡ Y * Q * (E * R)
    regroup = simp (mul_assoc, mul_comm, mul_left_comm)

at_place : (m : ℕ) (e : ℤ) → m * up e * 2 ^ rest e ≡ m * 2 ^ place e
at_place m e = mul_assoc m (up e) (2 ^ rest e) ∙ ap (λ (z : ℕ). m * z) (up-place e)

written_once : (m n : ℕ) (e g : ℤ) → m % 2 ≡ 1 → n % 2 ≡ 1 → down e ≤ 2 ^ 149 → down g ≤ 2 ^ 149
    → m * up e * down g ≡ n * up g * down e → (m ≡ n) × (e ≡ g)
written_once m n e g o p h l q =
    let u = over-units (m * up e) (down e) (2 ^ rest e) (n * up g) (down g) (2 ^ rest g) (2 ^ 149) (pow_pos 149) (down-rest e h)
    (down-rest g l) q in
    let r = odd_pow m n (place e) (place g) o p (sym (at_place m e) ∙ u ∙ at_place n g) in
    (r.0, place-unique e g h l r.1)

-- X / E and Y / G are both a / c
crossed : (X E Y G a c : ℕ) → 0 < c → X * c ≡ a * E → Y * c ≡ a * G → X * G ≡ Y * E
crossed X E Y G a c C h k =
    eq_of_mul-eq-mul_right c C (X * G) (Y * E)
    (mul_right_comm X G c ∙ ap (λ (z : ℕ). z * G) h ∙ mul_right_comm a E G ∙ ap (λ (z : ℕ). z * E) (sym k) ∙ mul_right_comm Y c E)

not_none : (m : ℕ) (e g : ℤ) → suc m * up e * down g ≡ 0 * up g * down e → ⊥
not_none m e g h =
    let k : 0 < suc m * up e * down g = mul-pos (mul-pos (zero-lt-suc m) (up_pos e)) (down_pos g) in
    let l : 0 * up g * down e ≡ 0 = ap (λ (z : ℕ). z * down e) (zero-mul (up g)) ∙ zero-mul (down e) in
    omega arith

pub same_float : (x y : Float) (s : Bool) (a c : ℕ) → 0 < c → fits binary32 x ≡ true → fits binary32 y ≡ true → HasValue x s a c
    → HasValue y s a c → x ≡ y
same_float nan y s a c C f g h k = absurd h
same_float (inf t) y s a c C f g h k = absurd h
same_float (fin t m e) nan s a c C f g h k = absurd k
same_float (fin t m e) (inf u) s a c C f g h k = absurd k
same_float (fin t m e) (fin u n d) s a c C f g h k = go m n f g (crossed (m * up e) (down e) (n * up d) (down d) a c C h.1 k.1)
  where
    signs : t ≡ u
    signs = h.0 ∙ sym k.0

    go : (m n : ℕ) → fits binary32 (fin t m e) ≡ true → fits binary32 (fin u n d) ≡ true → m * up e * down d ≡ n * up d * down e
        → fin t m e ≡ fin u n d
    go zero zero f g q = rw (signs, own-zero t e f, own-zero u d g)
    go zero (suc n) f g q = absurd (not_none n d e (sym q))
    go (suc m) zero f g q = absurd (not_none m e d q)
    go (suc m) (suc n) f g q =
        let r = written_once (suc m) (suc n) e d (own-parts t m e f).0 (own-parts u n d g).0 (own-low t (suc m) e f)
        (own-low u (suc n) d g) q in
        rw (signs, r.0, r.1)

-- ---- m * 2 ^ e, times a power of two without overflow, is rounded to itself
module _ (s : Bool) (m : ℕ) (e : ℤ) (k : ℕ) (f : fits binary32 (fin s m e) ≡ true) (small : m * up e * 2 ^ k < 2 ^ 128 * down e) where
  shifted : m * up e * 2 ^ k * 2 ^ rest e ≡ m * 2 ^ (place e + k)
  shifted =
      mul_right_comm (m * up e) (2 ^ k) (2 ^ rest e)
      ∙ ap (λ (z : ℕ). z * 2 ^ k) (at_place m e)
      ∙ mul_assoc m (2 ^ place e) (2 ^ k)
      ∙ ap (λ (z : ℕ). m * z) (sym (pow-add 2 (place e) k))

  pub round-shifted : (num den : ℕ) → 0 < den → num * down e ≡ m * up e * 2 ^ k * den → HasValue (round binary32 s num den) s num den
  round-shifted num den p h =
      let r = down-rest e (own-low s m e f) in
      round_exact binary32 s num den m (place e + k) p (own s m e f).0
      (bound (m * up e * 2 ^ k) (down e) (2 ^ rest e) (2 ^ 128) (2 ^ 149) (m * 2 ^ (place e + k)) (pow_pos (rest e)) r shifted small)
      (equal num den (m * up e * 2 ^ k) (down e) (2 ^ rest e) (2 ^ 149) (m * 2 ^ (place e + k)) r shifted h)
    where
      bound : (X E R B L Q : ℕ) → 0 < R → E * R ≡ L → X * R ≡ Q → X < B * E → Q < B * L
      bound X E R B L Q P r q l =
          lt_of_lt_of_le (lt_of_le_of_lt (le_of_eq (sym q)) (mul-lt-mul_of_pos_right l P))
          (le_of_eq (mul_assoc B E R ∙ ap (λ (z : ℕ). B * z) r))

      equal : (n d X E R L Q : ℕ) → E * R ≡ L → X * R ≡ Q → n * E ≡ X * d → n * L ≡ Q * d
      equal n d X E R L Q r q l =
          ap (λ (z : ℕ). n * z) (sym r) ∙ sym (mul_assoc n E R) ∙ ap (λ (z : ℕ). z * R) l ∙ mul_right_comm X d R ∙ ap (λ (z : ℕ). z * d) q

-- far from overflow
pub far-below : (n d : ℕ) → 0 < d → n ≤ 2 ^ 26 * d → n < 2 ^ 128 * d
far-below n d p h = lt_of_le_of_lt h (mul-lt-mul_of_pos_right (lit< tt) p)

pub round-own : (s : Bool) (m : ℕ) (e : ℤ) → fits binary32 (fin s m e) ≡ true → round binary32 s (m * up e) (down e) ≡ fin s m e
round-own s m e f =
    same_float (round binary32 s (m * up e) (down e)) (fin s m e) s (m * up e) (down e) (down_pos e)
    (from-T _ (round-fits binary32 s (m * up e) (down e))) f
    (round-shifted s m e 0 f (rw mul-one (own s m e f).2) (m * up e) (down e) (down_pos e) (rw mul-one refl))
    (refl, refl)
