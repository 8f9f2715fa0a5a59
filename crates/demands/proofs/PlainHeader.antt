-- A header that is written plainly, read back. Assumes nothing.
use Prim.Native.Nat.{ℕ, zero, suc, ◌+◌, ◌-◌, ◌*◌, ◌/◌, ◌%◌, ◌^◌, ◌<◌, ◌≤◌}
use native.Mathlib.Nat.{add-zero, add-suc, suc-add}
use native.Mathlib.Decide.{dec_lt}
use native.Mathlib.Omega.{arith}
use mathlib.Core.Path.{◌≡◌, refl, sym, ap, ap₂, ◌∙◌}
use mathlib.Core.Bool.{Bool, true, false, ◌&&◌}
use mathlib.Core.List.{List, [], ◌∷◌, ◌++◌}
use lib.Dec.{eqb}
use lib.ListN.{length}
use borrow.Author.Tests.{lt-ltb, le-ltb, le-leb, ne_eqb}
use Rattle.lists.specs.Places.{All}
use Rattle.lists.proofs.Members.{all_append, all_map}
use Rattle.listing.specs.Text.{digit_of, digits, places, decimal}
use Rattle.listing.proofs.Numbers.{length_digits, places-one}
use Rattle.pgm.specs.Header.{Character, is_space, is_digit, bare, begins, leading, trailing, number_from, Field, field_of}
use Rattle.pgm.specs.Header.{width_field, height_field, maxval_field, has_magic, has_header}
use Rattle.pgm.proofs.Characters.{space-none, digit-least}

-- ---- the digits of a number

-- as many as `places` are enough, and at least one
places-more : (most n : ℕ) → 10 ≤ n → places (suc most) n ≡ suc (places most (n / 10))
unfolding places
places-more most n h = rw (le-ltb n 10 h)

places-enough : (most n : ℕ) → n ≤ most → n < 10 ^ places most n
places-enough zero n h = unfold places in (omega arith)
places-enough (suc most) n h =
    elim (dec_lt n 10) [
      | yes l ↦ rw (places-one (suc most) n l) (omega arith)
      | no g ↦ rw (places-more most n (omega arith)) (let rest = places-enough most (n / 10) (omega arith) in omega (arith, rest))
    ]

places-some : (most n : ℕ) → 0 < places most n
places-some zero n = unfold places in (omega arith)
places-some (suc most) n =
    elim (dec_lt n 10) [
      | yes l ↦ omega (arith, places-one (suc most) n l)
      | no g ↦ omega (arith, places-more most n (omega arith))
    ]

-- a digit
Digit : ℕ → Type 0
Digit c = is_digit c ≡ true

digit-is : (d : ℕ) → d < 10 → digit_of d ≡ 48 + d
unfolding digit_of
digit-is d l = rw (lt-ltb d 10 l)

digits-all : (k n : ℕ) → All Digit (digits 10 k n)
unfolding digits Digit
digits-all zero n = tt
digits-all (suc k) n =
    all_append (λ c. is_digit c ≡ true) (digits 10 k (n / 10)) (digit_of (n % 10) ∷ []) (digits-all k (n / 10))
    (one (n % 10) (omega arith), tt)
  where
    one : (d : ℕ) → d < 10 → is_digit (digit_of d) ≡ true
    one d l = rw (digit-is d l, le-leb 48 (48 + d) (omega arith), le-leb (48 + d) 57 (omega arith))

-- ---- bytes as characters, from a place on
located : ℕ → List ℕ → List Character
located at [] = []
located at (c ∷ s) = record { code = c; place = at } ∷ located (suc at) s

located-append : (at : ℕ) (s t : List ℕ) → located at (s ++ t) ≡ located at s ++ located (at + length s) t
unfolding located
located-append at [] t = rw add-zero
located-append at (c ∷ s) t = rw (located-append (suc at) s t, add-suc, suc-add)

-- without comments all of them are left
bare-plain : (at : ℕ) (s t : List ℕ) → All (λ c. eqb c 35 ≡ false) s → bare false at (s ++ t) ≡ located at s ++ bare false (at + length s) t
unfolding bare located
bare-plain at [] t h = rw add-zero
bare-plain at (c ∷ s) t h = rw (h.0, bare-plain (suc at) s t h.1, add-suc, suc-add)

located-length : (at : ℕ) (s : List ℕ) → length (located at s) ≡ length s
unfolding located
located-length at [] = refl
located-length at (c ∷ s) = ap suc (located-length (suc at) s)

located-all : (at : ℕ) (s : List ℕ) → All Digit s → All (λ d. is_digit d.code ≡ true) (located at s)
unfolding located Digit
located-all at [] h = tt
located-all at (c ∷ s) h = (h.0, located-all (suc at) s h.1)

-- their number
number_append : (n : ℕ) (cs : List Character) (c : Character) → number_from n (cs ++ (c ∷ [])) ≡ 10 * number_from n cs + (c.code - 48)
number_append n [] c = refl
number_append n (d ∷ cs) c = number_append (10 * n + (d.code - 48)) cs c

digits_number : (k n at : ℕ) → n < 10 ^ k → number_from 0 (located at (digits 10 k n)) ≡ n
unfolding digits located
digits_number zero n at h = omega arith
digits_number (suc k) n at h =
    ap (number_from 0) (located-append at (digits 10 k (n / 10)) (digit_of (n % 10) ∷ []))
    ∙ number_append 0 (located at (digits 10 k (n / 10))) (record { code = digit_of (n % 10); place = at + length (digits 10 k (n / 10)) })
    ∙ rw (digits_number k (n / 10) at (omega arith), digit-is (n % 10) (omega arith)) (omega arith)

-- ---- a field: whitespace, digits, and a character that is no digit
digit-no-space : (c : ℕ) → is_digit c ≡ true → is_space c ≡ false
digit-no-space c e =
    let least = digit-least c e in
    sym (space-none c (λ z. let no : ⊥ = omega arith in no) (λ a b. let no : ⊥ = omega arith in no))

digit-no-comment : (c : ℕ) → is_digit c ≡ true → eqb c 35 ≡ false
digit-no-comment c e = let least = digit-least c e in ne_eqb c 35 (λ z. let no : ⊥ = omega arith in no)

leading-all : (ds : List Character) (c : Character) (cs : List Character) → All (λ d. is_digit d.code ≡ true) ds
    → is_digit c.code ≡ false
    → (leading is_digit (ds ++ (c ∷ cs)) ≡ ds) × (trailing is_digit (ds ++ (c ∷ cs)) ≡ c ∷ cs)
leading-all [] c cs h e = (rw e, rw e)
leading-all (d ∷ ds) c cs h e =
    let rest = leading-all ds c cs h.1 e in
    (rw h.0 (ap (λ (l : List Character). d ∷ l) rest.0), rw h.0 rest.1)

field-written : (s : Character) (ds : List Character) (c : Character) (cs : List Character) → is_space s.code ≡ true
    → All (λ d. is_digit d.code ≡ true) ds → 0 < length ds → is_digit c.code ≡ false
    → field_of (s ∷ (ds ++ (c ∷ cs))) ≡ record { there = true; number = number_from 0 ds; rest = c ∷ cs }
unfolding field_of
field-written s [] c cs p h some e = absurd (let no : ⊥ = omega arith in no)
field-written s (d ∷ ds) c cs p h some e =
    let all = leading-all (d ∷ ds) c cs h e in
    let behind : trailing is_space (s ∷ ((d ∷ ds) ++ (c ∷ cs))) ≡ (d ∷ ds) ++ (c ∷ cs) = rw (p, digit-no-space d.code h.0) in
    rw (behind, all.0, all.1, p, h.0)

-- ---- a header
module _ (n at : ℕ) where
  abbrev written : List Character
  written = located at (decimal n)

  written-some : 0 < length written
  unfolding decimal
  written-some = omega (arith, located-length at (decimal n), length_digits 10 (places n n) n, places-some n n)

  written-digits : All (λ d. is_digit d.code ≡ true) written
  unfolding decimal
  written-digits = located-all at (digits 10 (places n n) n) (digits-all (places n n) n)

  written-number : number_from 0 written ≡ n
  unfolding decimal
  written-number = digits_number (places n n) n at (places-enough n n (omega arith))

  -- with no comment in it
  written_bare : (t : List ℕ) → bare false at (decimal n ++ t) ≡ written ++ bare false (at + length (decimal n)) t
  unfolding decimal Digit
  written_bare t =
      bare-plain at (digits 10 (places n n) n) t
      (all_map (λ c. is_digit c ≡ true) (λ c. eqb c 35 ≡ false) digit-no-comment (digits 10 (places n n) n) (digits-all (places n n) n))

module _ (w h : ℕ) (t : List ℕ) where
  -- P5, the sides and 255
  abbrev upload : List ℕ
  upload = 80 ∷ 53 ∷ 10 ∷ (decimal w ++ (32 ∷ (decimal h ++ (10 ∷ 50 ∷ 53 ∷ 53 ∷ 10 ∷ t))))

  abbrev at-height : ℕ
  at-height = 3 + length (decimal w)

  abbrev at-maxval : ℕ
  at-maxval = suc at-height + length (decimal h)

  abbrev last : List ℕ
  last = 10 ∷ 50 ∷ 53 ∷ 53 ∷ 10 ∷ t

  pub width_is : width_field upload ≡ record { there = true; number = w; rest = bare false at-height (32 ∷ (decimal h ++ last)) }
  unfolding bare
  width_is =
      ap (λ (cs : List Character). field_of (record { code = 10; place = 2 } ∷ cs)) (written_bare w 3 (32 ∷ (decimal h ++ last)))
      ∙ field-written (record { code = 10; place = 2 }) (written w 3) (record { code = 32; place = at-height })
      (bare false (suc at-height) (decimal h ++ last)) refl
      (written-digits w 3) (written-some w 3) refl
      ∙ ap (λ (n : ℕ). record { there = true; number = n; rest = bare false at-height (32 ∷ (decimal h ++ last)) }) (written-number w 3)

  pub height_is : height_field upload ≡ record { there = true; number = h; rest = bare false at-maxval last }
  unfolding bare
  height_is =
      ap (λ (f : Field). field_of f.rest) width_is
      ∙ ap (λ (cs : List Character). field_of (record { code = 32; place = at-height } ∷ cs)) (written_bare h (suc at-height) last)
      ∙ field-written (record { code = 32; place = at-height }) (written h (suc at-height)) (record { code = 10; place = at-maxval })
      (bare false (suc at-maxval) (50 ∷ 53 ∷ 53 ∷ 10 ∷ t)) refl (written-digits h (suc at-height)) (written-some h (suc at-height)) refl
      ∙ ap (λ (n : ℕ). record { there = true; number = n; rest = bare false at-maxval last }) (written-number h (suc at-height))

  pub maxval-is : maxval_field upload ≡ record { there = true; number = 255; rest = bare false (suc (suc (suc (suc at-maxval)))) (10 ∷ t) }
  unfolding bare field_of
  maxval-is = ap (λ (f : Field). field_of f.rest) height_is

  pub header_is : has_header upload ≡ true
  unfolding bare
  header_is =
      let there : Field → Bool = λ f. f.there in
      let magic : has_magic upload ≡ true = refl in
      both (both magic (both (ap there width_is) (ap there height_is)))
      (both (ap there maxval-is) (ap (λ (f : Field). begins is_space f.rest) maxval-is))
    where
      both : {a b : Bool} → a ≡ true → b ≡ true → (a && b) ≡ true
      both p q = ap₂ (λ (a b : Bool). a && b) p q
