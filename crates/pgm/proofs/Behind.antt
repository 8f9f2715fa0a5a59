-- Bytes behind the pixels: two uploads that begin alike, up to the last pixel of the one, are read alike. Assumes nothing.
use Prim.Native.Nat.{ℕ, suc, ◌+◌, ◌*◌, ◌<◌, ◌≤◌}
use native.Mathlib.Nat.{add-zero, add-suc, suc-add}
use native.Mathlib.Omega.{arith}
use mathlib.Core.Path.{◌≡◌, refl, sym, ap, ◌∙◌}
use mathlib.Core.Logic.{◌⊎◌, inl, inr, ⊎_elim}
use mathlib.Core.Bool.{Bool, true, false, cond, ◌&&◌, ◌||◌}
use mathlib.Core.List.{List, [], ◌∷◌, ◌++◌}
use lib.Dec.{eqb}
use lib.ListN.{length, get_or, take, drop, length-append, length-drop, take-append-drop, get_or-append}
use lib.Seq.{length-take-le, take-append-le, drop-append-le}
use Rattle.lists.specs.Places.{All}
use Rattle.lists.proofs.Tests.{and_parts}
use Rattle.lists.proofs.Members.{all_map}
use Rattle.pgm.specs.Header.{Character, is_space, is_digit, in_comment, bare, begins, leading, trailing, number_from, Field, field_of}
use Rattle.pgm.specs.Header.{behind_first}
use Rattle.pgm.specs.Header.{has_magic, width_field, height_field, maxval_field, width_of, height_of, maxval_of, has_sides, has_header}
use Rattle.pgm.specs.Header.{raster_at}
use Rattle.pgm.specs.Pgm.{refusal_of, pixels_in}
use Rattle.pgm.proofs.Fields.{Within, all-trailing, all_rest, bare-within}
use Rattle.pgm.proofs.Judging.{accepted, accepts, raster-inside}

-- ---- a test of some characters cs, whatever stands behind them

-- one of them does not pass
record Stops (f : ℕ → Bool) (cs : List Character) : Type 0 where
  first : Character
  more : List Character
  behind : (xs : List Character) → trailing f (cs ++ xs) ≡ first ∷ (more ++ xs)
  before : (xs : List Character) → leading f (cs ++ xs) ≡ leading f cs

-- or all do
Runs : (f : ℕ → Bool) (cs : List Character) → Type 0
Runs f cs = (xs : List Character) → trailing f (cs ++ xs) ≡ trailing f xs

tested : (f : ℕ → Bool) (cs : List Character) → Stops f cs ⊎ Runs f cs
unfolding Runs
tested f [] = inr (λ xs. refl)
tested f (c ∷ cs) = go (f c.code) refl (tested f cs)
  where
    go : (b : Bool) → f c.code ≡ b → Stops f cs ⊎ Runs f cs → Stops f (c ∷ cs) ⊎ Runs f (c ∷ cs)
    go false e t = inl (record { first = c; more = cs; behind = λ xs. rw e; before = λ xs. rw e })
    go true e t =
        ⊎_elim
        (λ (s : Stops f cs). inl (record {
          first = s.first;
          more = s.more;
          behind = λ xs. rw e (s.behind xs);
          before = λ xs. rw e (ap (λ (l : List Character). c ∷ l) (s.before xs));
        }))
        (λ (r : Runs f cs). inr (λ xs. rw e (r xs))) t

-- ---- two lists of characters that begin alike, and then have xs and ys, where those of xs stand from the place k on
module _ (k : ℕ) (xs ys : List Character) (far : All (λ (c : Character). k ≤ c.place) xs) where
  record Alike (cs ds : List Character) : Type 0 where
    first : Character
    more : List Character
    left : cs ≡ first ∷ (more ++ xs)
    right : ds ≡ first ∷ (more ++ ys)

  -- or the first of them have only those of xs left
  Past : List Character → Type 0
  Past cs = All (λ (c : Character). k ≤ c.place) cs

  record SameField (a b : Field) : Type 0 where
    there : a.there ≡ b.there
    number : a.number ≡ b.number
    rest : Alike a.rest b.rest

  field_alike : (cs ds : List Character) → Alike cs ds → SameField (field_of cs) (field_of ds) ⊎ Past (field_of cs).rest
  unfolding field_of Runs Past
  field_alike cs ds a =
      ⊎_elim
      (λ (s : Stops is_space (a.first ∷ a.more)). ⊎_elim
      (λ (d : Stops is_digit (s.first ∷ s.more)). inl (record {
        there = rw (a.left, a.right)
            (ap (λ (b : Bool). is_space a.first.code && b)
            (ap (begins is_digit) (s.behind xs) ∙ sym (ap (begins is_digit) (s.behind ys))));
        number = rw (a.left, a.right)
            (ap (number_from 0)
            (ap (leading is_digit) (s.behind xs) ∙ d.before xs ∙ sym (d.before ys) ∙ sym (ap (leading is_digit) (s.behind ys))));
        rest = record {
          first = d.first;
          more = d.more;
          left = rw a.left (ap (trailing is_digit) (s.behind xs) ∙ d.behind xs);
          right = rw a.right (ap (trailing is_digit) (s.behind ys) ∙ d.behind ys);
        };
      }))
      (λ (r : Runs is_digit (s.first ∷ s.more)). inr
      (rw (a.left, s.behind xs, r xs) (all-trailing (λ (c : Character). k ≤ c.place) is_digit xs far)))
      (tested is_digit (s.first ∷ s.more)))
      (λ (r : Runs is_space (a.first ∷ a.more)). inr (rw (a.left, r xs)
      (all-trailing (λ (c : Character). k ≤ c.place) is_digit (trailing is_space xs)
      (all-trailing (λ (c : Character). k ≤ c.place) is_space xs far))))
      (tested is_space (a.first ∷ a.more))

-- ---- the characters of two lists of bytes, one behind the other
after : Bool → List ℕ → Bool
after inside [] = inside
after inside (c ∷ s) = after (in_comment inside c) s

bare-append : (inside : Bool) (at : ℕ) (s t : List ℕ)
    → bare inside at (s ++ t) ≡ bare inside at s ++ bare (after inside s) (at + length s) t
unfolding bare after
bare-append inside at [] t = rw add-zero
bare-append inside at (c ∷ s) t =
    rw (bare-append (in_comment inside c) (suc at) s t, add-suc, suc-add)
    (go (inside || eqb c 35) (bare (in_comment inside c) (suc at) s) (bare (after (in_comment inside c) s) (suc (at + length s)) t))
  where
    go : (b : Bool) (ms ns : List Character)
        → cond b (ms ++ ns) (record { code = c; place = at } ∷ (ms ++ ns)) ≡ cond b ms (record { code = c; place = at } ∷ ms) ++ ns
    go true ms ns = refl
    go false ms ns = refl

-- ---- two uploads that begin with a, where the header of the first ends
module _ (a t t' : List ℕ) (header : has_header (a ++ t) ≡ true) (raster : raster_at (a ++ t) ≤ length a) where
  abbrev u : List ℕ
  u = a ++ t

  abbrev v : List ℕ
  v = a ++ t'

  abbrev far-off : ℕ → Character → Type 0
  far-off k c = k ≤ c.place

  space : begins is_space (maxval_field u).rest ≡ true
  space = (and_parts (maxval_field u).there (begins is_space (maxval_field u).rest) (and_parts (has_sides u) _ header).1).1

  -- characters from a place on, before a field and behind it
  from_place : (k : ℕ) (cs : List Character) → All (far-off k) cs → begins is_space cs ≡ true → k < behind_first cs
  from_place k [] h e = absurd (let z : ◌≡◌ {A = ℕ} 0 1 = cc in let no : ⊥ = omega arith in no)
  from_place k (c ∷ cs) h e = omega (arith, h.0)

  long : 2 < length a
  long =
      let start = all_map (Within 2 (2 + length (drop 2 u))) (far-off 2) (λ c h. h.0) (bare false 2 (drop 2 u))
      (bare-within false 2 (drop 2 u)) in
      let rest = all_rest (far-off 2) in
      let all = rest (height_field u).rest (rest (width_field u).rest (rest (bare false 2 (drop 2 u)) start)) in
      omega (arith, raster, from_place 2 (maxval_field u).rest all space)

  abbrev shared : List Character
  shared = bare false 2 (drop 2 a)

  abbrev behind : List ℕ → List Character
  behind more = bare (after false (drop 2 a)) (2 + length (drop 2 a)) more

  bare_of : (more : List ℕ) → bare false 2 (drop 2 (a ++ more)) ≡ shared ++ behind more
  bare_of more = ap (bare false 2) (drop-append-le 2 a more (omega (arith, long))) ∙ bare-append false 2 (drop 2 a) more

  far : All (far-off (length a)) (behind t)
  far =
      let k : length a ≡ 2 + length (drop 2 a) = omega (arith, long, length-drop 2 a) in
      rw k (all_map (Within (2 + length (drop 2 a)) (2 + length (drop 2 a) + length t)) (far-off (2 + length (drop 2 a)))
      (λ c h. h.0) (behind t)
      (bare-within (after false (drop 2 a)) (2 + length (drop 2 a)) t))

  -- no header ends behind a
  never : All (far-off (length a)) (maxval_field u).rest → ⊥
  never h = omega (arith, raster, from_place (length a) (maxval_field u).rest h space)

  abbrev Both : List Character → List Character → Type 0
  Both = Alike (length a) (behind t) (behind t') far

  abbrev Same : Field → Field → Type 0
  Same = SameField (length a) (behind t) (behind t') far

  begin : Both (bare false 2 (drop 2 u)) (bare false 2 (drop 2 v)) ⊎ All (far-off (length a)) (bare false 2 (drop 2 u))
  begin = go shared (bare_of t) (bare_of t')
    where
      go : (cs : List Character) → bare false 2 (drop 2 u) ≡ cs ++ behind t → bare false 2 (drop 2 v) ≡ cs ++ behind t'
          → Both (bare false 2 (drop 2 u)) (bare false 2 (drop 2 v)) ⊎ All (far-off (length a)) (bare false 2 (drop 2 u))
      go [] p q = inr (rw p far)
      go (c ∷ cs) p q = inl (record { first = c; more = cs; left = p; right = q })

  fields-same : Same (width_field u) (width_field v) × Same (height_field u) (height_field v) × Same (maxval_field u) (maxval_field v)
  unfolding Past
  fields-same =
      let next = field_alike (length a) (behind t) (behind t') far in
      let rest = all_rest (far-off (length a)) in
      let start = bare false 2 (drop 2 u) in
      ⊎_elim
      (λ (b : Both start (bare false 2 (drop 2 v))). ⊎_elim
      (λ (w : Same (width_field u) (width_field v)). ⊎_elim
      (λ (h : Same (height_field u) (height_field v)). ⊎_elim
      (λ (m : Same (maxval_field u) (maxval_field v)). (w, h, m))
      (λ p. absurd (never p)) (next (height_field u).rest (height_field v).rest h.rest))
      (λ p. absurd (never (rest (height_field u).rest p))) (next (width_field u).rest (width_field v).rest w.rest))
      (λ p. absurd (never (rest (height_field u).rest (rest (width_field u).rest p)))) (next start (bare false 2 (drop 2 v)) b))
      (λ p. absurd (never (rest (height_field u).rest (rest (width_field u).rest (rest start p))))) begin

  pub width_same : width_of v ≡ width_of u
  width_same = sym fields-same.0.number

  pub height-same : height_of v ≡ height_of u
  height-same = sym fields-same.1.number

  pub maxval-same : maxval_of v ≡ maxval_of u
  maxval-same = sym fields-same.2.number

  pub raster-same : raster_at v ≡ raster_at u
  raster-same = let last = fields-same.2.rest in rw (last.left, last.right)

  pub header-same : has_header v ≡ true
  header-same =
      let last = fields-same.2.rest in
      let one : begins is_space (maxval_field v).rest ≡ begins is_space (maxval_field u).rest = rw (last.left, last.right) in
      let first : (more : List ℕ) (i : ℕ) → i < 2 → get_or (a ++ more) i 0 ≡ get_or a i 0 = λ more i l. get_or-append a more 0 i
      (omega (arith, long)) in
      let magic : has_magic v ≡ has_magic u = rw
      (first t 0 (omega arith), first t 1 (omega arith), first t' 0 (omega arith), first t' 1 (omega arith)) in
      rw (magic, ← fields-same.0.there, ← fields-same.1.there, ← fields-same.2.there, one) header

-- ---- an upload that is accepted, cut off behind its pixels, and anything behind them
module _ (upload : List ℕ) (none : refusal_of upload ≡ 0) where
  abbrev pixels : ℕ
  pixels = width_of upload * height_of upload

  abbrev end : ℕ
  end = raster_at upload + pixels

  abbrev kept : List ℕ
  kept = take end upload

  ends : end ≤ length upload
  ends =
      let a = accepted upload none in
      omega (arith, a.enough, length-drop (raster_at upload) upload, raster-inside upload a.header)

  kept-long : length kept ≡ end
  kept-long = length-take-le end upload ends

  -- the pixels lie in what is kept
  pixels-kept : (more : List ℕ) → take pixels (drop (raster_at upload) (kept ++ more)) ≡ take pixels (drop (raster_at upload) kept)
  pixels-kept more =
      ap (take pixels) (drop-append-le (raster_at upload) kept more (omega (arith, kept-long)))
      ∙ take-append-le pixels (drop (raster_at upload) kept) more (omega (arith, kept-long, length-drop (raster_at upload) kept))

  whole : upload ≡ kept ++ drop end upload
  whole = sym (take-append-drop end upload)

  module _ (more : List ℕ) where
    abbrev other : List ℕ
    other = kept ++ more

    abbrev rest : List ℕ
    rest = drop end upload

    header-kept : has_header (kept ++ rest) ≡ true
    header-kept = ap has_header (sym whole) ∙ (accepted upload none).header

    raster-kept : raster_at (kept ++ rest) ≤ length kept
    raster-kept = omega (arith, ap raster_at whole, kept-long)

    pub same-raster : raster_at other ≡ raster_at upload
    same-raster = raster-same kept rest more header-kept raster-kept ∙ ap raster_at (sym whole)

    pub same_width : width_of other ≡ width_of upload
    same_width = width_same kept rest more header-kept raster-kept ∙ ap width_of (sym whole)

    pub same-height : height_of other ≡ height_of upload
    same-height = height-same kept rest more header-kept raster-kept ∙ ap height_of (sym whole)

    pub same-accepted : refusal_of other ≡ 0
    same-accepted =
        let a = accepted upload none in
        accepts other (record {
          header = header-same kept rest more header-kept raster-kept;
          narrow = rw same_width a.narrow;
          low = rw same-height a.low;
          enough = rw (same_width, same-height, same-raster)
              (omega (arith, length-drop (raster_at upload) other, length-append kept more, kept-long));
          full = maxval-same kept rest more header-kept raster-kept ∙ ap maxval_of (sym whole) ∙ a.full;
        })

    pub same-pixels : pixels_in other ≡ pixels_in upload
    unfolding pixels_in
    same-pixels =
        rw (same-accepted, none, same_width, same-height, same-raster)
        (pixels-kept more ∙ sym (pixels-kept rest) ∙ ap (λ (l : List ℕ). take pixels (drop (raster_at upload) l)) (sym whole))
