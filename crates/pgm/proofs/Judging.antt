-- The refusals by the fields as they were read, and what is true of an upload that is accepted. Assumes nothing.
use Prim.Native.Nat.{ℕ, ◌+◌, ◌-◌, ◌*◌, ◌<◌, ◌≤◌}
use native.Mathlib.Decide.{dec_lt}
use native.Mathlib.Nat.{mul-le-mul}
use native.Mathlib.Omega.{arith}
use mathlib.Core.Path.{◌≡◌, refl, sym, ap, ap₂, ◌∙◌}
use mathlib.Core.Bool.{Bool, true, false, not, ◌&&◌, ◌||◌}
use mathlib.Core.List.{List, [], ◌∷◌}
use lib.Dec.{ltb, eqb}
use lib.ListN.{length, take, drop, length-drop}
use lib.Seq.{length-take-le}
use borrow.Author.Tests.{ltb-false, lt-ltb, le-ltb, eqb-true, eq-eqb, ne_eqb, not-false}
use Rattle.lists.specs.Limits.{largest_side, largest_map}
use Rattle.lists.specs.Refusals.{judged, lowest, is_large}
use Rattle.lists.proofs.Tests.{and_parts, and_none, or-neither}
use Rattle.lists.proofs.Refusals.{lowest-none, sides-small}
use Rattle.std.specs.Prelude.{Result, Ok, Err}
use Rattle.lists.specs.declared.refusal.Refusal.{Refusal}
use Rattle.lists.specs.declared.refusal.Refusal.TheVariants.{SideTooLarge, HeaderUnread, WrongMaxval}
use Rattle.lists.proofs.Judged.{number-judged, values-judged, judged-ok, refused-some}
use Rattle.pgm.specs.declared.PgmImage.{PgmImage}
use Rattle.pgm.specs.declared.header.Number.{Number}
use Rattle.pgm.specs.declared.header.Sides.{Sides}
use Rattle.std.specs.Prelude.{Some}
use Rattle.pgm.specs.Header.{is_space, bare, begins, field_of, width_field, height_field, maxval_field}
use Rattle.pgm.specs.Header.{has_magic, has_sides, has_header, width_of, height_of, maxval_of, raster_at}
use Rattle.pgm.specs.Pgm.{conditions, refusal_of, pixels_in, image_of, PgmRead}
use Rattle.pgm.specs.Internal.{capped, bare_from, Reaches, NumberHere, SidesHere, MaxvalHere, behind_sides, has_maxval}
use Rattle.pgm.proofs.Scanning.{first-at}
use Rattle.pgm.proofs.Fields.{field-from, Within, all_rest, bare-within, first-within}
use Rattle.pgm.proofs.Numbers.{large-capped, maxval-capped}

-- ---- numbers that are kept up to 65,536 give the same refusal

-- the conditions on an upload by what is known about it, with a given number of bytes after its header
abbrev pub conditions_by : Bool → Bool → ℕ → ℕ → ℕ → ℕ → List (Bool × ℕ)
conditions_by sides header w h maxval left =
    (sides && is_large w h, 1) ∷ (not header || ltb left (w * h), 12) ∷ (not (eqb maxval 255), 13) ∷ []

is_large-capped : (w h : ℕ) → is_large (capped w) (capped h) ≡ is_large w h
is_large-capped w h = ap₂ (λ (a b : Bool). a || b) (large-capped w) (large-capped h)

module _ (w h maxval left left' : ℕ) where
  pub judged-same : (sides header : Bool) → (header ≡ true → sides ≡ true) → (header ≡ true → left' ≡ left)
      → lowest (conditions_by sides header (capped w) (capped h) (capped maxval) left')
      ≡ lowest (conditions_by sides header w h maxval left)
  judged-same false true s l = absurd (let no : ◌≡◌ {A = Bool} false true = s refl in let z : ◌≡◌ {A = ℕ} 0 1 = cc in omega arith)
  judged-same false false s l = refl
  judged-same true header s l = rw (is_large-capped w h) (go (is_large w h) refl header l)
    where
      go : (large : Bool) → is_large w h ≡ large → (header : Bool) → (header ≡ true → left' ≡ left)
          → lowest ((large, 1) ∷ (not header || ltb left' (capped w * capped h), 12) ∷ (not (eqb (capped maxval) 255), 13) ∷ [])
          ≡ lowest ((large, 1) ∷ (not header || ltb left (w * h), 12) ∷ (not (eqb maxval 255), 13) ∷ [])
      go true e header l = refl
      go false e false l = refl
      go false e true l =
          let small = sides-small w h e in
          let cw : capped w ≡ w = omega arith in
          let ch : capped h ≡ h = omega arith in
          rw (cw, ch, maxval-capped maxval, l refl)

-- ---- an upload that is accepted
pub record Accepted (upload : List ℕ) : Type 0 where
  pub header : has_header upload ≡ true
  pub narrow : width_of upload ≤ largest_side
  pub low : height_of upload ≤ largest_side
  pub enough : width_of upload * height_of upload ≤ length (drop (raster_at upload) upload)
  pub full : maxval_of upload ≡ 255

pub accepted : (upload : List ℕ) → refusal_of upload ≡ 0 → Accepted upload
unfolding refusal_of conditions
accepted upload e =
    let w = width_of upload in
    let h = height_of upload in
    let left = length (drop (raster_at upload) upload) in
    let short : Bool = not (has_header upload) || ltb left (w * h) in
    let last : List (Bool × ℕ) = (not (eqb (maxval_of upload) 255), 13) ∷ [] in
    let first = lowest-none (has_sides upload && is_large w h) 1 ((short, 12) ∷ last) (omega arith) e in
    let second = lowest-none short 12 last (omega arith) first.1 in
    let third = lowest-none (not (eqb (maxval_of upload) 255)) 13 [] (omega arith) second.1 in
    let whole = or-neither (not (has_header upload)) (ltb left (w * h)) second.0 in
    let header = not-false (has_header upload) whole.0 in
    let sides = (and_parts (has_sides upload) _ header).0 in
    let small = sides-small w h (rw sides at first.0) in
    record {
      header = header;
      narrow = small.0;
      low = small.1;
      enough = ltb-false left (w * h) whole.1;
      full = eqb-true (maxval_of upload) 255 (not-false (eqb (maxval_of upload) 255) third.0);
    }

pub accepts : (upload : List ℕ) → Accepted upload → refusal_of upload ≡ 0
unfolding refusal_of conditions
accepts upload a =
    rw (
      a.header,
      (and_parts (has_sides upload) _ a.header).0,
      le-ltb largest_side (width_of upload) a.narrow,
      le-ltb largest_side (height_of upload) a.low,
      le-ltb (length (drop (raster_at upload) upload)) (width_of upload * height_of upload) a.enough,
      eq-eqb (maxval_of upload) 255 a.full,
    )

-- ---- an upload of fewer than two bytes has no magic number
pub magic-short : (upload : List ℕ) → length upload < 2 → has_magic upload ≡ false
magic-short [] l = refl
magic-short (a ∷ []) l = and_none (eqb a 80)
magic-short (a ∷ b ∷ cs) l = absurd (let no : ⊥ = omega arith in no)

-- ---- the parts of the header, as they are read
module _ (upload : List ℕ) where
  abbrev w : ℕ
  w = width_of upload

  abbrev h : ℕ
  h = height_of upload

  -- the maxval, and the whitespace character before the raster
  pub maxval-read : (from : ℕ) → Reaches upload (behind_sides upload) from → (n : Number)
      → NumberHere upload (field_of (bare_from upload from)).there (field_of (bare_from upload from)).number
      (field_of (bare_from upload from)).rest n
      → begins is_space (bare_from upload n.end) ≡ true
      → MaxvalHere upload (record { value = n.value; end = n.end + 1 })
  maxval-read from reached n r space =
      let field = field-from upload (behind_sides upload) from reached (Some n) r in
      let one : begins is_space (maxval_field upload).rest ≡ true = ap (begins is_space) (sym field.end.same) ∙ space in
      let place = first-at upload is_space (maxval_field upload).rest n.end field.end one in
      record { there = rw (field.there_is, one); value = field.value; end = sym place.0; inside = omega (arith, place.1) }

  read-as : (r : Result PgmImage Refusal) → r ≡ judged (refusal_of upload) (image_of upload) → PgmRead upload r
  unfolding refusal_of conditions
  read-as r e = record { answer = e; number = number-judged _ _ e (grind arith); values = values-judged _ _ _ e }

  -- the refusal by the fields as the code keeps them
  by-fields : (left : ℕ) → (has_header upload ≡ true → left ≡ length (drop (raster_at upload) upload))
      → refusal_of upload
      ≡ lowest (conditions_by (has_sides upload) (has_header upload) (capped w) (capped h) (capped (maxval_of upload)) left)
  unfolding refusal_of conditions
  by-fields left e =
      sym (judged-same w h (maxval_of upload) (length (drop (raster_at upload) upload)) left (has_sides upload) (has_header upload)
      (λ z. (and_parts (has_sides upload) _ z).0) e)

  -- the sides cannot be read
  pub sides-none : has_sides upload ≡ false → PgmRead upload (Err HeaderUnread)
  unfolding refusal_of conditions
  sides-none e = read-as _ (rw e)

  module _ (s : Sides) (sides : SidesHere upload s) where
    -- a side is too large
    pub sides-large : is_large s.w s.h ≡ true → PgmRead upload (Err SideTooLarge)
    sides-large large =
        read-as _ (rw (by-fields _ (λ z. refl), sides.there, ← sides.width, ← sides.height, large))

    module _ (small : is_large s.w s.h ≡ false) where
      fits : is_large w h ≡ false
      fits = sym (is_large-capped w h) ∙ rw (← sides.width, ← sides.height) small

      width-is : s.w ≡ w
      width-is = omega (arith, (sides-small w h fits).0, sides.width)

      height-is : s.h ≡ h
      height-is = omega (arith, (sides-small w h fits).1, sides.height)

      pub few : s.w * s.h ≤ largest_map
      few = mul-le-mul (sides-small s.w s.h small).0 (sides-small s.w s.h small).1

      -- the maxval cannot be read
      pub maxval-none : has_maxval upload ≡ false → PgmRead upload (Err HeaderUnread)
      maxval-none e =
          read-as _ (rw (by-fields _ (λ z. refl), sides.there, ← sides.width, ← sides.height, small, e))

      module _ (n : Number) (maxval : MaxvalHere upload n) where
        left : length upload - n.end ≡ length (drop (raster_at upload) upload)
        left = rw (length-drop (raster_at upload) upload, maxval.end) refl

        -- fewer bytes than pixels
        pub pixels-short : length upload - n.end < s.w * s.h → PgmRead upload (Err HeaderUnread)
        pixels-short l =
            let few = lt-ltb (length upload - n.end) (s.w * s.h) l in
            read-as _ (rw (by-fields _ (λ z. left), sides.there, ← sides.width, ← sides.height, small, maxval.there, few))

        module _ (enough : s.w * s.h ≤ length upload - n.end) where
          -- another maxval
          pub maxval-other : (n.value ≡ 255 → ⊥) → PgmRead upload (Err WrongMaxval)
          maxval-other other =
              let many = le-ltb (length upload - n.end) (s.w * s.h) enough in
              let unlike = ne_eqb n.value 255 other in
              read-as _
              (rw (by-fields _ (λ z. left), sides.there, ← sides.width, ← sides.height, ← maxval.value, small, maxval.there, many, unlike))

          pub pixels-read : n.value ≡ 255 → PgmRead upload (Ok (record { at = n.end; w = s.w; h = s.h }))
          pixels-read full =
              let none = accepts upload (record {
                header = rw sides.there maxval.there;
                narrow = (sides-small w h fits).0;
                low = (sides-small w h fits).1;
                enough = omega (arith, enough, left, ap₂ (λ (a b : ℕ). a * b) width-is height-is);
                full = omega (arith, maxval.value, full);
              }) in
              read-as _ (rw (none, maxval.end, width-is, height-is))

-- ---- an answer, taken apart

-- the pixels: where they are, and that they lie in the upload
pub record Located (upload : List ℕ) (at w h : ℕ) : Type 0 where
  pub none : refusal_of upload ≡ 0
  pub place : at ≡ raster_at upload
  pub width : w ≡ width_of upload
  pub height : h ≡ height_of upload
  pub small : w * h ≤ largest_map
  pub inside : at + w * h ≤ length upload

module _ (upload : List ℕ) where
  pub raster-inside : has_header upload ≡ true → raster_at upload ≤ length upload
  raster-inside e =
      let sides = and_parts (has_sides upload) _ e in
      let magic = (and_parts (has_magic upload) _ sides.0).0 in
      let space = (and_parts (maxval_field upload).there (begins is_space (maxval_field upload).rest) sides.1).1 in
      let end = 2 + length (drop 2 upload) in
      let in_rest = all_rest (Within 2 end) in
      elim (dec_lt (length upload) 2) [
        | yes l ↦ absurd (let none = magic-short upload l in let z : ◌≡◌ {A = ℕ} 0 1 = cc in let no : ⊥ = omega arith in no)
        | no g ↦
            omega (
              arith,
              length-drop 2 upload,
              (first-within is_space 2 end (maxval_field upload).rest space
                  (in_rest (height_field upload).rest
                  (in_rest (width_field upload).rest (in_rest (bare false 2 (drop 2 upload)) (bare-within false 2 (drop 2 upload)))))).1,
            )
      ]

  pub located : (i : PgmImage) → PgmRead upload (Ok i) → Located upload i.at i.w i.h
  located i r =
      let q = judged-ok (refusal_of upload) (image_of upload) i r.answer in
      let a = accepted upload q.0 in
      rw q.1
      (record {
        none = q.0;
        place = refl;
        width = refl;
        height = refl;
        small = mul-le-mul a.narrow a.low;
        inside = omega (arith, a.enough, length-drop (raster_at upload) upload, raster-inside a.header);
      })

  pub located-pixels : (at w h : ℕ) → Located upload at w h → take (at + w * h - at) (drop at upload) ≡ pixels_in upload
  unfolding pixels_in
  located-pixels at w h l =
      let k : at + w * h - at ≡ w * h = omega arith in
      rw (k, l.none, l.place, l.width, l.height)

  pub refused-pixels : (e : Refusal) → PgmRead upload (Err e) → [] ≡ pixels_in upload
  unfolding pixels_in
  refused-pixels e r = rw (ne_eqb (refusal_of upload) 0 (refused-some _ _ e r.answer))

  -- how many pixels there are
  pub pixels-length : refusal_of upload ≡ 0 → length (pixels_in upload) ≡ width_of upload * height_of upload
  unfolding pixels_in
  pixels-length e = rw e (length-take-le (width_of upload * height_of upload) (drop (raster_at upload) upload) (accepted upload e).enough)
