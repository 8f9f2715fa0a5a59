-- The reader takes back what is written for sides, parameters and pixels without fault, whatever stands behind it. Assumes nothing.
use Prim.Native.Nat.{ℕ, zero, suc, ◌+◌, ◌-◌, ◌*◌, ◌/◌, ◌%◌, ◌≤◌}
use native.Mathlib.Numerals.{one-add}
use native.Mathlib.Decide.{dec_lt}
use native.Mathlib.Omega.{arith}
use mathlib.Core.Path.{◌≡◌, refl, sym, ap, ap₂, ◌∙◌}
use mathlib.Core.Bool.{true, false, not}
use mathlib.Core.List.{List, [], ◌∷◌, ◌++◌, append_assoc, append-nil}
use lib.ListN.{length, take, drop, replicate, length-append, length-take, length-drop, length-replicate, take-append-drop}
use lib.ListN.{drop_of_length-le}
use lib.Seq.{take_at, drop_at, take_all}
use lib.Dec.{eqb}
use borrow.Author.Tests.{eq-eqb, le-ltb}
use Rattle.lists.specs.Places.{any}
use Rattle.stream.specs.declared.Header.{Header}
use Rattle.stream.specs.Stream.{known, body_length, body_of, behind, header_of, records_for}
use Rattle.stream.specs.Stream.{sides_fault, parameters_fault, padding_fault, body_fault, record_fault}
use Rattle.stream.specs.Stream.{Reading, accepted, read_record, read_pixels, read_parameters, read_frame}
use Rattle.stream.specs.RoundTrip.{sides_bytes, parameters_bytes, pixel_bytes, frame_bytes, Accepted}
use Rattle.stream.proofs.Order.{read-sound}

-- ---- a record that is written without fault is read
module _ (kind left : ℕ) (body rest : List ℕ) (next : List ℕ → List ℕ → Reading) where
  pub record-back : known kind ≡ true → length body ≡ body_length kind → body_fault kind left body ≡ 0
      → read_record kind left (kind ∷ (body ++ rest)) next ≡ next body rest
  unfolding record_fault
  record-back k l f =
      let all : body_of kind (kind ∷ (body ++ rest)) ≡ body = take_at body rest (body_length kind) l in
      let enough : body_length kind ≤ length (body ++ rest) = omega (arith, length-append body rest) in
      let none : record_fault kind left (kind ∷ (body ++ rest)) ≡ 0 =
      rw (k, eq-eqb kind kind refl, le-ltb (length (body ++ rest)) (body_length kind) enough, all) f in
      let past : behind kind (kind ∷ (body ++ rest)) ≡ rest = rw (one-add (body_length kind)) (drop_at body rest (body_length kind) l) in
      read-sound kind left (kind ∷ (body ++ rest)) next none ∙ ap₂ next all past

-- ---- numbers
pub number16 : (n : ℕ) → n % 256 + 256 * (n / 256) ≡ n
number16 n = omega arith

pub number32 : (n : ℕ) → n % 65536 + 65536 * (n / 65536) ≡ n
number32 n = omega arith

pub header-back : (h : Header) → header_of (sides_bytes h) (parameters_bytes h) ≡ h
header-back h = simp (number16, number32)

-- ---- the bodies have no fault
module _ (h : Header) where
  pub sides-good : sides_fault h.width h.height ≡ 0 → body_fault 1 0 (sides_bytes h) ≡ 0
  unfolding body_fault
  sides-good e = simp number16 e

  pub parameters-good : parameters_fault h.ring h.window h.centroid_radius h.merge_bits ≡ 0
      → body_fault 2 0 (parameters_bytes h) ≡ 0
  unfolding body_fault
  parameters-good e = simp (number16, number32) e

-- ---- a record of pixels, where those given have not been written yet
module _ (pixels : List ℕ) where
  abbrev pub body : List ℕ
  body = take 32 pixels ++ replicate (32 - length pixels) 0

  pub body-long : length body ≡ 32
  body-long = simp (length-append, length-take, length-replicate) (omega arith)

  padding-none : (n : ℕ) → any (λ v. not (eqb v 0)) (replicate n 0) ≡ false
  padding-none zero = refl
  padding-none (suc n) = padding-none n

  -- those that count, and what stands behind them
  pub record Split : Type 0 where
    pub taken : take (length pixels) body ≡ take 32 pixels
    pub padding : drop (length pixels) body ≡ replicate (32 - length pixels) 0

  whole-body : 32 ≤ length pixels → Split
  whole-body h =
      let none : 32 - length pixels ≡ 0 = omega arith in
      record {
        taken = take_all (length pixels) body (omega (arith, body-long)) ∙ ap (λ (k : ℕ). take 32 pixels ++ replicate k 0) none
            ∙ append-nil (take 32 pixels);
        padding = drop_of_length-le body {i = length pixels} (omega (arith, body-long)) ∙ ap (λ (k : ℕ). replicate k 0) (sym none);
      }

  part_body : length pixels ≤ 32 → Split
  part_body h =
      let all = take_all 32 pixels h in
      record {
        taken = rw all (take_at pixels (replicate (32 - length pixels) 0) (length pixels) refl);
        padding = rw all (drop_at pixels (replicate (32 - length pixels) 0) (length pixels) refl);
      }

  split : Split
  split = elim (dec_lt (length pixels) 32) [
    | yes l ↦ part_body (omega arith)
    | no g ↦ whole-body (omega arith)
  ]

  pixels-good : body_fault 3 (length pixels) body ≡ 0
  unfolding body_fault padding_fault
  pixels-good = rw (split.padding, padding-none (32 - length pixels))

-- ---- all records of pixels, and the end
pub pixels-back : (h : Header) (n left : ℕ) (done pixels rest : List ℕ) → n ≡ records_for left → left ≡ length pixels
    → read_pixels n h left done (pixel_bytes n pixels ++ (4 ∷ rest)) ≡ accepted h (done ++ pixels)
unfolding read_pixels pixel_bytes body_length body_fault
pixels-back h zero left done [] rest e q =
    record-back 4 left [] rest (λ body rest. accepted h done) refl refl refl ∙ ap (accepted h) (sym (append-nil done))
pixels-back h zero left done (p ∷ pixels) rest e q = absurd (let no : ⊥ = omega (arith, q) in no)
pixels-back h (suc n) left done pixels rest e q =
    rw (q, append_assoc (body pixels) (pixel_bytes n (drop 32 pixels)) (4 ∷ rest))
    (record-back 3 (length pixels) (body pixels) (pixel_bytes n (drop 32 pixels) ++ (4 ∷ rest))
    (λ body rest. read_pixels n h (length pixels - 32) (done ++ take (length pixels) body) rest)
    refl
    (body-long pixels)
    (pixels-good pixels)
    ∙ ap (λ (l : List ℕ). read_pixels n h (length pixels - 32) (done ++ l) (pixel_bytes n (drop 32 pixels) ++ (4 ∷ rest)))
    (split pixels).taken
    ∙ pixels-back h n (length pixels - 32) (done ++ take 32 pixels) (drop 32 pixels) rest (omega arith) (sym (length-drop 32 pixels))
    ∙ ap (accepted h) (append_assoc done (take 32 pixels) (drop 32 pixels) ∙ ap (λ (l : List ℕ). done ++ l) (take-append-drop 32 pixels)))

-- ---- the whole stream
pub frame_back : (h : Header) (pixels rest : List ℕ) → Accepted h pixels → read_frame (frame_bytes h pixels ++ rest) ≡ accepted h pixels
unfolding read_frame read_parameters frame_bytes body_length
frame_back h pixels rest good =
    let l = good.long in
    let n = h.width * h.height in
    let written = pixel_bytes (records_for (length pixels)) pixels in
    let behind-sides = (written ++ (4 ∷ [])) ++ rest in
    record-back 1 0 (sides_bytes h) (2 ∷ (parameters_bytes h ++ behind-sides)) read_parameters refl refl (sides-good h good.sides)
    ∙ record-back 2 0 (parameters_bytes h) behind-sides (read_rest (sides_bytes h)) refl refl (parameters-good h good.parameters)
    ∙ ap (λ (k : Header). read_pixels (records_for (k.width * k.height)) k (k.width * k.height) [] behind-sides) (header-back h)
    ∙ ap (λ (t : List ℕ). read_pixels (records_for n) h n [] t)
    (append_assoc written (4 ∷ []) rest ∙ ap (λ (k : ℕ). pixel_bytes (records_for k) pixels ++ (4 ∷ rest)) l)
    ∙ pixels-back h (records_for n) n [] pixels rest refl (sym l)
  where
    read_rest : List ℕ → List ℕ → List ℕ → Reading
    read_rest sides parameters rest =
        let k = header_of sides parameters in
        read_pixels (records_for (k.width * k.height)) k (k.width * k.height) [] rest
