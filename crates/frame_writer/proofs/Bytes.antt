-- The records of kind 3 byte by byte, and how long a stream is. Assumes nothing.
use Prim.Native.Nat.{ℕ, zero, suc, ◌+◌, ◌-◌, ◌*◌, ◌/◌, ◌%◌, ◌<◌}
use native.Mathlib.Decide.{dec_lt}
use native.Mathlib.Omega.{arith}
use mathlib.Core.Path.{◌≡◌, refl, sym, ap, ap₂, ◌∙◌}
use mathlib.Core.List.{List, [], ◌∷◌, ◌++◌}
use lib.ListN.{length, get_or, take, drop, replicate, length-append, length-take, get_or-append, get_or-eq_default}
use lib.Seq.{ext_get_or, get_or-take, get_or-drop, get_or-append-add, take_all}
use borrow.Author.Tests.{eq-eqb, ne_eqb}
use Rattle.lists.specs.Tab.{tab}
use Rattle.lists.proofs.Tab.{length-tab, get_d-tab, tab-add, tab-ext}
use Rattle.stream.specs.declared.Header.{Header}
use Rattle.stream.specs.Stream.{records_for}
use Rattle.stream.specs.RoundTrip.{pixel_bytes, frame_bytes}
use Rattle.stream.proofs.RoundTrip.{body, body-long}
use Rattle.frame_writer.specs.Internal.{length_of, head_bytes, record_byte}

get_d-zeros : (n k : ℕ) → ◌≡◌ {A = ℕ} (get_or (replicate n 0) k 0) 0
get_d-zeros zero k = refl
get_d-zeros (suc n) zero = refl
get_d-zeros (suc n) (suc k) = get_d-zeros n k

-- ---- one record of kind 3
module _ (pixels : List ℕ) where
  -- its body: behind the last pixel it is 0
  body_at : (k : ℕ) → k < 32 → get_or (body pixels) k 0 ≡ get_or pixels k 0
  body_at k l =
      elim (dec_lt k (length pixels)) [
        | yes p ↦
            get_or-append (take 32 pixels) (replicate (32 - length pixels) 0) 0 k (omega (arith, length-take 32 pixels))
            ∙ get_or-take 32 pixels k 0 l
        | no g ↦
            let whole = take_all 32 pixels (omega arith) in
            let at : k ≡ length pixels + (k - length pixels) = omega arith in
            rw whole
            (ap (λ (i : ℕ). get_or (pixels ++ replicate (32 - length pixels) 0) i 0) at
            ∙ get_or-append-add pixels (replicate (32 - length pixels) 0) (k - length pixels) 0
            ∙ get_d-zeros (32 - length pixels) (k - length pixels)
            ∙ sym (get_or-eq_default pixels 0 {n = k} (omega arith)))
      ]

  first-at : (i : ℕ) → i < 33 → get_or (3 ∷ body pixels) i 0 ≡ record_byte pixels i
  unfolding record_byte
  first-at zero l = refl
  first-at (suc k) l =
      let column : suc k % 33 ≡ suc k = omega arith in
      let place : suc k / 33 * 32 + suc k % 33 - 1 ≡ k = omega arith in
      body_at k (omega arith) ∙ sym (rw (place, column, ne_eqb (suc k) 0 (λ z. let no : ⊥ = omega arith in no)))

  record-first : 3 ∷ body pixels ≡ tab 33 (record_byte pixels)
  record-first =
      let long : length (3 ∷ body pixels) ≡ 33 = omega (arith, body-long pixels) in
      ext_get_or 0 (3 ∷ body pixels) (tab 33 (record_byte pixels)) (long ∙ sym (length-tab 33 (record_byte pixels)))
      (λ i l.
      let k : i < 33 = rw long at l in
      first-at i k ∙ sym (get_d-tab 33 (record_byte pixels) i 0 k))

  -- the records behind it are those of the pixels behind its own
  record-next : (j : ℕ) → record_byte (drop 32 pixels) j ≡ record_byte pixels (33 + j)
  unfolding record_byte
  record-next j =
      let column : (33 + j) % 33 ≡ j % 33 = omega arith in
      elim (dec_lt 0 (j % 33)) [
        | yes p ↦
            let place : (33 + j) / 33 * 32 + j % 33 - 1 ≡ 32 + (j / 33 * 32 + j % 33 - 1) = omega arith in
            rw (column, ne_eqb (j % 33) 0 (λ z. let no : ⊥ = omega arith in no), place)
            (get_or-drop 32 pixels (j / 33 * 32 + j % 33 - 1) 0)
        | no g ↦ rw (column, eq-eqb (j % 33) 0 (omega arith))
      ]

-- ---- all records of kind 3
pub records-are : (n : ℕ) (pixels : List ℕ) → pixel_bytes n pixels ≡ tab (33 * n) (record_byte pixels)
unfolding pixel_bytes tab
records-are zero pixels = refl
records-are (suc n) pixels =
    let more : 33 + 33 * n ≡ 33 * suc n = omega arith in
    ap₂ (λ (s t : List ℕ). s ++ t) (record-first pixels)
    (records-are n (drop 32 pixels)
    ∙ tab-ext (33 * n) (record_byte (drop 32 pixels)) (λ j. record_byte pixels (33 + j)) (λ j l. record-next pixels j))
    ∙ sym (tab-add 33 (33 * n) (record_byte pixels))
    ∙ ap (λ (k : ℕ). tab k (record_byte pixels)) more

pub records-long : (n : ℕ) (pixels : List ℕ) → length (pixel_bytes n pixels) ≡ 33 * n
records-long n pixels = ap length (records-are n pixels) ∙ length-tab (33 * n) (record_byte pixels)

-- ---- the whole stream
pub frame-long : (h : Header) (pixels : List ℕ) → length (frame_bytes h pixels) ≡ length_of (length pixels)
unfolding frame_bytes
frame-long h pixels =
    let records = pixel_bytes (records_for (length pixels)) pixels in
    omega (
      arith,
      length-append (head_bytes h ++ records) (4 ∷ []),
      length-append (head_bytes h) records,
      records-long (records_for (length pixels)) pixels,
    )
