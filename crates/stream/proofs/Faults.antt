-- The numbers that a fault of a stream can have: what holds of them holds of each fault. Assumes nothing.
use Prim.Native.Nat.{ℕ, zero, suc, ◌-◌, ◌*◌, ◌<◌}
use mathlib.Core.Path.{◌≡◌, refl}
use mathlib.Core.Bool.{Bool, true, false, cond, not, ◌||◌}
use mathlib.Core.List.{List, [], ◌∷◌, ◌++◌}
use native.Mathlib.Omega.{arith}
use lib.ListN.{length, take, drop}
use lib.Dec.{ltb, eqb}
use lib.Ieee.{binary32, of_bits}
use Rattle.lists.specs.Places.{any}
use Rattle.lists.specs.Refusals.{unless}
use Rattle.lists.proofs.Judged.{Known}
use Rattle.merge_radius.specs.MergeRadius.{radius_outside}
use Rattle.stream.specs.declared.Header.{Header}
use Rattle.frame_params.specs.Ranges.{range_outside}
use Rattle.stream.specs.Stream.{largest_stream_side, u8, u16, u32, known, body_length, body_of, behind, header_of}
use Rattle.stream.specs.Stream.{Reading, accepted}
use Rattle.stream.specs.Stream.{refused, sides_fault, parameters_fault, padding_fault, body_fault, record_fault, read_record, records_for}
use Rattle.stream.specs.Stream.{read_pixels, read_parameters, read_frame}

module _ (P : ℕ → Type 0) (p0 : P 0) (p1 : P 1) (p3 : P 3) (p5 : P 5) (p6 : P 6) (p7 : P 7) (p11 : P 11) where
  either : (b : Bool) (m n : ℕ) → P m → P n → P (cond b m n)
  either true m n p q = p
  either false m n p q = q

  -- ---- a record's fault
  sides-are : (w h : ℕ) → P (sides_fault w h)
  unfolding sides_fault
  sides-are w h = either (ltb largest_stream_side w || ltb largest_stream_side h) 1 0 p1 p0

  parameters-are : (ring window centroid radius : ℕ) → P (parameters_fault ring window centroid radius)
  unfolding parameters_fault
  parameters-are ring window centroid radius =
      let late : Bool = radius_outside (of_bits binary32 radius) in
      either (range_outside ring window centroid) 3 (cond late 5 0) p3 (either late 5 0 p5 p0)

  padding-is : (left : ℕ) (body : List ℕ) → P (padding_fault left body)
  unfolding padding_fault
  padding-is left body = either (any (λ v. not (eqb v 0)) (drop left body)) 7 0 p7 p0

  body-is : (kind left : ℕ) (body : List ℕ) → P (body_fault kind left body)
  unfolding body_fault
  body-is kind left body =
      let sides = sides_fault (u16 body 0) (u16 body 2) in
      let parameters = parameters_fault (u8 body 0) (u8 body 5) (u8 body 7) (u32 body 8) in
      let padding = padding_fault left body in
      either (eqb kind 1) sides (cond (eqb kind 2) parameters (cond (eqb kind 3) padding 0)) (sides-are (u16 body 0) (u16 body 2))
      (either (eqb kind 2) parameters (cond (eqb kind 3) padding 0) (parameters-are (u8 body 0) (u8 body 5) (u8 body 7) (u32 body 8))
      (either (eqb kind 3) padding 0 (padding-is left body) p0))

  pub record-is : (due left : ℕ) (s : List ℕ) → P (record_fault due left s)
  unfolding record_fault
  record-is due left [] = p7
  record-is due left (kind ∷ rest) =
      let body = body_fault due left (take (body_length due) rest) in
      let short = ltb (length rest) (body_length due) in
      let wrong = not (eqb kind due) in
      either (not (known kind)) 6 (cond wrong 11 (cond short 7 body)) p6
      (either wrong 11 (cond short 7 body) p11 (either short 7 body p7 (body-is due left (take (body_length due) rest))))

  -- ---- a reading: the number that refuses it
  abbrev AllAre : Reading → Type 0
  AllAre r = (n : ℕ) → r ≡ refused n → P n × (0 < n)

  reading-is : (due left : ℕ) (s : List ℕ) (next : List ℕ → List ℕ → Reading) → ((body rest : List ℕ) → AllAre (next body rest))
      → AllAre (read_record due left s next)
  unfolding read_record
  reading-is due left s next f = go (record_fault due left s) (record-is due left s)
    where
      go : (n : ℕ) → P n → AllAre (unless refused n (next (body_of due s) (behind due s)))
      go zero one k e = f (body_of due s) (behind due s) k e
      go (suc n) one k e = let same : suc n ≡ k = cc in rw (← same) (one, omega arith)

  pixels-are : (n : ℕ) (header : Header) (left : ℕ) (pixels s : List ℕ) → AllAre (read_pixels n header left pixels s)
  unfolding read_pixels
  pixels-are zero header left pixels s =
      reading-is 4 left s (λ body rest. accepted header pixels)
      (λ body rest k e. let z : ◌≡◌ {A = ℕ} 0 1 = cc in absurd (let no : ⊥ = omega arith in no))
  pixels-are (suc n) header left pixels s =
      reading-is 3 left s (λ body rest. read_pixels n header (left - 32) (pixels ++ take left body) rest)
      (λ body rest. pixels-are n header (left - 32) (pixels ++ take left body) rest)

  pub frame-is : (s : List ℕ) → AllAre (read_frame s)
  unfolding read_frame read_parameters
  frame-is s =
      reading-is 1 0 s read_parameters (λ sides rest.
      reading-is 2 0 rest _ (λ parameters more.
      let header = header_of sides parameters in
      let n = header.width * header.height in
      pixels-are (records_for n) header n [] more))

-- ---- each is the number of a refusal
pub record-known : (due left : ℕ) (s : List ℕ) → Known (record_fault due left s)
record-known = record-is Known refl refl refl refl refl refl refl

pub frame-known : (s : List ℕ) (n : ℕ) → read_frame s ≡ refused n → Known n × (0 < n)
frame-known = frame-is Known refl refl refl refl refl refl refl
