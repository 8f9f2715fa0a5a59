-- From the round trip of `stream`, and from the laws of `frame_writer` on what is not refused. Assumes nothing.
use Prim.Native.Nat.{ℕ, ◌+◌, ◌*◌, ◌<◌, ◌≤◌}
use native.Mathlib.Omega.{arith}
use mathlib.Core.Path.{◌≡◌, sym, ap, ◌∙◌}
use mathlib.Core.List.{List, [], ◌∷◌, ◌++◌}
use lib.ListN.{length, get_or, take}
use lib.Seq.{get_or-take}
use lib.Dec.{ltb}
use borrow.Author.Tests.{lt-ltb, le-ltb}
use Rattle.lists.specs.Places.{All}
use Rattle.lists.specs.Refusals.{lowest}
use Rattle.lists.proofs.Buffer.{front-take}
use Rattle.stream.specs.declared.Header.{Header}
use Rattle.std.specs.Prelude.{Result, Ok, Err}
use Rattle.lists.specs.declared.refusal.Refusal.{Refusal}
use Rattle.lists.specs.declared.refusal.Refusal.TheVariants.{StreamTooLong}
use Rattle.lists.specs.Refusals.{judged}
use Rattle.stream.specs.Stream.{records_for, accepted, read_frame}
use Rattle.stream.proofs.Callers.{reading_of, reading-is}
use Rattle.stream.specs.RoundTrip.{frame_bytes}
use Rattle.stream.proofs.RoundTrip.{frame_back}
use Rattle.stream.proofs.Accepted.{accepted_good, accepted_only}
use Rattle.frame_writer.specs.FrameWriter.{refusal_of}
use Rattle.frame_writer.proofs.Bytes.{frame-long}
use Rattle.frame_writer.proofs.Accepting.{read_number}
use Rattle.frame_writer.proofs.Callers.{ends-with-4, stream-stands, stream-written}
use Rattle.demands.specs.Writing.{WriteCall, ReadCall, Returns, ReadBack, end_of, Rewritten, WrittenBack}

-- ---- read back

-- an answer that says a frame of a stream is that frame
says : (a : Result Header Refusal) (after : List ℕ) (h : Header) (pixels : List ℕ) → reading_of a after ≡ accepted h pixels
    → (a ≡ Ok h) × (take (h.width * h.height) after ≡ pixels)
says (Ok k) after h pixels e =
    let same : k ≡ h = cc in
    let stands : take (k.width * k.height) after ≡ pixels = cc in
    (ap Ok same, ap (λ (j : Header). take (j.width * j.height) after) (sym same) ∙ stands)
says (Err f) after h pixels e = absurd (let no : ⊥ = grind arith in no)

pub read_back : ReadBack
read_back w n e rest r i =
    let written = stream-written w.header w.pixels w.before w.answer w.after w.promise n e in
    let bytes : take n w.after ≡ frame_bytes w.header w.pixels =
    ap (take n) written.stands ∙ front-take (frame_bytes w.header w.pixels) w.before n written.long in
    let reading : read_frame r.input ≡ accepted w.header w.pixels =
    ap read_frame (i ∙ ap (λ (s : List ℕ). s ++ rest) bytes) ∙ frame_back w.header w.pixels rest written.good in
    let p = says r.answer r.after w.header w.pixels
    (reading-is r.input r.before r.answer r.after r.promise ∙ reading) in
    record { header = p.0; pixels_are = p.1 }

-- ---- written back
module _ (r : ReadCall) (w : WriteCall) (s : Returns r w.header w.pixels) (b : All (λ v. v < 256) r.input) where
  abbrev h : Header
  h = w.header

  abbrev bytes : List ℕ
  bytes = frame_bytes h w.pixels

  reading : read_frame r.input ≡ accepted h w.pixels
  reading =
      sym (reading-is r.input r.before r.answer r.after r.promise)
      ∙ ap (λ (a : Result Header Refusal). reading_of a r.after) s.header
      ∙ ap (accepted h) s.pixels_are

  -- the stream's length is that of its sides
  bytes-long : length bytes ≡ end_of h + 1
  bytes-long =
      frame-long h w.pixels
      ∙ ap (λ (n : ℕ). 23 + 33 * records_for n) (accepted_good r.input h w.pixels reading).long
      ∙ omega arith

  number : refusal_of h w.pixels (length w.before) ≡ lowest ((ltb (length w.before) (length bytes), 19) ∷ [])
  number = read_number h w.pixels (length w.before) r.input reading b

  answers : (n : ℕ) → refusal_of h w.pixels (length w.before) ≡ n
      → w.answer ≡ judged n (length bytes)
  answers n e = w.promise.answer ∙ ap (λ (k : ℕ). judged k (length bytes)) e

  long : end_of h < length w.before → Rewritten r w (end_of h)
  long l =
      let none : refusal_of h w.pixels (length w.before) ≡ 0 =
      number ∙ rw (le-ltb (length w.before) (length bytes) (omega (arith, bytes-long))) in
      let stands = stream-stands h w.pixels w.before w.answer w.after w.promise none in
      let only : take (end_of h + 1) r.input ≡ bytes =
      ap (λ (n : ℕ). take n r.input) (sym bytes-long) ∙ accepted_only r.input h w.pixels reading b in
      record {
        kind_4 =
            sym (get_or-take (end_of h + 1) r.input (end_of h) 0 (omega arith))
            ∙ ap (λ (t : List ℕ). get_or t (end_of h) 0) only
            ∙ ends-with-4 h w.pixels (end_of h) (sym bytes-long);
        answer = answers 0 none ∙ ap Ok bytes-long;
        same = ap (take (end_of h + 1)) stands ∙ front-take bytes w.before (end_of h + 1) (sym bytes-long) ∙ sym only;
      }

  short : length w.before ≤ end_of h → w.answer ≡ Err StreamTooLong
  short l = answers 19 (number ∙ rw (lt-ltb (length w.before) (length bytes) (omega (arith, bytes-long))))

pub written_back : WrittenBack
written_back = record { long = long; short = short }
