-- What is put into a buffer of just the stream's length makes the stream. Assumes nothing.
use Prim.Native.Nat.{ℕ, ◌-◌, ◌*◌}
use native.Mathlib.Omega.{arith}
use mathlib.Core.Path.{◌≡◌, refl, sym, ap, ◌∙◌}
use mathlib.Core.List.{List, [], ◌∷◌, ◌++◌, append-nil}
use lib.ListN.{length, take, drop, set, length-append, length-take, length-drop, drop_of_length-le}
use borrow.Rule.Slice.PartMut.{put_mid}
use Rattle.lists.specs.Tab.{tab}
use Rattle.lists.specs.Buffer.{front}
use Rattle.lists.proofs.Buffer.{front_length, front-more, front-next, put-placed}
use Rattle.stream.specs.declared.Header.{Header}
use Rattle.stream.specs.Stream.{records_for}
use Rattle.stream.specs.RoundTrip.{pixel_bytes, frame_bytes}
use Rattle.frame_writer.specs.Internal.{length_of, head_bytes, record_byte}
use Rattle.frame_writer.proofs.Bytes.{records-are, records-long}

module _ (h : Header) (pixels out : List ℕ) (l : length out ≡ length_of (length pixels)) where
  abbrev count : ℕ
  count = records_for (length pixels)

  abbrev records : List ℕ
  records = pixel_bytes count pixels

  abbrev last : ℕ
  last = length out - 1

  -- the records of kinds 1 and 2 are copied to its front
  pub head-stands : (head copied : List ℕ) → head ≡ head_bytes h → copied ≡ head → copied ++ drop 22 out ≡ front (head_bytes h) out
  head-stands head copied e c = rw (c, e)

  -- the pixels' records are put behind them, and the end
  pub frame-stands : (s filled : List ℕ) → s ≡ front (head_bytes h) out
      → filled ≡ tab (length (take (last - 22) (drop 22 s))) (record_byte pixels)
      → set (put_mid 22 (last - 22) s filled) last 4 ≡ frame_bytes h pixels
  unfolding frame_bytes
  frame-stands s filled e f =
      let long : length s ≡ length out = ap length e ∙ front_length (head_bytes h) out (omega arith) in
      let part : length (take (last - 22) (drop 22 s)) ≡ 33 * count =
      length-take (last - 22) (drop 22 s) ∙ omega (arith, length-drop 22 s) in
      let is : filled ≡ records = f ∙ ap (λ (k : ℕ). tab k (record_byte pixels)) part ∙ sym (records-are count pixels) in
      let size : length filled ≡ 33 * count = ap length is ∙ records-long count pixels in
      let behind : put_mid 22 (last - 22) s filled ≡ front (head_bytes h ++ records) out =
      put-placed 22 (last - 22) filled s (omega arith)
      ∙ rw (e, is) (front-more (head_bytes h) records out 22 refl) in
      let before-end : last ≡ length (head_bytes h ++ records) = omega
      (arith, length-append (head_bytes h) records, records-long count pixels) in
      let all : drop (length (frame_bytes h pixels)) out ≡ [] =
      drop_of_length-le out {i = length (frame_bytes h pixels)} (omega (arith, length-append (head_bytes h ++ records) (4 ∷ []))) in
      ap (λ (t : List ℕ). set t last 4) behind
      ∙ front-next (head_bytes h ++ records) out last 4 before-end (omega arith)
      ∙ ap (λ (t : List ℕ). frame_bytes h pixels ++ t) all
      ∙ append-nil (frame_bytes h pixels)
