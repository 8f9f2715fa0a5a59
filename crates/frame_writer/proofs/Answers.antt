-- The promise of `write_frame` from what its parts give. Assumes nothing.
use Prim.Native.Nat.{ℕ}
use native.Mathlib.Omega.{arith}
use mathlib.Core.Path.{◌≡◌, sym}
use mathlib.Core.List.{List}
use lib.ListN.{length}
use Rattle.std.specs.Prelude.{Result, Ok, Err}
use Rattle.lists.specs.declared.refusal.Refusal.{Refusal}
use Rattle.lists.specs.Buffer.{front}
use Rattle.lists.specs.Refusals.{judged, result_or}
use Rattle.lists.proofs.Judged.{number-judged, values-judged, refused-stays}
use Rattle.stream.specs.declared.Header.{Header}
use Rattle.stream.specs.RoundTrip.{frame_bytes}
use Rattle.frame_writer.specs.FrameWriter.{refusal_of, FrameWritten}

module _ (h : Header) (pixels out : List ℕ) where
  abbrev number : ℕ
  number = refusal_of h pixels (length out)

  abbrev long : ℕ
  long = length (frame_bytes h pixels)

  written-as : (r : Result ℕ Refusal) (after : List ℕ) → r ≡ judged number long
      → after ≡ result_or number (front (frame_bytes h pixels) out) out
      → FrameWritten h pixels out r after
  unfolding refusal_of
  written-as r after e a = record { answer = e; number = number-judged _ _ e (grind arith); values = values-judged _ _ _ e; out = a }

  pub refused-written : (e : Refusal) → Err e ≡ judged number long → FrameWritten h pixels out (Err e) out
  refused-written e p = written-as (Err e) out p (sym (refused-stays _ _ _ _ _ p))

  pub frame-written : number ≡ 0 → (n : ℕ) (after : List ℕ) → n ≡ long → after ≡ front (frame_bytes h pixels) out
      → FrameWritten h pixels out (Ok n) after
  frame-written z n after l a = written-as (Ok n) after (rw (z, l)) (rw z a)
