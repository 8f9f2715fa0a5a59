-- As many bytes as the longest stream has decide what is read. Assumes nothing.
use Prim.Native.Nat.{ℕ, ◌≤◌}
use native.Mathlib.Decide.{dec_lt}
use native.Mathlib.Omega.{arith}
use mathlib.Core.Path.{◌≡◌, sym, ap, ◌∙◌}
use mathlib.Core.List.{List}
use lib.ListN.{length, take, drop, length-take, take-append-drop}
use lib.Seq.{take_all}
use Rattle.stream.specs.Stream.{longest_stream, read_frame}
use Rattle.stream.specs.Wanted.{wanted}
use Rattle.stream.proofs.Decided.{frame-wants}

-- as many bytes want none
pub none-wanted : (s : List ℕ) → longest_stream ≤ length s → wanted s ≡ 0
none-wanted s l =
    elim (dec_lt 0 (wanted s)) [
      | yes p ↦ absurd (let no : ⊥ = omega (arith, (frame-wants s).total p) in no)
      | no g ↦ omega arith
    ]

-- so a buffer of as many bytes is enough for the input
pub frame-prefix : (s : List ℕ) → read_frame (take longest_stream s) ≡ read_frame s
frame-prefix s =
    elim (dec_lt (length s) longest_stream) [
      | yes l ↦ ap read_frame (take_all longest_stream s (omega arith))
      | no g ↦
          let long : longest_stream ≤ length (take longest_stream s) = omega (arith, length-take longest_stream s) in
          sym ((frame-wants (take longest_stream s)).decided (none-wanted (take longest_stream s) long) (drop longest_stream s))
          ∙ ap read_frame (take-append-drop longest_stream s)
    ]
