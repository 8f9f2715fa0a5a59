-- The answer of `read_frame` from the judged stream. Assumes nothing.
use Prim.Native.Nat.{ℕ, ◌*◌, ◌≤◌}
use native.Mathlib.Nat.{mul-le-mul}
use native.Mathlib.Omega.{arith}
use mathlib.Core.Path.{◌≡◌, refl, sym, ap, ◌∙◌}
use mathlib.Core.List.{List}
use Rattle.lists.specs.Tab.{tab}
use Rattle.lists.specs.Buffer.{front}
use Rattle.stream.specs.declared.Header.{Header}
use Rattle.std.specs.Prelude.{Ok, Err}
use Rattle.lists.specs.declared.refusal.Refusal.{Refusal}
use Rattle.lists.specs.Refusals.{refusal_number, refusal_with, number_of}
use Rattle.lists.proofs.Judged.{with-number}
use Rattle.stream.specs.Stream.{most_pixels, Reading, accepted, refused, read_frame}
use Rattle.stream.specs.Answer.{answer_of, values_of, buffer_after, FrameRead}
use Rattle.stream.specs.Internal.{header_at, pixel_count, pixel_byte, SidesInRange, Judged}
use Rattle.stream.proofs.Order.{unless-faulty}

pub pixels_are : (s : List ℕ) (header : Header) → header ≡ header_at s → header.width * header.height ≡ pixel_count s
unfolding header_at pixel_count
pixels_are s header e = rw e

pub pixels-fit : (s : List ℕ) → SidesInRange s → pixel_count s ≤ most_pixels
unfolding pixel_count
pixels-fit s p = omega (arith, mul-le-mul p.width p.height)

module _ (s d : List ℕ) where
  -- the promise from what is read
  told : (k : Reading) (after : List ℕ) → read_frame s ≡ k → after ≡ buffer_after k d → FrameRead s d (answer_of k) after
  told k after is stands =
      let same : answer_of k ≡ answer_of (read_frame s) = ap answer_of (sym is) in
      record {
        answer = same;
        number = ap number_of same;
        values = ap values_of same;
        pixels = stands ∙ ap (λ r. buffer_after r d) (sym is);
      }

  module _ (n : ℕ) (j : Judged s n) where
    pub refused-read : (e : Refusal) → refusal_number e ≡ n → (n ≡ 0 → ⊥) → FrameRead s d (Err e) d
    refused-read e same h =
        let answer : Err e ≡ answer_of (refused n) = ap Err (sym (with-number e)) ∙ ap (λ (k : ℕ). Err (refusal_with k)) same in
        rw answer (told (refused n) d (j.reading ∙ unless-faulty n _ h) refl)

    pub frame-read : n ≡ 0 → (header : Header) (k : ℕ) (after : List ℕ) → header ≡ header_at s → k ≡ pixel_count s
        → after ≡ front (tab k (pixel_byte s)) d → FrameRead s d (Ok header) after
    frame-read z header k after e q r =
        told (accepted header (tab (pixel_count s) (pixel_byte s))) after (j.reading ∙ rw (z, e))
        (r ∙ ap (λ (k : ℕ). front (tab k (pixel_byte s)) d) q)
