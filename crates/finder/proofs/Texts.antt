-- The text of a frame and of a stream, from the answers of the frame pass, of the reader and of the listing. Assumes nothing.
use Prim.Native.Nat.{ℕ, zero, suc, ◌*◌, ◌≤◌}
use native.Mathlib.Omega.{arith}
use mathlib.Core.Path.{◌≡◌, refl, sym, ◌∙◌}
use mathlib.Core.List.{List}
use lib.ListN.{take}
use borrow.Author.Tests.{le-ltb}
use Rattle.std.specs.Prelude.{Result, Ok, Err}
use Rattle.lists.specs.declared.refusal.Refusal.{Refusal}
use Rattle.lists.specs.Refusals.{refusal_number, unless}
use Rattle.lists.proofs.Judged.{refused-some, refused-above}
use Rattle.corner_list.specs.CornerList.{Slices, places_of}
use Rattle.frame_params.specs.declared.FrameParams.{FrameParams}
use Rattle.patch_corners.specs.OneMap.{computed_choice}
use Rattle.frame.specs.declared.Found.{Found}
use Rattle.frame.specs.Frame.{Buffers, FrameFound}
use Rattle.frame.proofs.Callers.{Finished, finished-tells, refused-tells}
use Rattle.stream.specs.declared.Header.{Header}
use Rattle.stream.specs.Answer.{FrameRead}
use Rattle.stream.proofs.Callers.{FrameStands, frame_found, refusal-found}
use Rattle.listing.specs.Text.{refused_text}
use Rattle.listing.specs.Answer.{most_corners, CornersWritten}
use Rattle.listing.specs.Answer as listing
use Rattle.listing.proofs.Texts.{listed}
use Rattle.finder.specs.Finder.{params_of, program_buffers, frame_text, output_of}
use Rattle.finder.specs.Internal.{Lists}

-- ---- the text of a refusal
pub lists-refused : (text buffer : List ℕ) (e : Refusal) → text ≡ refused_text (refusal_number e) → Lists text buffer (Err e) buffer
lists-refused text buffer e t = record {
  written = λ end p. absurd (let no : ⊥ = grind arith in no);
  refused = λ f p. let same : e ≡ f = grind arith in rw (← same) (t, refl);
}

-- ---- the text of a frame
module _ (h : Header) (pixels : List ℕ) (p : FrameParams) (is : p ≡ params_of h) (b' : Buffers) (before : List ℕ) where
  -- its corners, which are no more than a listing has
  pub frame-lists : (f : Found) → FrameFound (computed_choice p) p pixels h.width h.height program_buffers (Ok f) b'
      → (b : Slices) → b ≡ b'.corners → (r : Result ℕ Refusal) (after : List ℕ) → CornersWritten b f.corners before r after
      → Lists (frame_text h pixels) before r after
  unfolding frame_text
  frame-lists f t b same r after w = record {
    written = λ end e.
        let l = listed b f.corners before end after (rw e at w) in
        rw (← is, finished.number, ← finished.corners, ← same) (record { ends = l.ends; holds = l.text });
    refused = λ e q. absurd (refused-some (listing.refusal_of (places_of b) f.corners) _ e (sym q ∙ w.answer)
        (rw (le-ltb (places_of b) f.corners held, le-ltb most_corners f.corners few)));
  }
    where
      finished : Finished (computed_choice p) p pixels h.width h.height program_buffers f.corners f.ties b'
      finished = finished-tells _ _ _ _ _ _ f b' t

      few : f.corners ≤ most_corners
      few = omega (arith, finished.fits)

      held : f.corners ≤ places_of b
      held = rw same finished.held

  -- or the refusal
  pub frame-refused : (e : Refusal) → FrameFound (computed_choice p) p pixels h.width h.height program_buffers (Err e) b'
      → Lists (frame_text h pixels) before (Err e) before
  unfolding frame_text
  frame-refused e t =
      lists-refused _ before e (rw (← is, refused-tells _ _ _ _ _ _ e b' t) (said (refusal_number e) (refused-above e) _))
    where
      said : (k : ℕ) → (k ≡ 0 → ⊥) → (text : List ℕ) → unless refused_text k text ≡ refused_text k
      said zero z text = absurd (z refl)
      said (suc k) z text = refl

-- ---- the text of a stream
module _ (input buffer : List ℕ) (after : List ℕ) where
  module _ (h : Header) (r : FrameRead input buffer (Ok h) after) where
    pub found-frame : FrameStands input buffer h after
    found-frame = frame_found input buffer h after r

    pub stream-lists : (before : List ℕ) (a : Result ℕ Refusal) (out : List ℕ)
        → Lists (frame_text h (take (h.width * h.height) after)) before a out
        → Lists (output_of input) before a out
    unfolding output_of
    stream-lists before a out w = rw found-frame.reading w

  pub stream-refused : (e : Refusal) → FrameRead input buffer (Err e) after → (before : List ℕ)
      → Lists (output_of input) before (Err e) before
  unfolding output_of
  stream-refused e r before = lists-refused _ before e (rw (refusal-found input buffer e after r).0)
