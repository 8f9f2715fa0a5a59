-- From the numbers of the reader and of the frame, and from `pass_same` of frame_pass. Assumes nothing.
use Prim.Native.Nat.{ℕ, zero, suc, ◌+◌, ◌*◌, ◌%◌, ◌<◌, ◌≤◌, ◌/◌}
use native.Mathlib.Nat.{mul-le-mul}
use native.Mathlib.Omega.{arith}
use mathlib.Core.Path.{◌≡◌, refl, sym, ap, ◌∙◌}
use mathlib.Core.Logic.{◌⊎◌, inl, inr}
use mathlib.Core.Bool.{Bool, not}
use mathlib.Core.List.{List, [], ◌∷◌, ◌++◌}
use lib.ListN.{length, get_or}
use borrow.Author.Tests.{lt-ltb, le-ltb, eq-eqb}
use Rattle.lists.specs.Limits.{largest_side}
use Rattle.lists.specs.Refusals.{lowest, unless}
use Rattle.pyramid_levels.specs.Levels.{level_count, cells_above}
use Rattle.pyramid_levels.proofs.Cells.{cells-le}
use Rattle.merge_radius.specs.MergeRadius.{radius_outside}
use Rattle.patch_corners.specs.OneMap.{computed_choice}
use Rattle.frame_params.specs.Ranges.{parameters_fit}
use Rattle.frame_pass.specs.Refusals.{conditions}
use Rattle.frame_pass.specs.Pass.{Pass, frame_pass}
use Rattle.frame_pass.proofs.Same.{pass_same}
use Rattle.frame.specs.Frame.{too_many, refusal_of}
use Rattle.stream.specs.declared.Header.{Header}
use Rattle.stream.specs.Stream.{most_pixels, Reading, accepted, refused, read_frame}
use Rattle.stream.proofs.Order.{small-sides}
use Rattle.stream.proofs.Accepted.{accepted_good, round_trip}
use Rattle.stream.proofs.Meaning.{Open}
use Rattle.stream.proofs.Decided.{frame-wants}
use Rattle.stream.proofs.Prefix.{frame-prefix}
use Rattle.listing.specs.Text.{corners_text, decimal, refused_text}
use Rattle.listing.proofs.Numbers.{places-one}
use Rattle.finder.specs.Finder.{params_of, program_buffers, frame_text, reading_text, output_of}
use Rattle.demands.specs.Program.{ProgramReads, ProgramUndecided, ProgramDecided, PrintsCorners, PrintsRefusal, ProgramTotal}
use Rattle.demands.specs.Program.{ProgramExact, ProgramStreams}
use Rattle.demands.proofs.Tables.{widen, numbered-one}
use Rattle.demands.proofs.Faults.{frame-few}

pub program_reads : ProgramReads
unfolding output_of
program_reads input = ap reading_text (frame-prefix input)

-- ---- what decides the output

-- the digit that a refusal's text has behind its word
digit-is : (n : ℕ) → n < 10 → get_or (refused_text n) 8 0 ≡ 48 + n
unfolding refused_text decimal
digit-is n l =
    let small : n % 10 ≡ n = omega arith in
    rw (places-one n n l, small, lt-ltb n 10 l)

undecided : (input : List ℕ) → Open read_frame input → ProgramUndecided input
unfolding output_of
undecided input o = record {
  more = o.more;
  bytes = o.bytes;
  differs = λ e.
      let texts : refused_text o.number ≡ refused_text 7 = sym (ap reading_text o.refusal) ∙ e ∙ ap reading_text o.cut in
      let digits = sym (digit-is o.number (omega (arith, o.other))) ∙ ap (λ (s : List ℕ). get_or s 8 0) texts
      ∙ digit-is 7 (omega arith) in
      let no : ⊥ = omega (arith, o.other) in
      no;
}

pub program_decided : ProgramDecided
unfolding output_of
program_decided input =
    let w = frame-wants input in
    record { decided = λ z t. ap reading_text (w.decided z t); undecided = λ t l. undecided (input ++ t) (w.fewer t l); most = w.total }

module _ (input : List ℕ) where
  -- ---- a frame that was read
  module _ (h : Header) (pixels : List ℕ) (r : read_frame input ≡ accepted h pixels) where
    abbrev found : Pass
    found = frame_pass (params_of h) pixels h.width h.height (computed_choice (params_of h))

    abbrev number : ℕ
    number = refusal_of (computed_choice (params_of h)) (params_of h) pixels h.width h.height program_buffers

    -- what can be refused: the program's buffers are large enough for what the reader accepts
    abbrev table : List (Bool × ℕ)
    table =
        (not (parameters_fit (params_of h)), 3)
        ∷ (radius_outside (params_of h).merge_radius, 5)
        ∷ (too_many found program_buffers, 10)
        ∷ []

    number_is : number ≡ lowest table
    unfolding refusal_of conditions
    number_is =
        let good = accepted_good input h pixels r in
        let small = small-sides h.width h.height good.sides in
        let most : h.width * h.height ≤ most_pixels = omega (arith, mul-le-mul small.0 small.1) in
        let n = level_count h.width h.height h.levels h.minimum_side in
        rw (
          le-ltb largest_side h.width (omega (arith, small.0)),
          le-ltb largest_side h.height (omega (arith, small.1)),
          eq-eqb (length pixels) (h.width * h.height) good.long,
          le-ltb most_pixels (h.width * h.height) most,
          le-ltb (most_pixels / 3) (cells_above h.width h.height n) (omega (arith, cells-le h.width h.height n, most)),
        )

    printed : (n : ℕ) → number ≡ n → output_of input ≡ unless refused_text n (corners_text found.corners)
    unfolding output_of frame_text
    printed n e = rw (r, e)

    by_number : (n : ℕ) → number ≡ n → PrintsCorners input ⊎ PrintsRefusal input
    by_number zero e = inl (record { header = h; pixels = pixels; reading = r; finished = e; prints = printed 0 e })
    by_number (suc n) e =
        let one = numbered-one table (suc n) (sym e ∙ number_is) (omega arith) in
        inr (record {
          number = suc n;
          numbered = widen (suc n) (3 ∷ 5 ∷ 10 ∷ []) (1 ∷ 3 ∷ 5 ∷ 6 ∷ 7 ∷ 10 ∷ 11 ∷ []) refl one;
          prints = printed (suc n) e;
        })

  by-reading : (r : Reading) → read_frame input ≡ r → PrintsCorners input ⊎ PrintsRefusal input
  unfolding output_of
  by-reading (accepted h pixels) e = by_number h pixels e (number h pixels e) refl
  by-reading (refused n) e =
      inr (record {
        number = n;
        numbered = widen n (1 ∷ 3 ∷ 5 ∷ 6 ∷ 7 ∷ 11 ∷ []) (1 ∷ 3 ∷ 5 ∷ 6 ∷ 7 ∷ 10 ∷ 11 ∷ []) refl (frame-few input n e);
        prints = ap reading_text e;
      })

pub program_total : ProgramTotal
program_total input = by-reading input (read_frame input) refl

pub program_exact : ProgramExact
program_exact input l alike =
    l.prints ∙ ap (λ (q : Pass). corners_text q.corners)
    (pass_same (params_of l.header) l.pixels l.header.width l.header.height alike)

-- ---- streams
pub program_streams : ProgramStreams
program_streams = round_trip
