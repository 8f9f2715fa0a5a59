-- The text of a corner list as it grows by lines, and the promises from the bytes written. Assumes nothing.
use Prim.Native.Nat.{ℕ, ◌+◌, ◌*◌, ◌^◌, ◌<◌, ◌≤◌}
use native.Mathlib.Omega.{arith}
use mathlib.Core.Path.{◌≡◌, sym, ap, ap₂, ◌∙◌}
use mathlib.Core.List.{List, ◌++◌}
use lib.ListN.{length}
use Rattle.lists.specs.Tab.{tab}
use Rattle.lists.specs.Buffer.{front, Written}
use Rattle.lists.proofs.Tab.{length-tab}
use Rattle.lists.proofs.Buffer.{placed_first}
use Rattle.corner_list.specs.declared.Corner.{Corner}
use Rattle.corner_list.specs.CornerList.{Slices, places_of, corners_of}
use Rattle.std.specs.Prelude.{Ok}
use Rattle.lists.proofs.Judged.{judged-ok}
use Rattle.listing.specs.Text.{fields, line, corners_word, heading, corners_text}
use Rattle.listing.specs.Internal.{longest, Wrote}
use Rattle.listing.specs.Answer.{most_corners, refusal_of, CornersWritten}
use Rattle.listing.proofs.Appending.{wrote-length, wrote-more, wrote_as, wrote_none, wrote-leaves}
use Rattle.listing.proofs.Lines.{line-long, heading-long, lines, lines_more}

-- ---- the lines of the first i of `count` corners behind the heading
pub record Lines (f : ℕ → Corner) (count start : ℕ) (before : List ℕ) (i at : ℕ) (out : List ℕ) : Type 0 where
  pub upto : i ≤ count
  pub wrote : Wrote (lines (tab i f)) start before at out
  pub left : at + 80 * count ≤ length out + 80 * i

-- the heading leaves a place for the longest lines
pub lines_none : (f : ℕ → Corner) (count at : ℕ) (before out : List ℕ) → count ≤ most_corners → length before ≡ longest
    → Wrote (heading corners_word count) 0 before at out → Lines f count at out 0 at out
unfolding tab
lines_none f count at before out h l w =
    let ample = wrote-leaves w 12 (80 * count) (heading-long count h) (omega arith) in
    record { upto = omega arith; wrote = wrote_none at out (omega arith); left = omega arith }

module _ (f : ℕ → Corner) (count start : ℕ) (before : List ℕ) (i at : ℕ) (out : List ℕ) (s : Lines f count start before i at out) where
  pub lines_next : (end : ℕ) (after : List ℕ) (c : Corner) → c.neighbours < 2 ^ 32 → i < count → c ≡ f i
      → Wrote (line (fields c)) at out end after
      → Lines f count start before (i + 1) end after
  lines_next end after c n h e w =
      record {
        upto = omega arith;
        wrote = wrote_as (ap (λ (c : Corner). lines (tab i f) ++ line (fields c)) e ∙ sym (lines_more f i)) (wrote-more s.wrote w);
        left = omega (arith, s.left, w.ends, wrote-length w, line-long c n);
      }

  -- with the heading before them
  pub lines-all : count ≤ i → (first : List ℕ) → Wrote (heading corners_word count) 0 first start before
      → Wrote (corners_text (tab count f)) 0 first at out
  unfolding corners_text
  lines-all h first w =
      let done : i ≡ count = omega (arith, s.upto) in
      wrote_as (ap₂ (λ (n k : ℕ). heading corners_word n ++ lines (tab k f)) (sym (length-tab count f)) done) (wrote-more w s.wrote)

-- ---- the promises
pub wrote-first : {text : List ℕ} {end : ℕ} {before after : List ℕ} → Wrote text 0 before end after → Written text before end after
wrote-first {text} {end} {before} w = record { ends = omega (arith, w.ends); holds = w.holds ∙ placed_first text before }

-- ---- what a caller learns: a text was written, and stands first in the buffer
pub record Listed (b : Slices) (count : ℕ) (before : List ℕ) (end : ℕ) (after : List ℕ) : Type 0 where
  pub ends : end ≡ length (corners_text (corners_of b count))
  pub text : after ≡ front (corners_text (corners_of b count)) before

pub listed : (b : Slices) (count : ℕ) (before : List ℕ) (end : ℕ) (after : List ℕ) → CornersWritten b count before (Ok end) after
    → Listed b count before end after
listed b count before end after w =
    let q = judged-ok (refusal_of (places_of b) count) _ end w.answer in
    record { ends = q.1; text = rw q.0 at w.text }
