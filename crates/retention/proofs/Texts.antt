-- Lines written behind each other: a refusal's, and those of a stream as they grow. Assumes nothing.
use Prim.Native.Nat.{ℕ, zero, suc, ◌+◌, ◌-◌, ◌*◌, ◌<◌, ◌≤◌, min}
use native.Mathlib.Decide.{dec_lt}
use native.Mathlib.Omega.{arith}
use mathlib.Core.Path.{◌≡◌, refl, sym, ap, ◌∙◌}
use mathlib.Core.List.{List, [], ◌∷◌, ◌++◌, append_assoc, append-nil}
use lib.ListN.{length, take, drop, length-append, length-drop}
use lib.Seq.{length-take-le}
use borrow.Author.Tests.{le-leb, lt-leb}
use borrow.Rule.Slice.PartMut.{mid_of, put_mid}
use Rattle.lists.proofs.Buffer.{front-take, put-placed}
use Rattle.lists.specs.Buffer.{Written}
use Rattle.lists.specs.declared.refusal.Refusal.{Refusal}
use Rattle.lists.specs.Refusals.{refusal_number, unless}
use Rattle.listing.specs.Text.{newline, decimal, refused_text}
use Rattle.listing.specs.Internal.{Wrote}
use Rattle.listing.proofs.Numbers.{decimal-long}
use Rattle.listing.proofs.Lines.{ended-long}
use Rattle.listing.proofs.Texts.{wrote-first}
use Rattle.listing.proofs.Appending.{wrote-length, wrote-more, wrote_as}
use Rattle.retention.specs.Retention.{letter_of}
use Rattle.retention.specs.Stream.{most_records, longest_input, time_fault, record_fault, state_at, place_of, lines_from, output_of}
use Rattle.retention.specs.Internal.{longest}

-- ---- a refusal

pub number-small : (e : Refusal) → refusal_number e ≤ 20
number-small e = grind arith

-- a number of at most two digits
pub refusal-long : (n : ℕ) → n ≤ 20 → length (refused_text n) ≤ 11
unfolding refused_text
refusal-long n h = omega (arith, ended-long (decimal n) newline, decimal-long 1 n (omega arith))

-- it was written into a text of its own, and is copied from there
module _ (number : ℕ) (small : number ≤ 20) (before : List ℕ) (n : ℕ) (after : List ℕ)
    (w : Written (refused_text number) before n after) where
  pub text-fits : n ≤ length after
  text-fits = omega (arith, w.ends, ap length w.holds ∙ length-append (refused_text number) (drop (length (refused_text number)) before))

  pub text-short : n ≤ 11
  text-short = omega (arith, w.ends, refusal-long number small)

  text-is : take n after ≡ refused_text number
  text-is = ap (take n) w.holds ∙ front-take (refused_text number) before n w.ends

  module _ (out : List ℕ) (at : ℕ) (ample : at + 11 ≤ length out) where
    part-long : length (mid_of at (at + n - at) out) ≡ n
    part-long = let k : at + n - at ≡ n = omega arith in
        rw k (length-take-le n (drop at out) (omega (arith, length-drop at out, text-short)))

    pub part-holds : length (mid_of at (at + n - at) out) ≡ length (take n after)
    part-holds = omega (arith, part-long, length-take-le n after text-fits)

    pub copied : (ys : List ℕ) → ys ≡ take n after → Wrote (refused_text number) at out (at + n) (put_mid at (at + n - at) out ys)
    copied ys copy =
        let is : ys ≡ refused_text number = copy ∙ text-is in
        let k : at + n - at ≡ length (refused_text number) = omega (arith, w.ends) in
        record {
          fits = omega (arith, w.ends, text-short);
          ends = ap (λ (j : ℕ). at + j) w.ends;
          holds = rw is (put-placed at (at + n - at) (refused_text number) out k);
        }

-- ---- the lines of a stream
pub refuses : (fault : ℕ) (lines : List ℕ) → (fault ≡ 0 → ⊥) → unless refused_text fault lines ≡ refused_text fault
refuses zero lines h = absurd (h refl)
refuses (suc fault) lines h = refl

module _ (s : List ℕ) where
  -- one record more: its fault, or its letter
  module _ (n k : ℕ) (some : place_of k < length s) where
    pub line_refused : (fault : ℕ) → fault ≡ record_fault s (place_of k) → (fault ≡ 0 → ⊥) → lines_from s (suc n) k ≡ refused_text fault
    unfolding lines_from
    line_refused fault e h = rw (lt-leb (length s) (place_of k) some, ← e) (refuses fault _ h)

    pub line-letter : record_fault s (place_of k) ≡ 0
        → lines_from s (suc n) k ≡ letter_of (state_at s (place_of k)) ∷ newline ∷ lines_from s n (suc k)
    unfolding lines_from
    line-letter e = rw (lt-leb (length s) (place_of k) some, e)

  -- no record more
  pub lines_none : (k : ℕ) → lines_from s 0 k ≡ []
  unfolding lines_from
  lines_none k = refl

  pub lines_end : (n k : ℕ) → length s ≤ place_of k → lines_from s n k ≡ []
  unfolding lines_from
  lines_end zero k l = refl
  lines_end (suc n) k l = rw (le-leb (length s) (place_of k) l)

  -- the lines of the records before the one at the place `at` are written, up to `end` of the buffer
  pub record Listed (before : List ℕ) (at end : ℕ) (out : List ℕ) : Type 0 where
    pub passed : ℕ
    pub place : at ≡ place_of passed
    pub few : passed ≤ most_records
    pub text : List ℕ
    pub long : length text ≡ 2 * passed
    pub wrote : Wrote text 0 before end out
    pub rest : lines_from s most_records 0 ≡ text ++ lines_from s (most_records - passed) passed

  module _ (before : List ℕ) (at end : ℕ) (out : List ℕ) (l : Listed before at end out) where
    abbrev k : ℕ
    k = l.passed

    listed-end : end ≡ 2 * k
    listed-end = omega (arith, l.wrote.ends, l.long)

    -- all is written: the stream ends, or 65,536 records are read
    pub listed-all : min (length s) longest_input ≤ at → Wrote (lines_from s most_records 0) 0 before end out
    listed-all h = wrote_as (sym (l.rest ∙ ap (λ (t : List ℕ). l.text ++ t) none ∙ append-nil l.text)) l.wrote
      where
        none : lines_from s (most_records - k) k ≡ []
        none =
            elim (dec_lt (place_of k) (length s)) [
              | yes some ↦ let all : most_records - k ≡ 0 = omega (arith, l.place) in ap (λ (n : ℕ). lines_from s n k) all ∙ lines_none k
              | no end ↦ lines_end (most_records - k) k (omega arith)
            ]

    module _ (some : at < min (length s) longest_input) (ample : length before ≡ longest) where
      abbrev left : ℕ
      left = most_records - suc k

      one : most_records - k ≡ suc left
      one = omega (arith, l.place)

      here : place_of k < length s
      here = omega (arith, l.place)

      pub listed-ample : end + 11 ≤ length out
      listed-ample = omega (arith, listed-end, l.place, wrote-length l.wrote, ample)

      pub listed-refused : (fault end' : ℕ) (out' : List ℕ) → fault ≡ record_fault s at → (fault ≡ 0 → ⊥)
          → Wrote (refused_text fault) end out end' out' → Wrote (lines_from s most_records 0) 0 before end' out'
      listed-refused fault end' out' e h w =
          let last = ap (λ (n : ℕ). lines_from s n k) one ∙ line_refused left k here fault (e ∙ ap (record_fault s) l.place) h in
          wrote_as (sym (l.rest ∙ ap (λ (t : List ℕ). l.text ++ t) last)) (wrote-more l.wrote w)

      pub listed_next : (letter end' : ℕ) (out' : List ℕ) → record_fault s at ≡ 0 → letter ≡ letter_of (state_at s at)
          → Wrote (letter ∷ newline ∷ []) end out end' out' → Listed before (at + 9) end' out'
      listed_next letter end' out' e is w =
          let line = ap (λ (n : ℕ). lines_from s n k) one ∙ line-letter left k here (sym (ap (record_fault s) l.place) ∙ e) in
          let same : letter_of (state_at s (place_of k)) ≡ letter = sym (is ∙ ap (λ (p : ℕ). letter_of (state_at s p)) l.place) in
          record {
            passed = suc k;
            place = omega (arith, l.place);
            few = omega (arith, l.place);
            text = l.text ++ (letter ∷ newline ∷ []);
            long = length-append l.text (letter ∷ newline ∷ []) ∙ omega (arith, l.long);
            wrote = wrote-more l.wrote w;
            rest =
                l.rest
                ∙ ap (λ (t : List ℕ). l.text ++ t) (line ∙ ap (λ (v : ℕ). v ∷ newline ∷ lines_from s left (suc k)) same)
                ∙ sym (append_assoc l.text (letter ∷ newline ∷ []) (lines_from s left (suc k)));
          }

-- ---- the promise of `list_holdings`
module _ (s before : List ℕ) (end : ℕ) (after : List ℕ) where
  pub time-refused : (k : ℕ) → k ≡ time_fault s → (k ≡ 0 → ⊥) → Wrote (refused_text k) 0 before end after
      → Written (output_of s) before end after
  unfolding output_of
  time-refused k e h w = rw (← e, refuses k (lines_from s most_records 0) h) (wrote-first w)

  pub lines-written : time_fault s ≡ 0 → Wrote (lines_from s most_records 0) 0 before end after → Written (output_of s) before end after
  unfolding output_of
  lines-written e w = rw e (wrote-first w)
