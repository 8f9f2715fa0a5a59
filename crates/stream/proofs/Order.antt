-- The order of the records: where the reader stands behind each, what it has then read and wants, and what the next record makes of it.
-- Assumes nothing.
use Prim.Native.Nat.{ℕ, zero, suc, ◌+◌, ◌-◌, ◌*◌, ◌<◌, ◌≤◌}
use native.Mathlib.Nat.{eq-zero-or-pos}
use native.Mathlib.Omega.{arith}
use mathlib.Core.Path.{◌≡◌, refl, sym, ap, ap₂, ◌∙◌}
use mathlib.Core.Logic.{⊎_elim}
use mathlib.Core.Bool.{cond, ◌||◌}
use mathlib.Core.List.{List, [], ◌∷◌, ◌++◌}
use lib.ListN.{length, take, drop, length-drop}
use lib.Seq.{drop-drop}
use lib.Dec.{eqb, ltb}
use borrow.Author.Tests.{ne_eqb, ltb-false}
use Rattle.lists.specs.Tab.{tab}
use Rattle.std.specs.Prelude.{Result, Ok}
use Rattle.lists.specs.declared.refusal.Refusal.{Refusal}
use Rattle.lists.specs.Refusals.{number_of, unless}
use Rattle.lists.proofs.Tests.{or-neither}
use Rattle.lists.proofs.Refusals.{lowest-none}
use Rattle.stream.specs.declared.Header.{Header}
use Rattle.stream.specs.Stream.{largest_stream_side, u16, body_length, body_of, behind, header_of, records_for, sides_fault, body_fault}
use Rattle.stream.specs.Stream.{record_fault}
use Rattle.stream.specs.Stream.{Reading, accepted, refused, read_record, read_pixels, read_parameters, read_frame}
use Rattle.stream.specs.Wanted.{wanted_here, wanted_record, wanted_pixels, wanted_parameters, wanted}
use Rattle.stream.specs.Internal.{due, header_at, pixel_count, pixel_byte, left_after, SidesInRange, Judged, Stopped}
use Rattle.stream.proofs.Records.{sound}
use Rattle.stream.proofs.PixelPlaces.{one_fewer, pixels-more}

-- ---- a record that is read: its fault, or what follows
pub unless-faulty : (fault : ℕ) (next : Reading) → (fault ≡ 0 → ⊥) → unless refused fault next ≡ refused fault
unless-faulty zero next h = absurd (h refl)
unless-faulty (suc n) next h = refl

module _ (kind left : ℕ) (s : List ℕ) (next : List ℕ → List ℕ → Reading) where
  pub read-faulty : (record_fault kind left s ≡ 0 → ⊥) → read_record kind left s next ≡ refused (record_fault kind left s)
  unfolding read_record
  read-faulty h = unless-faulty (record_fault kind left s) (next (body_of kind s) (behind kind s)) h

  pub read-sound : record_fault kind left s ≡ 0 → read_record kind left s next ≡ next (body_of kind s) (behind kind s)
  unfolding read_record
  read-sound e = rw e

-- and what is wanted of it
module _ (kind left : ℕ) (s : List ℕ) (next : List ℕ → List ℕ → ℕ) where
  pub wanted-faulty : (record_fault kind left s ≡ 0 → ⊥) → wanted_record kind left s next ≡ wanted_here kind left s
  unfolding wanted_record
  wanted-faulty h = rw (ne_eqb (record_fault kind left s) 0 h)

  pub wanted-sound : record_fault kind left s ≡ 0 → wanted_record kind left s next ≡ next (body_of kind s) (behind kind s)
  unfolding wanted_record
  wanted-sound e = rw e

-- a faulty record: its fault is that of the stream, and what it wants is wanted
pub record Faulty (s : List ℕ) (kind left at : ℕ) : Type 0 where
  pub reading : read_frame s ≡ refused (record_fault kind left (drop at s))
  pub wanting : wanted s ≡ wanted_here kind left (drop at s)

-- only the pixels depend on how many are left
pub left-aside : (left : ℕ) (s : List ℕ) → record_fault 2 left s ≡ record_fault 2 0 s
unfolding record_fault body_fault
left-aside left [] = refl
left-aside left (kind ∷ rest) = refl

wanted-aside : (left : ℕ) (s : List ℕ) → wanted_here 2 left s ≡ wanted_here 2 0 s
unfolding wanted_here
wanted-aside left [] = refl
wanted-aside left (kind ∷ rest) = refl

-- ---- where the reader stands

-- behind the sides
pub record Sided (s : List ℕ) : Type 0 where
  pub small : SidesInRange s
  pub long : 5 ≤ length s
  pub reading : read_frame s ≡ read_parameters (take 4 (drop 1 s)) (drop 5 s)
  pub wanting : wanted s ≡ wanted_parameters (take 4 (drop 1 s)) (drop 5 s)

-- behind the parameters and i records of pixels: how many pixels are left, and what is read there with those that came
abbrev pub left_behind : List ℕ → ℕ → ℕ
left_behind s i = pixel_count s - 32 * i

unfoldable pub read_behind : List ℕ → ℕ → Reading
read_behind s i =
    read_pixels (records_for (left_behind s i)) (header_at s) (left_behind s i) (tab (pixel_count s - left_behind s i) (pixel_byte s))
    (drop (22 + 33 * i) s)

unfoldable pub wanted_behind : List ℕ → ℕ → ℕ
wanted_behind s i = wanted_pixels (records_for (left_behind s i)) (left_behind s i) (drop (22 + 33 * i) s)

pub record Passed (s : List ℕ) (i : ℕ) : Type 0 where
  pub small : SidesInRange s
  pub long : 22 + 33 * i ≤ length s
  pub reading : read_frame s ≡ read_behind s i
  pub wanting : wanted s ≡ wanted_behind s i

pub data Stage (s : List ℕ) : Type 0 where
  start : Stage s
  sides : Sided s → Stage s
  pixels : (i : ℕ) → Passed s i → Stage s
  end : (at left : ℕ) → Judged s 0 → wanted s ≡ 0 → Stage s

-- the kind of the record before, the place, and the pixels left
abbrev pub kind_at : {s : List ℕ} → Stage s → ℕ
kind_at start = 0
kind_at (sides p) = 1
kind_at (pixels zero p) = 2
kind_at (pixels (suc i) p) = 3
kind_at (end at left j w) = 4

abbrev pub place_at : {s : List ℕ} → Stage s → ℕ
place_at start = 0
place_at (sides p) = 5
place_at (pixels i p) = 22 + 33 * i
place_at (end at left j w) = at

abbrev pub left_at : {s : List ℕ} → Stage s → ℕ
left_at start = 0
left_at {s} (sides p) = pixel_count s
left_at {s} (pixels i p) = left_behind s i
left_at (end at left j w) = left

pub record AtStage (s : List ℕ) (kind at left : ℕ) : Type 0 where
  pub stage : Stage s
  pub kind-is : kind ≡ kind_at stage
  pub at_is : at ≡ place_at stage
  pub left_is : left ≡ left_at stage

-- ---- one record more

-- the record that is due, and its fault
abbrev due_at : {s : List ℕ} → Stage s → ℕ
due_at st = due (kind_at st) (left_at st)

abbrev fault_at : {s : List ℕ} → Stage s → ℕ
fault_at {s} st = record_fault (due_at st) (left_at st) (drop (place_at st) s)

module _ {s : List ℕ} where
  due-pixels : (i : ℕ) (p : Passed s i) → due_at (pixels i p) ≡ cond (eqb (left_behind s i) 0) 4 3
  unfolding due
  due-pixels zero p = refl
  due-pixels (suc i) p = refl

  due-more : (i : ℕ) (p : Passed s i) → 0 < left_behind s i → due_at (pixels i p) ≡ 3
  due-more i p l = due-pixels i p ∙ rw (ne_eqb (left_behind s i) 0 (λ z. let no : ⊥ = omega arith in no))

  due-end : (i : ℕ) (p : Passed s i) → left_behind s i ≡ 0 → due_at (pixels i p) ≡ 4
  due-end i p z = due-pixels i p ∙ rw z

pub small-sides : (width height : ℕ) → sides_fault width height ≡ 0 → (width ≤ largest_stream_side) × (height ≤ largest_stream_side)
unfolding sides_fault
small-sides width height e =
    let p = or-neither (ltb largest_stream_side width) (ltb largest_stream_side height)
    (lowest-none (ltb largest_stream_side width || ltb largest_stream_side height) 1 [] (omega arith) e).0 in
    (ltb-false largest_stream_side width p.0, ltb-false largest_stream_side height p.1)

reading-alike : {n n' : ℕ} {px px' t t' : List ℕ} (h : Header) → n ≡ n' → px ≡ px' → t ≡ t'
    → read_pixels (records_for n) h n px t ≡ read_pixels (records_for n') h n' px' t'
reading-alike h p q r = rw (p, q, r)

wanting-alike : {n n' : ℕ} {t t' : List ℕ} → n ≡ n' → t ≡ t' → wanted_pixels (records_for n) n t ≡ wanted_pixels (records_for n') n' t'
wanting-alike p r = rw (p, r)

-- the sides
module _ (s : List ℕ) where
  sides-faulty : (record_fault 1 0 s ≡ 0 → ⊥) → Faulty s 1 0 0
  unfolding read_frame wanted
  sides-faulty h = record { reading = read-faulty 1 0 s read_parameters h; wanting = wanted-faulty 1 0 s wanted_parameters h }

  sides-sound : record_fault 1 0 s ≡ 0 → Sided s
  unfolding read_frame wanted body_length body_fault
  sides-sound e =
      let ok = sound 1 0 s e in
      let small = small-sides (u16 (body_of 1 s) 0) (u16 (body_of 1 s) 2) ok.body in
      record {
        small = record { width = small.0; height = small.1 };
        long = ok.long;
        reading = read-sound 1 0 s read_parameters e;
        wanting = wanted-sound 1 0 s wanted_parameters e;
      }

-- the parameters
module _ (s : List ℕ) (p : Sided s) where
  abbrev read_rest : List ℕ → List ℕ → Reading
  read_rest parameters rest = read_pixels (records_for (pixel_count s)) (header_of (take 4 (drop 1 s)) parameters) (pixel_count s) [] rest

  abbrev wanted_rest : List ℕ → List ℕ → ℕ
  wanted_rest parameters rest = wanted_pixels (records_for (pixel_count s)) (pixel_count s) rest

  parameters-faulty : (record_fault 2 0 (drop 5 s) ≡ 0 → ⊥) → Faulty s 2 0 5
  unfolding read_parameters wanted_parameters pixel_count
  parameters-faulty h =
      record {
        reading = p.reading ∙ read-faulty 2 0 (drop 5 s) read_rest h;
        wanting = p.wanting ∙ wanted-faulty 2 0 (drop 5 s) wanted_rest h;
      }

  parameters-sound : record_fault 2 0 (drop 5 s) ≡ 0 → Passed s 0
  unfolding read_parameters wanted_parameters body_length pixel_count header_at read_behind wanted_behind tab
  parameters-sound e =
      let ok = sound 2 0 (drop 5 s) e in
      let all : pixel_count s ≡ left_behind s 0 = omega arith in
      let none : 0 ≡ pixel_count s - left_behind s 0 = omega arith in
      record {
        small = p.small;
        long = omega (arith, length-drop 5 s, ok.long);
        reading =
            p.reading
            ∙ read-sound 2 0 (drop 5 s) read_rest e
            ∙ ap (λ (h : Header). read_pixels (records_for (pixel_count s)) h (pixel_count s) [] (drop 17 (drop 5 s)))
            (ap (λ (l : List ℕ). header_of (take 4 (drop 1 s)) (take 16 l)) (drop-drop 1 5 s))
            ∙ reading-alike (header_at s) all (ap (λ (k : ℕ). tab k (pixel_byte s)) none) (drop-drop 17 5 s);
        wanting = p.wanting ∙ wanted-sound 2 0 (drop 5 s) wanted_rest e ∙ wanting-alike all (drop-drop 17 5 s);
      }

-- a record of pixels, and the end
module _ (s : List ℕ) (i : ℕ) (p : Passed s i) where
  abbrev left : ℕ
  left = left_behind s i

  abbrev here : List ℕ
  here = drop (22 + 33 * i) s

  abbrev came : List ℕ
  came = tab (pixel_count s - left) (pixel_byte s)

  module _ (l : 0 < left) where
    abbrev read_next : List ℕ → List ℕ → Reading
    read_next body rest = read_pixels (records_for (left - 32)) (header_at s) (left - 32) (came ++ take left body) rest

    abbrev wanted_next : List ℕ → List ℕ → ℕ
    wanted_next body rest = wanted_pixels (records_for (left - 32)) (left - 32) rest

    pixels-due : read_frame s ≡ read_record 3 left here read_next
    unfolding read_behind read_pixels
    pixels-due = p.reading ∙ rw (one_fewer left l)

    pixels-wanted : wanted s ≡ wanted_record 3 left here wanted_next
    unfolding wanted_behind wanted_pixels
    pixels-wanted = p.wanting ∙ rw (one_fewer left l)

    pixels-faulty : (record_fault 3 left here ≡ 0 → ⊥) → Faulty s 3 left (22 + 33 * i)
    pixels-faulty h =
        record {
          reading = pixels-due ∙ read-faulty 3 left here read_next h;
          wanting = pixels-wanted ∙ wanted-faulty 3 left here wanted_next h;
        }

    pixels-sound : record_fault 3 left here ≡ 0 → Passed s (suc i)
    unfolding body_length read_behind wanted_behind
    pixels-sound e =
        let ok = sound 3 left here e in
        let long : 22 + 33 * i + 33 ≤ length s = omega (arith, length-drop (22 + 33 * i) s, ok.long) in
        let less : left - 32 ≡ left_behind s (suc i) = omega arith in
        let place : 22 + 33 * i + 33 ≡ 22 + 33 * suc i = omega arith in
        let past = drop-drop 33 (22 + 33 * i) s ∙ ap (λ (k : ℕ). drop k s) place in
        record {
          small = p.small;
          long = omega arith;
          reading =
              pixels-due
              ∙ read-sound 3 left here read_next e
              ∙ reading-alike (header_at s) less
              (pixels-more s i left long (pixel_count s) (omega arith) ∙ ap (λ (k : ℕ). tab (pixel_count s - k) (pixel_byte s)) less)
              past;
          wanting = pixels-wanted ∙ wanted-sound 3 left here wanted_next e ∙ wanting-alike less past;
        }

  module _ (z : left ≡ 0) where
    abbrev read_none : List ℕ → List ℕ → Reading
    read_none body rest = accepted (header_at s) came

    end-due : read_frame s ≡ read_record 4 left here read_none
    unfolding read_behind read_pixels
    end-due =
        let none : records_for left ≡ 0 = omega arith in
        p.reading ∙ rw none

    end-wanted : wanted s ≡ wanted_record 4 left here (λ body rest. 0)
    unfolding wanted_behind wanted_pixels
    end-wanted =
        let none : records_for left ≡ 0 = omega arith in
        p.wanting ∙ rw none

    end-faulty : (record_fault 4 left here ≡ 0 → ⊥) → Faulty s 4 left (22 + 33 * i)
    end-faulty h =
        record {
          reading = end-due ∙ read-faulty 4 left here read_none h;
          wanting = end-wanted ∙ wanted-faulty 4 left here (λ body rest. 0) h;
        }

    end_none : record_fault 4 left here ≡ 0 → wanted s ≡ 0
    end_none e = end-wanted ∙ wanted-sound 4 left here (λ body rest. 0) e

    end-sound : record_fault 4 left here ≡ 0 → Judged s 0
    end-sound e =
        let all : pixel_count s - left ≡ pixel_count s = omega arith in
        record {
          reading = end-due ∙ read-sound 4 left here read_none e ∙ ap (λ (k : ℕ). accepted (header_at s) (tab k (pixel_byte s))) all;
          whole = λ _. record { small = p.small; long = omega (arith, p.long) };
        }

-- ---- the same for any stage
module _ {s : List ℕ} where
  stage-faulty : (st : Stage s) → (kind_at st ≡ 4 → ⊥) → (fault_at st ≡ 0 → ⊥) → Faulty s (due_at st) (left_at st) (place_at st)
  unfolding due
  stage-faulty start m h = sides-faulty s h
  stage-faulty (sides p) m h =
      let same = left-aside (pixel_count s) (drop 5 s) in
      let f = parameters-faulty s p (λ e. h (same ∙ e)) in
      record { reading = f.reading ∙ ap refused (sym same); wanting = f.wanting ∙ sym (wanted-aside (pixel_count s) (drop 5 s)) }
  stage-faulty (pixels i p) m h =
      ⊎_elim
      (λ z. rw (due-end i p z) (end-faulty s i p z (rw (due-end i p z) at h)))
      (λ l. rw (due-more i p l) (pixels-faulty s i p l (rw (due-more i p l) at h)))
      (eq-zero-or-pos (left_behind s i))
  stage-faulty (end at rest j w) m h = absurd (m refl)

  abbrev Next : Stage s → ℕ → Type 0
  Next st due = AtStage s due (place_at st + 1 + body_length due) (left_after s due (left_at st))

  next-pixels : (i : ℕ) (p : Passed s i) → 0 < left_behind s i → record_fault 3 (left_behind s i) (drop (22 + 33 * i) s) ≡ 0
      → Next (pixels i p) 3
  unfolding body_length left_after
  next-pixels i p l e =
      let place : 22 + 33 * i + 1 + 32 ≡ 22 + 33 * suc i = omega arith in
      let fewer : left_behind s i - 32 ≡ left_behind s (suc i) = omega arith in
      record { stage = pixels (suc i) (pixels-sound s i p l e); kind-is = refl; at_is = place; left_is = fewer }

  next-end : (i : ℕ) (p : Passed s i) → left_behind s i ≡ 0 → record_fault 4 (left_behind s i) (drop (22 + 33 * i) s) ≡ 0
      → Next (pixels i p) 4
  next-end i p z e = record { stage = end _ _ (end-sound s i p z e) (end_none s i p z e); kind-is = refl; at_is = refl; left_is = refl }

  stage-next : (st : Stage s) → (kind_at st ≡ 4 → ⊥) → fault_at st ≡ 0 → Next st (due_at st)
  unfolding due body_length left_after
  stage-next start m e = record { stage = sides (sides-sound s e); kind-is = refl; at_is = refl; left_is = refl }
  stage-next (sides p) m e =
      record {
        stage = pixels 0 (parameters-sound s p (sym (left-aside (pixel_count s) (drop 5 s)) ∙ e));
        kind-is = refl;
        at_is = refl;
        left_is = omega arith;
      }
  stage-next (pixels i p) m e =
      ⊎_elim
      (λ z. rw (due-end i p z) (next-end i p z (rw (due-end i p z) at e)))
      (λ l. rw (due-more i p l) (next-pixels i p l (rw (due-more i p l) at e)))
      (eq-zero-or-pos (left_behind s i))
  stage-next (end at rest j w) m e = absurd (m refl)

  -- the sides are there
  stage-sides : (st : Stage s) → (kind_at st ≡ 4 → ⊥) → fault_at st ≡ 0 → 5 ≤ length s
  unfolding due body_length
  stage-sides start m e = (sound 1 0 s e).long
  stage-sides (sides p) m e = p.long
  stage-sides (pixels i p) m e = omega (arith, p.long)
  stage-sides (end at rest j w) m e = absurd (m refl)

  stage-end : (st : Stage s) → kind_at st ≡ 4 → Judged s 0 × (wanted s ≡ 0)
  stage-end start e = absurd (let no : ⊥ = omega arith in no)
  stage-end (sides p) e = absurd (let no : ⊥ = omega arith in no)
  stage-end (pixels zero p) e = absurd (let no : ⊥ = omega arith in no)
  stage-end (pixels (suc i) p) e = absurd (let no : ⊥ = omega arith in no)
  stage-end (end at rest j w) e = (j, w)

-- ---- and for the reader's own kind, place and pixels left
pub at-stage-start : (s : List ℕ) → AtStage s 0 0 0
at-stage-start s = record { stage = start; kind-is = refl; at_is = refl; left_is = refl }

module _ {s : List ℕ} {kind at left : ℕ} (st : AtStage s kind at left) where
  pub at-stage-end : kind ≡ 4 → Stopped s (record { at = at; due = kind; left = left; fault = Ok tt })
  at-stage-end e =
      let p = stage-end st.stage (sym st.kind-is ∙ e) in
      record { judged = p.0; wants = p.1 }

  module _ (more : kind ≡ 4 → ⊥) (k n : ℕ) (k-is : k ≡ due kind left) (n-is : n ≡ record_fault k left (drop at s)) where
    due-is : k ≡ due_at st.stage
    due-is = k-is ∙ ap₂ due st.kind-is st.left_is

    fault-is : n ≡ fault_at st.stage
    fault-is = n-is ∙ rw (due-is, st.at_is, st.left_is)

    going : kind_at st.stage ≡ 4 → ⊥
    going e = more (st.kind-is ∙ e)

    pub at-stage-faulty : (r : Result (Unit {0}) Refusal) → number_of r ≡ n → (n ≡ 0 → ⊥)
        → Stopped s (record { at = at; due = k; left = left; fault = r })
    at-stage-faulty r told h =
        let f = stage-faulty st.stage going (λ e. h (fault-is ∙ e)) in
        record {
          judged =
              rw told (record { reading = f.reading ∙ ap refused (sym fault-is) ∙ sym (unless-faulty n _ h); whole = λ e. absurd (h e) });
          wants = rw (told, ne_eqb n 0 h, due-is, st.at_is, st.left_is) f.wanting;
        }

    module _ (e : n ≡ 0) where
      pub at-stage-long : at + 1 + body_length k ≤ length s
      at-stage-long = omega (arith, (sound k left (drop at s) (sym n-is ∙ e)).long, length-drop at s)

      pub at-stage-sides : 5 ≤ length s
      at-stage-sides = stage-sides st.stage going (sym fault-is ∙ e)

      pub at-stage-next : (b rest : ℕ) → b ≡ body_length k → rest ≡ left_after s k left → AtStage s k (at + 1 + b) rest
      at-stage-next b rest p q =
          rw (p, q, due-is, st.at_is, st.left_is) (stage-next st.stage going (sym fault-is ∙ e))
