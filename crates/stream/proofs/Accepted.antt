-- What an accepted stream is: sides and parameters without fault, as many pixels as the sides say, and the one stream that is written for
-- them, whatever stands behind it. Assumes nothing.
use Prim.Native.Nat.{ℕ, zero, suc, ◌+◌, ◌-◌, ◌*◌, ◌/◌, ◌%◌, ◌<◌, ◌≤◌}
use native.Mathlib.Decide.{dec_lt}
use native.Mathlib.Omega.{arith}
use mathlib.Core.Path.{◌≡◌, refl, sym, ap, ap₂, ◌∙◌}
use mathlib.Core.Bool.{false, not}
use mathlib.Core.List.{List, [], ◌∷◌, ◌++◌, append_assoc, append-nil}
use lib.ListN.{length, get_or, take, drop, replicate, length-append, length-take, length-drop, take-append-drop, drop_of_length-le}
use lib.Seq.{take_at, drop_at, take_all, drop-drop, length-take-le, ext_get_or}
use lib.Dec.{eqb}
use borrow.Author.Tests.{eqb-true, not-false}
use Rattle.lists.specs.Tab.{tab}
use Rattle.lists.specs.Places.{any, All}
use Rattle.lists.proofs.Tab.{length-tab, get_d-tab}
use Rattle.lists.proofs.Tests.{or-neither}
use Rattle.lists.proofs.Refusals.{lowest-none}
use Rattle.stream.specs.declared.Header.{Header}
use Rattle.stream.specs.Stream.{u8, u16, u32, body_length, body_of, behind, header_of, records_for, padding_fault, body_fault, record_fault}
use Rattle.stream.specs.Stream.{Reading, accepted, read_record, read_pixels, read_parameters, read_frame}
use Rattle.stream.specs.RoundTrip.{bytes16, bytes32, sides_bytes, parameters_bytes, pixel_bytes, frame_bytes, Accepted, RoundTrip}
use Rattle.stream.proofs.Records.{sound}
use Rattle.stream.proofs.Order.{read-faulty}
use Rattle.stream.proofs.RoundTrip.{frame_back}

-- ---- a record behind which the stream is accepted
pub record Came (kind left : ℕ) (s : List ℕ) (next : List ℕ → List ℕ → Reading) (r : Reading) : Type 0 where
  pub whole : s ≡ kind ∷ (body_of kind s ++ behind kind s)
  pub long : length (body_of kind s) ≡ body_length kind
  pub good : body_fault kind left (body_of kind s) ≡ 0
  pub goes_on : next (body_of kind s) (behind kind s) ≡ r

module _ (kind left : ℕ) (s : List ℕ) (next : List ℕ → List ℕ → Reading) (h : Header) (pixels : List ℕ)
    (e : read_record kind left s next ≡ accepted h pixels) where
  no-fault : record_fault kind left s ≡ 0
  no-fault =
      elim (dec_lt 0 (record_fault kind left s)) [
        | yes l ↦
            let r = sym (read-faulty kind left s next (λ z. let no : ⊥ = omega arith in no)) ∙ e in
            let z : ◌≡◌ {A = ℕ} 0 1 = cc in
            absurd (let no : ⊥ = omega arith in no)
        | no g ↦ omega arith
      ]

  pub came : Came kind left s next (accepted h pixels)
  unfolding read_record
  came =
      let ok = sound kind left s no-fault in
      let past : behind kind s ≡ drop (body_length kind) (drop 1 s) = sym (drop-drop (body_length kind) 1 s) in
      record {
        whole =
            ok.kind
            ∙ ap (λ (l : List ℕ). kind ∷ l)
            (sym (take-append-drop (body_length kind) (drop 1 s)) ∙ ap (λ (l : List ℕ). body_of kind s ++ l) (sym past));
        long = length-take-le (body_length kind) (drop 1 s) (omega (arith, length-drop 1 s, ok.long));
        good = ok.body;
        goes_on = rw no-fault at e;
      }

-- ---- bytes and the numbers made of them
abbrev pub Bytes : List ℕ → Type 0
Bytes s = All (λ v. v < 256) s

byte_at : (s : List ℕ) → Bytes s → (i : ℕ) → get_or s i 0 < 256
byte_at [] b i = omega arith
byte_at (v ∷ s) b zero = b.0
byte_at (v ∷ s) b (suc i) = byte_at s b.1 i

pub bytes_take : (n : ℕ) (s : List ℕ) → Bytes s → Bytes (take n s)
bytes_take zero s b = tt
bytes_take (suc n) [] b = tt
bytes_take (suc n) (v ∷ s) b = (b.0, bytes_take n s b.1)

bytes_drop : (n : ℕ) (s : List ℕ) → Bytes s → Bytes (drop n s)
bytes_drop zero s b = b
bytes_drop (suc n) [] b = tt
bytes_drop (suc n) (v ∷ s) b = bytes_drop n s b.1

spread : (n : ℕ) (s : List ℕ) → length s ≡ n → s ≡ tab n (λ i. get_or s i 0)
spread n s l =
    ext_get_or 0 s (tab n (λ i. get_or s i 0)) (l ∙ sym (length-tab n (λ i. get_or s i 0)))
    (λ i h. sym (get_d-tab n (λ i. get_or s i 0) i 0 (omega arith)))

word16 : (a b : ℕ) → a < 256 → bytes16 (a + 256 * b) ≡ a ∷ b ∷ []
word16 a b h =
    let low : (a + 256 * b) % 256 ≡ a = omega arith in
    let high : (a + 256 * b) / 256 ≡ b = omega arith in
    rw (low, high)

word32 : (a b c d : ℕ) → a < 256 → b < 256 → c < 256 → bytes32 (a + 256 * b + 65536 * (c + 256 * d)) ≡ a ∷ b ∷ c ∷ d ∷ []
word32 a b c d h k l =
    let low : (a + 256 * b + 65536 * (c + 256 * d)) % 65536 ≡ a + 256 * b = omega arith in
    let high : (a + 256 * b + 65536 * (c + 256 * d)) / 65536 ≡ c + 256 * d = omega arith in
    ap₂ (λ (m n : ℕ). bytes16 m ++ bytes16 n) low high ∙ ap₂ (λ (s t : List ℕ). s ++ t) (word16 a b h) (word16 c d l)

-- the bodies of kinds 1 and 2 are those that are written for what they say
module _ (sides parameters : List ℕ) where
  pub sides-only : Bytes sides → length sides ≡ 4 → sides_bytes (header_of sides parameters) ≡ sides
  unfolding tab
  sides-only b l =
      let s = u8 sides in
      ap₂ (λ (w h : List ℕ). w ++ h) (word16 (s 0) (s 1) (byte_at sides b 0)) (word16 (s 2) (s 3) (byte_at sides b 2))
      ∙ sym (spread 4 sides l)

  pub parameters-only : Bytes parameters → length parameters ≡ 16 → parameters_bytes (header_of sides parameters) ≡ parameters
  unfolding tab
  parameters-only b l =
      let s = u8 parameters in
      let at = byte_at parameters b in
      ap (λ (t : List ℕ). (s 0 ∷ t) ++ (s 5 ∷ s 6 ∷ s 7 ∷ bytes32 (u32 parameters 8)) ++ (s 12 ∷ bytes16 (u16 parameters 13))
      ++ (s 15 ∷ []))
      (word32 (s 1) (s 2) (s 3) (s 4) (at 1) (at 2) (at 3))
      ∙ ap₂ (λ (m n : List ℕ). (s 0 ∷ s 1 ∷ s 2 ∷ s 3 ∷ s 4 ∷ []) ++ (s 5 ∷ s 6 ∷ s 7 ∷ m) ++ (s 12 ∷ n) ++ (s 15 ∷ []))
      (word32 (s 8) (s 9) (s 10) (s 11) (at 8) (at 9) (at 10)) (word16 (s 13) (s 14) (at 13))
      ∙ sym (spread 16 parameters l)

-- ---- the pixels
zeros : (s : List ℕ) → any (λ v. not (eqb v 0)) s ≡ false → s ≡ replicate (length s) 0
zeros [] e = refl
zeros (v ∷ s) e =
    let p = or-neither (not (eqb v 0)) (any (λ v. not (eqb v 0)) s) e in
    ap₂ (λ (v : ℕ) (s : List ℕ). v ∷ s) (eqb-true v 0 (not-false (eqb v 0) p.0)) (zeros s p.1)

-- the body of a record of kind 3, where `left` pixels had not come yet, of which `more` come behind this record
module _ (left : ℕ) (body more : List ℕ) (l : length body ≡ 32) (f : body_fault 3 left body ≡ 0) (m : length more ≡ left - 32) where
  abbrev all : List ℕ
  all = take left body ++ more

  pub all-long : length all ≡ left
  all-long = length-append (take left body) more ∙ omega (arith, length-take left body)

  padding : drop left body ≡ replicate (32 - left) 0
  unfolding body_fault padding_fault
  padding =
      let none = (lowest-none (any (λ v. not (eqb v 0)) (drop left body)) 7 [] (omega arith) f).0 in
      let n : length (drop left body) ≡ 32 - left = length-drop left body ∙ omega arith in
      zeros (drop left body) none ∙ ap (λ (k : ℕ). replicate k 0) n

  -- what is written for all of them begins with this body, and goes on with `more`
  pub record Again : Type 0 where
    pub first : take 32 all ++ replicate (32 - length all) 0 ≡ body
    pub behind : drop 32 all ≡ more

  whole-body : 32 ≤ left → Again
  whole-body h =
      let taken : take left body ≡ body = take_all left body (omega arith) in
      let none : 32 - length all ≡ 0 = omega (arith, all-long) in
      record {
        first = rw (none, taken) (append-nil (take 32 (body ++ more)) ∙ take_at body more 32 l);
        behind = rw taken (drop_at body more 32 l);
      }

  part_body : left ≤ 32 → Again
  part_body h =
      let none : more ≡ [] = sym (take_all 0 more (omega arith)) in
      let part : all ≡ take left body = ap (λ (s : List ℕ). take left body ++ s) none ∙ append-nil (take left body) in
      let n : 32 - length all ≡ 32 - left = omega (arith, all-long) in
      record {
        first =
            ap₂ (λ (s t : List ℕ). s ++ t) (take_all 32 all (omega (arith, all-long)) ∙ part)
            (ap (λ (k : ℕ). replicate k 0) n ∙ sym padding)
            ∙ take-append-drop left body;
        behind = drop_of_length-le all {i = 32} (omega (arith, all-long)) ∙ sym none;
      }

  pub again : Again
  again = elim (dec_lt left 32) [
    | yes h ↦ part_body (omega arith)
    | no g ↦ whole-body (omega arith)
  ]

-- all records of pixels, and the end
pub record Pixels (h : Header) (n left : ℕ) (done s : List ℕ) (k : Header) (pixels : List ℕ) : Type 0 where
  pub same : k ≡ h
  pub more : List ℕ
  pub rest : List ℕ
  pub long : length more ≡ left
  pub gathered : pixels ≡ done ++ more
  pub written : s ≡ pixel_bytes n more ++ (4 ∷ rest)

pub pixels-only : (h : Header) (n left : ℕ) (done s : List ℕ) (k : Header) (pixels : List ℕ)
    → n ≡ records_for left → read_pixels n h left done s ≡ accepted k pixels → Pixels h n left done s k pixels
unfolding read_pixels pixel_bytes body_length
pixels-only h zero left done s k pixels e r =
    let c = came 4 left s (λ body rest. accepted h done) k pixels r in
    let is : accepted h done ≡ accepted k pixels = c.goes_on in
    record {
      same = cc;
      more = [];
      rest = behind 4 s;
      long = omega arith;
      gathered = let p : done ≡ pixels = cc in sym p ∙ sym (append-nil done);
      written = c.whole;
    }
pixels-only h (suc n) left done s k pixels e r =
    let c = came 3 left s (λ body rest. read_pixels n h (left - 32) (done ++ take left body) rest) k pixels r in
    let body = body_of 3 s in
    let next = pixels-only h n (left - 32) (done ++ take left body) (behind 3 s) k pixels (omega arith) c.goes_on in
    let a = again left body next.more c.long c.good next.long in
    record {
      same = next.same;
      more = take left body ++ next.more;
      rest = next.rest;
      long = all-long left body next.more c.long c.good next.long;
      gathered = next.gathered ∙ append_assoc done (take left body) next.more;
      written =
          c.whole
          ∙ ap (λ (t : List ℕ). 3 ∷ t)
          (ap (λ (t : List ℕ). body ++ t) next.written
          ∙ sym (append_assoc body (pixel_bytes n next.more) (4 ∷ next.rest))
          ∙ sym (ap₂ (λ (b m : List ℕ). (b ++ pixel_bytes n m) ++ (4 ∷ next.rest)) a.first a.behind));
    }

-- ---- the whole stream
module _ (s : List ℕ) (h : Header) (pixels : List ℕ) (e : read_frame s ≡ accepted h pixels) where
  abbrev read_rest : List ℕ → List ℕ → Reading
  read_rest parameters rest =
      let k = header_of (body_of 1 s) parameters in
      read_pixels (records_for (k.width * k.height)) k (k.width * k.height) [] rest

  first : Came 1 0 s read_parameters (accepted h pixels)
  unfolding read_frame
  first = came 1 0 s read_parameters h pixels e

  second : Came 2 0 (behind 1 s) read_rest (accepted h pixels)
  unfolding read_parameters
  second = came 2 0 (behind 1 s) read_rest h pixels first.goes_on

  abbrev said : Header
  said = header_of (body_of 1 s) (body_of 2 (behind 1 s))

  third : Pixels said (records_for (said.width * said.height)) (said.width * said.height) [] (behind 2 (behind 1 s)) h pixels
  third =
      pixels-only said (records_for (said.width * said.height)) (said.width * said.height) []
      (behind 2 (behind 1 s)) h pixels refl second.goes_on

  pub accepted_good : Accepted h pixels
  unfolding body_fault
  accepted_good = record {
    sides = rw third.same first.good;
    parameters = rw third.same second.good;
    long = ap length third.gathered ∙ third.long ∙ ap (λ (k : Header). k.width * k.height) (sym third.same);
  }

  -- up to its end it is the one stream that is written for them
  module _ (b : Bytes s) where
    abbrev pixel_part : List ℕ
    pixel_part = pixel_bytes (records_for (length third.more)) third.more

    written : s ≡ frame_bytes said third.more ++ third.rest
    unfolding frame_bytes body_length
    written =
        let sides : body_of 1 s ≡ sides_bytes said =
        sym (sides-only (body_of 1 s) (body_of 2 (behind 1 s)) (bytes_take 4 (drop 1 s) (bytes_drop 1 s b)) first.long) in
        let parameters : body_of 2 (behind 1 s) ≡ parameters_bytes said =
        sym (parameters-only (body_of 1 s) (body_of 2 (behind 1 s))
        (bytes_take 16 (drop 1 (drop 5 s)) (bytes_drop 1 (drop 5 s) (bytes_drop 5 s b))) second.long) in
        let pixels-part : behind 2 (behind 1 s) ≡ (pixel_part ++ (4 ∷ [])) ++ third.rest =
        third.written
        ∙ ap (λ (n : ℕ). pixel_bytes (records_for n) third.more ++ (4 ∷ third.rest)) (sym third.long)
        ∙ sym (append_assoc pixel_part (4 ∷ []) third.rest) in
        first.whole
        ∙ ap (λ (t : List ℕ). 1 ∷ (body_of 1 s ++ t)) second.whole
        ∙ ap (λ (t : List ℕ). 1 ∷ (t ++ (2 ∷ (body_of 2 (behind 1 s) ++ behind 2 (behind 1 s))))) sides
        ∙ ap₂ (λ (p t : List ℕ). 1 ∷ (sides_bytes said ++ (2 ∷ (p ++ t)))) parameters pixels-part

    pub accepted_only : take (length (frame_bytes h pixels)) s ≡ frame_bytes h pixels
    accepted_only =
        rw (third.same, third.gathered)
        (ap (take (length (frame_bytes said third.more))) written
        ∙ take_at (frame_bytes said third.more) third.rest (length (frame_bytes said third.more)) refl)

pub round_trip : RoundTrip
round_trip = record { frame_back = frame_back; accepted_good = accepted_good; accepted_only = accepted_only }
