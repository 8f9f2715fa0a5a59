-- A record that is cut short: with zeros behind it another refusal arises, unless its padding is not 0 already. Assumes nothing.
use Prim.Native.Nat.{ℕ, zero, suc, ◌+◌, ◌-◌, ◌<◌, ◌≤◌, min}
use native.Mathlib.Decide.{dec_lt}
use native.Mathlib.Omega.{arith}
use mathlib.Core.Path.{◌≡◌, refl, sym, ap, ◌∙◌}
use mathlib.Core.Bool.{Bool, true, false, cond, not, ◌||◌, false≢true}
use mathlib.Core.List.{List, [], ◌∷◌, ◌++◌, append_assoc, append-nil}
use lib.ListN.{length, take, drop, replicate, length-append, length-replicate, drop_of_length-le}
use lib.Seq.{take_all, take_at, take-append-add}
use lib.Dec.{eqb, ltb}
use lib.Ieee.{binary32, of_bits}
use borrow.Author.Tests.{lt-ltb, le-ltb, eq-eqb, ne_eqb, eqb-true, eqb-false}
use Rattle.lists.specs.Places.{any, All}
use Rattle.lists.specs.Refusals.{lowest}
use Rattle.lists.proofs.Places.{any_append}
use Rattle.lists.proofs.Refusals.{lowest-le}
use Rattle.merge_radius.specs.MergeRadius.{radius_outside}
use Rattle.stream.specs.Stream.{largest_stream_side, u8, u16, u32, known, body_length, Reading, refused, read_record}
use Rattle.frame_params.specs.Ranges.{range_outside}
use Rattle.stream.specs.Stream.{sides_fault, parameters_fault, padding_fault, body_fault, record_fault}
use Rattle.stream.specs.Wanted.{wanted_body}
use Rattle.stream.proofs.Meaning.{Open}
use Rattle.stream.proofs.Records.{fault-same}
use Rattle.stream.proofs.Order.{read-faulty}
use Rattle.stream.proofs.RoundTrip.{record-back}

-- ---- the padding of a body of which a part has come, and what comes behind
abbrev nonzero : List ℕ → Bool
nonzero s = any (λ v. not (eqb v 0)) s

padding-parts : (left : ℕ) (came t : List ℕ)
    → nonzero (drop left (came ++ t)) ≡ (nonzero (drop left came) || nonzero (drop (left - length came) t))
padding-parts zero [] t = refl
padding-parts (suc left) [] t = let all : suc left ≡ suc left - 0 = omega arith in ap (λ (n : ℕ). nonzero (drop n t)) all
padding-parts zero (v ∷ came) t =
    let none : 0 ≡ 0 - length (v ∷ came) = omega arith in
    any_append (λ v. not (eqb v 0)) (v ∷ came) t ∙ ap (λ (n : ℕ). nonzero (v ∷ came) || nonzero (drop n t)) none
padding-parts (suc left) (v ∷ came) t =
    let fewer : left - length came ≡ suc left - length (v ∷ came) = omega arith in
    padding-parts left came t ∙ ap (λ (n : ℕ). nonzero (drop left came) || nonzero (drop n t)) fewer

zeros-none : (n k : ℕ) → nonzero (drop n (replicate k 0)) ≡ false
zeros-none zero zero = refl
zeros-none zero (suc k) = zeros-none zero k
zeros-none (suc n) zero = refl
zeros-none (suc n) (suc k) = zeros-none n k

module _ (left : ℕ) (came : List ℕ) where
  fault-parts : (t : List ℕ) (b : Bool) → nonzero (drop (left - length came) t) ≡ b
      → padding_fault left (came ++ t) ≡ lowest ((nonzero (drop left came) || b, 7) ∷ [])
  unfolding padding_fault
  fault-parts t b e = rw (padding-parts left came t, e)

  -- where it is 0 so far, it stays so with zeros
  zeros-behind : (k : ℕ) → padding_fault left came ≡ 0 → padding_fault left (came ++ replicate k 0) ≡ 0
  unfolding padding_fault
  zeros-behind k e = fault-parts (replicate k 0) false (zeros-none (left - length came) k) ∙ pick (nonzero (drop left came)) e
    where
      pick : (a : Bool) → lowest ((a, 7) ∷ []) ≡ 0 → lowest ((a || false, 7) ∷ []) ≡ 0
      pick true e = e
      pick false e = e

  -- where it is not, nothing mends it
  not-mended : (t : List ℕ) → length came ≤ 32 → (padding_fault left came ≡ 0 → ⊥) → padding_fault left (take 32 (came ++ t)) ≡ 7
  unfolding padding_fault
  not-mended t l h =
      let n = 32 - length came in
      let long : 32 ≡ length came + n = omega arith in
      let taken : take 32 (came ++ t) ≡ came ++ take n t = ap (λ (k : ℕ). take k (came ++ t)) long ∙ take-append-add came t n in
      ap (padding_fault left) taken ∙ fault-parts (take n t) _ refl
      ∙ pick (nonzero (drop left came)) (nonzero (drop (left - length came) (take n t))) h
    where
      pick : (a b : Bool) → (lowest ((a, 7) ∷ []) ≡ 0 → ⊥) → lowest ((a || b, 7) ∷ []) ≡ 7
      pick true b h = refl
      pick false b h = absurd (h refl)

-- bytes that are not padding have no fault
pixels-only : (left : ℕ) (came : List ℕ) → length came ≤ left → padding_fault left came ≡ 0
unfolding padding_fault
pixels-only left came l = rw (drop_of_length-le came {i = left} l)

-- ---- one record, where kind `due` is due
module _ (due left : ℕ) where
  -- another kind decides alone
  pub other-kind : (kind : ℕ) (s t : List ℕ) → (kind ≡ due → ⊥) → record_fault due left (kind ∷ s) ≡ record_fault due left (kind ∷ t)
  unfolding record_fault
  other-kind kind s t h = rw (ne_eqb kind due h)

  module _ (k : known due ≡ true) (came : List ℕ) where
    cut-fault : length came < body_length due → record_fault due left (due ∷ came) ≡ 7
    unfolding record_fault
    cut-fault l = rw (k, eq-eqb due due refl, lt-ltb (length came) (body_length due) l)

    whole-fault : body_length due ≤ length came → record_fault due left (due ∷ came) ≡ body_fault due left (take (body_length due) came)
    unfolding record_fault
    whole-fault l = rw (k, eq-eqb due due refl, le-ltb (length came) (body_length due) l)

-- ---- the body's fault is below 7, but for padding
few : (a b c : Bool) (x y z : ℕ) → x < 7 → y < 7 → (c ≡ true → z ≡ 0) → cond a x (cond b y (cond c z 0)) < 7
few true b c x y z p q r = p
few false true c x y z p q r = q
few false false true x y z p q r = omega (arith, r refl)
few false false false x y z p q r = omega arith

body-few : (due left : ℕ) (body : List ℕ) → (eqb due 3 ≡ true → padding_fault left body ≡ 0) → body_fault due left body < 7
unfolding body_fault sides_fault parameters_fault
body-few due left body h =
    let sides = lowest-le ((ltb largest_stream_side (u16 body 0) || ltb largest_stream_side (u16 body 2), 1) ∷ []) 6 (omega arith, tt) in
    let range = range_outside (u8 body 0) (u8 body 5) (u8 body 7) in
    let radius = radius_outside (of_bits binary32 (u32 body 8)) in
    let parameters = lowest-le ((range, 3) ∷ (radius, 5) ∷ []) 6 (omega arith, (omega arith, tt)) in
    few (eqb due 1) (eqb due 2) (eqb due 3) (sides_fault (u16 body 0) (u16 body 2))
    (parameters_fault (u8 body 0) (u8 body 5) (u8 body 7) (u32 body 8))
    (padding_fault left body)
    (omega (arith, sides))
    (omega (arith, parameters))
    h

-- ---- a body that is cut short is open: zeros and an unknown kind behind it give another refusal
module _ (due left : ℕ) (k : known due ≡ true) (next : List ℕ → List ℕ → Reading)
    (unknown : (body : List ℕ) → next body (0 ∷ []) ≡ refused 6)
    (came : List ℕ) (short : length came < body_length due) (zeros : eqb due 3 ≡ true → padding_fault left came ≡ 0) where
  abbrev rest : ℕ
  rest = body_length due - length came

  abbrev body : List ℕ
  body = came ++ replicate rest 0

  body-long : length body ≡ body_length due
  body-long = simp (length-append, length-replicate) (omega arith)

  abbrev fault : ℕ
  fault = body_fault due left body

  fault-few : fault < 7
  fault-few = body-few due left body (λ e. zeros-behind left came rest (zeros e))

  all-bytes : (n : ℕ) → All (λ v. v < 256) (replicate n 0 ++ (0 ∷ []))
  all-bytes zero = (omega arith, tt)
  all-bytes (suc n) = (omega arith, all-bytes n)

  cut : read_record due left (due ∷ came) next ≡ refused 7
  cut =
      let seven = cut-fault due left k came short in
      read-faulty due left (due ∷ came) next (λ z. let no : ⊥ = omega arith in no) ∙ ap refused seven

  abbrev whole : List ℕ
  whole = due ∷ (body ++ (0 ∷ []))

  -- by the whole body's fault
  faulty : (fault ≡ 0 → ⊥) → read_record due left whole next ≡ refused fault
  faulty h =
      let is : record_fault due left whole ≡ fault =
      whole-fault due left k (body ++ (0 ∷ [])) (omega (arith, body-long, length-append body (0 ∷ [])))
      ∙ ap (body_fault due left) (take_at body (0 ∷ []) (body_length due) body-long) in
      read-faulty due left whole next (λ z. h (sym is ∙ z)) ∙ ap refused is

  goes_on : fault ≡ 0 → read_record due left whole next ≡ refused 6
  goes_on e = record-back due left body (0 ∷ []) next k body-long e ∙ unknown body

  opened : (n : ℕ) → n < 7 → read_record due left whole next ≡ refused n → Open (λ s. read_record due left s next) (due ∷ came)
  opened n l e = record {
    cut = cut;
    more = replicate rest 0 ++ (0 ∷ []);
    bytes = all-bytes rest;
    number = n;
    other = l;
    refusal = ap (λ (t : List ℕ). read_record due left (due ∷ t) next) (sym (append_assoc came (replicate rest 0) (0 ∷ []))) ∙ e;
  }

  pub cut-open : Open (λ s. read_record due left s next) (due ∷ came)
  cut-open = elim (dec_lt 0 fault) [
    | yes l ↦ opened fault fault-few (faulty (λ z. let no : ⊥ = omega arith in no))
    | no g ↦ opened 6 (omega arith) (goes_on (omega arith))
  ]

-- ---- a body of which a part has come
module _ (rest m : ℕ) where
  less-than : (a b : Bool) (n : ℕ) → n < cond a (cond b (min rest m) 0) rest → (n < rest) × (a ≡ true → (b ≡ true) × (n < m))
  less-than true true n l = (omega arith, λ _. (refl, omega arith))
  less-than true false n l = absurd (let no : ⊥ = omega arith in no)
  less-than false b n l = (l, λ e. absurd (false≢true e))

  nothing : (a b : Bool) → 0 < rest → 0 < m → cond a (cond b (min rest m) 0) rest ≡ 0 → (a ≡ true) × (b ≡ false)
  nothing true true p q e = absurd (let no : ⊥ = omega arith in no)
  nothing true false p q e = (refl, refl)
  nothing false b p q e = absurd (let no : ⊥ = omega arith in no)

  at_most : (a b : Bool) → cond a (cond b (min rest m) 0) rest ≤ rest
  at_most true true = omega arith
  at_most true false = omega arith
  at_most false b = omega arith

-- cut short, and its padding is 0 so far
pub record Cut (due left : ℕ) (came : List ℕ) : Type 0 where
  pub short : length came < body_length due
  pub zeros : eqb due 3 ≡ true → padding_fault left came ≡ 0

-- padding that is not 0 gives 7, whether the body is cut short or not
padded-same : (left : ℕ) (came t : List ℕ) → length came < body_length 3 → (padding_fault left came ≡ 0 → ⊥)
    → record_fault 3 left (3 ∷ (came ++ t)) ≡ record_fault 3 left (3 ∷ came)
unfolding body_length body_fault
padded-same left came t l h =
    seven ∙ sym (cut-fault 3 left refl came l)
  where
    seven : record_fault 3 left (3 ∷ (came ++ t)) ≡ 7
    seven =
        elim (dec_lt (length (came ++ t)) 32) [
          | yes m ↦ cut-fault 3 left refl (came ++ t) m
          | no g ↦ whole-fault 3 left refl (came ++ t) (omega arith) ∙ not-mended left came t (omega arith) h
        ]

module _ (due left : ℕ) (came : List ℕ) where
  abbrev missing : ℕ
  missing = body_length due - length came

  abbrev until_padding : ℕ
  until_padding = suc (left - length came)

  abbrev is_zero : Bool
  is_zero = eqb (padding_fault left came) 0

  wanted-is : wanted_body due left came ≡ cond (eqb due 3) (cond is_zero (min missing until_padding) 0) missing
  unfolding wanted_body
  wanted-is = by (eqb due 3) refl
    where
      by : (b : Bool) → eqb due 3 ≡ b → wanted_body due left came ≡ cond (eqb due 3) (cond is_zero (min missing until_padding) 0) missing
      by true e = rw (eqb-true due 3 e)
      by false e = rw e

  -- with fewer bytes than it wants it is cut short
  pub body-cut : (t : List ℕ) → length t < wanted_body due left came → Cut due left (came ++ t)
  body-cut t l =
      let p = less-than missing until_padding (eqb due 3) is_zero (length t) (omega (arith, wanted-is)) in
      record { short = omega (arith, p.0, length-append came t); zeros = λ e. zeros (p.1 e).0 (p.1 e).1 }
    where
      zeros : is_zero ≡ true → length t < until_padding → padding_fault left (came ++ t) ≡ 0
      zeros e l =
          elim (dec_lt 0 (length t)) [
            | yes m ↦ pixels-only left (came ++ t) (omega (arith, length-append came t))
            | no g ↦
                let none : [] ≡ t = take_all 0 t (omega arith) in
                ap (λ (t : List ℕ). padding_fault left (came ++ t)) (sym none) ∙ ap (padding_fault left) (append-nil came)
                ∙ eqb-true (padding_fault left came) 0 e
          ]

  -- where it wants none it is whole, or its padding is not 0
  body-decided : wanted_body due left came ≡ 0 → length came < body_length due → (due ≡ 3) × (padding_fault left came ≡ 0 → ⊥)
  body-decided e l =
      let p = nothing missing until_padding (eqb due 3) is_zero (omega arith) (omega arith) (sym wanted-is ∙ e) in
      (eqb-true due 3 p.0, eqb-false (padding_fault left came) 0 p.1)

  pub body-total : wanted_body due left came ≤ missing
  body-total = omega (arith, wanted-is, at_most missing until_padding (eqb due 3) is_zero)

  -- and then what follows does not change its fault
  pub body-still : known due ≡ true → wanted_body due left came ≡ 0 → (t : List ℕ)
      → record_fault due left (due ∷ (came ++ t)) ≡ record_fault due left (due ∷ came)
  body-still k e t =
      elim (dec_lt (length came) (body_length due)) [
        | yes l ↦ let p = body-decided e l in rw p.0 (padded-same left came t (rw p.0 at l) p.1)
        | no g ↦ fault-same due left (due ∷ came) t (omega arith)
      ]
