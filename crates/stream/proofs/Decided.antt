-- The bytes that are wanted are those that decide what is read: with none it is decided, and with fewer it is open. Assumes nothing.
use Prim.Native.Nat.{ℕ, zero, suc, ◌+◌, ◌-◌, ◌*◌, ◌<◌, ◌≤◌}
use native.Mathlib.Nat.{mul-le-mul}
use native.Mathlib.Decide.{dec_lt}
use native.Mathlib.Omega.{arith}
use mathlib.Core.Path.{◌≡◌, refl, sym, ap, ap₂, ◌∙◌}
use mathlib.Core.Bool.{Bool, true, false, cond}
use mathlib.Core.List.{List, [], ◌∷◌, ◌++◌, append_assoc}
use lib.ListN.{length, take, length-drop}
use lib.Seq.{drop-append-le}
use lib.Dec.{eqb}
use borrow.Author.Tests.{ne_eqb, eqb-true, eqb-false}
use Rattle.stream.specs.declared.Header.{Header}
use Rattle.stream.specs.Stream.{most_pixels, longest_stream, u16, known, body_length, body_of, behind, header_of, body_fault, record_fault}
use Rattle.stream.specs.Stream.{Reading, accepted, refused, read_record, records_for, read_pixels, read_parameters, read_frame}
use Rattle.stream.specs.Wanted.{wanted_body, wanted_here, wanted_record, wanted_pixels, wanted_parameters, wanted}
use Rattle.stream.proofs.Meaning.{Open, Wanted}
use Rattle.stream.proofs.Records.{sound, fault-same, body_same}
use Rattle.stream.proofs.Order.{read-faulty, read-sound, small-sides}
use Rattle.stream.proofs.CutShort.{other-kind, cut-open, body-cut, body-still, body-total}

within : {read : List ℕ → Reading} {most : ℕ} {s : List ℕ} {n : ℕ} (more : ℕ) → most ≤ more → Wanted read most s n → Wanted read more s n
within more l w = record { decided = w.decided; fewer = w.fewer; total = λ p. omega (arith, w.total p) }

-- ---- the records from one on, where kind `due` is due
module _ (due left : ℕ) (k : known due ≡ true) (next : List ℕ → List ℕ → Reading)
    (unknown : 0 < body_length due → (body : List ℕ) → next body (0 ∷ []) ≡ refused 6) (most : ℕ) where
  abbrev read : List ℕ → Reading
  read s = read_record due left s next

  abbrev all : ℕ
  all = 1 + body_length due + most

  -- no byte: the kind is wanted, and it may be unknown
  nothing-open : Open read []
  unfolding read_record record_fault
  nothing-open = record { cut = refl; more = 0 ∷ []; bytes = (omega arith, tt); number = 6; other = omega arith; refusal = refl }

  nothing-fewer : (t : List ℕ) → length t < 1 → Open read t
  nothing-fewer [] l = nothing-open
  nothing-fewer (v ∷ t) l = absurd (let no : ⊥ = omega arith in no)

  -- a faulty record
  same-fault : (s t : List ℕ) → record_fault due left t ≡ record_fault due left s → (record_fault due left s ≡ 0 → ⊥) → read t ≡ read s
  same-fault s t e h =
      read-faulty due left t next (λ z. h (sym e ∙ z)) ∙ ap refused e ∙ sym (read-faulty due left s next h)

  kind-came : (kind : ℕ) (came : List ℕ) → (record_fault due left (kind ∷ came) ≡ 0 → ⊥) → (b : Bool) → eqb kind due ≡ b
      → Wanted read all (kind ∷ came) (cond b (wanted_body due left came) 0)
  kind-came kind came h true e =
      let is = eqb-true kind due e in
      rw is (record {
        decided = λ z t. same-fault (due ∷ came) (due ∷ (came ++ t)) (body-still due left came k z t) (rw is at h);
        fewer = λ t l. let c = body-cut due left came t l in
            cut-open due left k next (unknown (omega (arith, c.short))) (came ++ t) c.short c.zeros;
        total = λ p. omega (arith, body-total due left came);
      })
  kind-came kind came h false e =
      record {
        decided = λ z t. same-fault (kind ∷ came) (kind ∷ (came ++ t)) (other-kind due left kind (came ++ t) came (eqb-false kind due e)) h;
        fewer = λ t l. absurd (let no : ⊥ = omega arith in no);
        total = λ p. absurd (let no : ⊥ = omega arith in no);
      }

  here-wants : (s : List ℕ) → (record_fault due left s ≡ 0 → ⊥) → Wanted read all s (wanted_here due left s)
  unfolding wanted_here
  here-wants [] h = record { decided = λ z. absurd (let no : ⊥ = omega arith in no); fewer = nothing-fewer; total = λ p. omega arith }
  here-wants (kind ∷ came) h = kind-came kind came h (eqb kind due) refl

  -- a record without fault: what is read and wanted behind it
  module _ (s : List ℕ) (e : record_fault due left s ≡ 0) where
    long : 1 + body_length due ≤ length s
    long = (sound due left s e).long

    read_past : (t : List ℕ) → read (s ++ t) ≡ next (body_of due s) (behind due s ++ t)
    read_past t =
        read-sound due left (s ++ t) next (fault-same due left s t long ∙ e)
        ∙ ap₂ next (body_same due s t long) (drop-append-le (1 + body_length due) s t long)

    past-wants : (n : ℕ) → Wanted (next (body_of due s)) most (behind due s) n → Wanted read all s n
    past-wants n w = record {
      decided = λ z t. read_past t ∙ w.decided z t ∙ sym (read-sound due left s next e);
      fewer = λ t l.
          let o = w.fewer t l in
          record {
            cut = read_past t ∙ o.cut;
            more = o.more;
            bytes = o.bytes;
            number = o.number;
            other = o.other;
            refusal =
                ap read (append_assoc s t o.more)
                ∙ read_past (t ++ o.more)
                ∙ ap (next (body_of due s)) (sym (append_assoc (behind due s) t o.more))
                ∙ o.refusal;
          };
      total = λ p. omega (arith, w.total p, long, length-drop (1 + body_length due) s);
    }

  record-wants : (next_wanted : List ℕ → List ℕ → ℕ) (s : List ℕ)
      → (record_fault due left s ≡ 0 → Wanted (next (body_of due s)) most (behind due s) (next_wanted (body_of due s) (behind due s)))
      → Wanted read all s (wanted_record due left s next_wanted)
  unfolding wanted_record
  record-wants next_wanted s h =
      elim (dec_lt 0 (record_fault due left s)) [
        | yes l ↦ let f : record_fault due left s ≡ 0 → ⊥ = λ z. omega arith in rw (ne_eqb (record_fault due left s) 0 f) (here-wants s f)
        | no g ↦ let z : record_fault due left s ≡ 0 = omega arith in
            rw z (past-wants s z (next_wanted (body_of due s) (behind due s)) (h z))
      ]

-- ---- the pixels and the end, the parameters, the sides
pixels-unknown : (n : ℕ) (h : Header) (left : ℕ) (done : List ℕ) → read_pixels n h left done (0 ∷ []) ≡ refused 6
unfolding read_pixels
pixels-unknown zero h left done = refl
pixels-unknown (suc n) h left done = refl

pixels-wants : (n : ℕ) (h : Header) (left : ℕ) (done s : List ℕ)
    → Wanted (read_pixels n h left done) (33 * n + 1) s (wanted_pixels n left s)
unfolding read_pixels wanted_pixels body_length
pixels-wants zero h left done s =
    record-wants 4 left refl (λ body rest. accepted h done) (λ p. absurd (let no : ⊥ = omega arith in no)) 0 (λ body rest. 0) s
    (λ e. record {
      decided = λ z t. refl;
      fewer = λ t l. absurd (let no : ⊥ = omega arith in no);
      total = λ p. absurd (let no : ⊥ = omega arith in no);
    })
pixels-wants (suc n) h left done s =
    within (33 * suc n + 1) (omega arith)
    (record-wants 3 left refl (λ body rest. read_pixels n h (left - 32) (done ++ take left body) rest)
    (λ p body. pixels-unknown n h (left - 32) (done ++ take left body)) (33 * n + 1)
    (λ body rest. wanted_pixels n (left - 32) rest) s
    (λ e. pixels-wants n h (left - 32) (done ++ take left (body_of 3 s)) (behind 3 s)))

module _ (sides : List ℕ) (small : u16 sides 0 * u16 sides 2 ≤ most_pixels) where
  abbrev count : ℕ
  count = u16 sides 0 * u16 sides 2

  parameters-wants : (s : List ℕ) → Wanted (read_parameters sides) 9522 s (wanted_parameters sides s)
  unfolding read_parameters wanted_parameters body_length
  parameters-wants s =
      within 9522 (omega arith)
      (record-wants 2 0 refl (λ parameters rest. read_pixels (records_for count) (header_of sides parameters) count [] rest)
      (λ p parameters. pixels-unknown (records_for count) (header_of sides parameters) count []) (33 * records_for count + 1)
      (λ parameters rest. wanted_pixels (records_for count) count rest) s
      (λ e. pixels-wants (records_for count) (header_of sides (body_of 2 s)) count [] (behind 2 s)))

pub frame-wants : (s : List ℕ) → Wanted read_frame longest_stream s (wanted s)
unfolding read_frame read_parameters wanted body_length body_fault
frame-wants s =
    record-wants 1 0 refl read_parameters (λ p sides. refl) 9522 wanted_parameters s
    (λ e.
    let small = small-sides (u16 (body_of 1 s) 0) (u16 (body_of 1 s) 2) (sound 1 0 s e).body in
    parameters-wants (body_of 1 s) (omega (arith, mul-le-mul small.0 small.1)) (behind 1 s))
