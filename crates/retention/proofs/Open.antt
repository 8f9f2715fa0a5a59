-- With fewer bytes than are wanted it is open what is printed: zeros behind them, or an unknown kind, make it another text. Assumes
-- nothing.
use Prim.Native.Nat.{ℕ, zero, suc, ◌+◌, ◌-◌, ◌^◌, ◌<◌, ◌≤◌}
use native.Mathlib.Decide.{dec_lt}
use native.Mathlib.Omega.{arith}
use mathlib.Core.Path.{◌≡◌, refl, sym, ap, ◌∙◌}
use mathlib.Core.Bool.{Bool, true, false, cond}
use mathlib.Core.List.{List, [], ◌∷◌, ◌++◌}
use lib.ListN.{length, get_or, drop, replicate, length-replicate}
use lib.Seq.{get_or_at}
use borrow.Author.Tests.{le-leb, lt-leb}
use Rattle.lists.specs.Places.{All}
use Rattle.listing.specs.Text.{decimal, refused_text}
use Rattle.retention.specs.Retention.{known}
use Rattle.retention.specs.Stream.{most_records, time_of, time_fault, kind_at, second_at, record_fault, place_of, lines_from, output_of}
use Rattle.retention.specs.Wanted.{wanted_record, wanted_from, wanted}
use Rattle.retention.proofs.Records.{timed, time-cut, time-late, time-none, whole, fault-end, fault-kind, fault-cut, fault-late}
use Rattle.retention.proofs.Records.{fault-none}
use Rattle.retention.proofs.Texts.{line_refused, line-letter, lines_end}
use Rattle.retention.proofs.Append.{settled-whole, longer, time-fault-same, kind-same, fault-same, item-same}
use Rattle.retention.proofs.Decided.{time-past, time-here, wanted-past, wanted-here, wanted-none, refused-time, listed-time}

-- some bytes that may follow change the text
pub record Opens (text : List ℕ → List ℕ) (s : List ℕ) : Type 0 where
  pub more : List ℕ
  pub bytes : All (λ v. v < 256) more
  pub differs : text (s ++ more) ≡ text s → ⊥

-- ---- texts that differ
refused-second : (n : ℕ) → get_or (refused_text n) 1 0 ≡ 101
unfolding refused_text
refused-second n = refl

digits-differ : refused_text 20 ≡ refused_text 7 → ⊥
unfolding refused_text decimal
digits-differ e = let digit = ap (λ (s : List ℕ). get_or s 8 0) e in let no : ⊥ = omega (arith, digit) in no

second-differs : (text : List ℕ) (n : ℕ) → get_or text 1 0 ≡ n → (n ≡ 101 → ⊥) → (k : ℕ) → text ≡ refused_text k → ⊥
second-differs text n is other k e = other (sym is ∙ ap (λ (s : List ℕ). get_or s 1 0) e ∙ refused-second k)

-- ---- zeros
zeros : (n : ℕ) → All (λ v. v < 256) (replicate n 0)
zeros zero = tt
zeros (suc n) = (omega arith, zeros n)

zeros-long : (s : List ℕ) (n : ℕ) → length (s ++ replicate n 0) ≡ length s + n
zeros-long s n = omega (arith, longer s (replicate n 0), length-replicate {A = ℕ} n 0)

-- ---- a time that is cut short
module _ (s : List ℕ) (cut : length s < 8) where
  abbrev filled : List ℕ
  filled = s ++ replicate (8 - length s) 0

  filled-long : length filled ≡ 8
  filled-long = omega (arith, zeros-long s (8 - length s))

  text-cut : output_of s ≡ refused_text 7
  text-cut = let is = time-cut s cut in refused-time s (λ z. let no : ⊥ = omega (arith, is) in no) ∙ ap refused_text is

  time-open : Opens output_of s
  time-open = record {
    more = replicate (8 - length s) 0;
    bytes = zeros (8 - length s);
    differs = λ e.
        elim (dec_lt (2 ^ 40) (time_of filled)) [
          | yes late ↦
              let is = time-late filled (omega (arith, filled-long)) late in
              digits-differ (sym (refused-time filled (λ z. let no : ⊥ = omega (arith, is) in no) ∙ ap refused_text is) ∙ e ∙ text-cut)
          | no g ↦
              let is = time-none filled (record { long = omega (arith, filled-long); early = omega arith }) in
              let nothing : output_of filled ≡ [] = listed-time filled is ∙ lines_end filled most_records 0 (omega (arith, filled-long)) in
              second-differs [] 0 refl (λ z. let no : ⊥ = omega arith in no) 7 (sym nothing ∙ e ∙ text-cut)
        ];
  }

-- ---- a record that is cut short, or has not begun
module _ (s : List ℕ) (n k : ℕ) where
  abbrev at : ℕ
  at = place_of k

  -- its kind may be unknown
  module _ (end : length s ≡ at) where
    abbrev unknown : List ℕ
    unknown = s ++ (0 ∷ [])

    unknown-long : length unknown ≡ suc at
    unknown-long = omega (arith, longer s (0 ∷ []))

    end-open : Opens (λ u. lines_from u (suc n) k) s
    end-open = record {
      more = 0 ∷ [];
      bytes = (omega arith, tt);
      differs = λ e.
          let kind : kind_at unknown at ≡ 0 = get_or_at s 0 [] 0 at end in
          let is = fault-kind unknown at (omega (arith, unknown-long)) (ap known kind) in
          let line = line_refused unknown n k (omega (arith, unknown-long)) 6 (sym is) (λ z. let no : ⊥ = omega arith in no) in
          second-differs [] 0 refl (λ z. let no : ⊥ = omega arith in no) 6 (sym (lines_end s (suc n) k (omega arith)) ∙ sym e ∙ line);
    }

  -- its body may be whole
  module _ (some : at < length s) (kind : known (kind_at s at) ≡ true) (cut : length s < at + 9) where
    abbrev body : List ℕ
    body = s ++ replicate (at + 9 - length s) 0

    body-long : length body ≡ at + 9
    body-long = omega (arith, zeros-long s (at + 9 - length s))

    body-kind : known (kind_at body at) ≡ true
    body-kind = ap known (kind-same s (replicate (at + 9 - length s) 0) at some) ∙ kind

    line-cut : lines_from s (suc n) k ≡ refused_text 7
    line-cut = line_refused s n k some 7 (sym (fault-cut s at some kind cut)) (λ z. let no : ⊥ = omega arith in no)

    body_open : Opens (λ u. lines_from u (suc n) k) s
    body_open = record {
      more = replicate (at + 9 - length s) 0;
      bytes = zeros (at + 9 - length s);
      differs = λ e.
          let here : at < length body = omega (arith, body-long) in
          elim (dec_lt (2 ^ 40) (second_at body at)) [
            | yes late ↦
                let is = fault-late body at here body-kind (omega (arith, body-long)) late in
                digits-differ (sym (line_refused body n k here 20 (sym is) (λ z. let no : ⊥ = omega arith in no)) ∙ e ∙ line-cut)
            | no g ↦
                let is = fault-none body at (record { long = omega (arith, body-long); kind-is = body-kind; early = omega arith }) in
                second-differs _ 10 refl (λ z. let no : ⊥ = omega arith in no) 7 (sym (line-letter body n k here is) ∙ e ∙ line-cut)
          ];
    }

  record-open : at ≤ length s → 0 < wanted_record s at → Opens (λ u. lines_from u (suc n) k) s
  unfolding wanted_record
  record-open l p =
      elim (dec_lt at (length s)) [
        | yes some ↦ go (known (kind_at s at)) refl (rw (lt-leb (length s) at some) at p) some
        | no g ↦ end-open (omega arith)
      ]
    where
      go : (b : Bool) → known (kind_at s at) ≡ b → 0 < cond b (at + 9 - length s) 0 → at < length s → Opens (λ u. lines_from u (suc n) k) s
      go true kind p some = body_open some kind (omega arith)
      go false kind p some = absurd (let no : ⊥ = omega arith in no)

-- ---- the records, and the whole
module _ (s : List ℕ) where
  lines-open : (n k : ℕ) → place_of k ≤ length s → 0 < wanted_from s n (suc k) → Opens (λ u. lines_from u n k) s
  lines-open zero k l p = absurd (let no : ⊥ = omega (arith, wanted-none s (suc k)) in no)
  lines-open (suc n) k l p =
      elim (dec_lt 0 (record_fault s (place_of k))) [
        | yes f ↦
            let h : record_fault s (place_of k) ≡ 0 → ⊥ = λ z. omega arith in
            record-open s n k l (rw (wanted-here s n k h) at p)
        | no g ↦
            let z : record_fault s (place_of k) ≡ 0 = omega arith in
            let done = settled-whole s (place_of k) z in
            let o = lines-open n (suc k) (omega (arith, (whole s (place_of k) z).long)) (rw (wanted-past s n k z) at p) in
            record {
              more = o.more;
              bytes = o.bytes;
              differs = λ e.
                  let first = line-letter (s ++ o.more) n k (omega (arith, done.some, longer s o.more))
                  (fault-same s o.more (place_of k) done ∙ z) in
                  o.differs (ap (drop 2) (sym first ∙ e ∙ line-letter s n k done.some z));
            }
      ]

  pub open-text : 0 < wanted s → Opens output_of s
  open-text p =
      elim (dec_lt 0 (time_fault s)) [
        | yes f ↦
            let h : time_fault s ≡ 0 → ⊥ = λ z. omega arith in
            time-open s (omega (arith, time-here s most_records h))
        | no g ↦
            let z : time_fault s ≡ 0 = omega arith in
            let long = (timed s z).long in
            let o = lines-open most_records 0 long (rw (time-past s most_records z) at p) in
            record {
              more = o.more;
              bytes = o.bytes;
              differs = λ e.
                  o.differs (sym (listed-time (s ++ o.more) (time-fault-same s o.more long ∙ z)) ∙ e ∙ listed-time s z);
            }
      ]

-- ---- with fewer than are wanted, some are still wanted
module _ (s t : List ℕ) where
  pub record Wanting (at : ℕ) : Type 0 where
    pub faulty : record_fault (s ++ t) at ≡ 0 → ⊥
    pub some : 0 < wanted_record (s ++ t) at

  record-fewer : (at : ℕ) → length t < wanted_record s at → Wanting at
  unfolding wanted_record
  record-fewer at l =
      elim (dec_lt at (length s)) [
        | yes some ↦ go (known (kind_at s at)) refl (rw (lt-leb (length s) at some) at l) some
        | no g ↦
            let one = rw (le-leb (length s) at (omega arith)) at l in
            let end : length (s ++ t) ≤ at = omega (arith, longer s t, one) in
            let is = fault-end (s ++ t) at end in
            record { faulty = λ z. let no : ⊥ = omega (arith, is) in no; some = rw (le-leb (length (s ++ t)) at end) (omega arith) }
      ]
    where
      go : (b : Bool) → known (kind_at s at) ≡ b → length t < cond b (at + 9 - length s) 0 → at < length s → Wanting at
      go false kind l some = absurd (let no : ⊥ = omega arith in no)
      go true kind l some =
          let here : at < length (s ++ t) = omega (arith, longer s t) in
          let same = ap known (kind-same s t at some) ∙ kind in
          let is = fault-cut (s ++ t) at here same (omega (arith, longer s t)) in
          record {
            faulty = λ z. let no : ⊥ = omega (arith, is) in no;
            some = rw (lt-leb (length (s ++ t)) at here, same) (omega (arith, longer s t));
          }

  lines-fewer : (n k : ℕ) → length t < wanted_from s n (suc k) → 0 < wanted_from (s ++ t) n (suc k)
  lines-fewer zero k l = absurd (let no : ⊥ = omega (arith, wanted-none s (suc k)) in no)
  lines-fewer (suc n) k l =
      elim (dec_lt 0 (record_fault s (place_of k))) [
        | yes f ↦
            let w = record-fewer (place_of k) (rw (wanted-here s n k (λ z. let no : ⊥ = omega arith in no)) at l) in
            rw (wanted-here (s ++ t) n k w.faulty) w.some
        | no g ↦
            let z : record_fault s (place_of k) ≡ 0 = omega arith in
            rw (wanted-past (s ++ t) n k (item-same s t (suc k) z)) (lines-fewer n (suc k) (rw (wanted-past s n k z) at l))
      ]

  pub fewer : length t < wanted s → 0 < wanted (s ++ t)
  fewer l =
      elim (dec_lt 0 (time_fault s)) [
        | yes f ↦
            let few = rw (time-here s most_records (λ z. let no : ⊥ = omega arith in no)) at l in
            let is = time-cut (s ++ t) (omega (arith, longer s t, few)) in
            rw (time-here (s ++ t) most_records (λ z. let no : ⊥ = omega (arith, is) in no)) (omega (arith, longer s t, few))
        | no g ↦
            let z : time_fault s ≡ 0 = omega arith in
            rw (time-past (s ++ t) most_records (item-same s t 0 z)) (lines-fewer most_records 0 (rw (time-past s most_records z) at l))
      ]
