-- From the definition of an item's state, and from the laws of `retention` on the items of a stream. Assumes nothing.
use Prim.Native.Nat.{ℕ, zero, suc, ◌+◌, ◌-◌, ◌<◌, ◌≤◌}
use native.Mathlib.Decide.{dec_lt}
use native.Mathlib.Omega.{arith}
use mathlib.Core.Path.{◌≡◌, refl, sym, ap, ◌∙◌}
use mathlib.Core.Logic.{◌↔◌, ◌⊎◌, inl, inr, ⊎_elim}
use mathlib.Core.Bool.{Bool, true, false, cond, not, true≢false, false≢true}
use mathlib.Core.List.{List, [], ◌∷◌, ◌++◌, append-nil}
use lib.ListN.{length, take, drop, take-append-drop}
use lib.Seq.{take_all, length-take-le}
use lib.Dec.{ltb, leb, eqb}
use borrow.Author.Tests.{lt-ltb, le-ltb, le-leb, lt-leb, ltb-true, ltb-false, leb-true, leb-false, ne_eqb}
use Rattle.lists.specs.Places.{counted, flat_map}
use Rattle.listing.specs.Text.{refused_text}
use Rattle.retention.specs.declared.Holding.{Holding}
use Rattle.lists.proofs.Judged.{judged-ok}
use Rattle.retention.specs.declared.Holding.TheVariants.{NotYet, Held, Gone}
use Rattle.retention.specs.Retention.{known, day_of, stays, state_of, is_late, letter_of}
use Rattle.retention.specs.Stream.{most_records, longest_input, time_of, time_fault, kind_at, second_at, record_fault, place_of, lines_from}
use Rattle.retention.specs.Stream.{output_of}
use Rattle.retention.specs.Wanted.{item_fault, wanted_item, passed_from, wanted_from, items, wanted}
use Rattle.retention.proofs.Records.{timed, time-cut, whole, fault-end, fault-cut}
use Rattle.retention.proofs.Append.{settled-none}
use Rattle.retention.proofs.Texts.{line_refused, line-letter, lines_none, lines_end}
use Rattle.retention.proofs.Passing.{Before, before-none, before-passing, passed-before, passed-stops}
use Rattle.retention.proofs.Decided.{decided, most, refused-time, listed-time}
use Rattle.retention.proofs.Open.{open-text, fewer}
use Rattle.demands.specs.Numbers.{OneOf}
use Rattle.demands.specs.Retention.{HoldingCall, HeldWhen, line_of, lines_to, PrintsLetters, EndsRefused, RetainedTotal}
use Rattle.demands.specs.Retention.{RetainedUndecided, RetainedReads}
use Rattle.demands.proofs.Tables.{widen, numbered-one}

-- ---- a state by its two tests: before the start, and still held
abbrev by : Bool → Bool → Holding
by early held = cond early NotYet (cond held Held Gone)

-- two states that print alike are alike
apart : {A : Type 0} {p q : Holding} → (letter_of p ≡ letter_of q → ⊥) → p ≡ q → A
apart h e = absurd (h (ap letter_of e))

by-not-yet : (a b : Bool) → (by a b ≡ NotYet) ↔ (a ≡ true)
by-not-yet true b = (λ e. refl, λ e. refl)
by-not-yet false true = (apart (λ z. omega arith), λ e. absurd (false≢true e))
by-not-yet false false = (apart (λ z. omega arith), λ e. absurd (false≢true e))

by-held : (a b : Bool) → (by a b ≡ Held) ↔ ((a ≡ false) × (b ≡ true))
by-held true b = (apart (λ z. omega arith), λ h. absurd (true≢false h.0))
by-held false true = (λ e. (refl, refl), λ h. refl)
by-held false false = (apart (λ z. omega arith), λ h. absurd (false≢true h.1))

by-gone : (a b : Bool) → (by a b ≡ Gone) ↔ ((a ≡ false) × (b ≡ false))
by-gone true b = (apart (λ z. omega arith), λ h. absurd (true≢false h.0))
by-gone false true = (apart (λ z. omega arith), λ h. absurd (true≢false h.1))
by-gone false false = (λ e. (refl, refl), λ h. refl)

-- ---- a call that was not refused
module _ {kind : ℕ} (c : HoldingCall kind) where
  abbrev early : Bool
  early = ltb c.time c.start

  abbrev held : Bool
  held = stays kind c.start c.time

  answer-is : c.answer ≡ by early held
  unfolding state_of
  answer-is =
      (judged-ok _ _ _ c.promise.answer).1

  not_yet : (c.answer ≡ NotYet) ↔ (c.time < c.start)
  not_yet = (
    λ e. ltb-true c.time c.start ((by-not-yet early held).0 (sym answer-is ∙ e)),
    λ l. answer-is ∙ (by-not-yet early held).1 (lt-ltb c.time c.start l),
  )

  -- held, and gone, by the second test
  held_by : (c.answer ≡ Held) ↔ ((c.start ≤ c.time) × (held ≡ true))
  held_by = (
    λ e. let h = (by-held early held).0 (sym answer-is ∙ e) in (ltb-false c.time c.start h.0, h.1),
    λ h. answer-is ∙ (by-held early held).1 (le-ltb c.time c.start h.0, h.1),
  )

  gone-by : (c.answer ≡ Gone) ↔ ((c.start ≤ c.time) × (held ≡ false))
  gone-by = (
    λ e. let h = (by-gone early held).0 (sym answer-is ∙ e) in (ltb-false c.time c.start h.0, h.1),
    λ h. answer-is ∙ (by-gone early held).1 (le-ltb c.time c.start h.0, h.1),
  )

module _ (c : HoldingCall 1) where
  file_held : (c.answer ≡ Held) ↔ (c.start ≤ c.time)
  unfolding stays
  file_held = (λ e. ((held_by c).0 e).0, λ l. (held_by c).1 (l, refl))

  file_never_gone : c.answer ≡ Gone → ⊥
  unfolding stays
  file_never_gone e = true≢false ((gone-by c).0 e).1

module _ (c : HoldingCall 2) where
  abbrev first : ℕ
  first = day_of c.start

  abbrev today : ℕ
  today = day_of c.time

  photograph_held : (c.answer ≡ Held) ↔ ((c.start ≤ c.time) × (first ≤ today) × (today ≤ first + 89))
  unfolding stays
  photograph_held = (
    λ e. let h = (held_by c).0 e in let l = h.0 in (l, omega arith, leb-true today (first + 89) h.1),
    λ h. (held_by c).1 (h.0, le-leb today (first + 89) h.2),
  )

  photograph_gone : (c.answer ≡ Gone) ↔ (first + 90 ≤ today)
  unfolding stays
  photograph_gone = (
    λ e. let l = leb-false today (first + 89) ((gone-by c).0 e).1 in omega arith,
    λ l. (gone-by c).1 (omega arith, lt-leb today (first + 89) (omega arith)),
  )

module _ (c : HoldingCall 3) where
  abbrev end : ℕ
  end = c.start + 604800

  token_held : (c.answer ≡ Held) ↔ ((c.start ≤ c.time) × (c.time < end))
  unfolding stays
  token_held = (
    λ e. let h = (held_by c).0 e in (h.0, ltb-true c.time end h.1),
    λ h. (held_by c).1 (h.0, lt-ltb c.time end h.1),
  )

  token_gone : (c.answer ≡ Gone) ↔ (end ≤ c.time)
  unfolding stays
  token_gone = (λ e. ltb-false c.time end ((gone-by c).0 e).1, λ l. (gone-by c).1 (omega arith, le-ltb c.time end l))

-- what does not stay, does not later
stays-not : (kind start time later : ℕ) → time ≤ later → stays kind start time ≡ false → stays kind start later ≡ false
unfolding stays
stays-not kind start time later l = go (eqb kind 1) (eqb kind 2)
  where
    days : leb (day_of time) (day_of start + 89) ≡ false → leb (day_of later) (day_of start + 89) ≡ false
    days e = let past = leb-false (day_of time) (day_of start + 89) e in lt-leb (day_of later) (day_of start + 89) (omega arith)

    seconds : ltb time (start + 604800) ≡ false → ltb later (start + 604800) ≡ false
    seconds e = let past = ltb-false time (start + 604800) e in le-ltb later (start + 604800) (omega arith)

    go : (file photograph : Bool)
        → cond file true (cond photograph (leb (day_of time) (day_of start + 89)) (ltb time (start + 604800))) ≡ false
        → cond file true (cond photograph (leb (day_of later) (day_of start + 89)) (ltb later (start + 604800))) ≡ false
    go true photograph e = e
    go false true e = days e
    go false false e = seconds e

gone_for_good : {kind : ℕ} (c d : HoldingCall kind) → c.start ≡ d.start → c.time ≤ d.time → c.answer ≡ Gone → d.answer ≡ Gone
gone_for_good {kind} c d same l e =
    let h = (gone-by c).0 e in
    let late = h.0 in
    (gone-by d).1 (omega arith, rw same at (stays-not kind c.start c.time d.time l h.1))

pub held_when : HeldWhen
held_when = record {
  file_held = file_held;
  file_never_gone = file_never_gone;
  photograph_held = photograph_held;
  photograph_gone = photograph_gone;
  token_held = token_held;
  token_gone = token_gone;
  not_yet = not_yet;
  gone_for_good = gone_for_good;
}

-- ---- what is printed
module _ (s : List ℕ) where
  -- the lines of c records without fault, and those behind them
  lines_of : (c n k : ℕ) → ((i : ℕ) → k ≤ i → i < k + c → record_fault s (place_of i) ≡ 0)
      → lines_from s (c + n) k ≡ flat_map (line_of s) (counted k c) ++ lines_from s n (k + c)
  unfolding counted
  lines_of zero n k sound =
      let none : 0 + n ≡ n = omega arith in
      let here : k + 0 ≡ k = omega arith in
      rw (none, here)
  lines_of (suc c) n k sound =
      let fault = sound k (omega arith) (omega arith) in
      let one : suc c + n ≡ suc (c + n) = omega arith in
      let next : suc k + c ≡ k + suc c = omega arith in
      ap (λ (m : ℕ). lines_from s m k) one
      ∙ line-letter s (c + n) k (omega (arith, (whole s (place_of k) fault).long)) fault
      ∙ ap (λ (l : List ℕ). line_of s k ++ l)
      (lines_of c n (suc k) (λ i m l. sound i (omega arith) (omega arith))
      ∙ ap (λ (m : ℕ). flat_map (line_of s) (counted (suc k) c) ++ lines_from s n m) next)

  -- ---- where the items before record c have no fault
  module _ (c : ℕ) (b : Before s (suc c)) where
    few : c ≤ most_records
    few = omega (arith, b.most)

    abbrev left : ℕ
    left = most_records - c

    reached : (k : ℕ) → Before s (suc k) → place_of k ≤ length s
    reached zero b = (timed s (b.sound 0 (omega arith))).long
    reached (suc k) b = omega (arith, (whole s (place_of k) (b.sound (suc k) (omega arith))).long)

    prints : output_of s ≡ lines_to s c ++ lines_from s left c
    prints =
        let all : c + left ≡ most_records = omega (arith, few) in
        let first : 0 + c ≡ c = omega arith in
        listed-time s (b.sound 0 (omega arith))
        ∙ ap (λ (n : ℕ). lines_from s n 0) (sym all)
        ∙ lines_of c left 0 (λ i m l. b.sound (suc i) (omega arith))
        ∙ ap (λ (k : ℕ). lines_to s c ++ lines_from s left k) first

    lists : lines_from s left c ≡ [] → (length s ≡ place_of c) ⊎ (c ≡ most_records) → PrintsLetters s
    lists none end = record {
      count = c;
      few = few;
      sound = λ i l. b.sound i (omega arith);
      all = end;
      prints = prints ∙ ap (λ (l : List ℕ). lines_to s c ++ l) none ∙ append-nil (lines_to s c);
    }

    -- all 65,536 of them
    all_read : most_records ≤ c → PrintsLetters s
    all_read l =
        let none : left ≡ 0 = omega arith in
        lists (ap (λ (n : ℕ). lines_from s n c) none ∙ lines_none s c) (inr (omega (arith, few)))

    -- no byte more
    all-ended : length s ≤ place_of c → PrintsLetters s
    all-ended l = lists (lines_end s left c l) (inl (omega (arith, reached c b)))

    -- record c has a fault
    abbrev fault : ℕ
    fault = record_fault s (place_of c)

    record-numbered : 0 < fault → OneOf fault (6 ∷ 7 ∷ 20 ∷ [])
    unfolding record_fault
    record-numbered l =
        widen fault (7 ∷ 6 ∷ 7 ∷ 20 ∷ []) (6 ∷ 7 ∷ 20 ∷ []) refl
        (numbered-one
        ((leb (length s) (place_of c), 7)
        ∷ (not (known (kind_at s (place_of c))), 6)
        ∷ (ltb (length s) (place_of c + 9), 7)
        ∷ (is_late (second_at s (place_of c)), 20)
        ∷ [])
        fault refl l)

    refused : c < most_records → place_of c < length s → (fault ≡ 0 → ⊥) → EndsRefused s
    refused l some h =
        let one : left ≡ suc (most_records - suc c) = omega arith in
        let back : suc c - 1 ≡ c = omega arith in
        record {
          item = suc c;
          few = omega arith;
          before = b.sound;
          number = fault;
          fault = refl;
          numbered = record-numbered (omega (arith, h));
          prints =
              prints
              ∙ ap (λ (n : ℕ). lines_to s c ++ lines_from s n c) one
              ∙ ap (λ (l : List ℕ). lines_to s c ++ l) (line_refused s (most_records - suc c) c some fault refl h)
              ∙ ap (λ (k : ℕ). lines_to s k ++ refused_text fault) (sym back);
        }

  -- ---- the time has a fault
  time-numbered : 0 < time_fault s → OneOf (time_fault s) (6 ∷ 7 ∷ 20 ∷ [])
  unfolding time_fault
  time-numbered l =
      widen (time_fault s) (7 ∷ 20 ∷ []) (6 ∷ 7 ∷ 20 ∷ []) refl
      (numbered-one ((ltb (length s) 8, 7) ∷ (is_late (time_of s), 20) ∷ []) (time_fault s) refl l)

  time-refused : (time_fault s ≡ 0 → ⊥) → EndsRefused s
  unfolding counted
  time-refused h = record {
    item = 0;
    few = omega arith;
    before = λ i l. absurd (let no : ⊥ = omega arith in no);
    number = time_fault s;
    fault = refl;
    numbered = time-numbered (omega (arith, h));
    prints = refused-time s h;
  }

  -- ---- by the first item that is not passed
  by-passed : (p : ℕ) → Before s p → (p < items → item_fault s p ≡ 0 → ⊥) → PrintsLetters s ⊎ EndsRefused s
  by-passed zero b stops = inr (time-refused (stops (omega arith)))
  by-passed (suc c) b stops =
      elim (dec_lt c most_records) [
        | yes l ↦
            elim (dec_lt (place_of c) (length s)) [
              | yes some ↦ inr (refused c b l some (stops (omega arith)))
              | no g ↦ inl (all-ended c b (omega arith))
            ]
        | no g ↦ inl (all_read c b (omega arith))
      ]

pub retained_total : RetainedTotal
retained_total s = by-passed s (passed_from s items 0) (passed-before s items 0 refl (before-none s)) (passed-stops s items 0)

-- ---- what is read
cut_short : (s : List ℕ) → output_of (take longest_input s) ≡ output_of s
cut_short s =
    elim (dec_lt longest_input (length s)) [
      | yes l ↦
          let front = take longest_input s in
          let long = length-take-le longest_input s (omega arith) in
          let none : wanted front ≡ 0 =
          elim (dec_lt 0 (wanted front)) [
            | yes some ↦ absurd (let no : ⊥ = omega (arith, most front some, long) in no)
            | no g ↦ omega arith
          ] in
          sym (decided front (drop longest_input s) none) ∙ ap output_of (take-append-drop longest_input s)
      | no g ↦ ap output_of (take_all longest_input s (omega arith))
    ]

module _ (s : List ℕ) where
  -- an item with a fault that is not cut short wants no byte
  item-settled : (k : ℕ) → (item_fault s k ≡ 7 → ⊥) → wanted_item s k ≡ 0
  item-settled zero h =
      elim (dec_lt (length s) 8) [
        | yes l ↦ absurd (h (time-cut s l))
        | no g ↦ omega arith
      ]
  item-settled (suc k) h = settled-none s (place_of k) (record { some = some; all = all })
    where
      some : place_of k < length s
      some =
          elim (dec_lt (place_of k) (length s)) [
            | yes l ↦ l
            | no g ↦ absurd (h (fault-end s (place_of k) (omega arith)))
          ]

      all : known (kind_at s (place_of k)) ≡ true → place_of k + 9 ≤ length s
      all kind =
          elim (dec_lt (length s) (place_of k + 9)) [
            | yes l ↦ absurd (h (fault-cut s (place_of k) some kind l))
            | no g ↦ omega arith
          ]

  -- and it is the first
  first-wanted : (n k : ℕ) → (item_fault s k ≡ 0 → ⊥) → wanted_from s (suc n) k ≡ wanted_item s k
  unfolding wanted_from
  first-wanted n k h = rw (ne_eqb (item_fault s k) 0 h)

  some_number : (n : ℕ) → OneOf n (6 ∷ 7 ∷ 20 ∷ []) → 0 < n
  some_number n o = ⊎_elim (λ e. omega arith) (λ p. ⊎_elim (λ e. omega arith) (λ q. ⊎_elim (λ e. omega arith) (λ no. absurd no) q) p) o

  behind_fault : (r : EndsRefused s) → (r.number ≡ 7 → ⊥) → (t : List ℕ) → output_of (s ++ t) ≡ output_of s
  behind_fault r h t =
      let k = r.item in
      let some = some_number r.number r.numbered in
      let one : items - k ≡ suc (items - suc k) = omega (arith, r.few) in
      let none : wanted s ≡ 0 =
      (before-passing s k (record { most = omega (arith, r.few); sound = r.before })).bytes
      ∙ ap (λ (n : ℕ). wanted_from s n k) one
      ∙ first-wanted (items - suc k) k (λ z. let no : ⊥ = omega (arith, r.fault) in no)
      ∙ item-settled k (λ e. h (sym r.fault ∙ e)) in
      decided s t none

undecided : (s t : List ℕ) → length t < wanted s → RetainedUndecided (s ++ t)
undecided s t l = let o = open-text (s ++ t) (fewer s t l) in record { more = o.more; bytes = o.bytes; differs = o.differs }

pub retained_reads : RetainedReads
retained_reads = record {
  most = cut_short;
  behind_fault = behind_fault;
  decided = λ s w t. decided s t w;
  undecided = undecided;
  within = most;
}
