-- Request 13, "What may be deleted": what `holding` tells about an item, what the program `retained` prints for a
-- stream, which is `output_of` of its input bytes, and how many of them it reads.
use Rattle.std.specs.Prelude.{ℕ, ◌+◌, ◌-◌, ◌<◌, ◌≤◌, ◌≡◌, ◌↔◌, ◌⊎◌, List, [], ◌∷◌, ◌++◌, length, take, Ok}
use Rattle.lists.specs.Places.{counted, flat_map, All}
use Rattle.listing.specs.Text.{newline, refused_text}
use Rattle.retention.specs.declared.Holding.{Holding}
use Rattle.retention.specs.declared.Holding.TheVariants.{NotYet, Held, Gone}
use Rattle.retention.specs.Retention.{day_of, letter_of}
use Rattle.retention.specs.Stream.{most_records, longest_input, state_at, place_of, output_of}
use Rattle.retention.specs.Wanted.{item_fault, items, wanted}
use Rattle.retention.specs.Answer.{StateTold}
use Rattle.demands.specs.Numbers.{OneOf}

-- ---- an item

-- a call of `holding` for an item of a kind, not refused, with its promise word for word
pub record HoldingCall (kind : ℕ) : Type 0 where
  pub start : ℕ
  pub time : ℕ
  pub answer : Holding
  pub promise : StateTold kind start time (Ok answer)

pub record HeldWhen : Type 0 where
  -- "Corner files: always from receipt."
  pub file_held : (c : HoldingCall 1) → (c.answer ≡ Held) ↔ (c.start ≤ c.time)
  pub file_never_gone : (c : HoldingCall 1) → c.answer ≡ Gone → ⊥
  -- "Photographs received on day d: days d to d+89, gone on d+90."
  pub photograph_held : (c : HoldingCall 2)
      → (c.answer ≡ Held) ↔ ((c.start ≤ c.time) × (day_of c.start ≤ day_of c.time)
      × (day_of c.time ≤ day_of c.start + 89))
  pub photograph_gone : (c : HoldingCall 2) → (c.answer ≡ Gone) ↔ (day_of c.start + 90 ≤ day_of c.time)
  -- "Tokens issued at second t: from t up to but excluding t + 604,800."
  pub token_held : (c : HoldingCall 3) → (c.answer ≡ Held) ↔ ((c.start ≤ c.time) × (c.time < c.start + 604800))
  pub token_gone : (c : HoldingCall 3) → (c.answer ≡ Gone) ↔ (c.start + 604800 ≤ c.time)
  -- before its second an item is not held yet, even a photograph on its own day (RULES 32.2)
  pub not_yet : {kind : ℕ} (c : HoldingCall kind) → (c.answer ≡ NotYet) ↔ (c.time < c.start)
  -- what is gone stays gone
  pub gone_for_good : {kind : ℕ} (c d : HoldingCall kind) → c.start ≡ d.start → c.time ≤ d.time
      → c.answer ≡ Gone → d.answer ≡ Gone

-- ---- a stream

-- the line of record i, the first being record 0: "the letter N, H or G .., a line each"
abbrev pub line_of : List ℕ → ℕ → List ℕ
line_of input i = letter_of (state_at input (place_of i)) ∷ newline ∷ []

-- the lines of the first k records, "in input order"
abbrev pub lines_to : List ℕ → ℕ → List ℕ
lines_to input k = flat_map (line_of input) (counted 0 k)

-- no fault: the stream ends after k records, or k is 65,536
pub record PrintsLetters (input : List ℕ) : Type 0 where
  pub count : ℕ
  pub few : count ≤ most_records
  pub sound : (i : ℕ) → i ≤ count → item_fault input i ≡ 0
  pub all : (length input ≡ place_of count) ⊎ (count ≡ most_records)
  pub prints : output_of input ≡ lines_to input count

-- "at a faulty record or time, a line `refused N` with its number ends the output": the first item with a fault, where
-- item 0 is the time and item k + 1 is record k
pub record EndsRefused (input : List ℕ) : Type 0 where
  pub item : ℕ
  pub few : item < items
  pub before : (i : ℕ) → i < item → item_fault input i ≡ 0
  pub number : ℕ
  pub fault : item_fault input item ≡ number
  pub numbered : OneOf number (6 ∷ 7 ∷ 20 ∷ [])
  pub prints : output_of input ≡ lines_to input (item - 1) ++ refused_text number

-- letters, then nothing or one refusal
abbrev pub RetainedTotal : Type 0
RetainedTotal = (input : List ℕ) → PrintsLetters input ⊎ EndsRefused input

-- ---- what is read

-- some bytes that may follow make it print something else
pub record RetainedUndecided (input : List ℕ) : Type 0 where
  pub more : List ℕ
  pub bytes : All (λ v. v < 256) more
  pub differs : output_of (input ++ more) ≡ output_of input → ⊥

pub record RetainedReads : Type 0 where
  -- "at most 65,536 records are read and what follows is not"
  pub most : (input : List ℕ) → output_of (take longest_input input) ≡ output_of input
  -- nor do bytes after a fault matter, unless the input ends there
  pub behind_fault : (input : List ℕ) (r : EndsRefused input) → (r.number ≡ 7 → ⊥) → (t : List ℕ)
      → output_of (input ++ t) ≡ output_of input
  -- it reads `wanted` more bytes at a time, until that is 0. Then what follows changes nothing, and with fewer bytes it
  -- may
  pub decided : (input : List ℕ) → wanted input ≡ 0 → (t : List ℕ) → output_of (input ++ t) ≡ output_of input
  pub undecided : (input t : List ℕ) → length t < wanted input → RetainedUndecided (input ++ t)
  pub within : (input : List ℕ) → 0 < wanted input → length input + wanted input ≤ longest_input
