-- Request 10, "Strike a corner in two steps" (RULES 29): for any sequence of calls of `strike_corner`, refused or not.
-- `show_corner` borrows the buffer only to read it and takes count and change number by value, so it cannot change the
-- list.
use Rattle.std.specs.Prelude.{ℕ, ◌+◌, ◌<◌, ◌≤◌, ◌≡◌, List, ◌∷◌, ◌++◌, length, Result, Ok, Err}
use Rattle.lists.specs.declared.refusal.Refusal.{Refusal}
use Rattle.lists.specs.Refusals.{number_of}
use Rattle.corner_list.specs.declared.Corner.{Corner}
use Rattle.corner_list.specs.CornerList.{Slices, corner_at, corners_of, no_corner}
use Rattle.corner_strike.specs.declared.showing.Shown.{Shown}
use Rattle.corner_strike.specs.declared.striking.Strike.{Strike}
use Rattle.corner_strike.specs.Editions.{Edition}
use Rattle.corner_strike.specs.Showing.{Shows}
use Rattle.corner_strike.specs.Striking.{Strikes}

-- a list that is edited, and its corners
pub record Edited : Type 0 where
  pub buffer : Slices
  pub edition : Edition

abbrev pub edited_corners : Edited → List Corner
edited_corners s = corners_of s.buffer s.edition.count

-- ---- calls on a list, each with its promise word for word

-- of `show_corner`
pub record ShowCall (s : Edited) : Type 0 where
  pub place : ℕ
  pub answer : Result Shown Refusal
  pub promise : Shows s.buffer s.edition place answer

-- of `strike_corner`, with any place and any change number: `after` is the list that it leaves, in the buffer and the
-- two numbers that it borrows
pub record StrikeCall (s : Edited) : Type 0 where
  pub place : ℕ
  pub change : ℕ
  pub answer : Result Strike Refusal
  pub after : Edited
  pub promise : Strikes s.buffer s.edition place change answer after.buffer after.edition

-- any number of them, one after the other, from one list to another
pub data StrikeCalls : Edited → Edited → Type 0 where
  none : (s : Edited) → StrikeCalls s s
  more : (s s' : Edited) → StrikeCalls s s' → (c : StrikeCall s') → StrikeCalls s c.after

-- how many of them struck a corner
abbrev pub strikes_of : Result Strike Refusal → ℕ
strikes_of (Ok s) = 1
strikes_of (Err e) = 0

unfoldable pub struck_in : (s s' : Edited) → StrikeCalls s s' → ℕ
struck_in s s' (none _) = 0
struck_in s s' (more _ t calls c) = struck_in s t calls + strikes_of c.answer

-- ---- "The list has a change number from 0, raised by each strike and by nothing else."
pub record RaisedByStrikesOnly : Type 0 where
  -- one call: a strike removes one corner and raises the number by one, a refusal leaves the list unchanged
  pub struck : (s : Edited) (c : StrikeCall s) → number_of c.answer ≡ 0
      → (c.after.edition.change ≡ s.edition.change + 1) × (c.after.edition.count + 1 ≡ s.edition.count)
  pub refused : (s : Edited) (c : StrikeCall s) (e : Refusal) → c.answer ≡ Err e → c.after ≡ s
  -- many: the number has grown by how many corners were struck; if it began at 0, as the owner of a new list sets it,
  -- it is that number
  pub counted : (s s' : Edited) (calls : StrikeCalls s s')
      → s'.edition.change ≡ s.edition.change + struck_in s s' calls
  pub from_0 : (s s' : Edited) (calls : StrikeCalls s s') → s.edition.change ≡ 0
      → s'.edition.change ≡ struck_in s s' calls
  -- so a change number from before a strike strikes nothing after it
  pub once : (s s' : Edited) (calls : StrikeCalls s s') → 0 < struck_in s s' calls
      → (c : StrikeCall s') → c.change ≡ s.edition.change → number_of c.answer ≡ 0 → ⊥

-- ---- "it removes the corner at that place, later ones moving up and the freed last place becoming zero."

-- for each place of the buffer: those before it stay, each later corner moves to the place before its own, the last of
-- the list's places is 0 in every slice, and nothing after it changes
pub record MovedUp (s : Edited) (c : StrikeCall s) : Type 0 where
  pub before : (i : ℕ) → i < c.place → corner_at c.after.buffer i ≡ corner_at s.buffer i
  pub later : (i : ℕ) → c.place ≤ i → i + 1 < s.edition.count
      → corner_at c.after.buffer i ≡ corner_at s.buffer (i + 1)
  pub freed : (i : ℕ) → i + 1 ≡ s.edition.count → corner_at c.after.buffer i ≡ no_corner
  pub behind : (i : ℕ) → s.edition.count ≤ i → corner_at c.after.buffer i ≡ corner_at s.buffer i

abbrev pub LaterMoveUp : Type 0
LaterMoveUp = (s : Edited) (c : StrikeCall s) → number_of c.answer ≡ 0 → MovedUp s c

-- ---- "Where only strikes came between, a confirming not refused removes the very corner shown for that place and
-- number."

-- the corner k is removed from its place in a list, and nothing else changes
pub record Removed (k : Corner) (place : ℕ) (before after : List Corner) : Type 0 where
  pub first : List Corner
  pub later : List Corner
  pub place_is : length first ≡ place
  pub before_is : before ≡ first ++ (k ∷ later)
  pub after_is : after ≡ first ++ later

abbrev pub ShownIsStruck : Type 0
ShownIsStruck =
    (s s' : Edited) (showing : ShowCall s) (shown : Corner) (number : ℕ)
    → showing.answer ≡ Ok (record { corner = shown; change = number })
    → StrikeCalls s s'
    → (c : StrikeCall s') → c.place ≡ showing.place → c.change ≡ number → number_of c.answer ≡ 0
    → Removed shown c.place (edited_corners s') (edited_corners c.after)
