-- A list that is edited (RULES 29.1): a buffer of corners, its count and its change number; and the conditions that
-- both calls on it check.
use Rattle.std.specs.Prelude.{ℕ, ◌+◌, ◌-◌, Bool, not, eqb, ltb, leb}

-- what a list has besides its buffer: how many corners, and its change number (RULES 29.1)
pub record Edition : Type 0 where
  pub count : ℕ
  pub change : ℕ

-- a list of that many corners with this change number (RULES 29.1)
abbrev pub edition : ℕ → ℕ → Edition
edition count change = record { count = count; change = change }

-- one corner struck: one corner fewer, and the change number raised by one (RULES 29.1)
abbrev pub raised : Edition → Edition
raised e = edition (e.count - 1) (e.change + 1)

-- ---- conditions (RULES 2.2)

-- 10: the count of the list exceeds its buffer's places
abbrev pub lacks_places : ℕ → ℕ → Bool
lacks_places places count = ltb places count

-- 16: the change number given differs from the list's
abbrev pub is_other : Edition → ℕ → Bool
is_other e change = not (eqb change e.change)

-- 17: the place is beyond the list; places count from 0
abbrev pub is_beyond : ℕ → ℕ → Bool
is_beyond count place = leb count place

-- 18: the largest change number, the largest u32
abbrev pub largest_change : ℕ
largest_change = 4294967295

abbrev pub is_largest : Edition → Bool
is_largest e = eqb e.change largest_change
