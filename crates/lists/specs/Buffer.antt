-- What a buffer, a slice that a call borrows (RULES 1.6), holds after the call.
use Rattle.std.specs.Prelude.{ℕ, ◌+◌, ◌-◌, ◌≡◌, List, ◌++◌, length, take, drop, replicate}

module _ {A : Type 0} where
  -- vs at the start, and the rest of the buffer unchanged
  abbrev pub front : List A → List A → List A
  front vs d = vs ++ drop (length vs) d

  -- vs after the first `held` elements, and the buffer before and after them unchanged
  abbrev pub placed : ℕ → List A → List A → List A
  placed held vs d = take held d ++ vs ++ drop (held + length vs) d

  -- the first n elements, and z in every place after them
  abbrev pub wiped_from : ℕ → A → List A → List A
  wiped_from n z d = take n d ++ replicate (length d - n) z

-- a text written to the start of a buffer: where it ends, and the rest of the buffer unchanged
pub record Written (text buffer : List ℕ) (end : ℕ) (after : List ℕ) : Type 0 where
  pub ends : end ≡ length text
  pub holds : after ≡ front text buffer
