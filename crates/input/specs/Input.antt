-- How far standard input was read (RULES 12.5). No contract of a read can say which bytes come.
use Rattle.std.specs.Prelude.{ℕ, suc, ◌+◌, ◌-◌, ◌<◌, ◌≤◌, min, ◌≡◌, Bool, true, false, List, length, take, drop, ℤ, pos}
use Rattle.std.specs.Prelude.{negsuc, Some}
use Rattle.std.specs.declared.io.Error.{Error}
use Rattle.std.specs.IoError.{raw_os_error}
use Rattle.input.specs.declared.Input.{Input}

abbrev pub is_below0 : ℤ → Bool
is_below0 (pos k) = false
is_below0 (negsuc k) = true

-- how many bytes a read with this answer brought
abbrev pub came_by : ℤ → ℕ
came_by (pos k) = k
came_by (negsuc k) = 0

-- an answer that says that a read failed with this error: below 0, and minus the number of the system's error if that
-- is above 0
abbrev pub IsFailure : Error → ℤ → Type 0
IsFailure e z = (is_below0 z ≡ true) × ((k : ℕ) → raw_os_error e ≡ Some (pos (suc k)) → z ≡ negsuc k)

-- the error that such an answer says
abbrev pub FailedWith : ℤ → Error → Type 0
FailedWith z e = (k : ℕ) → z ≡ negsuc k → suc k < 2147483648 → raw_os_error e ≡ Some (pos (suc k))

-- before the first read
abbrev pub begun : Input
begun = record { count = 0; answer = pos 1 }

-- the place of the next byte, and how many bytes a read asks for if `more` are needed
abbrev pub start_of : Input → List ℕ → ℕ
start_of i buffer = min i.count (length buffer)

abbrev pub asked_of : Input → ℕ → List ℕ → ℕ
asked_of i more buffer = min more (length buffer - start_of i buffer)

-- what one more read leaves: the bytes before and after those asked for are unchanged, and as many bytes count as the
-- read says
pub record ReadOn (i : Input) (more : ℕ) (buffer : List ℕ) (r : Input) (after : List ℕ) : Type 0 where
  pub counted : r.count ≡ start_of i buffer + came_by r.answer
  pub most : came_by r.answer ≤ asked_of i more buffer
  pub long : length after ≡ length buffer
  pub before : take (start_of i buffer) after ≡ take (start_of i buffer) buffer
  pub behind : drop (start_of i buffer + asked_of i more buffer) after
      ≡ drop (start_of i buffer + asked_of i more buffer) buffer
